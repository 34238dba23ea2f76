use Rattle.std.proofs.Common.{◌≡◌, drop}
use Rattle.std.specs.Prelude.{bytes_eq}
use Rattle.std.specs.List.{list_any}
use Rattle.table_lists.proofs.names.is_group.Given as goal

abbrev pub invariant-loop-group : goal.invariant-loop-group
invariant-loop-group l = list_any (λ b. bytes_eq b.name l.name) (drop l.group-index l.groups) ≡ list_any (λ b. bytes_eq b.name l.name) l.groups
