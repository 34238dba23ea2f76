use Rattle.std.proofs.Common.{◌≡◌, drop}
use Rattle.std.specs.Prelude.{bytes_eq}
use Rattle.std.specs.List.{list_any}
use Rattle.table_lists.proofs.names.is_bound.Given as goal

abbrev pub invariant-loop-bound : goal.invariant-loop-bound
invariant-loop-bound l = list_any (λ b. bytes_eq b.name l.name) (drop l.bound-index l.names) ≡ list_any (λ b. bytes_eq b.name l.name) l.names
