use Rattle.std.proofs.Common.{◌≡◌, drop}
use Rattle.std.specs.Prelude.{find, bytes_eq}
use Rattle.table_lists.proofs.names.bound_named.Given as goal

abbrev pub invariant-loop-bound : goal.invariant-loop-bound
invariant-loop-bound l = find (λ b. bytes_eq b.name l.name) (drop l.bound-index l.names) ≡ find (λ b. bytes_eq b.name l.name) l.names
