use Rattle.std.proofs.Common.{ℕ, ◌+◌, ◌-◌, ◌*◌, ◌<◌, length}
use Rattle.ex_base.specs.Fields.{number_at}
use Rattle.slotted_pages.proofs.reads.first_vacant.Given as goal

abbrev pub invariant-loop-slot : goal.invariant-loop-slot
invariant-loop-slot l = (k : ℕ) → k < l.slot → 0 < number_at 2 l.page (length l.page - 4 * (k + 1) + 2)
