use Rattle.std.proofs.Common.{◌≡◌, ℕ, ◌+◌, ◌-◌, ◌*◌, ◌<◌, ◌≤◌, length}
use Rattle.ex_base.specs.Fields.{number_at}
use Rattle.slotted_pages.proofs.reads.count_without.Given as goal

abbrev pub invariant-loop-count : goal.invariant-loop-count
invariant-loop-count l = record {
  within : l.count ≤ l.n;
  vacant : (k : ℕ) → l.count ≤ k → k < l.n → (k ≡ l.slot → ⊥) → number_at 2 l.page (length l.page - 4 * (k + 1) + 2) ≡ 0;
}

abbrev pub decreases-loop-count : goal.decreases-loop-count
decreases-loop-count l = l.count
