use Rattle.std.proofs.Common.{◌≡◌, ◌≤◌, ◌<◌, ℕ, None}
use Rattle.std.specs.Prelude.{slice_index_or}
use Rattle.file_bodies.proofs.page.first_live.Given as goal

abbrev pub invariant-loop-slot : goal.invariant-loop-slot
invariant-loop-slot l = (k : ℕ) → l.from ≤ k → k < l.slot → slice_index_or l.view.page.slots k None ≡ None
