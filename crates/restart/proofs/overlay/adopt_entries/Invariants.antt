use Rattle.std.proofs.Common.{◌≡◌}
use Rattle.meta_pages.specs.Overlays.{committed_image}
use Rattle.restart.proofs.Adopted.{AreOver}
use Rattle.restart.proofs.overlay.adopt_entries.Given as goal

abbrev pub invariant-loop-entry : goal.invariant-loop-entry
invariant-loop-entry l =
    AreOver l.entry-items l.entry-index (committed_image l.fn.meta) (committed_image l.meta) × (l.meta.geometry ≡ l.fn.meta.geometry) × (l.meta.working ≡ l.fn.meta.working)
