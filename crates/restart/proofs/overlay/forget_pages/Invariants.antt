use Rattle.std.proofs.Common.{◌≡◌}
use Rattle.meta_pages.specs.Overlays.{committed_image}
use Rattle.restart.proofs.Adopted.{AreFreed}
use Rattle.restart.proofs.overlay.forget_pages.Given as goal

abbrev pub invariant-loop-page : goal.invariant-loop-page
invariant-loop-page l =
    AreFreed l.pages l.page-index (committed_image l.fn.meta) (committed_image l.meta) × (l.meta.geometry ≡ l.fn.meta.geometry) × (l.meta.working ≡ l.fn.meta.working)
