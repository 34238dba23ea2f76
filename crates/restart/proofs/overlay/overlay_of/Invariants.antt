use Rattle.std.proofs.Common.{◌≡◌, []}
use Rattle.meta_pages.specs.Overlays.{committed_image}
use Rattle.restart.proofs.Adopted.{AreLogged}
use Rattle.restart.proofs.overlay.overlay_of.Given as goal

abbrev pub invariant-loop-item : goal.invariant-loop-item
invariant-loop-item l = AreLogged l.records l.item-index (committed_image l.meta) × (l.meta.geometry ≡ l.geometry) × (l.meta.working ≡ [])
