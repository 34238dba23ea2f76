use Rattle.std.proofs.Common.{ap}
use Rattle.meta_pages.specs.Overlays.{Overlays}
use Rattle.meta_pages.proofs.ImageRows.{image_as_long}
use Rattle.meta_pages.proofs.meta.Meta.entry_at.Goals as goal

pub entry_for-requires : goal.entry_for-requires
entry_for-requires c =
    let size = ap (λ (o : Overlays). o.geometry.page_size) c.self.view_is in
    image_as_long (λ before. before.now) c.committed_at.result c.self.inside.geometry c.self.inside.working.items c.deref.result.now c.args.index c.in-Some.page _ c.in-Some.image.now c.self.invariant.working_pages c.deref.ensures.value size c.in-Some.ensures c.committed_at.ensures.len
