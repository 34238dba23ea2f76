use Rattle.std.proofs.Common.{refl}
use Rattle.tree_store.specs.Stored.{unit_bytes}
use Rattle.volume_port.proofs.Moving.{meta_moves}
use Rattle.volume_port.proofs.WorkingRows.{image_put, images_put}
use Rattle.volume_port.proofs.pages.VolumePortPages.put.Goals as goal

pub returns-clause-put : goal.returns-clause-put
returns-clause-put g c =
    let s = c.args.self.now in
    let unit = unit_bytes s.store.geometry (g.D.World.outside s.store.disk.now).disk in
    record {
      image = λ told. image_put s.store.geometry s.meta.now c.edit.new.self unit c.args.page.0 c.args.image.now c.requires.page c.in_ok-edit.ensures.ok;
      images = λ p differ. images_put s.store.geometry s.meta.now c.edit.new.self unit c.args.page.0 p _ differ c.in_ok-edit.ensures.ok;
      units = refl;
      used = refl;
      refs = refl;
      held = refl;
      free = refl;
    }

pub returns-clause-leads : goal.returns-clause-leads
returns-clause-leads g c =
    let s = c.args.self.now in
    meta_moves _ s.store s.meta _ s.pages s.room c.args.page.0 c.args.image.now refl c.requires.held c.in_ok-edit.ensures.ok
