use Rattle.std.proofs.Common.{◌<◌, false, length, None, refl, arith}
use Rattle.tree_store.specs.Stored.{unit_bytes}
use Rattle.volume_port.proofs.Moving.{give_moves, held_here, held_other, row_here}
use Rattle.volume_port.proofs.WorkingRows.{images_put}
use Rattle.volume_port.proofs.pages.VolumePortPages.give_page.Goals as goal

pub returns-clause-given : goal.returns-clause-given
returns-clause-given g c =
    let s = c.args.self.now in
    let page = c.args.page.0 in
    let unit = unit_bytes s.store.geometry (g.D.World.outside s.store.disk.now).disk in
    let inside : page < length s.pages.now = omega (arith, c.requires.page.1, c.requires.ready.held_len) in
    record {
      gone = held_here s.pages.now c.give.new.self page false c.give.ensures inside;
      held = λ p differ. held_other s.pages.now c.give.new.self page false c.give.ensures p differ;
      images = λ p differ. images_put s.store.geometry s.meta.now c.gone.new.self unit page p None differ c.in_ok-gone.ensures.ok;
      used = λ p differ. refl;
      units = λ p differ. refl;
      refs = refl;
      pages = omega arith;
      leaves = refl;
    }

pub returns-clause-leads : goal.returns-clause-leads
returns-clause-leads g c =
    let s = c.args.self.now in
    let page = c.args.page.0 in
    let inside : page < length s.pages.now = omega (arith, c.requires.page.1, c.requires.ready.held_len) in
    give_moves _ s.store s.meta _ s.pages _ s.room page refl refl c.requires.other inside c.in_ok-gone.ensures.ok c.give.ensures

pub returns-clause-noted : goal.returns-clause-noted
returns-clause-noted g c = row_here c.args.self.now.meta.now c.gone.new.self c.args.page.0 None c.in_ok-gone.ensures.ok
