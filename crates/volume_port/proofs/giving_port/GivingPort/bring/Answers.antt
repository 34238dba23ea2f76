use Rattle.std.proofs.Common.{refl, ap, arith}
use Rattle.tree_store.specs.Stored.{unit_bytes}
use Rattle.tree_store.proofs.Forgetting.{groups_brought, groups_not_brought}
use Rattle.tree_store.proofs.Reading.{range_at, read_leads}
use Rattle.volume_port.proofs.ReadingAlone.{told_along}
use Rattle.volume_port.proofs.giving_port.GivingPort.bring.Goals as goal

pub bring-requires-clause-range : goal.bring-requires-clause-range
bring-requires-clause-range g c =
    let s = c.args.self.now in
    range_at s.geometry c.args.page.0 _ s.index s.groups.now _ refl c.requires.ready.fits.group c.requires.page c.requires.ready.fits.frames c.requires.ready.fits.disk

pub returns-clause-kept : goal.returns-clause-kept
returns-clause-kept g c =
    let s = c.args.self.now in
    let brought = c.bring.ensures in
    record {
      units = ap (unit_bytes s.geometry) brought.only.nothing.disk;
      images = refl;
      used = refl;
      refs = refl;
      held = refl;
      free = refl;
      touched = refl;
      leads = record {
        store = read_leads g.D.World.outside s.disk _ s.units s.groups _ s.index s.geometry refl refl brought.only brought.keeps
            (groups_brought (g.D.World.outside s.disk.now).disk s.groups.now _ s.index c.args.page.0 c.requires.ready.fits.group c.requires.page.0 c.in_ok-bring.ensures.ok);
        only = brought.only;
        told = told_along (g.D.World.outside s.disk.now) _ s.groups.now _ brought.only brought.keeps;
        fewer = λ p is. is;
        refs = λ p. omega arith;
        pages = refl;
        kept = refl;
        logged = λ p held is. is;
      };
    }

pub returns-in_err-bring-clause-kept : goal.returns-in_err-bring-clause-kept
returns-in_err-bring-clause-kept g c =
    let s = c.args.self.now in
    let brought = c.bring.ensures in
    record {
      units = ap (unit_bytes s.geometry) brought.only.nothing.disk;
      images = refl;
      used = refl;
      refs = refl;
      held = refl;
      free = refl;
      touched = refl;
      leads = record {
        store = read_leads g.D.World.outside s.disk _ s.units s.groups _ s.index s.geometry refl refl brought.only brought.keeps
            (groups_not_brought s.groups.now _ s.index c.args.page.0 c.requires.ready.fits.group c.in_err-bring.ensures.err);
        only = brought.only;
        told = told_along (g.D.World.outside s.disk.now) _ s.groups.now _ brought.only brought.keeps;
        fewer = λ p is. is;
        refs = λ p. omega arith;
        pages = refl;
        kept = refl;
        logged = λ p held is. is;
      };
    }
