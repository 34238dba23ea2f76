use Rattle.std.proofs.Common.{refl, ap, Option, List, ℕ}
use Rattle.tree_store.specs.Stored.{unit_bytes}
use Rattle.tree_store.proofs.Forgetting.{groups_brought, groups_not_brought}
use Rattle.volume_port.specs.Ported.{image_over}
use Rattle.volume_port.proofs.ReadingAlone.{others_at, told_along}
use Rattle.volume_port.proofs.reading_port.ReadingPort.bring.Goals as goal

pub returns-clause-kept : goal.returns-clause-kept
returns-clause-kept g c =
    let s = c.args.self.now in
    let brought = c.bring.ensures in
    record {
      units = ap (unit_bytes s.geometry) brought.only.nothing.disk;
      images = ap (λ (held : Option (List ℕ)). image_over s.geometry s.meta.now (unit_bytes s.geometry held)) brought.only.nothing.disk;
      used = refl;
      refs = refl;
      held = refl;
      free = refl;
      touched = refl;
      leads = record {
        disk = refl;
        frames = refl;
        room = refl;
        index = refl;
        geometry = refl;
        meta = refl;
        pages = refl;
        only = brought.only;
        sizes = brought.keeps.sizes;
        kinds = brought.keeps.kinds;
        others = others_at s.groups.now s.index c.in_ok-bring.ensures.ok.after c.in_ok-bring.ensures.ok.groups;
        behind = groups_brought (g.D.World.outside s.disk.now).disk s.groups.now _ s.index c.args.page.0 c.requires.ready.group c.requires.page.0 c.in_ok-bring.ensures.ok;
        told = told_along (g.D.World.outside s.disk.now) _ s.groups.now _ brought.only brought.keeps;
      };
    }

pub returns-in_err-bring-clause-kept : goal.returns-in_err-bring-clause-kept
returns-in_err-bring-clause-kept g c =
    let s = c.args.self.now in
    let brought = c.bring.ensures in
    record {
      units = ap (unit_bytes s.geometry) brought.only.nothing.disk;
      images = ap (λ (held : Option (List ℕ)). image_over s.geometry s.meta.now (unit_bytes s.geometry held)) brought.only.nothing.disk;
      used = refl;
      refs = refl;
      held = refl;
      free = refl;
      touched = refl;
      leads = record {
        disk = refl;
        frames = refl;
        room = refl;
        index = refl;
        geometry = refl;
        meta = refl;
        pages = refl;
        only = brought.only;
        sizes = brought.keeps.sizes;
        kinds = brought.keeps.kinds;
        others = others_at s.groups.now s.index c.in_err-bring.ensures.err.after c.in_err-bring.ensures.err.groups;
        behind = groups_not_brought s.groups.now _ s.index c.args.page.0 c.requires.ready.group c.in_err-bring.ensures.err;
        told = told_along (g.D.World.outside s.disk.now) _ s.groups.now _ brought.only brought.keeps;
      };
    }
