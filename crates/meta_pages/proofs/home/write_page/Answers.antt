use Rattle.std.proofs.Common.{◌*◌, length}
use Rattle.disk_model.specs.Changes.{changes_write}
use Rattle.buffer_groups.proofs.Kept.{kept_groups, sizes_forgotten}
use Rattle.buffer_groups.proofs.GroupLists.{kinds_forgotten}
use Rattle.meta_pages.proofs.Writing.{torn_page, from_forgotten}
use Rattle.meta_pages.proofs.home.write_page.Goals as goal

pub returns-clause-changes : goal.returns-clause-changes
returns-clause-changes g c =
    changes_write (c.args.page.0 * c.args.size) c.args.size c.write.ensures.only
    (λ honest. torn_page (g.D.World.outside c.args.disk.now) (g.D.World.outside c.write.new.self) (c.args.page.0 * c.args.size) c.args.size (length c.args.bytes.now) c.requires.whole (c.write.ensures.tears honest))

pub returns-clause-lends : goal.returns-clause-lends
returns-clause-lends g c = λ honest all.
    rw c.forget.ensures
    (kept_groups (g.D.World.outside c.args.disk.now) (g.D.World.outside c.write.new.self) c.args.size c.args.page.0 c.write.ensures.only.goes
    (torn_page (g.D.World.outside c.args.disk.now) (g.D.World.outside c.write.new.self) (c.args.page.0 * c.args.size) c.args.size (length c.args.bytes.now) c.requires.whole (c.write.ensures.tears honest))
    c.args.groups.now c.requires.sizes all)

pub returns-clause-sizes : goal.returns-clause-sizes
returns-clause-sizes g c = rw c.forget.ensures (sizes_forgotten c.args.page.0 c.args.size c.args.groups.now c.requires.sizes)

pub returns-clause-kinds : goal.returns-clause-kinds
returns-clause-kinds g c = rw c.forget.ensures (kinds_forgotten c.args.page.0 c.args.groups.now)

pub returns-clause-from : goal.returns-clause-from
returns-clause-from g c = λ low all. rw c.forget.ensures (from_forgotten low c.args.page.0 c.args.groups.now all)
