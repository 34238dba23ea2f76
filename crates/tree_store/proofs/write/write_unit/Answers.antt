use Rattle.std.proofs.Common.{length}
use Rattle.tree_store.proofs.Forgetting.{unit_forgotten_behind, unit_forgotten_kinds, unit_forgotten_sizes, unit_written}
use Rattle.tree_store.proofs.write.write_unit.Goals as goal

pub returns-clause-lends : goal.returns-clause-lends
returns-clause-lends g c = λ honest all. rw c.forget_unit.ensures
    (unit_written (g.D.World.outside c.args.disk.now) (g.D.World.outside c.write.new.self) c.args.size c.args.page.0 c.args.pages (length c.args.bytes.now) c.write.ensures.only.goes (c.write.ensures.tears honest) c.requires.room c.args.groups.now c.requires.sizes all)

pub returns-clause-kinds : goal.returns-clause-kinds
returns-clause-kinds g c = rw c.forget_unit.ensures (unit_forgotten_kinds c.args.page.0 c.args.pages c.args.groups.now)

pub returns-clause-sizes : goal.returns-clause-sizes
returns-clause-sizes g c = rw c.forget_unit.ensures (unit_forgotten_sizes c.args.page.0 c.args.pages c.args.size c.args.groups.now c.requires.sizes)

pub returns-clause-behind : goal.returns-clause-behind
returns-clause-behind g c = λ all. rw c.forget_unit.ensures (unit_forgotten_behind c.args.page.0 c.args.pages c.args.groups.now all)

pub returns-in_err-write-clause-behind : goal.returns-in_err-write-clause-behind
returns-in_err-write-clause-behind g c = λ all. rw c.forget_unit.ensures (unit_forgotten_behind c.args.page.0 c.args.pages c.args.groups.now all)

pub returns-in_err-write-clause-lends : goal.returns-in_err-write-clause-lends
returns-in_err-write-clause-lends g c = λ honest all. rw c.forget_unit.ensures
    (unit_written (g.D.World.outside c.args.disk.now) (g.D.World.outside c.write.new.self) c.args.size c.args.page.0 c.args.pages (length c.args.bytes.now) c.write.ensures.only.goes (c.write.ensures.tears honest) c.requires.room c.args.groups.now c.requires.sizes all)

pub returns-in_err-write-clause-kinds : goal.returns-in_err-write-clause-kinds
returns-in_err-write-clause-kinds g c = rw c.forget_unit.ensures (unit_forgotten_kinds c.args.page.0 c.args.pages c.args.groups.now)

pub returns-in_err-write-clause-sizes : goal.returns-in_err-write-clause-sizes
returns-in_err-write-clause-sizes g c = rw c.forget_unit.ensures (unit_forgotten_sizes c.args.page.0 c.args.pages c.args.size c.args.groups.now c.requires.sizes)
