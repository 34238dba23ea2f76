use Rattle.disk_model.specs.Calls.{Wrote}
use Rattle.std.proofs.Common.{◌*◌, ◌∙◌, subst, ℕ, None, List, refl, arith}
use Rattle.buffer_groups.proofs.GroupLists.{same_count}
use Rattle.tree_store.proofs.Forgetting.{groups_brought, groups_not_brought}
use Rattle.tree_store.proofs.Framing.{forgotten_lacks, written_held, untold_held, whole_at}
use Rattle.tree_store.proofs.write.write_node.Goals as goal

pub put-requires-clause-absent : goal.put-requires-clause-absent
put-requires-clause-absent g c = forgotten_lacks c.args.page.0 c.args.index c.args.groups.now c.write_unit.new.groups c.write_unit.ensures.forgotten c.requires.index

pub put-requires-clause-whole : goal.put-requires-clause-whole
put-requires-clause-whole g c =
    whole_at c.args.size c.args.index c.write_unit.new.groups c.args.image _ refl (omega (arith, c.requires.index, same_count c.args.groups.now c.write_unit.new.groups c.write_unit.ensures.kinds)) c.write_unit.ensures.sizes c.requires.whole

pub returns-in_err-put-clause-lends : goal.returns-in_err-put-clause-lends
returns-in_err-put-clause-lends g c = λ honest all.
    let a = g.D.World.outside c.args.disk.now in
    let b = g.D.World.outside c.write_unit.new.disk in
    let wrote = subst (λ (l : List ℕ). Wrote (c.args.page.0 * c.args.size) l a b) c.as_slice.ensures c.in_ok-write_unit.ensures.written in
    let held = written_held a b c.args.size c.args.page.0 c.args.image (g.D.World.is_world c.args.disk.now) c.write_unit.ensures.changes.only.goes wrote c.requires.whole c.requires.fits in
    (c.put.ensures.keeps b.disk c.args.size c.write_unit.ensures.sizes held).lends (c.write_unit.ensures.lends honest all)

pub returns-clause-lends : goal.returns-clause-lends
returns-clause-lends g c = λ honest all.
    let a = g.D.World.outside c.args.disk.now in
    let b = g.D.World.outside c.write_unit.new.disk in
    let wrote = subst (λ (l : List ℕ). Wrote (c.args.page.0 * c.args.size) l a b) c.as_slice.ensures c.in_ok-write_unit.ensures.written in
    let held = written_held a b c.args.size c.args.page.0 c.args.image (g.D.World.is_world c.args.disk.now) c.write_unit.ensures.changes.only.goes wrote c.requires.whole c.requires.fits in
    (c.put.ensures.keeps b.disk c.args.size c.write_unit.ensures.sizes held).lends (c.write_unit.ensures.lends honest all)

pub returns-in_err-put-clause-sizes : goal.returns-in_err-put-clause-sizes
returns-in_err-put-clause-sizes g c =
    (c.put.ensures.keeps None c.args.size c.write_unit.ensures.sizes (untold_held c.args.size c.args.page.0 c.args.image)).sizes c.args.size c.write_unit.ensures.sizes

pub returns-clause-sizes : goal.returns-clause-sizes
returns-clause-sizes g c =
    (c.put.ensures.keeps None c.args.size c.write_unit.ensures.sizes (untold_held c.args.size c.args.page.0 c.args.image)).sizes c.args.size c.write_unit.ensures.sizes

pub returns-in_err-put-clause-kinds : goal.returns-in_err-put-clause-kinds
returns-in_err-put-clause-kinds g c =
    (c.put.ensures.keeps None c.args.size c.write_unit.ensures.sizes (untold_held c.args.size c.args.page.0 c.args.image)).kinds ∙ c.write_unit.ensures.kinds

pub returns-clause-kinds : goal.returns-clause-kinds
returns-clause-kinds g c =
    (c.put.ensures.keeps None c.args.size c.write_unit.ensures.sizes (untold_held c.args.size c.args.page.0 c.args.image)).kinds ∙ c.write_unit.ensures.kinds

pub returns-in_err-put-clause-behind : goal.returns-in_err-put-clause-behind
returns-in_err-put-clause-behind g c = λ all.
    groups_not_brought c.write_unit.new.groups c.put.new.self c.args.index c.args.page.0 (omega (arith, c.requires.index, same_count c.args.groups.now c.write_unit.new.groups c.write_unit.ensures.kinds)) c.in_err-put.ensures.err (c.write_unit.ensures.behind all)

pub returns-clause-behind : goal.returns-clause-behind
returns-clause-behind g c = λ all.
    groups_brought None c.write_unit.new.groups c.put.new.self c.args.index c.args.page.0 (omega (arith, c.requires.index, same_count c.args.groups.now c.write_unit.new.groups c.write_unit.ensures.kinds)) c.requires.page
    (c.in_ok-put.ensures.ok None c.args.size c.write_unit.ensures.sizes (untold_held c.args.size c.args.page.0 c.args.image)) (c.write_unit.ensures.behind all)

pub returns-clause-framed : goal.returns-clause-framed
returns-clause-framed g c = (c.in_ok-put.ensures.ok None c.args.size c.write_unit.ensures.sizes (untold_held c.args.size c.args.page.0 c.args.image)).has
