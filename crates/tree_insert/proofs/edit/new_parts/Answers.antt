use Rattle.std.proofs.Common.{rules, ◌-◌, ◌≡◌, None, ap, sym, subst, Option, arith, ◌≤◌, ◌+◌, ◌*◌, length, OnOk, IfErr}
use Rattle.std.proofs.lemmas.Result.{IfOk-at_ok, on_ok_weaker, IfOk-weaker}
use Rattle.trees.specs.Trees.{RootSpells, root_units}
use Rattle.trees.specs.Made.{AreUsed}
use Rattle.tree_insert.specs.Edited.{GrewRoot}
use Rattle.ex_base.specs.Area.{NamesLeaf}
use Rattle.ex_base.proofs.Results.{if_ok_from, on_ok_from, if_ok_on_ok}
use Rattle.tree_insert.proofs.SoundWays.{root_way, no_root_way}
use Rattle.tree_insert.proofs.RootEdit.{root_of, tree_root, first_root, none_start}
use Rattle.ex_base.specs.declared.names.PageNo.{PageNo}
use Rattle.ex_base.specs.declared.names.Area.TheVariants.{Page, Segment}
use Rattle.ex_base.specs.Needs.{growth_leaves}
use Rattle.tree_insert.specs.Need.{counted}
use Rattle.trees.specs.Damage.{IsWalkFault, root_row_at}
use Rattle.tree_insert.proofs.edit.new_parts.Goals as goal

pub returns-in_default-clause-grew : goal.returns-in_default-clause-grew
returns-in_default-clause-grew g c =
    let none : c.args.root.now.page ≡ None = search rules in
    let low = c.requires.root.none none in
    if_ok_from c.first_leaves.result _ (λ made is told bytes spells used l same.
    first_root g.B.Ground c.args.blocks.now c.first_leaves.new.blocks c.args.growth l c.args.root.now made.items bytes c.args.pos c.args.given.now none low.1 same (none_start c.args.growth c.args.pos c.args.root.now.size low.0 c.requires.spot) c.requires.given spells
    (IfOk-at_ok _ is c.first_leaves.ensures.grew told))

pub returns-clause-grew : goal.returns-clause-grew
returns-clause-grew g c =
    if_ok_from c.grow_root.result _ (λ made is told bytes spells used l same.
    subst (λ r. RootSpells (g.B.Ground.geometry c.args.blocks.now) (g.B.Ground.unit c.args.blocks.now) r bytes → AreUsed (g.B.Ground.used c.args.blocks.now) (root_units (g.B.Ground.unit c.args.blocks.now) r) → GrewRoot g.B.Ground c.args.blocks.now c.grow_root.new.blocks c.args.growth l r made.items bytes c.args.pos c.args.given.now)
    (sym (ap (λ p. root_of c.args.root.now.height p c.args.root.now.size) c.in-Some.is))
    (λ spells_now used_now. tree_root g.B.Ground c.args.blocks.now c.grow_root.new.blocks c.args.growth l c.args.root.now.height c.args.root.now.size c.in-Some.page made.items bytes c.args.pos c.args.given.now same c.requires.given spells_now used_now
    (λ held. IfOk-at_ok _ is c.grow_root.ensures.grew told l same held)) spells used)

pub returns-in_default-clause-way : goal.returns-in_default-clause-way
returns-in_default-clause-way g c =
    let none : c.args.root.now.page ≡ None = search rules in
    on_ok_from c.first_leaves.result _ (λ made is told. no_root_way (g.B.Ground.geometry c.args.blocks.now) (g.B.Ground.unit c.args.blocks.now) (NamesLeaf (g.B.Ground.geometry c.args.blocks.now)) c.args.root.now (c.args.pos - 1) (c.args.pos - 1) none)

pub returns-clause-way : goal.returns-clause-way
returns-clause-way g c = on_ok_weaker c.grow_root.result (λ way told. root_way (g.B.Ground.geometry c.args.blocks.now) (g.B.Ground.unit c.args.blocks.now) (NamesLeaf (g.B.Ground.geometry c.args.blocks.now)) c.args.root.now c.in-Some.page (c.args.pos - 1) (c.args.pos - 1) c.in-Some.is (way told)) c.grow_root.ensures.way

pub grow_root-requires-clause-free : goal.grow_root-requires-clause-free
grow_root-requires-clause-free g c = subst (λ (page : Option PageNo). growth_leaves (g.B.Ground.geometry c.args.blocks.now) (counted (g.B.Ground.geometry c.args.blocks.now) page (length c.args.given.now)) ≤ g.B.Ground.free c.args.blocks.now Segment) c.in-Some.is c.requires.free

pub grow_root-requires-clause-pages : goal.grow_root-requires-clause-pages
grow_root-requires-clause-pages g c = subst (λ (page : Option PageNo). growth_leaves (g.B.Ground.geometry c.args.blocks.now) (counted (g.B.Ground.geometry c.args.blocks.now) page (length c.args.given.now)) + c.args.root.now.height * (2 * (g.B.Ground.geometry c.args.blocks.now).fan) ≤ (g.B.Ground.geometry c.args.blocks.now).fan * g.B.Ground.free c.args.blocks.now Page) c.in-Some.is c.requires.pages

pub grow_root-requires-clause-leaf : goal.grow_root-requires-clause-leaf
grow_root-requires-clause-leaf g c = c.requires.root.leaf

pub returns-clause-paid : goal.returns-clause-paid
returns-clause-paid g c = IfOk-weaker c.grow_root.result _ _ (λ made paid. subst (λ (page : Option PageNo). (g.B.Ground.geometry c.args.blocks.now).fan * g.B.Ground.free c.args.blocks.now Page + length made.items ≤ growth_leaves (g.B.Ground.geometry c.args.blocks.now) (counted (g.B.Ground.geometry c.args.blocks.now) page (length c.args.given.now)) + c.args.root.now.height * (2 * (g.B.Ground.geometry c.args.blocks.now).fan) + (g.B.Ground.geometry c.args.blocks.now).fan * g.B.Ground.free c.grow_root.new.blocks Page) (sym c.in-Some.is) (omega (arith, paid.count, paid.paid))) c.grow_root.ensures.paid

pub returns-clause-fewer : goal.returns-clause-fewer
returns-clause-fewer g c = if_ok_on_ok c.grow_root.result _ _ (λ made paid. paid.fewer) c.grow_root.ensures.paid

pub returns-clause-leaves : goal.returns-clause-leaves
returns-clause-leaves g c = subst (λ (page : Option PageNo). OnOk c.grow_root.result (g.B.Ground.free c.args.blocks.now Segment ≤ g.B.Ground.free c.grow_root.new.blocks Segment + growth_leaves (g.B.Ground.geometry c.args.blocks.now) (counted (g.B.Ground.geometry c.args.blocks.now) page (length c.args.given.now)))) (sym c.in-Some.is) c.grow_root.ensures.leaves

pub returns-clause-sum : goal.returns-clause-sum
returns-clause-sum g c = IfOk-weaker c.grow_root.result _ _ (λ made grown. omega (arith, grown.sum)) c.grow_root.ensures.grown

pub returns-clause-sizes : goal.returns-clause-sizes
returns-clause-sizes g c = IfOk-weaker c.grow_root.result _ _ (λ made grown. grown.sizes) c.grow_root.ensures.grown

pub returns-clause-some : goal.returns-clause-some
returns-clause-some g c = IfOk-weaker c.grow_root.result _ _ (λ made grown. grown.some) c.grow_root.ensures.grown

pub returns-clause-fault : goal.returns-clause-fault
returns-clause-fault g c = subst (λ (page : Option PageNo). IfErr c.grow_root.result (λ fault. g.B.Ground.tells c.args.blocks.now → IsWalkFault (g.B.Ground.geometry c.args.blocks.now) (g.B.Ground.unit c.args.blocks.now) c.args.root.now.height 2 (root_row_at c.args.root.now.size page) fault)) (sym c.in-Some.is) c.grow_root.ensures.fault

pub returns-in_default-clause-sizes : goal.returns-in_default-clause-sizes
returns-in_default-clause-sizes g c = IfOk-weaker c.first_leaves.result _ _ (λ made grown. grown.sizes) c.first_leaves.ensures.grown

pub returns-in_default-clause-some : goal.returns-in_default-clause-some
returns-in_default-clause-some g c = IfOk-weaker c.first_leaves.result _ _ (λ made grown. grown.some) c.first_leaves.ensures.grown

pub returns-in_default-clause-fewer : goal.returns-in_default-clause-fewer
returns-in_default-clause-fewer g c = on_ok_weaker c.first_leaves.result (λ same. omega (arith, same)) c.first_leaves.ensures.pages
