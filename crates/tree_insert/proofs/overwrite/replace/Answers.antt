use Rattle.std.proofs.Common.{rules, arith, Option, ◌≡◌, ◌≤◌, ◌-◌, sym, subst, length}
use Rattle.ex_base.specs.Needs.{replaced_leaves}
use Rattle.ex_base.specs.declared.names.Area.TheVariants.{Page}
use Rattle.ex_base.specs.declared.names.PageNo.{PageNo}
use Rattle.trees.specs.Trees.{root_units}
use Rattle.trees.specs.Damage.{AnyPage, IsWalkFault, root_row_at}
use Rattle.trees.proofs.Sound.{sound_root}
use Rattle.ex_base.specs.Area.{NamesLeaf}
use Rattle.ex_base.proofs.Results.{if_err_handed}
use Rattle.tree_insert.proofs.SoundWays.{root_way}
use Rattle.tree_insert.proofs.ReplacedRuns.{enough_touched, taken_touched, spells_nothing}
use Rattle.tree_insert.proofs.RootEdit.{root_stays, nothing_turned}
use Rattle.tree_insert.proofs.overwrite.replace.Goals as goal

pub returns-then-is_empty-clause-spells : goal.returns-then-is_empty-clause-spells
returns-then-is_empty-clause-spells g c = λ told bytes spells used.
    let none : length c.args.given.now ≡ 0 = search rules in
    spells_nothing g.B.Ground c.args.blocks.now c.args.root.now bytes c.args.pos c.args.given.now none spells

pub returns-then-is_empty-clause-units : goal.returns-then-is_empty-clause-units
returns-then-is_empty-clause-units g c = λ told bytes spells used. nothing_turned g.B.Ground c.args.blocks.now (root_units (g.B.Ground.unit c.args.blocks.now) c.args.root.now)

pub replace_run-requires-clause-pages : goal.replace_run-requires-clause-pages
replace_run-requires-clause-pages g c =
    let some : 1 ≤ length c.args.given.now = search rules in
    enough_touched ((g.B.Ground.geometry c.args.blocks.now).fan - 1) (replaced_leaves (g.B.Ground.geometry c.args.blocks.now) (length c.args.given.now)) c.args.root.now.height (g.B.Ground.free c.args.blocks.now Page) (omega (arith, (g.B.Ground.geometry c.args.blocks.now).two)) (c.requires.pages some)

pub returns-in_err-made-clause-sound : goal.returns-in_err-made-clause-sound
returns-in_err-made-clause-sound g c =
    if_err_handed c.from_residual-in_err-made.result _ c.in_err-made.field-0.0 c.from_residual-in_err-made.ensures.1
    (λ told whole. sound_root (g.B.Ground.geometry c.args.blocks.now) (g.B.Ground.unit c.args.blocks.now) c.args.root.now c.in_err-made.field-0.0 whole
    (subst (λ (p : Option PageNo). IsWalkFault (g.B.Ground.geometry c.args.blocks.now) (g.B.Ground.unit c.args.blocks.now) c.args.root.now.height 2 (root_row_at c.args.root.now.size p) c.in_err-made.field-0.0) (sym c.in-Some.is) (c.in_err-made.ensures.fault told)))

pub returns-clause-old : goal.returns-clause-old
returns-clause-old g c = λ told bytes spells used. root_stays g.B.Ground c.args.blocks.now c.replace_run.new.blocks c.args.root.now bytes c.in_ok-made.ensures.extends used spells

pub returns-clause-pages : goal.returns-clause-pages
returns-clause-pages g c =
    taken_touched ((g.B.Ground.geometry c.args.blocks.now).fan - 1) (replaced_leaves (g.B.Ground.geometry c.args.blocks.now) (length c.args.given.now)) c.args.root.now.height (g.B.Ground.free c.args.blocks.now Page) (g.B.Ground.free c.replace_run.new.blocks Page)
    (omega (arith, (g.B.Ground.geometry c.args.blocks.now).two)) (omega (arith, c.in_ok-made.ensures.spent))

pub returns-clause-way : goal.returns-clause-way
returns-clause-way g c = λ told byte low high. root_way (g.B.Ground.geometry c.args.blocks.now) (g.B.Ground.unit c.args.blocks.now) AnyPage c.args.root.now c.in-Some.page byte byte c.in-Some.is (c.in_ok-made.ensures.way told byte low high)

pub returns-clause-ends : goal.returns-clause-ends
returns-clause-ends g c = λ told many end which some. root_way (g.B.Ground.geometry c.args.blocks.now) (g.B.Ground.unit c.args.blocks.now) (NamesLeaf (g.B.Ground.geometry c.args.blocks.now)) c.args.root.now c.in-Some.page (end - 1) end c.in-Some.is (c.in_ok-made.ensures.ends told end which some)
