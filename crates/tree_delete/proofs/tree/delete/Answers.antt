use Rattle.std.proofs.Common.{[], Option, sym, subst, refl}
use Rattle.std.proofs.lemmas.Result.{IfErr-weaker, on_ok_weaker}
use Rattle.trees.specs.Trees.{root_units}
use Rattle.ex_base.specs.declared.names.PageNo.{PageNo}
use Rattle.ex_base.proofs.Results.{from_ok, on_ok_from}
use Rattle.trees.specs.Damage.{IsSoundEnd, IsWalkFault, root_row_at}
use Rattle.trees.proofs.Sound.{sound_root}
use Rattle.tree_delete.proofs.TopLaws.{same_units, all_gone, old_spells}
use Rattle.tree_delete.specs.Beside.{IsSoundBeside}
use Rattle.tree_delete.proofs.tree.delete.Goals as goal

pub returns-then-len-eq0-clause-units : goal.returns-then-len-eq0-clause-units
returns-then-len-eq0-clause-units g c = λ told bytes spells used. same_units g.B.Ground c.args.blocks.now (root_units (g.B.Ground.unit c.args.blocks.now) c.args.root.now)

pub returns-then-len-root-clause-spells : goal.returns-then-len-root-clause-spells
returns-then-len-root-clause-spells g c = λ told bytes spells used.
    all_gone g.B.Ground c.args.blocks.now c.args.root.now _ c.in-Some.page bytes c.args.pos c.args.len c.requires.ready told c.in-Some.is c.requires.range c.if-len-root.true refl refl refl spells used

pub returns-clause-old : goal.returns-clause-old
returns-clause-old g c =
    on_ok_from c.without.result _ (λ made is told bytes spells used. old_spells g.B.Ground c.args.blocks.now c.without.new.blocks c.args.root.now bytes (from_ok c.without.result made _ is c.without.ensures.extends) spells used)

pub returns-clause-sound : goal.returns-clause-sound
returns-clause-sound g c =
    IfErr-weaker c.without.result _ _ (λ f h told whole.
    sound_root (g.B.Ground.geometry c.args.blocks.now) (g.B.Ground.unit c.args.blocks.now) c.args.root.now f whole
    (subst (λ (p : Option PageNo). IsWalkFault (g.B.Ground.geometry c.args.blocks.now) (g.B.Ground.unit c.args.blocks.now) c.args.root.now.height 2 (root_row_at c.args.root.now.size p) f) (sym c.in-Some.is) (h told))) c.without.ensures.fault

pub returns-clause-way : goal.returns-clause-way
returns-clause-way g c =
    on_ok_weaker c.without.result (λ way told many less end which.
    subst (λ (p : Option PageNo). IsSoundEnd (g.B.Ground.geometry c.args.blocks.now) (g.B.Ground.unit c.args.blocks.now) c.args.root.now.height 2 (root_row_at c.args.root.now.size p) end) (sym c.in-Some.is) (way told end which)) c.without.ensures.way

pub returns-clause-beside : goal.returns-clause-beside
returns-clause-beside g c =
    on_ok_weaker c.without.result (λ beside told many less.
    subst (λ (p : Option PageNo). IsSoundBeside (g.B.Ground.geometry c.args.blocks.now) (g.B.Ground.unit c.args.blocks.now) c.args.root.now.height 2 [] (root_row_at c.args.root.now.size p) [] c.args.pos c.args.len) (sym c.in-Some.is) (beside told)) c.without.ensures.beside
