use Rattle.std.proofs.Common.{rules, ◌≡◌, length}
use Rattle.std.proofs.lemmas.Result.{IfErr-weaker, IfOk-at_ok, on_ok_weaker}
use Rattle.trees.specs.Trees.{root_shape, root_units}
use Rattle.ex_base.specs.Sizes.{leaf_bytes}
use Rattle.ex_base.proofs.Results.{from_ok, if_ok_from, on_ok_from}
use Rattle.tree_insert.specs.declared.layout.Growth.TheVariants.{Append}
use Rattle.tree_insert.proofs.RootEdit.{root_stays, nothing_changes, nothing_turned, spells_end}
use Rattle.trees.proofs.Sound.{sound_root}
use Rattle.trees.proofs.Laid.{extends_refl}
use Rattle.tree_insert.proofs.edit.append.Goals as goal

pub returns-then-is_empty-clause-shape : goal.returns-then-is_empty-clause-shape
returns-then-is_empty-clause-shape g c = λ told bytes spells used.
    let none : length c.args.given.now ≡ 0 = search rules in
    nothing_changes Append (g.B.Ground.geometry c.args.blocks.now).fan (leaf_bytes (g.B.Ground.geometry c.args.blocks.now)) (root_shape (g.B.Ground.unit c.args.blocks.now) c.args.root.now) c.args.root.now.size (length c.args.given.now) none

pub returns-then-is_empty-clause-units : goal.returns-then-is_empty-clause-units
returns-then-is_empty-clause-units g c = λ told bytes spells used. nothing_turned g.B.Ground c.args.blocks.now (root_units (g.B.Ground.unit c.args.blocks.now) c.args.root.now)

pub returns-clause-spells : goal.returns-clause-spells
returns-clause-spells g c = if_ok_from c.grow.result _ (λ made is told bytes spells used. spells_end g.B.Ground c.args.blocks.now c.grow.new.blocks c.args.root.now made bytes c.args.given.now c.requires.ready told spells (IfOk-at_ok _ is c.grow.ensures.edited told bytes spells used).spells)

pub returns-clause-shape : goal.returns-clause-shape
returns-clause-shape g c = if_ok_from c.grow.result _ (λ made is told bytes spells used. (IfOk-at_ok _ is c.grow.ensures.edited told bytes spells used).shape)

pub returns-clause-units : goal.returns-clause-units
returns-clause-units g c = if_ok_from c.grow.result _ (λ made is told bytes spells used. (IfOk-at_ok _ is c.grow.ensures.edited told bytes spells used).units)

pub returns-clause-old : goal.returns-clause-old
returns-clause-old g c =
    on_ok_from c.grow.result _ (λ made is told bytes spells used. root_stays g.B.Ground c.args.blocks.now c.grow.new.blocks c.args.root.now bytes (from_ok c.grow.result made _ is c.grow.ensures.extends) used spells)

pub returns-clause-sound : goal.returns-clause-sound
returns-clause-sound g c = IfErr-weaker c.grow.result _ _ (λ f h told whole. sound_root (g.B.Ground.geometry c.args.blocks.now) (g.B.Ground.unit c.args.blocks.now) c.args.root.now f whole (h told)) c.grow.ensures.fault

pub returns-clause-way : goal.returns-clause-way
returns-clause-way g c = on_ok_weaker c.grow.result (λ way told some. way told) c.grow.ensures.way

pub returns-then-is_empty-clause-extends : goal.returns-then-is_empty-clause-extends
returns-then-is_empty-clause-extends g c = extends_refl g.B.Ground c.args.blocks.now

pub returns-then-is_empty-clause-leads : goal.returns-then-is_empty-clause-leads
returns-then-is_empty-clause-leads g c = g.B.Ground.leads_refl c.args.blocks.now

pub grow-requires-clause-root : goal.grow-requires-clause-root
grow-requires-clause-root g c = c.requires.root

pub grow-requires-clause-ready : goal.grow-requires-clause-ready
grow-requires-clause-ready g c = c.requires.ready

pub grow-requires-clause-limit : goal.grow-requires-clause-limit
grow-requires-clause-limit g c = c.requires.limit

pub returns-clause-cause : goal.returns-clause-cause
returns-clause-cause g c = c.grow.ensures.cause

pub returns-clause-leads : goal.returns-clause-leads
returns-clause-leads g c = c.grow.ensures.leads

pub returns-clause-extends : goal.returns-clause-extends
returns-clause-extends g c = c.grow.ensures.extends

pub returns-clause-fault : goal.returns-clause-fault
returns-clause-fault g c = c.grow.ensures.fault

pub returns-clause-size : goal.returns-clause-size
returns-clause-size g c = c.grow.ensures.size

pub returns-clause-leaves : goal.returns-clause-leaves
returns-clause-leaves g c = c.grow.ensures.leaves

pub returns-clause-pages : goal.returns-clause-pages
returns-clause-pages g c = c.grow.ensures.pages
