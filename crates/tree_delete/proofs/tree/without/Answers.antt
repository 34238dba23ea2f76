use Rattle.std.proofs.Common.{[], ◌∷◌, inl, inr, arith, ◌≤◌, ◌+◌, ◌*◌, ap, sym, subst, refl, length}
use Rattle.std.proofs.lemmas.Result.{IfOk-at_ok}
use Rattle.ex_base.specs.declared.geometry.Geometry.{Geometry}
use Rattle.ex_base.specs.declared.names.Area.TheVariants.{Page}
use Rattle.ex_base.proofs.Results.{from_ok, if_ok_from, on_ok_from, if_err_handed}
use Rattle.trees.specs.Split.{most_pairs}
use Rattle.trees.specs.Damage.{IsSoundEnd}
use Rattle.trees.specs.Rows.{row_size}
use Rattle.trees.specs.Made.{Holds}
use Rattle.trees.proofs.Laid.{extends_on}
use Rattle.trees.specs.Grown.{IsRooted}
use Rattle.tree_delete.specs.declared.cut.Cut.{Cut}
use Rattle.trees.proofs.Paid.{rise_first}
use Rattle.trees.proofs.Parts.{narrow}
use Rattle.tree_delete.proofs.TopLaws.{some_rest, roots_free, roots_seven, root_of, tree_cut, tree_have}
use Rattle.tree_delete.specs.Beside.{IsSoundBeside}
use Rattle.ex_base.proofs.Handed.{no_value, not_given, cause_here}
use Rattle.ex_base.specs.declared.faults.PortFault.TheVariants.{Memory}
use Rattle.ex_base.proofs.Keeping.{cause_on}
use Rattle.tree_delete.proofs.tree.without.Goals as goal

pub rooted-requires-clause-count : goal.rooted-requires-clause-count
rooted-requires-clause-count g c = omega (arith, ap length c.deref.ensures.value, c.in_ok-level.ensures.few, narrow (g.B.Ground.geometry c.args.blocks.now))

pub rooted-requires-clause-rise : goal.rooted-requires-clause-rise
rooted-requires-clause-rise g c =
    rise_first c.in_ok-level.level (length c.deref.result.now) (omega (arith, c.in_ok-level.ensures.low, c.requires.low))
    (omega (arith, ap length c.deref.ensures.value, c.in_ok-level.ensures.few, narrow (g.B.Ground.geometry c.args.blocks.now)))

pub returns-clause-extends : goal.returns-clause-extends
returns-clause-extends g c =
    on_ok_from c.rooted.result _ (λ made is. extends_on g.B.Ground c.args.blocks.now c.cut_tree.new.blocks c.rooted.new.blocks c.in_ok-level.ensures.extends (from_ok c.rooted.result made _ is c.rooted.ensures.extends))

pub returns-clause-pages : goal.returns-clause-pages
returns-clause-pages g c =
    on_ok_from c.rooted.result _ (λ made is.
    let geo = g.B.Ground.leads_geometry c.args.blocks.now c.cut_tree.new.blocks c.in_ok-level.ensures.extends.leads in
    let few : length c.deref.result.now ≤ 2 * most_pairs (g.B.Ground.geometry c.cut_tree.new.blocks).fan + 4 =
    subst (λ (k : Geometry). length c.deref.result.now ≤ 2 * most_pairs k.fan + 4) (sym geo) (omega (arith, ap length c.deref.ensures.value, c.in_ok-level.ensures.few)) in
    let all = tree_cut (record { left = c.new.result; run = c.in_ok-joined.field-0; right = c.new-2.result; at = c.args.pos; len = c.args.len }) c.args.tree c.new.ensures.items c.in_ok-joined.ensures c.new-2.ensures.items in
    let some : 1 ≤ length c.deref.result.now = some_rest c.deref.result.now (omega (arith, ap row_size c.deref.ensures.value, c.in_ok-level.ensures.sum, ap row_size all, c.requires.rest)) in
    let seven = roots_seven (g.B.Ground.geometry c.cut_tree.new.blocks).fan (length c.deref.result.now) (g.B.Ground.free c.cut_tree.new.blocks Page) (g.B.Ground.free c.rooted.new.blocks Page) (omega (arith, (g.B.Ground.geometry c.cut_tree.new.blocks).two)) some few
    (from_ok c.rooted.result made _ is c.rooted.ensures.lone) (from_ok c.rooted.result made _ is c.rooted.ensures.pages) in
    omega (arith, c.in_ok-level.ensures.pages))

pub returns-clause-edited : goal.returns-clause-edited
returns-clause-edited g c =
    if_ok_from c.rooted.result _ (λ made is told l same spells.
    let cut : Cut = record { left = c.new.result; run = c.in_ok-joined.field-0; right = c.new-2.result; at = c.args.pos; len = c.args.len } in
    let all = tree_cut (record { left = c.new.result; run = c.in_ok-joined.field-0; right = c.new-2.result; at = c.args.pos; len = c.args.len }) c.args.tree c.new.ensures.items c.in_ok-joined.ensures c.new-2.ensures.items in
    let told_b = g.B.Ground.leads_told c.args.blocks.now c.cut_tree.new.blocks c.in_ok-level.ensures.extends.leads told in
    let some : 1 ≤ length c.in_ok-level.row.items = some_rest c.in_ok-level.row.items (omega (arith, c.in_ok-level.ensures.sum, ap row_size all, c.requires.rest)) in
    let trimmed = c.in_ok-level.ensures.trimmed told l same (subst (Holds g.B.Ground c.args.blocks.now l) (sym all) spells.holds) (λ side. absurd (omega (arith, side, ap length c.new.ensures.items, ap length c.new-2.ensures.items)))
    (tree_have g.B.Ground c.args.blocks.now l (record { left = c.new.result; run = c.in_ok-joined.field-0; right = c.new-2.result; at = c.args.pos; len = c.args.len }) c.args.tree c.in_ok-joined.ensures spells) c.in_ok-level.level refl in
    root_of g.B.Ground c.args.blocks.now c.cut_tree.new.blocks c.rooted.new.blocks l c.in_ok-level.level (record { left = c.new.result; run = c.in_ok-joined.field-0; right = c.new-2.result; at = c.args.pos; len = c.args.len }) c.args.tree c.args.pos c.args.len c.in_ok-level.row.items made
    c.new.ensures.items c.in_ok-joined.ensures c.new-2.ensures.items refl refl c.in_ok-level.ensures.extends (from_ok c.rooted.result made _ is c.rooted.ensures.extends) some spells trimmed
    (λ held. subst (λ r. IsRooted g.B.Ground c.cut_tree.new.blocks c.rooted.new.blocks c.in_ok-level.level r made) c.deref.ensures.value
    (IfOk-at_ok _ is c.rooted.ensures.rooted told_b c.in_ok-level.level refl (subst (Holds g.B.Ground c.cut_tree.new.blocks c.in_ok-level.level) (sym c.deref.ensures.value) held))))

pub returns-clause-way : goal.returns-clause-way
returns-clause-way g c =
    on_ok_from c.rooted.result _ (λ made is told end which.
    let ends = c.in_ok-level.ensures.way told in
    subst (λ r. IsSoundEnd (g.B.Ground.geometry c.args.blocks.now) (g.B.Ground.unit c.args.blocks.now) c.args.height 2 r end) c.in_ok-joined.ensures (elim which [
      | inl at ↦ subst (λ k. IsSoundEnd (g.B.Ground.geometry c.args.blocks.now) (g.B.Ground.unit c.args.blocks.now) c.args.height 2 c.in_ok-joined.field-0.items k) (sym at) ends.0
      | inr at ↦ subst (λ k. IsSoundEnd (g.B.Ground.geometry c.args.blocks.now) (g.B.Ground.unit c.args.blocks.now) c.args.height 2 c.in_ok-joined.field-0.items k) (sym at) ends.1
    ]))

pub rooted-requires-clause-free : goal.rooted-requires-clause-free
rooted-requires-clause-free g c = λ two.
    let geo = g.B.Ground.leads_geometry c.args.blocks.now c.cut_tree.new.blocks c.in_ok-level.ensures.extends.leads in
    let few : length c.deref.result.now ≤ 2 * most_pairs (g.B.Ground.geometry c.cut_tree.new.blocks).fan + 4 =
    subst (λ (k : Geometry). length c.deref.result.now ≤ 2 * most_pairs k.fan + 4) (sym geo) (omega (arith, ap length c.deref.ensures.value, c.in_ok-level.ensures.few)) in
    roots_free (g.B.Ground.geometry c.cut_tree.new.blocks).fan (length c.deref.result.now) (g.B.Ground.free c.cut_tree.new.blocks Page) (omega (arith, (g.B.Ground.geometry c.cut_tree.new.blocks).two)) few (omega (arith, c.in_ok-level.ensures.pages, c.requires.pages))

pub returns-clause-beside : goal.returns-clause-beside
returns-clause-beside g c =
    on_ok_from c.rooted.result _ (λ made is told.
    subst (λ r. IsSoundBeside (g.B.Ground.geometry c.args.blocks.now) (g.B.Ground.unit c.args.blocks.now) c.args.height 2 r (c.args.tree ∷ []) [] c.args.pos c.args.len) c.new.ensures.items
    (subst (λ r. IsSoundBeside (g.B.Ground.geometry c.args.blocks.now) (g.B.Ground.unit c.args.blocks.now) c.args.height 2 c.new.result.items r [] c.args.pos c.args.len) c.in_ok-joined.ensures
    (subst (λ r. IsSoundBeside (g.B.Ground.geometry c.args.blocks.now) (g.B.Ground.unit c.args.blocks.now) c.args.height 2 c.new.result.items c.in_ok-joined.field-0.items r c.args.pos c.args.len) c.new-2.ensures.items (c.in_ok-level.ensures.beside told))))

-- ---- what else is asked and promised

pub returns-in_err-buffer-clause-beside : goal.returns-in_err-buffer-clause-beside
returns-in_err-buffer-clause-beside g c = not_given c.from_residual.result _ Memory c.from_residual.ensures.1

pub returns-in_err-joined-clause-beside : goal.returns-in_err-joined-clause-beside
returns-in_err-joined-clause-beside g c = not_given c.from_residual-in_err-joined.result _ Memory c.from_residual-in_err-joined.ensures.1

pub returns-in_err-level-clause-beside : goal.returns-in_err-level-clause-beside
returns-in_err-level-clause-beside g c = not_given c.from_residual-in_err-level.result _ c.in_err-level.field-0.0 c.from_residual-in_err-level.ensures.1

pub returns-in_err-buffer-clause-cause : goal.returns-in_err-buffer-clause-cause
returns-in_err-buffer-clause-cause g c = cause_here (g.B.Ground.faults c.args.blocks.now) (g.B.Ground.faults c.args.blocks.now) c.from_residual.result Memory c.from_residual.ensures.1 tt

pub returns-in_err-joined-clause-cause : goal.returns-in_err-joined-clause-cause
returns-in_err-joined-clause-cause g c = cause_here (g.B.Ground.faults c.args.blocks.now) (g.B.Ground.faults c.args.blocks.now) c.from_residual-in_err-joined.result Memory c.from_residual-in_err-joined.ensures.1 tt

pub returns-in_err-level-clause-cause : goal.returns-in_err-level-clause-cause
returns-in_err-level-clause-cause g c = cause_here (g.B.Ground.faults c.args.blocks.now) (g.B.Ground.faults c.cut_tree.new.blocks) c.from_residual-in_err-level.result c.in_err-level.field-0.0 c.from_residual-in_err-level.ensures.1 c.in_err-level.ensures.cause

pub returns-clause-cause : goal.returns-clause-cause
returns-clause-cause g c = cause_on (g.B.Ground.faults c.args.blocks.now) (g.B.Ground.faults c.cut_tree.new.blocks) (g.B.Ground.faults c.rooted.new.blocks) c.rooted.result (g.B.Ground.leads_faults c.args.blocks.now c.cut_tree.new.blocks c.in_ok-level.ensures.leads) c.rooted.ensures.cause

pub returns-in_err-buffer-clause-edited : goal.returns-in_err-buffer-clause-edited
returns-in_err-buffer-clause-edited g c = no_value c.from_residual.result _ Memory c.from_residual.ensures.1

pub returns-in_err-joined-clause-edited : goal.returns-in_err-joined-clause-edited
returns-in_err-joined-clause-edited g c = no_value c.from_residual-in_err-joined.result _ Memory c.from_residual-in_err-joined.ensures.1

pub returns-in_err-level-clause-edited : goal.returns-in_err-level-clause-edited
returns-in_err-level-clause-edited g c = no_value c.from_residual-in_err-level.result _ c.in_err-level.field-0.0 c.from_residual-in_err-level.ensures.1

pub returns-in_err-buffer-clause-extends : goal.returns-in_err-buffer-clause-extends
returns-in_err-buffer-clause-extends g c = not_given c.from_residual.result _ Memory c.from_residual.ensures.1

pub returns-in_err-joined-clause-extends : goal.returns-in_err-joined-clause-extends
returns-in_err-joined-clause-extends g c = not_given c.from_residual-in_err-joined.result _ Memory c.from_residual-in_err-joined.ensures.1

pub returns-in_err-level-clause-extends : goal.returns-in_err-level-clause-extends
returns-in_err-level-clause-extends g c = not_given c.from_residual-in_err-level.result _ c.in_err-level.field-0.0 c.from_residual-in_err-level.ensures.1

pub returns-in_err-buffer-clause-fault : goal.returns-in_err-buffer-clause-fault
returns-in_err-buffer-clause-fault g c = if_err_handed c.from_residual.result _ Memory c.from_residual.ensures.1 (λ told. tt)

pub returns-in_err-joined-clause-fault : goal.returns-in_err-joined-clause-fault
returns-in_err-joined-clause-fault g c = if_err_handed c.from_residual-in_err-joined.result _ Memory c.from_residual-in_err-joined.ensures.1 (λ told. tt)

pub returns-in_err-buffer-clause-leads : goal.returns-in_err-buffer-clause-leads
returns-in_err-buffer-clause-leads g c = g.B.Ground.leads_refl c.args.blocks.now

pub returns-in_err-joined-clause-leads : goal.returns-in_err-joined-clause-leads
returns-in_err-joined-clause-leads g c = g.B.Ground.leads_refl c.args.blocks.now

pub returns-in_err-level-clause-leads : goal.returns-in_err-level-clause-leads
returns-in_err-level-clause-leads g c = c.in_err-level.ensures.leads

pub returns-clause-leads : goal.returns-clause-leads
returns-clause-leads g c = g.B.Ground.leads_trans c.args.blocks.now c.cut_tree.new.blocks c.rooted.new.blocks c.in_ok-level.ensures.leads c.rooted.ensures.leads

pub returns-in_err-buffer-clause-leaves : goal.returns-in_err-buffer-clause-leaves
returns-in_err-buffer-clause-leaves g c = not_given c.from_residual.result _ Memory c.from_residual.ensures.1

pub returns-in_err-joined-clause-leaves : goal.returns-in_err-joined-clause-leaves
returns-in_err-joined-clause-leaves g c = not_given c.from_residual-in_err-joined.result _ Memory c.from_residual-in_err-joined.ensures.1

pub returns-in_err-level-clause-leaves : goal.returns-in_err-level-clause-leaves
returns-in_err-level-clause-leaves g c = not_given c.from_residual-in_err-level.result _ c.in_err-level.field-0.0 c.from_residual-in_err-level.ensures.1

pub returns-in_err-buffer-clause-pages : goal.returns-in_err-buffer-clause-pages
returns-in_err-buffer-clause-pages g c = not_given c.from_residual.result _ Memory c.from_residual.ensures.1

pub returns-in_err-joined-clause-pages : goal.returns-in_err-joined-clause-pages
returns-in_err-joined-clause-pages g c = not_given c.from_residual-in_err-joined.result _ Memory c.from_residual-in_err-joined.ensures.1

pub returns-in_err-level-clause-pages : goal.returns-in_err-level-clause-pages
returns-in_err-level-clause-pages g c = not_given c.from_residual-in_err-level.result _ c.in_err-level.field-0.0 c.from_residual-in_err-level.ensures.1

pub rooted-requires-clause-ready : goal.rooted-requires-clause-ready
rooted-requires-clause-ready g c = g.B.Ground.leads_ready c.args.blocks.now c.cut_tree.new.blocks c.in_ok-level.ensures.leads c.requires.ready

pub cut_tree-requires-clause-ready : goal.cut_tree-requires-clause-ready
cut_tree-requires-clause-ready g c = c.requires.ready

pub returns-in_err-buffer-clause-size : goal.returns-in_err-buffer-clause-size
returns-in_err-buffer-clause-size g c = no_value c.from_residual.result _ Memory c.from_residual.ensures.1

pub returns-in_err-joined-clause-size : goal.returns-in_err-joined-clause-size
returns-in_err-joined-clause-size g c = no_value c.from_residual-in_err-joined.result _ Memory c.from_residual-in_err-joined.ensures.1

pub returns-in_err-level-clause-size : goal.returns-in_err-level-clause-size
returns-in_err-level-clause-size g c = no_value c.from_residual-in_err-level.result _ c.in_err-level.field-0.0 c.from_residual-in_err-level.ensures.1

pub returns-in_err-buffer-clause-way : goal.returns-in_err-buffer-clause-way
returns-in_err-buffer-clause-way g c = not_given c.from_residual.result _ Memory c.from_residual.ensures.1

pub returns-in_err-joined-clause-way : goal.returns-in_err-joined-clause-way
returns-in_err-joined-clause-way g c = not_given c.from_residual-in_err-joined.result _ Memory c.from_residual-in_err-joined.ensures.1

pub returns-in_err-level-clause-way : goal.returns-in_err-level-clause-way
returns-in_err-level-clause-way g c = not_given c.from_residual-in_err-level.result _ c.in_err-level.field-0.0 c.from_residual-in_err-level.ensures.1
