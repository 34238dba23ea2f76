use Rattle.std.proofs.Common.{arith, rules, ℕ, List, [], ◌≡◌, ◌≤◌, ◌-◌, ◌*◌, ◌++◌, ◌∙◌, ap, sym, subst, length}
use Rattle.std.specs.Vec.{vec_len}
use Rattle.std.proofs.lemmas.Bool.{eqb-true}
use Rattle.std.proofs.lemmas.List.{length-take-le, nil_from_length}
use Rattle.std.proofs.lemmas.Result.{IfOk-at_ok, on_ok_weaker}
use Rattle.ex_base.specs.declared.geometry.Geometry.{Geometry}
use Rattle.ex_base.specs.declared.names.Area.{Area}
use Rattle.ex_base.specs.declared.names.Area.TheVariants.{Page, Segment}
use Rattle.ex_base.specs.Sizes.{leaf_bytes}
use Rattle.ex_base.proofs.Results.{if_err_handed, if_ok_from, cause_handed}
use Rattle.ex_base.proofs.Geometries.{page_le}
use Rattle.trees.specs.Split.{nodes_for}
use Rattle.trees.specs.declared.rows.Part.{Part}
use Rattle.trees.specs.Rows.{row_size}
use Rattle.trees.proofs.Laid.{extends_on, extends_kept, extends_refl}
use Rattle.tree_delete.specs.Cuts.{all_of, sides, HasSoundEnds, IsCutAt}
use Rattle.trees.proofs.Paid.{some_node}
use Rattle.trees.proofs.Parts.{narrow}
use Rattle.tree_delete.proofs.Ends.{ends_kept, ends_low, ends_nowhere}
use Rattle.trees.specs.Damage.{IsWalkFault}
use Rattle.trees.proofs.Blame.{walk_back, walk_undamaged}
use Rattle.tree_delete.proofs.RowLaws.{no_size, left_at, whole_left, tree_left, node_left_of, made_few}
use Rattle.tree_delete.specs.Beside.{OpensSound}
use Rattle.tree_delete.proofs.Beside.{beside_low, beside_nowhere, opens_kept}
use Rattle.ex_base.proofs.Handed.{no_value, not_given, cause_here}
use Rattle.ex_base.specs.declared.faults.PortFault.TheVariants.{Memory}
use Rattle.tree_delete.proofs.rows.+cut_row.Goals as goal

pub returns-then-level-eq0-clause-left : goal.returns-then-level-eq0-clause-left
returns-then-level-eq0-clause-left g t c =
    if_ok_from c.cut_leaves.result _ (λ made is told l same holds.
    left_at g.B.Ground c.args.blocks.now c.cut_leaves.new.blocks c.args.level l 0 c.args.cut made.items c.if-level-eq0.true same (IfOk-at_ok _ is c.cut_leaves.ensures.left told) holds)

pub returns-then-is_empty-clause-left : goal.returns-then-is_empty-clause-left
returns-then-is_empty-clause-left g t c = λ told l same holds.
    whole_left g.B.Ground c.args.blocks.now l c.args.cut c.in_ok-joined.field-0.items (omega (arith, eqb-true (vec_len c.args.cut.run) 0 (sym c.if-is_empty.ensures), c.args.cut.run.ok.0))
    (c.in_ok-joined.ensures ∙ ap (λ (xs : List Part). xs ++ ([] ++ c.deref-then-is_empty.result.now)) c.deref.ensures.value ∙ ap (λ (xs : List Part). c.args.cut.left.items ++ xs) c.deref-then-is_empty.ensures.value) holds

pub cut_row-requires : goal.cut_row-requires
cut_row-requires g t c κs within =
    let kept = c.in_ok-left.ensures.kept in
    let counted = c.in_ok-left.ensures.counted in
    let geo = g.B.Ground.leads_geometry c.args.blocks.now c.open.new.blocks kept.leads in
    let ready : g.B.Ground.ready c.open.new.blocks = g.B.Ground.leads_ready c.args.blocks.now c.open.new.blocks kept.leads c.requires.ready in
    let buffer : length c.args.buffer.now ≡ leaf_bytes (g.B.Ground.geometry c.open.new.blocks) = c.requires.buffer ∙ ap leaf_bytes (sym geo) in
    let cut_at : IsCutAt (g.B.Ground.geometry c.open.new.blocks) (c.args.level - 1) c.in_ok-left.field-0.below = subst (λ k. IsCutAt k (c.args.level - 1) c.in_ok-left.field-0.below) (sym geo) counted.cut_at in
    let side : 1 ≤ sides c.in_ok-left.field-0.below = omega (arith, counted.enough, (g.B.Ground.geometry c.args.blocks.now).two) in
    let free : 4 ≤ g.B.Ground.free c.open.new.blocks Segment = omega (arith, ap (λ (f : Area → ℕ). f Segment) kept.free, c.requires.free) in
    let pages : 4 * (c.args.level - 1) ≤ g.B.Ground.free c.open.new.blocks Page = omega (arith, ap (λ (f : Area → ℕ). f Page) kept.free, c.requires.pages) in
    search rules

pub nodes_over-requires-clause-buffer : goal.nodes_over-requires-clause-buffer
nodes_over-requires-clause-buffer g t c =
    let geo = (g.B.Ground.leads_geometry c.open.new.blocks c.cut_row.new.blocks c.in_ok-kept.ensures.extends.leads ∙ (g.B.Ground.leads_geometry c.args.blocks.now c.open.new.blocks c.in_ok-left.ensures.kept.leads)) in
    length-take-le c.geometry-geometry.result.page_size c.cut_row.new.buffer (omega (arith, c.cut_row.auto.buffer, c.requires.buffer, page_le (g.B.Ground.geometry c.args.blocks.now), ap (λ (k : Geometry). k.page_size) c.geometry-geometry.ensures))
    ∙ ap (λ (k : Geometry). k.page_size) (c.geometry-geometry.ensures ∙ sym geo)

pub nodes_over-requires-clause-count : goal.nodes_over-requires-clause-count
nodes_over-requires-clause-count g t c =
    omega (arith, ap length c.deref-2.ensures.value, c.in_ok-kept.ensures.left_of.few, c.in_ok-left.ensures.counted.few, narrow (g.B.Ground.geometry c.args.blocks.now))

pub nodes_over-requires-clause-free : goal.nodes_over-requires-clause-free
nodes_over-requires-clause-free g t c =
    let geo = (g.B.Ground.leads_geometry c.open.new.blocks c.cut_row.new.blocks c.in_ok-kept.ensures.extends.leads ∙ (g.B.Ground.leads_geometry c.args.blocks.now c.open.new.blocks c.in_ok-left.ensures.kept.leads)) in
    let few = made_few (g.B.Ground.geometry c.args.blocks.now) c.args.level c.args.cut c.in_ok-left.field-0 c.in_ok-kept.kept.items c.in_ok-left.ensures.counted c.in_ok-kept.ensures.left_of in
    let at_start : nodes_for (g.B.Ground.geometry c.args.blocks.now).fan (length c.deref-2.result.now) ≤ 4 = subst (λ (r : List Part). nodes_for (g.B.Ground.geometry c.args.blocks.now).fan (length r) ≤ 4) (sym c.deref-2.ensures.value) few in
    let four : nodes_for (g.B.Ground.geometry c.cut_row.new.blocks).fan (length c.deref-2.result.now) ≤ 4 = subst (λ (k : Geometry). nodes_for k.fan (length c.deref-2.result.now) ≤ 4) (sym geo) at_start in
    omega (arith, c.in_ok-kept.ensures.pages, ap (λ (f : Area → ℕ). f Page) c.in_ok-left.ensures.kept.free, c.requires.pages, c.if-level-eq0.false)

pub returns-in_err-made-clause-cause : goal.returns-in_err-made-clause-cause
returns-in_err-made-clause-cause g t c =
    let first : g.B.Ground.faults c.args.blocks.now ≤ g.B.Ground.faults c.open.new.blocks = g.B.Ground.leads_faults c.args.blocks.now c.open.new.blocks c.in_ok-left.ensures.kept.leads in
    let second : g.B.Ground.faults c.open.new.blocks ≤ g.B.Ground.faults c.cut_row.new.blocks = g.B.Ground.leads_faults c.open.new.blocks c.cut_row.new.blocks c.in_ok-kept.ensures.leads in
    let le : g.B.Ground.faults c.args.blocks.now ≤ g.B.Ground.faults c.cut_row.new.blocks = omega arith in
    search rules

pub returns-in_err-joined-2-clause-leads : goal.returns-in_err-joined-2-clause-leads
returns-in_err-joined-2-clause-leads g t c =
    g.B.Ground.leads_trans c.args.blocks.now c.open.new.blocks c.nodes_over.new.blocks c.in_ok-left.ensures.kept.leads (g.B.Ground.leads_trans c.open.new.blocks c.cut_row.new.blocks c.nodes_over.new.blocks c.in_ok-kept.ensures.leads c.in_ok-made.ensures.leads)

pub returns-clause-leads : goal.returns-clause-leads
returns-clause-leads g t c =
    g.B.Ground.leads_trans c.args.blocks.now c.open.new.blocks c.nodes_over.new.blocks c.in_ok-left.ensures.kept.leads (g.B.Ground.leads_trans c.open.new.blocks c.cut_row.new.blocks c.nodes_over.new.blocks c.in_ok-kept.ensures.leads c.in_ok-made.ensures.leads)

pub returns-clause-extends : goal.returns-clause-extends
returns-clause-extends g t c =
    extends_on g.B.Ground c.args.blocks.now c.open.new.blocks c.nodes_over.new.blocks (extends_kept g.B.Ground c.args.blocks.now c.open.new.blocks c.in_ok-left.ensures.kept) (extends_on g.B.Ground c.open.new.blocks c.cut_row.new.blocks c.nodes_over.new.blocks c.in_ok-kept.ensures.extends c.in_ok-made.ensures.extends)

pub returns-clause-left_of : goal.returns-clause-left_of
returns-clause-left_of g t c =
    let made = c.in_ok-made.ensures in
    let geo = (g.B.Ground.leads_geometry c.open.new.blocks c.cut_row.new.blocks c.in_ok-kept.ensures.extends.leads ∙ (g.B.Ground.leads_geometry c.args.blocks.now c.open.new.blocks c.in_ok-left.ensures.kept.leads)) in
    let many : length c.in_ok-made.made.items ≡ nodes_for (g.B.Ground.geometry c.args.blocks.now).fan (length c.in_ok-kept.kept.items) =
    made.count ∙ ap (λ (k : Geometry). nodes_for k.fan (length c.deref-2.result.now)) geo ∙ ap (λ (r : List Part). nodes_for (g.B.Ground.geometry c.args.blocks.now).fan (length r)) c.deref-2.ensures.value in
    node_left_of (g.B.Ground.geometry c.args.blocks.now) c.args.level c.args.cut c.in_ok-left.field-0 c.in_ok-kept.kept.items c.in_ok-made.made.items c.in_ok-joined-2.field-0.items c.in_ok-left.ensures.counted c.in_ok-kept.ensures.left_of
    (made.sum ∙ ap row_size c.deref-2.ensures.value) made.sizes
    (omega (arith, many, some_node (g.B.Ground.geometry c.args.blocks.now).fan (length c.in_ok-kept.kept.items) (omega (arith, c.in_ok-kept.ensures.left_of.many, c.in_ok-left.ensures.counted.enough, (g.B.Ground.geometry c.args.blocks.now).two))))
    (omega (arith, many, made_few (g.B.Ground.geometry c.args.blocks.now) c.args.level c.args.cut c.in_ok-left.field-0 c.in_ok-kept.kept.items c.in_ok-left.ensures.counted c.in_ok-kept.ensures.left_of))
    (c.in_ok-joined-2.ensures ∙ ap (λ (xs : List Part). xs ++ (c.deref-4.result.now ++ c.deref-5.result.now)) c.deref-3.ensures.value ∙ ap (λ (xs : List Part). c.in_ok-left.field-0.left.items ++ (xs ++ c.deref-5.result.now)) c.deref-4.ensures.value ∙ ap (λ (xs : List Part). c.in_ok-left.field-0.left.items ++ (c.in_ok-made.made.items ++ xs)) c.deref-5.ensures.value)

pub returns-clause-pages : goal.returns-clause-pages
returns-clause-pages g t c =
    let made = c.in_ok-made.ensures in
    let geo = (g.B.Ground.leads_geometry c.open.new.blocks c.cut_row.new.blocks c.in_ok-kept.ensures.extends.leads ∙ (g.B.Ground.leads_geometry c.args.blocks.now c.open.new.blocks c.in_ok-left.ensures.kept.leads)) in
    let many : length c.in_ok-made.made.items ≡ nodes_for (g.B.Ground.geometry c.args.blocks.now).fan (length c.in_ok-kept.kept.items) =
    made.count ∙ ap (λ (k : Geometry). nodes_for k.fan (length c.deref-2.result.now)) geo ∙ ap (λ (r : List Part). nodes_for (g.B.Ground.geometry c.args.blocks.now).fan (length r)) c.deref-2.ensures.value in
    let few = made_few (g.B.Ground.geometry c.args.blocks.now) c.args.level c.args.cut c.in_ok-left.field-0 c.in_ok-kept.kept.items c.in_ok-left.ensures.counted c.in_ok-kept.ensures.left_of in
    omega (arith, made.spent.of_pages, made.count, c.in_ok-kept.ensures.pages, ap (λ (f : Area → ℕ). f Page) c.in_ok-left.ensures.kept.free, c.if-level-eq0.false)

pub returns-clause-left : goal.returns-clause-left
returns-clause-left g t c = λ told l same holds.
    tree_left g.B.Ground c.args.blocks.now c.open.new.blocks c.cut_row.new.blocks c.nodes_over.new.blocks c.args.level l c.args.cut c.in_ok-left.field-0 c.in_ok-kept.kept.items c.deref-2.result.now c.in_ok-made.made.items c.in_ok-joined-2.field-0.items
    told same c.if-level-eq0.false c.in_ok-left.ensures.kept c.in_ok-kept.ensures.extends c.in_ok-made.ensures.extends c.in_ok-left.ensures.opened c.in_ok-kept.ensures.left
    (omega (arith, c.in_ok-kept.ensures.left_of.many, c.in_ok-left.ensures.counted.enough)) (omega (arith, c.in_ok-left.ensures.counted.enough, (g.B.Ground.geometry c.args.blocks.now).two)) c.deref-2.ensures.value c.in_ok-made.ensures.took c.in_ok-made.ensures.built c.in_ok-made.ensures.counts
    (c.in_ok-joined-2.ensures ∙ ap (λ (xs : List Part). xs ++ (c.deref-4.result.now ++ c.deref-5.result.now)) c.deref-3.ensures.value ∙ ap (λ (xs : List Part). c.in_ok-left.field-0.left.items ++ (xs ++ c.deref-5.result.now)) c.deref-4.ensures.value ∙ ap (λ (xs : List Part). c.in_ok-left.field-0.left.items ++ (c.in_ok-made.made.items ++ xs)) c.deref-5.ensures.value)
    holds

pub returns-in_err-kept-clause-fault : goal.returns-in_err-kept-clause-fault
returns-in_err-kept-clause-fault g t c =
    if_err_handed c.from_residual-in_err-kept.result _ c.in_err-kept.field-0.0 c.from_residual-in_err-kept.ensures.1
    (λ told least only. subst (λ k. IsWalkFault (g.B.Ground.geometry c.args.blocks.now) (g.B.Ground.unit c.args.blocks.now) c.args.level k (all_of c.args.cut) c.in_err-kept.field-0.0) (sym (only (omega (arith, c.if-level-eq0.false))))
    (c.in_ok-left.ensures.walk told c.in_err-kept.field-0.0
    (walk_back g.B.Ground c.args.blocks.now c.open.new.blocks (c.args.level - 1) (g.B.Ground.geometry c.args.blocks.now).fan (all_of c.in_ok-left.field-0.below) c.in_err-kept.field-0.0 c.in_ok-left.ensures.kept
    (λ told_b. c.in_err-kept.ensures.fault told_b (g.B.Ground.geometry c.args.blocks.now).fan (λ some. ap (λ (k : Geometry). k.fan) (sym (g.B.Ground.leads_geometry c.args.blocks.now c.open.new.blocks c.in_ok-left.ensures.kept.leads)))) told)))

pub returns-then-level-eq0-clause-way : goal.returns-then-level-eq0-clause-way
returns-then-level-eq0-clause-way g t c =
    on_ok_weaker c.cut_leaves.result (λ way told least only. ends_low (g.B.Ground.geometry c.args.blocks.now) (g.B.Ground.unit c.args.blocks.now) c.args.level 0 least c.args.cut c.if-level-eq0.true (way told)) c.cut_leaves.ensures.way

pub returns-then-is_empty-clause-way : goal.returns-then-is_empty-clause-way
returns-then-is_empty-clause-way g t c = λ told least only.
    ends_nowhere (g.B.Ground.geometry c.args.blocks.now) (g.B.Ground.unit c.args.blocks.now) c.args.level least c.args.cut (no_size c.args.cut.run.items (omega (arith, eqb-true (vec_len c.args.cut.run) 0 (sym c.if-is_empty.ensures), c.args.cut.run.ok.0)))

pub returns-clause-way : goal.returns-clause-way
returns-clause-way g t c = λ told least only.
    subst (λ k. HasSoundEnds (g.B.Ground.geometry c.args.blocks.now) (g.B.Ground.unit c.args.blocks.now) c.args.level k c.args.cut) (sym (only (omega (arith, c.if-level-eq0.false))))
    (c.in_ok-left.ensures.way told
    (ends_kept g.B.Ground c.args.blocks.now c.open.new.blocks (c.args.level - 1) (g.B.Ground.geometry c.args.blocks.now).fan c.in_ok-left.field-0.below c.in_ok-left.ensures.kept
    (λ told_b. c.in_ok-kept.ensures.way told_b (g.B.Ground.geometry c.args.blocks.now).fan (λ some. ap (λ (k : Geometry). k.fan) (sym (g.B.Ground.leads_geometry c.args.blocks.now c.open.new.blocks c.in_ok-left.ensures.kept.leads)))) told))

pub returns-then-level-eq0-clause-beside : goal.returns-then-level-eq0-clause-beside
returns-then-level-eq0-clause-beside g t c =
    on_ok_weaker c.cut_leaves.result (λ beside told least only. beside_low (g.B.Ground.geometry c.args.blocks.now) (g.B.Ground.unit c.args.blocks.now) c.args.level 0 least c.args.cut c.if-level-eq0.true (beside told)) c.cut_leaves.ensures.beside

pub returns-then-is_empty-clause-beside : goal.returns-then-is_empty-clause-beside
returns-then-is_empty-clause-beside g t c = λ told least only.
    beside_nowhere (g.B.Ground.geometry c.args.blocks.now) (g.B.Ground.unit c.args.blocks.now) c.args.level least c.args.cut (omega (arith, c.if-level-eq0.false)) (nil_from_length c.args.cut.run.items (omega (arith, eqb-true (vec_len c.args.cut.run) 0 (sym c.if-is_empty.ensures), c.args.cut.run.ok.0)))

pub returns-clause-beside : goal.returns-clause-beside
returns-clause-beside g t c = λ told least only.
    subst (λ k. OpensSound (g.B.Ground.geometry c.args.blocks.now) (g.B.Ground.unit c.args.blocks.now) c.args.level k c.args.cut) (sym (only (omega (arith, c.if-level-eq0.false))))
    (c.in_ok-left.ensures.beside told
    (opens_kept g.B.Ground c.args.blocks.now c.open.new.blocks (c.args.level - 1) (g.B.Ground.geometry c.args.blocks.now).fan c.in_ok-left.field-0.below c.in_ok-left.ensures.kept
    (λ told_b. c.in_ok-kept.ensures.beside told_b (g.B.Ground.geometry c.args.blocks.now).fan (λ some. ap (λ (k : Geometry). k.fan) (sym (g.B.Ground.leads_geometry c.args.blocks.now c.open.new.blocks c.in_ok-left.ensures.kept.leads)))) told))

-- ---- what else is asked and promised

pub returns-in_err-joined-clause-beside : goal.returns-in_err-joined-clause-beside
returns-in_err-joined-clause-beside g t c = not_given c.from_residual.result _ Memory c.from_residual.ensures.1

pub returns-in_err-left-clause-beside : goal.returns-in_err-left-clause-beside
returns-in_err-left-clause-beside g t c = not_given c.from_residual-in_err-left.result _ c.in_err-left.field-0.0 c.from_residual-in_err-left.ensures.1

pub returns-in_err-kept-clause-beside : goal.returns-in_err-kept-clause-beside
returns-in_err-kept-clause-beside g t c = not_given c.from_residual-in_err-kept.result _ c.in_err-kept.field-0.0 c.from_residual-in_err-kept.ensures.1

pub returns-in_err-made-clause-beside : goal.returns-in_err-made-clause-beside
returns-in_err-made-clause-beside g t c = not_given c.from_residual-in_err-made.result _ c.in_err-made.field-0.0 c.from_residual-in_err-made.ensures.1

pub returns-in_err-joined-2-clause-beside : goal.returns-in_err-joined-2-clause-beside
returns-in_err-joined-2-clause-beside g t c = not_given c.from_residual-in_err-joined-2.result _ Memory c.from_residual-in_err-joined-2.ensures.1

pub cut_leaves-requires-clause-buffer : goal.cut_leaves-requires-clause-buffer
cut_leaves-requires-clause-buffer g t c = c.requires.buffer

pub returns-in_err-joined-clause-cause : goal.returns-in_err-joined-clause-cause
returns-in_err-joined-clause-cause g t c = cause_here (g.B.Ground.faults c.args.blocks.now) (g.B.Ground.faults c.args.blocks.now) c.from_residual.result Memory c.from_residual.ensures.1 tt

pub returns-in_err-left-clause-cause : goal.returns-in_err-left-clause-cause
returns-in_err-left-clause-cause g t c = cause_here (g.B.Ground.faults c.args.blocks.now) (g.B.Ground.faults c.open.new.blocks) c.from_residual-in_err-left.result c.in_err-left.field-0.0 c.from_residual-in_err-left.ensures.1 c.in_err-left.ensures.cause

pub returns-in_err-kept-clause-cause : goal.returns-in_err-kept-clause-cause
returns-in_err-kept-clause-cause g t c = cause_handed (g.B.Ground.faults c.args.blocks.now) (g.B.Ground.faults c.open.new.blocks) (g.B.Ground.faults c.cut_row.new.blocks) c.from_residual-in_err-kept.result c.in_err-kept.field-0.0 c.from_residual-in_err-kept.ensures.1 (g.B.Ground.leads_faults c.args.blocks.now c.open.new.blocks c.open.ensures.kept.leads) c.in_err-kept.ensures.cause

pub returns-in_err-joined-2-clause-cause : goal.returns-in_err-joined-2-clause-cause
returns-in_err-joined-2-clause-cause g t c = cause_here (g.B.Ground.faults c.args.blocks.now) (g.B.Ground.faults c.nodes_over.new.blocks) c.from_residual-in_err-joined-2.result Memory c.from_residual-in_err-joined-2.ensures.1 tt

pub returns-clause-cause : goal.returns-clause-cause
returns-clause-cause g t c = tt

pub returns-then-level-eq0-clause-cause : goal.returns-then-level-eq0-clause-cause
returns-then-level-eq0-clause-cause g t c = c.cut_leaves.ensures.cause

pub returns-then-is_empty-clause-cause : goal.returns-then-is_empty-clause-cause
returns-then-is_empty-clause-cause g t c = tt

pub open-requires-clause-cut_at : goal.open-requires-clause-cut_at
open-requires-clause-cut_at g t c = c.requires.cut_at

pub returns-in_err-joined-clause-extends : goal.returns-in_err-joined-clause-extends
returns-in_err-joined-clause-extends g t c = not_given c.from_residual.result _ Memory c.from_residual.ensures.1

pub returns-in_err-left-clause-extends : goal.returns-in_err-left-clause-extends
returns-in_err-left-clause-extends g t c = not_given c.from_residual-in_err-left.result _ c.in_err-left.field-0.0 c.from_residual-in_err-left.ensures.1

pub returns-in_err-kept-clause-extends : goal.returns-in_err-kept-clause-extends
returns-in_err-kept-clause-extends g t c = not_given c.from_residual-in_err-kept.result _ c.in_err-kept.field-0.0 c.from_residual-in_err-kept.ensures.1

pub returns-in_err-made-clause-extends : goal.returns-in_err-made-clause-extends
returns-in_err-made-clause-extends g t c = not_given c.from_residual-in_err-made.result _ c.in_err-made.field-0.0 c.from_residual-in_err-made.ensures.1

pub returns-in_err-joined-2-clause-extends : goal.returns-in_err-joined-2-clause-extends
returns-in_err-joined-2-clause-extends g t c = not_given c.from_residual-in_err-joined-2.result _ Memory c.from_residual-in_err-joined-2.ensures.1

pub returns-then-level-eq0-clause-extends : goal.returns-then-level-eq0-clause-extends
returns-then-level-eq0-clause-extends g t c = c.cut_leaves.ensures.extends

pub returns-then-is_empty-clause-extends : goal.returns-then-is_empty-clause-extends
returns-then-is_empty-clause-extends g t c = extends_refl g.B.Ground c.args.blocks.now

pub returns-in_err-joined-clause-fault : goal.returns-in_err-joined-clause-fault
returns-in_err-joined-clause-fault g t c = if_err_handed c.from_residual.result _ Memory c.from_residual.ensures.1 (λ told least same. tt)

pub returns-in_err-made-clause-fault : goal.returns-in_err-made-clause-fault
returns-in_err-made-clause-fault g t c = if_err_handed c.from_residual-in_err-made.result _ c.in_err-made.field-0.0 c.from_residual-in_err-made.ensures.1 (λ told least same. walk_undamaged (g.B.Ground.geometry c.args.blocks.now) (g.B.Ground.unit c.args.blocks.now) c.args.level least (all_of c.args.cut) c.in_err-made.field-0.0 c.in_err-made.ensures.no_damage)

pub returns-in_err-joined-2-clause-fault : goal.returns-in_err-joined-2-clause-fault
returns-in_err-joined-2-clause-fault g t c = if_err_handed c.from_residual-in_err-joined-2.result _ Memory c.from_residual-in_err-joined-2.ensures.1 (λ told least same. tt)

pub returns-clause-fault : goal.returns-clause-fault
returns-clause-fault g t c = tt

pub returns-then-is_empty-clause-fault : goal.returns-then-is_empty-clause-fault
returns-then-is_empty-clause-fault g t c = tt

pub cut_leaves-requires-clause-free : goal.cut_leaves-requires-clause-free
cut_leaves-requires-clause-free g t c = c.requires.free

pub returns-in_err-joined-clause-leads : goal.returns-in_err-joined-clause-leads
returns-in_err-joined-clause-leads g t c = g.B.Ground.leads_refl c.args.blocks.now

pub returns-in_err-left-clause-leads : goal.returns-in_err-left-clause-leads
returns-in_err-left-clause-leads g t c = c.open.ensures.kept.leads

pub returns-in_err-kept-clause-leads : goal.returns-in_err-kept-clause-leads
returns-in_err-kept-clause-leads g t c = g.B.Ground.leads_trans c.args.blocks.now c.open.new.blocks c.cut_row.new.blocks c.open.ensures.kept.leads c.in_err-kept.ensures.leads

pub returns-in_err-made-clause-leads : goal.returns-in_err-made-clause-leads
returns-in_err-made-clause-leads g t c = g.B.Ground.leads_trans c.args.blocks.now c.open.new.blocks c.nodes_over.new.blocks c.open.ensures.kept.leads (g.B.Ground.leads_trans c.open.new.blocks c.cut_row.new.blocks c.nodes_over.new.blocks c.in_ok-kept.ensures.leads c.in_err-made.ensures.leads)

pub returns-then-level-eq0-clause-leads : goal.returns-then-level-eq0-clause-leads
returns-then-level-eq0-clause-leads g t c = c.cut_leaves.ensures.leads

pub returns-then-is_empty-clause-leads : goal.returns-then-is_empty-clause-leads
returns-then-is_empty-clause-leads g t c = g.B.Ground.leads_refl c.args.blocks.now

pub returns-in_err-joined-clause-leaves : goal.returns-in_err-joined-clause-leaves
returns-in_err-joined-clause-leaves g t c = not_given c.from_residual.result _ Memory c.from_residual.ensures.1

pub returns-in_err-left-clause-leaves : goal.returns-in_err-left-clause-leaves
returns-in_err-left-clause-leaves g t c = not_given c.from_residual-in_err-left.result _ c.in_err-left.field-0.0 c.from_residual-in_err-left.ensures.1

pub returns-in_err-kept-clause-leaves : goal.returns-in_err-kept-clause-leaves
returns-in_err-kept-clause-leaves g t c = not_given c.from_residual-in_err-kept.result _ c.in_err-kept.field-0.0 c.from_residual-in_err-kept.ensures.1

pub returns-in_err-made-clause-leaves : goal.returns-in_err-made-clause-leaves
returns-in_err-made-clause-leaves g t c = not_given c.from_residual-in_err-made.result _ c.in_err-made.field-0.0 c.from_residual-in_err-made.ensures.1

pub returns-in_err-joined-2-clause-leaves : goal.returns-in_err-joined-2-clause-leaves
returns-in_err-joined-2-clause-leaves g t c = not_given c.from_residual-in_err-joined-2.result _ Memory c.from_residual-in_err-joined-2.ensures.1

pub returns-then-level-eq0-clause-leaves : goal.returns-then-level-eq0-clause-leaves
returns-then-level-eq0-clause-leaves g t c = c.cut_leaves.ensures.leaves

pub returns-then-is_empty-clause-leaves : goal.returns-then-is_empty-clause-leaves
returns-then-is_empty-clause-leaves g t c = omega arith

pub returns-in_err-joined-clause-left : goal.returns-in_err-joined-clause-left
returns-in_err-joined-clause-left g t c = no_value c.from_residual.result _ Memory c.from_residual.ensures.1

pub returns-in_err-left-clause-left : goal.returns-in_err-left-clause-left
returns-in_err-left-clause-left g t c = no_value c.from_residual-in_err-left.result _ c.in_err-left.field-0.0 c.from_residual-in_err-left.ensures.1

pub returns-in_err-kept-clause-left : goal.returns-in_err-kept-clause-left
returns-in_err-kept-clause-left g t c = no_value c.from_residual-in_err-kept.result _ c.in_err-kept.field-0.0 c.from_residual-in_err-kept.ensures.1

pub returns-in_err-made-clause-left : goal.returns-in_err-made-clause-left
returns-in_err-made-clause-left g t c = no_value c.from_residual-in_err-made.result _ c.in_err-made.field-0.0 c.from_residual-in_err-made.ensures.1

pub returns-in_err-joined-2-clause-left : goal.returns-in_err-joined-2-clause-left
returns-in_err-joined-2-clause-left g t c = no_value c.from_residual-in_err-joined-2.result _ Memory c.from_residual-in_err-joined-2.ensures.1

pub returns-in_err-joined-clause-left_of : goal.returns-in_err-joined-clause-left_of
returns-in_err-joined-clause-left_of g t c = no_value c.from_residual.result _ Memory c.from_residual.ensures.1

pub returns-in_err-left-clause-left_of : goal.returns-in_err-left-clause-left_of
returns-in_err-left-clause-left_of g t c = no_value c.from_residual-in_err-left.result _ c.in_err-left.field-0.0 c.from_residual-in_err-left.ensures.1

pub returns-in_err-kept-clause-left_of : goal.returns-in_err-kept-clause-left_of
returns-in_err-kept-clause-left_of g t c = no_value c.from_residual-in_err-kept.result _ c.in_err-kept.field-0.0 c.from_residual-in_err-kept.ensures.1

pub returns-in_err-made-clause-left_of : goal.returns-in_err-made-clause-left_of
returns-in_err-made-clause-left_of g t c = no_value c.from_residual-in_err-made.result _ c.in_err-made.field-0.0 c.from_residual-in_err-made.ensures.1

pub returns-in_err-joined-2-clause-left_of : goal.returns-in_err-joined-2-clause-left_of
returns-in_err-joined-2-clause-left_of g t c = no_value c.from_residual-in_err-joined-2.result _ Memory c.from_residual-in_err-joined-2.ensures.1

pub returns-then-level-eq0-clause-left_of : goal.returns-then-level-eq0-clause-left_of
returns-then-level-eq0-clause-left_of g t c = c.cut_leaves.ensures.left_of

pub open-requires-clause-level : goal.open-requires-clause-level
open-requires-clause-level g t c = omega (arith, c.if-level-eq0.false)

pub nodes_over-requires-clause-level : goal.nodes_over-requires-clause-level
nodes_over-requires-clause-level g t c = omega (arith, c.if-level-eq0.false)

pub returns-in_err-joined-clause-pages : goal.returns-in_err-joined-clause-pages
returns-in_err-joined-clause-pages g t c = not_given c.from_residual.result _ Memory c.from_residual.ensures.1

pub returns-in_err-left-clause-pages : goal.returns-in_err-left-clause-pages
returns-in_err-left-clause-pages g t c = not_given c.from_residual-in_err-left.result _ c.in_err-left.field-0.0 c.from_residual-in_err-left.ensures.1

pub returns-in_err-kept-clause-pages : goal.returns-in_err-kept-clause-pages
returns-in_err-kept-clause-pages g t c = not_given c.from_residual-in_err-kept.result _ c.in_err-kept.field-0.0 c.from_residual-in_err-kept.ensures.1

pub returns-in_err-made-clause-pages : goal.returns-in_err-made-clause-pages
returns-in_err-made-clause-pages g t c = not_given c.from_residual-in_err-made.result _ c.in_err-made.field-0.0 c.from_residual-in_err-made.ensures.1

pub returns-in_err-joined-2-clause-pages : goal.returns-in_err-joined-2-clause-pages
returns-in_err-joined-2-clause-pages g t c = not_given c.from_residual-in_err-joined-2.result _ Memory c.from_residual-in_err-joined-2.ensures.1

pub returns-then-is_empty-clause-pages : goal.returns-then-is_empty-clause-pages
returns-then-is_empty-clause-pages g t c = omega arith

pub open-requires-clause-ready : goal.open-requires-clause-ready
open-requires-clause-ready g t c = c.requires.ready

pub nodes_over-requires-clause-ready : goal.nodes_over-requires-clause-ready
nodes_over-requires-clause-ready g t c = g.B.Ground.leads_ready c.open.new.blocks c.cut_row.new.blocks c.in_ok-kept.ensures.leads (g.B.Ground.leads_ready c.args.blocks.now c.open.new.blocks c.open.ensures.kept.leads c.requires.ready)

pub cut_leaves-requires-clause-ready : goal.cut_leaves-requires-clause-ready
cut_leaves-requires-clause-ready g t c = c.requires.ready

pub returns-in_err-joined-clause-roots : goal.returns-in_err-joined-clause-roots
returns-in_err-joined-clause-roots g t c = no_value c.from_residual.result _ Memory c.from_residual.ensures.1

pub returns-in_err-left-clause-roots : goal.returns-in_err-left-clause-roots
returns-in_err-left-clause-roots g t c = no_value c.from_residual-in_err-left.result _ c.in_err-left.field-0.0 c.from_residual-in_err-left.ensures.1

pub returns-in_err-kept-clause-roots : goal.returns-in_err-kept-clause-roots
returns-in_err-kept-clause-roots g t c = no_value c.from_residual-in_err-kept.result _ c.in_err-kept.field-0.0 c.from_residual-in_err-kept.ensures.1

pub returns-in_err-made-clause-roots : goal.returns-in_err-made-clause-roots
returns-in_err-made-clause-roots g t c = no_value c.from_residual-in_err-made.result _ c.in_err-made.field-0.0 c.from_residual-in_err-made.ensures.1

pub returns-in_err-joined-2-clause-roots : goal.returns-in_err-joined-2-clause-roots
returns-in_err-joined-2-clause-roots g t c = no_value c.from_residual-in_err-joined-2.result _ Memory c.from_residual-in_err-joined-2.ensures.1

pub returns-in_err-joined-clause-way : goal.returns-in_err-joined-clause-way
returns-in_err-joined-clause-way g t c = not_given c.from_residual.result _ Memory c.from_residual.ensures.1

pub returns-in_err-left-clause-way : goal.returns-in_err-left-clause-way
returns-in_err-left-clause-way g t c = not_given c.from_residual-in_err-left.result _ c.in_err-left.field-0.0 c.from_residual-in_err-left.ensures.1

pub returns-in_err-kept-clause-way : goal.returns-in_err-kept-clause-way
returns-in_err-kept-clause-way g t c = not_given c.from_residual-in_err-kept.result _ c.in_err-kept.field-0.0 c.from_residual-in_err-kept.ensures.1

pub returns-in_err-made-clause-way : goal.returns-in_err-made-clause-way
returns-in_err-made-clause-way g t c = not_given c.from_residual-in_err-made.result _ c.in_err-made.field-0.0 c.from_residual-in_err-made.ensures.1

pub returns-in_err-joined-2-clause-way : goal.returns-in_err-joined-2-clause-way
returns-in_err-joined-2-clause-way g t c = not_given c.from_residual-in_err-joined-2.result _ Memory c.from_residual-in_err-joined-2.ensures.1

pub overflow_sub-level : goal.overflow_sub-level
overflow_sub-level g t c = omega (arith, c.if-level-eq0.false)
