use Rattle.std.proofs.Common.{arith, inl, inr, ◌≡◌, ◌≤◌, ◌+◌, ◌-◌, ◌/◌, ◌++◌, ◌∙◌, ap, sym, subst, refl, length, take, drop}
use Rattle.std.specs.List.{AllByRecursion}
use Rattle.ex_base.specs.Even.{sum_of}
use Rattle.ex_base.proofs.Spread.{plain, Between}
use Rattle.ex_base.proofs.Geometries.{leaf_some, leaf_most}
use Rattle.ex_base.proofs.Results.{if_err_handed}
use Rattle.trees.specs.Layout.{layout_of}
use Rattle.trees.specs.declared.rows.Part.{Part}
use Rattle.trees.specs.Damage.{IsWalkFault}
use Rattle.trees.proofs.Blame.{walk_part}
use Rattle.trees.specs.Rows.{row_size, row_bytes, row_shape, FitLeaves}
use Rattle.trees.specs.Made.{Holds, changed, sizes_of}
use Rattle.trees.specs.Grown.{Grew}
use Rattle.tree_insert.specs.Growth.{row_by}
use Rattle.ex_base.specs.Edits.{inserted}
use Rattle.tree_insert.specs.Places.{last_of, first_of, size_at}
use Rattle.tree_insert.proofs.LeafStep.{leaf_step, left_there, right_there, step_count, step_grown, leaves_grew}
use Rattle.ex_base.specs.Area.{NamesLeaf}
use Rattle.std.proofs.lemmas.Bool.{cases_lt}
use Rattle.tree_insert.proofs.SoundWays.{leaves_way_at}
use Rattle.ex_base.proofs.Handed.{no_value, not_given, cause_here}
use Rattle.ex_base.specs.declared.faults.PortFault.TheVariants.{Memory}
use Rattle.ex_base.proofs.Rows.{each-take, each-drop}
use Rattle.tree_insert.proofs.PlaceLaws.{read_size, read_most}
use Rattle.tree_insert.proofs.NodeStep.{spot_inside}
use Rattle.ex_base.specs.Sizes.{leaf_bytes}
use Rattle.tree_insert.proofs.grow.grow_leaves.Goals as goal

pub plan_for-plan-requires-clause-fits : goal.plan_for-plan-requires-clause-fits
plan_for-plan-requires-clause-fits g c =
    subst (λ k. AllByRecursion (λ (part : Part). part.size ≤ k) c.args.row.now) (sym c.requires.buffer) (c.requires.leaves refl)

pub run_of-run-requires-clause-left : goal.run_of-run-requires-clause-left
run_of-run-requires-clause-left g c =
    left_there c.args.growth (length c.args.buffer.now) c.args.row.now c.tree_at-index.result.0 (size_at c.args.row.now c.tree_at-index.result.0) (first_of (sizes_of (drop (c.tree_at-index.result.0 + 1) c.args.row.now))) (length c.args.given.now)
    (layout_of (length c.args.buffer.now) c.plan_for-plan.result) c.plan_for-plan.ensures.layout

pub run_of-run-requires-clause-right : goal.run_of-run-requires-clause-right
run_of-run-requires-clause-right g c =
    right_there c.args.growth (length c.args.buffer.now) c.args.row.now c.tree_at-index.result.0 (last_of (sizes_of (take c.tree_at-index.result.0 c.args.row.now))) (size_at c.args.row.now c.tree_at-index.result.0) (length c.args.given.now)
    (layout_of (length c.args.buffer.now) c.plan_for-plan.result) c.plan_for-plan.ensures.layout

pub write_leaves-requires-clause-change : goal.write_leaves-requires-clause-change
write_leaves-requires-clause-change g c =
    let step = leaf_step c.args.growth (g.B.Ground.geometry c.args.blocks.now).fan (length c.args.buffer.now) (length c.args.given.now) c.args.row.now c.args.pos c.tree_at-index.result.0 c.tree_at-index.result.1 c.run_of-run.result.first c.run_of-run.result.end c.run_of-run.result.at
    (layout_of (length c.args.buffer.now) c.plan_for-plan.result) (omega (arith, leaf_some (g.B.Ground.geometry c.args.blocks.now), c.requires.buffer)) c.requires.given c.requires.sizes
    (subst (λ k. AllByRecursion (λ (part : Part). part.size ≤ k) c.args.row.now) (sym c.requires.buffer) (c.requires.leaves refl)) c.requires.spot c.tree_at-index.ensures c.plan_for-plan.ensures.layout
    c.run_of-run.ensures.first c.run_of-run.ensures.end c.run_of-run.ensures.at c.run_of-run.ensures.inside in
    omega (arith, step.fits, ap row_size c.piece-old.ensures)

pub write_leaves-requires-clause-lengths : goal.write_leaves-requires-clause-lengths
write_leaves-requires-clause-lengths g c =
    let step = leaf_step c.args.growth (g.B.Ground.geometry c.args.blocks.now).fan (length c.args.buffer.now) (length c.args.given.now) c.args.row.now c.args.pos c.tree_at-index.result.0 c.tree_at-index.result.1 c.run_of-run.result.first c.run_of-run.result.end c.run_of-run.result.at
    (layout_of (length c.args.buffer.now) c.plan_for-plan.result) (omega (arith, leaf_some (g.B.Ground.geometry c.args.blocks.now), c.requires.buffer)) c.requires.given c.requires.sizes
    (subst (λ k. AllByRecursion (λ (part : Part). part.size ≤ k) c.args.row.now) (sym c.requires.buffer) (c.requires.leaves refl)) c.requires.spot c.tree_at-index.ensures c.plan_for-plan.ensures.layout
    c.run_of-run.ensures.first c.run_of-run.ensures.end c.run_of-run.ensures.at c.run_of-run.ensures.inside in
    subst (AllByRecursion (Between 1 (length c.args.buffer.now))) (sym (c.deref.ensures.value ∙ c.in_ok-lengths.ensures)) step.each

pub write_leaves-requires-clause-sum : goal.write_leaves-requires-clause-sum
write_leaves-requires-clause-sum g c =
    let step = leaf_step c.args.growth (g.B.Ground.geometry c.args.blocks.now).fan (length c.args.buffer.now) (length c.args.given.now) c.args.row.now c.args.pos c.tree_at-index.result.0 c.tree_at-index.result.1 c.run_of-run.result.first c.run_of-run.result.end c.run_of-run.result.at
    (layout_of (length c.args.buffer.now) c.plan_for-plan.result) (omega (arith, leaf_some (g.B.Ground.geometry c.args.blocks.now), c.requires.buffer)) c.requires.given c.requires.sizes
    (subst (λ k. AllByRecursion (λ (part : Part). part.size ≤ k) c.args.row.now) (sym c.requires.buffer) (c.requires.leaves refl)) c.requires.spot c.tree_at-index.ensures c.plan_for-plan.ensures.layout
    c.run_of-run.ensures.first c.run_of-run.ensures.end c.run_of-run.ensures.at c.run_of-run.ensures.inside in
    omega (arith, step.sum, ap (sum_of plain) (c.deref.ensures.value ∙ c.in_ok-lengths.ensures), ap row_size c.piece-old.ensures)

pub write_leaves-requires-clause-limit : goal.write_leaves-requires-clause-limit
write_leaves-requires-clause-limit g c =
    let step = leaf_step c.args.growth (g.B.Ground.geometry c.args.blocks.now).fan (length c.args.buffer.now) (length c.args.given.now) c.args.row.now c.args.pos c.tree_at-index.result.0 c.tree_at-index.result.1 c.run_of-run.result.first c.run_of-run.result.end c.run_of-run.result.at
    (layout_of (length c.args.buffer.now) c.plan_for-plan.result) (omega (arith, leaf_some (g.B.Ground.geometry c.args.blocks.now), c.requires.buffer)) c.requires.given c.requires.sizes
    (subst (λ k. AllByRecursion (λ (part : Part). part.size ≤ k) c.args.row.now) (sym c.requires.buffer) (c.requires.leaves refl)) c.requires.spot c.tree_at-index.ensures c.plan_for-plan.ensures.layout
    c.run_of-run.ensures.first c.run_of-run.ensures.end c.run_of-run.ensures.at c.run_of-run.ensures.inside in
    omega (arith, step.smaller, ap row_size c.piece-old.ensures, c.requires.limit)

pub write_leaves-requires-clause-free : goal.write_leaves-requires-clause-free
write_leaves-requires-clause-free g c =
    let step = leaf_step c.args.growth (g.B.Ground.geometry c.args.blocks.now).fan (length c.args.buffer.now) (length c.args.given.now) c.args.row.now c.args.pos c.tree_at-index.result.0 c.tree_at-index.result.1 c.run_of-run.result.first c.run_of-run.result.end c.run_of-run.result.at
    (layout_of (length c.args.buffer.now) c.plan_for-plan.result) (omega (arith, leaf_some (g.B.Ground.geometry c.args.blocks.now), c.requires.buffer)) c.requires.given c.requires.sizes
    (subst (λ k. AllByRecursion (λ (part : Part). part.size ≤ k) c.args.row.now) (sym c.requires.buffer) (c.requires.leaves refl)) c.requires.spot c.tree_at-index.ensures c.plan_for-plan.ensures.layout
    c.run_of-run.ensures.first c.run_of-run.ensures.end c.run_of-run.ensures.at c.run_of-run.ensures.inside in
    omega (arith, step.few, ap length (c.deref.ensures.value ∙ c.in_ok-lengths.ensures), c.requires.free, ap (λ k. length c.args.given.now / k) c.requires.buffer)

pub returns-clause-grown : goal.returns-clause-grown
returns-clause-grown g c =
    let step = leaf_step c.args.growth (g.B.Ground.geometry c.args.blocks.now).fan (length c.args.buffer.now) (length c.args.given.now) c.args.row.now c.args.pos c.tree_at-index.result.0 c.tree_at-index.result.1 c.run_of-run.result.first c.run_of-run.result.end c.run_of-run.result.at
    (layout_of (length c.args.buffer.now) c.plan_for-plan.result) (omega (arith, leaf_some (g.B.Ground.geometry c.args.blocks.now), c.requires.buffer)) c.requires.given c.requires.sizes
    (subst (λ k. AllByRecursion (λ (part : Part). part.size ≤ k) c.args.row.now) (sym c.requires.buffer) (c.requires.leaves refl)) c.requires.spot c.tree_at-index.ensures c.plan_for-plan.ensures.layout
    c.run_of-run.ensures.first c.run_of-run.ensures.end c.run_of-run.ensures.at c.run_of-run.ensures.inside in
    step_grown c.args.growth (g.B.Ground.geometry c.args.blocks.now).fan (length c.args.buffer.now) (length c.args.given.now) c.args.row.now c.args.pos c.run_of-run.result.first c.run_of-run.result.end c.run_of-run.result.at (layout_of (length c.args.buffer.now) c.plan_for-plan.result).lengths
    c.in_ok-made.made.items c.in_ok-spliced.field-0.items (omega (arith, c.run_of-run.ensures.first, c.run_of-run.ensures.end)) c.run_of-run.ensures.inside c.requires.some c.requires.sizes step (c.in_ok-spliced.ensures ∙ ap (λ m. (take c.run_of-run.result.first c.args.row.now ++ m) ++ drop c.run_of-run.result.end c.args.row.now) c.deref-2.ensures.value) (c.in_ok-made.ensures.sizes ∙ c.deref.ensures.value ∙ c.in_ok-lengths.ensures)

pub returns-clause-count : goal.returns-clause-count
returns-clause-count g c =
    let step = leaf_step c.args.growth (g.B.Ground.geometry c.args.blocks.now).fan (length c.args.buffer.now) (length c.args.given.now) c.args.row.now c.args.pos c.tree_at-index.result.0 c.tree_at-index.result.1 c.run_of-run.result.first c.run_of-run.result.end c.run_of-run.result.at
    (layout_of (length c.args.buffer.now) c.plan_for-plan.result) (omega (arith, leaf_some (g.B.Ground.geometry c.args.blocks.now), c.requires.buffer)) c.requires.given c.requires.sizes
    (subst (λ k. AllByRecursion (λ (part : Part). part.size ≤ k) c.args.row.now) (sym c.requires.buffer) (c.requires.leaves refl)) c.requires.spot c.tree_at-index.ensures c.plan_for-plan.ensures.layout
    c.run_of-run.ensures.first c.run_of-run.ensures.end c.run_of-run.ensures.at c.run_of-run.ensures.inside in
    omega (
      arith,
      step_count c.run_of-run.result.first c.run_of-run.result.end c.args.row.now c.in_ok-made.made.items c.in_ok-spliced.field-0.items (layout_of (length c.args.buffer.now) c.plan_for-plan.result).lengths (omega (arith, c.run_of-run.ensures.first, c.run_of-run.ensures.end)) c.run_of-run.ensures.inside (c.in_ok-spliced.ensures ∙ ap (λ m. (take c.run_of-run.result.first c.args.row.now ++ m) ++ drop c.run_of-run.result.end c.args.row.now) c.deref-2.ensures.value) (c.in_ok-made.ensures.sizes ∙ c.deref.ensures.value ∙ c.in_ok-lengths.ensures),
      c.run_of-run.ensures.first,
      c.run_of-run.ensures.end,
      step.few,
      ap (λ k. length c.args.given.now / k) c.requires.buffer,
    )

pub returns-clause-leaves : goal.returns-clause-leaves
returns-clause-leaves g c =
    let step = leaf_step c.args.growth (g.B.Ground.geometry c.args.blocks.now).fan (length c.args.buffer.now) (length c.args.given.now) c.args.row.now c.args.pos c.tree_at-index.result.0 c.tree_at-index.result.1 c.run_of-run.result.first c.run_of-run.result.end c.run_of-run.result.at
    (layout_of (length c.args.buffer.now) c.plan_for-plan.result) (omega (arith, leaf_some (g.B.Ground.geometry c.args.blocks.now), c.requires.buffer)) c.requires.given c.requires.sizes
    (subst (λ k. AllByRecursion (λ (part : Part). part.size ≤ k) c.args.row.now) (sym c.requires.buffer) (c.requires.leaves refl)) c.requires.spot c.tree_at-index.ensures c.plan_for-plan.ensures.layout
    c.run_of-run.ensures.first c.run_of-run.ensures.end c.run_of-run.ensures.at c.run_of-run.ensures.inside in
    omega (arith, c.in_ok-made.ensures.spent.of_leaves, step.few, ap length (c.deref.ensures.value ∙ c.in_ok-lengths.ensures), ap (λ k. length c.args.given.now / k) c.requires.buffer)

pub returns-clause-grew : goal.returns-clause-grew
returns-clause-grew g c = λ told holds.
    let step = leaf_step c.args.growth (g.B.Ground.geometry c.args.blocks.now).fan (length c.args.buffer.now) (length c.args.given.now) c.args.row.now c.args.pos c.tree_at-index.result.0 c.tree_at-index.result.1 c.run_of-run.result.first c.run_of-run.result.end c.run_of-run.result.at
    (layout_of (length c.args.buffer.now) c.plan_for-plan.result) (omega (arith, leaf_some (g.B.Ground.geometry c.args.blocks.now), c.requires.buffer)) c.requires.given c.requires.sizes
    (subst (λ k. AllByRecursion (λ (part : Part). part.size ≤ k) c.args.row.now) (sym c.requires.buffer) (c.requires.leaves refl)) c.requires.spot c.tree_at-index.ensures c.plan_for-plan.ensures.layout
    c.run_of-run.ensures.first c.run_of-run.ensures.end c.run_of-run.ensures.at c.run_of-run.ensures.inside in
    let made = c.in_ok-made.ensures in
    let bytes : Holds g.B.Ground c.args.blocks.now 0 (take (c.run_of-run.result.end - c.run_of-run.result.first) (drop c.run_of-run.result.first c.args.row.now))
    → row_bytes (g.B.Ground.unit c.write_leaves.new.blocks) 0 c.in_ok-made.made.items ≡ changed (row_bytes (g.B.Ground.unit c.args.blocks.now) 0 (take (c.run_of-run.result.end - c.run_of-run.result.first) (drop c.run_of-run.result.first c.args.row.now))) c.run_of-run.result.at 0 c.args.given.now =
    subst (λ r. Holds g.B.Ground c.args.blocks.now 0 r → row_bytes (g.B.Ground.unit c.write_leaves.new.blocks) 0 c.in_ok-made.made.items ≡ changed (row_bytes (g.B.Ground.unit c.args.blocks.now) 0 r) c.run_of-run.result.at 0 c.args.given.now) c.piece-old.ensures (made.bytes told) in
    subst (λ k. Grew g.B.Ground c.args.blocks.now c.write_leaves.new.blocks 0 c.args.row.now c.in_ok-spliced.field-0.items (inserted (row_bytes (g.B.Ground.unit c.args.blocks.now) 0 c.args.row.now) c.args.pos c.args.given.now)
    (row_by c.args.growth (g.B.Ground.geometry c.args.blocks.now).fan k (length c.args.given.now) 0 (row_shape (g.B.Ground.unit c.args.blocks.now) 0 c.args.row.now) c.args.pos)) c.requires.buffer
    (leaves_grew g.B.Ground c.args.blocks.now c.write_leaves.new.blocks c.args.growth (g.B.Ground.geometry c.args.blocks.now).fan (length c.args.buffer.now) c.args.row.now c.args.pos c.run_of-run.result.first c.run_of-run.result.end c.run_of-run.result.at c.args.given.now
    (layout_of (length c.args.buffer.now) c.plan_for-plan.result).lengths c.in_ok-made.made.items c.in_ok-spliced.field-0.items c.requires.ready told c.requires.buffer step made.extends holds (c.in_ok-spliced.ensures ∙ ap (λ m. (take c.run_of-run.result.first c.args.row.now ++ m) ++ drop c.run_of-run.result.end c.args.row.now) c.deref-2.ensures.value) (c.in_ok-made.ensures.sizes ∙ c.deref.ensures.value ∙ c.in_ok-lengths.ensures) made.named made.took made.counts bytes)

pub returns-in_err-made-clause-fault : goal.returns-in_err-made-clause-fault
returns-in_err-made-clause-fault g c =
    if_err_handed c.from_residual-in_err-made.result _ c.in_err-made.field-0.0 c.from_residual-in_err-made.ensures.1
    (λ told. walk_part (g.B.Ground.geometry c.args.blocks.now) (g.B.Ground.unit c.args.blocks.now) 0 0 c.run_of-run.result.first (c.run_of-run.result.end - c.run_of-run.result.first) c.args.row.now c.in_err-made.field-0.0
    (subst (λ r. IsWalkFault (g.B.Ground.geometry c.args.blocks.now) (g.B.Ground.unit c.args.blocks.now) 0 0 r c.in_err-made.field-0.0) c.piece-old.ensures (c.in_err-made.ensures.fault told)))

pub returns-clause-way : goal.returns-clause-way
returns-clause-way g c = λ told.
    leaves_way_at (g.B.Ground.geometry c.args.blocks.now) (g.B.Ground.unit c.args.blocks.now) (NamesLeaf (g.B.Ground.geometry c.args.blocks.now)) c.args.row.now c.piece-old.result.now c.args.pos c.tree_at-index.result.0 c.tree_at-index.result.1 c.run_of-run.result.first c.run_of-run.result.end c.requires.sizes c.tree_at-index.ensures
    (omega (arith, c.run_of-run.ensures.first)) (omega (arith, c.run_of-run.ensures.end)) c.run_of-run.ensures.inside c.piece-old.ensures
    (λ byte inside. c.in_ok-made.ensures.way told byte inside (elim (cases_lt byte c.run_of-run.result.at) [
      | inl before ↦ inl before
      | inr behind ↦ inr (omega arith)
    ]))

-- ---- what else is asked and promised

pub returns-in_err-lengths-clause-count : goal.returns-in_err-lengths-clause-count
returns-in_err-lengths-clause-count g c = no_value c.from_residual.result _ Memory c.from_residual.ensures.1

pub returns-in_err-lengths-clause-grew : goal.returns-in_err-lengths-clause-grew
returns-in_err-lengths-clause-grew g c = no_value c.from_residual.result _ Memory c.from_residual.ensures.1

pub returns-in_err-lengths-clause-grown : goal.returns-in_err-lengths-clause-grown
returns-in_err-lengths-clause-grown g c = no_value c.from_residual.result _ Memory c.from_residual.ensures.1

pub returns-in_err-lengths-clause-extends : goal.returns-in_err-lengths-clause-extends
returns-in_err-lengths-clause-extends g c = not_given c.from_residual.result _ Memory c.from_residual.ensures.1

pub returns-in_err-lengths-clause-leaves : goal.returns-in_err-lengths-clause-leaves
returns-in_err-lengths-clause-leaves g c = not_given c.from_residual.result _ Memory c.from_residual.ensures.1

pub returns-in_err-lengths-clause-pages : goal.returns-in_err-lengths-clause-pages
returns-in_err-lengths-clause-pages g c = not_given c.from_residual.result _ Memory c.from_residual.ensures.1

pub returns-in_err-lengths-clause-way : goal.returns-in_err-lengths-clause-way
returns-in_err-lengths-clause-way g c = not_given c.from_residual.result _ Memory c.from_residual.ensures.1

pub returns-in_err-lengths-clause-fault : goal.returns-in_err-lengths-clause-fault
returns-in_err-lengths-clause-fault g c = if_err_handed c.from_residual.result _ Memory c.from_residual.ensures.1 (λ told. tt)

pub returns-in_err-lengths-clause-leads : goal.returns-in_err-lengths-clause-leads
returns-in_err-lengths-clause-leads g c = g.B.Ground.leads_refl c.args.blocks.now

pub returns-in_err-lengths-clause-cause : goal.returns-in_err-lengths-clause-cause
returns-in_err-lengths-clause-cause g c = cause_here (g.B.Ground.faults c.args.blocks.now) (g.B.Ground.faults c.args.blocks.now) c.from_residual.result Memory c.from_residual.ensures.1 tt

pub returns-in_err-made-clause-count : goal.returns-in_err-made-clause-count
returns-in_err-made-clause-count g c = no_value c.from_residual-in_err-made.result _ c.in_err-made.field-0.0 c.from_residual-in_err-made.ensures.1

pub returns-in_err-made-clause-grew : goal.returns-in_err-made-clause-grew
returns-in_err-made-clause-grew g c = no_value c.from_residual-in_err-made.result _ c.in_err-made.field-0.0 c.from_residual-in_err-made.ensures.1

pub returns-in_err-made-clause-grown : goal.returns-in_err-made-clause-grown
returns-in_err-made-clause-grown g c = no_value c.from_residual-in_err-made.result _ c.in_err-made.field-0.0 c.from_residual-in_err-made.ensures.1

pub returns-in_err-made-clause-extends : goal.returns-in_err-made-clause-extends
returns-in_err-made-clause-extends g c = not_given c.from_residual-in_err-made.result _ c.in_err-made.field-0.0 c.from_residual-in_err-made.ensures.1

pub returns-in_err-made-clause-leaves : goal.returns-in_err-made-clause-leaves
returns-in_err-made-clause-leaves g c = not_given c.from_residual-in_err-made.result _ c.in_err-made.field-0.0 c.from_residual-in_err-made.ensures.1

pub returns-in_err-made-clause-pages : goal.returns-in_err-made-clause-pages
returns-in_err-made-clause-pages g c = not_given c.from_residual-in_err-made.result _ c.in_err-made.field-0.0 c.from_residual-in_err-made.ensures.1

pub returns-in_err-made-clause-way : goal.returns-in_err-made-clause-way
returns-in_err-made-clause-way g c = not_given c.from_residual-in_err-made.result _ c.in_err-made.field-0.0 c.from_residual-in_err-made.ensures.1

pub returns-in_err-made-clause-leads : goal.returns-in_err-made-clause-leads
returns-in_err-made-clause-leads g c = c.in_err-made.ensures.leads

pub returns-in_err-made-clause-cause : goal.returns-in_err-made-clause-cause
returns-in_err-made-clause-cause g c = cause_here (g.B.Ground.faults c.args.blocks.now) (g.B.Ground.faults c.write_leaves.new.blocks) c.from_residual-in_err-made.result c.in_err-made.field-0.0 c.from_residual-in_err-made.ensures.1 c.in_err-made.ensures.cause

pub returns-in_err-spliced-clause-count : goal.returns-in_err-spliced-clause-count
returns-in_err-spliced-clause-count g c = no_value c.from_residual-in_err-spliced.result _ Memory c.from_residual-in_err-spliced.ensures.1

pub returns-in_err-spliced-clause-grew : goal.returns-in_err-spliced-clause-grew
returns-in_err-spliced-clause-grew g c = no_value c.from_residual-in_err-spliced.result _ Memory c.from_residual-in_err-spliced.ensures.1

pub returns-in_err-spliced-clause-grown : goal.returns-in_err-spliced-clause-grown
returns-in_err-spliced-clause-grown g c = no_value c.from_residual-in_err-spliced.result _ Memory c.from_residual-in_err-spliced.ensures.1

pub returns-in_err-spliced-clause-extends : goal.returns-in_err-spliced-clause-extends
returns-in_err-spliced-clause-extends g c = not_given c.from_residual-in_err-spliced.result _ Memory c.from_residual-in_err-spliced.ensures.1

pub returns-in_err-spliced-clause-leaves : goal.returns-in_err-spliced-clause-leaves
returns-in_err-spliced-clause-leaves g c = not_given c.from_residual-in_err-spliced.result _ Memory c.from_residual-in_err-spliced.ensures.1

pub returns-in_err-spliced-clause-pages : goal.returns-in_err-spliced-clause-pages
returns-in_err-spliced-clause-pages g c = not_given c.from_residual-in_err-spliced.result _ Memory c.from_residual-in_err-spliced.ensures.1

pub returns-in_err-spliced-clause-way : goal.returns-in_err-spliced-clause-way
returns-in_err-spliced-clause-way g c = not_given c.from_residual-in_err-spliced.result _ Memory c.from_residual-in_err-spliced.ensures.1

pub returns-in_err-spliced-clause-fault : goal.returns-in_err-spliced-clause-fault
returns-in_err-spliced-clause-fault g c = if_err_handed c.from_residual-in_err-spliced.result _ Memory c.from_residual-in_err-spliced.ensures.1 (λ told. tt)

pub returns-in_err-spliced-clause-leads : goal.returns-in_err-spliced-clause-leads
returns-in_err-spliced-clause-leads g c = c.in_ok-made.ensures.leads

pub returns-in_err-spliced-clause-cause : goal.returns-in_err-spliced-clause-cause
returns-in_err-spliced-clause-cause g c = cause_here (g.B.Ground.faults c.args.blocks.now) (g.B.Ground.faults c.write_leaves.new.blocks) c.from_residual-in_err-spliced.result Memory c.from_residual-in_err-spliced.ensures.1 tt

pub returns-clause-cause : goal.returns-clause-cause
returns-clause-cause g c = tt

pub returns-clause-fault : goal.returns-clause-fault
returns-clause-fault g c = tt

pub returns-clause-extends : goal.returns-clause-extends
returns-clause-extends g c = c.in_ok-made.ensures.extends

pub returns-clause-leads : goal.returns-clause-leads
returns-clause-leads g c = c.in_ok-made.ensures.leads

pub write_leaves-requires-clause-ready : goal.write_leaves-requires-clause-ready
write_leaves-requires-clause-ready g c = c.requires.ready

pub write_leaves-requires-clause-buffer : goal.write_leaves-requires-clause-buffer
write_leaves-requires-clause-buffer g c = c.requires.buffer

pub tree_at-index-requires-clause-some : goal.tree_at-index-requires-clause-some
tree_at-index-requires-clause-some g c = c.requires.some

pub write_leaves-requires-clause-leaves : goal.write_leaves-requires-clause-leaves
write_leaves-requires-clause-leaves g c = subst (FitLeaves (g.B.Ground.geometry c.args.blocks.now) 0) (sym c.piece-old.ensures) (λ zero. each-take (λ (part : Part). part.size ≤ leaf_bytes (g.B.Ground.geometry c.args.blocks.now)) (c.run_of-run.result.end - c.run_of-run.result.first) (drop c.run_of-run.result.first c.args.row.now) (each-drop (λ (part : Part). part.size ≤ leaf_bytes (g.B.Ground.geometry c.args.blocks.now)) c.run_of-run.result.first c.args.row.now (c.requires.leaves refl)))

pub spliced-requires-clause-inside : goal.spliced-requires-clause-inside
spliced-requires-clause-inside g c = c.run_of-run.ensures.inside

pub spliced-requires-clause-order : goal.spliced-requires-clause-order
spliced-requires-clause-order g c = omega (arith, c.run_of-run.ensures.first, c.run_of-run.ensures.end)

pub run_of-run-requires-clause-limit : goal.run_of-run-requires-clause-limit
run_of-run-requires-clause-limit g c = omega (arith, c.tree_at-index.ensures.fits, read_size c.args.row.now c.tree_at-index.result.0 c.tree_at-index.ensures.inside, read_most c.args.row.now c.tree_at-index.result.0, c.requires.limit)

pub returns-clause-pages : goal.returns-clause-pages
returns-clause-pages g c = omega (arith, c.in_ok-made.ensures.spent.of_pages)

pub lengths_of-requires-clause-plan : goal.lengths_of-requires-clause-plan
lengths_of-requires-clause-plan g c = c.plan_for-plan.ensures.usable

pub lengths_of-requires-clause-cap : goal.lengths_of-requires-clause-cap
lengths_of-requires-clause-cap g c = omega (arith, leaf_some (g.B.Ground.geometry c.args.blocks.now), c.requires.buffer)

pub plan_for-plan-requires-clause-cap : goal.plan_for-plan-requires-clause-cap
plan_for-plan-requires-clause-cap g c = omega (arith, leaf_some (g.B.Ground.geometry c.args.blocks.now), c.requires.buffer)

pub overflow_cast-cap : goal.overflow_cast-cap
overflow_cast-cap g c = omega (arith, leaf_most (g.B.Ground.geometry c.args.blocks.now), c.requires.buffer)

pub piece-old-requires : goal.piece-old-requires
piece-old-requires g c = omega (arith, c.run_of-run.ensures.first, c.run_of-run.ensures.end, c.run_of-run.ensures.inside)

pub overflow_sub-run : goal.overflow_sub-run
overflow_sub-run g c = omega (arith, c.run_of-run.ensures.first, c.run_of-run.ensures.end)

pub run_of-run-requires-clause-index : goal.run_of-run-requires-clause-index
run_of-run-requires-clause-index g c = c.tree_at-index.ensures.inside

pub plan_for-plan-requires-clause-index : goal.plan_for-plan-requires-clause-index
plan_for-plan-requires-clause-index g c = c.tree_at-index.ensures.inside

pub plan_for-plan-requires-clause-limit : goal.plan_for-plan-requires-clause-limit
plan_for-plan-requires-clause-limit g c = c.requires.limit

pub tree_at-index-requires-clause-pos : goal.tree_at-index-requires-clause-pos
tree_at-index-requires-clause-pos g c = spot_inside c.args.growth c.args.pos (row_size c.args.row.now) c.requires.spot
