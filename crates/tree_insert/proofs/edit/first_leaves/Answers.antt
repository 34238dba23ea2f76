use Rattle.std.proofs.Common.{arith, ◌-◌, ◌/◌, ◌∙◌, ap, subst, length}
use Rattle.std.proofs.lemmas.Result.{IfOk-at_ok}
use Rattle.trees.specs.Layout.{layout_of}
use Rattle.tree_insert.proofs.RootGrow.{AreFirst, first_plan, first_grown, first_count, first_grew}
use Rattle.ex_base.proofs.Handed.{no_value, not_given, cause_here}
use Rattle.ex_base.specs.declared.faults.PortFault.TheVariants.{Memory}
use Rattle.tree_insert.proofs.edit.first_leaves.Goals as goal
use Rattle.ex_base.proofs.Geometries.{leaf_some, page_le, leaf_most}
use Rattle.ex_base.proofs.Results.{from_ok, if_ok_from, on_ok_from, if_err_handed}

pub write_leaves-requires-clause-lengths : goal.write_leaves-requires-clause-lengths
write_leaves-requires-clause-lengths g c =
    let h = first_plan (length c.args.buffer.now) (length c.args.given.now) (g.B.Ground.geometry c.args.blocks.now).page_size c.deref.result.now (layout_of (length c.args.buffer.now) c.plan_append-plan.result)
    (omega (arith, leaf_some (g.B.Ground.geometry c.args.blocks.now), c.requires.buffer)) c.requires.given (omega (arith, page_le (g.B.Ground.geometry c.args.blocks.now), c.requires.buffer)) c.plan_append-plan.ensures.layout (c.deref.ensures.value ∙ c.in_ok-lengths.ensures) in
    h.each

pub write_leaves-requires-clause-sum : goal.write_leaves-requires-clause-sum
write_leaves-requires-clause-sum g c =
    let h = first_plan (length c.args.buffer.now) (length c.args.given.now) (g.B.Ground.geometry c.args.blocks.now).page_size c.deref.result.now (layout_of (length c.args.buffer.now) c.plan_append-plan.result)
    (omega (arith, leaf_some (g.B.Ground.geometry c.args.blocks.now), c.requires.buffer)) c.requires.given (omega (arith, page_le (g.B.Ground.geometry c.args.blocks.now), c.requires.buffer)) c.plan_append-plan.ensures.layout (c.deref.ensures.value ∙ c.in_ok-lengths.ensures) in
    omega (arith, h.sum)

pub write_leaves-requires-clause-free : goal.write_leaves-requires-clause-free
write_leaves-requires-clause-free g c =
    let h = first_plan (length c.args.buffer.now) (length c.args.given.now) (g.B.Ground.geometry c.args.blocks.now).page_size c.deref.result.now (layout_of (length c.args.buffer.now) c.plan_append-plan.result)
    (omega (arith, leaf_some (g.B.Ground.geometry c.args.blocks.now), c.requires.buffer)) c.requires.given (omega (arith, page_le (g.B.Ground.geometry c.args.blocks.now), c.requires.buffer)) c.plan_append-plan.ensures.layout (c.deref.ensures.value ∙ c.in_ok-lengths.ensures) in
    omega (arith, h.few, c.requires.free, ap (λ k. (length c.args.given.now - (g.B.Ground.geometry c.args.blocks.now).page_size) / k) c.requires.buffer)

pub returns-clause-grown : goal.returns-clause-grown
returns-clause-grown g c =
    let h = first_plan (length c.args.buffer.now) (length c.args.given.now) (g.B.Ground.geometry c.args.blocks.now).page_size c.deref.result.now (layout_of (length c.args.buffer.now) c.plan_append-plan.result)
    (omega (arith, leaf_some (g.B.Ground.geometry c.args.blocks.now), c.requires.buffer)) c.requires.given (omega (arith, page_le (g.B.Ground.geometry c.args.blocks.now), c.requires.buffer)) c.plan_append-plan.ensures.layout (c.deref.ensures.value ∙ c.in_ok-lengths.ensures) in
    if_ok_from c.write_leaves.result _ (λ made is. first_grown (length c.args.buffer.now) (length c.args.given.now) (g.B.Ground.geometry c.args.blocks.now).page_size c.deref.result.now made.items h (IfOk-at_ok _ is c.write_leaves.ensures.sizes))

pub returns-clause-count : goal.returns-clause-count
returns-clause-count g c =
    let h = first_plan (length c.args.buffer.now) (length c.args.given.now) (g.B.Ground.geometry c.args.blocks.now).page_size c.deref.result.now (layout_of (length c.args.buffer.now) c.plan_append-plan.result)
    (omega (arith, leaf_some (g.B.Ground.geometry c.args.blocks.now), c.requires.buffer)) c.requires.given (omega (arith, page_le (g.B.Ground.geometry c.args.blocks.now), c.requires.buffer)) c.plan_append-plan.ensures.layout (c.deref.ensures.value ∙ c.in_ok-lengths.ensures) in
    if_ok_from c.write_leaves.result _ (λ made is. omega (arith, ap (λ k. (length c.args.given.now - (g.B.Ground.geometry c.args.blocks.now).page_size) / k) c.requires.buffer, first_count (length c.args.buffer.now) (length c.args.given.now) (g.B.Ground.geometry c.args.blocks.now).page_size c.deref.result.now made.items h (IfOk-at_ok _ is c.write_leaves.ensures.sizes)))

pub returns-clause-leaves : goal.returns-clause-leaves
returns-clause-leaves g c =
    let h = first_plan (length c.args.buffer.now) (length c.args.given.now) (g.B.Ground.geometry c.args.blocks.now).page_size c.deref.result.now (layout_of (length c.args.buffer.now) c.plan_append-plan.result)
    (omega (arith, leaf_some (g.B.Ground.geometry c.args.blocks.now), c.requires.buffer)) c.requires.given (omega (arith, page_le (g.B.Ground.geometry c.args.blocks.now), c.requires.buffer)) c.plan_append-plan.ensures.layout (c.deref.ensures.value ∙ c.in_ok-lengths.ensures) in
    on_ok_from c.write_leaves.result _ (λ made is. omega (arith, ap (λ k. (length c.args.given.now - (g.B.Ground.geometry c.args.blocks.now).page_size) / k) c.requires.buffer, (from_ok c.write_leaves.result made _ is c.write_leaves.ensures.spent).of_leaves, h.few))

pub returns-clause-pages : goal.returns-clause-pages
returns-clause-pages g c = on_ok_from c.write_leaves.result _ (λ made is. omega (arith, (from_ok c.write_leaves.result made _ is c.write_leaves.ensures.spent).of_pages))

pub returns-clause-grew : goal.returns-clause-grew
returns-clause-grew g c =
    let h = first_plan (length c.args.buffer.now) (length c.args.given.now) (g.B.Ground.geometry c.args.blocks.now).page_size c.deref.result.now (layout_of (length c.args.buffer.now) c.plan_append-plan.result)
    (omega (arith, leaf_some (g.B.Ground.geometry c.args.blocks.now), c.requires.buffer)) c.requires.given (omega (arith, page_le (g.B.Ground.geometry c.args.blocks.now), c.requires.buffer)) c.plan_append-plan.ensures.layout (c.deref.ensures.value ∙ c.in_ok-lengths.ensures) in
    if_ok_from c.write_leaves.result _ (λ made is told. first_grew g.B.Ground c.args.blocks.now c.write_leaves.new.blocks (length c.args.given.now) (g.B.Ground.geometry c.args.blocks.now).page_size c.args.given.now c.deref.result.now made.items
    (subst (λ k. AreFirst k (length c.args.given.now) (g.B.Ground.geometry c.args.blocks.now).page_size c.deref.result.now) c.requires.buffer h) (from_ok c.write_leaves.result made _ is c.write_leaves.ensures.extends) (IfOk-at_ok _ is c.write_leaves.ensures.sizes)
    (IfOk-at_ok _ is c.write_leaves.ensures.named) (IfOk-at_ok _ is c.write_leaves.ensures.took) (from_ok c.write_leaves.result made _ is c.write_leaves.ensures.counts) (IfOk-at_ok _ is c.write_leaves.ensures.bytes told))

pub lengths_of-requires-clause-plan : goal.lengths_of-requires-clause-plan
lengths_of-requires-clause-plan g c = c.plan_append-plan.ensures.usable

pub lengths_of-requires-clause-cap : goal.lengths_of-requires-clause-cap
lengths_of-requires-clause-cap g c = omega (arith, leaf_some (g.B.Ground.geometry c.args.blocks.now), c.requires.buffer)

pub plan_append-plan-requires-clause-cap : goal.plan_append-plan-requires-clause-cap
plan_append-plan-requires-clause-cap g c = omega (arith, leaf_some (g.B.Ground.geometry c.args.blocks.now), c.requires.buffer)

pub overflow_cast-cap : goal.overflow_cast-cap
overflow_cast-cap g c = omega (arith, leaf_most (g.B.Ground.geometry c.args.blocks.now), c.requires.buffer)

pub write_leaves-requires-clause-buffer : goal.write_leaves-requires-clause-buffer
write_leaves-requires-clause-buffer g c = c.requires.buffer

pub write_leaves-requires-clause-ready : goal.write_leaves-requires-clause-ready
write_leaves-requires-clause-ready g c = c.requires.ready

pub write_leaves-requires-clause-limit : goal.write_leaves-requires-clause-limit
write_leaves-requires-clause-limit g c = omega (arith, c.requires.limit)

pub returns-clause-cause : goal.returns-clause-cause
returns-clause-cause g c = c.write_leaves.ensures.cause

pub returns-clause-fault : goal.returns-clause-fault
returns-clause-fault g c = c.write_leaves.ensures.fault

pub returns-clause-extends : goal.returns-clause-extends
returns-clause-extends g c = c.write_leaves.ensures.extends

pub returns-clause-leads : goal.returns-clause-leads
returns-clause-leads g c = c.write_leaves.ensures.leads

pub returns-in_err-lengths-clause-extends : goal.returns-in_err-lengths-clause-extends
returns-in_err-lengths-clause-extends g c = not_given c.from_residual.result _ Memory c.from_residual.ensures.1

pub returns-in_err-lengths-clause-grown : goal.returns-in_err-lengths-clause-grown
returns-in_err-lengths-clause-grown g c = no_value c.from_residual.result _ Memory c.from_residual.ensures.1

pub returns-in_err-lengths-clause-count : goal.returns-in_err-lengths-clause-count
returns-in_err-lengths-clause-count g c = no_value c.from_residual.result _ Memory c.from_residual.ensures.1

pub returns-in_err-lengths-clause-leaves : goal.returns-in_err-lengths-clause-leaves
returns-in_err-lengths-clause-leaves g c = not_given c.from_residual.result _ Memory c.from_residual.ensures.1

pub returns-in_err-lengths-clause-pages : goal.returns-in_err-lengths-clause-pages
returns-in_err-lengths-clause-pages g c = not_given c.from_residual.result _ Memory c.from_residual.ensures.1

pub returns-in_err-lengths-clause-grew : goal.returns-in_err-lengths-clause-grew
returns-in_err-lengths-clause-grew g c = no_value c.from_residual.result _ Memory c.from_residual.ensures.1

pub returns-in_err-lengths-clause-fault : goal.returns-in_err-lengths-clause-fault
returns-in_err-lengths-clause-fault g c = if_err_handed c.from_residual.result _ Memory c.from_residual.ensures.1 (λ told. tt)

pub returns-in_err-lengths-clause-leads : goal.returns-in_err-lengths-clause-leads
returns-in_err-lengths-clause-leads g c = g.B.Ground.leads_refl c.args.blocks.now

pub returns-in_err-lengths-clause-cause : goal.returns-in_err-lengths-clause-cause
returns-in_err-lengths-clause-cause g c = cause_here (g.B.Ground.faults c.args.blocks.now) (g.B.Ground.faults c.args.blocks.now) c.from_residual.result Memory c.from_residual.ensures.1 tt
