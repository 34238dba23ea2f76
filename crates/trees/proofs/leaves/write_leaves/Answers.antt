use Rattle.std.proofs.Common.{length, ◌≤◌, ℕ, arith, rules, get_or, ap, sym, subst, ◌∙◌, take_all, List}
use Rattle.trees.proofs.Kept.{leaves_back}
use Rattle.trees.proofs.Laid.{laid_step, laid_all, laid_way, laid_fits, buffer_written, LaidSoFar, laid_none}
use Rattle.std.proofs.lemmas.List.{length-take-le}
use Rattle.ex_base.specs.declared.geometry.Geometry.{Geometry}
use Rattle.ex_base.specs.declared.names.Area.{Area}
use Rattle.ex_base.specs.declared.names.Area.TheVariants.{Segment}
use Rattle.ex_base.specs.declared.faults.PortFault.TheVariants.{Memory}
use Rattle.ex_base.specs.Sizes.{leaf_bytes}
use Rattle.ex_base.proofs.Handed.{no_value, not_given, cause_here, handed_after}
use Rattle.ex_base.proofs.Results.{if_err_handed}
use Rattle.trees.specs.Rows.{FitLeaves}
use Rattle.trees.proofs.Blame.{walk_undamaged}
use Rattle.trees.specs.declared.rows.Part.{Part}
use Rattle.trees.proofs.leaves.write_leaves.Goals as goal
use Rattle.ex_base.proofs.Each.{each_at}

pub loop-size-preserved : goal.loop-size-preserved
loop-size-preserved g c =
    let fits : get_or c.args.lengths.now c.loop-size.size-index 0 ≤ length c.loop-size.buffer = omega (arith, c.loop-size.auto.buffer, (each_at (λ (n : ℕ). (1 ≤ n) × (n ≤ length c.args.buffer.now)) c.args.lengths.now c.loop-size.size-index 0 c.loop-size-test.true c.requires.lengths).1) in
    laid_step g.B.Ground c.args.blocks.now c.loop-size.blocks c.fill.new.blocks c.new_leaf.new.self c.args.run.now c.args.change.at c.args.change.cut c.args.given.now c.args.lengths.now c.loop-size.size-index c.loop-size.row.items c.put.new.items.items c.loop-size.at c.in_ok-page.page.0 c.loop-size.buffer c.fill.new.out
    c.loop-size-test.true fits c.loop-size.invariant c.in_ok-fill.ensures.kept c.in_ok-page.ensures.leads c.in_ok-page.ensures.taken c.in_ok-page.ensures.pages c.in_ok-page.ensures.leaves c.in_ok-page.ensures.references c.in_ok-page.ensures.touched (search rules) c.in_ok-fill.ensures.bytes c.in_ok-fill.ensures.way c.in_ok-put.ensures

pub returns-clause-bytes : goal.returns-clause-bytes
returns-clause-bytes g c =
    laid_all g.B.Ground c.args.blocks.now c.loop-size.blocks c.args.run.now c.args.change.at c.args.change.cut c.args.given.now c.args.lengths.now c.loop-size.size-index c.loop-size.row.items c.loop-size.at
    c.requires.ready c.requires.change c.requires.sum (omega (arith, c.loop-size-test.false)) c.loop-size.invariant

pub returns-in_err-fill-clause-fault : goal.returns-in_err-fill-clause-fault
returns-in_err-fill-clause-fault g c = if_err_handed c.from_residual.result _ c.in_err-fill.field-0.0 c.from_residual.ensures.1 (leaves_back g.B.Ground c.args.blocks.now c.loop-size.blocks c.args.run.now c.in_err-fill.field-0.0 c.loop-size.invariant.extends.leads c.in_err-fill.ensures.fault)

pub returns-in_err-put-clause-leads : goal.returns-in_err-put-clause-leads
returns-in_err-put-clause-leads g c =
    g.B.Ground.leads_trans c.args.blocks.now c.loop-size.blocks c.new_leaf.new.self c.loop-size.invariant.extends.leads (g.B.Ground.leads_trans c.loop-size.blocks c.fill.new.blocks c.new_leaf.new.self c.in_ok-fill.ensures.kept.leads c.in_ok-page.ensures.leads)

pub returns-clause-way : goal.returns-clause-way
returns-clause-way g c =
    laid_way g.B.Ground c.args.blocks.now c.loop-size.blocks c.args.run.now c.args.change.at c.args.change.cut c.args.given.now c.args.lengths.now c.loop-size.size-index c.loop-size.row.items c.loop-size.at
    c.requires.change c.requires.sum (omega (arith, c.loop-size-test.false)) c.loop-size.invariant

pub loop-size-init : goal.loop-size-init
loop-size-init g c =
    subst (λ (row : List Part). LaidSoFar g.B.Ground c.args.blocks.now c.args.blocks.now c.args.run.now c.args.change.at c.args.change.cut c.args.given.now c.args.lengths.now 0 row 0) (sym c.new-row.ensures.items) (laid_none g.B.Ground c.args.blocks.now c.args.run.now c.args.change.at c.args.change.cut c.args.given.now c.args.lengths.now)

pub slice_bounds-out-end : goal.slice_bounds-out-end
slice_bounds-out-end g c =
    let here = each_at (λ (n : ℕ). (1 ≤ n) × (n ≤ length c.args.buffer.now)) c.args.lengths.now c.loop-size.size-index 0 c.loop-size-test.true c.requires.lengths in
    let fits : get_or c.args.lengths.now c.loop-size.size-index 0 ≤ length c.loop-size.buffer = omega (arith, c.loop-size.auto.buffer, here.1) in
    omega (arith, fits)

pub slice_bounds-out-end-in-loop-size : goal.slice_bounds-out-end-in-loop-size
slice_bounds-out-end-in-loop-size g c =
    let here = each_at (λ (n : ℕ). (1 ≤ n) × (n ≤ length c.args.buffer.now)) c.args.lengths.now c.loop-size.size-index 0 c.loop-size-test.true c.requires.lengths in
    let fits : get_or c.args.lengths.now c.loop-size.size-index 0 ≤ length c.loop-size.buffer = omega (arith, c.loop-size.auto.buffer, here.1) in
    omega (arith, fits, length-take-le (get_or c.args.lengths.now c.loop-size.size-index 0) c.loop-size.buffer fits)

pub slice_bounds-new_leaf-end : goal.slice_bounds-new_leaf-end
slice_bounds-new_leaf-end g c =
    let here = each_at (λ (n : ℕ). (1 ≤ n) × (n ≤ length c.args.buffer.now)) c.args.lengths.now c.loop-size.size-index 0 c.loop-size-test.true c.requires.lengths in
    let fits : get_or c.args.lengths.now c.loop-size.size-index 0 ≤ length c.loop-size.buffer = omega (arith, c.loop-size.auto.buffer, here.1) in
    let written = buffer_written c.fill.new.out c.loop-size.buffer (get_or c.args.lengths.now c.loop-size.size-index 0) fits (omega (arith, c.fill.auto.out)) in
    omega (arith, fits, written.1)

pub slice_bounds-new_leaf-end-in-loop-size : goal.slice_bounds-new_leaf-end-in-loop-size
slice_bounds-new_leaf-end-in-loop-size g c =
    let here = each_at (λ (n : ℕ). (1 ≤ n) × (n ≤ length c.args.buffer.now)) c.args.lengths.now c.loop-size.size-index 0 c.loop-size-test.true c.requires.lengths in
    let fits : get_or c.args.lengths.now c.loop-size.size-index 0 ≤ length c.loop-size.buffer = omega (arith, c.loop-size.auto.buffer, here.1) in
    let written = buffer_written c.fill.new.out c.loop-size.buffer (get_or c.args.lengths.now c.loop-size.size-index 0) fits (omega (arith, c.fill.auto.out)) in
    omega (arith, fits, written.0, written.1)

pub new_leaf-requires-clause-some : goal.new_leaf-requires-clause-some
new_leaf-requires-clause-some g c =
    let here = each_at (λ (n : ℕ). (1 ≤ n) × (n ≤ length c.args.buffer.now)) c.args.lengths.now c.loop-size.size-index 0 c.loop-size-test.true c.requires.lengths in
    let fits : get_or c.args.lengths.now c.loop-size.size-index 0 ≤ length c.loop-size.buffer = omega (arith, c.loop-size.auto.buffer, here.1) in
    let written = buffer_written c.fill.new.out c.loop-size.buffer (get_or c.args.lengths.now c.loop-size.size-index 0) fits (omega (arith, c.fill.auto.out)) in
    omega (arith, written.0, here.0)

pub new_leaf-requires-clause-fits : goal.new_leaf-requires-clause-fits
new_leaf-requires-clause-fits g c =
    let here = each_at (λ (n : ℕ). (1 ≤ n) × (n ≤ length c.args.buffer.now)) c.args.lengths.now c.loop-size.size-index 0 c.loop-size-test.true c.requires.lengths in
    let fits : get_or c.args.lengths.now c.loop-size.size-index 0 ≤ length c.loop-size.buffer = omega (arith, c.loop-size.auto.buffer, here.1) in
    let written = buffer_written c.fill.new.out c.loop-size.buffer (get_or c.args.lengths.now c.loop-size.size-index 0) fits (omega (arith, c.fill.auto.out)) in
    omega (arith, written.0, here.1, c.requires.buffer, ap leaf_bytes (g.B.Ground.leads_geometry c.args.blocks.now c.fill.new.blocks (g.B.Ground.leads_trans c.args.blocks.now c.loop-size.blocks c.fill.new.blocks c.loop-size.invariant.extends.leads c.in_ok-fill.ensures.kept.leads)))

pub new_leaf-requires-clause-ready : goal.new_leaf-requires-clause-ready
new_leaf-requires-clause-ready g c = g.B.Ground.leads_ready c.args.blocks.now c.fill.new.blocks (g.B.Ground.leads_trans c.args.blocks.now c.loop-size.blocks c.fill.new.blocks c.loop-size.invariant.extends.leads c.in_ok-fill.ensures.kept.leads) c.requires.ready

pub new_leaf-requires-clause-free : goal.new_leaf-requires-clause-free
new_leaf-requires-clause-free g c = omega (arith, c.loop-size.invariant.spent.of_leaves, ap (λ (f : Area → ℕ). f Segment) c.in_ok-fill.ensures.kept.free, c.requires.free, c.loop-size-test.true)

pub fill-requires-clause-range : goal.fill-requires-clause-range
fill-requires-clause-range g c =
    let here = each_at (λ (n : ℕ). (1 ≤ n) × (n ≤ length c.args.buffer.now)) c.args.lengths.now c.loop-size.size-index 0 c.loop-size-test.true c.requires.lengths in
    let fits : get_or c.args.lengths.now c.loop-size.size-index 0 ≤ length c.loop-size.buffer = omega (arith, c.loop-size.auto.buffer, here.1) in
    omega (arith, length-take-le (get_or c.args.lengths.now c.loop-size.size-index 0) c.loop-size.buffer fits, laid_fits c.args.lengths.now c.loop-size.size-index c.loop-size.at c.loop-size-test.true c.loop-size.invariant.sum, c.requires.sum)

pub overflow_add-at : goal.overflow_add-at
overflow_add-at g c = omega (arith, laid_fits c.args.lengths.now c.loop-size.size-index c.loop-size.at c.loop-size-test.true c.loop-size.invariant.sum, c.requires.sum, c.requires.limit)

pub fill-requires-clause-sizes : goal.fill-requires-clause-sizes
fill-requires-clause-sizes g c = omega (arith, c.loop-size.invariant.sum, c.requires.sum, c.requires.limit)

pub fill-requires-clause-change : goal.fill-requires-clause-change
fill-requires-clause-change g c = c.requires.change

pub fill-requires-clause-leaves : goal.fill-requires-clause-leaves
fill-requires-clause-leaves g c = subst (λ (geo : Geometry). FitLeaves geo 0 c.args.run.now) (sym (g.B.Ground.leads_geometry c.args.blocks.now c.loop-size.blocks c.loop-size.invariant.extends.leads)) c.requires.leaves

pub fill-requires-clause-ready : goal.fill-requires-clause-ready
fill-requires-clause-ready g c = g.B.Ground.leads_ready c.args.blocks.now c.loop-size.blocks c.loop-size.invariant.extends.leads c.requires.ready

pub returns-in_err-fill-clause-extends : goal.returns-in_err-fill-clause-extends
returns-in_err-fill-clause-extends g c = not_given c.from_residual.result _ c.in_err-fill.field-0.0 c.from_residual.ensures.1

pub returns-in_err-fill-clause-sizes : goal.returns-in_err-fill-clause-sizes
returns-in_err-fill-clause-sizes g c = no_value c.from_residual.result _ c.in_err-fill.field-0.0 c.from_residual.ensures.1

pub returns-in_err-fill-clause-named : goal.returns-in_err-fill-clause-named
returns-in_err-fill-clause-named g c = no_value c.from_residual.result _ c.in_err-fill.field-0.0 c.from_residual.ensures.1

pub returns-in_err-fill-clause-took : goal.returns-in_err-fill-clause-took
returns-in_err-fill-clause-took g c = no_value c.from_residual.result _ c.in_err-fill.field-0.0 c.from_residual.ensures.1

pub returns-in_err-fill-clause-spent : goal.returns-in_err-fill-clause-spent
returns-in_err-fill-clause-spent g c = not_given c.from_residual.result _ c.in_err-fill.field-0.0 c.from_residual.ensures.1

pub returns-in_err-fill-clause-counts : goal.returns-in_err-fill-clause-counts
returns-in_err-fill-clause-counts g c = not_given c.from_residual.result _ c.in_err-fill.field-0.0 c.from_residual.ensures.1

pub returns-in_err-fill-clause-bytes : goal.returns-in_err-fill-clause-bytes
returns-in_err-fill-clause-bytes g c = no_value c.from_residual.result _ c.in_err-fill.field-0.0 c.from_residual.ensures.1

pub returns-in_err-fill-clause-way : goal.returns-in_err-fill-clause-way
returns-in_err-fill-clause-way g c = not_given c.from_residual.result _ c.in_err-fill.field-0.0 c.from_residual.ensures.1

pub returns-in_err-fill-clause-leads : goal.returns-in_err-fill-clause-leads
returns-in_err-fill-clause-leads g c = g.B.Ground.leads_trans c.args.blocks.now c.loop-size.blocks c.fill.new.blocks c.loop-size.invariant.extends.leads c.in_err-fill.ensures.kept.leads

pub returns-in_err-fill-clause-cause : goal.returns-in_err-fill-clause-cause
returns-in_err-fill-clause-cause g c = handed_after g.B.Ground c.args.blocks.now c.loop-size.blocks c.loop-size.invariant.extends.leads c.fill.new.blocks c.from_residual.result c.in_err-fill.field-0.0 c.from_residual.ensures.1 c.in_err-fill.ensures.cause

pub returns-in_err-page-clause-extends : goal.returns-in_err-page-clause-extends
returns-in_err-page-clause-extends g c = not_given c.from_residual-in_err-page.result _ c.in_err-page.field-0.0 c.from_residual-in_err-page.ensures.1

pub returns-in_err-page-clause-sizes : goal.returns-in_err-page-clause-sizes
returns-in_err-page-clause-sizes g c = no_value c.from_residual-in_err-page.result _ c.in_err-page.field-0.0 c.from_residual-in_err-page.ensures.1

pub returns-in_err-page-clause-named : goal.returns-in_err-page-clause-named
returns-in_err-page-clause-named g c = no_value c.from_residual-in_err-page.result _ c.in_err-page.field-0.0 c.from_residual-in_err-page.ensures.1

pub returns-in_err-page-clause-took : goal.returns-in_err-page-clause-took
returns-in_err-page-clause-took g c = no_value c.from_residual-in_err-page.result _ c.in_err-page.field-0.0 c.from_residual-in_err-page.ensures.1

pub returns-in_err-page-clause-spent : goal.returns-in_err-page-clause-spent
returns-in_err-page-clause-spent g c = not_given c.from_residual-in_err-page.result _ c.in_err-page.field-0.0 c.from_residual-in_err-page.ensures.1

pub returns-in_err-page-clause-counts : goal.returns-in_err-page-clause-counts
returns-in_err-page-clause-counts g c = not_given c.from_residual-in_err-page.result _ c.in_err-page.field-0.0 c.from_residual-in_err-page.ensures.1

pub returns-in_err-page-clause-bytes : goal.returns-in_err-page-clause-bytes
returns-in_err-page-clause-bytes g c = no_value c.from_residual-in_err-page.result _ c.in_err-page.field-0.0 c.from_residual-in_err-page.ensures.1

pub returns-in_err-page-clause-way : goal.returns-in_err-page-clause-way
returns-in_err-page-clause-way g c = not_given c.from_residual-in_err-page.result _ c.in_err-page.field-0.0 c.from_residual-in_err-page.ensures.1

pub returns-in_err-page-clause-fault : goal.returns-in_err-page-clause-fault
returns-in_err-page-clause-fault g c = if_err_handed c.from_residual-in_err-page.result _ c.in_err-page.field-0.0 c.from_residual-in_err-page.ensures.1 (λ told. walk_undamaged (g.B.Ground.geometry c.args.blocks.now) (g.B.Ground.unit c.args.blocks.now) 0 0 c.args.run.now c.in_err-page.field-0.0 c.in_err-page.ensures.no_damage)

pub returns-in_err-page-clause-leads : goal.returns-in_err-page-clause-leads
returns-in_err-page-clause-leads g c = g.B.Ground.leads_trans c.args.blocks.now c.fill.new.blocks c.new_leaf.new.self (g.B.Ground.leads_trans c.args.blocks.now c.loop-size.blocks c.fill.new.blocks c.loop-size.invariant.extends.leads c.in_ok-fill.ensures.kept.leads) c.in_err-page.ensures.leads

pub returns-in_err-page-clause-cause : goal.returns-in_err-page-clause-cause
returns-in_err-page-clause-cause g c = handed_after g.B.Ground c.args.blocks.now c.fill.new.blocks (g.B.Ground.leads_trans c.args.blocks.now c.loop-size.blocks c.fill.new.blocks c.loop-size.invariant.extends.leads c.in_ok-fill.ensures.kept.leads) c.new_leaf.new.self c.from_residual-in_err-page.result c.in_err-page.field-0.0 c.from_residual-in_err-page.ensures.1 c.in_err-page.ensures.cause

pub returns-in_err-put-clause-extends : goal.returns-in_err-put-clause-extends
returns-in_err-put-clause-extends g c = not_given c.from_residual-in_err-put.result _ Memory c.from_residual-in_err-put.ensures.1

pub returns-in_err-put-clause-sizes : goal.returns-in_err-put-clause-sizes
returns-in_err-put-clause-sizes g c = no_value c.from_residual-in_err-put.result _ Memory c.from_residual-in_err-put.ensures.1

pub returns-in_err-put-clause-named : goal.returns-in_err-put-clause-named
returns-in_err-put-clause-named g c = no_value c.from_residual-in_err-put.result _ Memory c.from_residual-in_err-put.ensures.1

pub returns-in_err-put-clause-took : goal.returns-in_err-put-clause-took
returns-in_err-put-clause-took g c = no_value c.from_residual-in_err-put.result _ Memory c.from_residual-in_err-put.ensures.1

pub returns-in_err-put-clause-spent : goal.returns-in_err-put-clause-spent
returns-in_err-put-clause-spent g c = not_given c.from_residual-in_err-put.result _ Memory c.from_residual-in_err-put.ensures.1

pub returns-in_err-put-clause-counts : goal.returns-in_err-put-clause-counts
returns-in_err-put-clause-counts g c = not_given c.from_residual-in_err-put.result _ Memory c.from_residual-in_err-put.ensures.1

pub returns-in_err-put-clause-bytes : goal.returns-in_err-put-clause-bytes
returns-in_err-put-clause-bytes g c = no_value c.from_residual-in_err-put.result _ Memory c.from_residual-in_err-put.ensures.1

pub returns-in_err-put-clause-way : goal.returns-in_err-put-clause-way
returns-in_err-put-clause-way g c = not_given c.from_residual-in_err-put.result _ Memory c.from_residual-in_err-put.ensures.1

pub returns-in_err-put-clause-fault : goal.returns-in_err-put-clause-fault
returns-in_err-put-clause-fault g c = if_err_handed c.from_residual-in_err-put.result _ Memory c.from_residual-in_err-put.ensures.1 (λ told. tt)

pub returns-in_err-put-clause-cause : goal.returns-in_err-put-clause-cause
returns-in_err-put-clause-cause g c = cause_here (g.B.Ground.faults c.args.blocks.now) (g.B.Ground.faults c.new_leaf.new.self) c.from_residual-in_err-put.result Memory c.from_residual-in_err-put.ensures.1 tt

pub returns-clause-took : goal.returns-clause-took
returns-clause-took g c = c.loop-size.invariant.took

pub returns-clause-named : goal.returns-clause-named
returns-clause-named g c = c.loop-size.invariant.named

pub returns-clause-extends : goal.returns-clause-extends
returns-clause-extends g c = c.loop-size.invariant.extends

pub returns-clause-counts : goal.returns-clause-counts
returns-clause-counts g c = c.loop-size.invariant.counts

pub returns-clause-leads : goal.returns-clause-leads
returns-clause-leads g c = c.loop-size.invariant.extends.leads

pub returns-clause-sizes : goal.returns-clause-sizes
returns-clause-sizes g c = c.loop-size.invariant.sizes ∙ take_all c.loop-size.size-index c.args.lengths.now (omega (arith, c.loop-size-test.false))

pub returns-clause-spent : goal.returns-clause-spent
returns-clause-spent g c = record { of_leaves = omega (arith, c.loop-size.invariant.spent.of_leaves, c.loop-size-test.false, c.loop-size.auto.size-index-end); of_pages = c.loop-size.invariant.spent.of_pages }
