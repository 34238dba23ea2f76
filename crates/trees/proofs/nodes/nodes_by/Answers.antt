use Rattle.std.proofs.Common.{rules, arith, subst, sym, length, ap, get_or, ◌≤◌, ◌<◌, ◌^◌, ◌+◌, drop, List}
use Rattle.std.proofs.lemmas.List.{length-take-le, length-drop}
use Rattle.ex_base.specs.declared.geometry.Geometry.{Geometry}
use Rattle.trees.specs.Split.{most_pairs}
use Rattle.trees.specs.Rows.{row_size}
use Rattle.trees.proofs.Over.{IsFit, over_all, node_step, piece_fits, lens_at, length_small, size_of_take, size_of_drop, OverSoFar, over_none}
use Rattle.ex_base.specs.declared.faults.PortFault.TheVariants.{Memory}
use Rattle.ex_base.proofs.Handed.{no_value, not_given, cause_here, handed_after}
use Rattle.ex_base.proofs.Results.{if_err_handed}
use Rattle.trees.specs.declared.rows.Part.{Part}
use Rattle.trees.proofs.nodes.nodes_by.Goals as goal

pub piece-requires : goal.piece-requires
piece-requires g c =
    (lens_at (most_pairs (g.B.Ground.geometry c.args.blocks.now).fan) (length c.args.row.now) c.args.lens.now c.loop-len.len-index c.loop-len.at c.requires.lens c.loop-len-test.true c.loop-len.invariant.at_is).ends

pub overflow_add-at : goal.overflow_add-at
overflow_add-at g c =
    let le = length_small c.args.row.now c.requires.sizes in
    let ends : c.loop-len.at + get_or c.args.lens.now c.loop-len.len-index 0 ≤ length c.args.row.now =
    (lens_at (most_pairs (g.B.Ground.geometry c.args.blocks.now).fan) (length c.args.row.now) c.args.lens.now c.loop-len.len-index c.loop-len.at c.requires.lens c.loop-len-test.true c.loop-len.invariant.at_is).ends in
    let lt : c.loop-len.at + get_or c.args.lens.now c.loop-len.len-index 0 < 2 ^ 64 = omega (arith, c.requires.limit) in
    search rules

pub node_over-requires-clause-few : goal.node_over-requires-clause-few
node_over-requires-clause-few g c =
    let at = lens_at (most_pairs (g.B.Ground.geometry c.args.blocks.now).fan) (length c.args.row.now) c.args.lens.now c.loop-len.len-index c.loop-len.at c.requires.lens c.loop-len-test.true c.loop-len.invariant.at_is in
    let geo = g.B.Ground.leads_geometry c.args.blocks.now c.loop-len.blocks c.loop-len.invariant.extends.leads in
    omega (arith, ap (λ (k : Geometry). k.fan) geo, ap length c.piece.ensures, length-take-le (get_or c.args.lens.now c.loop-len.len-index 0) (drop c.loop-len.at c.args.row.now) (omega (arith, length-drop c.loop-len.at c.args.row.now, at.ends)), at.few)

pub node_over-requires-clause-limit : goal.node_over-requires-clause-limit
node_over-requires-clause-limit g c =
    omega (arith, ap row_size c.piece.ensures, size_of_take (drop c.loop-len.at c.args.row.now) (get_or c.args.lens.now c.loop-len.len-index 0), size_of_drop c.args.row.now c.loop-len.at, c.requires.limit)

pub loop-len-preserved : goal.loop-len-preserved
loop-len-preserved g c =
    let made = c.in_ok-part.ensures in
    let fit : IsFit (g.B.Ground.geometry c.args.blocks.now) c.piece.result.now =
    subst (IsFit (g.B.Ground.geometry c.args.blocks.now)) (sym c.piece.ensures) (piece_fits (g.B.Ground.geometry c.args.blocks.now) c.args.row.now c.args.lens.now c.loop-len.len-index c.loop-len.at c.requires.sizes c.requires.limit c.requires.lens c.loop-len-test.true c.loop-len.invariant.at_is) in
    node_step g.B.Ground c.args.blocks.now c.loop-len.blocks c.node_over.new.blocks c.args.level c.args.row.now c.args.lens.now c.loop-len.len-index c.loop-len.above.items c.put.new.items.items c.loop-len.at (get_or c.args.lens.now c.loop-len.len-index 0)
    c.in_ok-part.part c.piece.result.now c.node_over.new.buffer c.loop-len-test.true (λ i. get_or c.args.lens.now c.loop-len.len-index 0) c.loop-len.invariant made.leads made.taken made.spent c.piece.ensures made.size made.page (search rules) fit made.touched made.references made.names c.in_ok-put.ensures

pub returns-clause-sum : goal.returns-clause-sum
returns-clause-sum g c = (over_all g.B.Ground c.args.blocks.now c.loop-len.blocks c.args.level c.args.row.now c.args.lens.now c.loop-len.len-index c.loop-len.above.items c.loop-len.at
    (search rules) c.requires.sizes c.requires.limit c.requires.lens (search rules) c.loop-len.invariant).sum

pub returns-clause-sizes : goal.returns-clause-sizes
returns-clause-sizes g c = (over_all g.B.Ground c.args.blocks.now c.loop-len.blocks c.args.level c.args.row.now c.args.lens.now c.loop-len.len-index c.loop-len.above.items c.loop-len.at
    (search rules) c.requires.sizes c.requires.limit c.requires.lens (search rules) c.loop-len.invariant).sizes

pub returns-clause-count : goal.returns-clause-count
returns-clause-count g c = (over_all g.B.Ground c.args.blocks.now c.loop-len.blocks c.args.level c.args.row.now c.args.lens.now c.loop-len.len-index c.loop-len.above.items c.loop-len.at
    (search rules) c.requires.sizes c.requires.limit c.requires.lens (search rules) c.loop-len.invariant).count

pub returns-clause-spent : goal.returns-clause-spent
returns-clause-spent g c = (over_all g.B.Ground c.args.blocks.now c.loop-len.blocks c.args.level c.args.row.now c.args.lens.now c.loop-len.len-index c.loop-len.above.items c.loop-len.at
    (search rules) c.requires.sizes c.requires.limit c.requires.lens (search rules) c.loop-len.invariant).spent

pub returns-clause-built : goal.returns-clause-built
returns-clause-built g c = (over_all g.B.Ground c.args.blocks.now c.loop-len.blocks c.args.level c.args.row.now c.args.lens.now c.loop-len.len-index c.loop-len.above.items c.loop-len.at
    (search rules) c.requires.sizes c.requires.limit c.requires.lens (search rules) c.loop-len.invariant).built

pub loop-len-init : goal.loop-len-init
loop-len-init g c =
    subst (λ (above : List Part). OverSoFar g.B.Ground c.args.blocks.now c.args.blocks.now c.args.level c.args.row.now c.args.lens.now 0 above 0) (sym c.new-above.ensures.items) (over_none g.B.Ground c.args.blocks.now c.args.level c.args.row.now c.args.lens.now)

pub node_over-requires-clause-buffer : goal.node_over-requires-clause-buffer
node_over-requires-clause-buffer g c = omega (arith, c.loop-len.auto.buffer, c.requires.buffer, ap (λ (k : Geometry). k.page_size) (g.B.Ground.leads_geometry c.args.blocks.now c.loop-len.blocks c.loop-len.invariant.extends.leads))

pub node_over-requires-clause-ready : goal.node_over-requires-clause-ready
node_over-requires-clause-ready g c = g.B.Ground.leads_ready c.args.blocks.now c.loop-len.blocks c.loop-len.invariant.extends.leads c.requires.ready

pub node_over-requires-clause-free : goal.node_over-requires-clause-free
node_over-requires-clause-free g c = omega (arith, c.loop-len.invariant.spent.of_pages, c.requires.free, c.loop-len-test.true)

pub returns-in_err-part-clause-extends : goal.returns-in_err-part-clause-extends
returns-in_err-part-clause-extends g c = not_given c.from_residual.result _ c.in_err-part.field-0.0 c.from_residual.ensures.1

pub returns-in_err-part-clause-sum : goal.returns-in_err-part-clause-sum
returns-in_err-part-clause-sum g c = no_value c.from_residual.result _ c.in_err-part.field-0.0 c.from_residual.ensures.1

pub returns-in_err-part-clause-sizes : goal.returns-in_err-part-clause-sizes
returns-in_err-part-clause-sizes g c = no_value c.from_residual.result _ c.in_err-part.field-0.0 c.from_residual.ensures.1

pub returns-in_err-part-clause-count : goal.returns-in_err-part-clause-count
returns-in_err-part-clause-count g c = no_value c.from_residual.result _ c.in_err-part.field-0.0 c.from_residual.ensures.1

pub returns-in_err-part-clause-took : goal.returns-in_err-part-clause-took
returns-in_err-part-clause-took g c = no_value c.from_residual.result _ c.in_err-part.field-0.0 c.from_residual.ensures.1

pub returns-in_err-part-clause-spent : goal.returns-in_err-part-clause-spent
returns-in_err-part-clause-spent g c = not_given c.from_residual.result _ c.in_err-part.field-0.0 c.from_residual.ensures.1

pub returns-in_err-part-clause-built : goal.returns-in_err-part-clause-built
returns-in_err-part-clause-built g c = no_value c.from_residual.result _ c.in_err-part.field-0.0 c.from_residual.ensures.1

pub returns-in_err-part-clause-counts : goal.returns-in_err-part-clause-counts
returns-in_err-part-clause-counts g c = not_given c.from_residual.result _ c.in_err-part.field-0.0 c.from_residual.ensures.1

pub returns-in_err-part-clause-no_damage : goal.returns-in_err-part-clause-no_damage
returns-in_err-part-clause-no_damage g c = if_err_handed c.from_residual.result _ c.in_err-part.field-0.0 c.from_residual.ensures.1 c.in_err-part.ensures.no_damage

pub returns-in_err-part-clause-leads : goal.returns-in_err-part-clause-leads
returns-in_err-part-clause-leads g c = g.B.Ground.leads_trans c.args.blocks.now c.loop-len.blocks c.node_over.new.blocks c.loop-len.invariant.extends.leads c.in_err-part.ensures.leads

pub returns-in_err-part-clause-cause : goal.returns-in_err-part-clause-cause
returns-in_err-part-clause-cause g c = handed_after g.B.Ground c.args.blocks.now c.loop-len.blocks c.loop-len.invariant.extends.leads c.node_over.new.blocks c.from_residual.result c.in_err-part.field-0.0 c.from_residual.ensures.1 c.in_err-part.ensures.cause

pub returns-in_err-put-clause-extends : goal.returns-in_err-put-clause-extends
returns-in_err-put-clause-extends g c = not_given c.from_residual-in_err-put.result _ Memory c.from_residual-in_err-put.ensures.1

pub returns-in_err-put-clause-sum : goal.returns-in_err-put-clause-sum
returns-in_err-put-clause-sum g c = no_value c.from_residual-in_err-put.result _ Memory c.from_residual-in_err-put.ensures.1

pub returns-in_err-put-clause-sizes : goal.returns-in_err-put-clause-sizes
returns-in_err-put-clause-sizes g c = no_value c.from_residual-in_err-put.result _ Memory c.from_residual-in_err-put.ensures.1

pub returns-in_err-put-clause-count : goal.returns-in_err-put-clause-count
returns-in_err-put-clause-count g c = no_value c.from_residual-in_err-put.result _ Memory c.from_residual-in_err-put.ensures.1

pub returns-in_err-put-clause-took : goal.returns-in_err-put-clause-took
returns-in_err-put-clause-took g c = no_value c.from_residual-in_err-put.result _ Memory c.from_residual-in_err-put.ensures.1

pub returns-in_err-put-clause-spent : goal.returns-in_err-put-clause-spent
returns-in_err-put-clause-spent g c = not_given c.from_residual-in_err-put.result _ Memory c.from_residual-in_err-put.ensures.1

pub returns-in_err-put-clause-built : goal.returns-in_err-put-clause-built
returns-in_err-put-clause-built g c = no_value c.from_residual-in_err-put.result _ Memory c.from_residual-in_err-put.ensures.1

pub returns-in_err-put-clause-counts : goal.returns-in_err-put-clause-counts
returns-in_err-put-clause-counts g c = not_given c.from_residual-in_err-put.result _ Memory c.from_residual-in_err-put.ensures.1

pub returns-in_err-put-clause-no_damage : goal.returns-in_err-put-clause-no_damage
returns-in_err-put-clause-no_damage g c = if_err_handed c.from_residual-in_err-put.result _ Memory c.from_residual-in_err-put.ensures.1 (λ damage. damage)

pub returns-in_err-put-clause-leads : goal.returns-in_err-put-clause-leads
returns-in_err-put-clause-leads g c = g.B.Ground.leads_trans c.args.blocks.now c.loop-len.blocks c.node_over.new.blocks c.loop-len.invariant.extends.leads c.in_ok-part.ensures.leads

pub returns-in_err-put-clause-cause : goal.returns-in_err-put-clause-cause
returns-in_err-put-clause-cause g c = cause_here (g.B.Ground.faults c.args.blocks.now) (g.B.Ground.faults c.node_over.new.blocks) c.from_residual-in_err-put.result Memory c.from_residual-in_err-put.ensures.1 tt

pub returns-clause-counts : goal.returns-clause-counts
returns-clause-counts g c = c.loop-len.invariant.counts

pub returns-clause-took : goal.returns-clause-took
returns-clause-took g c = c.loop-len.invariant.took

pub returns-clause-extends : goal.returns-clause-extends
returns-clause-extends g c = c.loop-len.invariant.extends

pub returns-clause-leads : goal.returns-clause-leads
returns-clause-leads g c = c.loop-len.invariant.extends.leads
