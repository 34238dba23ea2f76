use Rattle.std.proofs.Common.{arith, take_all, ◌≡◌, [], sym, subst}
use Rattle.trees.proofs.Blame.{walk_back, walk_node}
use Rattle.ex_base.specs.Area.{NamesLeaf}
use Rattle.ex_base.proofs.Results.{if_err_handed, cause_handed}
use Rattle.trees.specs.Damage.{IsSoundWay}
use Rattle.tree_delete.proofs.NodeLaws.{OpenedSoFar, opened_start, opened_more}
use Rattle.tree_delete.specs.Beside.{AreNodesAt, children_on}
use Rattle.ex_base.proofs.Handed.{no_value, cause_here}
use Rattle.ex_base.specs.declared.faults.PortFault.TheVariants.{Memory}
use Rattle.ex_base.proofs.Keeping.{keeps_on}
use Rattle.tree_delete.specs.Cuts.{AreChildren}
use Rattle.tree_delete.proofs.nodes.children_of.Goals as goal

pub loop-part-init : goal.loop-part-init
loop-part-init g c =
    let none : c.new-all.result.items ≡ [] = cc in
    subst (OpenedSoFar g.B.Ground c.args.blocks.now c.args.blocks.now c.args.level c.args.least c.args.row.now 0) (sym none) (opened_start g.B.Ground c.args.blocks.now c.args.level c.args.least c.args.row.now)

pub loop-part-preserved : goal.loop-part-preserved
loop-part-preserved g c =
    opened_more g.B.Ground c.args.blocks.now c.loop-part.blocks c.row_of.new.blocks c.args.level c.args.least c.args.row.now c.loop-part.part-index c.loop-part.all.items c.extend.new.row.items c.in_ok-children.children.items c.deref.result.now
    c.requires.level c.loop-part-test.true c.loop-part.invariant c.in_ok-children.ensures.kept c.in_ok-children.ensures.counted c.in_ok-children.ensures.found c.in_ok-children.ensures.area c.deref.ensures.value c.in_ok-extend.ensures

pub returns-in_err-children-clause-fault : goal.returns-in_err-children-clause-fault
returns-in_err-children-clause-fault g c =
    if_err_handed c.from_residual.result _ c.in_err-children.field-0.0 c.from_residual.ensures.1
    (walk_back g.B.Ground c.args.blocks.now c.loop-part.blocks c.args.level c.args.least c.args.row.now c.in_err-children.field-0.0 c.loop-part.invariant.kept
    (λ told. walk_node (g.B.Ground.geometry c.loop-part.blocks) (g.B.Ground.unit c.loop-part.blocks) c.args.level c.args.least c.loop-part.part-index c.args.row.now c.in_err-children.field-0.0 (λ none. omega (arith, none, c.requires.level)) c.loop-part-test.true (c.in_err-children.ensures.fault told)))

pub returns-clause-way : goal.returns-clause-way
returns-clause-way g c = λ told f t way.
    subst (λ r. IsSoundWay (g.B.Ground.geometry c.args.blocks.now) (g.B.Ground.unit c.args.blocks.now) (NamesLeaf (g.B.Ground.geometry c.args.blocks.now)) c.args.level c.args.least r f t) (take_all c.loop-part.part-index c.args.row.now (omega arith)) (c.loop-part.invariant.way told f t way)

pub returns-clause-nodes : goal.returns-clause-nodes
returns-clause-nodes g c = λ told.
    subst (λ r. AreNodesAt (g.B.Ground.geometry c.args.blocks.now) (g.B.Ground.unit c.args.blocks.now) c.args.level c.args.least r × (c.loop-part.all.items ≡ children_on (g.B.Ground.unit c.args.blocks.now) r)) (take_all c.loop-part.part-index c.args.row.now (omega arith)) (c.loop-part.invariant.nodes told)

-- ---- what else is asked and promised

pub row_of-requires : goal.row_of-requires
row_of-requires g c = g.B.Ground.leads_ready c.args.blocks.now c.loop-part.blocks c.loop-part.invariant.kept.leads c.requires.ready

pub loop-part-smaller : goal.loop-part-smaller
loop-part-smaller g c = omega (arith, c.loop-part-test.true)

pub returns-in_err-children-clause-counted : goal.returns-in_err-children-clause-counted
returns-in_err-children-clause-counted g c = no_value c.from_residual.result _ c.in_err-children.field-0.0 c.from_residual.ensures.1

pub returns-in_err-children-clause-opened : goal.returns-in_err-children-clause-opened
returns-in_err-children-clause-opened g c = no_value c.from_residual.result _ c.in_err-children.field-0.0 c.from_residual.ensures.1

pub returns-in_err-children-clause-way : goal.returns-in_err-children-clause-way
returns-in_err-children-clause-way g c = no_value c.from_residual.result _ c.in_err-children.field-0.0 c.from_residual.ensures.1

pub returns-in_err-children-clause-nodes : goal.returns-in_err-children-clause-nodes
returns-in_err-children-clause-nodes g c = no_value c.from_residual.result _ c.in_err-children.field-0.0 c.from_residual.ensures.1

pub returns-in_err-children-clause-walk : goal.returns-in_err-children-clause-walk
returns-in_err-children-clause-walk g c = no_value c.from_residual.result _ c.in_err-children.field-0.0 c.from_residual.ensures.1

pub returns-in_err-children-clause-kept : goal.returns-in_err-children-clause-kept
returns-in_err-children-clause-kept g c = keeps_on g.B.Ground c.args.blocks.now c.loop-part.blocks c.row_of.new.blocks c.loop-part.invariant.kept c.row_of.ensures.kept

pub returns-in_err-children-clause-cause : goal.returns-in_err-children-clause-cause
returns-in_err-children-clause-cause g c = cause_handed (g.B.Ground.faults c.args.blocks.now) (g.B.Ground.faults c.loop-part.blocks) (g.B.Ground.faults c.row_of.new.blocks) c.from_residual.result c.in_err-children.field-0.0 c.from_residual.ensures.1 (g.B.Ground.leads_faults c.args.blocks.now c.loop-part.blocks c.loop-part.invariant.kept.leads) c.in_err-children.ensures.cause

pub returns-in_err-extend-clause-counted : goal.returns-in_err-extend-clause-counted
returns-in_err-extend-clause-counted g c = no_value c.from_residual-in_err-extend.result _ Memory c.from_residual-in_err-extend.ensures.1

pub returns-in_err-extend-clause-opened : goal.returns-in_err-extend-clause-opened
returns-in_err-extend-clause-opened g c = no_value c.from_residual-in_err-extend.result _ Memory c.from_residual-in_err-extend.ensures.1

pub returns-in_err-extend-clause-way : goal.returns-in_err-extend-clause-way
returns-in_err-extend-clause-way g c = no_value c.from_residual-in_err-extend.result _ Memory c.from_residual-in_err-extend.ensures.1

pub returns-in_err-extend-clause-nodes : goal.returns-in_err-extend-clause-nodes
returns-in_err-extend-clause-nodes g c = no_value c.from_residual-in_err-extend.result _ Memory c.from_residual-in_err-extend.ensures.1

pub returns-in_err-extend-clause-walk : goal.returns-in_err-extend-clause-walk
returns-in_err-extend-clause-walk g c = no_value c.from_residual-in_err-extend.result _ Memory c.from_residual-in_err-extend.ensures.1

pub returns-in_err-extend-clause-fault : goal.returns-in_err-extend-clause-fault
returns-in_err-extend-clause-fault g c = if_err_handed c.from_residual-in_err-extend.result _ Memory c.from_residual-in_err-extend.ensures.1 (λ told. tt)

pub returns-in_err-extend-clause-kept : goal.returns-in_err-extend-clause-kept
returns-in_err-extend-clause-kept g c = keeps_on g.B.Ground c.args.blocks.now c.loop-part.blocks c.row_of.new.blocks c.loop-part.invariant.kept c.row_of.ensures.kept

pub returns-in_err-extend-clause-cause : goal.returns-in_err-extend-clause-cause
returns-in_err-extend-clause-cause g c = cause_here (g.B.Ground.faults c.args.blocks.now) (g.B.Ground.faults c.row_of.new.blocks) c.from_residual-in_err-extend.result Memory c.from_residual-in_err-extend.ensures.1 tt

pub returns-clause-kept : goal.returns-clause-kept
returns-clause-kept g c = c.loop-part.invariant.kept

pub returns-clause-fault : goal.returns-clause-fault
returns-clause-fault g c = tt

pub returns-clause-cause : goal.returns-clause-cause
returns-clause-cause g c = tt

pub returns-clause-walk : goal.returns-clause-walk
returns-clause-walk g c = c.loop-part.invariant.walk

pub returns-clause-counted : goal.returns-clause-counted
returns-clause-counted g c = subst (λ r. AreChildren (g.B.Ground.geometry c.args.blocks.now) c.args.level c.args.least r c.loop-part.all.items) (take_all c.loop-part.part-index c.args.row.now (omega arith)) c.loop-part.invariant.counted
