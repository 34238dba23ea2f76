use Rattle.std.proofs.Common.{rules, arith, ap, ◌∙◌, ◌++◌, subst, take_all, ◌≡◌, length}
use Rattle.trees.proofs.Blame.{walk_back, walk_node}
use Rattle.tree_insert.proofs.BelowRows.{below_more}
use Rattle.ex_base.proofs.Handed.{no_value, not_given, cause_here}
use Rattle.ex_base.specs.declared.faults.PortFault.TheVariants.{Memory}
use Rattle.ex_base.proofs.Keeping.{keeps_on}
use Rattle.std.specs.List.{AllByRecursion}
use Rattle.trees.specs.declared.rows.Part.{Part}
use Rattle.trees.specs.Rows.{IsCounted, IsRowOn}
use Rattle.trees.specs.Damage.{NamesNode}
use Rattle.tree_insert.specs.Replaced.{EachRow}
use Rattle.trees.proofs.Parts.{narrow}
use Rattle.tree_insert.proofs.overwrite.row_below.Goals as goal
use Rattle.ex_base.proofs.Results.{if_err_handed, cause_handed}

pub returns-in_err-children-clause-fault : goal.returns-in_err-children-clause-fault
returns-in_err-children-clause-fault g c =
    if_err_handed c.from_residual.result _ c.in_err-children.field-0.0 c.from_residual.ensures.1
    (walk_back g.B.Ground c.args.blocks.now c.loop-part.blocks c.args.level c.args.least c.args.run.now c.in_err-children.field-0.0 c.loop-part.invariant.kept
    (λ told. walk_node (g.B.Ground.geometry c.loop-part.blocks) (g.B.Ground.unit c.loop-part.blocks) c.args.level c.args.least c.loop-part.part-index c.args.run.now c.in_err-children.field-0.0 (λ none. omega (arith, none, c.requires.level)) c.loop-part-test.true (c.in_err-children.ensures.fault told)))

pub loop-part-preserved : goal.loop-part-preserved
loop-part-preserved g c =
    below_more g.B.Ground c.args.blocks.now c.loop-part.blocks c.row_of.new.blocks c.args.level c.args.least c.args.run.now c.loop-part.part-index c.loop-part.lens.items c.put.new.items.items c.loop-part.row.items c.extend_from_slice.new.self.items c.in_ok-children.children.items c.len.result
    c.loop-part-test.true c.loop-part.invariant c.in_ok-children.ensures.kept c.in_ok-children.ensures.counted c.in_ok-children.ensures.found c.in_ok-children.ensures.area (search rules) c.in_ok-put.ensures
    (c.in_ok-extend_from_slice.ensures.items ∙ ap (λ r. c.loop-part.row.items ++ r) c.deref.ensures.value)

-- ---- what else is asked and promised

pub row_of-requires : goal.row_of-requires
row_of-requires g c = g.B.Ground.leads_ready c.args.blocks.now c.loop-part.blocks c.loop-part.invariant.kept.leads c.requires.ready

pub loop-part-smaller : goal.loop-part-smaller
loop-part-smaller g c = omega (arith, c.loop-part-test.true)

pub returns-in_err-children-clause-counted : goal.returns-in_err-children-clause-counted
returns-in_err-children-clause-counted g c = no_value c.from_residual.result _ c.in_err-children.field-0.0 c.from_residual.ensures.1

pub returns-in_err-children-clause-found : goal.returns-in_err-children-clause-found
returns-in_err-children-clause-found g c = no_value c.from_residual.result _ c.in_err-children.field-0.0 c.from_residual.ensures.1

pub returns-in_err-children-clause-area : goal.returns-in_err-children-clause-area
returns-in_err-children-clause-area g c = not_given c.from_residual.result _ c.in_err-children.field-0.0 c.from_residual.ensures.1

pub returns-in_err-children-clause-kept : goal.returns-in_err-children-clause-kept
returns-in_err-children-clause-kept g c = keeps_on g.B.Ground c.args.blocks.now c.loop-part.blocks c.row_of.new.blocks c.loop-part.invariant.kept c.row_of.ensures.kept

pub returns-in_err-children-clause-cause : goal.returns-in_err-children-clause-cause
returns-in_err-children-clause-cause g c = cause_handed (g.B.Ground.faults c.args.blocks.now) (g.B.Ground.faults c.loop-part.blocks) (g.B.Ground.faults c.row_of.new.blocks) c.from_residual.result c.in_err-children.field-0.0 c.from_residual.ensures.1 (g.B.Ground.leads_faults c.args.blocks.now c.loop-part.blocks c.loop-part.invariant.kept.leads) c.in_err-children.ensures.cause

pub returns-in_err-put-clause-counted : goal.returns-in_err-put-clause-counted
returns-in_err-put-clause-counted g c = no_value c.from_residual-in_err-put.result _ Memory c.from_residual-in_err-put.ensures.1

pub returns-in_err-put-clause-found : goal.returns-in_err-put-clause-found
returns-in_err-put-clause-found g c = no_value c.from_residual-in_err-put.result _ Memory c.from_residual-in_err-put.ensures.1

pub returns-in_err-put-clause-area : goal.returns-in_err-put-clause-area
returns-in_err-put-clause-area g c = not_given c.from_residual-in_err-put.result _ Memory c.from_residual-in_err-put.ensures.1

pub returns-in_err-put-clause-fault : goal.returns-in_err-put-clause-fault
returns-in_err-put-clause-fault g c = if_err_handed c.from_residual-in_err-put.result _ Memory c.from_residual-in_err-put.ensures.1 (λ told. tt)

pub returns-in_err-put-clause-kept : goal.returns-in_err-put-clause-kept
returns-in_err-put-clause-kept g c = keeps_on g.B.Ground c.args.blocks.now c.loop-part.blocks c.row_of.new.blocks c.loop-part.invariant.kept c.row_of.ensures.kept

pub returns-in_err-put-clause-cause : goal.returns-in_err-put-clause-cause
returns-in_err-put-clause-cause g c = cause_here (g.B.Ground.faults c.args.blocks.now) (g.B.Ground.faults c.row_of.new.blocks) c.from_residual-in_err-put.result Memory c.from_residual-in_err-put.ensures.1 tt

pub returns-in_err-extend_from_slice-clause-counted : goal.returns-in_err-extend_from_slice-clause-counted
returns-in_err-extend_from_slice-clause-counted g c = no_value c.from_residual-in_err-extend_from_slice.result _ Memory c.from_residual-in_err-extend_from_slice.ensures.1

pub returns-in_err-extend_from_slice-clause-found : goal.returns-in_err-extend_from_slice-clause-found
returns-in_err-extend_from_slice-clause-found g c = no_value c.from_residual-in_err-extend_from_slice.result _ Memory c.from_residual-in_err-extend_from_slice.ensures.1

pub returns-in_err-extend_from_slice-clause-area : goal.returns-in_err-extend_from_slice-clause-area
returns-in_err-extend_from_slice-clause-area g c = not_given c.from_residual-in_err-extend_from_slice.result _ Memory c.from_residual-in_err-extend_from_slice.ensures.1

pub returns-in_err-extend_from_slice-clause-fault : goal.returns-in_err-extend_from_slice-clause-fault
returns-in_err-extend_from_slice-clause-fault g c = if_err_handed c.from_residual-in_err-extend_from_slice.result _ Memory c.from_residual-in_err-extend_from_slice.ensures.1 (λ told. tt)

pub returns-in_err-extend_from_slice-clause-kept : goal.returns-in_err-extend_from_slice-clause-kept
returns-in_err-extend_from_slice-clause-kept g c = keeps_on g.B.Ground c.args.blocks.now c.loop-part.blocks c.row_of.new.blocks c.loop-part.invariant.kept c.row_of.ensures.kept

pub returns-in_err-extend_from_slice-clause-cause : goal.returns-in_err-extend_from_slice-clause-cause
returns-in_err-extend_from_slice-clause-cause g c = cause_here (g.B.Ground.faults c.args.blocks.now) (g.B.Ground.faults c.row_of.new.blocks) c.from_residual-in_err-extend_from_slice.result Memory c.from_residual-in_err-extend_from_slice.ensures.1 tt

pub returns-clause-kept : goal.returns-clause-kept
returns-clause-kept g c = c.loop-part.invariant.kept

pub returns-clause-fault : goal.returns-clause-fault
returns-clause-fault g c = tt

pub returns-clause-cause : goal.returns-clause-cause
returns-clause-cause g c = tt

pub returns-clause-counted : goal.returns-clause-counted
returns-clause-counted g c = subst (λ r. EachRow (λ part row. IsCounted (g.B.Ground.geometry c.args.blocks.now) c.args.level part.size c.args.least row) r c.loop-part.lens.items c.loop-part.row.items) (take_all c.loop-part.part-index c.args.run.now (omega arith)) c.loop-part.invariant.counted

pub returns-clause-found : goal.returns-clause-found
returns-clause-found g c = λ told. subst (λ r. EachRow (λ part row. IsRowOn (g.B.Ground.geometry c.args.blocks.now) (g.B.Ground.unit c.args.blocks.now part.page.0) c.args.level part.size row) r c.loop-part.lens.items c.loop-part.row.items) (take_all c.loop-part.part-index c.args.run.now (omega arith)) (c.loop-part.invariant.found told)

pub returns-clause-area : goal.returns-clause-area
returns-clause-area g c = subst (AllByRecursion (λ (part : Part). NamesNode (g.B.Ground.geometry c.args.blocks.now) part.page.0)) (take_all c.loop-part.part-index c.args.run.now (omega arith)) c.loop-part.invariant.area

pub overflow_cast-len : goal.overflow_cast-len
overflow_cast-len g c =
    let len : c.len.result ≡ length c.in_ok-children.children.items = search rules in
    omega (arith, len, c.in_ok-children.ensures.counted.few, narrow (g.B.Ground.geometry c.loop-part.blocks))
