use Rattle.std.proofs.Common.{◌∙◌, ◌+◌, ◌-◌, ◌*◌, ◌≤◌, suc, length, ap, sym, subst, arith}
use Rattle.std.proofs.Math.Nat.{mul-le-mul_right}
use Rattle.trees.specs.Split.{most_pairs}
use Rattle.trees.specs.Rows.{row_size}
use Rattle.trees.specs.Made.{Holds}
use Rattle.tree_delete.specs.Cuts.{IsOpened, IsCutOf}
use Rattle.tree_delete.proofs.CutLaws.{size_cut, length_cut}
use Rattle.tree_delete.proofs.LeafLaws.{run_most}
use Rattle.trees.specs.Damage.{IsSoundWay, IsWalkFault}
use Rattle.ex_base.specs.Area.{NamesLeaf}
use Rattle.tree_delete.proofs.Ends.{ends_of_cut}
use Rattle.tree_delete.proofs.Faults.{walk_cut}
use Rattle.tree_delete.proofs.NodeLaws.{below_at, below_is}
use Rattle.tree_delete.specs.Beside.{AreNodesAt, children_on}
use Rattle.ex_base.proofs.Handed.{no_value, cause_here}
use Rattle.ex_base.specs.declared.faults.PortFault.TheVariants.{Memory}
use Rattle.ex_base.proofs.Results.{if_err_handed}
use Rattle.tree_delete.proofs.nodes.cut_below.Goals as goal

pub cut_through-requires-clause-limit : goal.cut_through-requires-clause-limit
cut_through-requires-clause-limit g c = omega (arith, ap row_size c.deref-2.ensures.value, c.in_ok-row.ensures.counted.sum, ap row_size c.deref.ensures.value, run_most c.args.cut.now, c.requires.cut_at.limit)

pub returns-clause-cut_at : goal.returns-clause-cut_at
returns-clause-cut_at g c =
    below_at (g.B.Ground.geometry c.args.blocks.now) c.args.level c.args.least c.deref.result.now c.in_ok-row.row.items c.args.cut.now.at c.args.cut.now.len c.in_ok-cut_through.field-0 c.in_ok-row.ensures.counted
    (omega (arith, ap row_size c.deref.ensures.value, run_most c.args.cut.now, c.requires.cut_at.limit)) (subst (λ r. IsCutOf r c.args.cut.now.at c.args.cut.now.len c.in_ok-cut_through.field-0) c.deref-2.ensures.value c.in_ok-cut_through.ensures)

pub returns-clause-sum : goal.returns-clause-sum
returns-clause-sum g c =
    omega (arith, size_cut c.deref-2.result.now c.args.cut.now.at c.args.cut.now.len c.in_ok-cut_through.field-0 c.in_ok-cut_through.ensures, ap row_size c.deref-2.ensures.value, c.in_ok-row.ensures.counted.sum, ap row_size c.deref.ensures.value)

pub returns-clause-few : goal.returns-clause-few
returns-clause-few g c =
    let runs : length c.deref.result.now ≤ 2 = omega (arith, ap length c.deref.ensures.value, c.requires.cut_at.few) in
    let product : length c.deref.result.now * most_pairs (g.B.Ground.geometry c.args.blocks.now).fan ≤ 2 * most_pairs (g.B.Ground.geometry c.args.blocks.now).fan = mul-le-mul_right (most_pairs (g.B.Ground.geometry c.args.blocks.now).fan) runs in
    omega (arith, length_cut c.deref-2.result.now c.args.cut.now.at c.args.cut.now.len c.in_ok-cut_through.field-0 c.in_ok-cut_through.ensures, ap length c.deref-2.ensures.value, c.in_ok-row.ensures.counted.few)

pub returns-clause-below : goal.returns-clause-below
returns-clause-below g c = λ told l same holds.
    below_is g.B.Ground c.args.blocks.now l c.args.cut.now.run.items c.in_ok-row.row.items c.args.cut.now.at c.args.cut.now.len c.in_ok-cut_through.field-0 c.requires.ready told
    (subst (λ r. IsOpened g.B.Ground c.args.blocks.now l r c.in_ok-row.row.items) c.deref.ensures.value
    (c.in_ok-row.ensures.opened told l same (subst (Holds g.B.Ground c.args.blocks.now (suc l)) (sym c.deref.ensures.value) holds)))
    (subst (λ r. IsCutOf r c.args.cut.now.at c.args.cut.now.len c.in_ok-cut_through.field-0) c.deref-2.ensures.value c.in_ok-cut_through.ensures)

pub returns-clause-walk : goal.returns-clause-walk
returns-clause-walk g c = λ told fault h.
    subst (λ r. IsWalkFault (g.B.Ground.geometry c.args.blocks.now) (g.B.Ground.unit c.args.blocks.now) c.args.level c.args.least r fault) c.deref.ensures.value
    (c.in_ok-row.ensures.walk told fault
    (walk_cut (g.B.Ground.geometry c.args.blocks.now) (g.B.Ground.unit c.args.blocks.now) (c.args.level - 1) (g.B.Ground.geometry c.args.blocks.now).fan c.in_ok-row.row.items c.args.cut.now.at c.args.cut.now.len c.in_ok-cut_through.field-0 fault
    (subst (λ r. IsCutOf r c.args.cut.now.at c.args.cut.now.len c.in_ok-cut_through.field-0) c.deref-2.ensures.value c.in_ok-cut_through.ensures) h))

pub returns-clause-way : goal.returns-clause-way
returns-clause-way g c = λ told ends.
    let cut = subst (λ r. IsCutOf r c.args.cut.now.at c.args.cut.now.len c.in_ok-cut_through.field-0) c.deref-2.ensures.value c.in_ok-cut_through.ensures in
    let both = ends_of_cut (g.B.Ground.geometry c.args.blocks.now) (g.B.Ground.unit c.args.blocks.now) (c.args.level - 1) (g.B.Ground.geometry c.args.blocks.now).fan c.in_ok-row.row.items c.args.cut.now.at c.args.cut.now.len c.in_ok-cut_through.field-0 cut ends in (
      λ some. subst (λ r. IsSoundWay (g.B.Ground.geometry c.args.blocks.now) (g.B.Ground.unit c.args.blocks.now) (NamesLeaf (g.B.Ground.geometry c.args.blocks.now)) c.args.level c.args.least r (c.args.cut.now.at - 1) c.args.cut.now.at) c.deref.ensures.value (c.in_ok-row.ensures.way told (c.args.cut.now.at - 1) c.args.cut.now.at (both.0 some)),
      λ some. subst (λ r. IsSoundWay (g.B.Ground.geometry c.args.blocks.now) (g.B.Ground.unit c.args.blocks.now) (NamesLeaf (g.B.Ground.geometry c.args.blocks.now)) c.args.level c.args.least r (c.args.cut.now.at + c.args.cut.now.len - 1) (c.args.cut.now.at + c.args.cut.now.len)) c.deref.ensures.value (c.in_ok-row.ensures.way told (c.args.cut.now.at + c.args.cut.now.len - 1) (c.args.cut.now.at + c.args.cut.now.len) (both.1 some)),
    )

pub returns-clause-nodes : goal.returns-clause-nodes
returns-clause-nodes g c = λ told.
    let nodes = c.in_ok-row.ensures.nodes told in (
      subst (AreNodesAt (g.B.Ground.geometry c.args.blocks.now) (g.B.Ground.unit c.args.blocks.now) c.args.level c.args.least) c.deref.ensures.value nodes.0,
      subst (λ r. IsCutOf r c.args.cut.now.at c.args.cut.now.len c.in_ok-cut_through.field-0) (nodes.1 ∙ ap (children_on (g.B.Ground.unit c.args.blocks.now)) c.deref.ensures.value)
          (subst (λ r. IsCutOf r c.args.cut.now.at c.args.cut.now.len c.in_ok-cut_through.field-0) c.deref-2.ensures.value c.in_ok-cut_through.ensures),
    )

-- ---- what else is asked and promised

pub returns-in_err-row-clause-cut_at : goal.returns-in_err-row-clause-cut_at
returns-in_err-row-clause-cut_at g c = no_value c.from_residual.result _ c.in_err-row.field-0.0 c.from_residual.ensures.1

pub returns-in_err-row-clause-sum : goal.returns-in_err-row-clause-sum
returns-in_err-row-clause-sum g c = no_value c.from_residual.result _ c.in_err-row.field-0.0 c.from_residual.ensures.1

pub returns-in_err-row-clause-less : goal.returns-in_err-row-clause-less
returns-in_err-row-clause-less g c = no_value c.from_residual.result _ c.in_err-row.field-0.0 c.from_residual.ensures.1

pub returns-in_err-row-clause-few : goal.returns-in_err-row-clause-few
returns-in_err-row-clause-few g c = no_value c.from_residual.result _ c.in_err-row.field-0.0 c.from_residual.ensures.1

pub returns-in_err-row-clause-below : goal.returns-in_err-row-clause-below
returns-in_err-row-clause-below g c = no_value c.from_residual.result _ c.in_err-row.field-0.0 c.from_residual.ensures.1

pub returns-in_err-row-clause-way : goal.returns-in_err-row-clause-way
returns-in_err-row-clause-way g c = no_value c.from_residual.result _ c.in_err-row.field-0.0 c.from_residual.ensures.1

pub returns-in_err-row-clause-nodes : goal.returns-in_err-row-clause-nodes
returns-in_err-row-clause-nodes g c = no_value c.from_residual.result _ c.in_err-row.field-0.0 c.from_residual.ensures.1

pub returns-in_err-row-clause-walk : goal.returns-in_err-row-clause-walk
returns-in_err-row-clause-walk g c = no_value c.from_residual.result _ c.in_err-row.field-0.0 c.from_residual.ensures.1

pub returns-in_err-row-clause-kept : goal.returns-in_err-row-clause-kept
returns-in_err-row-clause-kept g c = c.children_of.ensures.kept

pub returns-in_err-row-clause-cause : goal.returns-in_err-row-clause-cause
returns-in_err-row-clause-cause g c = cause_here (g.B.Ground.faults c.args.blocks.now) (g.B.Ground.faults c.children_of.new.blocks) c.from_residual.result c.in_err-row.field-0.0 c.from_residual.ensures.1 c.in_err-row.ensures.cause

pub returns-in_err-row-clause-fault : goal.returns-in_err-row-clause-fault
returns-in_err-row-clause-fault g c = if_err_handed c.from_residual.result _ c.in_err-row.field-0.0 c.from_residual.ensures.1 (λ told. subst (λ r. IsWalkFault (g.B.Ground.geometry c.args.blocks.now) (g.B.Ground.unit c.args.blocks.now) c.args.level c.args.least r c.in_err-row.field-0.0) c.deref.ensures.value (c.in_err-row.ensures.fault told))

pub returns-in_err-cut_through-clause-cut_at : goal.returns-in_err-cut_through-clause-cut_at
returns-in_err-cut_through-clause-cut_at g c = no_value c.from_residual-in_err-cut_through.result _ Memory c.from_residual-in_err-cut_through.ensures.1

pub returns-in_err-cut_through-clause-sum : goal.returns-in_err-cut_through-clause-sum
returns-in_err-cut_through-clause-sum g c = no_value c.from_residual-in_err-cut_through.result _ Memory c.from_residual-in_err-cut_through.ensures.1

pub returns-in_err-cut_through-clause-less : goal.returns-in_err-cut_through-clause-less
returns-in_err-cut_through-clause-less g c = no_value c.from_residual-in_err-cut_through.result _ Memory c.from_residual-in_err-cut_through.ensures.1

pub returns-in_err-cut_through-clause-few : goal.returns-in_err-cut_through-clause-few
returns-in_err-cut_through-clause-few g c = no_value c.from_residual-in_err-cut_through.result _ Memory c.from_residual-in_err-cut_through.ensures.1

pub returns-in_err-cut_through-clause-below : goal.returns-in_err-cut_through-clause-below
returns-in_err-cut_through-clause-below g c = no_value c.from_residual-in_err-cut_through.result _ Memory c.from_residual-in_err-cut_through.ensures.1

pub returns-in_err-cut_through-clause-way : goal.returns-in_err-cut_through-clause-way
returns-in_err-cut_through-clause-way g c = no_value c.from_residual-in_err-cut_through.result _ Memory c.from_residual-in_err-cut_through.ensures.1

pub returns-in_err-cut_through-clause-nodes : goal.returns-in_err-cut_through-clause-nodes
returns-in_err-cut_through-clause-nodes g c = no_value c.from_residual-in_err-cut_through.result _ Memory c.from_residual-in_err-cut_through.ensures.1

pub returns-in_err-cut_through-clause-walk : goal.returns-in_err-cut_through-clause-walk
returns-in_err-cut_through-clause-walk g c = no_value c.from_residual-in_err-cut_through.result _ Memory c.from_residual-in_err-cut_through.ensures.1

pub returns-in_err-cut_through-clause-fault : goal.returns-in_err-cut_through-clause-fault
returns-in_err-cut_through-clause-fault g c = if_err_handed c.from_residual-in_err-cut_through.result _ Memory c.from_residual-in_err-cut_through.ensures.1 (λ told. tt)

pub returns-in_err-cut_through-clause-kept : goal.returns-in_err-cut_through-clause-kept
returns-in_err-cut_through-clause-kept g c = c.children_of.ensures.kept

pub returns-in_err-cut_through-clause-cause : goal.returns-in_err-cut_through-clause-cause
returns-in_err-cut_through-clause-cause g c = cause_here (g.B.Ground.faults c.args.blocks.now) (g.B.Ground.faults c.children_of.new.blocks) c.from_residual-in_err-cut_through.result Memory c.from_residual-in_err-cut_through.ensures.1 tt

pub returns-clause-kept : goal.returns-clause-kept
returns-clause-kept g c = c.children_of.ensures.kept

pub returns-clause-fault : goal.returns-clause-fault
returns-clause-fault g c = tt

pub returns-clause-cause : goal.returns-clause-cause
returns-clause-cause g c = tt

pub children_of-requires-clause-ready : goal.children_of-requires-clause-ready
children_of-requires-clause-ready g c = c.requires.ready

pub children_of-requires-clause-level : goal.children_of-requires-clause-level
children_of-requires-clause-level g c = c.requires.level
