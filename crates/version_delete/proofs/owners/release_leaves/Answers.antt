use Rattle.std.proofs.Common.{get_or, subst, arith}
use Rattle.ex_base.specs.declared.geometry.Geometry.{Geometry}
use Rattle.trees.specs.Damage.{IsLeafFault}
use Rattle.trees.proofs.Blame.{any_at}
use Rattle.trees.proofs.Reading.{no_part}
use Rattle.version_delete.proofs.Releasing.{so_far_more, gives_on, gives_geometry}
use Rattle.version_delete.proofs.owners.release_leaves.Goals as goal

pub loop-leaf-preserved : goal.loop-leaf-preserved
loop-leaf-preserved g c =
    so_far_more g.B.Ground c.args.blocks.now c.loop-leaf.blocks c.release_leaf.new.blocks 1 c.args.row.now c.loop-leaf.leaf-index 0 0 0 c.loop-leaf-test.true c.loop-leaf.invariant
    c.in-Ok.ensures.released c.in-Ok.ensures.gives (omega (arith, c.in-Ok.ensures.pages)) (omega arith)

pub returns-in-Err-clause-gives : goal.returns-in-Err-clause-gives
returns-in-Err-clause-gives g c = gives_on g.B.Ground c.args.blocks.now c.loop-leaf.blocks c.release_leaf.new.blocks c.loop-leaf.invariant.gives c.in-Err.ensures.gives

pub returns-in-Err-clause-fault : goal.returns-in-Err-clause-fault
returns-in-Err-clause-fault g c =
    any_at (λ leaf. IsLeafFault (g.B.Ground.geometry c.args.blocks.now) leaf.page c.in-Err.fault) c.args.row.now c.loop-leaf.leaf-index c.loop-leaf-test.true
    (subst (λ (x : Geometry). IsLeafFault x (get_or c.args.row.now c.loop-leaf.leaf-index no_part).page c.in-Err.fault) (gives_geometry g.B.Ground c.args.blocks.now c.loop-leaf.blocks c.loop-leaf.invariant.gives) c.in-Err.ensures.fault)
