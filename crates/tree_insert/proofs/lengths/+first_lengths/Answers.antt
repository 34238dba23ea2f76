use Rattle.std.proofs.Common.{rules, arith, [], ◌∷◌, ◌++◌, ◌≡◌, ◌≤◌, ◌-◌, ◌∙◌, ap, sym, subst, take, get_or, take_all}
use Rattle.ex_base.specs.declared.geometry.Geometry.{Geometry}
use Rattle.ex_base.specs.Sizes.{leaf_bytes}
use Rattle.ex_base.proofs.Each.{each_at}
use Rattle.ex_base.proofs.Geometries.{leaf_most}
use Rattle.ex_base.proofs.Results.{if_err_handed, cause_handed}
use Rattle.trees.specs.declared.rows.Part.{Part}
use Rattle.trees.specs.Damage.{IsWalkFault}
use Rattle.trees.specs.Rows.{FitLeaves, IsRowOn, IsFilled}
use Rattle.trees.proofs.Parts.{below_fit}
use Rattle.trees.proofs.Blame.{walk_back, walk_below, walk_node}
use Rattle.trees.specs.Built.{AreSome}
use Rattle.trees.proofs.RowReads.{walk_tree}
use Rattle.tree_insert.proofs.Counting.{leaves_in, leaf_front, front_step, front_node, front_start}
use Rattle.trees.proofs.Reading.{no_part}
use Rattle.ex_base.proofs.Handed.{not_given, cause_here}
use Rattle.ex_base.specs.declared.faults.PortFault.TheVariants.{Memory}
use Rattle.ex_base.proofs.Keeping.{keeps_on, keeps_refl}
use Rattle.tree_insert.proofs.lengths.+first_lengths.Goals as goal

pub overflow_cast-tree : goal.overflow_cast-tree
overflow_cast-tree g t c = omega (arith, c.requires.leaf c.if-level-eq0.true, leaf_most (g.B.Ground.geometry c.args.blocks.now))

pub first_lengths-requires : goal.first_lengths-requires
first_lengths-requires g t c κs within =
    let ready : g.B.Ground.ready c.loop-child.blocks = g.B.Ground.leads_ready c.args.blocks.now c.loop-child.blocks c.loop-child.invariant.kept.leads c.requires.ready in
    let some : 1 ≤ (get_or c.deref-child-items.result.now c.loop-child.child-index no_part).size = each_at (λ (part : Part). 1 ≤ part.size) c.deref-child-items.result.now c.loop-child.child-index no_part c.loop-child-test.true (subst AreSome (sym c.deref-child-items.ensures.value) c.in_ok-below.ensures.counted.some) in
    let fit : FitLeaves (g.B.Ground.geometry c.loop-child.blocks) (c.args.level - 1) c.deref-child-items.result.now =
    subst (λ geo. FitLeaves geo (c.args.level - 1) c.deref-child-items.result.now) (sym (g.B.Ground.leads_geometry c.args.blocks.now c.loop-child.blocks c.loop-child.invariant.kept.leads))
    (subst (FitLeaves (g.B.Ground.geometry c.args.blocks.now) (c.args.level - 1)) (sym c.deref-child-items.ensures.value) (below_fit (g.B.Ground.geometry c.args.blocks.now) c.args.level _ _ c.in_ok-below.below.items c.if-level-eq0.false c.in_ok-below.ensures.counted)) in
    let leaf : c.args.level - 1 ≡ 0 → (get_or c.deref-child-items.result.now c.loop-child.child-index no_part).size ≤ leaf_bytes (g.B.Ground.geometry c.loop-child.blocks) =
    λ low. each_at (λ (part : Part). part.size ≤ leaf_bytes (g.B.Ground.geometry c.loop-child.blocks)) c.deref-child-items.result.now c.loop-child.child-index no_part c.loop-child-test.true (fit low) in
    search rules

pub returns-in_err-first_lengths-clause-fault : goal.returns-in_err-first_lengths-clause-fault
returns-in_err-first_lengths-clause-fault g t c =
    if_err_handed c.from_residual-in_err-first_lengths.result _ c.in_err-first_lengths.field-0.0 c.from_residual-in_err-first_lengths.ensures.1
    (λ told. walk_below (g.B.Ground.geometry c.args.blocks.now) (g.B.Ground.unit c.args.blocks.now) c.args.level c.args.least 0 (c.args.tree ∷ []) c.deref-child-items.result.now c.in_err-first_lengths.field-0.0 c.if-level-eq0.false (omega arith) c.in_ok-below.ensures.area (subst (IsRowOn (g.B.Ground.geometry c.args.blocks.now) ((g.B.Ground.unit c.args.blocks.now) c.args.tree.page.0) c.args.level c.args.tree.size) (sym c.deref-child-items.ensures.value) (c.in_ok-below.ensures.found told)) (subst (IsFilled (g.B.Ground.geometry c.args.blocks.now) c.args.level c.args.least) (sym c.deref-child-items.ensures.value) c.in_ok-below.ensures.counted.filled)
    (walk_back g.B.Ground c.args.blocks.now c.loop-child.blocks (c.args.level - 1) (g.B.Ground.geometry c.args.blocks.now).fan c.deref-child-items.result.now c.in_err-first_lengths.field-0.0 c.loop-child.invariant.kept
    (λ later. walk_tree (g.B.Ground.geometry c.loop-child.blocks) (g.B.Ground.unit c.loop-child.blocks) (c.args.level - 1) (g.B.Ground.geometry c.args.blocks.now).fan c.loop-child.child-index c.deref-child-items.result.now c.in_err-first_lengths.field-0.0 c.loop-child-test.true
    (subst (λ k. IsWalkFault (g.B.Ground.geometry c.loop-child.blocks) (g.B.Ground.unit c.loop-child.blocks) (c.args.level - 1) k (get_or c.deref-child-items.result.now c.loop-child.child-index no_part ∷ []) c.in_err-first_lengths.field-0.0) (ap (λ (x : Geometry). x.fan) (c.geometry-fan.ensures ∙ g.B.Ground.leads_geometry c.args.blocks.now c.row_of.new.blocks c.in_ok-below.ensures.kept.leads)) (c.in_err-first_lengths.ensures.fault later))) told))

pub returns-then-level-eq0-clause-lengths : goal.returns-then-level-eq0-clause-lengths
returns-then-level-eq0-clause-lengths g t c = λ told l same trees. leaf_front (g.B.Ground.unit c.args.blocks.now) c.args.most c.args.level l c.args.tree c.args.lengths.now.items c.put.new.items.items c.if-level-eq0.true same (omega (arith, c.if-len-most.false, c.len.ensures)) c.in_ok-put.ensures

pub loop-child-preserved : goal.loop-child-preserved
loop-child-preserved g t c =
    front_step g.B.Ground c.args.blocks.now c.loop-child.blocks c.first_lengths.new.blocks c.args.most c.args.level c.deref-child-items.result.now c.loop-child.child-index c.args.lengths.now.items c.loop-child.lengths.items c.first_lengths.new.lengths.items
    c.loop-child-test.true c.loop-child.invariant c.in_ok-first_lengths.ensures.kept c.in_ok-first_lengths.ensures.most c.in_ok-first_lengths.ensures.lengths

pub returns-clause-lengths : goal.returns-clause-lengths
returns-clause-lengths g t c = λ told l same trees.
    front_node (g.B.Ground.geometry c.args.blocks.now) (g.B.Ground.unit c.args.blocks.now) c.args.most c.args.level l c.args.tree c.deref-child-items.result.now c.args.lengths.now.items c.loop-child.lengths.items same c.if-level-eq0.false (subst (IsRowOn (g.B.Ground.geometry c.args.blocks.now) ((g.B.Ground.unit c.args.blocks.now) c.args.tree.page.0) c.args.level c.args.tree.size) (sym c.deref-child-items.ensures.value) (c.in_ok-below.ensures.found told))
    (λ m e below. c.loop-child.invariant.lengths told m e below ∙ ap (λ r. take c.args.most (c.args.lengths.now.items ++ leaves_in (g.B.Ground.unit c.args.blocks.now) m r)) (take_all c.loop-child.child-index c.deref-child-items.result.now (omega arith))) trees

-- ---- what else is asked and promised

pub returns-in_err-put-clause-most : goal.returns-in_err-put-clause-most
returns-in_err-put-clause-most g t c = not_given c.from_residual.result _ Memory c.from_residual.ensures.1

pub returns-in_err-put-clause-lengths : goal.returns-in_err-put-clause-lengths
returns-in_err-put-clause-lengths g t c = not_given c.from_residual.result _ Memory c.from_residual.ensures.1

pub returns-in_err-put-clause-fault : goal.returns-in_err-put-clause-fault
returns-in_err-put-clause-fault g t c = if_err_handed c.from_residual.result _ Memory c.from_residual.ensures.1 (λ told. tt)

pub returns-in_err-put-clause-kept : goal.returns-in_err-put-clause-kept
returns-in_err-put-clause-kept g t c = keeps_refl g.B.Ground c.args.blocks.now

pub returns-in_err-put-clause-cause : goal.returns-in_err-put-clause-cause
returns-in_err-put-clause-cause g t c = cause_here (g.B.Ground.faults c.args.blocks.now) (g.B.Ground.faults c.args.blocks.now) c.from_residual.result Memory c.from_residual.ensures.1 tt

pub returns-in_err-below-clause-most : goal.returns-in_err-below-clause-most
returns-in_err-below-clause-most g t c = not_given c.from_residual-in_err-below.result _ c.in_err-below.field-0.0 c.from_residual-in_err-below.ensures.1

pub returns-in_err-below-clause-lengths : goal.returns-in_err-below-clause-lengths
returns-in_err-below-clause-lengths g t c = not_given c.from_residual-in_err-below.result _ c.in_err-below.field-0.0 c.from_residual-in_err-below.ensures.1

pub returns-in_err-below-clause-fault : goal.returns-in_err-below-clause-fault
returns-in_err-below-clause-fault g t c = if_err_handed c.from_residual-in_err-below.result _ c.in_err-below.field-0.0 c.from_residual-in_err-below.ensures.1 (λ told. walk_node (g.B.Ground.geometry c.args.blocks.now) (g.B.Ground.unit c.args.blocks.now) c.args.level c.args.least 0 (c.args.tree ∷ []) c.in_err-below.field-0.0 c.if-level-eq0.false (omega arith) (c.in_err-below.ensures.fault told))

pub returns-in_err-below-clause-kept : goal.returns-in_err-below-clause-kept
returns-in_err-below-clause-kept g t c = c.row_of.ensures.kept

pub returns-in_err-below-clause-cause : goal.returns-in_err-below-clause-cause
returns-in_err-below-clause-cause g t c = cause_here (g.B.Ground.faults c.args.blocks.now) (g.B.Ground.faults c.row_of.new.blocks) c.from_residual-in_err-below.result c.in_err-below.field-0.0 c.from_residual-in_err-below.ensures.1 c.in_err-below.ensures.cause

pub returns-in_err-first_lengths-clause-most : goal.returns-in_err-first_lengths-clause-most
returns-in_err-first_lengths-clause-most g t c = not_given c.from_residual-in_err-first_lengths.result _ c.in_err-first_lengths.field-0.0 c.from_residual-in_err-first_lengths.ensures.1

pub returns-in_err-first_lengths-clause-lengths : goal.returns-in_err-first_lengths-clause-lengths
returns-in_err-first_lengths-clause-lengths g t c = not_given c.from_residual-in_err-first_lengths.result _ c.in_err-first_lengths.field-0.0 c.from_residual-in_err-first_lengths.ensures.1

pub returns-in_err-first_lengths-clause-kept : goal.returns-in_err-first_lengths-clause-kept
returns-in_err-first_lengths-clause-kept g t c = keeps_on g.B.Ground c.args.blocks.now c.loop-child.blocks c.first_lengths.new.blocks c.loop-child.invariant.kept c.first_lengths.ensures.kept

pub returns-in_err-first_lengths-clause-cause : goal.returns-in_err-first_lengths-clause-cause
returns-in_err-first_lengths-clause-cause g t c = cause_handed (g.B.Ground.faults c.args.blocks.now) (g.B.Ground.faults c.loop-child.blocks) (g.B.Ground.faults c.first_lengths.new.blocks) c.from_residual-in_err-first_lengths.result c.in_err-first_lengths.field-0.0 c.from_residual-in_err-first_lengths.ensures.1 (g.B.Ground.leads_faults c.args.blocks.now c.loop-child.blocks c.loop-child.invariant.kept.leads) c.in_err-first_lengths.ensures.cause

pub returns-then-len-most-clause-cause : goal.returns-then-len-most-clause-cause
returns-then-len-most-clause-cause g t c = tt

pub returns-then-len-most-clause-fault : goal.returns-then-len-most-clause-fault
returns-then-len-most-clause-fault g t c = tt

pub returns-then-len-most-clause-kept : goal.returns-then-len-most-clause-kept
returns-then-len-most-clause-kept g t c = keeps_refl g.B.Ground c.args.blocks.now

pub returns-then-level-eq0-clause-cause : goal.returns-then-level-eq0-clause-cause
returns-then-level-eq0-clause-cause g t c = tt

pub returns-then-level-eq0-clause-fault : goal.returns-then-level-eq0-clause-fault
returns-then-level-eq0-clause-fault g t c = tt

pub returns-then-level-eq0-clause-kept : goal.returns-then-level-eq0-clause-kept
returns-then-level-eq0-clause-kept g t c = keeps_refl g.B.Ground c.args.blocks.now

pub returns-then-len-most-clause-most : goal.returns-then-len-most-clause-most
returns-then-len-most-clause-most g t c = c.requires.most

pub returns-clause-cause : goal.returns-clause-cause
returns-clause-cause g t c = tt

pub returns-clause-fault : goal.returns-clause-fault
returns-clause-fault g t c = tt

pub returns-clause-kept : goal.returns-clause-kept
returns-clause-kept g t c = c.loop-child.invariant.kept

pub overflow_sub-level : goal.overflow_sub-level
overflow_sub-level g t c = omega (arith, c.if-level-eq0.false)

pub loop-child-smaller : goal.loop-child-smaller
loop-child-smaller g t c = omega (arith, c.loop-child-test.true)

pub row_of-requires : goal.row_of-requires
row_of-requires g t c = c.requires.ready

pub geometry-fan-requires : goal.geometry-fan-requires
geometry-fan-requires g t c = record { ready = g.B.Ground.leads_ready c.args.blocks.now c.row_of.new.blocks c.in_ok-below.ensures.kept.leads c.requires.ready }

pub loop-child-init : goal.loop-child-init
loop-child-init g t c = front_start g.B.Ground c.args.blocks.now c.row_of.new.blocks c.args.most c.args.level c.deref-child-items.result.now c.args.lengths.now.items c.in_ok-below.ensures.kept c.requires.most

pub returns-clause-most : goal.returns-clause-most
returns-clause-most g t c = c.loop-child.invariant.few
