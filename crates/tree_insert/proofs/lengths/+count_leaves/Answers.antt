use Rattle.std.proofs.Common.{rules, arith, [], ◌∷◌, ◌≡◌, ◌≤◌, Some, ◌+◌, ◌-◌, ◌∙◌, ap, sym, subst, length, get_or, take_all, nat_eq}
use Rattle.std.specs.HashMap.{get}
use Rattle.ex_base.specs.declared.geometry.Geometry.{Geometry}
use Rattle.ex_base.proofs.Each.{each_at}
use Rattle.ex_base.proofs.Results.{if_err_handed, cause_handed}
use Rattle.trees.specs.declared.rows.Part.{Part}
use Rattle.trees.specs.Damage.{AnyPage, IsSoundWay, IsWalkFault}
use Rattle.trees.specs.Rows.{row_size, IsRowOn, IsFilled}
use Rattle.trees.proofs.Blame.{walk_back, walk_below, walk_node}
use Rattle.trees.proofs.Ways.{way_one, way_any, way_least}
use Rattle.trees.specs.Built.{AreSome}
use Rattle.trees.proofs.RowReads.{walk_tree}
use Rattle.tree_insert.proofs.Counting.{leaves_in, count_start, count_more, count_node, bounded_put, counted_put, sound_put}
use Rattle.trees.proofs.Reading.{no_part}
use Rattle.trees.proofs.Sizes.{front_most}
use Rattle.tree_insert.proofs.PlaceLaws.{read_size, size-front}
use Rattle.ex_base.proofs.Handed.{no_value, not_given, cause_here}
use Rattle.ex_base.proofs.Keeping.{keeps_on, keeps_refl}
use Rattle.tree_insert.proofs.lengths.+count_leaves.Goals as goal

pub count_leaves-requires : goal.count_leaves-requires
count_leaves-requires g t c κs within =
    let ready : g.B.Ground.ready c.loop-child.blocks = g.B.Ground.leads_ready c.args.blocks.now c.loop-child.blocks c.loop-child.invariant.kept.leads c.requires.ready in
    let some : 1 ≤ (get_or c.deref-child-items.result.now c.loop-child.child-index no_part).size = each_at (λ (part : Part). 1 ≤ part.size) c.deref-child-items.result.now c.loop-child.child-index no_part c.loop-child-test.true (subst AreSome (sym c.deref-child-items.ensures.value) c.in_ok-below.ensures.counted.some) in
    search rules

pub returns-in_err-leaves-clause-fault : goal.returns-in_err-leaves-clause-fault
returns-in_err-leaves-clause-fault g t c =
    if_err_handed c.from_residual-in_err-leaves.result _ c.in_err-leaves.field-0.0 c.from_residual-in_err-leaves.ensures.1
    (λ told. walk_below (g.B.Ground.geometry c.args.blocks.now) (g.B.Ground.unit c.args.blocks.now) c.args.level c.args.least 0 (c.args.tree ∷ []) c.deref-child-items.result.now c.in_err-leaves.field-0.0 c.if-level-eq0.false (omega arith) c.in_ok-below.ensures.area (subst (IsRowOn (g.B.Ground.geometry c.args.blocks.now) ((g.B.Ground.unit c.args.blocks.now) c.args.tree.page.0) c.args.level c.args.tree.size) (sym c.deref-child-items.ensures.value) (c.in_ok-below.ensures.found told)) (subst (IsFilled (g.B.Ground.geometry c.args.blocks.now) c.args.level c.args.least) (sym c.deref-child-items.ensures.value) c.in_ok-below.ensures.counted.filled)
    (walk_back g.B.Ground c.args.blocks.now c.loop-child.blocks (c.args.level - 1) (g.B.Ground.geometry c.args.blocks.now).fan c.deref-child-items.result.now c.in_err-leaves.field-0.0 c.loop-child.invariant.kept
    (λ later. walk_tree (g.B.Ground.geometry c.loop-child.blocks) (g.B.Ground.unit c.loop-child.blocks) (c.args.level - 1) (g.B.Ground.geometry c.args.blocks.now).fan c.loop-child.child-index c.deref-child-items.result.now c.in_err-leaves.field-0.0 c.loop-child-test.true
    (subst (λ k. IsWalkFault (g.B.Ground.geometry c.loop-child.blocks) (g.B.Ground.unit c.loop-child.blocks) (c.args.level - 1) k (get_or c.deref-child-items.result.now c.loop-child.child-index no_part ∷ []) c.in_err-leaves.field-0.0) (ap (λ (x : Geometry). x.fan) (c.geometry-fan.ensures ∙ g.B.Ground.leads_geometry c.args.blocks.now c.row_of.new.blocks c.in_ok-below.ensures.kept.leads)) (c.in_err-leaves.ensures.fault later))) told))

pub overflow_add-leaves : goal.overflow_add-leaves
overflow_add-leaves g t c =
    let le : c.loop-child.leaves + c.in_ok-leaves.field-0 ≤ c.args.tree.size = omega (arith, c.loop-child.invariant.most, c.in_ok-leaves.ensures.most, size-front c.deref-child-items.result.now c.loop-child.child-index c.loop-child-test.true, read_size c.deref-child-items.result.now c.loop-child.child-index c.loop-child-test.true, front_most c.deref-child-items.result.now (c.loop-child.child-index + 1), ap row_size c.deref-child-items.ensures.value, c.in_ok-below.ensures.counted.sum) in
    search rules

pub loop-child-preserved : goal.loop-child-preserved
loop-child-preserved g t c =
    count_more g.B.Ground c.args.blocks.now c.loop-child.blocks c.count_leaves.new.blocks (get nat_eq c.args.known.now) (get nat_eq c.loop-child.known) (get nat_eq c.count_leaves.new.known) c.args.level c.geometry-fan.result.fan c.deref-child-items.result.now c.loop-child.child-index c.loop-child.leaves c.in_ok-leaves.field-0
    (ap (λ (geo : Geometry). geo.fan) (c.geometry-fan.ensures ∙ g.B.Ground.leads_geometry c.args.blocks.now c.row_of.new.blocks c.in_ok-below.ensures.kept.leads))
    c.loop-child-test.true c.loop-child.invariant c.in_ok-leaves.ensures.kept c.in_ok-leaves.ensures.bounded c.in_ok-leaves.ensures.most c.in_ok-leaves.ensures.known c.in_ok-leaves.ensures.count c.in_ok-leaves.ensures.ways c.in_ok-leaves.ensures.way

pub returns-in-Ok-clause-bounded : goal.returns-in-Ok-clause-bounded
returns-in-Ok-clause-bounded g t c =
    bounded_put (get nat_eq c.loop-child.known) (get nat_eq c.insert.new.self) c.args.tree.page.0 (record { level = c.args.level; size = c.args.tree.size; leaves = c.loop-child.leaves }) c.in-Ok.ensures.updates.1 c.in-Ok.ensures.updates.2 c.loop-child.invariant.bounded
    (omega (arith, c.loop-child.invariant.most, front_most c.deref-child-items.result.now c.loop-child.child-index, ap row_size c.deref-child-items.ensures.value, c.in_ok-below.ensures.counted.sum))

pub returns-in-Ok-clause-known : goal.returns-in-Ok-clause-known
returns-in-Ok-clause-known g t c = λ told start.
    counted_put (g.B.Ground.geometry c.args.blocks.now) (g.B.Ground.unit c.args.blocks.now) (get nat_eq c.loop-child.known) (get nat_eq c.insert.new.self) c.args.tree.page.0 (record { level = c.args.level; size = c.args.tree.size; leaves = c.loop-child.leaves }) c.in-Ok.ensures.updates.1 c.in-Ok.ensures.updates.2 (c.loop-child.invariant.known told start)
    (λ l same trees. count_node (g.B.Ground.geometry c.args.blocks.now) (g.B.Ground.unit c.args.blocks.now) c.args.level l c.args.tree c.deref-child-items.result.now c.loop-child.leaves same c.if-level-eq0.false (subst (IsRowOn (g.B.Ground.geometry c.args.blocks.now) ((g.B.Ground.unit c.args.blocks.now) c.args.tree.page.0) c.args.level c.args.tree.size) (sym c.deref-child-items.ensures.value) (c.in_ok-below.ensures.found told)) (λ m e below. c.loop-child.invariant.count told start m e below ∙ ap (λ r. length (leaves_in (g.B.Ground.unit c.args.blocks.now) m r)) (take_all c.loop-child.child-index c.deref-child-items.result.now (omega arith))) trees)

pub returns-in-Ok-clause-count : goal.returns-in-Ok-clause-count
returns-in-Ok-clause-count g t c = λ told start l same trees. count_node (g.B.Ground.geometry c.args.blocks.now) (g.B.Ground.unit c.args.blocks.now) c.args.level l c.args.tree c.deref-child-items.result.now c.loop-child.leaves same c.if-level-eq0.false (subst (IsRowOn (g.B.Ground.geometry c.args.blocks.now) ((g.B.Ground.unit c.args.blocks.now) c.args.tree.page.0) c.args.level c.args.tree.size) (sym c.deref-child-items.ensures.value) (c.in_ok-below.ensures.found told)) (λ m e below. c.loop-child.invariant.count told start m e below ∙ ap (λ r. length (leaves_in (g.B.Ground.unit c.args.blocks.now) m r)) (take_all c.loop-child.child-index c.deref-child-items.result.now (omega arith))) trees

pub returns-in-Ok-clause-ways : goal.returns-in-Ok-clause-ways
returns-in-Ok-clause-ways g t c = λ told wide start.
    sound_put (g.B.Ground.geometry c.args.blocks.now) (g.B.Ground.unit c.args.blocks.now) (get nat_eq c.loop-child.known) (get nat_eq c.insert.new.self) c.args.tree.page.0 (record { level = c.args.level; size = c.args.tree.size; leaves = c.loop-child.leaves }) c.in-Ok.ensures.updates.1 c.in-Ok.ensures.updates.2 (c.loop-child.invariant.ways told start)
    (λ byte. way_one (g.B.Ground.geometry c.args.blocks.now) (g.B.Ground.unit c.args.blocks.now) AnyPage c.args.level (g.B.Ground.geometry c.args.blocks.now).fan c.args.tree c.in_ok-below.below.items byte byte c.if-level-eq0.false c.in_ok-below.ensures.area (c.in_ok-below.ensures.found told)
    (record { enough = omega (arith, wide, c.in_ok-below.ensures.counted.filled.enough); halves = c.in_ok-below.ensures.counted.filled.halves })
    (subst (λ r. IsSoundWay (g.B.Ground.geometry c.args.blocks.now) (g.B.Ground.unit c.args.blocks.now) AnyPage (c.args.level - 1) (g.B.Ground.geometry c.args.blocks.now).fan r byte byte) (take_all c.loop-child.child-index c.deref-child-items.result.now (omega arith) ∙ c.deref-child-items.ensures.value) (c.loop-child.invariant.way told start byte)))

pub returns-in-Ok-clause-way : goal.returns-in-Ok-clause-way
returns-in-Ok-clause-way g t c = λ told narrow start byte.
    way_one (g.B.Ground.geometry c.args.blocks.now) (g.B.Ground.unit c.args.blocks.now) AnyPage c.args.level c.args.least c.args.tree c.in_ok-below.below.items byte byte c.if-level-eq0.false c.in_ok-below.ensures.area (c.in_ok-below.ensures.found told) c.in_ok-below.ensures.counted.filled
    (subst (λ r. IsSoundWay (g.B.Ground.geometry c.args.blocks.now) (g.B.Ground.unit c.args.blocks.now) AnyPage (c.args.level - 1) (g.B.Ground.geometry c.args.blocks.now).fan r byte byte) (take_all c.loop-child.child-index c.deref-child-items.result.now (omega arith) ∙ c.deref-child-items.ensures.value) (c.loop-child.invariant.way told start byte))

pub returns-then-level-eq0-clause-way : goal.returns-then-level-eq0-clause-way
returns-then-level-eq0-clause-way g t c = λ told narrow start byte.
    way_any (g.B.Ground.geometry c.args.blocks.now) (g.B.Ground.unit c.args.blocks.now) AnyPage c.args.level c.args.least (c.args.tree ∷ []) byte byte c.if-level-eq0.true (λ p. tt)

pub returns-then-counted-tree-clause-way : goal.returns-then-counted-tree-clause-way
returns-then-counted-tree-clause-way g t c = λ told narrow start byte.
    let there : get nat_eq c.args.known.now c.args.tree.page.0 ≡ Some c.in-Some.counted = search rules in
    way_least (g.B.Ground.geometry c.args.blocks.now) (g.B.Ground.unit c.args.blocks.now) AnyPage c.args.level (g.B.Ground.geometry c.args.blocks.now).fan c.args.least (c.args.tree ∷ []) byte byte narrow
    (subst (λ l. IsSoundWay (g.B.Ground.geometry c.args.blocks.now) (g.B.Ground.unit c.args.blocks.now) AnyPage l (g.B.Ground.geometry c.args.blocks.now).fan (c.args.tree ∷ []) byte byte) c.if-counted-level.true
    (subst (λ n. IsSoundWay (g.B.Ground.geometry c.args.blocks.now) (g.B.Ground.unit c.args.blocks.now) AnyPage c.in-Some.counted.level (g.B.Ground.geometry c.args.blocks.now).fan (record { size = n; page = c.args.tree.page } ∷ []) byte byte) c.if-counted-tree.true (start c.args.tree.page.0 c.in-Some.counted there byte)))

pub loop-child-init : goal.loop-child-init
loop-child-init g t c = count_start g.B.Ground c.args.blocks.now c.row_of.new.blocks (get nat_eq c.args.known.now) c.args.level c.deref-child-items.result.now c.in_ok-below.ensures.kept c.requires.bounded

-- ---- what else is asked and promised

pub returns-in_err-below-clause-most : goal.returns-in_err-below-clause-most
returns-in_err-below-clause-most g t c = no_value c.from_residual.result _ c.in_err-below.field-0.0 c.from_residual.ensures.1

pub returns-in_err-below-clause-count : goal.returns-in_err-below-clause-count
returns-in_err-below-clause-count g t c = no_value c.from_residual.result _ c.in_err-below.field-0.0 c.from_residual.ensures.1

pub returns-in_err-below-clause-bounded : goal.returns-in_err-below-clause-bounded
returns-in_err-below-clause-bounded g t c = not_given c.from_residual.result _ c.in_err-below.field-0.0 c.from_residual.ensures.1

pub returns-in_err-below-clause-known : goal.returns-in_err-below-clause-known
returns-in_err-below-clause-known g t c = not_given c.from_residual.result _ c.in_err-below.field-0.0 c.from_residual.ensures.1

pub returns-in_err-below-clause-ways : goal.returns-in_err-below-clause-ways
returns-in_err-below-clause-ways g t c = not_given c.from_residual.result _ c.in_err-below.field-0.0 c.from_residual.ensures.1

pub returns-in_err-below-clause-way : goal.returns-in_err-below-clause-way
returns-in_err-below-clause-way g t c = not_given c.from_residual.result _ c.in_err-below.field-0.0 c.from_residual.ensures.1

pub returns-in_err-below-clause-fault : goal.returns-in_err-below-clause-fault
returns-in_err-below-clause-fault g t c = if_err_handed c.from_residual.result _ c.in_err-below.field-0.0 c.from_residual.ensures.1 (λ told. walk_node (g.B.Ground.geometry c.args.blocks.now) (g.B.Ground.unit c.args.blocks.now) c.args.level c.args.least 0 (c.args.tree ∷ []) c.in_err-below.field-0.0 c.if-level-eq0.false (omega arith) (c.in_err-below.ensures.fault told))

pub returns-in_err-below-clause-kept : goal.returns-in_err-below-clause-kept
returns-in_err-below-clause-kept g t c = c.row_of.ensures.kept

pub returns-in_err-below-clause-cause : goal.returns-in_err-below-clause-cause
returns-in_err-below-clause-cause g t c = cause_here (g.B.Ground.faults c.args.blocks.now) (g.B.Ground.faults c.row_of.new.blocks) c.from_residual.result c.in_err-below.field-0.0 c.from_residual.ensures.1 c.in_err-below.ensures.cause

pub returns-in_err-leaves-clause-most : goal.returns-in_err-leaves-clause-most
returns-in_err-leaves-clause-most g t c = no_value c.from_residual-in_err-leaves.result _ c.in_err-leaves.field-0.0 c.from_residual-in_err-leaves.ensures.1

pub returns-in_err-leaves-clause-count : goal.returns-in_err-leaves-clause-count
returns-in_err-leaves-clause-count g t c = no_value c.from_residual-in_err-leaves.result _ c.in_err-leaves.field-0.0 c.from_residual-in_err-leaves.ensures.1

pub returns-in_err-leaves-clause-bounded : goal.returns-in_err-leaves-clause-bounded
returns-in_err-leaves-clause-bounded g t c = not_given c.from_residual-in_err-leaves.result _ c.in_err-leaves.field-0.0 c.from_residual-in_err-leaves.ensures.1

pub returns-in_err-leaves-clause-known : goal.returns-in_err-leaves-clause-known
returns-in_err-leaves-clause-known g t c = not_given c.from_residual-in_err-leaves.result _ c.in_err-leaves.field-0.0 c.from_residual-in_err-leaves.ensures.1

pub returns-in_err-leaves-clause-ways : goal.returns-in_err-leaves-clause-ways
returns-in_err-leaves-clause-ways g t c = not_given c.from_residual-in_err-leaves.result _ c.in_err-leaves.field-0.0 c.from_residual-in_err-leaves.ensures.1

pub returns-in_err-leaves-clause-way : goal.returns-in_err-leaves-clause-way
returns-in_err-leaves-clause-way g t c = not_given c.from_residual-in_err-leaves.result _ c.in_err-leaves.field-0.0 c.from_residual-in_err-leaves.ensures.1

pub returns-in_err-leaves-clause-kept : goal.returns-in_err-leaves-clause-kept
returns-in_err-leaves-clause-kept g t c = keeps_on g.B.Ground c.args.blocks.now c.loop-child.blocks c.count_leaves.new.blocks c.loop-child.invariant.kept c.count_leaves.ensures.kept

pub returns-in_err-leaves-clause-cause : goal.returns-in_err-leaves-clause-cause
returns-in_err-leaves-clause-cause g t c = cause_handed (g.B.Ground.faults c.args.blocks.now) (g.B.Ground.faults c.loop-child.blocks) (g.B.Ground.faults c.count_leaves.new.blocks) c.from_residual-in_err-leaves.result c.in_err-leaves.field-0.0 c.from_residual-in_err-leaves.ensures.1 (g.B.Ground.leads_faults c.args.blocks.now c.loop-child.blocks c.loop-child.invariant.kept.leads) c.in_err-leaves.ensures.cause

pub returns-clause-bounded : goal.returns-clause-bounded
returns-clause-bounded g t c = tt

pub returns-clause-most : goal.returns-clause-most
returns-clause-most g t c = tt

pub returns-clause-known : goal.returns-clause-known
returns-clause-known g t c = tt

pub returns-clause-count : goal.returns-clause-count
returns-clause-count g t c = tt

pub returns-clause-ways : goal.returns-clause-ways
returns-clause-ways g t c = tt

pub returns-clause-way : goal.returns-clause-way
returns-clause-way g t c = tt

pub returns-clause-cause : goal.returns-clause-cause
returns-clause-cause g t c = tt

pub returns-clause-fault : goal.returns-clause-fault
returns-clause-fault g t c = λ told. tt

pub returns-clause-kept : goal.returns-clause-kept
returns-clause-kept g t c = c.loop-child.invariant.kept

pub returns-in-Ok-clause-cause : goal.returns-in-Ok-clause-cause
returns-in-Ok-clause-cause g t c = tt

pub returns-in-Ok-clause-fault : goal.returns-in-Ok-clause-fault
returns-in-Ok-clause-fault g t c = tt

pub returns-in-Ok-clause-kept : goal.returns-in-Ok-clause-kept
returns-in-Ok-clause-kept g t c = c.loop-child.invariant.kept

pub returns-then-counted-tree-clause-cause : goal.returns-then-counted-tree-clause-cause
returns-then-counted-tree-clause-cause g t c = tt

pub returns-then-counted-tree-clause-fault : goal.returns-then-counted-tree-clause-fault
returns-then-counted-tree-clause-fault g t c = tt

pub returns-then-counted-tree-clause-kept : goal.returns-then-counted-tree-clause-kept
returns-then-counted-tree-clause-kept g t c = keeps_refl g.B.Ground c.args.blocks.now

pub returns-then-counted-tree-clause-bounded : goal.returns-then-counted-tree-clause-bounded
returns-then-counted-tree-clause-bounded g t c = c.requires.bounded

pub returns-then-counted-tree-clause-known : goal.returns-then-counted-tree-clause-known
returns-then-counted-tree-clause-known g t c = λ told start. start

pub returns-then-counted-tree-clause-ways : goal.returns-then-counted-tree-clause-ways
returns-then-counted-tree-clause-ways g t c = λ told wide start. start

pub returns-then-level-eq0-clause-cause : goal.returns-then-level-eq0-clause-cause
returns-then-level-eq0-clause-cause g t c = tt

pub returns-then-level-eq0-clause-fault : goal.returns-then-level-eq0-clause-fault
returns-then-level-eq0-clause-fault g t c = tt

pub returns-then-level-eq0-clause-kept : goal.returns-then-level-eq0-clause-kept
returns-then-level-eq0-clause-kept g t c = keeps_refl g.B.Ground c.args.blocks.now

pub returns-then-level-eq0-clause-bounded : goal.returns-then-level-eq0-clause-bounded
returns-then-level-eq0-clause-bounded g t c = c.requires.bounded

pub returns-then-level-eq0-clause-known : goal.returns-then-level-eq0-clause-known
returns-then-level-eq0-clause-known g t c = λ told start. start

pub returns-then-level-eq0-clause-ways : goal.returns-then-level-eq0-clause-ways
returns-then-level-eq0-clause-ways g t c = λ told wide start. start

pub returns-then-level-eq0-clause-most : goal.returns-then-level-eq0-clause-most
returns-then-level-eq0-clause-most g t c = c.requires.some

pub overflow_sub-level : goal.overflow_sub-level
overflow_sub-level g t c = omega (arith, c.if-level-eq0.false)

pub loop-child-smaller : goal.loop-child-smaller
loop-child-smaller g t c = omega (arith, c.loop-child-test.true)

pub row_of-requires : goal.row_of-requires
row_of-requires g t c = c.requires.ready

pub geometry-fan-requires : goal.geometry-fan-requires
geometry-fan-requires g t c = record { ready = g.B.Ground.leads_ready c.args.blocks.now c.row_of.new.blocks c.in_ok-below.ensures.kept.leads c.requires.ready }

pub returns-in-Ok-clause-most : goal.returns-in-Ok-clause-most
returns-in-Ok-clause-most g t c = omega (arith, c.loop-child.invariant.most, front_most c.deref-child-items.result.now c.loop-child.child-index, ap row_size c.deref-child-items.ensures.value, c.in_ok-below.ensures.counted.sum)
