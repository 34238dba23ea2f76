use Rattle.std.proofs.Common.{arith, [], ◌∷◌, ◌≡◌, ◌≤◌, refl, ◌+◌, ◌-◌, ◌∙◌, ◌++◌, ap, subst, take, drop, length, get_or, take_all, sym}
use Rattle.ex_base.specs.Sizes.{leaf_bytes}
use Rattle.ex_base.proofs.Each.{each_at}
use Rattle.ex_base.proofs.Geometries.{leaf_most}
use Rattle.trees.specs.declared.rows.Part.{Part}
use Rattle.trees.specs.Damage.{IsSoundEnd}
use Rattle.trees.specs.Rows.{row_bytes}
use Rattle.trees.specs.Made.{Holds, changed}
use Rattle.trees.proofs.Kept.{leaves_back}
use Rattle.trees.proofs.RowReads.{walk_tree}
use Rattle.trees.proofs.Reading.{no_part}
use Rattle.tree_insert.proofs.ReplacedLeaves.{leaf_here, piece_here, few_leaves, replaced_more, replaced_all, same_sizes, same_sum, same_some, same_count}
use Rattle.ex_base.proofs.Handed.{no_value, not_given, cause_here}
use Rattle.ex_base.specs.declared.faults.PortFault.TheVariants.{Memory}
use Rattle.ex_base.specs.declared.geometry.Geometry.{Geometry}
use Rattle.std.proofs.lemmas.List.{length-take}
use Rattle.tree_insert.proofs.PlaceLaws.{read_most}
use Rattle.tree_insert.proofs.overwrite.replace_leaves.Goals as goal
use Rattle.ex_base.proofs.Results.{cause_handed, if_err_handed}

pub overflow_sub-len : goal.overflow_sub-len
overflow_sub-len g c =
    let h = leaf_here c.args.run.now c.args.pos (length c.args.given.now) c.loop-leaf.leaf-index c.loop-leaf.start c.loop-leaf-test.true c.requires.touched c.loop-leaf.invariant.start_is in
    omega (arith, h.ends, c.saturating_sub-done.ensures)

pub slice_bounds-part-end : goal.slice_bounds-part-end
slice_bounds-part-end g c =
    let h = leaf_here c.args.run.now c.args.pos (length c.args.given.now) c.loop-leaf.leaf-index c.loop-leaf.start c.loop-leaf-test.true c.requires.touched c.loop-leaf.invariant.start_is in
    omega (arith, h.ends, c.saturating_sub-done.ensures, c.min-cut.ensures)

pub overflow_cast-lengths : goal.overflow_cast-lengths
overflow_cast-lengths g c =
    omega (arith, each_at (λ (part : Part). part.size ≤ leaf_bytes (g.B.Ground.geometry c.args.blocks.now)) c.args.run.now c.loop-leaf.leaf-index no_part c.loop-leaf-test.true (c.requires.leaves.fit refl), leaf_most (g.B.Ground.geometry c.args.blocks.now))

pub write_leaves-requires-clause-free : goal.write_leaves-requires-clause-free
write_leaves-requires-clause-free g c =
    omega (arith, c.loop-leaf.invariant.spent.of_leaves, c.loop-leaf-test.true, c.requires.free, few_leaves (g.B.Ground.geometry c.args.blocks.now) c.args.run.now c.args.pos (length c.args.given.now) c.requires.leaves c.requires.touched)

pub returns-in_err-new-clause-fault : goal.returns-in_err-new-clause-fault
returns-in_err-new-clause-fault g c =
    if_err_handed c.from_residual.result _ c.in_err-new.field-0.0 c.from_residual.ensures.1
    (λ told. walk_tree (g.B.Ground.geometry c.args.blocks.now) (g.B.Ground.unit c.args.blocks.now) 0 0 c.loop-leaf.leaf-index c.args.run.now c.in_err-new.field-0.0 c.loop-leaf-test.true
    (leaves_back g.B.Ground c.args.blocks.now c.loop-leaf.blocks (get_or c.args.run.now c.loop-leaf.leaf-index no_part ∷ []) c.in_err-new.field-0.0 c.loop-leaf.invariant.extends.leads c.in_err-new.ensures.fault told))

pub returns-in_err-new-clause-leads : goal.returns-in_err-new-clause-leads
returns-in_err-new-clause-leads g c = g.B.Ground.leads_trans c.args.blocks.now c.loop-leaf.blocks c.write_leaves.new.blocks c.loop-leaf.invariant.extends.leads c.in_err-new.ensures.leads

pub returns-in_err-new-clause-cause : goal.returns-in_err-new-clause-cause
returns-in_err-new-clause-cause g c =
    cause_handed (g.B.Ground.faults c.args.blocks.now) (g.B.Ground.faults c.loop-leaf.blocks) (g.B.Ground.faults c.write_leaves.new.blocks) c.from_residual.result c.in_err-new.field-0.0 c.from_residual.ensures.1
    (g.B.Ground.leads_faults c.args.blocks.now c.loop-leaf.blocks c.loop-leaf.invariant.extends.leads) c.in_err-new.ensures.cause

pub overflow_add-start : goal.overflow_add-start
overflow_add-start g c =
    let h = leaf_here c.args.run.now c.args.pos (length c.args.given.now) c.loop-leaf.leaf-index c.loop-leaf.start c.loop-leaf-test.true c.requires.touched c.loop-leaf.invariant.start_is in
    omega (arith, h.fits, c.requires.limit)

pub loop-leaf-preserved : goal.loop-leaf-preserved
loop-leaf-preserved g c =
    let h = leaf_here c.args.run.now c.args.pos (length c.args.given.now) c.loop-leaf.leaf-index c.loop-leaf.start c.loop-leaf-test.true c.requires.touched c.loop-leaf.invariant.start_is in
    replaced_more g.B.Ground c.args.blocks.now c.loop-leaf.blocks c.write_leaves.new.blocks c.args.run.now c.args.pos c.args.given.now c.loop-leaf.leaf-index c.loop-leaf.start c.saturating_sub-at.result c.saturating_sub-done.result c.min-cut.result c.loop-leaf.made.items c.extend_from_slice.new.self.items c.in_ok-new.new.items
    c.requires.ready c.loop-leaf-test.true c.requires.touched c.loop-leaf.invariant (piece_here c.args.run.now c.args.pos (length c.args.given.now) c.loop-leaf.leaf-index c.loop-leaf.start c.saturating_sub-at.result c.saturating_sub-done.result c.min-cut.result h c.saturating_sub-at.ensures c.saturating_sub-done.ensures c.min-cut.ensures)
    c.in_ok-new.ensures.extends c.in_ok-new.ensures.spent c.in_ok-new.ensures.sizes c.in_ok-new.ensures.named c.in_ok-new.ensures.took c.in_ok-new.ensures.counts
    (subst (λ k. g.B.Ground.tells c.loop-leaf.blocks → Holds g.B.Ground c.loop-leaf.blocks 0 (get_or c.args.run.now c.loop-leaf.leaf-index no_part ∷ [])
    → row_bytes (g.B.Ground.unit c.write_leaves.new.blocks) 0 c.in_ok-new.new.items ≡ changed (row_bytes (g.B.Ground.unit c.loop-leaf.blocks) 0 (get_or c.args.run.now c.loop-leaf.leaf-index no_part ∷ [])) c.saturating_sub-at.result c.min-cut.result (take k (drop c.saturating_sub-done.result c.args.given.now)))
    {x = c.saturating_sub-done.result + c.min-cut.result - c.saturating_sub-done.result} {y = c.min-cut.result} (omega arith) c.in_ok-new.ensures.bytes)
    c.in_ok-new.ensures.way
    (c.in_ok-extend_from_slice.ensures.items ∙ ap (λ r. c.loop-leaf.made.items ++ r) c.deref.ensures.value)

pub returns-clause-sum : goal.returns-clause-sum
returns-clause-sum g c = same_sum c.args.run.now c.loop-leaf.made.items (same_sizes c.args.run.now c.loop-leaf.made.items c.loop-leaf.leaf-index (omega arith) c.loop-leaf.invariant.sizes)

pub returns-clause-sizes : goal.returns-clause-sizes
returns-clause-sizes g c = same_some c.args.run.now c.loop-leaf.made.items (same_sizes c.args.run.now c.loop-leaf.made.items c.loop-leaf.leaf-index (omega arith) c.loop-leaf.invariant.sizes) c.requires.sizes

pub returns-clause-count : goal.returns-clause-count
returns-clause-count g c = same_count c.args.run.now c.loop-leaf.made.items (same_sizes c.args.run.now c.loop-leaf.made.items c.loop-leaf.leaf-index (omega arith) c.loop-leaf.invariant.sizes)

pub returns-clause-leaves : goal.returns-clause-leaves
returns-clause-leaves g c =
    omega (arith, c.loop-leaf.invariant.spent.of_leaves, few_leaves (g.B.Ground.geometry c.args.blocks.now) c.args.run.now c.args.pos (length c.args.given.now) c.requires.leaves c.requires.touched)

pub returns-clause-grew : goal.returns-clause-grew
returns-clause-grew g c =
    replaced_all g.B.Ground c.args.blocks.now c.loop-leaf.blocks c.args.run.now c.args.pos c.args.given.now c.loop-leaf.leaf-index c.loop-leaf.start c.loop-leaf.made.items c.requires.ready (omega arith) c.requires.sizes c.requires.leaves c.requires.touched c.loop-leaf.invariant

pub returns-clause-ends : goal.returns-clause-ends
returns-clause-ends g c = λ told end which.
    subst (λ r. IsSoundEnd (g.B.Ground.geometry c.args.blocks.now) (g.B.Ground.unit c.args.blocks.now) 0 0 r end) (take_all c.loop-leaf.leaf-index c.args.run.now (omega arith)) (c.loop-leaf.invariant.ends told end which)

-- ---- what else is asked and promised

pub returns-in_err-new-clause-sum : goal.returns-in_err-new-clause-sum
returns-in_err-new-clause-sum g c = no_value c.from_residual.result _ c.in_err-new.field-0.0 c.from_residual.ensures.1

pub returns-in_err-new-clause-sizes : goal.returns-in_err-new-clause-sizes
returns-in_err-new-clause-sizes g c = no_value c.from_residual.result _ c.in_err-new.field-0.0 c.from_residual.ensures.1

pub returns-in_err-new-clause-count : goal.returns-in_err-new-clause-count
returns-in_err-new-clause-count g c = no_value c.from_residual.result _ c.in_err-new.field-0.0 c.from_residual.ensures.1

pub returns-in_err-new-clause-grew : goal.returns-in_err-new-clause-grew
returns-in_err-new-clause-grew g c = no_value c.from_residual.result _ c.in_err-new.field-0.0 c.from_residual.ensures.1

pub returns-in_err-new-clause-extends : goal.returns-in_err-new-clause-extends
returns-in_err-new-clause-extends g c = not_given c.from_residual.result _ c.in_err-new.field-0.0 c.from_residual.ensures.1

pub returns-in_err-new-clause-leaves : goal.returns-in_err-new-clause-leaves
returns-in_err-new-clause-leaves g c = not_given c.from_residual.result _ c.in_err-new.field-0.0 c.from_residual.ensures.1

pub returns-in_err-new-clause-pages : goal.returns-in_err-new-clause-pages
returns-in_err-new-clause-pages g c = not_given c.from_residual.result _ c.in_err-new.field-0.0 c.from_residual.ensures.1

pub returns-in_err-new-clause-ends : goal.returns-in_err-new-clause-ends
returns-in_err-new-clause-ends g c = not_given c.from_residual.result _ c.in_err-new.field-0.0 c.from_residual.ensures.1

pub returns-in_err-extend_from_slice-clause-sum : goal.returns-in_err-extend_from_slice-clause-sum
returns-in_err-extend_from_slice-clause-sum g c = no_value c.from_residual-in_err-extend_from_slice.result _ Memory c.from_residual-in_err-extend_from_slice.ensures.1

pub returns-in_err-extend_from_slice-clause-sizes : goal.returns-in_err-extend_from_slice-clause-sizes
returns-in_err-extend_from_slice-clause-sizes g c = no_value c.from_residual-in_err-extend_from_slice.result _ Memory c.from_residual-in_err-extend_from_slice.ensures.1

pub returns-in_err-extend_from_slice-clause-count : goal.returns-in_err-extend_from_slice-clause-count
returns-in_err-extend_from_slice-clause-count g c = no_value c.from_residual-in_err-extend_from_slice.result _ Memory c.from_residual-in_err-extend_from_slice.ensures.1

pub returns-in_err-extend_from_slice-clause-grew : goal.returns-in_err-extend_from_slice-clause-grew
returns-in_err-extend_from_slice-clause-grew g c = no_value c.from_residual-in_err-extend_from_slice.result _ Memory c.from_residual-in_err-extend_from_slice.ensures.1

pub returns-in_err-extend_from_slice-clause-extends : goal.returns-in_err-extend_from_slice-clause-extends
returns-in_err-extend_from_slice-clause-extends g c = not_given c.from_residual-in_err-extend_from_slice.result _ Memory c.from_residual-in_err-extend_from_slice.ensures.1

pub returns-in_err-extend_from_slice-clause-leaves : goal.returns-in_err-extend_from_slice-clause-leaves
returns-in_err-extend_from_slice-clause-leaves g c = not_given c.from_residual-in_err-extend_from_slice.result _ Memory c.from_residual-in_err-extend_from_slice.ensures.1

pub returns-in_err-extend_from_slice-clause-pages : goal.returns-in_err-extend_from_slice-clause-pages
returns-in_err-extend_from_slice-clause-pages g c = not_given c.from_residual-in_err-extend_from_slice.result _ Memory c.from_residual-in_err-extend_from_slice.ensures.1

pub returns-in_err-extend_from_slice-clause-ends : goal.returns-in_err-extend_from_slice-clause-ends
returns-in_err-extend_from_slice-clause-ends g c = not_given c.from_residual-in_err-extend_from_slice.result _ Memory c.from_residual-in_err-extend_from_slice.ensures.1

pub returns-in_err-extend_from_slice-clause-fault : goal.returns-in_err-extend_from_slice-clause-fault
returns-in_err-extend_from_slice-clause-fault g c = if_err_handed c.from_residual-in_err-extend_from_slice.result _ Memory c.from_residual-in_err-extend_from_slice.ensures.1 (λ told. tt)

pub returns-in_err-extend_from_slice-clause-leads : goal.returns-in_err-extend_from_slice-clause-leads
returns-in_err-extend_from_slice-clause-leads g c = g.B.Ground.leads_trans c.args.blocks.now c.loop-leaf.blocks c.write_leaves.new.blocks c.loop-leaf.invariant.extends.leads c.in_ok-new.ensures.leads

pub returns-in_err-extend_from_slice-clause-cause : goal.returns-in_err-extend_from_slice-clause-cause
returns-in_err-extend_from_slice-clause-cause g c = cause_here (g.B.Ground.faults c.args.blocks.now) (g.B.Ground.faults c.write_leaves.new.blocks) c.from_residual-in_err-extend_from_slice.result Memory c.from_residual-in_err-extend_from_slice.ensures.1 tt

pub returns-clause-cause : goal.returns-clause-cause
returns-clause-cause g c = tt

pub returns-clause-fault : goal.returns-clause-fault
returns-clause-fault g c = tt

pub returns-clause-extends : goal.returns-clause-extends
returns-clause-extends g c = c.loop-leaf.invariant.extends

pub returns-clause-leads : goal.returns-clause-leads
returns-clause-leads g c = c.loop-leaf.invariant.extends.leads

pub returns-clause-pages : goal.returns-clause-pages
returns-clause-pages g c = omega (arith, c.loop-leaf.invariant.spent.of_pages)

pub loop-leaf-smaller : goal.loop-leaf-smaller
loop-leaf-smaller g c = omega (arith, c.loop-leaf-test.true)

pub write_leaves-requires-clause-ready : goal.write_leaves-requires-clause-ready
write_leaves-requires-clause-ready g c = g.B.Ground.leads_ready c.args.blocks.now c.loop-leaf.blocks c.loop-leaf.invariant.extends.leads c.requires.ready

pub write_leaves-requires-clause-leaves : goal.write_leaves-requires-clause-leaves
write_leaves-requires-clause-leaves g c = λ low. (subst (λ (geo : Geometry). (get_or c.args.run.now c.loop-leaf.leaf-index no_part).size ≤ leaf_bytes geo) (sym (g.B.Ground.leads_geometry c.args.blocks.now c.loop-leaf.blocks c.loop-leaf.invariant.extends.leads)) (each_at (λ (part : Part). part.size ≤ leaf_bytes (g.B.Ground.geometry c.args.blocks.now)) c.args.run.now c.loop-leaf.leaf-index no_part c.loop-leaf-test.true (c.requires.leaves.fit refl)), tt)

pub slice_bounds-part-count : goal.slice_bounds-part-count
slice_bounds-part-count g c = omega arith

pub write_leaves-requires-clause-buffer : goal.write_leaves-requires-clause-buffer
write_leaves-requires-clause-buffer g c = omega (arith, c.loop-leaf.auto.buffer, c.requires.buffer, ap leaf_bytes (g.B.Ground.leads_geometry c.args.blocks.now c.loop-leaf.blocks c.loop-leaf.invariant.extends.leads))

pub write_leaves-requires-clause-limit : goal.write_leaves-requires-clause-limit
write_leaves-requires-clause-limit g c = omega (arith, read_most c.args.run.now c.loop-leaf.leaf-index, c.requires.limit, length-take (c.saturating_sub-done.result + c.min-cut.result - c.saturating_sub-done.result) (drop c.saturating_sub-done.result c.args.given.now), c.min-cut.ensures)

pub write_leaves-requires-clause-lengths : goal.write_leaves-requires-clause-lengths
write_leaves-requires-clause-lengths g c = ((omega (arith, each_at (λ (part : Part). 1 ≤ part.size) c.args.run.now c.loop-leaf.leaf-index no_part c.loop-leaf-test.true c.requires.sizes), omega (arith, each_at (λ (part : Part). part.size ≤ leaf_bytes (g.B.Ground.geometry c.args.blocks.now)) c.args.run.now c.loop-leaf.leaf-index no_part c.loop-leaf-test.true (c.requires.leaves.fit refl), c.loop-leaf.auto.buffer, c.requires.buffer)), tt)

pub write_leaves-requires-clause-change : goal.write_leaves-requires-clause-change
write_leaves-requires-clause-change g c =
    let h = leaf_here c.args.run.now c.args.pos (length c.args.given.now) c.loop-leaf.leaf-index c.loop-leaf.start c.loop-leaf-test.true c.requires.touched c.loop-leaf.invariant.start_is in
    omega (arith, h.begins, c.saturating_sub-at.ensures, c.min-cut.ensures)

pub overflow_sub-leaf : goal.overflow_sub-leaf
overflow_sub-leaf g c =
    let h = leaf_here c.args.run.now c.args.pos (length c.args.given.now) c.loop-leaf.leaf-index c.loop-leaf.start c.loop-leaf-test.true c.requires.touched c.loop-leaf.invariant.start_is in
    omega (arith, h.begins, c.saturating_sub-at.ensures)
