use Rattle.std.proofs.Common.{◌/◌, arith, ℕ, ◌⊎◌, ◌+◌, ◌<◌, ap, refl, sym, subst, ◌∙◌, ◌-◌, ◌≤◌, ◌++◌, List, length}
use Rattle.std.specs.List.{AllByRecursion}
use Rattle.ex_base.specs.Edits.{deleted}
use Rattle.ex_base.specs.Sizes.{leaf_bytes}
use Rattle.trees.specs.declared.rows.Part.{Part}
use Rattle.trees.specs.Rows.{row_size, row_bytes}
use Rattle.trees.specs.Made.{Holds}
use Rattle.tree_delete.specs.Leaves.{IsWider, AreEven}
use Rattle.trees.specs.Damage.{IsSoundWay, IsWalkFault}
use Rattle.ex_base.specs.Area.{NamesLeaf}
use Rattle.ex_base.proofs.Results.{if_err_handed}
use Rattle.tree_delete.proofs.Ends.{leaf_ends}
use Rattle.tree_delete.specs.Cuts.{all_of}
use Rattle.tree_delete.proofs.Faults.{walk_run, walk_leaves}
use Rattle.tree_delete.proofs.LeafLaws.{run_most, run_fits, leaves_left_of, leaves_roots, leaves_left}
use Rattle.tree_delete.specs.Beside.{TakesNear}
use Rattle.tree_delete.proofs.Beside.{beside_leaf}
use Rattle.ex_base.proofs.Handed.{no_value, not_given, cause_here}
use Rattle.ex_base.specs.declared.faults.PortFault.TheVariants.{Memory}
use Rattle.tree_delete.proofs.leaves.cut_leaves.Goals as goal

pub with_leaf-requires-clause-place : goal.with_leaf-requires-clause-place
with_leaf-requires-clause-place g c = omega (arith, c.requires.cut_at.inside, run_most c.args.cut, c.requires.cut_at.limit)

pub bytes_of-requires : goal.bytes_of-requires
bytes_of-requires g c = omega (arith, ap row_size c.deref.ensures.value, run_most c.in_ok-cut.cut, ap row_size c.in_ok-cut.ensures.wider.row, c.requires.cut_at.limit)

pub even_lengths-requires : goal.even_lengths-requires
even_lengths-requires g c =
    let w = subst (λ k. IsWider k c.args.cut c.in_ok-cut.cut) c.requires.buffer c.in_ok-cut.ensures.wider in
    omega (arith, c.bytes_of.ensures, ap row_size c.deref.ensures.value, w.most (c.requires.cut_at.fits refl) c.requires.cut_at.few, c.requires.buffer)

pub write_leaves-requires-clause-leaves : goal.write_leaves-requires-clause-leaves
write_leaves-requires-clause-leaves g c = λ _.
    subst (AllByRecursion (λ (part : Part). part.size ≤ leaf_bytes (g.B.Ground.geometry c.args.blocks.now))) (sym c.deref-2.ensures.value)
    (run_fits (leaf_bytes (g.B.Ground.geometry c.args.blocks.now)) c.in_ok-cut.cut (subst (AllByRecursion (λ (part : Part). part.size ≤ leaf_bytes (g.B.Ground.geometry c.args.blocks.now))) (sym c.in_ok-cut.ensures.wider.row) (c.requires.cut_at.fits refl)))

pub write_leaves-requires-clause-lengths : goal.write_leaves-requires-clause-lengths
write_leaves-requires-clause-lengths g c = subst (AllByRecursion (λ n. (1 ≤ n) × (n ≤ length c.args.buffer.now))) (sym c.deref-3.ensures.value) c.in_ok-lengths.ensures.each

pub write_leaves-requires-clause-limit : goal.write_leaves-requires-clause-limit
write_leaves-requires-clause-limit g c = omega (arith, ap row_size c.deref-2.ensures.value, run_most c.in_ok-cut.cut, ap row_size c.in_ok-cut.ensures.wider.row, c.requires.cut_at.limit)

pub returns-clause-left_of : goal.returns-clause-left_of
returns-clause-left_of g c =
    leaves_left_of (length c.args.buffer.now) c.args.cut c.in_ok-cut.cut c.in_ok-made.made.items c.in_ok-joined.field-0.items c.in_ok-lengths.lengths.items c.in_ok-cut.ensures.wider c.requires.cut_at.inside c.requires.cut_at.some
    (subst (λ n. AreEven (length c.args.buffer.now) n c.in_ok-lengths.lengths.items) (omega (arith, c.bytes_of.ensures, ap row_size c.deref.ensures.value)) c.in_ok-lengths.ensures) (c.in_ok-made.ensures.sizes ∙ c.deref-3.ensures.value)
    (c.in_ok-joined.ensures ∙ ap (λ (xs : List Part). xs ++ (c.deref-5.result.now ++ c.deref-6.result.now)) c.deref-4.ensures.value ∙ ap (λ (xs : List Part). c.in_ok-cut.cut.left.items ++ (xs ++ c.deref-6.result.now)) c.deref-5.ensures.value ∙ ap (λ (xs : List Part). c.in_ok-cut.cut.left.items ++ (c.in_ok-made.made.items ++ xs)) c.deref-6.ensures.value)

pub returns-clause-roots : goal.returns-clause-roots
returns-clause-roots g c =
    leaves_roots (leaf_bytes (g.B.Ground.geometry c.args.blocks.now)) c.args.cut c.in_ok-cut.cut c.in_ok-made.made.items c.in_ok-joined.field-0.items c.in_ok-lengths.lengths.items (subst (λ k. IsWider k c.args.cut c.in_ok-cut.cut) c.requires.buffer c.in_ok-cut.ensures.wider)
    (subst (λ k. AreEven k (row_size c.in_ok-cut.cut.run.items - c.in_ok-cut.cut.len) c.in_ok-lengths.lengths.items) c.requires.buffer (subst (λ n. AreEven (length c.args.buffer.now) n c.in_ok-lengths.lengths.items) (omega (arith, c.bytes_of.ensures, ap row_size c.deref.ensures.value)) c.in_ok-lengths.ensures)) (c.in_ok-made.ensures.sizes ∙ c.deref-3.ensures.value)
    (c.in_ok-joined.ensures ∙ ap (λ (xs : List Part). xs ++ (c.deref-5.result.now ++ c.deref-6.result.now)) c.deref-4.ensures.value ∙ ap (λ (xs : List Part). c.in_ok-cut.cut.left.items ++ (xs ++ c.deref-6.result.now)) c.deref-5.ensures.value ∙ ap (λ (xs : List Part). c.in_ok-cut.cut.left.items ++ (c.in_ok-made.made.items ++ xs)) c.deref-6.ensures.value)

pub returns-clause-left : goal.returns-clause-left
returns-clause-left g c = λ told holds.
    leaves_left g.B.Ground c.args.blocks.now c.write_leaves.new.blocks c.args.cut c.in_ok-cut.cut c.in_ok-made.made.items c.in_ok-joined.field-0.items c.in_ok-lengths.lengths.items c.requires.ready told (subst (λ k. IsWider k c.args.cut c.in_ok-cut.cut) c.requires.buffer c.in_ok-cut.ensures.wider) c.requires.cut_at.inside
    (subst (λ k. AreEven k (row_size c.in_ok-cut.cut.run.items - c.in_ok-cut.cut.len) c.in_ok-lengths.lengths.items) c.requires.buffer (subst (λ n. AreEven (length c.args.buffer.now) n c.in_ok-lengths.lengths.items) (omega (arith, c.bytes_of.ensures, ap row_size c.deref.ensures.value)) c.in_ok-lengths.ensures))
    c.in_ok-made.ensures.extends (c.in_ok-made.ensures.sizes ∙ c.deref-3.ensures.value) c.in_ok-made.ensures.named c.in_ok-made.ensures.took c.in_ok-made.ensures.counts
    (λ held. c.in_ok-made.ensures.bytes told (subst (Holds g.B.Ground c.args.blocks.now 0) (sym c.deref-2.ensures.value) held) ∙ ap (λ (r : List Part). deleted (row_bytes (g.B.Ground.unit c.args.blocks.now) 0 r) c.in_ok-cut.cut.at c.in_ok-cut.cut.len) c.deref-2.ensures.value)
    (c.in_ok-joined.ensures ∙ ap (λ (xs : List Part). xs ++ (c.deref-5.result.now ++ c.deref-6.result.now)) c.deref-4.ensures.value ∙ ap (λ (xs : List Part). c.in_ok-cut.cut.left.items ++ (xs ++ c.deref-6.result.now)) c.deref-5.ensures.value ∙ ap (λ (xs : List Part). c.in_ok-cut.cut.left.items ++ (c.in_ok-made.made.items ++ xs)) c.deref-6.ensures.value)
    holds

pub returns-in_err-made-clause-fault : goal.returns-in_err-made-clause-fault
returns-in_err-made-clause-fault g c =
    if_err_handed c.from_residual-in_err-made.result _ c.in_err-made.field-0.0 c.from_residual-in_err-made.ensures.1
    (λ told least. walk_leaves (g.B.Ground.geometry c.args.blocks.now) (g.B.Ground.unit c.args.blocks.now) 0 least (all_of c.args.cut) c.in_err-made.field-0.0
    (subst (λ r. IsWalkFault (g.B.Ground.geometry c.args.blocks.now) (g.B.Ground.unit c.args.blocks.now) 0 0 r c.in_err-made.field-0.0) c.in_ok-cut.ensures.wider.row
    (walk_run (g.B.Ground.geometry c.args.blocks.now) (g.B.Ground.unit c.args.blocks.now) 0 0 c.in_ok-cut.cut c.in_err-made.field-0.0 (subst (λ r. IsWalkFault (g.B.Ground.geometry c.args.blocks.now) (g.B.Ground.unit c.args.blocks.now) 0 0 r c.in_err-made.field-0.0) c.deref-2.ensures.value (c.in_err-made.ensures.fault told)))))

pub returns-clause-way : goal.returns-clause-way
returns-clause-way g c = λ told.
    leaf_ends (g.B.Ground.geometry c.args.blocks.now) (g.B.Ground.unit c.args.blocks.now) (length c.args.buffer.now) c.args.cut c.in_ok-cut.cut c.in_ok-cut.ensures.wider c.requires.cut_at.inside
    (subst (λ r. (byte : ℕ) → byte < row_size r → (byte < c.in_ok-cut.cut.at) ⊎ (c.in_ok-cut.cut.at + c.in_ok-cut.cut.len ≤ byte) → IsSoundWay (g.B.Ground.geometry c.args.blocks.now) (g.B.Ground.unit c.args.blocks.now) (NamesLeaf (g.B.Ground.geometry c.args.blocks.now)) 0 0 r byte byte) c.deref-2.ensures.value (c.in_ok-made.ensures.way told))

pub returns-clause-beside : goal.returns-clause-beside
returns-clause-beside g c = λ told.
    beside_leaf (g.B.Ground.geometry c.args.blocks.now) (g.B.Ground.unit c.args.blocks.now) c.args.cut c.in_ok-cut.cut c.requires.cut_at.some c.requires.cut_at.inside
    (subst (λ k. 1 ≤ row_size c.args.cut.run.items - c.args.cut.len → row_size c.args.cut.run.items - c.args.cut.len < k / 2 → TakesNear c.args.cut c.in_ok-cut.cut) c.requires.buffer c.in_ok-cut.ensures.near)
    (subst (λ r. (byte : ℕ) → byte < row_size r → (byte < c.in_ok-cut.cut.at) ⊎ (c.in_ok-cut.cut.at + c.in_ok-cut.cut.len ≤ byte) → IsSoundWay (g.B.Ground.geometry c.args.blocks.now) (g.B.Ground.unit c.args.blocks.now) (NamesLeaf (g.B.Ground.geometry c.args.blocks.now)) 0 0 r byte byte) c.deref-2.ensures.value (c.in_ok-made.ensures.way told))

-- ---- what else is asked and promised

pub returns-in_err-cut-clause-beside : goal.returns-in_err-cut-clause-beside
returns-in_err-cut-clause-beside g c = not_given c.from_residual.result _ Memory c.from_residual.ensures.1

pub returns-in_err-lengths-clause-beside : goal.returns-in_err-lengths-clause-beside
returns-in_err-lengths-clause-beside g c = not_given c.from_residual-in_err-lengths.result _ Memory c.from_residual-in_err-lengths.ensures.1

pub returns-in_err-made-clause-beside : goal.returns-in_err-made-clause-beside
returns-in_err-made-clause-beside g c = not_given c.from_residual-in_err-made.result _ c.in_err-made.field-0.0 c.from_residual-in_err-made.ensures.1

pub returns-in_err-joined-clause-beside : goal.returns-in_err-joined-clause-beside
returns-in_err-joined-clause-beside g c = not_given c.from_residual-in_err-joined.result _ Memory c.from_residual-in_err-joined.ensures.1

pub write_leaves-requires-clause-buffer : goal.write_leaves-requires-clause-buffer
write_leaves-requires-clause-buffer g c = c.requires.buffer

pub returns-in_err-cut-clause-cause : goal.returns-in_err-cut-clause-cause
returns-in_err-cut-clause-cause g c = cause_here (g.B.Ground.faults c.args.blocks.now) (g.B.Ground.faults c.args.blocks.now) c.from_residual.result Memory c.from_residual.ensures.1 tt

pub returns-in_err-lengths-clause-cause : goal.returns-in_err-lengths-clause-cause
returns-in_err-lengths-clause-cause g c = cause_here (g.B.Ground.faults c.args.blocks.now) (g.B.Ground.faults c.args.blocks.now) c.from_residual-in_err-lengths.result Memory c.from_residual-in_err-lengths.ensures.1 tt

pub returns-in_err-made-clause-cause : goal.returns-in_err-made-clause-cause
returns-in_err-made-clause-cause g c = cause_here (g.B.Ground.faults c.args.blocks.now) (g.B.Ground.faults c.write_leaves.new.blocks) c.from_residual-in_err-made.result c.in_err-made.field-0.0 c.from_residual-in_err-made.ensures.1 c.in_err-made.ensures.cause

pub returns-in_err-joined-clause-cause : goal.returns-in_err-joined-clause-cause
returns-in_err-joined-clause-cause g c = cause_here (g.B.Ground.faults c.args.blocks.now) (g.B.Ground.faults c.write_leaves.new.blocks) c.from_residual-in_err-joined.result Memory c.from_residual-in_err-joined.ensures.1 tt

pub returns-clause-cause : goal.returns-clause-cause
returns-clause-cause g c = tt

pub returns-in_err-cut-clause-extends : goal.returns-in_err-cut-clause-extends
returns-in_err-cut-clause-extends g c = not_given c.from_residual.result _ Memory c.from_residual.ensures.1

pub returns-in_err-lengths-clause-extends : goal.returns-in_err-lengths-clause-extends
returns-in_err-lengths-clause-extends g c = not_given c.from_residual-in_err-lengths.result _ Memory c.from_residual-in_err-lengths.ensures.1

pub returns-in_err-made-clause-extends : goal.returns-in_err-made-clause-extends
returns-in_err-made-clause-extends g c = not_given c.from_residual-in_err-made.result _ c.in_err-made.field-0.0 c.from_residual-in_err-made.ensures.1

pub returns-in_err-joined-clause-extends : goal.returns-in_err-joined-clause-extends
returns-in_err-joined-clause-extends g c = not_given c.from_residual-in_err-joined.result _ Memory c.from_residual-in_err-joined.ensures.1

pub returns-clause-extends : goal.returns-clause-extends
returns-clause-extends g c = c.in_ok-made.ensures.extends

pub returns-in_err-cut-clause-fault : goal.returns-in_err-cut-clause-fault
returns-in_err-cut-clause-fault g c = if_err_handed c.from_residual.result _ Memory c.from_residual.ensures.1 (λ told least. tt)

pub returns-in_err-lengths-clause-fault : goal.returns-in_err-lengths-clause-fault
returns-in_err-lengths-clause-fault g c = if_err_handed c.from_residual-in_err-lengths.result _ Memory c.from_residual-in_err-lengths.ensures.1 (λ told least. tt)

pub returns-in_err-joined-clause-fault : goal.returns-in_err-joined-clause-fault
returns-in_err-joined-clause-fault g c = if_err_handed c.from_residual-in_err-joined.result _ Memory c.from_residual-in_err-joined.ensures.1 (λ told least. tt)

pub returns-clause-fault : goal.returns-clause-fault
returns-clause-fault g c = tt

pub returns-in_err-cut-clause-leads : goal.returns-in_err-cut-clause-leads
returns-in_err-cut-clause-leads g c = g.B.Ground.leads_refl c.args.blocks.now

pub returns-in_err-lengths-clause-leads : goal.returns-in_err-lengths-clause-leads
returns-in_err-lengths-clause-leads g c = g.B.Ground.leads_refl c.args.blocks.now

pub returns-in_err-made-clause-leads : goal.returns-in_err-made-clause-leads
returns-in_err-made-clause-leads g c = c.in_err-made.ensures.leads

pub returns-in_err-joined-clause-leads : goal.returns-in_err-joined-clause-leads
returns-in_err-joined-clause-leads g c = c.in_ok-made.ensures.leads

pub returns-clause-leads : goal.returns-clause-leads
returns-clause-leads g c = c.in_ok-made.ensures.leads

pub returns-in_err-cut-clause-leaves : goal.returns-in_err-cut-clause-leaves
returns-in_err-cut-clause-leaves g c = not_given c.from_residual.result _ Memory c.from_residual.ensures.1

pub returns-in_err-lengths-clause-leaves : goal.returns-in_err-lengths-clause-leaves
returns-in_err-lengths-clause-leaves g c = not_given c.from_residual-in_err-lengths.result _ Memory c.from_residual-in_err-lengths.ensures.1

pub returns-in_err-made-clause-leaves : goal.returns-in_err-made-clause-leaves
returns-in_err-made-clause-leaves g c = not_given c.from_residual-in_err-made.result _ c.in_err-made.field-0.0 c.from_residual-in_err-made.ensures.1

pub returns-in_err-joined-clause-leaves : goal.returns-in_err-joined-clause-leaves
returns-in_err-joined-clause-leaves g c = not_given c.from_residual-in_err-joined.result _ Memory c.from_residual-in_err-joined.ensures.1

pub returns-in_err-cut-clause-left : goal.returns-in_err-cut-clause-left
returns-in_err-cut-clause-left g c = no_value c.from_residual.result _ Memory c.from_residual.ensures.1

pub returns-in_err-lengths-clause-left : goal.returns-in_err-lengths-clause-left
returns-in_err-lengths-clause-left g c = no_value c.from_residual-in_err-lengths.result _ Memory c.from_residual-in_err-lengths.ensures.1

pub returns-in_err-made-clause-left : goal.returns-in_err-made-clause-left
returns-in_err-made-clause-left g c = no_value c.from_residual-in_err-made.result _ c.in_err-made.field-0.0 c.from_residual-in_err-made.ensures.1

pub returns-in_err-joined-clause-left : goal.returns-in_err-joined-clause-left
returns-in_err-joined-clause-left g c = no_value c.from_residual-in_err-joined.result _ Memory c.from_residual-in_err-joined.ensures.1

pub returns-in_err-cut-clause-left_of : goal.returns-in_err-cut-clause-left_of
returns-in_err-cut-clause-left_of g c = no_value c.from_residual.result _ Memory c.from_residual.ensures.1

pub returns-in_err-lengths-clause-left_of : goal.returns-in_err-lengths-clause-left_of
returns-in_err-lengths-clause-left_of g c = no_value c.from_residual-in_err-lengths.result _ Memory c.from_residual-in_err-lengths.ensures.1

pub returns-in_err-made-clause-left_of : goal.returns-in_err-made-clause-left_of
returns-in_err-made-clause-left_of g c = no_value c.from_residual-in_err-made.result _ c.in_err-made.field-0.0 c.from_residual-in_err-made.ensures.1

pub returns-in_err-joined-clause-left_of : goal.returns-in_err-joined-clause-left_of
returns-in_err-joined-clause-left_of g c = no_value c.from_residual-in_err-joined.result _ Memory c.from_residual-in_err-joined.ensures.1

pub returns-in_err-cut-clause-pages : goal.returns-in_err-cut-clause-pages
returns-in_err-cut-clause-pages g c = not_given c.from_residual.result _ Memory c.from_residual.ensures.1

pub returns-in_err-lengths-clause-pages : goal.returns-in_err-lengths-clause-pages
returns-in_err-lengths-clause-pages g c = not_given c.from_residual-in_err-lengths.result _ Memory c.from_residual-in_err-lengths.ensures.1

pub returns-in_err-made-clause-pages : goal.returns-in_err-made-clause-pages
returns-in_err-made-clause-pages g c = not_given c.from_residual-in_err-made.result _ c.in_err-made.field-0.0 c.from_residual-in_err-made.ensures.1

pub returns-in_err-joined-clause-pages : goal.returns-in_err-joined-clause-pages
returns-in_err-joined-clause-pages g c = not_given c.from_residual-in_err-joined.result _ Memory c.from_residual-in_err-joined.ensures.1

pub write_leaves-requires-clause-ready : goal.write_leaves-requires-clause-ready
write_leaves-requires-clause-ready g c = c.requires.ready

pub returns-in_err-cut-clause-roots : goal.returns-in_err-cut-clause-roots
returns-in_err-cut-clause-roots g c = no_value c.from_residual.result _ Memory c.from_residual.ensures.1

pub returns-in_err-lengths-clause-roots : goal.returns-in_err-lengths-clause-roots
returns-in_err-lengths-clause-roots g c = no_value c.from_residual-in_err-lengths.result _ Memory c.from_residual-in_err-lengths.ensures.1

pub returns-in_err-made-clause-roots : goal.returns-in_err-made-clause-roots
returns-in_err-made-clause-roots g c = no_value c.from_residual-in_err-made.result _ c.in_err-made.field-0.0 c.from_residual-in_err-made.ensures.1

pub returns-in_err-joined-clause-roots : goal.returns-in_err-joined-clause-roots
returns-in_err-joined-clause-roots g c = no_value c.from_residual-in_err-joined.result _ Memory c.from_residual-in_err-joined.ensures.1

pub returns-in_err-cut-clause-way : goal.returns-in_err-cut-clause-way
returns-in_err-cut-clause-way g c = not_given c.from_residual.result _ Memory c.from_residual.ensures.1

pub returns-in_err-lengths-clause-way : goal.returns-in_err-lengths-clause-way
returns-in_err-lengths-clause-way g c = not_given c.from_residual-in_err-lengths.result _ Memory c.from_residual-in_err-lengths.ensures.1

pub returns-in_err-made-clause-way : goal.returns-in_err-made-clause-way
returns-in_err-made-clause-way g c = not_given c.from_residual-in_err-made.result _ c.in_err-made.field-0.0 c.from_residual-in_err-made.ensures.1

pub returns-in_err-joined-clause-way : goal.returns-in_err-joined-clause-way
returns-in_err-joined-clause-way g c = not_given c.from_residual-in_err-joined.result _ Memory c.from_residual-in_err-joined.ensures.1
