use Rattle.std.proofs.Common.{rules, arith, [], ◌∷◌, ◌++◌, ◌≡◌, ◌∙◌, Option, Some, None, ap, sym, subst, refl, length, take, drop, nat_eq}
use Rattle.std.proofs.lemmas.Result.{IfErr-weaker, IfOk-at_ok, on_ok_weaker}
use Rattle.std.specs.HashMap.{get}
use Rattle.ex_base.specs.declared.names.PageNo.{PageNo}
use Rattle.ex_base.proofs.Results.{if_err_handed, if_ok_from, on_ok_from}
use Rattle.trees.specs.Damage.{AnyPage, IsWalkFault, root_row_at}
use Rattle.trees.proofs.Ways.{way_kept}
use Rattle.tree_insert.proofs.SoundWays.{root_way}
use Rattle.trees.proofs.Blame.{walk_back}
use Rattle.trees.proofs.Sound.{sound_root}
use Rattle.trees.specs.Shape.{joined, leaves_of}
use Rattle.trees.specs.Trees.{root_shape, shape_on}
use Rattle.tree_insert.proofs.Counting.{root_trees, root_leaves, root_count, front_filled}
use Rattle.ex_base.proofs.Handed.{no_value, not_given, cause_here}
use Rattle.ex_base.proofs.Keeping.{keeps_on, keeps_refl, cause_on}
use Rattle.tree_insert.proofs.lengths.leaf_lengths.Goals as goal

pub returns-in_err-first_lengths-clause-sound : goal.returns-in_err-first_lengths-clause-sound
returns-in_err-first_lengths-clause-sound g c =
    if_err_handed c.from_residual.result _ c.in_err-first_lengths.field-0.0 c.from_residual.ensures.1
    (λ told whole. sound_root (g.B.Ground.geometry c.args.blocks.now) (g.B.Ground.unit c.args.blocks.now) c.args.root.now c.in_err-first_lengths.field-0.0 whole
    (subst (λ (p : Option PageNo). IsWalkFault (g.B.Ground.geometry c.args.blocks.now) (g.B.Ground.unit c.args.blocks.now) c.args.root.now.height 2 (root_row_at c.args.root.now.size p) c.in_err-first_lengths.field-0.0) (sym c.in-Some.is) (c.in_err-first_lengths.ensures.fault told)))

pub returns-clause-sound : goal.returns-clause-sound
returns-clause-sound g c =
    IfErr-weaker c.count_leaves.result _ _ (λ f h told whole. sound_root (g.B.Ground.geometry c.args.blocks.now) (g.B.Ground.unit c.args.blocks.now) c.args.root.now f whole
    (subst (λ (p : Option PageNo). IsWalkFault (g.B.Ground.geometry c.args.blocks.now) (g.B.Ground.unit c.args.blocks.now) c.args.root.now.height 2 (root_row_at c.args.root.now.size p) f) (sym c.in-Some.is) (walk_back g.B.Ground c.args.blocks.now c.first_lengths.new.blocks c.args.root.now.height 2 (record { size = c.args.root.now.size; page = c.in-Some.page } ∷ []) f c.in_ok-first_lengths.ensures.kept h told))) c.count_leaves.ensures.fault

pub returns-clause-count : goal.returns-clause-count
returns-clause-count g c =
    if_ok_from c.count_leaves.result _ (λ n is told bytes spells.
    let told_b = g.B.Ground.leads_told c.args.blocks.now c.first_lengths.new.blocks c.in_ok-first_lengths.ensures.kept.leads told in
    root_count g.B.Ground c.args.blocks.now c.first_lengths.new.blocks c.args.root.now c.in-Some.page bytes n c.in-Some.is c.in_ok-first_lengths.ensures.kept spells
    (λ trees. IfOk-at_ok _ is c.count_leaves.ensures.count told_b (λ p x there. let none : get nat_eq c.new-known.result p ≡ None = search rules in let clash : Some x ≡ None = sym there ∙ none in absurd cc) c.args.root.now.height refl trees))

pub returns-clause-lengths : goal.returns-clause-lengths
returns-clause-lengths g c =
    on_ok_from c.count_leaves.result _ (λ n is told bytes spells.
    let listed : c.first_lengths.new.lengths.items ≡ take (length c.args.first.now) (c.new-lengths.result.items ++ (joined c.args.root.now.height (shape_on (g.B.Ground.unit c.args.blocks.now) c.args.root.now.height c.in-Some.page.0 c.args.root.now.size))) =
    c.in_ok-first_lengths.ensures.lengths told c.args.root.now.height refl (root_trees (g.B.Ground.geometry c.args.blocks.now) (g.B.Ground.unit c.args.blocks.now) c.args.root.now c.in-Some.page bytes c.in-Some.is spells) in
    let copied : c.copy_from_slice.new.self ≡ c.first_lengths.new.lengths.items = c.copy_from_slice.ensures.after ∙ c.deref.ensures.value in
    let count : length c.copy_from_slice.new.self ≡ c.len.result = omega (arith, ap length copied, c.len.ensures) in
    let front : c.copy_from_slice.new.self ≡ take (length c.args.first.now) (leaves_of (root_shape (g.B.Ground.unit c.args.blocks.now) c.args.root.now)) =
    copied ∙ listed ∙ ap (λ xs. take (length c.args.first.now) (xs ++ (joined c.args.root.now.height (shape_on (g.B.Ground.unit c.args.blocks.now) c.args.root.now.height c.in-Some.page.0 c.args.root.now.size)))) c.new-lengths.ensures.items ∙ ap (take (length c.args.first.now)) (sym (root_leaves (g.B.Ground.unit c.args.blocks.now) c.args.root.now c.in-Some.page c.in-Some.is)) in
    subst (λ k. c.copy_from_slice.new.self ++ drop k c.args.first.now ≡ take (length c.args.first.now) (leaves_of (root_shape (g.B.Ground.unit c.args.blocks.now) c.args.root.now)) ++ drop (length (leaves_of (root_shape (g.B.Ground.unit c.args.blocks.now) c.args.root.now))) c.args.first.now) count (front_filled (leaves_of (root_shape (g.B.Ground.unit c.args.blocks.now) c.args.root.now)) c.args.first.now c.copy_from_slice.new.self front))

pub returns-clause-way : goal.returns-clause-way
returns-clause-way g c =
    on_ok_weaker c.count_leaves.result (λ way told byte.
    root_way (g.B.Ground.geometry c.args.blocks.now) (g.B.Ground.unit c.args.blocks.now) AnyPage c.args.root.now c.in-Some.page byte byte c.in-Some.is
    (way_kept g.B.Ground (λ geo. AnyPage) c.args.blocks.now c.first_lengths.new.blocks c.args.root.now.height 2 (record { size = c.args.root.now.size; page = c.in-Some.page } ∷ []) byte byte c.in_ok-first_lengths.ensures.kept
    (λ later. way later (g.B.Ground.geometry c.first_lengths.new.blocks).two (λ p x there. let none : get nat_eq c.new-known.result p ≡ None = search rules in let clash : Some x ≡ None = sym there ∙ none in absurd cc) byte) told)) c.count_leaves.ensures.way

-- ---- what else is asked and promised

pub returns-in_err-first_lengths-clause-count : goal.returns-in_err-first_lengths-clause-count
returns-in_err-first_lengths-clause-count g c = no_value c.from_residual.result _ c.in_err-first_lengths.field-0.0 c.from_residual.ensures.1

pub returns-in_err-first_lengths-clause-lengths : goal.returns-in_err-first_lengths-clause-lengths
returns-in_err-first_lengths-clause-lengths g c = not_given c.from_residual.result _ c.in_err-first_lengths.field-0.0 c.from_residual.ensures.1

pub returns-in_err-first_lengths-clause-way : goal.returns-in_err-first_lengths-clause-way
returns-in_err-first_lengths-clause-way g c = not_given c.from_residual.result _ c.in_err-first_lengths.field-0.0 c.from_residual.ensures.1

pub returns-in_err-first_lengths-clause-kept : goal.returns-in_err-first_lengths-clause-kept
returns-in_err-first_lengths-clause-kept g c = c.first_lengths.ensures.kept

pub returns-in_err-first_lengths-clause-cause : goal.returns-in_err-first_lengths-clause-cause
returns-in_err-first_lengths-clause-cause g c = cause_here (g.B.Ground.faults c.args.blocks.now) (g.B.Ground.faults c.first_lengths.new.blocks) c.from_residual.result c.in_err-first_lengths.field-0.0 c.from_residual.ensures.1 c.in_err-first_lengths.ensures.cause

pub returns-in_default-clause-cause : goal.returns-in_default-clause-cause
returns-in_default-clause-cause g c = tt

pub returns-in_default-clause-fault : goal.returns-in_default-clause-fault
returns-in_default-clause-fault g c = tt

pub returns-in_default-clause-sound : goal.returns-in_default-clause-sound
returns-in_default-clause-sound g c = tt

pub returns-in_default-clause-kept : goal.returns-in_default-clause-kept
returns-in_default-clause-kept g c = keeps_refl g.B.Ground c.args.blocks.now

pub returns-clause-kept : goal.returns-clause-kept
returns-clause-kept g c = keeps_on g.B.Ground c.args.blocks.now c.first_lengths.new.blocks c.count_leaves.new.blocks c.first_lengths.ensures.kept c.count_leaves.ensures.kept

pub returns-clause-cause : goal.returns-clause-cause
returns-clause-cause g c = cause_on (g.B.Ground.faults c.args.blocks.now) (g.B.Ground.faults c.first_lengths.new.blocks) (g.B.Ground.faults c.count_leaves.new.blocks) c.count_leaves.result (g.B.Ground.leads_faults c.args.blocks.now c.first_lengths.new.blocks c.first_lengths.ensures.kept.leads) c.count_leaves.ensures.cause

pub first_lengths-requires-clause-ready : goal.first_lengths-requires-clause-ready
first_lengths-requires-clause-ready g c = c.requires.ready

pub count_leaves-requires-clause-ready : goal.count_leaves-requires-clause-ready
count_leaves-requires-clause-ready g c = g.B.Ground.leads_ready c.args.blocks.now c.first_lengths.new.blocks c.first_lengths.ensures.kept.leads c.requires.ready
