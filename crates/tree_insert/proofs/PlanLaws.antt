-- The lengths of a plan's leaves, one after the other.
use Rattle.std.proofs.Common.{◌≡◌, ℕ, ◌+◌, ◌-◌, ◌*◌, ◌<◌, ◌≤◌, List, [], ◌∷◌, ◌++◌, length, take, get_or, sym, ap, ◌∙◌, arith, take_all}
use Rattle.std.specs.Prelude.{replicate}
use Rattle.std.proofs.lemmas.List.{length-append, length-replicate, take_more}
use Rattle.std.proofs.lemmas.Bool.{cond_both}
use Rattle.ex_base.specs.Even.{evenly, least_parts}
use Rattle.ex_base.proofs.Spread.{least_parts_is, at_least_two, length-evenly}
use Rattle.trees.specs.declared.plans.Plan.{Plan}
use Rattle.trees.specs.Layout.{filled, layout_of}
use Rattle.trees.specs.Plans.{IsPlan}

pub length-filled : (full total : ℕ) → 1 ≤ full → full < total → length (filled full total) ≡ least_parts full total
unfolding filled
length-filled full total some over =
    let two : 2 ≤ least_parts full total = at_least_two full total (least_parts full total) (least_parts_is full total (omega arith)) over in
    omega (arith, length-append (replicate (least_parts full total - 2) full) (evenly 2 (total - (least_parts full total - 2) * full)), length-replicate {A = ℕ} (least_parts full total - 2) full, length-evenly 2 (total - (least_parts full total - 2) * full) (omega arith))

plan_count : (full : ℕ) (plan : Plan) → 1 ≤ full → IsPlan full plan → length (layout_of full plan).lengths ≡ plan.leaves
plan_count full plan some h =
    cond_both plan.tail (filled full plan.total) (evenly plan.leaves plan.total) (λ lengths. length lengths ≡ plan.leaves) (λ tail. length-filled full plan.total some (h.tail tail).0 ∙ sym (h.tail tail).1) (λ even. length-evenly plan.leaves plan.total (omega (arith, h.some)))

pub all_lengths : (full : ℕ) (plan : Plan) (i : ℕ) (xs : List ℕ) → 1 ≤ full → IsPlan full plan → plan.leaves ≤ i → xs ≡ take i (layout_of full plan).lengths → xs ≡ (layout_of full plan).lengths
all_lengths full plan i xs some h end is = is ∙ take_all i (layout_of full plan).lengths (omega (arith, plan_count full plan some h))

pub more_lengths : (full : ℕ) (plan : Plan) (i n : ℕ) (xs after : List ℕ) → 1 ≤ full → IsPlan full plan → i < plan.leaves → xs ≡ take i (layout_of full plan).lengths → n ≡ get_or (layout_of full plan).lengths i 0 → after ≡ xs ++ (n ∷ [])
    → after ≡ take (i + 1) (layout_of full plan).lengths
more_lengths full plan i n xs after some h lt is n_is after_is =
    after_is ∙ ap (λ ys. ys ++ (n ∷ [])) is ∙ ap (λ k. take i (layout_of full plan).lengths ++ (k ∷ [])) n_is
    ∙ sym (take_more (layout_of full plan).lengths i 0 (omega (arith, plan_count full plan some h)))
