-- The first child that a position leads to.
use Rattle.std.proofs.Common.{◌≡◌, ℕ, zero, suc, ◌+◌, ◌-◌, ◌<◌, ◌≤◌, List, [], ◌∷◌, length, Some, refl, sym, ap, subst, ◌∙◌, arith}
use Rattle.std.specs.Prelude.{slice_index, slice_get}
use Rattle.std.proofs.lemmas.List.{length-map}
use Rattle.trees.specs.declared.Pair.{Pair}
use Rattle.trees.specs.Node.{total_of, counts_of, count_of, IsFirst, RiseFrom}

pub count_here : (pairs : List Pair) (index : ℕ) (pair : Pair) → slice_get pairs index ≡ Some pair → slice_index (counts_of pairs) index ≡ pair.count
count_here [] index pair e = absurd cc
count_here (p ∷ pairs) zero pair e = let same : p ≡ pair = cc in ap count_of same
count_here (p ∷ pairs) (suc index) pair e = count_here pairs index pair e

pub total_is_last : (pairs : List Pair) → 1 ≤ length pairs → total_of pairs ≡ slice_index (counts_of pairs) (length pairs - 1)
total_is_last [] some = absurd (omega arith)
total_is_last (p ∷ []) some = refl
total_is_last (p ∷ next ∷ pairs) some =
    let rest : total_of (next ∷ pairs) ≡ slice_index (counts_of (next ∷ pairs)) (length (next ∷ pairs) - 1) = total_is_last (next ∷ pairs) (omega arith) in
    let at : length (p ∷ next ∷ pairs) - 1 ≡ suc (length (next ∷ pairs) - 1) = omega arith in
    rest ∙ sym (ap (slice_index (counts_of (p ∷ next ∷ pairs))) at)

pub length-counts : (pairs : List Pair) → length (counts_of pairs) ≡ length pairs
length-counts pairs = length-map pairs count_of

-- counts rise
above_start : (before : ℕ) (pairs : List Pair) (m : ℕ) → RiseFrom before pairs → m < length pairs → before < slice_index (counts_of pairs) m
above_start before [] m rise lt = absurd (omega arith)
above_start before (pair ∷ pairs) zero rise lt = rise.0
above_start before (pair ∷ pairs) (suc m) rise lt = omega (arith, rise.0, above_start pair.count pairs m rise.1 (omega arith))

counts_up : (before : ℕ) (pairs : List Pair) (k m : ℕ) → RiseFrom before pairs → k ≤ m → m < length pairs → slice_index (counts_of pairs) k ≤ slice_index (counts_of pairs) m
counts_up before [] k m rise le lt = absurd (omega arith)
counts_up before (pair ∷ pairs) zero zero rise le lt = omega arith
counts_up before (pair ∷ pairs) (suc k) zero rise le lt = absurd (omega arith)
counts_up before (pair ∷ pairs) zero (suc m) rise le lt = omega (arith, above_start pair.count pairs m rise.1 (omega arith))
counts_up before (pair ∷ pairs) (suc k) (suc m) rise le lt = counts_up pair.count pairs k m rise.1 (omega arith) (omega arith)

-- the first count above the position stands from low to high
pub record Halved (pos : ℕ) (pairs : List Pair) (low high : ℕ) : Type 0 where
  pub order : low ≤ high
  pub inside : high < length pairs
  pub above : pos < slice_index (counts_of pairs) high
  pub none_before : (k : ℕ) → k < low → pos < slice_index (counts_of pairs) k → ⊥

pub start_halves : (pos : ℕ) (pairs : List Pair) (high : ℕ) → 1 ≤ length pairs → high ≡ length pairs - 1 → pos < total_of pairs → Halved pos pairs 0 high
start_halves pos pairs high some last lt = record {
  order = omega arith;
  inside = omega arith;
  above = omega (arith, total_is_last pairs some, ap (slice_index (counts_of pairs)) last);
  none_before = λ k before here. absurd (omega arith);
}

pub lower_half : (pos : ℕ) (pairs : List Pair) (low high middle : ℕ) (pair : Pair) → slice_get pairs middle ≡ Some pair → low ≤ middle → middle < high → pos < pair.count → Halved pos pairs low high → Halved pos pairs low middle
lower_half pos pairs low high middle pair at le lt here h = record {
  order = le;
  inside = omega (arith, h.inside);
  above = omega (arith, count_here pairs middle pair at);
  none_before = h.none_before;
}

pub upper_half : (pos : ℕ) (pairs : List Pair) (low high middle : ℕ) (pair : Pair) → RiseFrom 0 pairs → slice_get pairs middle ≡ Some pair → middle < high → pair.count ≤ pos → Halved pos pairs low high → Halved pos pairs (middle + 1) high
upper_half pos pairs low high middle pair rise at lt here h = record {
  order = omega arith;
  inside = h.inside;
  above = h.above;
  none_before = λ k before above. absurd (omega (arith, counts_up 0 pairs k middle rise (omega arith) (omega (arith, h.inside)), count_here pairs middle pair at));
}

pub first_found : (pos : ℕ) (pairs : List Pair) (low high : ℕ) → high ≤ low → Halved pos pairs low high → IsFirst (λ count. pos < count) (counts_of pairs) low
first_found pos pairs low high end h =
    let same : high ≡ low = omega (arith, h.order) in
    record {
      inside = omega (arith, h.inside, length-counts pairs);
      here = subst (λ k. pos < slice_index (counts_of pairs) k) same h.above;
      none_before = h.none_before;
    }

pub total_here : (pairs : List Pair) (index : ℕ) (pair : Pair) → 1 ≤ length pairs → index ≡ length pairs - 1 → slice_get pairs index ≡ Some pair → pair.count ≡ total_of pairs
total_here pairs index pair some at e =
    sym (count_here pairs index pair e) ∙ ap (slice_index (counts_of pairs)) at ∙ sym (total_is_last pairs some)
