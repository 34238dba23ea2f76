-- Unique numbers that are sorted.
use Rattle.std.proofs.Common.{◌≡◌, ◌≢◌, ◌<◌, ◌≤◌, ◌+◌, ◌↔◌, ℕ, zero, suc, List, [], ◌∷◌, length, drop, sym, subst, arith}
use Rattle.std.specs.Prelude.{slice_index_or, Contains}
use Rattle.std.specs.List.{AllByRecursion}
use Rattle.std.specs.List.Sorted.{IsPermutation, IsNonDecreasing}
use Rattle.std.proofs.lemmas.List.Sorted.{All-permutation, IsPermutation-sym}
use Rattle.std.proofs.lemmas.List.Elements.{All-from_recursion, recursion_from_All}
use Rattle.std.proofs.lemmas.List.{drop_all, drop_more}
use Rattle.ex_base.specs.declared.names.PageNo.{PageNo}
use Rattle.ex_base.specs.Order.{AllDiffer, Rising}
use Rattle.ex_base.proofs.Counts.{contains_times, differ_permuted}
use Rattle.file_index.specs.Index.{Rises}
use Rattle.file_walk.specs.Walk.{page_numbers}
use Rattle.file_walk.specs.Numbers.{AreGoodNumbers, IsGoodRun}
use Rattle.file_walk.proofs.Times.{never}

-- ---- a run, number by number

pub run_stops : (next least : ℕ) (xs : List ℕ) (i n : ℕ) → i < length xs → n ≡ slice_index_or xs i 0 → (least ≤ n → n < next → ⊥) → (IsGoodRun next 1 xs ↔ IsGoodRun next least (drop i xs)) → IsGoodRun next 1 xs → ⊥
run_stops next least xs i n lt is never so_far all =
    let here : IsGoodRun next least (slice_index_or xs i 0 ∷ drop (i + 1) xs) = subst (IsGoodRun next least) (drop_more xs i 0 lt) (so_far.0 all) in
    never (omega (arith, here.0, is)) (omega (arith, here.1, is))

pub run_goes_on : (next least : ℕ) (xs : List ℕ) (i n : ℕ) → i < length xs → n ≡ slice_index_or xs i 0 → least ≤ n → n < next → (IsGoodRun next 1 xs ↔ IsGoodRun next least (drop i xs)) → IsGoodRun next 1 xs ↔ IsGoodRun next (n + 1) (drop (i + 1) xs)
run_goes_on next least xs i n lt is low high so_far = (
  λ all.
      let here : IsGoodRun next least (slice_index_or xs i 0 ∷ drop (i + 1) xs) = subst (IsGoodRun next least) (drop_more xs i 0 lt) (so_far.0 all) in
      subst (λ (m : ℕ). IsGoodRun next (m + 1) (drop (i + 1) xs)) (sym is) here.2,
  λ rest.
      let here : IsGoodRun next least (slice_index_or xs i 0 ∷ drop (i + 1) xs) = (omega (arith, is), omega (arith, is), subst (λ (m : ℕ). IsGoodRun next (m + 1) (drop (i + 1) xs)) is rest) in
      so_far.1 (subst (IsGoodRun next least) (sym (drop_more xs i 0 lt)) here),
)

pub run_ends : (next least : ℕ) (xs : List ℕ) (i : ℕ) → length xs ≤ i → (IsGoodRun next 1 xs ↔ IsGoodRun next least (drop i xs)) → IsGoodRun next 1 xs
run_ends next least xs i le so_far = so_far.1 (subst (IsGoodRun next least) (sym (drop_all i xs le)) tt)

-- ---- a run is what good numbers are in order

run_low : (next least n : ℕ) (xs : List ℕ) → n < least → IsGoodRun next least xs → AllByRecursion (λ (m : ℕ). m ≢ n) xs
run_low next least n [] lt h = tt
run_low next least n (x ∷ xs) lt h = (λ same. omega (arith, h.0), run_low next (x + 1) n xs (omega (arith, h.0)) h.2)

run_once : (next least : ℕ) (xs : List ℕ) → IsGoodRun next least xs → AllDiffer xs
run_once next least [] h = tt
run_once next least (x ∷ xs) h = (
  λ c. absurd (omega (arith, contains_times x xs c, never x xs (run_low next (x + 1) x xs (omega arith) h.2))),
  run_once next (x + 1) xs h.2,
)

run_some : (next least : ℕ) (xs : List ℕ) → 1 ≤ least → IsGoodRun next least xs → AllByRecursion (λ (n : ℕ). 1 ≤ n) xs
run_some next least [] le h = tt
run_some next least (x ∷ xs) le h = (omega (arith, h.0), run_some next (x + 1) xs (omega arith) h.2)

run_below : (next least : ℕ) (xs : List ℕ) → IsGoodRun next least xs → AllByRecursion (λ (n : ℕ). n < next) xs
run_below next least [] h = tt
run_below next least (x ∷ xs) h = (h.1, run_below next (x + 1) xs h.2)

-- the numbers don't fall
abbrev Climbs : List ℕ → Type 0
Climbs xs = (i j : ℕ) (d : ℕ) → i ≤ j → j < length xs → slice_index_or xs i d ≤ slice_index_or xs j d

all_from : (low : ℕ) (xs : List ℕ) → ((j d : ℕ) → j < length xs → low ≤ slice_index_or xs j d) → AllByRecursion (λ (m : ℕ). low ≤ m) xs
all_from low [] h = tt
all_from low (x ∷ xs) h = (h 0 0 (omega arith), all_from low xs (λ j d lt. h (suc j) d (omega arith)))

above : (low : ℕ) (xs : List ℕ) → AllByRecursion (λ (m : ℕ). low ≤ m) xs → AllByRecursion (λ (m : ℕ). m ≢ low) xs → AllByRecursion (λ (m : ℕ). low + 1 ≤ m) xs
above low [] h n = tt
above low (x ∷ xs) h n = (omega (arith, h.0, n.0), above low xs h.1 n.1)

apart : (low : ℕ) (xs : List ℕ) → ¬ Contains xs low → AllByRecursion (λ (m : ℕ). m ≢ low) xs
apart low [] lacks = tt
apart low (x ∷ xs) lacks = (
  λ same. lacks (zero, omega arith, same),
  apart low xs (λ c. lacks (suc c.0, omega (arith, c.1), c.2)),
)

run_of : (next least : ℕ) (xs : List ℕ) → Climbs xs → AllDiffer xs → AllByRecursion (λ (m : ℕ). least ≤ m) xs → AllByRecursion (λ (m : ℕ). m < next) xs → IsGoodRun next least xs
run_of next least [] climbs differ low high = tt
run_of next least (x ∷ xs) climbs differ low high = (
  low.0,
  high.0,
  run_of next (x + 1) xs (λ i j d le lt. climbs (suc i) (suc j) d (omega arith) (omega arith)) differ.1
      (above x xs (all_from x xs (λ j d lt. climbs 0 (suc j) d (omega arith) (omega arith))) (apart x xs differ.0)) high.1,
)

moved : (P : ℕ → Type 0) (xs ys : List ℕ) → IsPermutation xs ys → AllByRecursion P xs → AllByRecursion P ys
moved P xs ys is h = recursion_from_All P ys (All-permutation P xs ys is (All-from_recursion P xs h))

pub sorted_run : (next : ℕ) (xs ys : List ℕ) → IsPermutation xs ys → IsNonDecreasing ys → AreGoodNumbers next xs ↔ IsGoodRun next 1 ys
sorted_run next xs ys is climbs = (
  λ good. run_of next 1 ys climbs (differ_permuted xs ys is good.differ) (moved (λ (m : ℕ). 1 ≤ m) xs ys is good.some) (moved (λ (m : ℕ). m < next) xs ys is good.below),
  λ run.
      let back = IsPermutation-sym xs ys is in
      record {
        differ = differ_permuted ys xs back (run_once next 1 ys run);
        some = moved (λ (m : ℕ). 1 ≤ m) ys xs back (run_some next 1 ys (omega arith) run);
        below = moved (λ (m : ℕ). m < next) ys xs back (run_below next 1 ys run);
      },
)

-- ---- page numbers that rise, page by page

pub rise_stops : (least : ℕ) (pages : List PageNo) (i n : ℕ) → i < length pages → n ≡ (slice_index_or pages i (record { 0 = 0 })).0 → n < least → (Rising (page_numbers pages) ↔ Rises least (page_numbers (drop i pages))) → Rising (page_numbers pages) → ⊥
rise_stops least pages i n lt is low so_far all =
    let here : Rises least (page_numbers (slice_index_or pages i (record { 0 = 0 }) ∷ drop (i + 1) pages)) = subst (λ (t : List PageNo). Rises least (page_numbers t)) (drop_more pages i (record { 0 = 0 }) lt) (so_far.0 all) in
    absurd (omega (arith, here.0, is))

pub rise_goes_on : (least : ℕ) (pages : List PageNo) (i n : ℕ) → i < length pages → n ≡ (slice_index_or pages i (record { 0 = 0 })).0 → least ≤ n → (Rising (page_numbers pages) ↔ Rises least (page_numbers (drop i pages)))
    → Rising (page_numbers pages) ↔ Rises (n + 1) (page_numbers (drop (i + 1) pages))
rise_goes_on least pages i n lt is low so_far = (
  λ all.
      let here : Rises least (page_numbers (slice_index_or pages i (record { 0 = 0 }) ∷ drop (i + 1) pages)) = subst (λ (t : List PageNo). Rises least (page_numbers t)) (drop_more pages i (record { 0 = 0 }) lt) (so_far.0 all) in
      subst (λ (m : ℕ). Rises (m + 1) (page_numbers (drop (i + 1) pages))) (sym is) here.1,
  λ rest.
      let here : Rises least (page_numbers (slice_index_or pages i (record { 0 = 0 }) ∷ drop (i + 1) pages)) = (omega (arith, is), subst (λ (m : ℕ). Rises (m + 1) (page_numbers (drop (i + 1) pages))) is rest) in
      so_far.1 (subst (λ (t : List PageNo). Rises least (page_numbers t)) (sym (drop_more pages i (record { 0 = 0 }) lt)) here),
)

pub rise_ends : (least : ℕ) (pages : List PageNo) (i : ℕ) → length pages ≤ i → (Rising (page_numbers pages) ↔ Rises least (page_numbers (drop i pages))) → Rising (page_numbers pages)
rise_ends least pages i le so_far = so_far.1 (subst (λ (t : List PageNo). Rises least (page_numbers t)) (sym (drop_all i pages le)) tt)
