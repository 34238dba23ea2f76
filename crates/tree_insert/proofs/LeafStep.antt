-- The step over leaves at a place of a row.
use Rattle.std.proofs.Common.{◌≡◌, ℕ, zero, suc, ◌+◌, ◌-◌, ◌/◌, ◌<◌, ◌≤◌, true, List, [], ◌∷◌, ◌++◌, length, take, drop, Option, refl, sym, ap, subst, ◌∙◌, arith, append_assoc, inl, inr, true≢false}
use Rattle.std.specs.List.{AllByRecursion}
use Rattle.std.proofs.lemmas.Bool.{cases_lt}
use Rattle.std.proofs.lemmas.List.{length-append, length-map, length-drop, length-take-le, drop-drop, take-append-drop, drop-map, take-map}
use Rattle.ex_base.specs.Edits.{inserted}
use Rattle.ex_base.specs.Even.{sum_of}
use Rattle.ex_base.specs.declared.ground.Ground as ground
use Rattle.ex_base.specs.Area.{NamesLeaf}
use Rattle.ex_base.specs.Sizes.{leaf_bytes}
use Rattle.ex_base.proofs.Rows.{each-append, each-take, each-drop, sum_of-append, sum_of-take_drop}
use Rattle.ex_base.proofs.Spread.{plain, Between}
use Rattle.ex_base.proofs.Each.{each_mapped, each_unmapped, split_each}
use Rattle.trees.specs.Layout.{Layout}
use Rattle.trees.proofs.Placed.{AreLeaves}
use Rattle.trees.specs.Shape.{Subtree}
use Rattle.trees.specs.declared.rows.Part.{Part}
use Rattle.trees.specs.Rows.{row_size, row_bytes, row_shape}
use Rattle.trees.specs.Made.{Extends, Holds, Took, pages_of, sizes_of, changed}
use Rattle.trees.specs.Built.{AreSome}
use Rattle.trees.proofs.Laid.{row_length}
use Rattle.trees.proofs.Over.{bytes_app}
use Rattle.trees.proofs.Sizes.{front_le, sizes_sum}
use Rattle.tree_insert.specs.declared.layout.Growth.{Growth}
use Rattle.trees.specs.Counted.{Counted}
use Rattle.trees.specs.Grown.{Grew}
use Rattle.tree_insert.specs.Grown.{HasGrown}
use Rattle.tree_insert.specs.Growth.{layout_by, IsSpot, row_by}
use Rattle.tree_insert.specs.Places.{IsAt, last_of, first_of, size_at, flag}
use Rattle.tree_insert.proofs.PlaceLaws.{size-front, right_none}
use Rattle.tree_insert.proofs.Layouts.{IsPlaced, laid_out, no_left, no_right, few_lengths, grown_row}
use Rattle.trees.proofs.Growing.{holds_split, grew_leaves, grew_between}

-- ---- sizes of a part of a row

abbrev size_of : Part → ℕ
size_of part = part.size

both : (full : ℕ) (row : List Part) → AreSome row → AllByRecursion (λ (part : Part). part.size ≤ full) row → AreLeaves 1 full (sizes_of row)
both full [] some fit = tt
both full (part ∷ row) some fit = ((some.0, fit.0), both full row some.1 fit.1)

pub cut_three : (row : List Part) (first end : ℕ) → first ≤ end → row ≡ take first row ++ (take (end - first) (drop first row) ++ drop end row)
cut_three row first end le =
    sym (ap (λ r. take first row ++ (take (end - first) (drop first row) ++ r)) (ap (λ k. drop k row) {x = end} {y = first + (end - first)} (omega arith) ∙ sym (drop-drop (end - first) first row))
    ∙ ap (λ r. take first row ++ r) (take-append-drop (end - first) (drop first row)) ∙ take-append-drop first row)

three_sizes : (row : List Part) (first end : ℕ) → first ≤ end → row_size (take first row) + (row_size (take (end - first) (drop first row)) + row_size (drop end row)) ≡ row_size row
three_sizes row first end le =
    sym (ap row_size (cut_three row first end le)
    ∙ sum_of-append size_of (take first row) (take (end - first) (drop first row) ++ drop end row) ∙ ap (λ n. row_size (take first row) + n) (sum_of-append size_of (take (end - first) (drop first row)) (drop end row)))

-- ---- what the code needs of a layout in its place

pub record IsLeafStep (growth : Growth) (fan full n : ℕ) (row : List Part) (pos first end at : ℕ) (lengths : List ℕ) : Type 0 where
  pub split : row ≡ take first row ++ (take (end - first) (drop first row) ++ drop end row)
  pub start : row_size (take first row) + at ≡ pos
  pub fits : at ≤ row_size (take (end - first) (drop first row))
  pub smaller : row_size (take (end - first) (drop first row)) ≤ row_size row
  pub each : AllByRecursion (Between 1 full) lengths
  pub sum : sum_of plain lengths ≡ row_size (take (end - first) (drop first row)) + n
  pub few : length lengths ≤ n / full + 4
  pub many : length row ≤ length (take first row) + (length lengths + length (drop end row))
  pub shape : row_by growth fan full n 0 (sizes_of row) pos ≡ sizes_of (take first row) ++ (lengths ++ sizes_of (drop end row))

size_fits : (full : ℕ) (row : List Part) (i : ℕ) → AllByRecursion (λ (part : Part). part.size ≤ full) row → i < length row → size_at row i ≤ full
size_fits full [] i fit lt = absurd (omega arith)
size_fits full (part ∷ row) zero fit lt = fit.0
size_fits full (part ∷ row) (suc i) fit lt = size_fits full row i fit.1 (omega arith)

pub leaf_step : (growth : Growth) (fan full n : ℕ) (row : List Part) (pos index at0 first end at : ℕ) (layout : Layout) → 2 ≤ full → 1 ≤ n → AreSome row → AllByRecursion (λ (part : Part). part.size ≤ full) row → IsSpot growth pos (row_size row)
    → IsAt row pos index at0 → layout ≡ layout_by growth full (last_of (sizes_of (take index row))) (size_at row index) (first_of (sizes_of (drop (index + 1) row))) n → first + flag layout.takes_left ≡ index → end ≡ index + 1 + flag layout.takes_right
    → row_size (take first row) + at ≡ row_size (take index row) + at0 → end ≤ length row → IsLeafStep growth fan full n row pos first end at layout.lengths
leaf_step growth fan full n row pos index at0 first end at layout two more some fit spot h layout_is first_is end_is at_is inside =
    let front : sizes_of (take index row) ≡ take index (sizes_of row) = sym (take-map size_of index row) in
    let back : sizes_of (drop (index + 1) row) ≡ drop (index + 1) (sizes_of row) = sym (drop-map size_of (index + 1) row) in
    let placed : IsPlaced (sizes_of row) pos index at0 = record {
      inside = omega (arith, length-map row size_of, h.inside);
      start = omega (arith, h.start, ap (sum_of plain) front, sizes_sum (take index row));
      fits = h.fits;
      first = h.first;
    } in
    let le : first ≤ end = omega arith in
    let laid : row_by growth fan full n 0 (sizes_of row) pos ≡ take first (sizes_of row) ++ (layout.lengths ++ drop end (sizes_of row)) =
    laid_out growth fan full n (sizes_of row) pos index at0 first end layout placed (each_mapped (λ k. 1 ≤ k) size_of row some) (subst (IsSpot growth pos) (sym (sizes_sum row)) spot)
    (layout_is ∙ ap (λ xs. layout_by growth full (last_of xs) (size_at row index) (first_of (sizes_of (drop (index + 1) row))) n) front ∙ ap (λ xs. layout_by growth full (last_of (take index (sizes_of row))) (size_at row index) (first_of xs) n) back) first_is end_is in
    let shape : row_by growth fan full n 0 (sizes_of row) pos ≡ sizes_of (take first row) ++ (layout.lengths ++ sizes_of (drop end row)) =
    laid ∙ ap (λ xs. xs ++ (layout.lengths ++ drop end (sizes_of row))) (sym (sym (take-map size_of first row))) ∙ ap (λ xs. sizes_of (take first row) ++ (layout.lengths ++ xs)) (sym (sym (drop-map size_of end row))) in
    let grown = grown_row growth fan full n (sizes_of row) pos two (both full row some fit) (omega (arith, length-map row size_of, h.inside)) in
    let parts = split_each (Between 1 full) (sizes_of (take first row)) (layout.lengths ++ sizes_of (drop end row)) (subst (AllByRecursion (Between 1 full)) shape grown.each) in
    let three = three_sizes row first end le in
    record {
      split = cut_three row first end le;
      start = at_is ∙ h.start;
      fits = omega (arith, h.fits, size-front row index h.inside, front_le row (index + 1) end (omega arith), sum_of-take_drop size_of end row, three);
      smaller = omega (arith, three);
      each = (split_each (Between 1 full) layout.lengths (sizes_of (drop end row)) parts.1).0;
      sum = omega (arith, grown.sum, ap (sum_of plain) shape, sum_of-append plain (sizes_of (take first row)) (layout.lengths ++ sizes_of (drop end row)), sum_of-append plain layout.lengths (sizes_of (drop end row)), sizes_sum (take first row), sizes_sum (drop end row), sizes_sum row, three);
      few = subst (λ (l : Layout). length l.lengths ≤ n / full + 4) (sym layout_is) (few_lengths growth full (last_of (sizes_of (take index row))) (size_at row index) (first_of (sizes_of (drop (index + 1) row))) n (omega arith) more (size_fits full row index fit h.inside));
      many = omega (arith, grown.many, ap length shape, length-append (sizes_of (take first row)) (layout.lengths ++ sizes_of (drop end row)), length-append layout.lengths (sizes_of (drop end row)), length-map (take first row) size_of, length-map (drop end row) size_of, length-map row size_of);
      shape = shape;
    }

-- ---- neighbours that take part are there

pub left_there : (growth : Growth) (full : ℕ) (row : List Part) (index leaf : ℕ) (right : Option ℕ) (n : ℕ) (layout : Layout) → layout ≡ layout_by growth full (last_of (sizes_of (take index row))) leaf right n → layout.takes_left ≡ true → 1 ≤ index
left_there growth full row zero leaf right n layout is takes = absurd (true≢false (sym takes ∙ ap (λ (l : Layout). l.takes_left) is ∙ no_left growth full leaf right n))
left_there growth full row (suc index) leaf right n layout is takes = omega arith

pub right_there : (growth : Growth) (full : ℕ) (row : List Part) (index : ℕ) (left : Option ℕ) (leaf n : ℕ) (layout : Layout) → layout ≡ layout_by growth full left leaf (first_of (sizes_of (drop (index + 1) row))) n → layout.takes_right ≡ true → index + 1 < length row
right_there growth full row index left leaf n layout is takes = elim (cases_lt (index + 1) (length row)) [
  | inl lt ↦ lt
  | inr le ↦ absurd (true≢false (sym takes ∙ ap (λ (l : Layout). l.takes_right) is ∙ ap (λ r. (layout_by growth full left leaf r n).takes_right) (sym (right_none row (index + 1) le)) ∙ no_right growth full left leaf n))
]

-- ---- what stands after the step

pub step_count : (first end : ℕ) (row made items : List Part) (lengths : List ℕ) → first < end → end ≤ length row → items ≡ (take first row ++ made) ++ drop end row → sizes_of made ≡ lengths → length items + (end - first) ≡ length row + length lengths
step_count first end row made items lengths lt inside is sizes =
    omega (arith, ap length is, length-append (take first row ++ made) (drop end row), length-append (take first row) made, length-take-le first row (omega arith), length-drop end row, ap length sizes, length-map made size_of)

pub step_grown : (growth : Growth) (fan full n : ℕ) (row : List Part) (pos first end at : ℕ) (lengths : List ℕ) (made items : List Part) → first < end → end ≤ length row → 1 ≤ length row → AreSome row → IsLeafStep growth fan full n row pos first end at lengths
    → items ≡ (take first row ++ made) ++ drop end row → sizes_of made ≡ lengths → HasGrown n row items
step_grown growth fan full n row pos first end at lengths made items lt inside some somes h is sizes =
    let three = three_sizes row first end (omega arith) in
    record {
      sum = omega (arith, ap row_size is, sum_of-append size_of (take first row ++ made) (drop end row), sum_of-append size_of (take first row) made, sizes_sum made, ap (sum_of plain) sizes, h.sum, three);
      sizes = subst AreSome (sym is) (each-append _ (take first row ++ made) (drop end row) (each-append _ (take first row) made (each-take _ first row somes)
          (each_unmapped (λ k. 1 ≤ k) size_of made (subst (AllByRecursion (λ k. 1 ≤ k)) (sym sizes) (weaker full lengths h.each)))) (each-drop _ end row somes));
      some = omega (arith, step_count first end row made items lengths lt inside is sizes, h.many, length-take-le first row (omega arith), length-drop end row);
    }
  where
    weaker : (full : ℕ) (xs : List ℕ) → AllByRecursion (Between 1 full) xs → AllByRecursion (λ k. 1 ≤ k) xs
    weaker full [] all = tt
    weaker full (x ∷ xs) all = (all.0.0, weaker full xs all.1)

-- ---- bytes that go in between

pub take_over : (a b : List ℕ) (n : ℕ) → take (length a + n) (a ++ b) ≡ a ++ take n b
take_over [] b n = ap (λ k. take k b) (let e : 0 + n ≡ n = omega arith in e)
take_over (x ∷ a) b n = ap (λ k. take k (x ∷ (a ++ b))) (let e : length (x ∷ a) + n ≡ suc (length a + n) = omega arith in e) ∙ ap (λ ys. x ∷ ys) (take_over a b n)

pub drop_over : (a b : List ℕ) (n : ℕ) → drop (length a + n) (a ++ b) ≡ drop n b
drop_over [] b n = ap (λ k. drop k b) (let e : 0 + n ≡ n = omega arith in e)
drop_over (x ∷ a) b n = ap (λ k. drop k (x ∷ (a ++ b))) (let e : length (x ∷ a) + n ≡ suc (length a + n) = omega arith in e) ∙ drop_over a b n

pub take_in : (a b : List ℕ) (n : ℕ) → n ≤ length a → take n (a ++ b) ≡ take n a
take_in a b zero le = refl
take_in [] b (suc n) le = absurd (omega arith)
take_in (x ∷ a) b (suc n) le = ap (λ ys. x ∷ ys) (take_in a b n (omega arith))

pub drop_in : (a b : List ℕ) (n : ℕ) → n ≤ length a → drop n (a ++ b) ≡ drop n a ++ b
drop_in a b zero le = refl
drop_in [] b (suc n) le = absurd (omega arith)
drop_in (x ∷ a) b (suc n) le = drop_in a b n (omega arith)

pub inserted_between : (front old back given whole : List ℕ) (pos at : ℕ) → whole ≡ front ++ (old ++ back) → length front + at ≡ pos → at ≤ length old → front ++ (inserted old at given ++ back) ≡ inserted whole pos given
inserted_between front old back given whole pos at is sum le =
    sym (ap (λ xs. inserted xs pos given) is ∙ ap (λ k. inserted (front ++ (old ++ back)) k given) (sym sum)
    ∙ ap (λ xs. (xs ++ given) ++ drop (length front + at) (front ++ (old ++ back))) (take_over front (old ++ back) at ∙ ap (λ xs. front ++ xs) (take_in old back at le))
    ∙ ap (λ xs. ((front ++ take at old) ++ given) ++ xs) (drop_over front (old ++ back) at ∙ drop_in old back at le)
    ∙ regroup front (take at old) given (drop at old) back)
  where
    regroup : (a b c d e : List ℕ) → ((a ++ b) ++ c) ++ (d ++ e) ≡ a ++ (((b ++ c) ++ d) ++ e)
    regroup a b c d e = simp append_assoc

pub Grew-as : {S : Type 0} (g : ground.Ghosts S) (a b : S) (l : ℕ) (was now now' : List Part) (bytes bytes' : List ℕ) (shape shape' : List (Subtree l)) → Grew g a b l was now bytes shape → now' ≡ now → bytes ≡ bytes' → shape ≡ shape' → Grew g a b l was now' bytes' shape'
Grew-as g a b l was now now' bytes bytes' shape shape' h e f k =
    subst (λ r. Grew g a b l was r bytes' shape') (sym e) (subst (λ xs. Grew g a b l was now xs shape') f (subst (λ xs. Grew g a b l was now bytes xs) k h))

module _ {S : Type 0} (g : ground.Ghosts S) where
  pub leaves_grew : (a b : S) (growth : Growth) (fan full : ℕ) (row : List Part) (pos first end at : ℕ) (given lengths : List ℕ) (made items : List Part) → g.ready a → g.tells a → full ≡ leaf_bytes (g.geometry a) → IsLeafStep growth fan full (length given) row pos first end at lengths
      → Extends g a b → Holds g a 0 row → items ≡ (take first row ++ made) ++ drop end row → sizes_of made ≡ lengths → AllByRecursion (λ (part : Part). NamesLeaf (g.geometry a) part.page.0) made → Took g a b (pages_of made) → Counted g a b
      → (Holds g a 0 (take (end - first) (drop first row)) → row_bytes (g.unit b) 0 made ≡ changed (row_bytes (g.unit a) 0 (take (end - first) (drop first row))) at 0 given)
      → Grew g a b 0 row items (inserted (row_bytes (g.unit a) 0 row) pos given) (row_by growth fan full (length given) 0 (row_shape (g.unit a) 0 row) pos)
  leaves_grew a b growth fan full row pos first end at given lengths made items ready told full_is h ext holds items_is sizes named took counts bytes =
      let left = take first row in
      let run = take (end - first) (drop first row) in
      let right = drop end row in
      let held : Holds g a 0 (take first row ++ (take (end - first) (drop first row) ++ drop end row)) = subst (Holds g a 0) h.split holds in
      let first_parts = holds_split g a 0 (take first row) (take (end - first) (drop first row) ++ drop end row) held in
      let parts = holds_split g a 0 (take (end - first) (drop first row)) (drop end row) first_parts.1 in
      let whole = g.whole a ready told in
      let left_len = row_length (g.geometry a) (g.unit a) 0 (take first row) whole first_parts.0.trees in
      let run_len = row_length (g.geometry a) (g.unit a) 0 (take (end - first) (drop first row)) whole parts.0.trees in
      let fit : AllByRecursion (λ n. (1 ≤ n) × (n ≤ leaf_bytes (g.geometry a))) lengths = subst (λ k. AllByRecursion (Between 1 k) lengths) full_is h.each in
      let new_bytes : row_bytes (g.unit b) 0 made ≡ inserted (row_bytes (g.unit a) 0 (take (end - first) (drop first row))) at given =
      bytes parts.0 ∙ regroup (take at (row_bytes (g.unit a) 0 (take (end - first) (drop first row)))) given at (row_bytes (g.unit a) 0 (take (end - first) (drop first row))) in
      let run_grew = grew_leaves g a b (take (end - first) (drop first row)) made lengths (inserted (row_bytes (g.unit a) 0 (take (end - first) (drop first row))) at given) ext sizes fit named took counts new_bytes in
      let all = grew_between g a b 0 (take first row) (take (end - first) (drop first row)) (drop end row) made (inserted (row_bytes (g.unit a) 0 (take (end - first) (drop first row))) at given) lengths ext held run_grew in
      let row_is : row_bytes (g.unit a) 0 row ≡ row_bytes (g.unit a) 0 (take first row) ++ (row_bytes (g.unit a) 0 (take (end - first) (drop first row)) ++ row_bytes (g.unit a) 0 (drop end row)) =
      ap (row_bytes (g.unit a) 0) h.split ∙ bytes_app (g.unit a) 0 (take first row) (take (end - first) (drop first row) ++ drop end row) ∙ ap (λ xs. row_bytes (g.unit a) 0 (take first row) ++ xs) (bytes_app (g.unit a) 0 (take (end - first) (drop first row)) (drop end row)) in
      Grew-as g a b 0 row (take first row ++ (made ++ drop end row)) items _ _ _ _
      (subst (λ r. Grew g a b 0 r (take first row ++ (made ++ drop end row)) (row_bytes (g.unit a) 0 (take first row) ++ (inserted (row_bytes (g.unit a) 0 (take (end - first) (drop first row))) at given ++ row_bytes (g.unit a) 0 (drop end row))) (sizes_of (take first row) ++ (lengths ++ sizes_of (drop end row)))) (sym h.split) all)
      (items_is ∙ append_assoc (take first row) made (drop end row))
      (inserted_between (row_bytes (g.unit a) 0 (take first row)) (row_bytes (g.unit a) 0 (take (end - first) (drop first row))) (row_bytes (g.unit a) 0 (drop end row)) given (row_bytes (g.unit a) 0 row) pos at row_is (omega (arith, left_len, h.start)) (omega (arith, run_len, h.fits)))
      (sym h.shape)
    where
      regroup : (x given : List ℕ) (at : ℕ) (old : List ℕ) → x ++ (given ++ drop (at + 0) old) ≡ (x ++ given) ++ drop at old
      regroup x given at old = ap (λ k. x ++ (given ++ drop k old)) (let e : at + 0 ≡ at = omega arith in e) ∙ sym (append_assoc x given (drop at old))
