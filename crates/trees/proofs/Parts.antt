-- Children of a node, one at a time, and what their sizes are.
use Rattle.std.proofs.Common.{◌≡◌, ℕ, zero, suc, ◌+◌, ◌-◌, ◌/◌, ◌<◌, ◌≤◌, ◌≢◌, List, [], ◌∷◌, ◌++◌, length, take, drop, Some, refl, sym, ap, subst, ◌∙◌, arith, add-one, take_all, append_assoc}
use Rattle.std.proofs.Math.Seq.{drop-append_seam}
use Rattle.std.proofs.lemmas.List.{append-nil, drop-take, length-take-le}
use Rattle.ex_base.proofs.Rows.{each-append}
use Rattle.std.specs.Prelude.{slice_index, slice_get}
use Rattle.std.specs.List.{AllByRecursion}
use Rattle.trees.specs.declared.Pair.{Pair}
use Rattle.trees.specs.Node.{RiseFrom, total_of, counts_of, start_of, pairs_on}
use Rattle.trees.proofs.Children.{count_here}
use Rattle.trees.specs.declared.rows.Part.{Part}
use Rattle.trees.specs.Rows.{parts_of, row_size, AreHalfFull, FitLeaves, IsCounted, IsRowOn}
use Rattle.ex_base.specs.Sizes.{leaf_bytes, most_page}
use Rattle.ex_base.specs.declared.geometry.Geometry.{Geometry}

take-snoc : {A : Type 0} (xs : List A) (i : ℕ) (x : A) → slice_get xs i ≡ Some x → take (suc i) xs ≡ take i xs ++ (x ∷ [])
take-snoc [] i x e = absurd cc
take-snoc (y ∷ xs) zero x e = let same : y ≡ x = cc in ap (λ z. z ∷ []) same
take-snoc (y ∷ xs) (suc i) x e = ap (λ zs. y ∷ zs) (take-snoc xs i x e)

pub take-next : {A : Type 0} (xs : List A) (i : ℕ) (x : A) → slice_get xs i ≡ Some x → take (i + 1) xs ≡ take i xs ++ (x ∷ [])
take-next xs i x e = ap (λ k. take k xs) (add-one i) ∙ take-snoc xs i x e

pub part_at : (before : ℕ) (pairs : List Pair) (i : ℕ) (pair : Pair) → slice_get pairs i ≡ Some pair
    → slice_get (parts_of before pairs) i ≡ Some (record { size = pair.count - slice_index (before ∷ counts_of pairs) i; page = pair.page })
part_at before [] i pair e = absurd cc
part_at before (p ∷ pairs) zero pair e = let same : p ≡ pair = cc in ap (λ (q : Pair). let part : Part = record { size = q.count - before; page = q.page } in Some part) same
part_at before (p ∷ pairs) (suc i) pair e = part_at p.count pairs i pair e

pub length-parts : (before : ℕ) (pairs : List Pair) → length (parts_of before pairs) ≡ length pairs
length-parts before [] = refl
length-parts before (p ∷ pairs) = omega (arith, length-parts p.count pairs)

pub some-parts : (before : ℕ) (pairs : List Pair) → RiseFrom before pairs → AllByRecursion (λ (part : Part). 1 ≤ part.size) (parts_of before pairs)
some-parts before [] rise = tt
some-parts before (p ∷ pairs) rise = (omega (arith, rise.0), some-parts p.count pairs rise.1)

pub size-parts : (before : ℕ) (pairs : List Pair) → RiseFrom before pairs → 1 ≤ length pairs → row_size (parts_of before pairs) + before ≡ total_of pairs
size-parts before [] rise some = absurd (omega arith)
size-parts before (p ∷ []) rise some = omega (arith, rise.0)
size-parts before (p ∷ next ∷ pairs) rise some = omega (arith, rise.0, size-parts p.count (next ∷ pairs) rise.1 (omega arith))

-- a child's bytes begin before its count
pub rise_at : (before : ℕ) (pairs : List Pair) (i : ℕ) (pair : Pair) → RiseFrom before pairs → slice_get pairs i ≡ Some pair → slice_index (before ∷ counts_of pairs) i < pair.count
rise_at before [] i pair rise e = absurd cc
rise_at before (p ∷ pairs) zero pair rise e = let same : p ≡ pair = cc in subst (λ (q : Pair). before < q.count) same rise.0
rise_at before (p ∷ pairs) (suc i) pair rise e = rise_at p.count pairs i pair rise.1 e

-- where a child's bytes begin, when its index is one more
pub start-next : (pairs : List Pair) (index : ℕ) → start_of pairs (index + 1) ≡ slice_index (counts_of pairs) index
start-next pairs index = ap (start_of pairs) (let e : index + 1 ≡ suc index = omega arith in e)

-- the children of a node up to an index
pub record ChildrenSoFar (pairs : List Pair) (index before : ℕ) (row : List Part) : Type 0 where
  pub row_is : row ≡ take index (parts_of 0 pairs)
  pub start : before ≡ start_of pairs index

pub next_child : (pairs : List Pair) (i before : ℕ) (row : List Part) (pair : Pair) → ChildrenSoFar pairs i before row → slice_get pairs i ≡ Some pair
    → ChildrenSoFar pairs (i + 1) pair.count (row ++ (record { size = pair.count - before; page = pair.page } ∷ []))
next_child pairs i before row pair h e =
    let part : ℕ → Part = λ n. record { size = pair.count - n; page = pair.page } in
    record {
      row_is = ap (λ r. r ++ (part before ∷ [])) h.row_is ∙ ap (λ n. take i (parts_of 0 pairs) ++ (part n ∷ [])) h.start
          ∙ sym (take-next (parts_of 0 pairs) i (part (start_of pairs i)) (part_at 0 pairs i pair e));
      start = sym (count_here pairs i pair e) ∙ sym (start-next pairs i);
    }

-- the children of a node from an index up to another
pub record ChildrenFrom (pairs : List Pair) (from index before : ℕ) (row : List Part) : Type 0 where
  pub children : ChildrenSoFar pairs index before (take from (parts_of 0 pairs) ++ row)

pub first_child : (pairs : List Pair) (from before : ℕ) → before ≡ start_of pairs from → ChildrenFrom pairs from from before []
first_child pairs from before start = record { children = record { row_is = append-nil (take from (parts_of 0 pairs)); start = start } }

pub next_from : (pairs : List Pair) (from i before : ℕ) (row : List Part) (pair : Pair) → ChildrenFrom pairs from i before row → slice_get pairs i ≡ Some pair
    → ChildrenFrom pairs from (i + 1) pair.count (row ++ (record { size = pair.count - before; page = pair.page } ∷ []))
next_from pairs from i before row pair h e =
    record { children = subst (ChildrenSoFar pairs (i + 1) pair.count) (append_assoc (take from (parts_of 0 pairs)) row (record { size = pair.count - before; page = pair.page } ∷ [])) (next_child pairs i before (take from (parts_of 0 pairs) ++ row) pair h.children e) }

pub children_between : (pairs : List Pair) (from end before : ℕ) (row : List Part) → from ≤ end → end ≤ length pairs → ChildrenFrom pairs from end before row → row ≡ take (end - from) (drop from (parts_of 0 pairs))
children_between pairs from end before row order inside h =
    let count : length (take from (parts_of 0 pairs)) ≡ from = length-take-le from (parts_of 0 pairs) (omega (arith, length-parts 0 pairs)) in
    let sum : end ≡ from + (end - from) = omega arith in
    sym (drop-append_seam (take from (parts_of 0 pairs)) row)
    ∙ ap (λ k. drop k (take from (parts_of 0 pairs) ++ row)) count
    ∙ ap (drop from) (h.children.row_is ∙ ap (λ k. take k (parts_of 0 pairs)) sum)
    ∙ drop-take from (end - from) (parts_of 0 pairs)

-- the children up to an index are half full
pub record HalvesSoFar (full : ℕ) (pairs : List Pair) (index before : ℕ) : Type 0 where
  pub start : before ≡ start_of pairs index
  pub halves : AreHalfFull full (take index (parts_of 0 pairs))

half_at : (full before : ℕ) (pairs : List Pair) (i : ℕ) (pair : Pair) → slice_get pairs i ≡ Some pair → AreHalfFull full (parts_of before pairs)
    → (full / 2 ≤ pair.count - slice_index (before ∷ counts_of pairs) i) × (pair.count - slice_index (before ∷ counts_of pairs) i ≤ full)
half_at full before [] i pair e h = absurd cc
half_at full before (p ∷ pairs) zero pair e h = let same : p ≡ pair = cc in subst (λ (q : Pair). (full / 2 ≤ q.count - before) × (q.count - before ≤ full)) same h.0
half_at full before (p ∷ pairs) (suc i) pair e h = half_at full p.count pairs i pair e h.1

-- one child is too short or too long
pub not_half : (full : ℕ) (pairs : List Pair) (i before : ℕ) (pair : Pair) → HalvesSoFar full pairs i before → slice_get pairs i ≡ Some pair
    → ((full / 2 ≤ pair.count - before) → (pair.count - before ≤ full) → ⊥) → AreHalfFull full (parts_of 0 pairs) → ⊥
not_half full pairs i before pair h e broken all =
    let half = half_at full 0 pairs i pair e all in
    broken (subst (λ k. full / 2 ≤ pair.count - k) (sym h.start) half.0) (subst (λ k. pair.count - k ≤ full) (sym h.start) half.1)

pub next_half : (full : ℕ) (pairs : List Pair) (i before : ℕ) (pair : Pair) → HalvesSoFar full pairs i before → slice_get pairs i ≡ Some pair → full / 2 ≤ pair.count - before → pair.count - before ≤ full
    → HalvesSoFar full pairs (i + 1) pair.count
next_half full pairs i before pair h e low high =
    let part : ℕ → Part = λ n. record { size = pair.count - n; page = pair.page } in
    let more : take (i + 1) (parts_of 0 pairs) ≡ take i (parts_of 0 pairs) ++ (part before ∷ []) =
    take-next (parts_of 0 pairs) i (part (start_of pairs i)) (part_at 0 pairs i pair e) ∙ ap (λ n. take i (parts_of 0 pairs) ++ (part n ∷ [])) (sym h.start) in
    record {
      start = sym (count_here pairs i pair e) ∙ sym (start-next pairs i);
      halves = subst (AreHalfFull full) (sym more) (each-append _ (take i (parts_of 0 pairs)) (part before ∷ []) h.halves ((low, high), tt));
    }

pub all_half : (full : ℕ) (pairs : List Pair) (index before : ℕ) → length pairs ≤ index → HalvesSoFar full pairs index before → AreHalfFull full (parts_of 0 pairs)
all_half full pairs index before end h = subst (AreHalfFull full) (take_all index (parts_of 0 pairs) (omega (arith, length-parts 0 pairs))) h.halves

pub counted : (g : Geometry) (page : List ℕ) (level total least : ℕ) (row : List Part) → IsRowOn g page level total row → least ≤ length (pairs_on page)
    → (level ≡ 1 → AreHalfFull (leaf_bytes g) row) → IsCounted g level total least row
counted g page level total least row h enough halves =
    record {
      sum = ap row_size h.parts ∙ omega (arith, size-parts 0 (pairs_on page) h.fits.fits.rising h.fits.fits.some, h.sum);
      few = omega (arith, ap length h.parts, length-parts 0 (pairs_on page), h.fits.fits.few);
      some = subst (λ r. AllByRecursion (λ (part : Part). 1 ≤ part.size) r) (sym h.parts) (some-parts 0 (pairs_on page) h.fits.fits.rising);
      filled = record { enough = omega (arith, ap length h.parts, length-parts 0 (pairs_on page)); halves = halves };
    }

-- the largest fan
pub narrow : (geo : Geometry) → geo.fan ≤ 340
narrow geo = omega (arith, most_page geo, geo.narrow)

-- the children of a node of level 1 are no longer than leaves
pub halves_fit : (full : ℕ) (row : List Part) → AreHalfFull full row → AllByRecursion (λ (part : Part). part.size ≤ full) row
halves_fit full [] h = tt
halves_fit full (part ∷ row) h = (h.0.1, halves_fit full row h.1)

pub below_fit : (geo : Geometry) (level total least : ℕ) (row : List Part) → level ≢ 0 → IsCounted geo level total least row → FitLeaves geo (level - 1) row
below_fit geo level total least row above h lowest = halves_fit (leaf_bytes geo) row (h.filled.halves (omega arith))
