-- What a layout keeps: the bytes, between half and full in each leaf, and at least as many leaves.
use Rattle.std.proofs.Common.{◌≡◌, ℕ, ◌+◌, ◌-◌, ◌*◌, ◌<◌, ◌≤◌, leb, ltb, List, [], ◌∷◌, ◌++◌, length, Option, Some, None, refl, subst, arith}
use Rattle.std.specs.Prelude.{replicate, option_to_list}
use Rattle.std.specs.List.{AllByRecursion}
use Rattle.std.proofs.lemmas.Bool.{leb-true, leb-false, cond_both}
use Rattle.ex_base.specs.Even.{least_parts, evenly, sum_of}
use Rattle.ex_base.proofs.Rows.{IsRow, IsRow-append, IsRow-as}
use Rattle.ex_base.proofs.Spread.{plain, Between, IsLeast, least_parts_is, at_least_two, row_of_copies, least_row, two_row}
use Rattle.trees.specs.Layout.{Layout, in_place, with_left, with_right, left_or_spread, right_or_spread, overflowing, insert_layout, filled, overflowing_last, append_layout, first_lengths, placed, insert_leaves, append_leaves}

-- what half full and full leaves are
pub record IsCapacity (low full : ℕ) : Type 0 where
  pub some : 0 < full
  pub half : low * 2 ≤ full

abbrev pub LeafRow : ℕ → ℕ → ℕ → ℕ → List ℕ → Type 0
LeafRow low full total count xs = IsRow (Between low full) plain total count xs

abbrev pub AreLeaves : ℕ → ℕ → List ℕ → Type 0
AreLeaves low full xs = AllByRecursion (Between low full) xs

pub leaf_row : (low full : ℕ) (xs : List ℕ) → AreLeaves low full xs → LeafRow low full (sum_of plain xs) (length xs) xs
leaf_row low full xs each = record { each = each; sum = refl; many = omega arith }

-- ---- full leaves and the last two

pub filled_row : (low full total : ℕ) → IsCapacity low full → full < total → LeafRow low full total 2 (filled full total)
unfolding filled
filled_row low full total c over =
    let m : ℕ = least_parts full total in
    let h : IsLeast full total (least_parts full total) = least_parts_is full total c.some in
    let two : 2 ≤ least_parts full total = at_least_two full total (least_parts full total) h over in
    let is : least_parts full total ≡ (least_parts full total - 2) + 2 = omega arith in
    let least : ((least_parts full total - 2) + 2) * full < total + full = subst (λ x. x * full < total + full) is h.least in
    let holds : total ≤ ((least_parts full total - 2) + 2) * full = subst (λ x. total ≤ x * full) is h.holds in
    let half : low * 2 ≤ full = c.half in
    let front : LeafRow low full ((least_parts full total - 2) * full) (least_parts full total - 2) (replicate (least_parts full total - 2) full) =
    row_of_copies low full (least_parts full total - 2) full (λ p. (omega arith, omega arith)) in
    let back : LeafRow low full (total - (least_parts full total - 2) * full) 2 (evenly 2 (total - (least_parts full total - 2) * full)) =
    two_row low full _ (omega arith) (omega arith) in
    IsRow-as (Between low full) plain _ total _ 2 _ (IsRow-append (Between low full) plain _ _ _ _ _ _ front back) (omega arith) (omega arith)

-- ---- a layout in its place

-- the lengths of a layout between what stands to the left and to the right
between_row : (low full total count : ℕ) (left lengths rest : List ℕ) → AreLeaves low full left → LeafRow low full total count lengths → AreLeaves low full rest → LeafRow low full (sum_of plain left + total + sum_of plain rest) (length left + count + length rest) (left ++ lengths ++ rest)
between_row low full total count left lengths rest l row r =
    IsRow-append (Between low full) plain _ _ _ _ _ _ (IsRow-append (Between low full) plain _ _ _ _ _ _ (leaf_row low full left l) row) (leaf_row low full rest r)

-- the leaf to the right of a place
abbrev pub first_of : List ℕ → Option ℕ
first_of [] = None
first_of (x ∷ xs) = Some x

-- the leaf's place is taken by a layout: the bytes stay with n more, and no fewer leaves
abbrev pub Fills : ℕ → ℕ → Option ℕ → ℕ → List ℕ → Layout → Type 0
Fills low full left total rest layout = LeafRow low full (sum_of plain (option_to_list left) + total + sum_of plain rest) (length (option_to_list left) + 1 + length rest) (placed layout left rest)

in_place_fills : (low full : ℕ) (left : Option ℕ) (total : ℕ) (rest lengths : List ℕ) → AreLeaves low full (option_to_list left) → AreLeaves low full rest → LeafRow low full total 1 lengths → Fills low full left total rest (in_place lengths)
in_place_fills low full left total rest lengths l r row = between_row low full total 1 (option_to_list left) lengths rest l row r

with_left_fills : (low full a total : ℕ) (rest lengths : List ℕ) → AreLeaves low full rest → LeafRow low full (a + total) 2 lengths → Fills low full (Some a) total rest (with_left lengths)
with_left_fills low full a total rest lengths r row =
    IsRow-as _ _ _ _ _ _ _ (between_row low full (a + total) 2 [] lengths rest tt row r) (omega arith) (omega arith)

with_right_fills : (low full : ℕ) (left : Option ℕ) (b total : ℕ) (rest lengths : List ℕ) → AreLeaves low full (option_to_list left) → AreLeaves low full rest → LeafRow low full (b + total) 2 lengths → Fills low full left total (b ∷ rest) (with_right lengths)
with_right_fills low full left b total rest lengths l r row =
    IsRow-as _ _ _ _ _ _ _ (between_row low full (b + total) 2 (option_to_list left) lengths rest l row r) (omega arith) (omega arith)

spread_row : (low full total : ℕ) → IsCapacity low full → full < total → LeafRow low full total 1 (evenly (least_parts full total) total)
spread_row low full total c over = IsRow-as _ _ total total 2 1 _ (least_row full low total c.some c.half over) refl (omega arith)

left_fills : (low full a total : ℕ) (rest : List ℕ) → IsCapacity low full → full < total → Between low full a → AreLeaves low full rest → Fills low full (Some a) total rest (left_or_spread full a total)
left_fills low full a total rest c over fits r =
    cond_both (leb (a + total) (2 * full)) _ _ (Fills low full (Some a) total rest) (λ e. with_left_fills low full a total rest _ r (two_row low full (a + total) (omega (arith, c.half)) (omega (arith, leb-true _ _ e)))) (λ e. in_place_fills low full (Some a) total rest _ (fits, tt) r (spread_row low full total c over))

right_fills : (low full : ℕ) (left : Option ℕ) (b total : ℕ) (rest : List ℕ) → IsCapacity low full → full < total → AreLeaves low full (option_to_list left) → Between low full b → AreLeaves low full rest → Fills low full left total (b ∷ rest) (right_or_spread full b total)
right_fills low full left b total rest c over l fits r =
    cond_both (leb (b + total) (2 * full)) _ _ (Fills low full left total (b ∷ rest)) (λ e. with_right_fills low full left b total rest _ l r (two_row low full (b + total) (omega (arith, c.half)) (omega (arith, leb-true _ _ e)))) (λ e. in_place_fills low full left total (b ∷ rest) _ l (fits, r) (spread_row low full total c over))

overflowing_fills : (low full : ℕ) (left : Option ℕ) (total : ℕ) (rest : List ℕ) → IsCapacity low full → full < total → AreLeaves low full (option_to_list left) → AreLeaves low full rest → Fills low full left total rest (overflowing full left (first_of rest) total)
overflowing_fills low full None total [] c over l r = in_place_fills low full None total [] _ tt tt (spread_row low full total c over)
overflowing_fills low full (Some a) total [] c over l r = left_fills low full a total [] c over l.0 tt
overflowing_fills low full None total (b ∷ rest) c over l r = right_fills low full None b total rest c over tt r.0 r.1
overflowing_fills low full (Some a) total (b ∷ rest) c over l r =
    cond_both (leb a b) _ _ (Fills low full (Some a) total (b ∷ rest)) (λ e. left_fills low full a total (b ∷ rest) c over l.0 r) (λ e. right_fills low full (Some a) b total rest c over l r.0 r.1)

-- a leaf that takes the bytes
one_row : (low full total : ℕ) → Between low full total → LeafRow low full total 1 (total ∷ [])
one_row low full total fits = record { each = (fits, tt); sum = omega arith; many = omega arith }

pub insert_fills : (low full n : ℕ) (left : Option ℕ) (leaf : ℕ) (rest : List ℕ) → IsCapacity low full → AreLeaves low full (option_to_list left) → low ≤ leaf → AreLeaves low full rest → Fills low full left (leaf + n) rest (insert_layout full left leaf (first_of rest) n)
unfolding insert_layout
insert_fills low full n left leaf rest c l fits r =
    cond_both (leb (leaf + n) full) _ _ (Fills low full left (leaf + n) rest) (λ e. in_place_fills low full left (leaf + n) rest _ l r (one_row low full (leaf + n) (omega arith, leb-true _ _ e))) (λ e. overflowing_fills low full left (leaf + n) rest c (leb-false _ _ e) l r)

overflowing_last_fills : (low full : ℕ) (left : Option ℕ) (total : ℕ) → IsCapacity low full → full < total → AreLeaves low full (option_to_list left) → Fills low full left total [] (overflowing_last full left total)
overflowing_last_fills low full None total c over l = in_place_fills low full None total [] _ tt tt (IsRow-as _ _ total total 2 1 _ (filled_row low full total c over) refl (omega arith))
overflowing_last_fills low full (Some a) total c over l =
    cond_both (ltb a full) _ _ (Fills low full (Some a) total []) (λ e. with_left_fills low full a total [] _ tt (filled_row low full (a + total) c (omega arith))) (λ e. in_place_fills low full (Some a) total [] _ l tt (IsRow-as _ _ total total 2 1 _ (filled_row low full total c over) refl (omega arith)))

pub append_fills : (low full n : ℕ) (left : Option ℕ) (leaf : ℕ) → IsCapacity low full → AreLeaves low full (option_to_list left) → low ≤ leaf → Fills low full left (leaf + n) [] (append_layout full left leaf n)
unfolding append_layout
append_fills low full n left leaf c l fits =
    cond_both (leb (leaf + n) full) _ _ (Fills low full left (leaf + n) []) (λ e. in_place_fills low full left (leaf + n) [] _ l tt (one_row low full (leaf + n) (omega arith, leb-true _ _ e))) (λ e. overflowing_last_fills low full left (leaf + n) c (leb-false _ _ e) l)

-- ---- leaves under one parent

-- the leaves behind a left neighbour, after n more bytes
abbrev pub Grown : ℕ → ℕ → ℕ → Option ℕ → List ℕ → List ℕ → Type 0
Grown low full n left leaves result = LeafRow low full (sum_of plain (option_to_list left) + sum_of plain leaves + n) (length (option_to_list left) + length leaves) result

pub insert_leaves_row : (low full n : ℕ) (left : Option ℕ) (leaves : List ℕ) (pos : ℕ) → IsCapacity low full → AreLeaves low full (option_to_list left) → AreLeaves low full leaves → 0 < length leaves → Grown low full n left leaves (insert_leaves full n left leaves pos)
insert_leaves_row low full n left [] pos c l each some = absurd (omega arith)
insert_leaves_row low full n left (leaf ∷ []) pos c l each some =
    IsRow-as _ _ _ _ _ _ _ (insert_fills low full n left leaf [] c l each.0.0 tt) (omega arith) (omega arith)
insert_leaves_row low full n left (leaf ∷ next ∷ rest) pos c l each some =
    cond_both (leb pos leaf) _ _ (Grown low full n left (leaf ∷ next ∷ rest)) (λ e. IsRow-as _ _ _ _ _ _ _ (insert_fills low full n left leaf (next ∷ rest) c l each.0.0 each.1) (omega arith) (omega arith)) (λ e. IsRow-as _ _ _ _ _ _ _ (IsRow-append (Between low full) plain _ _ _ _ _ _ (leaf_row low full (option_to_list left) l) (insert_leaves_row low full n (Some leaf) (next ∷ rest) (pos - leaf) c (each.0, tt) each.1 (omega arith))) (omega arith) (omega arith))

pub append_leaves_row : (low full n : ℕ) (left : Option ℕ) (leaves : List ℕ) → IsCapacity low full → AreLeaves low full (option_to_list left) → AreLeaves low full leaves → 0 < length leaves → Grown low full n left leaves (append_leaves full n left leaves)
append_leaves_row low full n left [] c l each some = absurd (omega arith)
append_leaves_row low full n left (leaf ∷ []) c l each some =
    IsRow-as _ _ _ _ _ _ _ (append_fills low full n left leaf c l each.0.0) (omega arith) (omega arith)
append_leaves_row low full n left (leaf ∷ next ∷ rest) c l each some =
    IsRow-as _ _ _ _ _ _ _ (IsRow-append (Between low full) plain _ _ _ _ _ _ (leaf_row low full (option_to_list left) l) (append_leaves_row low full n (Some leaf) (next ∷ rest) c (each.0, tt) each.1 (omega arith))) (omega arith) (omega arith)

-- ---- a lone root leaf, and a tree's first bytes

-- one leaf that isn't empty, or at least two that are half full
pub data FirstLeaves (low full total : ℕ) (leaves : List ℕ) : Type 0 where
  alone : leaves ≡ total ∷ [] → 1 ≤ total → total ≤ full → FirstLeaves low full total leaves
  several : LeafRow low full total 2 leaves → FirstLeaves low full total leaves

pub first_lengths_are : (low full n : ℕ) → IsCapacity low full → 1 ≤ n → FirstLeaves low full n (first_lengths full n)
unfolding first_lengths
first_lengths_are low full n c some =
    cond_both (leb n full) _ _ (FirstLeaves low full n) (λ e. alone refl some (leb-true _ _ e)) (λ e. several (filled_row low full n c (leb-false _ _ e)))

pub insert_lone : (low full leaf n : ℕ) → IsCapacity low full → 1 ≤ n → FirstLeaves low full (leaf + n) (insert_layout full None leaf None n).lengths
unfolding insert_layout
insert_lone low full leaf n c some =
    cond_both (leb (leaf + n) full) _ _ (λ (layout : Layout). FirstLeaves low full (leaf + n) layout.lengths) (λ e. alone refl (omega arith) (leb-true _ _ e)) (λ e. several (least_row full low (leaf + n) c.some c.half (leb-false _ _ e)))

pub append_lone : (low full leaf n : ℕ) → IsCapacity low full → 1 ≤ n → FirstLeaves low full (leaf + n) (append_layout full None leaf n).lengths
unfolding append_layout
append_lone low full leaf n c some =
    cond_both (leb (leaf + n) full) _ _ (λ (layout : Layout). FirstLeaves low full (leaf + n) layout.lengths) (λ e. alone refl (omega arith) (leb-true _ _ e)) (λ e. several (filled_row low full (leaf + n) c (leb-false _ _ e)))
