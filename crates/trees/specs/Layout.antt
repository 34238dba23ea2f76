-- The leaves that an insert or an append leaves in the place of one leaf.
use Rattle.std.specs.Prelude.{ℕ, ◌+◌, ◌-◌, ◌*◌, Bool, true, false, List, [], ◌∷◌, ◌++◌, Option, Some, None, nat_lt, nat_le, if◌then◌else◌, replicate, drop, option_to_list}
use Rattle.ex_base.specs.Even.{least_parts, evenly}
use Rattle.trees.specs.declared.plans.Plan.{Plan}

-- which neighbours the leaf takes in, and the lengths in their places and its own
pub record Layout : Type 0 where
  pub takes_left : Bool
  pub takes_right : Bool
  pub lengths : List ℕ

abbrev pub in_place : List ℕ → Layout
in_place lengths = record { takes_left = false; takes_right = false; lengths = lengths }

abbrev pub with_left : List ℕ → Layout
with_left lengths = record { takes_left = true; takes_right = false; lengths = lengths }

abbrev pub with_right : List ℕ → Layout
with_right lengths = record { takes_left = false; takes_right = true; lengths = lengths }

-- the leaf's bytes and the new ones over as few leaves as hold them
abbrev pub spread : ℕ → ℕ → Layout
spread full total = in_place (evenly (least_parts full total) total)

abbrev pub left_or_spread : ℕ → ℕ → ℕ → Layout
left_or_spread full m total = if nat_le (m + total) (2 * full) then with_left (evenly 2 (m + total)) else spread full total

abbrev pub right_or_spread : ℕ → ℕ → ℕ → Layout
right_or_spread full m total = if nat_le (m + total) (2 * full) then with_right (evenly 2 (m + total)) else spread full total

-- more bytes than one leaf holds: shared with the neighbour that has fewer bytes, the left one on a tie
abbrev pub overflowing : ℕ → Option ℕ → Option ℕ → ℕ → Layout
overflowing full None None total = spread full total
overflowing full (Some l) None total = left_or_spread full l total
overflowing full None (Some r) total = right_or_spread full r total
overflowing full (Some l) (Some r) total = if nat_le l r then left_or_spread full l total else right_or_spread full r total

-- n bytes go into a leaf with these neighbours
unfoldable pub insert_layout : ℕ → Option ℕ → ℕ → Option ℕ → ℕ → Layout
insert_layout full left leaf right n = if nat_le (leaf + n) full then in_place ((leaf + n) ∷ []) else overflowing full left right (leaf + n)

-- full leaves, and the rest evenly over the last two
unfoldable pub filled : ℕ → ℕ → List ℕ
filled full total = replicate (least_parts full total - 2) full ++ evenly 2 (total - (least_parts full total - 2) * full)

-- more bytes than one leaf holds, behind all others: a left neighbour that isn't full takes part
abbrev pub overflowing_last : ℕ → Option ℕ → ℕ → Layout
overflowing_last full None total = in_place (filled full total)
overflowing_last full (Some l) total = if nat_lt l full then with_left (filled full (l + total)) else in_place (filled full total)

-- n bytes go behind the last leaf
unfoldable pub append_layout : ℕ → Option ℕ → ℕ → ℕ → Layout
append_layout full left leaf n = if nat_le (leaf + n) full then in_place ((leaf + n) ∷ []) else overflowing_last full left (leaf + n)

-- n bytes without a tree before
unfoldable pub first_lengths : ℕ → ℕ → List ℕ
first_lengths full n = if nat_le n full then n ∷ [] else filled full n

-- ---- leaves under one parent

-- the layout in the place of a leaf that stands between a left neighbour, if any, and the rest
abbrev pub placed : Layout → Option ℕ → List ℕ → List ℕ
placed layout left rest = (if layout.takes_left then [] else option_to_list left) ++ layout.lengths ++ (if layout.takes_right then drop 1 rest else rest)

-- n bytes into the first leaf that ends at the position or behind it; left is the leaf before the list
abbrev pub insert_leaves : ℕ → ℕ → Option ℕ → List ℕ → ℕ → List ℕ
insert_leaves full n left [] pos = option_to_list left
insert_leaves full n left (leaf ∷ []) pos = placed (insert_layout full left leaf None n) left []
insert_leaves full n left (leaf ∷ next ∷ rest) pos = if nat_le pos leaf
    then placed (insert_layout full left leaf (Some next) n) left (next ∷ rest)
    else (option_to_list left ++ insert_leaves full n (Some leaf) (next ∷ rest) (pos - leaf))

-- n bytes behind the last leaf
abbrev pub append_leaves : ℕ → ℕ → Option ℕ → List ℕ → List ℕ
append_leaves full n left [] = option_to_list left
append_leaves full n left (leaf ∷ []) = placed (append_layout full left leaf n) left []
append_leaves full n left (leaf ∷ next ∷ rest) = option_to_list left ++ append_leaves full n (Some leaf) (next ∷ rest)

-- the layout that a plan stands for
abbrev pub layout_of : ℕ → Plan → Layout
layout_of full plan = record {
  takes_left = plan.takes_left;
  takes_right = plan.takes_right;
  lengths = if plan.tail then filled full plan.total else evenly plan.leaves plan.total;
}
