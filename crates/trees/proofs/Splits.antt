-- What a split of nodes keeps: the total, and between fan and most pairs in each.
use Rattle.std.proofs.Common.{◌≡◌, ℕ, ◌<◌, ◌≤◌, List, [], ◌∷◌, length, ap, ◌∙◌, arith}
use Rattle.ex_base.specs.Even.{least_parts, evenly, cut_by, sum_of}
use Rattle.ex_base.proofs.Rows.{IsRow, IsRow-as}
use Rattle.ex_base.proofs.Spread.{IsLeast, IsPiece, least_parts_is, just_one, least_row, row_of_pieces, evenly_one, cut_whole, cut_count, length-evenly, some_part, less_than_children}
use Rattle.trees.specs.Split.{most_pairs, nodes_over}

-- more children than a node holds
pub nodes_over_many : {A : Type 0} (P : A → Type 0) (size : A → ℕ) (fan total : ℕ) (xs : List A) → most_pairs fan < length xs → IsRow P size total 1 xs → IsRow (IsPiece P fan (most_pairs fan)) (sum_of size) total 2 (nodes_over fan xs)
unfolding nodes_over
nodes_over_many P size fan total xs over row =
    IsRow-as _ _ _ _ 2 2 _ (row_of_pieces P size fan (most_pairs fan) _ 2 xs (least_row (most_pairs fan) fan (length xs) (omega arith) (omega arith) over) row.each) row.sum (omega arith)

-- children that one node holds
pub nodes_over_few : {A : Type 0} (fan : ℕ) (xs : List A) → 0 < length xs → length xs ≤ most_pairs fan → nodes_over fan xs ≡ xs ∷ []
unfolding nodes_over
nodes_over_few fan xs some few =
    let one : least_parts (most_pairs fan) (length xs) ≡ 1 = just_one (most_pairs fan) (length xs) _ (least_parts_is (most_pairs fan) (length xs) (omega arith)) some few in
    ap (λ m. cut_by (evenly m (length xs)) xs) one ∙ ap (λ lens. cut_by lens xs) (evenly_one (length xs)) ∙ cut_whole xs

-- fewer nodes than children, where there are at least two children
pub fewer_nodes : {A : Type 0} (fan : ℕ) (xs : List A) → 1 ≤ fan → 2 ≤ length xs → length (nodes_over fan xs) < length xs
unfolding nodes_over
fewer_nodes fan xs some two =
    let n : ℕ = length xs in
    let h : IsLeast (most_pairs fan) (length xs) (least_parts (most_pairs fan) (length xs)) = least_parts_is (most_pairs fan) (length xs) (omega arith) in
    let len : length (cut_by (evenly (least_parts (most_pairs fan) (length xs)) (length xs)) xs) ≡ least_parts (most_pairs fan) (length xs) = cut_count _ xs ∙ length-evenly _ (length xs) (omega (arith, some_part (most_pairs fan) (length xs) _ h (omega arith))) in
    rw len (less_than_children (most_pairs fan) (length xs) _ h (omega arith) two)
