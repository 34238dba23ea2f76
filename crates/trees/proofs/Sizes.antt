-- Sizes of parts of rows.
use Rattle.std.proofs.Common.{◌≡◌, ℕ, zero, suc, ◌+◌, ◌-◌, ◌<◌, ◌≤◌, List, [], ◌∷◌, ◌++◌, length, take, drop, get_or, refl, sym, ap, ◌∙◌, arith, add-one}
use Rattle.std.proofs.Math.Seq.{take-add}
use Rattle.ex_base.specs.Even.{sum_of}
use Rattle.ex_base.proofs.Rows.{sum_of-append}
use Rattle.ex_base.proofs.Spread.{plain}
use Rattle.trees.specs.declared.rows.Part.{Part}
use Rattle.trees.specs.Rows.{row_size}
use Rattle.trees.specs.Made.{sizes_of}
use Rattle.trees.proofs.Reading.{no_part}

pub size-front : (row : List Part) (i : ℕ) → i < length row → row_size (take (i + 1) row) ≡ row_size (take i row) + (get_or row i no_part).size
size-front [] i lt = absurd (omega arith)
size-front (part ∷ row) zero lt = omega arith
size-front (part ∷ row) (suc i) lt = ap (λ k. row_size (take k (part ∷ row))) (add-one (suc i)) ∙ omega (arith, size-front row i (omega arith), ap (λ k. row_size (take k row)) (add-one i))

pub front_most : (row : List Part) (i : ℕ) → row_size (take i row) ≤ row_size row
front_most row zero = omega arith
front_most [] (suc i) = omega arith
front_most (part ∷ row) (suc i) = omega (arith, front_most row i)

pub rest_most : (row : List Part) (i : ℕ) → row_size (drop i row) ≤ row_size row
rest_most row zero = omega arith
rest_most [] (suc i) = omega arith
rest_most (part ∷ row) (suc i) = omega (arith, rest_most row i)

-- fewer trees are no longer
pub front_le : (row : List Part) (i j : ℕ) → i ≤ j → row_size (take i row) ≤ row_size (take j row)
front_le row zero j le = omega arith
front_le [] (suc i) zero le = absurd (omega arith)
front_le [] (suc i) (suc j) le = omega arith
front_le (part ∷ row) (suc i) zero le = absurd (omega arith)
front_le (part ∷ row) (suc i) (suc j) le = omega (arith, front_le row i j (omega arith))

-- the trees up to an index, and those from there up to another
pub piece_size : (row : List Part) (i j : ℕ) → i ≤ j → row_size (take i row) + row_size (take (j - i) (drop i row)) ≡ row_size (take j row)
piece_size row i j le =
    sym (ap (λ k. row_size (take k row)) {x = j} {y = i + (j - i)} (omega arith) ∙ ap row_size (take-add i (j - i) row) ∙ sum_of-append (λ (part : Part). part.size) (take i row) (take (j - i) (drop i row)))

-- the sum of the sizes, one by one
pub sizes_sum : (row : List Part) → sum_of plain (sizes_of row) ≡ row_size row
sizes_sum [] = refl
sizes_sum (part ∷ row) = ap (λ n. part.size + n) (sizes_sum row)

pub take_all : (row : List Part) (n : ℕ) → length row ≤ n → take n row ≡ row
take_all [] zero le = refl
take_all [] (suc n) le = refl
take_all (part ∷ row) zero le = absurd (omega arith)
take_all (part ∷ row) (suc n) le = ap (λ (r : List Part). part ∷ r) (take_all row n (omega arith))

-- a tree of a row, and what stands on both sides of it
pub around_row : (row : List Part) (i : ℕ) → i < length row → row ≡ take i row ++ ((get_or row i no_part ∷ []) ++ drop (i + 1) row)
around_row [] i lt = absurd (omega arith)
around_row (part ∷ row) zero lt = refl
around_row (part ∷ row) (suc i) lt = ap (λ r. part ∷ r) (around_row row i (omega arith)) ∙ ap (λ k. part ∷ (take i row ++ ((get_or row i no_part ∷ []) ++ drop k (part ∷ row)))) (let e : suc (i + 1) ≡ suc i + 1 = omega arith in e)
