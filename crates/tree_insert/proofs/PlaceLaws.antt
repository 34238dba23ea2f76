-- Sizes and places in a row of trees.
use Rattle.std.proofs.Common.{◌≡◌, ◌≢◌, ℕ, zero, suc, ◌+◌, ◌-◌, ◌<◌, ◌≤◌, List, [], ◌∷◌, length, take, drop, get_or, Some, None, refl, sym, ap, ◌∙◌, arith, add-one, take_all}
use Rattle.std.specs.Prelude.{unwrap_or}
use Rattle.trees.specs.declared.rows.Part.{Part}
use Rattle.trees.specs.Rows.{row_size}
use Rattle.trees.specs.Made.{sizes_of}
use Rattle.trees.proofs.Reading.{no_part}
use Rattle.trees.proofs.Sizes.{front_most}
use Rattle.tree_insert.specs.Places.{IsAt, last_of, first_of, size_at}

-- the size of the tree at an index, as the code reads it
pub read_size : (row : List Part) (i : ℕ) → i < length row → (get_or row i no_part).size ≡ size_at row i
read_size [] i lt = absurd (omega arith)
read_size (part ∷ row) zero lt = refl
read_size (part ∷ row) (suc i) lt = read_size row i (omega arith)

pub size-front : (row : List Part) (i : ℕ) → i < length row → row_size (take (i + 1) row) ≡ row_size (take i row) + size_at row i
size-front [] i lt = absurd (omega arith)
size-front (part ∷ row) zero lt = omega arith
size-front (part ∷ row) (suc i) lt = ap (λ k. row_size (take k (part ∷ row))) (add-one (suc i)) ∙ omega (arith, size-front row i (omega arith), ap (λ k. row_size (take k row)) (add-one i))

pub read_most : (row : List Part) (i : ℕ) → (get_or row i no_part).size ≤ row_size row
read_most [] i = omega arith
read_most (part ∷ row) zero = omega arith
read_most (part ∷ row) (suc i) = omega (arith, read_most row i)

-- ---- the search for a place

pub record Passed (row : List Part) (pos index at : ℕ) : Type 0 where
  pub start : row_size (take index row) + at ≡ pos
  pub first : index ≢ 0 → 1 ≤ at

pub passed_more : (row : List Part) (pos index at : ℕ) → index < length row → (get_or row index no_part).size < at → Passed row pos index at → Passed row pos (index + 1) (at - (get_or row index no_part).size)
passed_more row pos index at lt above h = record {
  start = omega (arith, size-front row index lt, read_size row index lt, h.start);
  first = λ ne. omega arith;
}

pub found_at : (row : List Part) (pos index at : ℕ) → index < length row → at ≤ (get_or row index no_part).size → Passed row pos index at → IsAt row pos index at
found_at row pos index at lt le h = record { inside = lt; start = h.start; fits = omega (arith, read_size row index lt); first = h.first }

pub found_last : (row : List Part) (pos index at : ℕ) → 1 ≤ length row → index ≡ length row - 1 → pos ≤ row_size row → Passed row pos index at → IsAt row pos index at
found_last row pos index at some last le h =
    let lt : index < length row = omega arith in
    record {
      inside = lt;
      start = h.start;
      fits = omega (arith, h.start, size-front row index lt, ap row_size (take_all (index + 1) row (omega arith)));
      first = h.first;
    }

-- ---- neighbours

pub last-front : (row : List Part) (i : ℕ) → i < length row → last_of (sizes_of (take (suc i) row)) ≡ Some (size_at row i)
last-front [] i lt = absurd (omega arith)
last-front (part ∷ row) zero lt = refl
last-front (part ∷ []) (suc i) lt = absurd (omega arith)
last-front (part ∷ next ∷ row) (suc i) lt = last-front (next ∷ row) i (omega arith)

pub left_is : (row : List Part) (i : ℕ) → i ≢ 0 → i < length row → Some (get_or row (i - 1) no_part).size ≡ last_of (sizes_of (take i row))
left_is row zero ne lt = absurd (ne refl)
left_is row (suc i) ne lt =
    let back : suc i - 1 ≡ i = omega arith in
    ap (λ k. Some (get_or row k no_part).size) back ∙ ap Some (read_size row i (omega arith)) ∙ sym (last-front row i (omega arith))

pub first-rest : (row : List Part) (i : ℕ) → i < length row → first_of (sizes_of (drop i row)) ≡ Some (size_at row i)
first-rest [] i lt = absurd (omega arith)
first-rest (part ∷ row) zero lt = refl
first-rest (part ∷ row) (suc i) lt = first-rest row i (omega arith)

pub right_is : (row : List Part) (i : ℕ) → i < length row → Some (get_or row i no_part).size ≡ first_of (sizes_of (drop i row))
right_is row i lt = ap Some (read_size row i lt) ∙ sym (first-rest row i lt)

pub right_none : (row : List Part) (i : ℕ) → length row ≤ i → None ≡ first_of (sizes_of (drop i row))
right_none [] zero le = refl
right_none [] (suc i) le = refl
right_none (part ∷ row) zero le = absurd (omega arith)
right_none (part ∷ row) (suc i) le = right_none row i (omega arith)

last_most : (row : List Part) → unwrap_or (last_of (sizes_of row)) 0 ≤ row_size row
last_most [] = omega arith
last_most (part ∷ []) = omega arith
last_most (part ∷ next ∷ row) = omega (arith, last_most (next ∷ row))

pub left_most : (row : List Part) (i : ℕ) → i < length row → unwrap_or (last_of (sizes_of (take i row))) 0 + (get_or row i no_part).size ≤ row_size row
left_most row i lt = omega (arith, last_most (take i row), size-front row i lt, read_size row i lt, front_most row (i + 1))

pub step_back : (row : List Part) (i : ℕ) → 1 ≤ i → i < length row → row_size (take (i - 1) row) + (get_or row (i - 1) no_part).size ≡ row_size (take i row)
step_back row i some lt =
    let back : i - 1 + 1 ≡ i = omega arith in
    omega (arith, size-front row (i - 1) (omega arith), read_size row (i - 1) (omega arith), ap (λ k. row_size (take k row)) back)
