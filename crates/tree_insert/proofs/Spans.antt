-- The trees of a row that hold a range of bytes.
use Rattle.std.proofs.Common.{◌≡◌, ℕ, zero, suc, ◌+◌, ◌-◌, ◌<◌, ◌≤◌, List, length, take, drop, ap, ◌∙◌, arith, inl, inr}
use Rattle.std.proofs.lemmas.Bool.{cases_lt}
use Rattle.std.proofs.lemmas.List.{length-take-le, length-drop, take-take}
use Rattle.trees.specs.declared.rows.Part.{Part}
use Rattle.trees.specs.Rows.{row_size}
use Rattle.tree_insert.specs.Places.{IsAt, size_at}
use Rattle.tree_insert.specs.Replaced.{IsSpan}
use Rattle.tree_insert.proofs.PlaceLaws.{size-front}
use Rattle.trees.proofs.Sizes.{front_le, piece_size}

-- a tree that begins before another's end stands no later
pub comes_first : (row : List Part) (a b : ℕ) → row_size (take a row) < row_size (take b row) → a < b
comes_first row a b lt = elim (cases_lt a b) [
  | inl first ↦ first
  | inr le ↦ absurd (omega (arith, front_le row b a le))
]

one_size : (row : List Part) (i : ℕ) → i < length row → row_size (take 1 (drop i row)) ≡ size_at row i
one_size row i lt = omega (arith, piece_size row i (i + 1) (omega arith), size-front row i lt, ap (λ k. row_size (take k (drop i row))) {x = i + 1 - i} {y = 1} (omega arith))

behind_some : (row : List Part) (pos index at : ℕ) → IsAt row (pos + 1) index at → 1 ≤ at
behind_some row pos zero at h = omega (arith, h.start)
behind_some row pos (suc index) at h = h.first (λ e. omega arith)

starts_before : (row : List Part) (pos n index at : ℕ) → 1 ≤ n → IsAt row (pos + n) index at → row_size (take index row) < pos + n
starts_before row pos n zero at some h = omega arith
starts_before row pos n (suc index) at some h = omega (arith, h.start, h.first (λ e. omega arith))

pub span_is : (row : List Part) (pos n first behind last x : ℕ) → 1 ≤ n → IsAt row (pos + 1) first behind → IsAt row (pos + n) last x → IsSpan row pos n first (last + 1) (behind - 1)
span_is row pos n first behind last x some h k =
    let one : 1 ≤ behind = behind_some row pos first behind h in
    let before : row_size (take last row) < pos + n = starts_before row pos n last x some k in
    let ends : pos + n ≤ row_size (take (last + 1) row) = omega (arith, size-front row last k.inside, k.start, k.fits) in
    let starts : row_size (take first row) + (behind - 1) ≡ pos = omega (arith, h.start) in
    let order : first < last + 1 = comes_first row first (last + 1) (omega arith) in
    let count : length (take (last + 1 - first) (drop first row)) ≡ last + 1 - first = length-take-le (last + 1 - first) (drop first row) (omega (arith, length-drop first row, k.inside)) in
    let inner : take (length (take (last + 1 - first) (drop first row)) - 1) (take (last + 1 - first) (drop first row)) ≡ take (last - first) (drop first row) =
    ap (λ j. take j (take (last + 1 - first) (drop first row))) {x = length (take (last + 1 - first) (drop first row)) - 1} {y = last - first} (omega arith) ∙ take-take (last - first) (last + 1 - first) (drop first row) (omega arith) in
    let head : take 1 (take (last + 1 - first) (drop first row)) ≡ take 1 (drop first row) = take-take 1 (last + 1 - first) (drop first row) (omega arith) in
    record {
      order = order;
      within = omega (arith, k.inside);
      start = starts;
      touched = record {
        some = omega arith;
        first = omega (arith, ap row_size head, one_size row first h.inside, h.fits);
        last = omega (arith, ap row_size inner, piece_size row first last (omega arith));
        all = omega (arith, piece_size row first (last + 1) (omega arith));
      };
    }
