-- A node's page while it is written: the pairs so far, and what stood there before.
use Rattle.std.proofs.Common.{◌≡◌, ℕ, ◌+◌, ◌-◌, ◌*◌, ◌<◌, ◌≤◌, List, [], ◌∷◌, ◌++◌, length, get_or, take, drop, refl, sym, ap, ◌∙◌, arith, append_assoc}
use Rattle.std.specs.Prelude.{slice_set}
use Rattle.std.specs.List.{flat_map}
use Rattle.std.proofs.lemmas.List.{append-nil, take_more, take_at, length-append, length-drop, length-take-le}
use Rattle.std.proofs.lemmas.List.Concat.{flat_map-append}
use Rattle.std.proofs.Math.Seq.{take-length}
use Rattle.ex_base.specs.Bytes.{written}
use Rattle.ex_base.specs.Fields.{field_bytes, two_bytes, four_bytes, zeros}
use Rattle.ex_base.proofs.FieldLaws.{two_is, four_is}
use Rattle.ex_base.proofs.Places.{written_next}
use Rattle.trees.specs.declared.Pair.{Pair}
use Rattle.trees.specs.declared.rows.Part.{Part}
use Rattle.trees.specs.declared.width.Width.TheVariants.{Wide}
use Rattle.trees.specs.Node.{kind_of, head_of, pair_bytes, node_of, node_page}
use Rattle.trees.specs.Rows.{pairs_of, row_size}
use Rattle.trees.proofs.PairLaws.{length-pairs, length-pair_bytes}
use Rattle.trees.proofs.Reading.{no_part}
use Rattle.trees.proofs.Over.{row_size-snoc, pairs-snoc, size_of_take, length-pairs_of}

-- ---- the head

two_set : (out : List ℕ) (kind level : ℕ) → 8 ≤ length out → slice_set (slice_set out 0 kind) 1 level ≡ (kind ∷ level ∷ []) ++ drop 2 out
two_set [] kind level le = absurd (omega arith)
two_set (x ∷ []) kind level le = absurd (omega arith)
two_set (x ∷ y ∷ out) kind level le = refl

four_zeros : four_bytes 0 ≡ zeros 4
unfolding field_bytes
four_zeros = refl

pub head_written : (out : List ℕ) (level count : ℕ) → 8 ≤ length out
    → written (written (slice_set (slice_set out 0 (kind_of Wide)) 1 level) 2 (two_bytes count)) 4 (four_bytes 0) ≡ head_of Wide level count ++ drop 8 out
head_written out level count le =
    let front : List ℕ = kind_of Wide ∷ level ∷ [] in
    let four : length (front ++ two_bytes count) ≡ 4 = omega (arith, length-append (kind_of Wide ∷ level ∷ []) (two_bytes count), two_is.len count) in
    ap (λ (t : List ℕ). written (written t 2 (two_bytes count)) 4 (four_bytes 0)) (two_set out (kind_of Wide) level le)
    ∙ ap (λ (t : List ℕ). written t 4 (four_bytes 0)) (written_next front (two_bytes count) out 2 4 refl (omega (arith, two_is.len count)))
    ∙ written_next (front ++ two_bytes count) (four_bytes 0) out 4 8 four (omega (arith, four_is.len 0))
    ∙ ap (λ (t : List ℕ). (front ++ two_bytes count ++ t) ++ drop 8 out) four_zeros

length-head : (level count : ℕ) → length (head_of Wide level count) ≡ 8
length-head level count = omega (arith, length-append ((kind_of Wide ∷ level ∷ []) ++ two_bytes count) (zeros 4), length-append (kind_of Wide ∷ level ∷ []) (two_bytes count), two_is.len count)

-- ---- the pairs, one after the other

-- what is written when i trees of a row are
abbrev front_at : ℕ → List Part → ℕ → List ℕ
front_at level row i = head_of Wide level (length row) ++ flat_map (pair_bytes Wide) (pairs_of 0 (take i row))

length-front : (level : ℕ) (row : List Part) (i : ℕ) → length (front_at level row i) ≡ 8 + 12 * length (take i row)
length-front level row i =
    omega (arith, length-append (head_of Wide level (length row)) (flat_map (pair_bytes Wide) (pairs_of 0 (take i row))), length-head level (length row), length-pairs Wide (pairs_of 0 (take i row)), length-pairs_of 0 (take i row))

-- the head and the pairs of the first i trees stand on the page, and behind them what stood there before
pub record SoFar (was : List ℕ) (level : ℕ) (row : List Part) (i count at : ℕ) (out : List ℕ) : Type 0 where
  pub place : at ≡ 8 + 12 * i
  pub sum : count ≡ row_size (take i row)
  pub bytes : out ≡ front_at level row i ++ drop (8 + 12 * i) was

pub so_far_first : (was : List ℕ) (level : ℕ) (row : List Part) (out : List ℕ) → out ≡ head_of Wide level (length row) ++ drop 8 was → SoFar was level row 0 0 8 out
so_far_first was level row out e = record {
  place = refl;
  sum = refl;
  bytes = e ∙ ap (λ (t : List ℕ). t ++ drop 8 was) (sym (append-nil (head_of Wide level (length row))));
}

pub so_far_more : (was : List ℕ) (level : ℕ) (row : List Part) (i count at : ℕ) (out next : List ℕ) → i < length row
    → next ≡ written out at (pair_bytes Wide (record { count = count + (get_or row i no_part).size; page = (get_or row i no_part).page }))
    → SoFar was level row i count at out → SoFar was level row (i + 1) (count + (get_or row i no_part).size) (at + 12) next
so_far_more was level row i count at out next lt e h =
    let part : Part = get_or row i no_part in
    let pair : Pair = record { count = count + (get_or row i no_part).size; page = (get_or row i no_part).page } in
    let more : take (i + 1) row ≡ take i row ++ (get_or row i no_part ∷ []) = take_more row i no_part lt in
    let taken : length (take i row) ≡ i = length-take-le i row (omega arith) in
    let len : length (front_at level row i) ≡ at = omega (arith, h.place, taken, length-front level row i) in
    let step : at + length (pair_bytes Wide pair) ≡ 8 + 12 * (i + 1) = omega (arith, h.place, length-pair_bytes Wide pair) in
    let pairs : pairs_of 0 (take (i + 1) row) ≡ pairs_of 0 (take i row) ++ (pair ∷ []) =
    ap (pairs_of 0) more ∙ pairs-snoc 0 (take i row) (get_or row i no_part) (count + (get_or row i no_part).size) (omega (arith, h.sum)) in
    let all : flat_map (pair_bytes Wide) (pairs_of 0 (take (i + 1) row)) ≡ flat_map (pair_bytes Wide) (pairs_of 0 (take i row)) ++ pair_bytes Wide pair =
    ap (flat_map (pair_bytes Wide)) pairs ∙ flat_map-append (pair_bytes Wide) (pairs_of 0 (take i row)) (pair ∷ []) ∙ ap (λ (t : List ℕ). flat_map (pair_bytes Wide) (pairs_of 0 (take i row)) ++ t) (append-nil (pair_bytes Wide pair)) in
    let front : front_at level row i ++ pair_bytes Wide pair ≡ front_at level row (i + 1) =
    append_assoc (head_of Wide level (length row)) (flat_map (pair_bytes Wide) (pairs_of 0 (take i row))) (pair_bytes Wide pair) ∙ ap (λ (t : List ℕ). head_of Wide level (length row) ++ t) (sym all) in
    let rest : drop (8 + 12 * i) was ≡ drop at was = ap (λ (k : ℕ). drop k was) (sym h.place) in
    record {
      place = omega (arith, h.place);
      sum = omega (arith, h.sum, row_size-snoc (take i row) (get_or row i no_part), ap row_size more);
      bytes = e ∙ ap (λ (t : List ℕ). written t at (pair_bytes Wide pair)) (h.bytes ∙ ap (λ (t : List ℕ). front_at level row i ++ t) rest)
          ∙ written_next (front_at level row i) (pair_bytes Wide pair) was at (8 + 12 * (i + 1)) len step ∙ ap (λ (t : List ℕ). t ++ drop (8 + 12 * (i + 1)) was) front;
    }

-- the count so far fits
pub sum_fits : (was : List ℕ) (level : ℕ) (row : List Part) (i count at : ℕ) (out : List ℕ) → i < length row → SoFar was level row i count at out → count + (get_or row i no_part).size ≤ row_size row
sum_fits was level row i count at out lt h =
    omega (arith, h.sum, row_size-snoc (take i row) (get_or row i no_part), ap row_size (take_more row i no_part lt), size_of_take row (i + 1))

-- ---- all pairs, and zeros behind them

pub so_far_all : (was : List ℕ) (level : ℕ) (row : List Part) (i count at : ℕ) (out now : List ℕ) → i ≡ length row → 8 + 12 * length row ≤ length was → now ≡ take at out ++ zeros (length out - at)
    → SoFar was level row i count at out → now ≡ node_page (length was) level (pairs_of 0 row)
unfolding node_of
so_far_all was level row i count at out now all room e h =
    let taken : length (take i row) ≡ i = length-take-le i row (omega (arith, all)) in
    let len : length (front_at level row i) ≡ at = omega (arith, h.place, taken, length-front level row i) in
    let kept : take at out ≡ front_at level row i = ap (take at) h.bytes ∙ take_at (front_at level row i) (drop (8 + 12 * i) was) at len in
    let whole : take i row ≡ row = ap (λ (k : ℕ). take k row) all ∙ take-length row in
    let front : front_at level row i ≡ head_of Wide level (length (pairs_of 0 row)) ++ flat_map (pair_bytes Wide) (pairs_of 0 row) =
    ap (λ (t : List Part). head_of Wide level (length row) ++ flat_map (pair_bytes Wide) (pairs_of 0 t)) whole
    ∙ ap (λ (k : ℕ). head_of Wide level k ++ flat_map (pair_bytes Wide) (pairs_of 0 row)) (sym (length-pairs_of 0 row)) in
    let left : length out - at ≡ length was - length (head_of Wide level (length (pairs_of 0 row)) ++ flat_map (pair_bytes Wide) (pairs_of 0 row)) =
    omega (arith, h.place, all, room, len, ap length h.bytes, ap length front, length-append (front_at level row i) (drop (8 + 12 * i) was), length-drop (8 + 12 * i) was) in
    e ∙ ap (λ (t : List ℕ). t ++ zeros (length out - at)) (kept ∙ front)
    ∙ ap (λ (k : ℕ). (head_of Wide level (length (pairs_of 0 row)) ++ flat_map (pair_bytes Wide) (pairs_of 0 row)) ++ zeros k) left
