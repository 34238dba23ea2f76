-- Where a share begins, and how long it is.
use Rattle.std.proofs.Common.{◌≡◌, ◌≤◌, ◌<◌, ◌+◌, ◌-◌, ◌*◌, ◌/◌, ◌%◌, ℕ, zero, suc, List, [], ◌∷◌, ◌++◌, length, get_or, take, drop, refl, sym, ap, ◌∙◌, arith, inl, inr}
use Rattle.std.specs.Prelude.{replicate, slice_index, slice_index_or}
use Rattle.std.proofs.lemmas.Bool.{cases_lt}
use Rattle.std.proofs.lemmas.List.{drop-drop, length-replicate, take-append-le, take-replicate}
use Rattle.std.proofs.lemmas.Nat.{le-div}
use Rattle.std.proofs.Math.Nat.{mul_comm, mul-le-mul_left, mul-le-mul_right}
use Rattle.std.proofs.Math.Seq.{take-append-add}
use Rattle.ex_base.specs.Even.{cut_by, evenly, least_parts, sum_of}
use Rattle.ex_base.proofs.Rows.{sum_of-append}
use Rattle.ex_base.proofs.Each.{each_at}
use Rattle.ex_base.proofs.Spread.{Between, evenly_row, least_parts_is, length-evenly, plain, row_of_copies}
use Rattle.file_index.specs.declared.Entry.{Entry}
use Rattle.file_index.specs.IndexPage.{most_entries}
use Rattle.file_index.specs.Nodes.{first_key}
use Rattle.even_indexes.specs.Levels.{before, pages_over, share_at}
use Rattle.even_indexes.proofs.Sizes.{many_entries}

-- ---- how many stand before a part

sum_copies : (n x : ℕ) → sum_of plain (replicate n x) ≡ n * x
sum_copies n x = (row_of_copies 0 x n x (λ some. (omega arith, omega arith))).sum

pub before_first : (parts total index : ℕ) → index ≤ total % parts → before parts total index ≡ index * (total / parts + 1)
unfolding evenly
before_first parts total index low =
    let front : List ℕ = replicate (total % parts) (total / parts + 1) in
    let back : List ℕ = replicate (parts - total % parts) (total / parts) in
    ap (sum_of plain) (take-append-le index (replicate (total % parts) (total / parts + 1)) (replicate (parts - total % parts) (total / parts)) (omega (arith, low, length-replicate (total % parts) (total / parts + 1)))
    ∙ take-replicate index (total % parts) (total / parts + 1) low) ∙ sum_copies index (total / parts + 1)

later_sum : (more each rest index : ℕ) → more ≤ index → rest ≡ index - more → more * (each + 1) + rest * each ≡ index * each + more
later_sum more each rest index low is =
    let whole : index ≡ more + rest = omega (arith, low, is) in
    let product : index * each ≡ (more + rest) * each = ap (λ (n : ℕ). n * each) whole in
    omega (arith, product)

pub before_later : (parts total index : ℕ) → total % parts ≤ index → index < parts → before parts total index ≡ index * (total / parts) + total % parts
unfolding evenly
before_later parts total index low high =
    let front : List ℕ = replicate (total % parts) (total / parts + 1) in
    let rest : ℕ = index - total % parts in
    let len : length (replicate (total % parts) (total / parts + 1)) ≡ total % parts = length-replicate (total % parts) (total / parts + 1) in
    let place : index ≡ length (replicate (total % parts) (total / parts + 1)) + (index - total % parts) = omega (arith, len, low) in
    let cut : take index (evenly parts total) ≡ replicate (total % parts) (total / parts + 1) ++ replicate (index - total % parts) (total / parts) =
    ap (λ (n : ℕ). take n (evenly parts total)) place
    ∙ take-append-add (replicate (total % parts) (total / parts + 1)) (replicate (parts - total % parts) (total / parts)) (index - total % parts)
    ∙ ap (λ (l : List ℕ). replicate (total % parts) (total / parts + 1) ++ l) (take-replicate (index - total % parts) (parts - total % parts) (total / parts) (omega (arith, low, high))) in
    ap (sum_of plain) cut ∙ sum_of-append plain (replicate (total % parts) (total / parts + 1)) (replicate (index - total % parts) (total / parts))
    ∙ (λ i. sum_copies (total % parts) (total / parts + 1) i + sum_copies (index - total % parts) (total / parts) i) ∙ later_sum (total % parts) (total / parts) (index - total % parts) index low refl

-- ---- each part ends within the total

pub first_fits : (parts total index : ℕ) → 0 < parts → index < total % parts → index * (total / parts + 1) + (total / parts + 1) ≤ total
first_fits parts total index some low =
    let whole : parts * (total / parts) + total % parts ≡ total = omega (arith, some) in
    let rest : total % parts < parts = omega (arith, some) in
    let next : (index + 1) * (total / parts + 1) ≤ (total % parts) * (total / parts + 1) = mul-le-mul_right (total / parts + 1) (omega (arith, low)) in
    let all : (total % parts) * (total / parts) ≤ parts * (total / parts) = mul-le-mul_right (total / parts) (omega (arith, rest)) in
    omega (arith, whole, next, all)

pub later_fits : (parts total index : ℕ) → index < parts → index * (total / parts) + total % parts + total / parts ≤ total
later_fits parts total index low =
    let whole : parts * (total / parts) + total % parts ≡ total = omega (arith, low) in
    let next : (index + 1) * (total / parts) ≤ parts * (total / parts) = mul-le-mul_right (total / parts) (omega (arith, low)) in
    omega (arith, whole, next)

-- ---- the piece at a place

pub cut_at : {A : Type 0} (lens : List ℕ) (xs : List A) (index : ℕ) → index < length lens → slice_index_or (cut_by lens xs) index [] ≡ take (get_or lens index 0) (drop (sum_of plain (take index lens)) xs)
cut_at [] xs index inside = absurd (omega (arith, inside))
cut_at (n ∷ ns) xs zero inside = refl
cut_at (n ∷ ns) xs (suc index) inside =
    cut_at ns (drop n xs) index (omega (arith, inside)) ∙ ap (take (get_or ns index 0)) (drop-drop (sum_of plain (take index ns)) n xs)

-- ---- the share of a page

-- no more parts than there are entries
pub few_parts : (most total : ℕ) → 0 < most → least_parts most total ≤ total
few_parts most total some = elim (cases_lt 0 (least_parts most total)) [
  | inr none ↦ omega (arith, none)
  | inl pos ↦
      let is : least_parts most total ≡ (least_parts most total - 1) + 1 = omega (arith, pos) in
      let least : ((least_parts most total - 1) + 1) * most < total + most = rw (← is) (least_parts_is most total some).least in
      let product : (least_parts most total - 1) * 1 ≤ (least_parts most total - 1) * most = mul-le-mul_left (least_parts most total - 1) some in
      omega (arith, least, product, is)
]

pub later_inside : (parts total index : ℕ) → index < parts → parts ≤ total → index * (total / parts) + total % parts < total
later_inside parts total index low few =
    let some : 1 ≤ total / parts = le-div 1 total parts (omega (arith, low)) (omega (arith, few)) in
    omega (arith, later_fits parts total index low, some)

pub share_sizes : (size total index : ℕ) → 512 ≤ size → index < pages_over size total → Between 1 (most_entries size) (get_or (evenly (pages_over size total) total) index 0)
share_sizes size total index large inside =
    let room = many_entries size large in
    let some : 0 < pages_over size total = omega (arith, inside) in
    let few = few_parts (most_entries size) total (omega (arith, room)) in
    let holds = (least_parts_is (most_entries size) total (omega (arith, room))).holds in
    let turned : total ≤ most_entries size * pages_over size total = omega (arith, holds, mul_comm (pages_over size total) (most_entries size)) in
    each_at (Between 1 (most_entries size)) (evenly (pages_over size total) total) index 0 (omega (arith, length-evenly (pages_over size total) total some, inside))
    (evenly_row (pages_over size total) total 1 (most_entries size) some (omega (arith, few)) turned).each

pub share_is : (size : ℕ) (below : List Entry) (index from len : ℕ) → index < pages_over size (length below) → from ≡ before (pages_over size (length below)) (length below) index
    → len ≡ slice_index (evenly (pages_over size (length below)) (length below)) index → take (from + len - from) (drop from below) ≡ share_at size below index
share_is size below index from len inside from_is len_is =
    let lens : List ℕ = evenly (pages_over size (length below)) (length below) in
    let count : from + len - from ≡ len = omega arith in
    let found = cut_at (evenly (pages_over size (length below)) (length below)) below index (omega (arith, length-evenly (pages_over size (length below)) (length below) (omega (arith, inside)), inside)) in
    ap (λ (n : ℕ). take n (drop from below)) (count ∙ len_is) ∙ ap (λ (n : ℕ). take (slice_index (evenly (pages_over size (length below)) (length below)) index) (drop n below)) from_is ∙ sym found

pub first_key_at : (len from : ℕ) (below : List Entry) (other : Entry) → 1 ≤ len → from < length below → (slice_index_or below from other).key ≡ first_key (take len (drop from below))
first_key_at zero from below other some inside = absurd (omega (arith, some))
first_key_at (suc len) from [] other some inside = absurd (omega (arith, inside))
first_key_at (suc len) zero (e ∷ below) other some inside = refl
first_key_at (suc len) (suc from) (e ∷ below) other some inside = first_key_at (suc len) from below other some (omega (arith, inside))
