-- The pages that records fill, one after the other.
use Rattle.std.proofs.Common.{◌≡◌, ◌≤◌, ◌<◌, ◌+◌, ◌-◌, ℕ, suc, Bool, List, ◌∷◌, length, map, drop, get_or, refl, ap, arith, add-one}
use Rattle.std.specs.Prelude.{if◌then◌else◌}
use Rattle.std.proofs.Math.Seq.{drop-cons}
use Rattle.std.proofs.lemmas.Bool.{le-leb, lt-leb}
use Rattle.std.proofs.lemmas.List.{drop_all}
use Rattle.record_lists.specs.declared.Listed.{Listed}
use Rattle.history_model.specs.FilePages.{pages_filled}
use Rattle.history_plans.specs.Plans.{len_listed}

-- With those that come the pages are all.
pub record FilledSoFar (page_size : ℕ) (records : List Listed) (i room pages : ℕ) : Type 0 where
  pub filled : pages + pages_filled page_size room (map len_listed (drop i records)) ≡ pages_filled page_size 0 (map len_listed records)
  pub few : pages ≤ i

pub filled_start : (page_size : ℕ) (records : List Listed) → FilledSoFar page_size records 0 0 0
filled_start page_size records = record { filled = omega arith; few = omega arith }

drop_at : (records : List Listed) (i : ℕ) (d : Listed) → i < length records → drop i records ≡ get_or records i d ∷ drop (i + 1) records
drop_at records i d lt = rw (add-one, drop-cons records i d) refl

fits : (page_size room n : ℕ) (ns : List ℕ) → n + 4 ≤ room → pages_filled page_size room (n ∷ ns) ≡ pages_filled page_size (room - (n + 4)) ns
fits page_size room n ns le = ap (λ (b : Bool). if b then pages_filled page_size (room - (n + 4)) ns else suc (pages_filled page_size (page_size - 16 - (n + 4)) ns)) (le-leb (n + 4) room le)

fits_not : (page_size room n : ℕ) (ns : List ℕ) → room < n + 4 → pages_filled page_size room (n ∷ ns) ≡ suc (pages_filled page_size (page_size - 16 - (n + 4)) ns)
fits_not page_size room n ns lt = ap (λ (b : Bool). if b then pages_filled page_size (room - (n + 4)) ns else suc (pages_filled page_size (page_size - 16 - (n + 4)) ns)) (lt-leb (n + 4) room lt)

pub filled_more : (page_size : ℕ) (records : List Listed) (i room pages left : ℕ) (d : Listed) → i < length records → FilledSoFar page_size records i room pages → (get_or records i d).len + 4 ≤ room → left ≡ room - ((get_or records i d).len + 4)
    → FilledSoFar page_size records (i + 1) left pages
filled_more page_size records i room pages left d lt so le is = record {
  filled =
      let split = ap (λ (xs : List Listed). pages_filled page_size room (map len_listed xs)) (drop_at records i d lt) in
      let step = fits page_size room (get_or records i d).len (map len_listed (drop (i + 1) records)) le in
      let same = ap (λ (r : ℕ). pages_filled page_size r (map len_listed (drop (i + 1) records))) is in
      omega (arith, so.filled, split, step, same);
  few = omega (arith, so.few);
}

pub filled_new : (page_size : ℕ) (records : List Listed) (i room pages left more : ℕ) (d : Listed) → i < length records → FilledSoFar page_size records i room pages → room < (get_or records i d).len + 4 → left ≡ page_size - 16 - ((get_or records i d).len + 4) → more ≡ pages + 1
    → FilledSoFar page_size records (i + 1) left more
filled_new page_size records i room pages left more d lt so over is one = record {
  filled =
      let split = ap (λ (xs : List Listed). pages_filled page_size room (map len_listed xs)) (drop_at records i d lt) in
      let step = fits_not page_size room (get_or records i d).len (map len_listed (drop (i + 1) records)) over in
      let same = ap (λ (r : ℕ). pages_filled page_size r (map len_listed (drop (i + 1) records))) is in
      omega (arith, so.filled, split, step, same, one);
  few = omega (arith, so.few, one);
}

pub filled_done : (page_size : ℕ) (records : List Listed) (i room pages : ℕ) → length records ≤ i → FilledSoFar page_size records i room pages → pages ≡ pages_filled page_size 0 (map len_listed records)
filled_done page_size records i room pages le so =
    let none = ap (λ (xs : List Listed). pages_filled page_size room (map len_listed xs)) (drop_all i records le) in
    omega (arith, so.filled, none)
