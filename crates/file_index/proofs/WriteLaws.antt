-- An index page while it is written: the head, the entries so far, and zeros.
use Rattle.std.proofs.Common.{◌≡◌, ℕ, zero, suc, ◌+◌, ◌-◌, ◌*◌, ◌<◌, ◌≤◌, List, [], ◌∷◌, ◌++◌, length, get_or, take, refl, sym, ap, subst, ◌∙◌, arith, append_assoc}
use Rattle.std.specs.Prelude.{replicate, slice_set}
use Rattle.std.specs.List.{flat_map, AllByRecursion}
use Rattle.std.proofs.lemmas.List.{append-nil, take_more, length-append, length-take}
use Rattle.std.proofs.lemmas.List.Concat.{flat_map-append}
use Rattle.std.proofs.Math.Seq.{take-length}
use Rattle.ex_base.specs.Fields.{two_bytes, four_bytes, zeros}
use Rattle.ex_base.specs.Bytes.{written}
use Rattle.ex_base.proofs.FieldLaws.{two_is, four_is}
use Rattle.ex_base.proofs.Writing.{written_on_zeros}
use Rattle.ex_base.proofs.Lists.{zeros_split}
use Rattle.file_index.specs.declared.Entry.{Entry}
use Rattle.file_index.specs.IndexPage.{entry_bytes, head_bytes, index_page}
use Rattle.file_index.proofs.EntryLaws.{length-entries, length-entry_bytes}

head_first : (n level entries : ℕ) → 4 ≤ n → written (slice_set (slice_set (replicate n 0) 0 4) 1 level) 2 (two_bytes entries) ≡ 4 ∷ level ∷ (two_bytes entries ++ zeros (n - 4))
head_first zero level entries le = absurd (omega arith)
head_first (suc zero) level entries le = absurd (omega arith)
head_first (suc (suc m)) level entries le =
    let left : m - length (two_bytes entries) ≡ suc (suc m) - 4 = omega (arith, two_is.len entries) in
    written_on_zeros (4 ∷ level ∷ []) (two_bytes entries) 2 m refl ∙ ap (λ (k : ℕ). 4 ∷ level ∷ (two_bytes entries ++ zeros k)) left

regroup : (level : ℕ) (a b c d e : List ℕ) → ((4 ∷ level ∷ (a ++ b)) ++ c) ++ (d ++ e) ≡ (4 ∷ level ∷ (a ++ (b ++ (c ++ d)))) ++ e
regroup level a b c d e = simp append_assoc

pub head_written : (n level file_no entries : ℕ) → 16 ≤ n → written (written (slice_set (slice_set (replicate n 0) 0 4) 1 level) 2 (two_bytes entries)) 8 (four_bytes file_no) ≡ head_bytes level file_no entries ++ zeros (n - 16)
head_written n level file_no entries le =
    let first : zeros (n - 4) ≡ zeros 4 ++ zeros (n - 8) = ap zeros (let e : n - 4 ≡ 4 + (n - 8) = omega arith in e) ∙ zeros_split 4 (n - 8) in
    let front : 4 ∷ level ∷ (two_bytes entries ++ zeros (n - 4)) ≡ (4 ∷ level ∷ (two_bytes entries ++ zeros 4)) ++ zeros (n - 8) =
    ap (λ (t : List ℕ). 4 ∷ level ∷ (two_bytes entries ++ t)) first ∙ ap (λ (t : List ℕ). 4 ∷ level ∷ t) (sym (append_assoc (two_bytes entries) (zeros 4) (zeros (n - 8)))) in
    let len : 8 ≡ length (4 ∷ level ∷ (two_bytes entries ++ zeros 4)) = omega (arith, length-append (two_bytes entries) (zeros 4), two_is.len entries) in
    let left : (n - 8) - length (four_bytes file_no) ≡ 4 + (n - 16) = omega (arith, four_is.len file_no) in
    let second : zeros ((n - 8) - length (four_bytes file_no)) ≡ zeros 4 ++ zeros (n - 16) = ap zeros left ∙ zeros_split 4 (n - 16) in
    ap (λ (t : List ℕ). written t 8 (four_bytes file_no)) (head_first n level entries (omega arith) ∙ front)
    ∙ written_on_zeros (4 ∷ level ∷ (two_bytes entries ++ zeros 4)) (four_bytes file_no) 8 (n - 8) len
    ∙ ap (λ (t : List ℕ). ((4 ∷ level ∷ (two_bytes entries ++ zeros 4)) ++ four_bytes file_no) ++ t) second
    ∙ regroup level (two_bytes entries) (zeros 4) (four_bytes file_no) (zeros 4) (zeros (n - 16))

pub length-head : (level file_no n : ℕ) → length (head_bytes level file_no n) ≡ 16
length-head level file_no n = omega (arith, length-append (two_bytes n) (zeros 4 ++ (four_bytes file_no ++ zeros 4)), length-append (zeros 4) (four_bytes file_no ++ zeros 4), length-append (four_bytes file_no) (zeros 4), two_is.len n, four_is.len file_no)

-- the head and the first i entries stand on the page, and zeros behind them
pub record SoFar (size : ℕ) (head : List ℕ) (entries : List Entry) (i at : ℕ) (out : List ℕ) : Type 0 where
  pub long : length head ≡ 16
  pub place : at ≡ 16 + 8 * i
  pub bytes : out ≡ head ++ flat_map entry_bytes (take i entries) ++ zeros (size - (16 + 8 * i))

pub so_far_first : (size : ℕ) (head : List ℕ) (entries : List Entry) (out : List ℕ) → length head ≡ 16 → out ≡ head ++ zeros (size - 16) → SoFar size head entries 0 16 out
so_far_first size head entries out long e = record {
  long = long;
  place = omega arith;
  bytes = e ∙ ap (λ (t : List ℕ). t ++ zeros (size - 16)) (sym (append-nil head));
}

pub so_far_more : (size : ℕ) (head : List ℕ) (entries : List Entry) (i at : ℕ) (out : List ℕ) (entry none : Entry) (next : List ℕ) → i < length entries → entry ≡ get_or entries i none → next ≡ written out at (entry_bytes entry) → SoFar size head entries i at out → SoFar size head entries (i + 1) (at + 8) next
so_far_more size head entries i at out entry none next lt item e h =
    let taken : length (take i entries) ≡ i = omega (arith, length-take i entries) in
    let len : at ≡ length (head ++ flat_map entry_bytes (take i entries)) = omega (arith, h.place, h.long, length-append head (flat_map entry_bytes (take i entries)), length-entries (take i entries)) in
    let over : next ≡ head ++ flat_map entry_bytes (take i entries) ++ entry_bytes entry ++ zeros ((size - (16 + 8 * i)) - length (entry_bytes entry)) =
    e ∙ ap (λ (t : List ℕ). written t at (entry_bytes entry)) h.bytes ∙ written_on_zeros (head ++ flat_map entry_bytes (take i entries)) (entry_bytes entry) at (size - (16 + 8 * i)) len in
    let left : (size - (16 + 8 * i)) - length (entry_bytes entry) ≡ size - (16 + 8 * (i + 1)) = omega (arith, length-entry_bytes entry) in
    let more : take (i + 1) entries ≡ take i entries ++ entry ∷ [] = take_more entries i none lt ∙ ap (λ (p : Entry). take i entries ++ p ∷ []) (sym item) in
    let all : flat_map entry_bytes (take (i + 1) entries) ≡ flat_map entry_bytes (take i entries) ++ entry_bytes entry =
    ap (flat_map entry_bytes) more ∙ flat_map-append entry_bytes (take i entries) (entry ∷ []) ∙ ap (λ (t : List ℕ). flat_map entry_bytes (take i entries) ++ t) (append-nil (entry_bytes entry)) in
    record {
      long = h.long;
      place = omega (arith, h.place);
      bytes = over ∙ ap (λ (k : ℕ). head ++ flat_map entry_bytes (take i entries) ++ entry_bytes entry ++ zeros k) left
          ∙ ap (λ (t : List ℕ). t ++ zeros (size - (16 + 8 * (i + 1)))) (append_assoc head (flat_map entry_bytes (take i entries)) (entry_bytes entry) ∙ ap (λ (t : List ℕ). head ++ t) (sym all));
    }

pub so_far_all : (size level file_no : ℕ) (entries : List Entry) (i at : ℕ) (out : List ℕ) → i ≡ length entries → SoFar size (head_bytes level file_no (length entries)) entries i at out → out ≡ index_page size level file_no entries
unfolding index_page
so_far_all size level file_no entries i at out all h =
    let head : List ℕ = head_bytes level file_no (length entries) in
    let whole : take i entries ≡ entries = ap (λ (k : ℕ). take k entries) all ∙ take-length entries in
    let len : 16 + 8 * i ≡ length (head_bytes level file_no (length entries) ++ flat_map entry_bytes entries) = omega (arith, all, length-append (head_bytes level file_no (length entries)) (flat_map entry_bytes entries), length-head level file_no (length entries), length-entries entries) in
    h.bytes ∙ ap (λ (t : List Entry). head_bytes level file_no (length entries) ++ flat_map entry_bytes t ++ zeros (size - (16 + 8 * i))) whole ∙ ap (λ (k : ℕ). head_bytes level file_no (length entries) ++ flat_map entry_bytes entries ++ zeros (size - k)) len

-- what is true of the first i items and of the next one
pub all_more : {A : Type 0} (P : A → Type 0) (xs : List A) (i : ℕ) (none : A) → i < length xs → P (get_or xs i none) → AllByRecursion P (take i xs) → AllByRecursion P (take (i + 1) xs)
all_more P [] i none lt p all = absurd (omega arith)
all_more P (x ∷ xs) zero none lt p all = (p, tt)
all_more P (x ∷ xs) (suc i) none lt p all =
    let count : suc i + 1 ≡ suc (i + 1) = omega arith in
    subst (λ (k : ℕ). AllByRecursion P (take k (x ∷ xs))) (sym count) (all.0, all_more P xs i none (omega arith) p all.1)

pub all_whole : {A : Type 0} (P : A → Type 0) (xs : List A) (i : ℕ) → i ≡ length xs → AllByRecursion P (take i xs) → AllByRecursion P xs
all_whole P xs i is all = subst (AllByRecursion P) (ap (λ (k : ℕ). take k xs) is ∙ take-length xs) all
