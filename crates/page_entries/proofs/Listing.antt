-- Files that are listed as their entries have them.
use Rattle.std.proofs.Common.{◌≡◌, ◌≢◌, ◌↔◌, ℕ, zero, suc, ◌+◌, ◌-◌, ◌<◌, inl, inr, Bool, true, false, List, [], ◌∷◌, ◌++◌, length, take, drop, filter, get_or, Some, refl, sym, ap, subst, ◌∙◌, arith, append_assoc, eqb-true, slice_get}
use Rattle.std.specs.Prelude.{Contains, ◌==◌, if◌then◌else◌, IsTrue}
use Rattle.std.specs.List.{flat_map}
use Rattle.std.specs.Ordering.{nat_cmp}
use Rattle.std.specs.Cmp.Lexicographic.{slice_cmp}
use Rattle.std.specs.declared.cmp.Ordering.TheVariants.{Less}
use Rattle.std.proofs.lemmas.Bool.{cases_lt}
use Rattle.std.proofs.lemmas.Option.{slice_get_within, slice_get-get_or, get_or_from_slice_get}
use Rattle.std.proofs.lemmas.List.{take_more, append-nil}
use Rattle.std.proofs.lemmas.List.Elements.{filter-append}
use Rattle.ex_base.proofs.Booleans.{same_number}
use Rattle.ex_base.proofs.Lists.{drop_item}
use Rattle.ex_base.proofs.Members.{contains_later, contains_cases, contains_none}
use Rattle.object_files.specs.Catalog.{FileEntry, entry_bytes}
use Rattle.object_files.specs.Edits.{entry_inserted}
use Rattle.object_files.proofs.EntryLists.{inserted_at}
use Rattle.page_entries.specs.declared.file_changes.Listed.{Listed}
use Rattle.page_entries.specs.FilesAfter.{IsListed, Lists, IsPlace, has_no}

-- ---- numbers in a list

no_here : (x n : ℕ) (xs : List ℕ) → x ≡ n → has_no (x ∷ xs) n ≡ true
no_here x n xs is = ap (λ (b : Bool). if b then true else has_no xs n) (same_number x n is)

pub contains_has : (xs : List ℕ) (n : ℕ) → Contains xs n → has_no xs n ≡ true
contains_has [] n h = absurd (contains_none n h)
contains_has (x ∷ xs) n h = elim (contains_cases x n xs h) [
  | inl is ↦ no_here x n xs is
  | inr later ↦ over (x == n) (contains_has xs n later)
]
  where
    over : (b : Bool) → has_no xs n ≡ true → (if b then true else has_no xs n) ≡ true
    over true h = refl
    over false h = h

pub has_contains : (xs : List ℕ) (n : ℕ) → has_no xs n ≡ true → Contains xs n
has_contains [] n h = absurd cc
has_contains (x ∷ xs) n h = by_test (λ later. has_contains xs n later) (x == n) refl
  where
    by_test : (has_no xs n ≡ true → Contains xs n) → (b : Bool) → (x == n) ≡ b → Contains (x ∷ xs) n
    by_test go true is = (zero, omega arith, eqb-true x n is)
    by_test go false is = contains_later x n xs (go (sym (ap (λ (b : Bool). if b then true else has_no xs n) is) ∙ h))

pub is_has : (b : Bool) (xs : List ℕ) (n : ℕ) → (IsTrue b ↔ Contains xs n) → b ≡ has_no xs n
is_has true xs n h = sym (contains_has xs n (h.0 refl))
is_has false xs n h = by_test (has_no xs n) refl
  where
    by_test : (t : Bool) → has_no xs n ≡ t → false ≡ has_no xs n
    by_test true is = absurd (let yes : false ≡ true = h.1 (has_contains xs n is) in cc)
    by_test false is = sym is

-- ---- files side by side with their entries

pub zip_len : (a : List Listed) (x : List FileEntry) → Lists a x → length a ≡ length x
zip_len [] [] h = refl
zip_len [] (e ∷ x) h = absurd h
zip_len (f ∷ a) [] h = absurd h
zip_len (f ∷ a) (e ∷ x) h = ap suc (zip_len a x h.1)

pub zip_get : (a : List Listed) (x : List FileEntry) (i : ℕ) (d : Listed) (e : FileEntry) → Lists a x → slice_get x i ≡ Some e → IsListed (get_or a i d) e
zip_get [] [] i d e h is = absurd cc
zip_get [] (g ∷ x) i d e h is = absurd h
zip_get (f ∷ a) [] i d e h is = absurd h
zip_get (f ∷ a) (g ∷ x) zero d e h is = subst (IsListed f) (let same : g ≡ e = cc in same) h.0
zip_get (f ∷ a) (g ∷ x) (suc i) d e h is = zip_get a x i d e h.1 is

pub zip_append : (a b : List Listed) (x y : List FileEntry) → Lists a x → Lists b y → Lists (a ++ b) (x ++ y)
zip_append [] b [] y h k = k
zip_append [] b (e ∷ x) y h k = absurd h
zip_append (f ∷ a) b [] y h k = absurd h
zip_append (f ∷ a) b (e ∷ x) y h k = (h.0, zip_append a b x y h.1 k)

pub zip_insert : (a : List Listed) (x : List FileEntry) (i : ℕ) (f : Listed) (e : FileEntry) → Lists a x → IsListed f e → Lists (take i a ++ (f ∷ drop i a)) (take i x ++ (e ∷ drop i x))
zip_insert a x zero f e h k = (k, h)
zip_insert [] [] (suc i) f e h k = (k, tt)
zip_insert [] (g ∷ x) (suc i) f e h k = absurd h
zip_insert (b ∷ a) [] (suc i) f e h k = absurd h
zip_insert (b ∷ a) (g ∷ x) (suc i) f e h k = (h.0, zip_insert a x i f e h.1 k)

-- a file that is put in its place
pub placed : (a : List Listed) (x : List FileEntry) (i : ℕ) (f : Listed) (e : FileEntry) → Lists a x → IsListed f e → IsPlace x e i → Lists (take i a ++ (f ∷ drop i a)) (entry_inserted e x)
placed a x i f e h k p =
    subst (Lists (take i a ++ (f ∷ drop i a))) (sym (inserted_at e x i e p.within
    (λ j lt. p.before j (get_or x j e) lt (slice_get-get_or x j e (omega (arith, p.within, lt))))
    (λ lt. p.behind (get_or x i e) (slice_get-get_or x i e lt))))
    (zip_insert a x i f e h k)

-- ---- the files that stay

pub kept_more : (p : FileEntry → Bool) (x : List FileEntry) (i : ℕ) (e : FileEntry) (a : List Listed) (f : Listed) → slice_get x i ≡ Some e → p e ≡ true → IsListed f e → Lists a (filter p (take i x)) → Lists (a ++ f ∷ []) (filter p (take (i + 1) x))
kept_more p x i e a f is passes k h =
    let lt = slice_get_within x i e is in
    let here : get_or x i e ≡ e = let s : Some (get_or x i e) ≡ Some e = sym (slice_get-get_or x i e lt) ∙ is in cc in
    let one : filter p (get_or x i e ∷ []) ≡ e ∷ [] = ap (λ (y : FileEntry). filter p (y ∷ [])) here ∙ ap (λ (b : Bool). if b then e ∷ [] else []) passes in
    subst (Lists (a ++ f ∷ [])) (sym (ap (filter p) (take_more x i e lt) ∙ filter-append p (take i x) (get_or x i e ∷ []) ∙ ap (λ (t : List FileEntry). filter p (take i x) ++ t) one))
    (zip_append a (f ∷ []) (filter p (take i x)) (e ∷ []) h (k, tt))

pub kept_less : (p : FileEntry → Bool) (x : List FileEntry) (i : ℕ) (e : FileEntry) (a : List Listed) → slice_get x i ≡ Some e → p e ≡ false → Lists a (filter p (take i x)) → Lists a (filter p (take (i + 1) x))
kept_less p x i e a is none h =
    let lt = slice_get_within x i e is in
    let here : get_or x i e ≡ e = let s : Some (get_or x i e) ≡ Some e = sym (slice_get-get_or x i e lt) ∙ is in cc in
    let one : filter p (get_or x i e ∷ []) ≡ [] = ap (λ (y : FileEntry). filter p (y ∷ [])) here ∙ ap (λ (b : Bool). if b then e ∷ [] else []) none in
    subst (Lists a) (sym (ap (filter p) (take_more x i e lt) ∙ filter-append p (take i x) (get_or x i e ∷ []) ∙ ap (λ (t : List FileEntry). filter p (take i x) ++ t) one ∙ append-nil (filter p (take i x)))) h

-- ---- the files that are put

pub put_step : (put : List FileEntry) (k : ℕ) (e : FileEntry) → k < length put → slice_get put (length put - 1 - k) ≡ Some e → drop (length put - (k + 1)) put ≡ e ∷ drop (length put - k) put
put_step put k e lt is =
    let here : slice_get put (length put - (k + 1)) ≡ Some e = ap (slice_get put) (let n : length put - (k + 1) ≡ length put - 1 - k = omega arith in n) ∙ is in
    drop_item put (length put - (k + 1)) e (slice_get_within put (length put - (k + 1)) e here) (sym (get_or_from_slice_get put (length put - (k + 1)) e e here))
    ∙ ap (λ (m : ℕ). e ∷ drop m put) (let n : length put - (k + 1) + 1 ≡ length put - k = omega arith in n)

-- ---- their bytes

pub bytes_more : (a : List Listed) (x : List FileEntry) (i : ℕ) (d : Listed) (b : List ℕ) → i < length a → Lists a x → b ≡ flat_map entry_bytes (take i x) → b ++ (get_or a i d).bytes.now ≡ flat_map entry_bytes (take (i + 1) x)
bytes_more [] x i d b lt h is = absurd (omega arith)
bytes_more (f ∷ a) [] i d b lt h is = absurd h
bytes_more (f ∷ a) (e ∷ x) zero d b lt h is = ap (λ (t : List ℕ). t ++ f.bytes.now) is ∙ h.0.bytes ∙ sym (append-nil (entry_bytes e))
bytes_more (f ∷ a) (e ∷ x) (suc i) d b lt h is =
    ap (λ (t : List ℕ). t ++ (get_or a i d).bytes.now) is ∙ append_assoc (entry_bytes e) (flat_map entry_bytes (take i x)) (get_or a i d).bytes.now
    ∙ ap (λ (t : List ℕ). entry_bytes e ++ t) (bytes_more a x i d (flat_map entry_bytes (take i x)) (omega arith) h.1 refl)
    ∙ ap (λ (n : ℕ). flat_map entry_bytes (take n (e ∷ x))) (let n : suc (i + 1) ≡ suc i + 1 = omega arith in n)

-- ---- the place of a file

pub place_here : (a : List Listed) (x : List FileEntry) (e : FileEntry) (i : ℕ) (d : Listed) (name : List ℕ) → i < length a → Lists a x → e.name ≡ name → ((k : ℕ) (f : FileEntry) → k < i → slice_get x k ≡ Some f → slice_cmp nat_cmp name f.name ≢ Less) → slice_cmp nat_cmp name (get_or a i d).name.now ≡ Less → IsPlace x e i
place_here a x e i d name lt h is before here = record {
  within = omega (arith, zip_len a x h);
  before = λ k f low at less. before k f low at (ap (λ (n : List ℕ). slice_cmp nat_cmp n f.name) (sym is) ∙ less);
  behind = λ f at. ap (λ (n : List ℕ). slice_cmp nat_cmp n f.name) is ∙ ap (slice_cmp nat_cmp name) (sym (zip_get a x i d f h at).name) ∙ here;
}

pub place_end : (a : List Listed) (x : List FileEntry) (e : FileEntry) (name : List ℕ) → Lists a x → e.name ≡ name → ((k : ℕ) (f : FileEntry) → k < length a → slice_get x k ≡ Some f → slice_cmp nat_cmp name f.name ≢ Less) → IsPlace x e (length a)
place_end a x e name h is before = record {
  within = omega (arith, zip_len a x h);
  before = λ k f low at less. before k f low at (ap (λ (n : List ℕ). slice_cmp nat_cmp n f.name) (sym is) ∙ less);
  behind = λ f at. absurd (omega (arith, slice_get_within x (length a) f at, zip_len a x h));
}

pub before_more : (a : List Listed) (x : List FileEntry) (i : ℕ) (d : Listed) (name : List ℕ) → Lists a x → ((k : ℕ) (f : FileEntry) → k < i → slice_get x k ≡ Some f → slice_cmp nat_cmp name f.name ≢ Less) → slice_cmp nat_cmp name (get_or a i d).name.now ≢ Less → (k : ℕ) (f : FileEntry) → k < i + 1 → slice_get x k ≡ Some f → slice_cmp nat_cmp name f.name ≢ Less
before_more a x i d name h before here k f lt at less = elim (cases_lt k i) [
  | inl low ↦ before k f low at less
  | inr high ↦ let same : k ≡ i = omega arith in here (ap (slice_cmp nat_cmp name) (zip_get a x i d f h (ap (slice_get x) (sym same) ∙ at)).name ∙ less)
]

pub first_file : (x : List FileEntry) (i : ℕ) → i < length x → (e : FileEntry) × (slice_get x i ≡ Some e)
first_file [] i lt = absurd (omega arith)
first_file (e ∷ x) zero lt = (e, refl)
first_file (e ∷ x) (suc i) lt = first_file x i (omega arith)
