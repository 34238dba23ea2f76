-- Maps in order of insertion, as lists of leaves and nodes.
use Rattle.std.proofs.Common.{◌≡◌, ℕ, zero, suc, max, Bool, true, false, eqb, List, [], ◌∷◌, ◌++◌, length, map, take, position, Some, None, refl, sym, ap, ◌∙◌, arith, inl, inr, nat_eq, nat_lt, ltb, ◌+◌, true≢false}
use Rattle.std.specs.Prelude.{slice_get, if◌then◌else◌, ◌==◌, ◌||◌, unwrap_or}
use Rattle.std.specs.List.{list_any, position_or_len}
use Rattle.std.specs.Map.{keys_of, lookup}
use Rattle.std.specs.Option.{option_map}
use Rattle.std.proofs.lemmas.Bool.{eqb-true, eq-eqb, ltb-true, ltb-false, lt-ltb, le-ltb}
use Rattle.std.proofs.lemmas.List.Recursion.{is_position_or_len}
use Rattle.std.proofs.lemmas.Option.{none-some, same_Some}
use Rattle.ex_base.specs.Ports.{times}
use Rattle.indexmap.specs.IndexMap.{insert_entry}
use Rattle.indexmap.specs.IndexSet.{insert_key}
use Rattle.object_files.specs.Catalog.{FileEntry, number_of}
use Rattle.version_lists.proofs.Lists.{Has}
use Rattle.history_volumes.specs.Transcribed.{number_in}
use Rattle.history_volumes.specs.Walks.{added, raised, unit_named}
use Rattle.history_volumes.proofs.Firsts.{added_none, times_has}

-- ---- leaves

pub keys_units : (entries : List (ℕ × ℕ)) → keys_of entries ≡ map unit_named entries
keys_units [] = refl
keys_units (e ∷ entries) = ap (λ (xs : List ℕ). e.0 ∷ xs) (keys_units entries)

pub inserted : (entries : List (ℕ × ℕ)) (unit n : ℕ) → insert_entry nat_eq entries unit (max (unwrap_or (lookup (nat_eq unit) entries) 0) n) ≡ raised entries unit n
inserted [] unit n = ap (λ (m : ℕ). (unit, m) ∷ []) (let e : max 0 n ≡ n = omega arith in e)
inserted (e ∷ entries) unit n = by (eqb unit e.0) refl (inserted entries unit n)
  where
    most : Bool → ℕ
    most b = max (unwrap_or (if b then Some e.1 else lookup (nat_eq unit) entries) 0) n

    by : (b : Bool) → eqb unit e.0 ≡ b → insert_entry nat_eq entries unit (max (unwrap_or (lookup (nat_eq unit) entries) 0) n) ≡ raised entries unit n
        → insert_entry nat_eq (e ∷ entries) unit (max (unwrap_or (lookup (nat_eq unit) (e ∷ entries)) 0) n) ≡ raised (e ∷ entries) unit n
    by true is rest = rw is refl
    by false is rest = rw is (ap (λ (xs : List (ℕ × ℕ)). e ∷ xs) rest)

-- ---- nodes

pub any_has : (ks : List ℕ) (k : ℕ) → list_any (nat_eq k) ks ≡ true → Has ks k
any_has [] k h = absurd (true≢false (sym h))
any_has (x ∷ ks) k h = by (eqb k x) refl h (any_has ks k)
  where
    by : (b : Bool) → eqb k x ≡ b → (b || list_any (nat_eq k) ks) ≡ true → (list_any (nat_eq k) ks ≡ true → Has ks k) → Has (x ∷ ks) k
    by true is e rest = inl (sym (eqb-true k x is))
    by false is e rest = inr (rest e)

pub has_any : (ks : List ℕ) (k : ℕ) → Has ks k → list_any (nat_eq k) ks ≡ true
has_any [] k h = absurd h
has_any (x ∷ ks) k (inl e) = ap (λ (b : Bool). b || list_any (nat_eq k) ks) (eq-eqb k x (sym e))
has_any (x ∷ ks) k (inr m) = by (eqb k x) (has_any ks k m)
  where
    by : (b : Bool) → list_any (nat_eq k) ks ≡ true → (b || list_any (nat_eq k) ks) ≡ true
    by true e = refl
    by false e = e

pub inserted_key : (ks : List ℕ) (k : ℕ) → insert_key nat_eq ks k ≡ added ks k
inserted_key ks k = by (list_any (nat_eq k) ks) refl
  where
    none : list_any (nat_eq k) ks ≡ false → (n : ℕ) → times k ks ≡ n → (times k ks == 0) ≡ true
    none is zero e = eq-eqb (times k ks) 0 e
    none is (suc n) e = absurd (true≢false (sym (has_any ks k (times_has k ks (omega (arith, e)))) ∙ is))

    by : (b : Bool) → list_any (nat_eq k) ks ≡ b → (if b then ks else ks ++ k ∷ []) ≡ added ks k
    by true is = sym (added_none ks k (any_has ks k is))
    by false is = sym (ap (λ (b : Bool). if b then ks ++ k ∷ [] else ks) (none is (times k ks) refl))

-- ---- numbers

abbrev index_or : List ℕ → ℕ → ℕ
index_or [] page = 0
index_or (p ∷ pages) page = if page == p then 0 else suc (index_or pages page)

index_is : (pages : List ℕ) (page : ℕ) → index_or pages page ≡ position_or_len (nat_eq page) pages
index_is pages page = is_position_or_len (λ ps. index_or ps page) (nat_eq page) refl (λ p ps. by p ps (eqb page p)) pages
  where
    by : (p : ℕ) (ps : List ℕ) (b : Bool) → (if b then 0 else suc (index_or ps page)) ≡ (if b then 0 else 1 + index_or ps page)
    by p ps true = refl
    by p ps false = omega arith

number_is : (pages : List ℕ) (page : ℕ) → number_in pages page ≡ option_map suc (if nat_lt (index_or pages page) (length pages) then Some (index_or pages page) else None)
number_is [] page = refl
number_is (p ∷ pages) page = by (eqb page p) refl (number_is pages page)
  where
    later : (i n : ℕ) (b : Bool) → ltb i n ≡ b → option_map suc (option_map suc (if b then Some i else None)) ≡ option_map suc (if nat_lt (suc i) (suc n) then Some (suc i) else None)
    later i n true is = ap (λ (b : Bool). option_map suc (if b then Some (suc i) else None)) (sym (lt-ltb (suc i) (suc n) (let l = ltb-true i n is in omega (arith, l))))
    later i n false is = ap (λ (b : Bool). option_map suc (if b then Some (suc i) else None)) (sym (le-ltb (suc i) (suc n) (let l = ltb-false i n is in omega (arith, l))))

    by : (b : Bool) → eqb page p ≡ b → number_in pages page ≡ option_map suc (if nat_lt (index_or pages page) (length pages) then Some (index_or pages page) else None)
        → number_in (p ∷ pages) page ≡ option_map suc (if nat_lt (index_or (p ∷ pages) page) (suc (length pages)) then Some (index_or (p ∷ pages) page) else None)
    by true is rest = rw is (ap (λ (b : Bool). option_map suc (if b then Some 0 else None)) (sym (lt-ltb 0 (suc (length pages)) (omega arith))))
    by false is rest = rw is (ap (option_map suc) rest ∙ later (index_or pages page) (length pages) (nat_lt (index_or pages page) (length pages)) refl)

-- the place of a page in a list is its number
pub numbered_position : (pages : List ℕ) (page : ℕ) → option_map suc (position (nat_eq page) pages) ≡ number_in pages page
numbered_position pages page =
    ap (λ (i : ℕ). option_map suc (if nat_lt i (length pages) then Some i else None)) (sym (index_is pages page)) ∙ sym (number_is pages page)

-- ---- numbers of files

entry_more : (entries : List FileEntry) (i : ℕ) (e : FileEntry) → slice_get entries i ≡ Some e → map number_of (take (suc i) entries) ≡ map number_of (take i entries) ++ number_of e ∷ []
entry_more [] i e is = absurd (none-some e is)
entry_more (x ∷ entries) zero e is = ap (λ (y : FileEntry). number_of y ∷ []) (same_Some x e is)
entry_more (x ∷ entries) (suc i) e is = ap (λ (ns : List ℕ). number_of x ∷ ns) (entry_more entries i e is)

pub numbers_more : (entries : List FileEntry) (i : ℕ) (e : FileEntry) (numbers more : List ℕ) → slice_get entries i ≡ Some e → numbers ≡ map number_of (take i entries) → more ≡ numbers ++ number_of e ∷ [] → more ≡ map number_of (take (i + 1) entries)
numbers_more entries i e numbers more is so new =
    new ∙ ap (λ (ns : List ℕ). ns ++ number_of e ∷ []) so ∙ sym (entry_more entries i e is) ∙ ap (λ (n : ℕ). map number_of (take n entries)) (let k : suc i ≡ i + 1 = omega arith in k)
