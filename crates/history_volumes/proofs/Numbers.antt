-- Lists whose items are told by numbers from 1 on, and two lists side by side.
use Rattle.std.proofs.Common.{◌≡◌, ◌≤◌, ◌<◌, ◌+◌, inl, inr, ℕ, zero, suc, Bool, true, false, eqb, List, [], ◌∷◌, length, get_or, map, Option, Some, None, refl, sym, subst, ap, ◌∙◌, arith}
use Rattle.std.specs.Prelude.{slice_get, if◌then◌else◌, ◌==◌}
use Rattle.std.specs.Option.{option_map}
use Rattle.std.specs.List.{AllZip, zip}
use Rattle.std.proofs.lemmas.Bool.{cases_lt, eqb-true, eq-eqb}
use Rattle.std.proofs.lemmas.List.{get_or_past}
use Rattle.std.proofs.lemmas.Option.{none-some, same_Some, slice_get_cases, slice_get_within}
use Rattle.ex_base.specs.Ports.{times}
use Rattle.ex_base.proofs.Counts.{times_here}
use Rattle.version_lists.proofs.Lists.{Has}
use Rattle.history_model.specs.Dumps.{AreAsNamed, IsAsNamed}
use Rattle.history_model.specs.History.{History, numbered}
use Rattle.history_model.specs.Stream.{number_or_none}
use Rattle.history_volumes.specs.Transcribed.{at_of, number_in}
use Rattle.history_volumes.proofs.Firsts.{has_times}

-- ---- items and their numbers

pub get_has : {A : Type 0} (xs : List A) (i : ℕ) (x : A) → slice_get xs i ≡ Some x → Has xs x
get_has [] i x is = absurd (none-some x is)
get_has (y ∷ ys) zero x is = inl (same_Some y x is)
get_has (y ∷ ys) (suc i) x is = inr (get_has ys i x is)

pub numbered_has : {A : Type 0} (xs : List A) (number : ℕ) (x : A) → numbered xs number ≡ Some x → Has xs x
numbered_has xs zero x is = absurd (none-some x is)
numbered_has xs (suc i) x is = get_has xs i x is

pub numbered_from : {A : Type 0} (xs : List A) (number : ℕ) → 1 ≤ number → number ≤ length xs → (x : A) × (numbered xs number ≡ Some x)
numbered_from xs zero some le = absurd (omega arith)
numbered_from xs (suc i) some le = elim (slice_get_cases xs i).1 [
  | inl is ↦ (is.0, is.2)
  | inr past ↦ absurd (omega (arith, past.0, le))
]

pub numbered_within : {A : Type 0} (xs : List A) (number : ℕ) (x : A) → numbered xs number ≡ Some x → (1 ≤ number) × (number ≤ length xs)
numbered_within xs zero x is = absurd (none-some x is)
numbered_within xs (suc i) x is = let lt = slice_get_within xs i x is in (omega arith, omega (arith, lt))

-- ---- places

-- where a place isn't 0 the number is one of the list
pub at_within : (pages : List ℕ) (number : ℕ) → 1 ≤ at_of pages number → (1 ≤ number) × (number ≤ length pages)
at_within pages zero some = absurd (omega (arith, some))
at_within pages (suc i) some = elim (cases_lt i (length pages)) [
  | inl lt ↦ (omega arith, omega (arith, lt))
  | inr le ↦ let past = get_or_past pages i 0 le in absurd (omega (arith, past, some))
]

pub at_there : {A : Type 0} (pages : List ℕ) (xs : List A) (number : ℕ) → length xs ≡ length pages → 1 ≤ at_of pages number → (x : A) × (numbered xs number ≡ Some x)
at_there pages xs number same some = let in_list = at_within pages number some in numbered_from xs number in_list.0 (omega (arith, in_list.1, same))

at_index : (pages : List ℕ) (i : ℕ) → i < length pages → Has pages (get_or pages i 0)
at_index [] i lt = absurd (omega (arith, lt))
at_index (p ∷ pages) zero lt = inl refl
at_index (p ∷ pages) (suc i) lt = inr (at_index pages i (omega (arith, lt)))

pub at_has : (pages : List ℕ) (number : ℕ) → 1 ≤ number → number ≤ length pages → Has pages (at_of pages number)
at_has pages zero some le = absurd (omega (arith, some))
at_has pages (suc i) some le = at_index pages i (omega (arith, le))

pub has_at : (pages : List ℕ) (page : ℕ) → Has pages page → (number : ℕ) × (1 ≤ number) × (number ≤ length pages) × (at_of pages number ≡ page)
has_at [] page h = absurd h
has_at (p ∷ pages) page (inl is) = (1, omega arith, omega arith, is)
has_at (p ∷ pages) page (inr m) = let rest = has_at pages page m in (suc rest.0, omega arith, omega (arith, rest.2), later rest.0 rest.1 ∙ rest.3)
  where
    later : (number : ℕ) → 1 ≤ number → at_of (p ∷ pages) (suc number) ≡ at_of pages number
    later zero some = absurd (omega (arith, some))
    later (suc i) some = refl

-- ---- the number of a page

-- one number more
number_later : (p : ℕ) (pages : List ℕ) (number : ℕ) → 1 ≤ number → at_of (p ∷ pages) (suc number) ≡ at_of pages number
number_later p pages zero some = absurd (omega (arith, some))
number_later p pages (suc i) some = refl

pub record IsNumberIn (pages : List ℕ) (page number : ℕ) : Type 0 where
  pub some : 1 ≤ number
  pub within : number ≤ length pages
  pub at : at_of pages number ≡ page

pub number_some : (pages : List ℕ) (page number : ℕ) → number_in pages page ≡ Some number → IsNumberIn pages page number
number_some [] page number is = absurd (none-some number is)
number_some (p ∷ pages) page number is = by (eqb page p) refl (number_in pages page) (number_some pages page) is
  where
    one : page ≡ p → 1 ≡ number → IsNumberIn (p ∷ pages) page number
    one same e = subst (IsNumberIn (p ∷ pages) page) e (record { some = omega arith; within = omega arith; at = sym same })

    by : (b : Bool) → eqb page p ≡ b → (o : Option ℕ) → ((n : ℕ) → o ≡ Some n → IsNumberIn pages page n) → (if b then Some 1 else option_map suc o) ≡ Some number → IsNumberIn (p ∷ pages) page number
    by true same o rest e = one (eqb-true page p same) (same_Some 1 number e)
    by false same None rest e = absurd (none-some number e)
    by false same (Some n) rest e =
        let r = rest n refl in
        subst (IsNumberIn (p ∷ pages) page) (same_Some (suc n) number e) (record { some = omega arith; within = omega (arith, r.within); at = number_later p pages n r.some ∙ r.at })

pub number_found : (pages : List ℕ) (page : ℕ) → Has pages page → (number : ℕ) × (number_in pages page ≡ Some number)
number_found [] page h = absurd h
number_found (p ∷ pages) page h = by (eqb page p) refl h (number_found pages page)
  where
    by : (b : Bool) → eqb page p ≡ b → Has (p ∷ pages) page → (Has pages page → (number : ℕ) × (number_in pages page ≡ Some number)) → (number : ℕ) × ((if b then Some 1 else option_map suc (number_in pages page)) ≡ Some number)
    by true same m rest = (1, refl)
    by false same (inl e) rest = absurd (let d : false ≡ true = sym same ∙ eq-eqb page p (sym e) in cc)
    by false same (inr m) rest = let r = rest m in (suc r.0, ap (option_map suc) r.1)

-- the number, or 0
abbrev pub number_or : List ℕ → ℕ → ℕ
number_or pages page = number_or_none (number_in pages page)

pub number_there : (pages : List ℕ) (page : ℕ) → Has pages page → IsNumberIn pages page (number_or pages page)
number_there pages page h =
    let r = number_found pages page h in
    subst (IsNumberIn pages page) (sym (ap number_or_none r.1)) (number_some pages page r.0 r.1)

same_index : (pages : List ℕ) → ((p : ℕ) → times p pages ≤ 1) → (i j : ℕ) → i < length pages → j < length pages → get_or pages i 0 ≡ get_or pages j 0 → i ≡ j
same_index [] once i j lt under same = absurd (omega (arith, lt))
same_index (p ∷ pages) once zero zero lt under same = refl
same_index (p ∷ pages) once zero (suc j) lt under same =
    let there = has_times (get_or pages j 0) pages (at_index pages j (omega (arith, under))) in
    let twice = subst (λ (q : ℕ). 1 ≤ times q pages) (sym same) there in
    absurd (omega (arith, twice, times_here p p pages refl, once p))
same_index (p ∷ pages) once (suc i) zero lt under same =
    let there = has_times (get_or pages i 0) pages (at_index pages i (omega (arith, lt))) in
    let twice = subst (λ (q : ℕ). 1 ≤ times q pages) same there in
    absurd (omega (arith, twice, times_here p p pages refl, once p))
same_index (p ∷ pages) once (suc i) (suc j) lt under same = ap suc (same_index pages (λ q. let l = once q in omega (arith, l)) i j (omega (arith, lt)) (omega (arith, under)) same)

pub at_one : (pages : List ℕ) → ((p : ℕ) → times p pages ≤ 1) → (i j : ℕ) → 1 ≤ at_of pages i → 1 ≤ at_of pages j → at_of pages i ≡ at_of pages j → i ≡ j
at_one pages once zero j some other same = absurd (omega (arith, some))
at_one pages once (suc i) zero some other same = absurd (omega (arith, other))
at_one pages once (suc i) (suc j) some other same =
    let one = at_within pages (suc i) some in
    let two = at_within pages (suc j) other in
    ap suc (same_index pages once i j (omega (arith, one.1)) (omega (arith, two.1)) same)

-- ---- a leaf is as long as its longest naming

as_at : (h : History) (leaves : List (List ℕ)) (first i : ℕ) (leaf : List ℕ) (number : ℕ) → number ≡ first + i → AreAsNamed h first leaves → slice_get leaves i ≡ Some leaf → IsAsNamed h number leaf
as_at h [] first i leaf number sum each is = absurd (none-some leaf is)
as_at h (x ∷ leaves) first zero leaf number sum each is =
    subst (λ (k : ℕ). IsAsNamed h k leaf) (let e : first ≡ number = omega arith in e) (subst (IsAsNamed h first) (same_Some x leaf is) each.0)
as_at h (x ∷ leaves) first (suc i) leaf number sum each is = as_at h leaves (suc first) i leaf number (omega arith) each.1 is

pub as_named : (h : History) (leaves : List (List ℕ)) (number : ℕ) (leaf : List ℕ) → AreAsNamed h 1 leaves → numbered leaves number ≡ Some leaf → IsAsNamed h number leaf
as_named h leaves zero leaf each is = absurd (none-some leaf is)
as_named h leaves (suc i) leaf each is = as_at h leaves 1 i leaf (suc i) (omega arith) each is

-- ---- two lists side by side

pub zip_found : {A B : Type 0} (R : A → B → Type 0) (xs : List A) (ys : List B) → AllZip R xs ys → (y : B) → Has ys y → (x : A) × Has xs x × R x y
zip_found R [] [] both y h = absurd h
zip_found R [] (z ∷ ys) both y h = absurd both
zip_found R (x ∷ xs) [] both y h = absurd both
zip_found R (x ∷ xs) (z ∷ ys) both y (inl e) = (x, inl refl, subst (R x) e both.0)
zip_found R (x ∷ xs) (z ∷ ys) both y (inr m) = let rest = zip_found R xs ys both.1 y m in (rest.0, inr rest.1, rest.2)

pub found_zip : {A B : Type 0} (R : A → B → Type 0) (xs : List A) (ys : List B) → AllZip R xs ys → (x : A) → Has xs x → (y : B) × Has ys y × R x y
found_zip R [] [] both x h = absurd h
found_zip R [] (z ∷ ys) both x h = absurd both
found_zip R (w ∷ xs) [] both x h = absurd both
found_zip R (w ∷ xs) (z ∷ ys) both x (inl e) = (z, inl refl, subst (λ (u : _). R u z) e both.0)
found_zip R (w ∷ xs) (z ∷ ys) both x (inr m) = let rest = found_zip R xs ys both.1 x m in (rest.0, inr rest.1, rest.2)

pub zip_turned : {A B C : Type 0} (R : A → B → Type 0) (S : A → C → Type 0) (f : B → C) (xs : List A) (ys : List B) → ((x : A) (y : B) → Has xs x → Has ys y → R x y → S x (f y)) → AllZip R xs ys → AllZip S xs (map f ys)
zip_turned R S f [] [] turn both = tt
zip_turned R S f [] (y ∷ ys) turn both = absurd both
zip_turned R S f (x ∷ xs) [] turn both = absurd both
zip_turned R S f (x ∷ xs) (y ∷ ys) turn both = (turn x y (inl refl) (inl refl) both.0, zip_turned R S f xs ys (λ u w k m. turn u w (inr k) (inr m)) both.1)

pub second_has : {A B : Type 0} (xs : List A) (ys : List B) (row : A × B) → Has (zip xs ys) row → Has ys row.1
second_has [] ys row h = absurd h
second_has (x ∷ xs) [] row h = absurd h
second_has {A} {B} (x ∷ xs) (y ∷ ys) row (inl e) = inl (ap (λ (r : A × B). r.1) e)
second_has (x ∷ xs) (y ∷ ys) row (inr m) = inr (second_has xs ys row m)

pub has_second : {A B : Type 0} (P : A → B → Type 0) (xs : List A) (ys : List B) → AllZip P xs ys → (y : B) → Has ys y → (x : A) × Has (zip xs ys) (x, y)
has_second P [] [] both y h = absurd h
has_second P [] (z ∷ ys) both y h = absurd both
has_second P (x ∷ xs) [] both y h = absurd both
has_second {A} P (x ∷ xs) (z ∷ ys) both y (inl e) = (x, inl (ap (λ (w : _). (x, w)) e))
has_second P (x ∷ xs) (z ∷ ys) both y (inr m) = let rest = has_second P xs ys both.1 y m in (rest.0, inr rest.1)
