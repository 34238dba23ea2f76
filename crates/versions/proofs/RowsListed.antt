-- The rows of a file that are listed one after the other.
use Rattle.std.proofs.Common.{◌≡◌, ◌≤◌, ◌<◌, ◌+◌, ℕ, List, [], ◌∷◌, ◌++◌, Option, Some, None, refl, sym, ap, subst, ◌∙◌, arith, inl, inr}
use Rattle.std.specs.List.{AllByRecursion}
use Rattle.std.proofs.lemmas.Bool.{cases_lt}
use Rattle.std.proofs.lemmas.List.{append-nil, append_assoc}
use Rattle.ex_base.specs.declared.names.Oid.{Oid}
use Rattle.ex_base.specs.declared.names.Place.{Place}
use Rattle.object_records.specs.Reads.{record_on}
use Rattle.file_bodies.specs.Bodies.{Row, IsBefore, InPlaceOrder}
use Rattle.file_bodies.specs.Places.{IsFrom, IsFirstFrom}
use Rattle.versions.specs.Listed.{oids_in, oids_of, rank_of, start_rank}

-- the page and the slot from which the next place is looked for
abbrev pub key_of : Option Place → ℕ
key_of None = 0
key_of (Some place) = place.page.0

abbrev pub slot_of : Option Place → ℕ
slot_of None = 0
slot_of (Some place) = place.slot + 1

-- the slot's number has two bytes
abbrev pub IsShort : Option Place → Type 0
IsShort None = Unit {0}
IsShort (Some place) = place.slot < 65536

-- What is gathered of rows is gathered of each of them.
pub record Gathers {A : Type 0} (of : List Row → List A) : Type 0 where
  pub none : of [] ≡ []
  pub append : (xs ys : List Row) → of (xs ++ ys) ≡ of xs ++ of ys

-- The rows up to a place are listed: those before it, of which this was gathered, and those behind it.
pub record IsListed {A : Type 0} (of : List Row → List A) (rows : List Row) (key slot : ℕ) (items : List A) : Type 0 where
  pub front : List Row
  pub back : List Row
  pub is : rows ≡ front ++ back
  pub items_are : items ≡ of front
  pub before : AllByRecursion (λ (row : Row). ¬ IsFrom key slot row.0) front
  pub behind : AllByRecursion (λ (row : Row). IsFrom key slot row.0) back

pub from_start : (rows : List Row) → AllByRecursion (λ (row : Row). IsFrom 0 0 row.0) rows
from_start [] = tt
from_start (row ∷ rows) = (at row.0, from_start rows)
  where
    at : (place : Place) → IsFrom 0 0 place
    at place = elim (cases_lt 0 place.page.0) [
      | inl lt ↦ inl lt
      | inr le ↦ inr (omega arith, omega arith)
    ]

pub none_listed : {A : Type 0} (of : List Row → List A) → Gathers of → (rows : List Row) → IsListed of rows 0 0 []
none_listed of gathers rows = record { front = []; back = rows; is = refl; items_are = sym gathers.none; before = tt; behind = from_start rows }

-- ---- the next row

pub all_passed : (key slot : ℕ) (front back : List Row) → AllByRecursion (λ (row : Row). ¬ IsFrom key slot row.0) (front ++ back) → AllByRecursion (λ (row : Row). IsFrom key slot row.0) back → back ≡ []
all_passed key slot [] [] passed behind = refl
all_passed key slot [] (row ∷ back) passed behind = absurd (passed.0 behind.0)
all_passed key slot (x ∷ front) back passed behind = all_passed key slot front back passed.1 behind

pub all_listed : {A : Type 0} (of : List Row → List A) (rows : List Row) (key slot : ℕ) (items : List A) → IsListed of rows key slot items → AllByRecursion (λ (row : Row). ¬ IsFrom key slot row.0) rows → items ≡ of rows
all_listed of rows key slot items h passed =
    let none = all_passed key slot h.front h.back (subst (AllByRecursion (λ (row : Row). ¬ IsFrom key slot row.0)) h.is passed) h.behind in
    h.items_are ∙ ap of (sym (h.is ∙ ap (λ (t : List Row). h.front ++ t) none ∙ append-nil h.front))

pub record SameCut (front back front2 : List Row) (row : Row) (back2 : List Row) : Type 0 where
  pub fronts : front ≡ front2
  pub backs : back ≡ row ∷ back2

head_or : Row → List Row → Row
head_or other [] = other
head_or other (x ∷ xs) = x

rest_of : List Row → List Row
rest_of [] = []
rest_of (x ∷ xs) = xs

same_heads : (x y : Row) (xs ys : List Row) → x ∷ xs ≡ y ∷ ys → x ≡ y
unfolding head_or
same_heads x y xs ys e = ap (head_or x) e

same_rests : (x y : Row) (xs ys : List Row) → x ∷ xs ≡ y ∷ ys → xs ≡ ys
unfolding rest_of
same_rests x y xs ys e = ap rest_of e

pub same_cut : (key slot : ℕ) (front back front2 : List Row) (row : Row) (back2 : List Row) → front ++ back ≡ front2 ++ (row ∷ back2) → AllByRecursion (λ (row : Row). ¬ IsFrom key slot row.0) front → AllByRecursion (λ (row : Row). IsFrom key slot row.0) back
    → AllByRecursion (λ (row : Row). ¬ IsFrom key slot row.0) front2 → IsFrom key slot row.0 → SameCut front back front2 row back2
same_cut key slot [] back [] row back2 e before behind passed reached = record { fronts = refl; backs = e }
same_cut key slot [] [] (y ∷ front2) row back2 e before behind passed reached = absurd cc
same_cut key slot [] (x ∷ back) (y ∷ front2) row back2 e before behind passed reached = absurd (passed.0 (subst (λ (r : Row). IsFrom key slot r.0) (same_heads x y back (front2 ++ (row ∷ back2)) e) behind.0))
same_cut key slot (x ∷ front) back [] row back2 e before behind passed reached = absurd (before.0 (subst (λ (r : Row). IsFrom key slot r.0) (sym (same_heads x row (front ++ back) back2 e)) reached))
same_cut key slot (x ∷ front) back (y ∷ front2) row back2 e before behind passed reached =
    let rest = same_cut key slot front back front2 row back2 (same_rests x y (front ++ back) (front2 ++ (row ∷ back2)) e) before.1 behind passed.1 reached in
    record { fronts = ap (λ (r : Row). r ∷ front) (same_heads x y (front ++ back) (front2 ++ (row ∷ back2)) e) ∙ ap (λ (t : List Row). y ∷ t) rest.fronts; backs = rest.backs }

-- ---- rows in order

before_trans : (a b c : Place) → IsBefore a b → IsBefore b c → IsBefore a c
before_trans a b c x y = elim x [
  | inl l ↦ elim y [
    | inl m ↦ inl (omega (arith, l, m))
    | inr m ↦ inl (omega (arith, l, m.0))
  ]
  | inr l ↦ elim y [
    | inl m ↦ inl (omega (arith, l.0, m))
    | inr m ↦ inr (omega (arith, l.0, m.0), omega (arith, l.1, m.1))
  ]
]

pub tail_order : (x : Row) (xs : List Row) → InPlaceOrder (x ∷ xs) → InPlaceOrder xs
tail_order x [] o = tt
tail_order x (y ∷ xs) o = o.1

later_from : (p : Place) (x : Row) (xs : List Row) → IsBefore p x.0 → InPlaceOrder (x ∷ xs) → AllByRecursion (λ (row : Row). IsBefore p row.0) (x ∷ xs)
later_from p x [] b o = (b, tt)
later_from p x (y ∷ xs) b o = (b, later_from p y xs (before_trans p x.0 y.0 b o.0) o.1)

pub later : (x : Row) (xs : List Row) → InPlaceOrder (x ∷ xs) → AllByRecursion (λ (row : Row). IsBefore x.0 row.0) xs
later x [] o = tt
later x (y ∷ xs) o = later_from x.0 y xs o.0 o.1

pub at_mid : (p : Row → Type 0) (front : List Row) (row : Row) (back : List Row) → AllByRecursion p (front ++ (row ∷ back)) → p row
at_mid p [] row back all = all.0
at_mid p (x ∷ front) row back all = at_mid p front row back all.1

pub earlier : (front : List Row) (row : Row) (back : List Row) → InPlaceOrder (front ++ (row ∷ back)) → AllByRecursion (λ (r : Row). IsBefore r.0 row.0) front
earlier [] row back o = tt
earlier (x ∷ front) row back o = (at_mid (λ (r : Row). IsBefore x.0 r.0) front row back (later x (front ++ (row ∷ back)) o), earlier front row back (tail_order x (front ++ (row ∷ back)) o))

pub back_order : (front : List Row) (row : Row) (back : List Row) → InPlaceOrder (front ++ (row ∷ back)) → InPlaceOrder (row ∷ back)
back_order [] row back o = o
back_order (x ∷ front) row back o = back_order front row back (tail_order x (front ++ (row ∷ back)) o)

pub not_from : (a b : Place) → IsBefore a b → ¬ IsFrom b.page.0 (b.slot + 1) a
not_from a b x h = elim x [
  | inl l ↦ elim h [
    | inl m ↦ omega (arith, l, m)
    | inr m ↦ omega (arith, l, m.0)
  ]
  | inr l ↦ elim h [
    | inl m ↦ omega (arith, l.0, m)
    | inr m ↦ omega (arith, l.1, m.1)
  ]
]

pub is_from : (a b : Place) → IsBefore a b → IsFrom a.page.0 (a.slot + 1) b
is_from a b x = elim x [
  | inl l ↦ inl l
  | inr l ↦ inr (l.0, omega (arith, l.1))
]

pub not_itself : (a : Place) → ¬ IsFrom a.page.0 (a.slot + 1) a
not_itself a h = elim h [
  | inl m ↦ omega (arith, m)
  | inr m ↦ omega (arith, m.1)
]

pub each_map : (P Q : Row → Type 0) (xs : List Row) → ((x : Row) → P x → Q x) → AllByRecursion P xs → AllByRecursion Q xs
each_map P Q [] f each = tt
each_map P Q (x ∷ xs) f each = (f x each.0, each_map P Q xs f each.1)

pub each_app : (P : Row → Type 0) (xs : List Row) (x : Row) → AllByRecursion P xs → P x → AllByRecursion P (xs ++ (x ∷ []))
each_app P [] x each p = (p, tt)
each_app P (y ∷ xs) x each p = (each.0, each_app P xs x each.1 p)

-- the next row is listed
pub next_listed : {A : Type 0} (of : List Row → List A) → Gathers of → (rows : List Row) (key slot : ℕ) (items : List A) (place : Place) (first : IsFirstFrom rows key slot place) → InPlaceOrder rows → IsListed of rows key slot items
    → IsListed of rows place.page.0 (place.slot + 1) (items ++ of ((place, first.body) ∷ []))
next_listed {A = A} of gathers rows key slot items place first order h =
    let row : Row = (place, first.body) in
    let cut = same_cut key slot h.front h.back first.front row first.back (sym h.is ∙ first.is) h.before h.behind first.passed first.reached in
    let o = subst InPlaceOrder first.is order in
    record {
      front = first.front ++ (row ∷ []);
      back = first.back;
      is = first.is ∙ sym (append_assoc first.front (row ∷ []) first.back);
      items_are = ap (λ (t : List A). t ++ of (row ∷ [])) (h.items_are ∙ ap of cut.fronts) ∙ sym (gathers.append first.front (row ∷ []));
      before = each_app (λ (r : Row). ¬ IsFrom place.page.0 (place.slot + 1) r.0) first.front row
          (each_map (λ (r : Row). IsBefore r.0 place) (λ (r : Row). ¬ IsFrom place.page.0 (place.slot + 1) r.0) first.front (λ r b. not_from r.0 place b) (earlier first.front row first.back o)) (not_itself place);
      behind = each_map (λ (r : Row). IsBefore place r.0) (λ (r : Row). IsFrom place.page.0 (place.slot + 1) r.0) first.back (λ r b. is_from place r.0 b) (later row first.back (back_order first.front row first.back o));
    }

-- ---- the OIDs of current versions

oids_app : (xs ys : List Row) → oids_of (xs ++ ys) ≡ oids_of xs ++ oids_of ys
oids_app [] ys = refl
oids_app (x ∷ xs) ys = ap (λ (t : List Oid). oids_in x.0 (record_on x.1).head ++ t) (oids_app xs ys) ∙ sym (append_assoc (oids_in x.0 (record_on x.1).head) (oids_of xs) (oids_of ys))

pub gathers_oids : Gathers oids_of
gathers_oids = record { none = refl; append = oids_app }

pub oids_in_row : (row : Row) → oids_of (row ∷ []) ≡ oids_in row.0 (record_on row.1).head
oids_in_row row = append-nil (oids_in row.0 (record_on row.1).head)

-- ---- ranks

pub next_rank : (after : Option Place) (place : Place) → IsShort after → IsFrom (key_of after) (slot_of after) place → start_rank after ≤ rank_of place
next_rank None place short from = omega arith
next_rank (Some p) place short from = elim from [
  | inl l ↦ omega (arith, l, short)
  | inr l ↦ omega (arith, l.0, l.1)
]
