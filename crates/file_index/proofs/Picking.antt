-- The least key that is not below a key, through the entry that leads to it.
use Rattle.std.proofs.Common.{◌≡◌, ◌≤◌, ◌<◌, ◌+◌, ◌-◌, ℕ, zero, suc, true, false, List, [], ◌∷◌, ◌++◌, Option, Some, None, nat_lt, refl, ap, subst, ◌∙◌, arith, ltb-true, ltb-false, lt-ltb, le-ltb, inl, inr}
use Rattle.std.specs.Prelude.{slice_get, length, Contains, if◌then◌else◌}
use Rattle.std.specs.List.{flat_map, AllByRecursion}
use Rattle.std.proofs.lemmas.List.{append-nil}
use Rattle.std.proofs.lemmas.Option.{slice_get_within}
use Rattle.ex_base.specs.declared.names.PageNo.{PageNo}
use Rattle.file_index.specs.declared.Entry.{Entry}
use Rattle.file_index.specs.declared.step.Step.{Step}
use Rattle.ex_base.specs.Order.{Rising}
use Rattle.ex_base.proofs.Members.{contains_cases, contains_later}
use Rattle.file_index.specs.Index.{Rises}
use Rattle.file_index.specs.IndexPage.{RiseFrom}
use Rattle.file_index.specs.Least.{IsLeastFrom, IsFirstAbove, first_from, pick, pick_from, page_no}
use Rattle.file_index.proofs.Under.{Begins}

-- ---- numbers that rise

pub rises_weak : (a b : ℕ) (xs : List ℕ) → a ≤ b → Rises b xs → Rises a xs
rises_weak a b [] le h = tt
rises_weak a b (x ∷ xs) le h = (omega (arith, h.0), h.1)

pub rises_back : (a : ℕ) (xs ys : List ℕ) → Rises a (xs ++ ys) → Rises a ys
rises_back a [] ys h = h
rises_back a (x ∷ xs) ys h = rises_weak a (x + 1) ys (omega (arith, h.0)) (rises_back (x + 1) xs ys h.1)

pub rises_front : (a : ℕ) (xs ys : List ℕ) → Rises a (xs ++ ys) → Rises a xs
rises_front a [] ys h = tt
rises_front a (x ∷ xs) ys h = (h.0, rises_front (x + 1) xs ys h.1)

pub rises_low : (a y : ℕ) (xs ys : List ℕ) → Rises a (xs ++ y ∷ ys) → a ≤ y
rises_low a y [] ys h = h.0
rises_low a y (x ∷ xs) ys h = omega (arith, h.0, rises_low (x + 1) y xs ys h.1)

-- strictly rising numbers rise from 0 on, and what rises so is strictly rising
rises_on : (a x : ℕ) (xs : List ℕ) → a ≤ x → Rising (x ∷ xs) → Rises a (x ∷ xs)
rises_on a x [] le h = (le, tt)
rises_on a x (y ∷ xs) le h = (le, rises_on (x + 1) y xs (omega (arith, h.0)) h.1)

pub rises_of : (xs : List ℕ) → Rising xs → Rises 0 xs
rises_of [] h = tt
rises_of (x ∷ xs) h = rises_on 0 x xs (omega arith) h

pub rising_of : (a : ℕ) (xs : List ℕ) → Rises a xs → Rising xs
rising_of a [] h = tt
rising_of a (x ∷ []) h = tt
rising_of a (x ∷ y ∷ xs) h = (omega (arith, h.1.0), rising_of (x + 1) (y ∷ xs) h.1)

-- ---- the first one that is not below a key

pub first-append : (key : ℕ) (xs ys : List ℕ) (next : Option PageNo) → first_from key (xs ++ ys) next ≡ first_from key xs (first_from key ys next)
first-append key [] ys next = refl
first-append key (x ∷ xs) ys next =
    elim (nat_lt x key) as (λ t. (if t then first_from key (xs ++ ys) next else Some (page_no x)) ≡ (if t then first_from key xs (first_from key ys next) else Some (page_no x))) [
      | true ↦ first-append key xs ys next
      | false ↦ refl
    ]

-- numbers in front of one that is not above the key are below the key
pub first_skips : (a key y : ℕ) (xs ys : List ℕ) (next : Option PageNo) → Rises a (xs ++ y ∷ ys) → y ≤ key → first_from key xs next ≡ next
first_skips a key y [] ys next h le = refl
first_skips a key y (x ∷ xs) ys next h le =
    let below : x + 1 ≤ y = rises_low (x + 1) y xs ys h.1 in
    let test : nat_lt x key ≡ true = lt-ltb x key (omega arith) in
    rw test (first_skips (x + 1) key y xs ys next h.1 le)

first_here : (key x : ℕ) (xs : List ℕ) (next : Option PageNo) → key ≤ x → first_from key (x ∷ xs) next ≡ Some (page_no x)
first_here key x xs next le = let test : nat_lt x key ≡ false = le-ltb x key le in rw test refl

-- ---- through one entry

-- what the entry that is picked leads to holds the answer
pub pick_first : (K : Entry → List ℕ) (entry : Entry) (entries : List Entry) (key a : ℕ) (next : Option PageNo) → AllByRecursion (λ (e : Entry). Begins e.key (K e)) (entry ∷ entries) → Rises a (flat_map K (entry ∷ entries))
    → first_from key (flat_map K (entry ∷ entries)) next ≡ first_from key (K (pick_from entry entries key next).child) (pick_from entry entries key next).next
pick_first K entry [] key a next each rises = ap (λ (xs : List ℕ). first_from key xs next) (append-nil (K entry))
pick_first K entry (after ∷ entries) key a next each rises =
    let b = each.1.0 in
    let behind : K after ++ flat_map K entries ≡ after.key ∷ (b.rest ++ flat_map K entries) = ap (λ (xs : List ℕ). xs ++ flat_map K entries) b.is in
    (elim (nat_lt key after.key) as (λ t. nat_lt key after.key ≡ t → first_from key (K entry ++ (K after ++ flat_map K entries)) next
    ≡ first_from key (K (if t then record { child = entry; next = Some (page_no after.key) } else pick_from after entries key next).child) (if t then record { child = entry; next = Some (page_no after.key) } else pick_from after entries key next).next) [
      | true ↦ λ t.
          let le : key ≤ after.key = omega (arith, ltb-true key after.key t) in
          first-append key (K entry) (K after ++ flat_map K entries) next
          ∙ ap (first_from key (K entry)) (ap (λ (xs : List ℕ). first_from key xs next) behind ∙ first_here key after.key (b.rest ++ flat_map K entries) next le)
      | false ↦ λ t.
          let le : after.key ≤ key = ltb-false key after.key t in
          first-append key (K entry) (K after ++ flat_map K entries) next
          ∙ first_skips a key after.key (K entry) (b.rest ++ flat_map K entries) (first_from key (K after ++ flat_map K entries) next) (subst (λ (xs : List ℕ). Rises a (K entry ++ xs)) behind rises) le
          ∙ pick_first K after entries key a next each.1 (rises_back a (K entry) (K after ++ flat_map K entries) rises)
    ]) refl

-- what is true of each entry is true of the one that is picked
pub picked_own : (P : Entry → Type 0) (entry : Entry) (entries : List Entry) (key : ℕ) (next : Option PageNo) → AllByRecursion P (entry ∷ entries) → P (pick_from entry entries key next).child
picked_own P entry [] key next each = each.0
picked_own P entry (after ∷ entries) key next each =
    elim (nat_lt key after.key) as (λ t. P (if t then record { child = entry; next = Some (page_no after.key) } else pick_from after entries key next).child) [
      | true ↦ each.0
      | false ↦ picked_own P after entries key next each.1
    ]

-- what the picked entry leads to rises
pub picked_rises : (K : Entry → List ℕ) (entry : Entry) (entries : List Entry) (key a : ℕ) (next : Option PageNo) → Rises a (flat_map K (entry ∷ entries)) → Rises a (K (pick_from entry entries key next).child)
picked_rises K entry [] key a next rises = rises_front a (K entry) [] rises
picked_rises K entry (after ∷ entries) key a next rises =
    elim (nat_lt key after.key) as (λ t. Rises a (K (if t then record { child = entry; next = Some (page_no after.key) } else pick_from after entries key next).child)) [
      | true ↦ rises_front a (K entry) (flat_map K (after ∷ entries)) rises
      | false ↦ picked_rises K after entries key a next (rises_back a (K entry) (flat_map K (after ∷ entries)) rises)
    ]

-- ---- bisection

-- keys rise
key_rises : (least : ℕ) (entries : List Entry) (m : ℕ) (entry : Entry) → RiseFrom least entries → slice_get entries m ≡ Some entry → least ≤ entry.key
key_rises least [] m entry rise at = absurd cc
key_rises least (x ∷ entries) zero entry rise at = let same : x ≡ entry = cc in omega (arith, rise.0, ap (λ (e : Entry). e.key) same)
key_rises least (x ∷ entries) (suc m) entry rise at = omega (arith, rise.0, key_rises (x.key + 1) entries m entry rise.1 at)

keys_up : (least : ℕ) (entries : List Entry) (k m : ℕ) (low high : Entry) → RiseFrom least entries → k ≤ m → slice_get entries k ≡ Some low → slice_get entries m ≡ Some high → low.key ≤ high.key
keys_up least [] k m low high rise le at at' = absurd cc
keys_up least (x ∷ entries) zero zero low high rise le at at' = let same : low ≡ high = cc in omega (arith, ap (λ (e : Entry). e.key) same)
keys_up least (x ∷ entries) (suc k) zero low high rise le at at' = absurd (omega (arith, le))
keys_up least (x ∷ entries) zero (suc m) low high rise le at at' = let same : x ≡ low = cc in omega (arith, ap (λ (e : Entry). e.key) same, key_rises (x.key + 1) entries m high rise.1 at')
keys_up least (x ∷ entries) (suc k) (suc m) low high rise le at at' = keys_up (x.key + 1) entries k m low high rise.1 (omega (arith, le)) at at'

-- the first entry above the key stands from low to high
pub record Halved (key : ℕ) (entries : List Entry) (low high : ℕ) : Type 0 where
  pub behind : 1 ≤ low
  pub order : low ≤ high
  pub inside : high ≤ length entries
  pub above : (entry : Entry) → slice_get entries high ≡ Some entry → key < entry.key
  pub none_before : (k : ℕ) (entry : Entry) → 1 ≤ k → k < low → slice_get entries k ≡ Some entry → entry.key ≤ key

pub start_halves : (key : ℕ) (entries : List Entry) (high : ℕ) → 1 ≤ length entries → high ≡ length entries → Halved key entries 1 high
start_halves key entries high some all = record {
  behind = omega arith;
  order = omega (arith, some, all);
  inside = omega (arith, all);
  above = λ entry at. absurd (omega (arith, all, slice_get_within entries high entry at));
  none_before = λ k entry from to at. absurd (omega (arith, from, to));
}

pub lower_half : (key : ℕ) (entries : List Entry) (low high middle : ℕ) (entry : Entry) → slice_get entries middle ≡ Some entry → low ≤ middle → middle < high → key < entry.key → Halved key entries low high → Halved key entries low middle
lower_half key entries low high middle entry at le lt here h = record {
  behind = h.behind;
  order = le;
  inside = omega (arith, lt, h.inside);
  above = λ e at'. let same : entry ≡ e = cc in omega (arith, here, ap (λ (e : Entry). e.key) same);
  none_before = h.none_before;
}

pub upper_half : (key : ℕ) (entries : List Entry) (low high middle : ℕ) (entry : Entry) → RiseFrom 0 entries → slice_get entries middle ≡ Some entry → middle < high → entry.key ≤ key → Halved key entries low high → Halved key entries (middle + 1) high
upper_half key entries low high middle entry rise at lt here h = record {
  behind = omega arith;
  order = omega (arith, lt);
  inside = h.inside;
  above = h.above;
  none_before = λ k e from to at'. omega (arith, here, keys_up 0 entries k middle e entry rise (omega (arith, to)) at' at);
}

pub first_found : (key : ℕ) (entries : List Entry) (low high : ℕ) → high ≤ low → Halved key entries low high → IsFirstAbove key entries low
first_found key entries low high end h =
    let same : high ≡ low = omega (arith, end, h.order) in
    record {
      behind = h.behind;
      inside = omega (arith, same, h.inside);
      above = subst (λ k. (entry : Entry) → slice_get entries k ≡ Some entry → key < entry.key) same h.above;
      none_before = h.none_before;
    }

-- ---- the entry before the first one above the key

picked_before : (entry : Entry) (entries : List Entry) (key index : ℕ) (next : Option PageNo) (child after : Entry) → ((k : ℕ) (e : Entry) → k < index → slice_get entries k ≡ Some e → e.key ≤ key)
    → slice_get (entry ∷ entries) index ≡ Some child → slice_get entries index ≡ Some after → key < after.key → pick_from entry entries key next ≡ record { child = child; next = Some (page_no after.key) }
picked_before entry [] key index next child after low at behind lt = absurd cc
picked_before entry (x ∷ entries) key zero next child after low at behind lt =
    let here : entry ≡ child = cc in
    let same : x ≡ after = cc in
    let test : nat_lt key x.key ≡ true = lt-ltb key x.key (omega (arith, lt, ap (λ (e : Entry). e.key) same)) in
    let with_child : Entry → Step = λ c. record { child = c; next = Some (page_no x.key) } in
    let with_next : Entry → Step = λ a. record { child = child; next = Some (page_no a.key) } in
    rw test (ap with_child here ∙ ap with_next same)
picked_before entry (x ∷ entries) key (suc index) next child after low at behind lt =
    let test : nat_lt key x.key ≡ false = le-ltb key x.key (low 0 x (omega arith) refl) in
    rw test (picked_before x entries key index next child after (λ k e below. low (suc k) e (omega (arith, below))) at behind lt)

picked_last : (entry : Entry) (entries : List Entry) (key : ℕ) (next : Option PageNo) (child : Entry) → ((k : ℕ) (e : Entry) → slice_get entries k ≡ Some e → e.key ≤ key)
    → slice_get (entry ∷ entries) (length entries) ≡ Some child → pick_from entry entries key next ≡ record { child = child; next = next }
picked_last entry [] key next child low at =
    let here : entry ≡ child = cc in
    let with_child : Entry → Step = λ c. record { child = c; next = next } in
    ap with_child here
picked_last entry (x ∷ entries) key next child low at =
    let test : nat_lt key x.key ≡ false = le-ltb key x.key (low 0 x refl) in
    rw test (picked_last x entries key next child (λ k e. low (suc k) e) at)

pub pick_inside : (entries : List Entry) (key index : ℕ) (next : Option PageNo) (child after : Entry) → IsFirstAbove key entries index → slice_get entries (index - 1) ≡ Some child → slice_get entries index ≡ Some after
    → pick entries key next ≡ record { child = child; next = Some (page_no after.key) }
pick_inside [] key index next child after first at behind = absurd (omega (arith, first.behind, first.inside))
pick_inside (entry ∷ entries) key zero next child after first at behind = absurd (omega (arith, first.behind))
pick_inside (entry ∷ entries) key (suc index) next child after first at behind =
    let before : suc index - 1 ≡ index = omega arith in
    picked_before entry entries key index next child after (λ k e below. first.none_before (suc k) e (omega arith) (omega (arith, below)))
    (subst (λ i. slice_get (entry ∷ entries) i ≡ Some child) before at) behind (first.above after behind)

pub pick_behind : (entries : List Entry) (key index : ℕ) (next : Option PageNo) (child : Entry) → IsFirstAbove key entries index → slice_get entries (index - 1) ≡ Some child → index ≡ length entries
    → pick entries key next ≡ record { child = child; next = next }
pick_behind [] key index next child first at all = absurd (omega (arith, first.behind, first.inside))
pick_behind (entry ∷ entries) key index next child first at all =
    let last : index - 1 ≡ length entries = omega (arith, all) in
    picked_last entry entries key next child
    (λ k e here. first.none_before (suc k) e (omega arith) (omega (arith, all, slice_get_within entries k e here)) here)
    (subst (λ i. slice_get (entry ∷ entries) i ≡ Some child) last at)

-- ---- the least one

contained_low : (a y : ℕ) (xs : List ℕ) → Rises a xs → Contains xs y → a ≤ y
contained_low a y [] rises c = absurd (omega (arith, c.1))
contained_low a y (x ∷ xs) rises c = elim (contains_cases x y xs c) [
  | inl e ↦ omega (arith, rises.0)
  | inr c' ↦ omega (arith, rises.0, contained_low (x + 1) y xs rises.1 c')
]

least_more : (x key : ℕ) (xs : List ℕ) (least : Option PageNo) → x < key → IsLeastFrom xs key least → IsLeastFrom (x ∷ xs) key least
least_more x key xs None lt h = λ page c. elim (contains_cases x page xs c) [
  | inl e ↦ omega arith
  | inr c' ↦ h page c'
]
least_more x key xs (Some least) lt h = (
  contains_later x least.0 xs h.0,
  h.1,
  λ page c le. elim (contains_cases x page xs c) [
    | inl e ↦ absurd (omega arith)
    | inr c' ↦ h.2 page c' le
  ],
)

pub least_is : (a key : ℕ) (xs : List ℕ) → Rises a xs → IsLeastFrom xs key (first_from key xs None)
least_is a key [] rises = λ page c. absurd (omega (arith, c.1))
least_is a key (x ∷ xs) rises =
    (elim (nat_lt x key) as (λ t. nat_lt x key ≡ t → IsLeastFrom (x ∷ xs) key (if t then first_from key xs None else Some (page_no x))) [
      | true ↦ λ t. least_more x key xs (first_from key xs None) (ltb-true x key t) (least_is (x + 1) key xs rises.1)
      | false ↦ λ t. (
        (zero, omega arith, refl),
        ltb-false x key t,
        λ page c le. elim (contains_cases x page xs c) [
          | inl e ↦ omega arith
          | inr c' ↦ let low : x + 1 ≤ page = contained_low (x + 1) page xs rises.1 c' in omega arith
        ],
      )
    ]) refl
