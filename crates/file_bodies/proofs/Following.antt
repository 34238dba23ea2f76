-- The first row of a file from a slot of a page on.
use Rattle.std.proofs.Common.{◌≡◌, ◌≢◌, ◌≤◌, ◌<◌, ◌+◌, ℕ, zero, suc, true, false, List, [], ◌∷◌, ◌++◌, Option, Some, None, refl, sym, ap, subst, ◌∙◌, append_assoc, arith, ◌⊎◌, inl, inr}
use Rattle.std.specs.Prelude.{slice_index_or, IsSome}
use Rattle.std.specs.List.{flat_map, AllByRecursion}
use Rattle.std.proofs.lemmas.List.Concat.{flat_map-append}
use Rattle.ex_base.specs.declared.ground.Ground as ground
use Rattle.ex_base.specs.declared.names.PageNo.{PageNo}
use Rattle.ex_base.specs.declared.names.Place.{Place}
use Rattle.ex_base.specs.Ports.{times, Keeps}
use Rattle.ex_base.proofs.Rows.{each-append}
use Rattle.ex_base.proofs.Counts.{contains_times, same_or_not, times-append, times_apart, times_contains, times_here}
use Rattle.slotted_pages.specs.FilePage.{Slot}
use Rattle.slotted_pages.specs.Edits.{slots_of}
use Rattle.ex_base.specs.declared.names.Index.{Index}
use Rattle.file_index.specs.Index.{Rises, IsFilesPage}
use Rattle.file_index.specs.Least.{IsLeastFrom}
use Rattle.file_index.proofs.Picking.{rises_low, rises_of}
use Rattle.file_bodies.specs.Bodies.{Row, place_at, bodies_from, bodies_on, bodies_of, pages_in}
use Rattle.file_bodies.specs.Files.{HasFile, IsPageOf}
use Rattle.file_bodies.specs.Places.{IsFrom, IsFirstFrom, FirstFrom, IsFirstLive}
use Rattle.file_bodies.proofs.Rows.{split_at}
use Rattle.file_bodies.specs.Damage.{IsLook}
use Rattle.file_bodies.proofs.Moving.{kept_file, lies}
use Rattle.file_bodies.proofs.Slots.{page_of}
use Rattle.std.proofs.lemmas.Bool.{cases_lt}

-- ---- what holds of each row

slots_each : (Q : Row → Type 0) (page at : ℕ) (slots : List Slot) → ((i n : ℕ) (body : List ℕ) → n ≡ at + i → slice_index_or slots i None ≡ Some body → Q (place_at page n, body)) → AllByRecursion Q (bodies_from page at slots)
slots_each Q page at [] f = tt
slots_each Q page at (None ∷ slots) f = slots_each Q page (suc at) slots (λ i n body is here. f (suc i) n body (omega arith) here)
slots_each Q page at (Some b ∷ slots) f = (f zero at b (omega arith) refl, slots_each Q page (suc at) slots (λ i n body is here. f (suc i) n body (omega arith) here))

pub rows_each : (Q : Row → Type 0) (image : ℕ → List ℕ) (keys : List ℕ) → ((k : ℕ) → 1 ≤ times k keys → (n : ℕ) (body : List ℕ) → slice_index_or (slots_of (image k)) n None ≡ Some body → Q (place_at k n, body)) → AllByRecursion Q (flat_map (bodies_on image) keys)
rows_each Q image [] f = tt
rows_each Q image (k ∷ keys) f =
    each-append Q (bodies_on image k) (flat_map (bodies_on image) keys)
    (slots_each Q k 0 (slots_of (image k)) (λ i n body is here. f k (omega (arith, times_here k k keys refl)) n body (let same : i ≡ n = omega arith in subst (λ (j : ℕ). slice_index_or (slots_of (image k)) j None ≡ Some body) same here)))
    (rows_each Q image keys (λ q h. f q (omega arith)))

-- ---- the first row on a page

first_row : (page key slot at k : ℕ) (slots : List Slot) (i : ℕ) → k ≡ at + i → IsSome (slice_index_or slots i None) → ((j n : ℕ) → j < i → n ≡ at + j → (slice_index_or slots j None ≡ None) ⊎ (¬ IsFrom key slot (place_at page n)))
    → IsFrom key slot (place_at page k) → IsFirstFrom (bodies_from page at slots) key slot (place_at page k)
first_row page key slot at k [] i is live before reached = absurd (let e : false ≡ true = live in cc)
first_row page key slot at k (None ∷ slots) zero is live before reached = absurd (let e : false ≡ true = live in cc)
first_row page key slot at k (Some b ∷ slots) zero is live before reached =
    let here : at ≡ k = omega arith in
    record { front = []; body = b; back = bodies_from page (suc at) slots; is = ap (λ (n : ℕ). (place_at page n, b) ∷ bodies_from page (suc at) slots) here; passed = tt; reached = reached }
first_row page key slot at k (None ∷ slots) (suc i) is live before reached =
    first_row page key slot (suc at) k slots i (omega arith) live (λ j n lt e. before (suc j) n (omega arith) (omega arith)) reached
first_row page key slot at k (Some b ∷ slots) (suc i) is live before reached =
    let rest = first_row page key slot (suc at) k slots i (omega arith) live (λ j n lt e. before (suc j) n (omega arith) (omega arith)) reached in
    record {
      front = (place_at page at, b) ∷ rest.front;
      body = rest.body;
      back = rest.back;
      is = ap (λ (t : List Row). (place_at page at, b) ∷ t) rest.is;
      passed = (
        elim (before zero at (omega arith) (omega arith)) [
          | inl vacant ↦ absurd (let e : Some b ≡ None = vacant in cc)
          | inr not ↦ not
        ],
        rest.passed,
      );
      reached = rest.reached;
    }

-- ---- among the rows of other pages

first_behind : (rows front : List Row) (key slot : ℕ) (place : Place) → AllByRecursion (λ (row : Row). ¬ IsFrom key slot row.0) front → IsFirstFrom rows key slot place → IsFirstFrom (front ++ rows) key slot place
first_behind rows front key slot place passed f = record {
  front = front ++ f.front;
  body = f.body;
  back = f.back;
  is = ap (λ (t : List Row). front ++ t) f.is ∙ sym (append_assoc front f.front ((place, f.body) ∷ f.back));
  passed = each-append (λ (row : Row). ¬ IsFrom key slot row.0) front f.front passed f.passed;
  reached = f.reached;
}

first_before : (rows back : List Row) (key slot : ℕ) (place : Place) → IsFirstFrom rows key slot place → IsFirstFrom (rows ++ back) key slot place
first_before rows back key slot place f = record {
  front = f.front;
  body = f.body;
  back = f.back ++ back;
  is = ap (λ (t : List Row). t ++ back) f.is ∙ append_assoc f.front ((place, f.body) ∷ f.back) back;
  passed = f.passed;
  reached = f.reached;
}

below_not : (key slot page n : ℕ) → page < key → ¬ IsFrom key slot (place_at page n)
below_not key slot page n lt from = elim from [
  | inl behind ↦ absurd (omega arith)
  | inr same ↦ absurd (omega (arith, same.0))
]

front_below : (a p k : ℕ) (front back : List ℕ) → Rises a (front ++ (p ∷ back)) → 1 ≤ times k front → k < p
front_below a p k [] back rises c = absurd (omega arith)
front_below a p k (x ∷ front) back rises c = elim (same_or_not k x) [
  | inl same ↦ omega (arith, rises_low (x + 1) p front back rises.1)
  | inr differ ↦ front_below (x + 1) p k front back rises.1 (omega (arith, times_apart k x front differ))
]

-- no page from a number on
pub none_from : (image : ℕ → List ℕ) (keys : List ℕ) (key slot : ℕ) → IsLeastFrom keys key None → FirstFrom (flat_map (bodies_on image) keys) key slot None
none_from image keys key slot least = rows_each (λ (row : Row). ¬ IsFrom key slot row.0) image keys (λ k h n body here. below_not key slot k n (least k (times_contains k keys h)))

-- the slot from which a page is looked at
pub record LooksFrom (page key slot from : ℕ) : Type 0 where
  pub same : page ≡ key → from ≡ slot
  pub other : page ≢ key → from ≡ 0

pub from_here : (page key slot from n : ℕ) → LooksFrom page key slot from → key ≤ page → from ≤ n → IsFrom key slot (place_at page n)
from_here page key slot from n looks le reached = elim (same_or_not page key) [
  | inl same ↦ inr (sym same, omega (arith, looks.same same))
  | inr differ ↦ inl (omega arith)
]

not_yet : (page key slot from n : ℕ) → LooksFrom page key slot from → n < from → ¬ IsFrom key slot (place_at page n)
not_yet page key slot from n looks lt = elim (same_or_not page key) [
  | inl same ↦ λ h. elim h [
    | inl behind ↦ absurd (omega arith)
    | inr at ↦ absurd (omega (arith, looks.same same, at.1))
  ]
  | inr differ ↦ absurd (omega (arith, looks.other differ))
]

-- the least page from a number on has a body from its slot on
pub first_on : (image : ℕ → List ℕ) (keys : List ℕ) (page : PageNo) (key slot from s : ℕ) → Rises 0 keys → IsLeastFrom keys key (Some page) → LooksFrom page.0 key slot from → IsFirstLive (slots_of (image page.0)) from s
    → FirstFrom (flat_map (bodies_on image) keys) key slot (Some (record { page = page; slot = s }))
first_on image keys page key slot from s rises least looks first =
    let sp = split_at page.0 keys (contains_times page.0 keys least.0) in
    let risen : Rises 0 (sp.front ++ (page.0 ∷ sp.back)) = subst (Rises 0) sp.is rises in
    let rows : flat_map (bodies_on image) keys ≡ flat_map (bodies_on image) sp.front ++ (bodies_on image page.0 ++ flat_map (bodies_on image) sp.back) = ap (flat_map (bodies_on image)) sp.is ∙ flat_map-append (bodies_on image) sp.front (page.0 ∷ sp.back) in
    let here = first_row page.0 key slot 0 s (slots_of (image page.0)) s (omega arith) first.live
    (λ j n lt is. elim (cases_lt j from) [
      | inl below ↦ inr (not_yet page.0 key slot from n looks (omega arith))
      | inr above ↦ inl (first.vacant j above lt)
    ]) (from_here page.0 key slot from s looks least.1 first.reached) in
    let passed : AllByRecursion (λ (row : Row). ¬ IsFrom key slot row.0) (flat_map (bodies_on image) sp.front) = rows_each (λ (row : Row). ¬ IsFrom key slot row.0) image sp.front (λ k h n body there.
    let lt : k < page.0 = front_below 0 page.0 k sp.front sp.back risen h in
    let among : 1 ≤ times k keys = omega (arith, h, ap (times k) sp.is, times-append k sp.front (page.0 ∷ sp.back)) in
    elim (cases_lt k key) [
      | inl below ↦ below_not key slot k n below
      | inr above ↦ absurd (omega (arith, least.2 k (times_contains k keys among) above))
    ]) in
    subst (λ (t : List Row). IsFirstFrom t key slot (record { page = page; slot = s })) (sym rows)
    (first_behind (bodies_on image page.0 ++ flat_map (bodies_on image) sp.back) (flat_map (bodies_on image) sp.front) key slot (record { page = page; slot = s }) passed
    (first_before (bodies_on image page.0) (flat_map (bodies_on image) sp.back) key slot (record { page = page; slot = s }) here))

-- ---- the page has none: the search goes on behind it

not_more : (P Q : Row → Type 0) (rows : List Row) → AllByRecursion (λ (row : Row). P row → Q row) rows → AllByRecursion (λ (row : Row). ¬ Q row) rows → AllByRecursion (λ (row : Row). ¬ P row) rows
not_more P Q [] f n = tt
not_more P Q (r ∷ rows) f n = (λ p. n.0 (f.0 p), not_more P Q rows f.1 n.1)

each_front : (P : Row → Type 0) (xs ys : List Row) → AllByRecursion P (xs ++ ys) → AllByRecursion P xs
each_front P [] ys h = tt
each_front P (x ∷ xs) ys h = (h.0, each_front P xs ys h.1)

later : (rows : List Row) (key slot key2 slot2 : ℕ) (found : Option Place) → AllByRecursion (λ (row : Row). IsFrom key slot row.0 → IsFrom key2 slot2 row.0) rows → ((p : Place) → IsFrom key2 slot2 p → IsFrom key slot p) → FirstFrom rows key2 slot2 found → FirstFrom rows key slot found
later rows key slot key2 slot2 None over back h = not_more (λ (row : Row). IsFrom key slot row.0) (λ (row : Row). IsFrom key2 slot2 row.0) rows over h
later rows key slot key2 slot2 (Some place) over back h = record {
  front = h.front;
  body = h.body;
  back = h.back;
  is = h.is;
  passed = not_more (λ (row : Row). IsFrom key slot row.0) (λ (row : Row). IsFrom key2 slot2 row.0) h.front
      (each_front (λ (row : Row). IsFrom key slot row.0 → IsFrom key2 slot2 row.0) h.front ((place, h.body) ∷ h.back) (subst (AllByRecursion (λ (row : Row). IsFrom key slot row.0 → IsFrom key2 slot2 row.0)) h.is over)) h.passed;
  reached = back place h.reached;
}

pub goes_on : (image : ℕ → List ℕ) (keys : List ℕ) (page : PageNo) (key slot from : ℕ) (found : Option Place) → IsLeastFrom keys key (Some page) → LooksFrom page.0 key slot from → ((k : ℕ) → from ≤ k → slice_index_or (slots_of (image page.0)) k None ≡ None)
    → FirstFrom (flat_map (bodies_on image) keys) (page.0 + 1) 0 found → FirstFrom (flat_map (bodies_on image) keys) key slot found
goes_on image keys page key slot from found least looks vacant =
    later (flat_map (bodies_on image) keys) key slot (page.0 + 1) 0 found
    (rows_each (λ (row : Row). IsFrom key slot row.0 → IsFrom (page.0 + 1) 0 row.0) image keys (λ k h n body here reached. on k n body h here reached))
    (λ p reached. elim reached [
      | inl behind ↦ inl (omega (arith, least.1))
      | inr same ↦ inl (omega (arith, least.1, same.0))
    ])
  where
    ahead : (k n : ℕ) → page.0 < k → IsFrom (page.0 + 1) 0 (place_at k n)
    ahead k n lt = elim (same_or_not (page.0 + 1) k) [
      | inl same ↦ inr (same, omega arith)
      | inr differ ↦ inl (omega arith)
    ]

    on : (k n : ℕ) (body : List ℕ) → 1 ≤ times k keys → slice_index_or (slots_of (image k)) n None ≡ Some body → IsFrom key slot (place_at k n) → IsFrom (page.0 + 1) 0 (place_at k n)
    on k n body h here reached =
        let above : key ≤ k = elim reached [ inl behind ↦ omega arith | inr same ↦ omega (arith, same.0) ] in
        let least_one : page.0 ≤ k = least.2 k (times_contains k keys h) above in
        elim (same_or_not k page.0) [
          | inl same ↦
              let from_n : from ≤ n = elim (same_or_not page.0 key) [
                | inl at ↦ elim reached [
                  | inl behind ↦ absurd (omega arith)
                  | inr also ↦ omega (arith, looks.same at, also.1)
                ]
                | inr differ ↦ omega (arith, looks.other differ)
              ] in
              let none : slice_index_or (slots_of (image k)) n None ≡ None = subst (λ (q : ℕ). slice_index_or (slots_of (image q)) n None ≡ None) (sym same) (vacant n from_n) in
              absurd (let e : None ≡ Some body = sym none ∙ here in cc)
          | inr differ ↦ ahead k n (omega arith)
        ]

-- ---- in the states of a search

module _ {S : Type 0} (g : ground.Ghosts S) (a b : S) (index : Index) (key slot : ℕ) (file : HasFile g a index) (kept : Keeps g a b) where
  pub place_none : (found : Option PageNo) → found ≡ None → IsLeastFrom (pages_in (g.image a) index) key found → FirstFrom (bodies_of (g.image a) index) key slot None
  place_none found none least = none_from (g.image a) (pages_in (g.image a) index) key slot (subst (IsLeastFrom (pages_in (g.image a) index) key) none least)

  module _ (page : PageNo) (found : Option PageNo) (some : found ≡ Some page) (least : IsLeastFrom (pages_in (g.image a) index) key found) where
    least_page : IsLeastFrom (pages_in (g.image a) index) key (Some page)
    least_page = subst (IsLeastFrom (pages_in (g.image a) index) key) some least

    pub page_sound : (IsFilesPage (g.geometry b) page.0 → IsPageOf index.file_no (g.image b page.0) → ⊥) → ⊥
    page_sound never =
        let at : 1 ≤ times page.0 (pages_in (g.image a) index) = contains_times page.0 (pages_in (g.image a) index) least_page.0 in
        never (rw (g.leads_geometry a b kept.leads) (lies g a index page.0 file at)) (rw kept.images (page_of g a index page.0 file at))

    pub place_found : (from s : ℕ) → LooksFrom page.0 key slot from → IsFirstLive (slots_of (g.image b page.0)) from s → FirstFrom (bodies_of (g.image a) index) key slot (Some (record { page = page; slot = s }))
    place_found from s looks first =
        first_on (g.image a) (pages_in (g.image a) index) page key slot from s (rises_of (pages_in (g.image a) index) file.whole.rising) least_page looks
        (subst (λ (f : ℕ → List ℕ). IsFirstLive (slots_of (f page.0)) from s) kept.images first)

    pub place_later : (c : S) (from : ℕ) (next : Option Place) → Keeps g b c → LooksFrom page.0 key slot from → ((k : ℕ) → from ≤ k → slice_index_or (slots_of (g.image b page.0)) k None ≡ None)
        → FirstFrom (bodies_of (g.image c) index) (page.0 + 1) 0 next → FirstFrom (bodies_of (g.image a) index) key slot next
    place_later c from next more looks vacant rest =
        goes_on (g.image a) (pages_in (g.image a) index) page key slot from next least_page looks
        (subst (λ (f : ℕ → List ℕ). (k : ℕ) → from ≤ k → slice_index_or (slots_of (f page.0)) k None ≡ None) kept.images vacant)
        (subst (λ (f : ℕ → List ℕ). FirstFrom (bodies_of f index) (page.0 + 1) 0 next) (more.images ∙ kept.images) rest)

-- ---- how far a look has come

module _ {S : Type 0} (g : ground.Ghosts S) where
  pub record LookedTo (start now : S) (index : Index) (from_key from_slot key slot : ℕ) : Type 0 where
    pub kept : Keeps g start now
    pub reached : from_key ≤ key
    pub passed : g.tells start → HasFile g start index → (found : Option Place) → FirstFrom (bodies_of (g.image start) index) key slot found → FirstFrom (bodies_of (g.image start) index) from_key from_slot found
    pub looked : g.tells start → (end : Option PageNo) → IsLook (g.geometry start) (g.image start) index key end → IsLook (g.geometry start) (g.image start) index from_key end

  module _ (a b : S) (index : Index) (from_key from_slot key slot : ℕ) (to : LookedTo a b index from_key from_slot key slot) (told : g.tells a) (file : HasFile g a index) where
    pub file_there : HasFile g b index
    file_there = kept_file g a b index to.kept file

    pub told_there : g.tells b
    told_there = g.leads_told a b to.kept.leads told

    -- what comes first from there on comes first from the start on
    pub first_of_all : (found : Option Place) → FirstFrom (bodies_of (g.image b) index) key slot found → FirstFrom (bodies_of (g.image a) index) from_key from_slot found
    first_of_all found first = to.passed told file found (subst (λ (f : ℕ → List ℕ). FirstFrom (bodies_of f index) key slot found) to.kept.images first)
