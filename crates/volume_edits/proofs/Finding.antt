-- Where a record of a volume stands.
use Rattle.std.proofs.Common.{◌≡◌, ℕ, zero, suc, ◌+◌, Bool, true, cond, ◌&&◌, List, [], ◌∷◌, ◌++◌, Option, Some, None, refl, sym, ap, subst, ◌∙◌, arith, inl, inr, ◌⊎◌, eq-eqb}
use Rattle.std.specs.Prelude.{Contains, find, slice_index_or, ◌==◌}
use Rattle.std.specs.List.{flat_map, AllZip}
use Rattle.std.proofs.lemmas.Bool.{cases_Bool, eqb-true, and_parts}
use Rattle.ex_base.specs.declared.names.Oid.{Oid}
use Rattle.ex_base.specs.declared.names.Place.{Place}
use Rattle.ex_base.proofs.Members.{In, contains_in, from_flat, in_contains, in_right, into_flat}
use Rattle.slotted_pages.specs.FilePage.{Slot}
use Rattle.slotted_pages.specs.Edits.{slots_of}
use Rattle.file_bodies.specs.Bodies.{Row, place_at, row_of, bodies_from, bodies_on}
use Rattle.object_files.specs.Catalog.{FileEntry}
use Rattle.version_lists.specs.Versions.{same_oid}
use Rattle.volume_model.specs.Parts.{IsStored}
use Rattle.volume_model.specs.Volume.{Stored, FileContent, Volume, stored_in}
use Rattle.volume_edits.proofs.Lists.{Paired}
use Rattle.volume_edits.proofs.Contents.{Beside}

-- ---- a search

pub find_in : {A : Type 0} (p : A → Bool) (xs : List A) (x : A) → find p xs ≡ Some x → In x xs × (p x ≡ true)
find_in p [] x is = absurd cc
find_in {A = A} p (y ∷ xs) x is = elim (cases_Bool (p y)) [
  | inl here ↦
      let whole : Some y ≡ Some x = sym (ap (λ (b : Bool). cond b (Some y) (find p xs)) here) ∙ is in
      let same : y ≡ x = cc in
      (inl (sym same), subst (λ (z : A). p z ≡ true) same here)
  | inr other ↦
      let rest = find_in p xs x (sym (ap (λ (b : Bool). cond b (Some y) (find p xs)) other) ∙ is) in
      (inr rest.0, rest.1)
]

pub found_or_not : {A : Type 0} (o : Option A) → (o ≡ None) ⊎ ((x : A) × (o ≡ Some x))
found_or_not None = inl refl
found_or_not (Some x) = inr (x, refl)

-- ---- identifiers

abbrev made_oid : ℕ → ℕ → ℕ → Oid
made_oid page slot unique = record { page = record { 0 = page }; slot = slot; unique = unique }

pub oid_same : (a b : Oid) → same_oid a b ≡ true → a ≡ b
oid_same a b t =
    let one = and_parts ((a.page.0 == b.page.0) && (a.slot == b.slot)) (a.unique == b.unique) t in
    let two = and_parts (a.page.0 == b.page.0) (a.slot == b.slot) one.0 in
    let page = eqb-true a.page.0 b.page.0 two.0 in
    let slot = eqb-true a.slot b.slot two.1 in
    let unique = eqb-true a.unique b.unique one.1 in
    let same : made_oid a.page.0 a.slot a.unique ≡ made_oid b.page.0 b.slot b.unique = cc (page, slot, unique) in same

pub same_as_oid : (a b : Oid) → a ≡ b → same_oid a b ≡ true
same_as_oid a b e =
    let page = eq-eqb a.page.0 b.page.0 (ap (λ (o : Oid). o.page.0) e) in
    let slot = eq-eqb a.slot b.slot (ap (λ (o : Oid). o.slot) e) in
    let unique = eq-eqb a.unique b.unique (ap (λ (o : Oid). o.unique) e) in
    rw page (rw slot (rw unique refl))

-- ---- the file of a record

pub beside_file : (entries : List FileEntry) (files : List FileContent) (f : FileContent) → Paired entries files → In f files → (e : FileEntry) × Beside entries files e f
beside_file [] [] f p h = absurd h
beside_file [] (c ∷ files) f p h = absurd p
beside_file (d ∷ entries) [] f p h = absurd p
beside_file (d ∷ entries) (c ∷ files) f p (inl e) = (d, record { entries_before = []; entries_behind = entries; files_before = []; files_behind = files; entries_are = refl; files_are = ap (λ (x : FileContent). x ∷ files) (sym e); paired = tt })
beside_file (d ∷ entries) (c ∷ files) f p (inr h) =
    let rest = beside_file entries files f p.1 h in
    let b = rest.1 in (
      rest.0,
      record {
        entries_before = d ∷ b.entries_before;
        entries_behind = b.entries_behind;
        files_before = c ∷ b.files_before;
        files_behind = b.files_behind;
        entries_are = ap (λ (t : List FileEntry). d ∷ t) b.entries_are;
        files_are = ap (λ (t : List FileContent). c ∷ t) b.files_are;
        paired = (tt, b.paired);
      },
    )

pub file_in : (v : Volume) (e : FileEntry) (f : FileContent) → Beside v.catalog.entries v.files e f → In f v.files
file_in v e f b = subst (λ (t : List FileContent). In f t) (sym b.files_are) (in_right f b.files_before (f ∷ b.files_behind) (inl refl))

pub into_volume : (v : Volume) (e : FileEntry) (f : FileContent) (x : Stored) → Beside v.catalog.entries v.files e f → In x f.stored → In x (stored_in v)
into_volume v e f x b k = into_flat (λ (c : FileContent). c.stored) x f v.files (file_in v e f b) k

-- ---- rows and records

pub row_stored : (x : Stored) (rows : List Row) (stored : List Stored) → AllZip IsStored rows stored → In x stored → (row : Row) × In row rows × IsStored row x
row_stored x [] [] h k = absurd k
row_stored x [] (s ∷ stored) h k = absurd h
row_stored x (row ∷ rows) [] h k = absurd h
row_stored x (row ∷ rows) (s ∷ stored) h (inl e) = (row, inl refl, subst (IsStored row) (sym e) h.0)
row_stored x (row ∷ rows) (s ∷ stored) h (inr k) = let rest = row_stored x rows stored h.1 k in (rest.0, inr rest.1, rest.2)

pub stored_row : (row : Row) (rows : List Row) (stored : List Stored) → AllZip IsStored rows stored → In row rows → (x : Stored) × In x stored × IsStored row x
stored_row row [] [] h k = absurd k
stored_row row [] (s ∷ stored) h k = absurd h
stored_row row (r ∷ rows) [] h k = absurd h
stored_row row (r ∷ rows) (s ∷ stored) h (inl e) = (s, inl refl, subst (λ (q : Row). IsStored q s) (sym e) h.0)
stored_row row (r ∷ rows) (s ∷ stored) h (inr k) = let rest = stored_row row rows stored h.1 k in (rest.0, inr rest.1, rest.2)

-- a body on a page stands in its slot
abbrev StandsIn : ℕ → ℕ → List Slot → Row → Type 0
StandsIn page slot slots row = (row.0.page.0 ≡ page) × ((k : ℕ) × (row.0.slot ≡ slot + k) × (slice_index_or slots k None ≡ Some row.1))

stands_on : (row : Row) (page slot : ℕ) (slots : List Slot) → In row (bodies_from page slot slots) → StandsIn page slot slots row
stands_on row page slot [] h = absurd h
stands_on row page slot (None ∷ slots) h =
    let rest = stands_on row page (suc slot) slots h in
    (rest.0, (suc rest.1.0, omega (arith, rest.1.1), rest.1.2))
stands_on row page slot (Some body ∷ slots) (inl e) = (ap (λ (r : Row). r.0.page.0) e, (0, omega (arith, ap (λ (r : Row). r.0.slot) e), ap (λ (r : Row). Some r.1) (sym e)))
stands_on row page slot (Some body ∷ slots) (inr h) =
    let rest = stands_on row page (suc slot) slots h in
    (rest.0, (suc rest.1.0, omega (arith, rest.1.1), rest.1.2))

on_stands : (page slot k n : ℕ) (body : List ℕ) (slots : List Slot) → n ≡ slot + k → slice_index_or slots k None ≡ Some body → In (place_at page n, body) (bodies_from page slot slots)
on_stands page slot k n body [] at is = absurd (let e : None ≡ Some body = is in cc)
on_stands page slot zero n body (s ∷ slots) at is =
    let here : n ≡ slot = omega arith in
    let own : s ≡ Some body = is in
    subst (λ (t : Slot). In (place_at page n, body) (row_of (place_at page slot) t ++ bodies_from page (suc slot) slots)) (sym own) (inl (ap (λ (m : ℕ). (place_at page m, body)) here))
on_stands page slot (suc k) n body (s ∷ slots) at is = in_right (place_at page n, body) (row_of (place_at page slot) s) (bodies_from page (suc slot) slots) (on_stands page (suc slot) k n body slots (omega arith) is)

abbrev pub StandsAt : (ℕ → List ℕ) → List ℕ → Place → List ℕ → Type 0
StandsAt image keys place body = Contains keys place.page.0 × (slice_index_or (slots_of (image place.page.0)) place.slot None ≡ Some body)

pub row_stands : (image : ℕ → List ℕ) (keys : List ℕ) (row : Row) → In row (flat_map (bodies_on image) keys) → StandsAt image keys row.0 row.1
row_stands image keys row h =
    let page = from_flat (bodies_on image) row keys h in
    let there = stands_on row page.0 0 (slots_of (image page.0)) page.2 in
    let slot : there.1.0 ≡ row.0.slot = (let e = there.1.1 in omega arith) in (
      contains_in row.0.page.0 keys (subst (λ (n : ℕ). In n keys) (sym there.0) page.1),
      subst (λ (n : ℕ). slice_index_or (slots_of (image n)) row.0.slot None ≡ Some row.1) (sym there.0) (subst (λ (n : ℕ). slice_index_or (slots_of (image page.0)) n None ≡ Some row.1) slot there.1.2),
    )

pub stands_row : (image : ℕ → List ℕ) (keys : List ℕ) (place : Place) (body : List ℕ) → StandsAt image keys place body → In (place, body) (flat_map (bodies_on image) keys)
stands_row image keys place body h =
    into_flat (bodies_on image) (place, body) place.page.0 keys (in_contains place.page.0 keys h.0) (on_stands place.page.0 0 place.slot place.slot body (slots_of (image place.page.0)) (omega arith) h.1)
