-- Two lists side by side, and the records of a file in order of their numbers.
use Rattle.std.proofs.Common.{◌≡◌, ℕ, zero, suc, List, [], ◌∷◌, length, map, Some, refl, sym, subst, ap, ◌∙◌, arith, inl, inr}
use Rattle.std.specs.Prelude.{slice_get}
use Rattle.std.specs.List.{AllZip, zip}
use Rattle.std.proofs.lemmas.Option.{none-some, same_Some}
use Rattle.ex_base.specs.declared.names.Place.{Place}
use Rattle.file_bodies.specs.Bodies.{Row}
use Rattle.object_files.specs.Catalog.{FileEntry}
use Rattle.object_records.specs.Record.{BodyOf, Record}
use Rattle.object_records.specs.Reads.{record_on}
use Rattle.object_records.proofs.RecordLaws.{record_read}
use Rattle.version_lists.specs.Sorted.{in_order}
use Rattle.version_lists.proofs.Lists.{Has}
use Rattle.version_lists.proofs.Sorted.{order_map}
use Rattle.versions.specs.Listed.{AreReadable}
use Rattle.versions.proofs.FileRows.{InRows}
use Rattle.volume_model.specs.Parts.{IsStored}
use Rattle.volume_model.specs.Volume.{FileContent, Stored, unique_of}
use Rattle.record_lists.specs.Listed.{listed_of}
use Rattle.history_plans.specs.Plans.{number_listed}

-- ---- two lists

pub zip_from : {A B : Type 0} (R : A → B → Type 0) (xs : List A) (ys : List B) → length xs ≡ length ys → ((i : ℕ) (x : A) (y : B) → slice_get xs i ≡ Some x → slice_get ys i ≡ Some y → R x y) → AllZip R xs ys
zip_from R [] [] same each = tt
zip_from R [] (y ∷ ys) same each = absurd (omega (arith, same))
zip_from R (x ∷ xs) [] same each = absurd (omega (arith, same))
zip_from R (x ∷ xs) (y ∷ ys) same each = (each 0 x y refl refl, zip_from R xs ys (omega (arith, same)) (λ i a b one two. each (suc i) a b one two))

-- what stands beside an item in two lists
pub record Beside (R : FileEntry × FileContent → Type 0) (P : FileEntry → FileContent → Type 0) (entries : List FileEntry) (files : List FileContent) (at : ℕ) : Type 0 where
  pub entry : FileEntry
  pub file : FileContent
  pub entry_is : slice_get entries at ≡ Some entry
  pub there : Has files file
  pub both : R (entry, file)
  pub holds : P entry file

pub beside : {A : Type 0} (R : A → FileEntry × FileContent → Type 0) (P : FileEntry → FileContent → Type 0) (xs : List A) (entries : List FileEntry) (files : List FileContent) (at : ℕ) (x : A)
    → AllZip R xs (zip entries files) → AllZip P entries files → slice_get xs at ≡ Some x → Beside (R x) P entries files at
beside R P [] entries files at x one two is = absurd (none-some x is)
beside R P (y ∷ xs) [] files at x one two is = absurd one
beside R P (y ∷ xs) (e ∷ entries) [] at x one two is = absurd one
beside R P (y ∷ xs) (e ∷ entries) (f ∷ files) zero x one two is =
    record { entry = e; file = f; entry_is = refl; there = inl refl; both = subst (λ (z : _). R z (e, f)) (same_Some y x is) one.0; holds = two.0 }
beside R P (y ∷ xs) (e ∷ entries) (f ∷ files) (suc at) x one two is =
    let rest = beside R P xs entries files at x one.1 two.1 is in
    record { entry = rest.entry; file = rest.file; entry_is = rest.entry_is; there = inr rest.there; both = rest.both; holds = rest.holds }

-- ---- records

abbrev stored_at : Place → Record → Stored
stored_at place body = record { place = place; body = body }

-- the record that is read in a row
abbrev pub stored_of : Row → Stored
stored_of row = record { place = row.0; body = record_on row.1 }

-- the number of the version of a row
abbrev pub number_on : Row → ℕ
number_on row = (record_on row.1).head.unique

pub stored_is : (rows : List Row) (stored : List Stored) → AllZip IsStored rows stored → stored ≡ map stored_of rows
stored_is [] [] both = refl
stored_is [] (s ∷ stored) both = absurd both
stored_is (row ∷ rows) [] both = absurd both
stored_is (row ∷ rows) (s ∷ stored) both =
    let body : record_on row.1 ≡ s.body = record_read row.1 s.body both.0.1 in
    let here : stored_of row ≡ s = ap (λ (p : Place). stored_at p (record_on row.1)) both.0.0 ∙ ap (stored_at s.place) body in
    ap (λ (t : Stored). t ∷ stored) (sym here) ∙ ap (λ (ts : List Stored). stored_of row ∷ ts) (stored_is rows stored both.1)

pub readable : (rows : List Row) (stored : List Stored) → AllZip IsStored rows stored → AreReadable rows
readable [] [] both = tt
readable [] (s ∷ stored) both = absurd both
readable (row ∷ rows) [] both = absurd both
readable (row ∷ rows) (s ∷ stored) both = ((s.body, both.0.1), readable rows stored both.1)

-- the body of a row that is there is its record
pub body_read : (rows : List Row) → AreReadable rows → (row : Row) → Has rows row → BodyOf row.1 (record_on row.1)
body_read [] all row there = absurd there
body_read (x ∷ rows) all row (inl e) = subst (λ (r : Row). BodyOf r.1 (record_on r.1)) e (subst (BodyOf x.1) (sym (record_read x.1 all.0.0 all.0.1)) all.0.1)
body_read (x ∷ rows) all row (inr m) = body_read rows all.1 row m

pub in_rows : (rows : List Row) (row : Row) → Has rows row → InRows rows row
in_rows [] row there = absurd there
in_rows (x ∷ rows) row (inl e) = inl e
in_rows (x ∷ rows) row (inr m) = inr (in_rows rows row m)

-- a record of these is read in a row
pub stored_row : (rows : List Row) (s : Stored) → Has (map stored_of rows) s → (row : Row) × Has rows row × (stored_of row ≡ s)
stored_row [] s there = absurd there
stored_row (row ∷ rows) s (inl e) = (row, inl refl, e)
stored_row (row ∷ rows) s (inr m) = let rest = stored_row rows s m in (rest.0, inr rest.1, rest.2)

pub listed_sorted : (rows : List Row) → in_order number_listed (map listed_of rows) ≡ map listed_of (in_order number_on rows)
listed_sorted rows = order_map number_on number_listed listed_of rows (λ row. refl)

pub stored_sorted : (rows : List Row) → in_order unique_of (map stored_of rows) ≡ map stored_of (in_order number_on rows)
stored_sorted rows = order_map number_on unique_of stored_of rows (λ row. refl)
