-- Rows, and the records that they are read as.
use Rattle.std.proofs.Common.{[], ◌≡◌, ℕ, Bool, true, false, List, ◌∷◌, Some, None, IfSome, refl, sym, ap, subst, ◌∙◌, inl, inr}
use Rattle.std.specs.Prelude.{if◌then◌else◌}
use Rattle.std.specs.List.{AllByRecursion, AllZip}
use Rattle.std.proofs.lemmas.Option.{same_Some, none-some}
use Rattle.ex_base.specs.declared.names.Place.{Place}
use Rattle.ex_base.specs.Places.{same_place}
use Rattle.ex_base.proofs.SamePlaces.{same_place_is}
use Rattle.version_lists.proofs.Lists.{Has}
use Rattle.slotted_pages.specs.FilePage.{Slot}
use Rattle.object_records.specs.Record.{Record, BodyOf}
use Rattle.object_records.specs.Reads.{record_on}
use Rattle.object_records.proofs.RecordLaws.{record_read}
use Rattle.file_bodies.specs.Bodies.{Row, IsBefore, InPlaceOrder}
use Rattle.volume_model.specs.Volume.{Stored, stands_at}
use Rattle.volume_model.specs.Parts.{IsStored}
use Rattle.volume_model.specs.Links.{place_in, PlacesDiffer}
use Rattle.volume_model.proofs.Places.{Sep, sep_to}
use Rattle.versions.proofs.FileRows.{InRows}
use Rattle.versions.proofs.RowsListed.{later, tail_order}
use Rattle.version_tree.specs.Bodies.{PlaceChange, body_at, changed_at}
use Rattle.version_tree.proofs.Places.{before_differs, row_at, at_row}
use Rattle.volume_edits.proofs.RecordEdits.{stored_at, stored_of, EditsStored, IsWritten, stored_after, stored_if}

-- ---- rows in order

behind : (row : Row) (rows : List Row) (s : Stored) → AllByRecursion (λ (r : Row). IsBefore row.0 r.0) rows → Has (stored_of rows) s → row.0 ≡ s.place → ⊥
behind row [] s all h e = absurd h
behind row (x ∷ rows) s all (inl is) e = before_differs row.0 x.0 all.0 (e ∙ ap place_in (sym is))
behind row (x ∷ rows) s all (inr h) e = behind row rows s all.1 h e

pub rows_apart : (rows : List Row) → InPlaceOrder rows → Sep place_in (stored_of rows)
rows_apart [] order = tt
rows_apart (row ∷ rows) order = (λ s h e. behind row rows s (later row rows order) h e, rows_apart rows (tail_order row rows order))

pub rows_differ : (rows : List Row) → InPlaceOrder rows → PlacesDiffer (stored_of rows)
rows_differ rows order = sep_to place_in (stored_of rows) (rows_apart rows order)

-- ---- rows that are read

read_as : (row : Row) (s : Stored) → IsStored row s → s ≡ stored_at row
read_as row s is = ap (λ (r : Record). let t : Stored = record { place = s.place; body = r } in t) (sym (record_read row.1 s.body is.1)) ∙ ap (λ (p : Place). let t : Stored = record { place = p; body = record_on row.1 } in t) (sym is.0)

pub all_read : (rows : List Row) (stored : List Stored) → AllZip IsStored rows stored → stored ≡ stored_of rows
all_read [] [] z = refl
all_read [] (s ∷ stored) z = absurd z
all_read (row ∷ rows) [] z = absurd z
all_read (row ∷ rows) (s ∷ stored) z = ap (λ (t : Stored). t ∷ stored) (read_as row s z.0) ∙ ap (λ (rest : List Stored). stored_at row ∷ rest) (all_read rows stored z.1)

abbrev Reads : List ℕ → Type 0
Reads body = (is : Record) × BodyOf body is

zip_row : (rows : List Row) (stored : List Stored) (row : Row) → AllZip IsStored rows stored → InRows rows row → Reads row.1
zip_row [] stored row z h = absurd h
zip_row (x ∷ rows) [] row z h = absurd z
zip_row (x ∷ rows) (s ∷ stored) row z (inl e) = (s.body, subst (λ (r : Row). BodyOf r.1 s.body) e z.0.1)
zip_row (x ∷ rows) (s ∷ stored) row z (inr h) = zip_row rows stored row z.1 h

row_zip : (rows : List Row) → ((row : Row) → InRows rows row → Reads row.1) → AllZip IsStored rows (stored_of rows)
row_zip [] each = tt
row_zip (row ∷ rows) each =
    let r = each row (inl refl) in
    ((refl, subst (λ (is : Record). BodyOf row.1 is) (sym (record_read row.1 r.0 r.1)) r.1), row_zip rows (λ x h. each x (inr h)))

-- ---- rows that change

pub stands_row : (rows : List Row) (place : Place) → stands_at place (stored_of rows) ≡ stored_if place (body_at place rows)
stands_row [] place = refl
stands_row (row ∷ rows) place = by_test (same_place row.0 place) refl (stands_row rows place)
  where
    by_test : (b : Bool) → same_place row.0 place ≡ b → stands_at place (stored_of rows) ≡ stored_if place (body_at place rows)
        → (if b then Some (stored_at row) else stands_at place (stored_of rows)) ≡ stored_if place (if b then Some row.1 else body_at place rows)
    by_test true is rest = ap (λ (p : Place). Some (stored_at (p, row.1))) (same_place_is row.0 place is)
    by_test false is rest = rest

changed_row : (changes : List PlaceChange) (place : Place) (was : Slot) → stored_if place (changed_at changes place was) ≡ stored_after changes place (stored_if place was)
changed_row [] place was = refl
changed_row (change ∷ changes) place was = by_test (same_place change.0 place) (changed_row changes place was)
  where
    by_test : (b : Bool) → stored_if place (changed_at changes place was) ≡ stored_after changes place (stored_if place was)
        → stored_if place (if b then change.1 else changed_at changes place was) ≡ (if b then stored_if place change.1 else stored_after changes place (stored_if place was))
    by_test true rest = refl
    by_test false rest = rest

module _ (before after : List Row) (changes : List PlaceChange) (order : InPlaceOrder after) (bodies : (place : Place) → body_at place after ≡ changed_at changes place (body_at place before)) where
  pub rows_edit : InPlaceOrder before → EditsStored (stored_of before) (stored_of after) changes
  rows_edit first = record {
    places = rows_differ before first;
    later_places = rows_differ after order;
    at = λ place. stands_row after place ∙ ap (stored_if place) (bodies place) ∙ changed_row changes place (body_at place before) ∙ ap (stored_after changes place) (sym (stands_row before place));
  }

  written : (stored : List Stored) (cs : List PlaceChange) (place : Place) (body : List ℕ) → AllZip IsStored before stored → AllByRecursion IsWritten cs → changed_at cs place (body_at place before) ≡ Some body → Reads body
  written stored [] place body z all is = zip_row before stored (place, body) z (row_at before place body is)
  written stored (c ∷ cs) place body z all is = by_test (same_place c.0 place) (written stored cs place body z all.1) is
    where
      here : (s : Slot) → IfSome s Reads → s ≡ Some body → Reads body
      here None w e = absurd (none-some body e)
      here (Some was) w e = subst Reads (same_Some was body e) w

      by_test : (b : Bool) → (changed_at cs place (body_at place before) ≡ Some body → Reads body) → (if b then c.1 else changed_at cs place (body_at place before)) ≡ Some body → Reads body
      by_test true rest e = here c.1 all.0 e
      by_test false rest e = rest e

  pub rows_read : (stored : List Stored) → AllZip IsStored before stored → AllByRecursion IsWritten changes → AllZip IsStored after (stored_of after)
  rows_read stored z all = row_zip after (λ row h. written stored changes row.0 row.1 z all (sym (bodies row.0) ∙ at_row after row.0 row.1 order h))
