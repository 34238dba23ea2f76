-- Rows that name each other's places, as records that do.
use Rattle.std.proofs.Common.{[], ◌≡◌, ◌<◌, ◌≤◌, ℕ, suc, Bool, true, false, List, ◌∷◌, length, Option, Some, None, refl, sym, ap, subst, ◌∙◌, inl, inr}
use Rattle.std.specs.Prelude.{filter, if◌then◌else◌}
use Rattle.std.specs.List.{AllByRecursion}
use Rattle.ex_base.specs.declared.geometry.Geometry.{Geometry}
use Rattle.ex_base.specs.declared.names.Place.{Place}
use Rattle.version_lists.proofs.Lists.{Has, contains_has, has_contains, has_map, has_map_from}
use Rattle.object_records.specs.Record.{Record, BodyOf}
use Rattle.object_records.specs.declared.State.{State}
use Rattle.object_records.specs.declared.State.TheVariants.{Current, Frozen}
use Rattle.file_bodies.specs.Bodies.{Row, InPlaceOrder}
use Rattle.volume_model.specs.Volume.{Stored, stands_at}
use Rattle.volume_model.specs.Links.{names_older, stored_from, AreLinked, IsLinked, IsOlder, NewerIs, only_place}
use Rattle.volume_model.proofs.Places.{stands_has, each_has, has_each}
use Rattle.volume_model.proofs.Links.{if_some, some_if}
use Rattle.versions.specs.Found.{IsRecordBody}
use Rattle.versions.proofs.FileRows.{InRows}
use Rattle.version_tree.specs.Bodies.{PlaceChange, body_at}
use Rattle.version_tree.specs.Copies.{Turns, TurnsLink, Unlinks, stays as row_stays, turns as row_turns, had_none as row_had_none, had_one as row_had_one}
use Rattle.version_tree.specs.Linked.{IsLinked as IsLinkedRow, IsOlder as IsOlderRow, NewerIs as NewerIsRow, derived_from, head_in, names_older as row_names, only_place as only_row}
use Rattle.version_tree.specs.Removals.{NamesLink, NamesNewer, only_other as only_other_row, stands_elsewhere as row_elsewhere}
use Rattle.version_tree.proofs.Places.{at_row}
use Rattle.volume_edits.proofs.RecordEdits.{stored_at, stored_of, stored_if}
use Rattle.volume_edits.proofs.RecordUpdates.{LinkComes, LinkTurns, NewerComes, NewerGoes, NewerTurns, gets_none, gets_one, had_none, had_one, only_other, stands_elsewhere, stays, stored_as, turns}
use Rattle.volume_edits.proofs.Rows.{stands_row}
use Rattle.volume_edits.proofs.PlaceChanges.{body_read}

-- ---- what stands at a place

pub row_stands_as : (rows : List Row) (place : Place) (body : List ℕ) (r : Record) → body_at place rows ≡ Some body → BodyOf body r → stands_at place (stored_of rows) ≡ Some (stored_as place r)
row_stands_as rows place body r at is = stands_row rows place ∙ ap (stored_if place) at ∙ body_read place body r is

pub row_stands_at : (rows : List Row) (place : Place) (body : List ℕ) → body_at place rows ≡ Some body → stands_at place (stored_of rows) ≡ Some (stored_at (place, body))
row_stands_at rows place body at = stands_row rows place ∙ ap (stored_if place) at

pub row_vacant : (rows : List Row) (place : Place) → body_at place rows ≡ None → stands_at place (stored_of rows) ≡ None
row_vacant rows place at = stands_row rows place ∙ ap (stored_if place) at

-- ---- those that name a place

filter_rows : (p : Stored → Bool) (q : Row → Bool) (rows : List Row) → ((row : Row) → p (stored_at row) ≡ q row) → filter p (stored_of rows) ≡ stored_of (filter q rows)
filter_rows p q [] same = refl
filter_rows p q (row ∷ rows) same =
    ap (λ (b : Bool). if b then stored_at row ∷ filter p (stored_of rows) else filter p (stored_of rows)) (same row) ∙ by (q row) (filter_rows p q rows same)
  where
    by : (b : Bool) → filter p (stored_of rows) ≡ stored_of (filter q rows) → (if b then stored_at row ∷ filter p (stored_of rows) else filter p (stored_of rows)) ≡ stored_of (if b then row ∷ filter q rows else filter q rows)
    by true rest = ap (λ (l : List Stored). stored_at row ∷ l) rest
    by false rest = rest

pub from_rows : (place : Place) (rows : List Row) → stored_from place (stored_of rows) ≡ stored_of (derived_from place rows)
from_rows place rows = filter_rows (names_older place) (row_names place) rows (λ row. refl)

pub only_rows : (rows : List Row) → only_place (stored_of rows) ≡ only_row rows
only_rows [] = refl
only_rows (row ∷ []) = refl
only_rows (row ∷ (next ∷ rows)) = refl

length_rows : (rows : List Row) → length (stored_of rows) ≡ length rows
length_rows [] = refl
length_rows (row ∷ rows) = ap suc (length_rows rows)

pub other_rows : (gone place : Place) (rows : List Row) → only_other gone (stored_from place (stored_of rows)) ≡ only_other_row gone (derived_from place rows)
other_rows gone place rows =
    ap (only_other gone) (from_rows place rows) ∙ ap only_place (filter_rows (stands_elsewhere gone) (row_elsewhere gone) (derived_from place rows) (λ row. refl)) ∙ only_rows (filter (row_elsewhere gone) (derived_from place rows))

-- ---- links that change

turned_row : (place from to : Place) (body : List ℕ) (others : List PlaceChange) → Turns place body from to others → NewerTurns (stored_at (place, body)) from to others
turned_row place from to body others (row_stays n) = stays n
turned_row place from to body others (row_turns now e b) = turns now e b

pub link_turns : (rows : List Row) (from to : Place) (link : Option Place) (others : List PlaceChange) → TurnsLink rows from to link others → LinkTurns (stored_of rows) from to link others
link_turns rows from to None others t = t
link_turns rows from to (Some place) others t = record { s = stored_at (place, t.body); there = row_stands_at rows place t.body t.there; turned = turned_row place from to t.body others t.turned }

comes_row : (place : Place) (body : List ℕ) (newer : Option Place) (others : List PlaceChange) → NamesNewer place body newer others → NewerComes (stored_at (place, body)) newer others
comes_row place body None others e = subst (NewerComes (stored_at (place, body)) None) (sym e) gets_none
comes_row place body (Some newer) others n = subst (NewerComes (stored_at (place, body)) (Some newer)) (sym n.is) (gets_one n.now newer n.spelled)

pub link_comes : (rows : List Row) (gone : Place) (link : Option Place) (others : List PlaceChange) → NamesLink rows gone link others → LinkComes (stored_of rows) gone link others
link_comes rows gone None others n = n
link_comes rows gone (Some place) others n = record {
  s = stored_at (place, n.body);
  there = row_stands_at rows place n.body n.there;
  comes = subst (λ (o : Option Place). NewerComes (stored_at (place, n.body)) o others) (sym (other_rows gone place rows)) (comes_row place n.body (only_other_row gone (derived_from place rows)) others n.named);
}

pub newer_goes : (place : Place) (is : Record) (others : List PlaceChange) → Unlinks place is others → NewerGoes place is others
newer_goes place is others (row_had_none e) = had_none e
newer_goes place is others (row_had_one now some b) = had_one now some b

-- ---- linked rows are linked records

has_row : (rows : List Row) (row : Row) → Has rows row → InRows rows row
has_row [] row h = absurd h
has_row (x ∷ rows) row (inl e) = inl e
has_row (x ∷ rows) row (inr h) = inr (has_row rows row h)

newer_rows : (state : State) (place : Place) (rows : List Row) (newer : Option Place) → NewerIsRow state (derived_from place rows) newer → NewerIs state (stored_from place (stored_of rows)) newer
newer_rows Current place rows newer n = n
newer_rows Frozen place rows newer n = (
  subst (λ (k : ℕ). 1 ≤ k) (sym (ap length (from_rows place rows) ∙ length_rows (derived_from place rows))) n.0,
  n.1 ∙ sym (ap only_place (from_rows place rows) ∙ only_rows (derived_from place rows)),
)

rows_newer : (state : State) (place : Place) (rows : List Row) (newer : Option Place) → NewerIs state (stored_from place (stored_of rows)) newer → NewerIsRow state (derived_from place rows) newer
rows_newer Current place rows newer n = n
rows_newer Frozen place rows newer n = (
  subst (λ (k : ℕ). 1 ≤ k) (ap length (from_rows place rows) ∙ length_rows (derived_from place rows)) n.0,
  n.1 ∙ ap only_place (from_rows place rows) ∙ only_rows (derived_from place rows),
)

module _ (geo : Geometry) (rows : List Row) (order : InPlaceOrder rows) where
  older_row : (row : Row) (place : Place) → IsOlderRow rows (head_in row.1) place → IsOlder (stored_of rows) (stored_at row) place
  older_row row place o =
      let r = stands_has (stored_of rows) place (stored_at (place, o.body)) (row_stands_at rows place o.body o.there) in
      record { older = stored_at (place, o.body); there = has_contains (stored_of rows) (stored_at (place, o.body)) r.0; place_is = refl; frozen = o.frozen; lower = o.lower }

  row_older : (row : Row) (place : Place) → IsOlder (stored_of rows) (stored_at row) place → IsOlderRow rows (head_in row.1) place
  row_older row place o =
      let r = has_map_from stored_at rows o.older (contains_has (stored_of rows) o.older o.there) in
      let at : body_at r.0.0 rows ≡ Some r.0.1 = at_row rows r.0.0 r.0.1 order (has_row rows r.0 r.1) in
      record {
        body = r.0.1;
        there = ap (λ (p : Place). body_at p rows) (sym (ap (λ (s : Stored). s.place) r.2 ∙ o.place_is)) ∙ at;
        frozen = ap (λ (s : Stored). s.body.head.state) r.2 ∙ o.frozen;
        lower = λ f. subst (λ (s : Stored). s.body.head.unique < (head_in row.1).unique) (sym r.2) (o.lower f);
      }

  pub linked_row : (row : Row) → IsLinkedRow geo rows row → IsLinked (stored_of rows) (stored_at row)
  linked_row row l = record {
    older = if_some (IsOlder (stored_of rows) (stored_at row)) (head_in row.1).older (λ p d. older_row row p (some_if (IsOlderRow rows (head_in row.1)) (head_in row.1).older p l.older d));
    newer = newer_rows (head_in row.1).state row.0 rows (head_in row.1).newer l.newer;
  }

  pub row_linked : (row : Row) → IsRecordBody geo row.1 → IsLinked (stored_of rows) (stored_at row) → IsLinkedRow geo rows row
  row_linked row readable l = record {
    readable = readable;
    older = if_some (IsOlderRow rows (head_in row.1)) (head_in row.1).older (λ p d. row_older row p (some_if (IsOlder (stored_of rows) (stored_at row)) (head_in row.1).older p l.older d));
    newer = rows_newer (head_in row.1).state row.0 rows (head_in row.1).newer l.newer;
  }

  pub linked_rows : AllByRecursion (IsLinkedRow geo rows) rows → AreLinked (stored_of rows)
  linked_rows all = has_each (IsLinked (stored_of rows)) (stored_of rows) (λ s h. let r = has_map_from stored_at rows s h in subst (IsLinked (stored_of rows)) r.2 (linked_row r.0 (each_has (IsLinkedRow geo rows) rows all r.0 r.1)))

  pub rows_linked : AllByRecursion (λ (row : Row). IsRecordBody geo row.1) rows → AreLinked (stored_of rows) → AllByRecursion (IsLinkedRow geo rows) rows
  rows_linked readable all = has_each (IsLinkedRow geo rows) rows (λ row h.
      row_linked row (each_has (λ (x : Row). IsRecordBody geo x.1) rows readable row h) (each_has (IsLinked (stored_of rows)) (stored_of rows) all (stored_at row) (has_map stored_at rows row h)))
