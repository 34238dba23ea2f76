-- What the table of a volume tells of a version's place in its tree: its older one and what is derived from it, as its file's records tell it.
use Rattle.std.proofs.Common.{◌≡◌, ◌≤◌, ℕ, true, List, [], ◌∷◌, length, Option, Some, None, refl, sym, ap, subst, ◌∙◌, arith}
use Rattle.std.specs.Prelude.{map, ◌↔◌, IsSome, nat_le, option_map}
use Rattle.std.specs.List.{AllByRecursion, AllZip, flat_map}
use Rattle.std.specs.List.Sorted.{IsPermutation}
use Rattle.std.proofs.lemmas.Bool.{false≢true, leb-true}
use Rattle.std.proofs.lemmas.List.{length-map}
use Rattle.std.proofs.lemmas.List.Sorted.{length_permutation}
use Rattle.std.proofs.lemmas.Option.{none-some, same_Some}
use Rattle.ex_base.specs.declared.names.Oid.{Oid}
use Rattle.ex_base.specs.declared.names.Place.{Place}
use Rattle.ex_base.proofs.Members.{in_contains}
use Rattle.object_files.specs.Catalog.{FileEntry}
use Rattle.object_records.specs.declared.Head.{Head}
use Rattle.object_records.specs.declared.State.TheVariants.{Frozen}
use Rattle.file_bodies.specs.Bodies.{Row, InPlaceOrder}
use Rattle.trees.specs.Trees.{Units}
use Rattle.version_lists.specs.declared.version.Version.{Version}
use Rattle.version_lists.specs.Versions.{unique_of as number_of, derived_from, is_derived_from, numbered_in}
use Rattle.version_lists.proofs.Lists.{Has, contains_has, has_contains, has_filter, has_filter_from, has_map, has_map_from}
use Rattle.version_lists.proofs.Links.{derived_has, older_of}
use Rattle.table_model.specs.Refusals.{has_one, is_only_one}
use Rattle.versions.specs.Listed.{oid_at}
use Rattle.version_tree.specs.Bodies.{body_at}
use Rattle.version_tree.specs.Linked.{OidAt, head_in, oid_of_row, oids_from}
use Rattle.version_tree.specs.Linked as linked_rows
use Rattle.version_tree.specs.Removals.{IsBranch}
use Rattle.version_tree.proofs.Linking.{in_rows}
use Rattle.version_tree.proofs.Places.{at_row}
use Rattle.volume_model.specs.Links.{HaveOlders, IsLinked, IsOlder, names_older, only_place, stored_from}
use Rattle.volume_model.specs.Parts.{IsStored}
use Rattle.volume_model.specs.Volume.{Stored, FileContent, is_frozen, number_at, oid_of, stands_at, unique_of, version_of, versions_stored}
use Rattle.volume_model.proofs.Links.{linked_olders, named, names, newer_of_frozen, older_at}
use Rattle.volume_model.proofs.Numbers.{derived_by_place, number_there, place_by_derived}
use Rattle.volume_model.proofs.Places.{Sep, each_has, has_stands, sep_filter, sep_map}
use Rattle.volume_model.proofs.States.{is_frozen_state}
use Rattle.volume_model.proofs.Versions.{has_stored, stored_has}
use Rattle.volume_edits.proofs.FileVersions.{IsFile, all_of, found_by_number, from_table, into_table, linked_file, one_record, table_apart}
use Rattle.volume_edits.proofs.Finding.{row_stored}
use Rattle.volume_model.proofs.InOrder.{permuted_by}
use Rattle.volume_edits.proofs.Lists.{Paired}
use Rattle.volume_edits.proofs.RecordEdits.{stored_at, stored_of}
use Rattle.volume_edits.proofs.RowLinks.{from_rows, row_stands_at}
use Rattle.volume_edits.proofs.Rows.{all_read}

abbrev number_in : Oid → ℕ
number_in oid = oid.unique

abbrev oid_in : Version → Oid
oid_in w = w.oid

number_read : (units : Units) (f : FileContent) (s : Stored) (w : Version) (n : ℕ) → version_of units f.stored s ≡ w → number_of w ≡ n → unique_of s ≡ n
number_read units f s w n is number = ap number_of is ∙ number

module _ (units : Units) (entries : List FileEntry) (files : List FileContent) (paired : Paired entries files) (whole : AllByRecursion IsFile files) (differ : Sep unique_of (flat_map (λ (f : FileContent). f.stored) files))
    (f : FileContent) (there : Has files f) where
  -- the versions of the table
  abbrev pub vs : List Version
  vs = all_of units entries files

  abbrev file : IsFile f
  file = each_has IsFile files whole f there

  olders : HaveOlders f.stored
  olders = linked_olders f.stored file.links

  abbrev pub read_as : Stored → Version
  read_as x = version_of units f.stored x

  apart : Sep number_of vs
  apart = table_apart units entries files whole differ

  -- what is derived from a version of the file is so in the file
  derived_there : (x : Stored) → Has f.stored x → (w : Version) → Has (derived_from (unique_of x) vs) w → (y : Stored) × Has (stored_from x.place f.stored) y × (read_as y ≡ w)
  derived_there x inside w h =
      let d = derived_has vs (unique_of x) w h in
      let r = from_table units entries files whole w d.0 in
      let own = each_has IsFile files whole r.f r.file in
      let linked = linked_file units r.f own in
      let w_in : Has (versions_stored units r.f.stored) w = subst (Has (versions_stored units r.f.stored)) r.is (stored_has units r.f.stored r.x r.stored) in
      let o = older_of (versions_stored units r.f.stored) w (unique_of x) (linked.1 w w_in) d.1 in
      let s = has_stored units r.f.stored o.older (contains_has (versions_stored units r.f.stored) o.older o.there) in
      let number : unique_of s.0 ≡ unique_of x = number_read units r.f s.0 o.older (unique_of x) s.2 o.number_is in
      let same : r.f ≡ f = one_record files differ r.f f s.0 x r.file there s.1 inside number in
      let stored : Has f.stored r.x = subst (λ (c : FileContent). Has c.stored r.x) same r.stored in
      let is : read_as r.x ≡ w = subst (λ (c : FileContent). version_of units c.stored r.x ≡ w) same r.is in
      let test : is_derived_from (unique_of x) (read_as r.x) ≡ true = subst (λ (u : Version). is_derived_from (unique_of x) u ≡ true) (sym is) (has_filter_from (is_derived_from (unique_of x)) vs w h).1 in
      (r.x, names x.place f.stored r.x stored (place_by_derived units f.stored file.places file.numbers olders r.x x stored inside test), is)

  derived_here : (x : Stored) → Has f.stored x → (y : Stored) → Has (stored_from x.place f.stored) y → Has (derived_from (unique_of x) vs) (read_as y)
  derived_here x inside y h =
      let r = named x.place f.stored y h in
      has_filter (is_derived_from (unique_of x)) vs (read_as y) (into_table units entries files paired whole f y there r.0) (derived_by_place units f.stored file.places file.numbers olders y x r.0 inside r.1)

  pub derived_oids : (x : Stored) → Has f.stored x → IsPermutation (map oid_in (derived_from (unique_of x) vs)) (map oid_of (stored_from x.place f.stored))
  derived_oids x inside =
      permuted_by number_in (map oid_in (derived_from (unique_of x) vs)) (map oid_of (stored_from x.place f.stored))
      (sep_map oid_in number_in (derived_from (unique_of x) vs) (sep_filter number_of (is_derived_from (unique_of x)) vs apart))
      (sep_map oid_of number_in (stored_from x.place f.stored) (sep_from_place x.place)) to from
    where
      sep_from_place : (place : Place) → Sep unique_of (stored_from place f.stored)
      sep_from_place place = sep_filter unique_of (names_older place) f.stored file.numbers

      to : (z : Oid) → Has (map oid_in (derived_from (unique_of x) vs)) z → Has (map oid_of (stored_from x.place f.stored)) z
      to z m =
          let w = has_map_from oid_in (derived_from (unique_of x) vs) z m in
          let y = derived_there x inside w.0 w.1 in
          subst (Has (map oid_of (stored_from x.place f.stored))) (ap oid_in y.2 ∙ w.2) (has_map oid_of (stored_from x.place f.stored) y.0 y.1)

      from : (z : Oid) → Has (map oid_of (stored_from x.place f.stored)) z → Has (map oid_in (derived_from (unique_of x) vs)) z
      from z m =
          let y = has_map_from oid_of (stored_from x.place f.stored) z m in
          subst (Has (map oid_in (derived_from (unique_of x) vs))) y.2 (has_map oid_in (derived_from (unique_of x) vs) (read_as y.0) (derived_here x inside y.0 y.1))

  pub derived_many : (x : Stored) → Has f.stored x → length (derived_from (unique_of x) vs) ≡ length (stored_from x.place f.stored)
  derived_many x inside =
      sym (length-map (derived_from (unique_of x) vs) oid_in) ∙ sym (length_permutation (map oid_in (derived_from (unique_of x) vs)) (map oid_of (stored_from x.place f.stored)) (derived_oids x inside))
      ∙ length-map (stored_from x.place f.stored) oid_of

  -- ---- the newer place of a frozen record

  newer_is : (x : Stored) → Has f.stored x → x.body.head.state ≡ Frozen → (1 ≤ length (stored_from x.place f.stored)) × (x.body.head.newer ≡ only_place (stored_from x.place f.stored))
  newer_is x inside frozen = newer_of_frozen x.body.head.state (stored_from x.place f.stored) x.body.head.newer frozen (each_has (IsLinked f.stored) f.stored file.links x inside).newer

  one_named : (xs : List Stored) → length xs ≡ 1 → IsSome (only_place xs)
  one_named [] one = absurd (omega (arith, one))
  one_named (x ∷ []) one = refl
  one_named (x ∷ y ∷ xs) one = absurd (omega (arith, one))

  named_one : (xs : List Stored) → IsSome (only_place xs) → length xs ≡ 1
  named_one [] some = absurd (false≢true some)
  named_one (x ∷ []) some = refl
  named_one (x ∷ y ∷ xs) some = absurd (false≢true some)

  pub newer_told : (x : Stored) → Has f.stored x → is_frozen x.body.head.state ≡ true → (length (derived_from (unique_of x) vs) ≡ 1) ↔ IsSome x.body.head.newer
  newer_told x inside frozen =
      let is = newer_is x inside (is_frozen_state x.body.head.state frozen) in (
        (λ one. subst IsSome (sym is.1) (one_named (stored_from x.place f.stored) (sym (derived_many x inside) ∙ one))),
        (λ some. derived_many x inside ∙ named_one (stored_from x.place f.stored) (subst IsSome is.1 some)),
      )

  -- ---- the older one

  older_number : (x : Stored) (place : Place) → x.body.head.older ≡ Some place → (o : IsOlder f.stored x place) → (read_as x).older ≡ Some (unique_of o.older)
  older_number x place is o = ap (number_at f.stored) is ∙ number_there units f.stored file.places file.numbers olders o.older place (contains_has f.stored o.older o.there) o.place_is

  pub first_told : (x : Stored) → Has f.stored x → (x.body.head.older ≡ None) ↔ ((read_as x).older ≡ None)
  first_told x inside = by x.body.head.older refl
    where
      by : (link : Option Place) → x.body.head.older ≡ link → (x.body.head.older ≡ None) ↔ ((read_as x).older ≡ None)
      by None is = ((λ e. ap (number_at f.stored) is), (λ e. is))
      by (Some place) is =
          let o = older_at f.stored olders x inside place is in (
            (λ e. absurd (none-some place (sym e ∙ is))),
            (λ e. absurd (none-some (unique_of o.older) (sym e ∙ older_number x place is o))),
          )

  -- ---- as rows

  module _ (rows : List Row) (order : InPlaceOrder rows) (records : AllZip IsStored rows f.stored) where
    stored_is : f.stored ≡ stored_of rows
    stored_is = all_read rows f.stored records

    row_oids : (ds : List Row) → map oid_of (stored_of ds) ≡ map oid_of_row ds
    row_oids [] = refl
    row_oids (d ∷ ds) = ap (λ (t : List Oid). oid_of_row d ∷ t) (row_oids ds)

    pub oids_are : (place : Place) → map oid_of (stored_from place f.stored) ≡ oids_from place rows
    oids_are place = ap (λ (xs : List Stored). map oid_of (stored_from place xs)) stored_is ∙ ap (map oid_of) (from_rows place rows) ∙ row_oids (linked_rows.derived_from place rows)

    -- the body of a record
    body_there : (x : Stored) → Has f.stored x → (body : List ℕ) × (body_at x.place rows ≡ Some body)
    body_there x inside =
        let r = row_stored x rows f.stored records (in_contains x f.stored (has_contains f.stored x inside)) in
        (r.0.1, ap (λ (p : Place). body_at p rows) (sym r.2.0) ∙ at_row rows r.0.0 r.0.1 order (in_rows r.0 rows r.1))

    head_there : (x : Stored) → Has f.stored x → (place : Place) → x.place ≡ place → (body : List ℕ) → body_at place rows ≡ Some body → head_in body ≡ x.body.head
    head_there x inside place is body at =
        let found : stands_at place f.stored ≡ Some (stored_at (place, body)) = ap (stands_at place) stored_is ∙ row_stands_at rows place body at in
        ap (λ (s : Stored). s.body.head) (same_Some (stored_at (place, body)) x (sym found ∙ has_stands f.stored place x file.places inside is))

    pub only_told : (x : Stored) → Has f.stored x → (is_only_one vs (Some (read_as x)) ≡ true) ↔ (IsBranch rows x.body.head.older → ⊥)
    only_told x inside = by x.body.head.older refl
      where
        few : (n : ℕ) → nat_le n 1 ≡ true → n ≤ 1
        few n e = leb-true n 1 e

        many : (ds : List Stored) → (only_place ds ≡ None → ⊥) → nat_le (length ds) 1 ≡ true
        many [] none = refl
        many (d ∷ []) none = refl
        many (d ∷ e ∷ ds) none = absurd (none refl)

        by : (link : Option Place) → x.body.head.older ≡ link → (is_only_one vs (Some (read_as x)) ≡ true) ↔ (IsBranch rows x.body.head.older → ⊥)
        by None is = (
          (λ e. absurd (false≢true (sym (ap (λ (l : Option Place). has_one vs (number_at f.stored l)) is) ∙ e))),
          (λ never. absurd (never (subst (IsBranch rows) (sym is) tt))),
        )
        by (Some place) is =
            let o = older_at f.stored olders x inside place is in
            let here : Has f.stored o.older = contains_has f.stored o.older o.there in
            let newer = newer_is o.older here o.frozen in
            let test : is_only_one vs (Some (read_as x)) ≡ nat_le (length (stored_from o.older.place f.stored)) 1 = ap (has_one vs) (older_number x place is o) ∙ ap (λ (n : ℕ). nat_le n 1) (derived_many o.older here) in (
              (λ e b.
                  let shared : IsBranch rows (Some place) = subst (IsBranch rows) is b in
                  let one : length (stored_from o.older.place f.stored) ≡ 1 = (let l = few (length (stored_from o.older.place f.stored)) (sym test ∙ e) in let m = newer.0 in omega (arith, l, m)) in
                  let head = head_there o.older here place o.place_is shared.body shared.there in
                  let none : only_place (stored_from o.older.place f.stored) ≡ None = sym newer.1 ∙ ap (λ (h : Head). h.newer) (sym head) ∙ shared.many in
                  absurd (false≢true (subst IsSome none (one_named (stored_from o.older.place f.stored) one)))),
              (λ never. test ∙ many (stored_from o.older.place f.stored) (λ none.
                  let b = body_there o.older here in
                  let at : body_at place rows ≡ Some b.0 = ap (λ (p : Place). body_at p rows) (sym o.place_is) ∙ b.1 in
                  let head = head_there o.older here place o.place_is b.0 at in
                  never (subst (IsBranch rows) (sym is) (record { body = b.0; there = at; many = ap (λ (h : Head). h.newer) head ∙ newer.1 ∙ none })))),
            )

    pub older_told : (x : Stored) → Has f.stored x → (found : Option Oid) → OidAt rows x.body.head.older found → found ≡ option_map oid_in (numbered_in vs (read_as x).older)
    older_told x inside found at = by x.body.head.older refl
      where
        by : (link : Option Place) → x.body.head.older ≡ link → found ≡ option_map oid_in (numbered_in vs (read_as x).older)
        by None is =
            let none : OidAt rows None found = subst (λ (l : Option Place). OidAt rows l found) is at in
            none ∙ sym (ap (λ (l : Option Place). option_map oid_in (numbered_in vs (number_at f.stored l))) is)
        by (Some place) is =
            let o = older_at f.stored olders x inside place is in
            let here : Has f.stored o.older = contains_has f.stored o.older o.there in
            let told : numbered_in vs (read_as x).older ≡ Some (read_as o.older) = ap (numbered_in vs) (older_number x place is o) ∙ found_by_number vs (read_as o.older) (unique_of o.older) apart (into_table units entries files paired whole f o.older there here) refl in
            own found place o.older here o.place_is (subst (λ (l : Option Place). OidAt rows l found) is at) ∙ sym (ap (option_map oid_in) told)
          where
            own : (oid : Option Oid) (place : Place) (y : Stored) → Has f.stored y → y.place ≡ place → OidAt rows (Some place) oid → oid ≡ Some (oid_of y)
            own None place y h p a = absurd a
            own (Some oid) place y h p a =
                let head = head_there y h place p a.body a.there in
                ap Some (a.is ∙ ap (λ (d : Head). oid_at place d.unique) head ∙ ap (λ (q : Place). oid_at q (unique_of y)) (sym p))
