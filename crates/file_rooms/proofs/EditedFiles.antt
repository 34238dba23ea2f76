-- An edit of a file leaves the pages of all files but its place's as they were.
use Rattle.std.proofs.Common.{◌≡◌, ◌≢◌, ◌≤◌, ◌+◌, ◌++◌, ◌∷◌, ℕ, zero, suc, true, false, Bool, List, [], Option, Some, None, refl, sym, ap, subst, ◌∙◌, arith, inl, inr, eqb}
use Rattle.std.specs.Prelude.{Contains, map, ◌==◌, if◌then◌else◌}
use Rattle.std.specs.List.{AllByRecursion}
use Rattle.std.proofs.lemmas.Bool.{eqb-true}
use Rattle.std.proofs.lemmas.Option.{same_Some}
use Rattle.ex_base.specs.declared.ground.Ground as ground
use Rattle.ex_base.specs.declared.geometry.Geometry.{Geometry}
use Rattle.ex_base.specs.declared.names.Index.{Index}
use Rattle.ex_base.specs.declared.names.PageNo.{PageNo}
use Rattle.ex_base.specs.declared.names.Place.{Place}
use Rattle.ex_base.specs.Area.{catalog_no}
use Rattle.ex_base.specs.Ports.{times}
use Rattle.ex_base.proofs.Counts.{same_or_not, contains_times, times-append, times_apart}
use Rattle.file_index.specs.Changes.{count_of}
use Rattle.file_index.specs.Index.{IsIndex, pages_of}
use Rattle.object_files.specs.Catalog.{Catalog, FileEntry}
use Rattle.object_files.specs.Edits.{indexed, entries_on}
use Rattle.slotted_pages.specs.FilePage.{Slot}
use Rattle.slotted_pages.specs.Edits.{slots_of, place_for}
use Rattle.file_bodies.specs.Bodies.{pages_in}
use Rattle.file_bodies.specs.Files.{HasFile, EditsFile, IsPageOf, all_pages, index_at, index_in}
use Rattle.file_bodies.specs.Places.{slot_for}
use Rattle.file_bodies.proofs.Entries.{in_here, in_rest}
use Rattle.file_bodies.proofs.Rows.{each_at, each_of}
use Rattle.file_bodies.proofs.Moving.{Moved, moved, keys_apart, index_apart}
use Rattle.file_rooms.specs.Rooms.{new_len}
use Rattle.file_rooms.specs.Truth.{IsAsBefore, AreAsBefore, AreWhole, at_page}
use Rattle.file_rooms.proofs.StaysTrue.{same_index}

-- an index in the entry of one file leaves the entries of others
in_other : (es : List FileEntry) (file_no level other : ℕ) (root : Option PageNo) → other ≢ file_no → index_in other (map (indexed file_no level root) es) ≡ index_in other es
in_other [] file_no level other root differ = refl
in_other (e ∷ es) file_no level other root differ = by_file (eqb e.file_no file_no) refl (in_other es file_no level other root differ)
  where
    by_file : (t : Bool) → eqb e.file_no file_no ≡ t → index_in other (map (indexed file_no level root) es) ≡ index_in other es → index_in other (map (indexed file_no level root) (e ∷ es)) ≡ index_in other (e ∷ es)
    by_file true is rest =
        let apart : e.file_no ≢ other = (λ same. differ (sym same ∙ eqb-true e.file_no file_no is)) in
        rw is (in_rest other (record e { level = level; root = root }) (map (indexed file_no level root) es) apart ∙ rest ∙ sym (in_rest other e es apart))
    by_file false is rest = rw is (by_other (eqb e.file_no other) refl)
      where
        by_other : (t : Bool) → eqb e.file_no other ≡ t → index_in other (e ∷ map (indexed file_no level root) es) ≡ index_in other (e ∷ es)
        by_other true same = in_here other e (map (indexed file_no level root) es) (eqb-true e.file_no other same) ∙ sym (in_here other e es (eqb-true e.file_no other same))
        by_other false not = rw not rest

-- an entry of the catalog gives an index with its number
index_number : (file_no : ℕ) (es : List FileEntry) (index : Index) → index_in file_no es ≡ Some index → index.file_no ≡ file_no
index_number file_no [] index is = absurd (let e : None ≡ Some index = is in cc)
index_number file_no (e ∷ es) index is = by_file (eqb e.file_no file_no) is (index_number file_no es index)
  where
    here : Index
    here = record { root = e.root; level = e.level; file_no = file_no }

    by_file : (t : Bool) → (if t then Some here else index_in file_no es) ≡ Some index → (index_in file_no es ≡ Some index → index.file_no ≡ file_no) → index.file_no ≡ file_no
    by_file true found rest = ap (λ (i : Index). i.file_no) (sym (same_Some here index found))
    by_file false found rest = rest found

-- what is counted of a page that was held, and none of the file
counted_one : (old now : Bool) (n : ℕ) → old ≡ true → count_of now + 0 ≡ count_of old + n → (now ≡ true) × (n ≡ 0)
counted_one true true n held is = (refl, omega arith)
counted_one true false n held is = absurd (omega arith)
counted_one false now n held is = absurd (let e : false ≡ true = held in cc)

held_one : (t : Bool) (n : ℕ) → 1 ≤ n → n ≤ count_of t → t ≡ true
held_one true n some once = refl
held_one false n some once = absurd (omega arith)

module _ {S : Type 0} (g : ground.Ghosts S) (old new : S) (before after : Index) (place : Place) (was is : Slot) (whole : AreWhole g old) (own : HasFile g old before) (edit : EditsFile g old new before after place was is) where
  geometry : g.geometry new ≡ g.geometry old
  geometry = g.leads_geometry old new edit.changes.leads

  same_slot : (page : ℕ) → g.image new page ≡ g.image old page → slot_for g new page new_len ≡ slot_for g old page new_len
  same_slot page same = ap (λ (y : Geometry). place_for y.page_size (slots_of (g.image new page)) new_len) geometry ∙ ap (λ (t : List ℕ). place_for (g.geometry old).page_size (slots_of t) new_len) same

  entry_same : (file_no : ℕ) → file_no ≢ after.file_no → index_at (g.image new) file_no ≡ index_at (g.image old) file_no
  entry_same file_no differ = ap (λ (c : Catalog). index_in file_no c.entries) edit.catalog ∙ in_other (entries_on (g.image old catalog_no)) after.file_no after.level file_no after.root differ

  -- another file
  module _ (other : Index) (has : HasFile g old other) (differ : other.file_no ≢ after.file_no) where
    -- its pages aren't the catalog's
    not_catalog : (page : ℕ) → 1 ≤ times page (all_pages (g.image old) other) → page ≢ catalog_no
    not_catalog page named same = absurd (omega (arith, subst (λ (n : ℕ). 1 ≤ times n (all_pages (g.image old) other)) same named, times-append catalog_no (pages_in (g.image old) other) (pages_of (g.image old) other.level other.root), keys_apart g old other has, index_apart g old other has.whole))

    -- its pages are none of those of the edited file before
    none_before : (page : ℕ) → 1 ≤ times page (all_pages (g.image old) other) → times page (catalog_no ∷ all_pages (g.image old) before) ≡ 0
    none_before page named =
        times_apart page catalog_no (all_pages (g.image old) before) (not_catalog page named)
        ∙ whole.apart other before has own (λ same. differ (same ∙ sym edit.same_file)) page named

    was_held : (page : ℕ) → 1 ≤ times page (all_pages (g.image old) other) → g.held old page ≡ true
    was_held page named = held_one (g.held old page) (times page (all_pages (g.image old) other)) named (has.once page)

    -- and none of those after: each of them is held still
    none_after : (page : ℕ) → 1 ≤ times page (all_pages (g.image old) other) → (g.held new page ≡ true) × (times page (catalog_no ∷ all_pages (g.image new) after) ≡ 0)
    none_after page named =
        counted_one (g.held old page) (g.held new page) (times page (catalog_no ∷ all_pages (g.image new) after)) (was_held page named)
        (ap (λ (n : ℕ). count_of (g.held new page) + n) (sym (none_before page named)) ∙ edit.changes.counted page)

    image_same : (page : ℕ) → 1 ≤ times page (all_pages (g.image old) other) → g.image new page ≡ g.image old page
    image_same page named = edit.changes.images page (was_held page named) (none_before page named)

    stays : Moved (g.geometry old) other.file_no (g.image old) (g.image new) other.level other.root
    stays = moved (g.geometry old) other.file_no (g.image old) (g.image new) other.level other.root
        (λ p c. image_same p (omega (arith, c, times-append p (pages_in (g.image old) other) (pages_of (g.image old) other.level other.root))))

    all_same : all_pages (g.image new) other ≡ all_pages (g.image old) other
    all_same = ap (λ (t : List ℕ). t ++ pages_of (g.image new) other.level other.root) stays.keys ∙ ap (λ (t : List ℕ). pages_in (g.image old) other ++ t) stays.pages

    page_there : (page : ℕ) → 1 ≤ times page (pages_in (g.image old) other) → 1 ≤ times page (all_pages (g.image old) other)
    page_there page named = omega (arith, named, times-append page (pages_in (g.image old) other) (pages_of (g.image old) other.level other.root))

    once_still : (page n : ℕ) → times page (all_pages (g.image old) other) ≡ n → times page (all_pages (g.image old) other) ≤ count_of (g.held new page)
    once_still page zero none = omega (arith, none)
    once_still page (suc n) some =
        let held = (none_after page (omega (arith, some))).0 in
        subst (λ (t : Bool). times page (all_pages (g.image old) other) ≤ count_of t) (was_held page (omega (arith, some)) ∙ sym held) (has.once page)

    still_whole : HasFile g new other
    still_whole = record {
      catalog = edit.file.catalog;
      entry = entry_same other.file_no differ ∙ has.entry;
      whole = subst (λ (y : Geometry). IsIndex y (g.image new) other.file_no other.level other.root) (sym geometry) (stays.whole has.whole);
      pages = subst (AllByRecursion (λ q. IsPageOf other.file_no (g.image new q))) (sym stays.keys)
          (each_of (λ q. IsPageOf other.file_no (g.image new q)) (pages_in (g.image old) other)
          (λ q c. subst (IsPageOf other.file_no) (sym (image_same q (page_there q c))) (each_at (λ q. IsPageOf other.file_no (g.image old q)) (pages_in (g.image old) other) q has.pages c)));
      once = λ page. subst (λ (ps : List ℕ). times page ps ≤ count_of (g.held new page)) (sym all_same) (once_still page (times page (all_pages (g.image old) other)) refl);
    }

    -- no page of it is one of the edited file
    apart_after : (page : ℕ) → 1 ≤ times page (all_pages (g.image new) other) → times page (all_pages (g.image new) after) ≡ 0
    apart_after page named =
        let there = subst (λ (ps : List ℕ). 1 ≤ times page ps) all_same named in
        sym (times_apart page catalog_no (all_pages (g.image new) after) (not_catalog page there)) ∙ (none_after page there).1

    other_before : (page : ℕ) → Contains (pages_in (g.image new) other) page → IsAsBefore g old new other.file_no page
    other_before page named =
        let there : Contains (pages_in (g.image old) other) page = subst (λ (ps : List ℕ). Contains ps page) stays.keys named in
        record {
          index = other;
          file = has;
          same_file = refl;
          named = there;
          room = same_slot page (image_same page (page_there page (contains_times page (pages_in (g.image old) other) there)));
        }

  -- another file now was whole before
  was_whole : (other : Index) → HasFile g new other → other.file_no ≢ after.file_no → HasFile g old other
  was_whole other has differ = whole.files.each other.file_no other (sym (entry_same other.file_no differ) ∙ has.entry)

  pub edit_before : AreAsBefore g old new (at_page place.page.0)
  edit_before index has page named differ = elim (same_or_not index.file_no after.file_no) [
    | inl same ↦
        let here : Contains (pages_in (g.image new) after) page = subst (λ (i : Index). Contains (pages_in (g.image new) i) page) (same_index g new index after has edit.file same) named in
        let old_page = edit.others page differ here in
        record {
          index = before;
          file = own;
          same_file = sym edit.same_file ∙ sym same;
          named = old_page.0;
          room = same_slot page old_page.1;
        }
    | inr other ↦ other_before index (was_whole index has other) other page named
  ]

  each_file : (file_no : ℕ) (index : Index) → index_at (g.image new) file_no ≡ Some index → HasFile g new index
  each_file file_no index found = elim (same_or_not file_no after.file_no) [
    | inl same ↦ subst (HasFile g new) (same_Some after index (sym edit.file.entry ∙ subst (λ (n : ℕ). index_at (g.image new) n ≡ Some index) same found)) edit.file
    | inr other ↦
        let number = index_number file_no (entries_on (g.image new catalog_no)) index found in
        still_whole index (whole.files.each file_no index (sym (entry_same file_no other) ∙ found)) (λ same. other (sym number ∙ same))
  ]

  none_or_some : (n : ℕ) → (1 ≤ n → ⊥) → n ≡ 0
  none_or_some zero never = refl
  none_or_some (suc n) never = absurd (never (omega arith))

  apart_now : (a b : Index) → HasFile g new a → HasFile g new b → a.file_no ≢ b.file_no → (page : ℕ) → 1 ≤ times page (all_pages (g.image new) a) → times page (all_pages (g.image new) b) ≡ 0
  apart_now a b has_a has_b differ page named = elim (same_or_not a.file_no after.file_no) [
    | inl a_same ↦
        let b_other : b.file_no ≢ after.file_no = (λ same. differ (a_same ∙ sym same)) in
        let here = subst (λ (i : Index). 1 ≤ times page (all_pages (g.image new) i)) (same_index g new a after has_a edit.file a_same) named in
        none_or_some (times page (all_pages (g.image new) b)) (λ there. absurd (omega (arith, here, apart_after b (was_whole b has_b b_other) b_other page there)))
    | inr a_other ↦ elim (same_or_not b.file_no after.file_no) [
      | inl b_same ↦ subst (λ (i : Index). times page (all_pages (g.image new) i) ≡ 0) (sym (same_index g new b after has_b edit.file b_same)) (apart_after a (was_whole a has_a a_other) a_other page named)
      | inr b_other ↦
          let was_a = was_whole a has_a a_other in
          let was_b = was_whole b has_b b_other in
          subst (λ (ps : List ℕ). times page ps ≡ 0) (sym (all_same b was_b b_other)) (whole.apart a b was_a was_b differ page (subst (λ (ps : List ℕ). 1 ≤ times page ps) (all_same a was_a a_other) named))
    ]
  ]

  pub edit_whole : AreWhole g new
  edit_whole = record { files = record { catalog = edit.file.catalog; each = each_file }; apart = apart_now }
