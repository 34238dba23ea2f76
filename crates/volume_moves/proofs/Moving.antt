-- A version whose tree gives way to another one of the same bytes makes a volume of the same table.
use Rattle.std.proofs.Common.{◌≡◌, ◌≢◌, ℕ, ◌+◌, ◌<◌, ◌≤◌, true, false, true≢false, Bool, List, [], ◌∷◌, ◌++◌, Some, refl, sym, ap, subst, ◌∙◌, arith, inl, inr, ◌⊎◌}
use Rattle.std.specs.Prelude.{map, Contains, if◌then◌else◌}
use Rattle.std.specs.List.{flat_map, AllByRecursion, AllZip}
use Rattle.std.proofs.lemmas.List.{append_assoc, map-append}
use Rattle.std.proofs.lemmas.List.Concat.{flat_map-append}
use Rattle.ex_base.specs.declared.ground.Ground as ground
use Rattle.ex_base.specs.declared.names.Oid.{Oid}
use Rattle.ex_base.specs.declared.names.PageNo.{PageNo}
use Rattle.ex_base.specs.declared.names.Place.{Place}
use Rattle.ex_base.specs.declared.names.Root.{Root}
use Rattle.ex_base.specs.Area.{catalog_no}
use Rattle.ex_base.specs.Order.{AllDiffer}
use Rattle.ex_base.specs.Ports.{times}
use Rattle.ex_base.proofs.Counts.{contains_times, times-append}
use Rattle.ex_base.proofs.Each.{each_as, each_mapped, each_unmapped, split_each}
use Rattle.ex_base.proofs.Members.{In, contains_in, each_in, from_flat, in_contains, in_either, in_left, in_right, into_flat, of_each}
use Rattle.ex_base.proofs.Rows.{each-append}
use Rattle.op_log.specs.declared.record.LogRecord.{LogRecord}
use Rattle.ex_base.specs.declared.names.Index.{Index}
use Rattle.file_index.specs.Changes.{count_of}
use Rattle.file_index.specs.Index.{IsFilesPage, pages_of}
use Rattle.file_index.proofs.Counts.{count_most, is_counted}
use Rattle.file_index.proofs.Heights.{keys_of_pages}
use Rattle.file_bodies.specs.Bodies.{Row, InPlaceOrder, bodies_of, pages_in}
use Rattle.file_bodies.specs.Files.{HasFile, all_pages}
use Rattle.file_bodies.proofs.Moving.{moved}
use Rattle.file_bodies.proofs.Ordered.{ordered}
use Rattle.file_bodies.proofs.Rows.{each_at}
use Rattle.object_files.specs.Catalog.{CatalogOf}
use Rattle.object_records.specs.Record.{Large, Record, BodyOf}
use Rattle.object_records.specs.declared.Head.{Head}
use Rattle.object_records.proofs.RecordLaws.{record_read}
use Rattle.trees.specs.Trees.{Units, root_units}
use Rattle.trees.specs.Made.{Has as HasUnit, IsTaken}
use Rattle.version_lists.specs.declared.version.Version.{Version}
use Rattle.version_lists.specs.Sorted.{in_order}
use Rattle.version_lists.specs.Versions.{unique_of as number_of, has_oid}
use Rattle.version_lists.specs.Changes.{bytes_changed, edited_in}
use Rattle.version_lists.specs.Objects.{objects_formed}
use Rattle.version_lists.proofs.Sorted.{order_left}
use Rattle.version_lists.proofs.Lists.{Has, contains_has, has_back, has_contains, has_either, has_front}
use Rattle.versions.specs.Versions.{HasVersion, IsTreeUnit, place_of}
use Rattle.versions.proofs.FileRows.{InRows, in_mid}
use Rattle.version_tree.specs.Bodies.{PlaceChange, body_at, changed_at}
use Rattle.version_tree.proofs.Places.{at_row, put_at}
use Rattle.volume_model.specs.Links.{AreLinked, HasObjects, NumbersDiffer, place_in, stored_units}
use Rattle.volume_model.specs.Parts.{HasUniques, IsStored}
use Rattle.volume_model.specs.Volume.{Stored, Volume, content_in, oid_of, root_in, roots_in, stored_in, table_of, unique_of, versions_stored}
use Rattle.volume_model.proofs.Links.{linked_olders}
use Rattle.volume_model.proofs.Places.{Sep, has_each, has_stands, sep_from, sep_to}
use Rattle.volume_model.proofs.Versions.{stored_rises}
use Rattle.volume_edits.specs.Ported.{IsVolume, IsApart, units_in}
use Rattle.volume_edits.specs.Edits.{trees_of}
use Rattle.volume_moves.specs.Moves.{AreOfOneObject, InstallsRoot, IsObjectUnit, MovesTree, ReplacesRoot, TurnsRecord}
use Rattle.trees.specs.Owners.{root_pages}
use Rattle.volume_edits.proofs.Editing.{is_edited, keeps_links, keeps_objects}
use Rattle.volume_edits.proofs.Edited.{Edit, all_kept, edited, fine_root, olds, own_kept, own_trees as file_trees, places_after, table_edited, tree_moved, trees_from, units_kept}
use Rattle.volume_edits.proofs.FileBefore.{own_links, own_numbers, whole_objects, whole_places}
use Rattle.volume_edits.proofs.Frames.{Frame, IsTreeOf}
use Rattle.volume_edits.proofs.Counted.{in_area}
use Rattle.volume_edits.proofs.Holes.{Hole, catalog_with, filled, pages_filled, pages_first, pages_last, stored_filled, stored_first, stored_last, table_filled, table_with}
use Rattle.volume_model.proofs.Kept.{StoredKept, content_same, stored_same}
use Rattle.volume_edits.proofs.Lists.{Paired, map_around}
use Rattle.volume_edits.proofs.Placed.{Placed, placed, records_of}
use Rattle.volume_edits.proofs.RecordEdits.{EditsStored, stored_at, stored_of}
use Rattle.volume_edits.proofs.RecordUpdates.{EditsRecord, stored_as}
use Rattle.volume_edits.proofs.RowLinks.{row_stands_as}
use Rattle.volume_edits.proofs.Rows.{rows_edit, rows_read}
use Rattle.volume_edits.proofs.Spelled.{body_there, own_content, own_fine, own_trees, own_units}
use Rattle.volume_edits.proofs.TurnCounts.{has_in, in_has, named_append, named_has, named_root, sep_back, sep_cross}
use Rattle.volume_edits.proofs.Turned.{nodes_apart, roots_turned, volume_in_use, whole_there}
use Rattle.volume_edits.proofs.VolumeTrees.{IsFine, IsTree, IsVolumeTree}
use Rattle.volume_edits.proofs.Within.{edits_within}

pub unit_in : (xs : List ℕ) (u : ℕ) → HasUnit xs u → In u xs
unit_in [] u h = absurd h
unit_in (x ∷ xs) u (inl e) = inl (sym e)
unit_in (x ∷ xs) u (inr h) = inr (unit_in xs u h)

abbrev made_oid : PageNo → ℕ → ℕ → Oid
made_oid page slot unique = record { page = page; slot = slot; unique = unique }

module _ {S : Type 0} (g : ground.Ghosts S) (old new : S) (records : List LogRecord) (h : Hole) (index : Index) (vol : IsVolume g old records (filled h (g.image old) index (records_of (g.image old) index)))
    (oid : Oid) (head : Head) (gone come : Root) (bytes : List ℕ) (geometry : g.geometry new ≡ g.geometry old) (apart : IsApart g new)
    (had : HasVersion g old index oid head (Large gone) bytes) (edit : InstallsRoot g old new index oid head come bytes) (of_object : AllByRecursion (IsObjectUnit g old (filled h (g.image old) index (records_of (g.image old) index)) (place_of oid) gone) (root_units (g.unit new) come))
    (number : index.file_no ≡ h.file_no) (paired : Paired h.entries_before h.files_before) (records_are : AllZip IsStored (bodies_of (g.image old) index) (records_of (g.image old) index)) where
  abbrev U : Units
  U = units_in g old

  abbrev U' : Units
  U' = units_in g new

  -- the records of the file, before and after
  abbrev was : List Stored
  was = records_of (g.image old) index

  abbrev later : List Stored
  later = records_of (g.image new) index

  abbrev v : Volume
  v = filled h (g.image old) index was

  abbrev v' : Volume
  v' = filled h (g.image new) index later

  abbrev place : Place
  place = place_of oid

  abbrev was_record : Record
  was_record = record { head = head; content = Large gone }

  abbrev now_record : Record
  now_record = record { head = head; content = Large come }

  abbrev x : Stored
  x = stored_as place was_record

  abbrev y : Stored
  y = stored_as place now_record

  -- ---- the record

  had_file : HasFile g old index
  had_file = had.stored.stands.file

  body_was : BodyOf edit.was was_record
  body_was = body_there g old vol.shows.apart index oid was_record edit.rows.front edit.rows.back edit.was had.stored edit.rows.before

  body_now : BodyOf edit.is now_record
  body_now = body_there g new apart index oid now_record edit.rows.front edit.rows.back edit.is edit.version.stored edit.rows.after

  abbrev front : List Stored
  front = stored_of edit.rows.front

  abbrev back : List Stored
  back = stored_of edit.rows.back

  was_is : was ≡ front ++ (x ∷ back)
  was_is = ap stored_of edit.rows.before ∙ map-append stored_at edit.rows.front ((place, edit.was) ∷ edit.rows.back) ∙ ap (λ (r : Record). front ++ (stored_as place r ∷ back)) (record_read edit.was was_record body_was)

  later_is : later ≡ front ++ (y ∷ back)
  later_is = ap stored_of edit.rows.after ∙ map-append stored_at edit.rows.front ((place, edit.is) ∷ edit.rows.back) ∙ ap (λ (r : Record). front ++ (stored_as place r ∷ back)) (record_read edit.is now_record body_now)

  abbrev changes : List PlaceChange
  changes = (place, Some edit.is) ∷ []

  order_was : InPlaceOrder (bodies_of (g.image old) index)
  order_was = ordered g old index had_file

  order_now : InPlaceOrder (bodies_of (g.image new) index)
  order_now = ordered g new index edit.file

  bodies : (at : Place) → body_at at (bodies_of (g.image new) index) ≡ changed_at changes at (body_at at (bodies_of (g.image old) index))
  bodies = put_at (bodies_of (g.image old) index) (bodies_of (g.image new) index) place (Some edit.was) edit.is order_now edit.rows

  records_edit : EditsStored was later changes
  records_edit = rows_edit (bodies_of (g.image old) index) (bodies_of (g.image new) index) changes order_now bodies order_was

  records_later : AllZip IsStored (bodies_of (g.image new) index) later
  records_later = rows_read (bodies_of (g.image old) index) (bodies_of (g.image new) index) changes order_now bodies was records_are ((now_record, body_now), tt)

  record_edit : EditsRecord was later place was_record now_record
  record_edit = record {
    there = row_stands_as (bodies_of (g.image old) index) place edit.was was_record (at_row (bodies_of (g.image old) index) place edit.was order_was in_rows) body_was;
    head = refl;
    body = edit.is;
    spelled = body_now;
    edit = records_edit;
  }
    where
      in_rows : InRows (bodies_of (g.image old) index) (place, edit.was)
      in_rows = subst (λ (rows : List Row). InRows rows (place, edit.was)) (sym edit.rows.before) (in_mid edit.rows.front edit.rows.back (place, edit.was))

  x_there : Has was x
  x_there = subst (λ (xs : List Stored). Has xs x) (sym was_is) (has_back front (x ∷ back) x (inl refl))

  x_in : Has (stored_in v) x
  x_in = subst (λ (xs : List Stored). Has xs x) (sym (stored_filled h (g.image old) index was)) (has_back (stored_first h) (was ++ stored_last h) x (has_front was (stored_last h) x x_there))

  oid_is : oid_of x ≡ oid
  oid_is = let unique = had.stored.number in let same : made_oid oid.page oid.slot head.unique ≡ made_oid oid.page oid.slot oid.unique = cc unique in same

  linked_was : AreLinked was
  linked_was = own_links g old records h index was vol.shows

  -- ---- pages

  page_there : 1 ≤ times oid.page.0 (pages_in (g.image old) index)
  page_there = contains_times oid.page.0 (pages_in (g.image old) index) had.stored.stands.named

  no_catalog_page : catalog_no ≢ oid.page.0
  no_catalog_page same =
      let lies = each_at (IsFilesPage (g.geometry old)) (pages_in (g.image old) index) oid.page.0 (keys_of_pages (g.geometry old) index.file_no (g.image old) index.level index.root had_file.whole) page_there in
      lies.1 (sym same)

  same_catalog : g.image new catalog_no ≡ g.image old catalog_no
  same_catalog = edit.images catalog_no had_file.catalog.held no_catalog_page

  index_kept : pages_of (g.image new) index.level index.root ≡ pages_of (g.image old) index.level index.root
  index_kept =
      let m = moved (g.geometry old) index.file_no (g.image old) (g.image new) index.level index.root (λ p c. edit.images p (its_held p c) (its_other p c)) in
      m.pages
    where
      its_held : (p : ℕ) → 1 ≤ times p (pages_of (g.image old) index.level index.root) → g.held old p ≡ true
      its_held p c = is_counted (g.held old p) (omega (arith, had_file.once p, times-append p (pages_in (g.image old) index) (pages_of (g.image old) index.level index.root), c))

      its_other : (p : ℕ) → 1 ≤ times p (pages_of (g.image old) index.level index.root) → p ≢ oid.page.0
      its_other p c same =
          let there : 1 ≤ times p (pages_in (g.image old) index) = subst (λ (n : ℕ). 1 ≤ times n (pages_in (g.image old) index)) (sym same) page_there in
          omega (arith, had_file.once p, count_most (g.held old p), times-append p (pages_in (g.image old) index) (pages_of (g.image old) index.level index.root), c, there)

  same_pages : all_pages (g.image new) index ≡ all_pages (g.image old) index
  same_pages = ap (λ (t : List ℕ). t ++ pages_of (g.image new) index.level index.root) edit.pages ∙ ap (λ (t : List ℕ). pages_in (g.image old) index ++ t) index_kept

  same_held : (p : ℕ) → g.held new p ≡ g.held old p
  same_held p = ap (λ (f : _). f p) edit.held

  frame : Frame g old new (all_pages (g.image old) index) (all_pages (g.image new) index)
  frame = record {
    geometry = geometry;
    counted = λ p. omega (arith, ap count_of (same_held p), ap (λ (t : List ℕ). times p (catalog_no ∷ t)) same_pages);
    images = λ p held none. edit.images p held (other p none);
    units = λ u used held. record { unit = edit.kept u used; used = edit.used u used; held = same_held u ∙ held };
    in_use = λ p held. edit.used p (volume_in_use g old records v vol p (sym (same_held p) ∙ held));
    apart = apart;
  }
    where
      other : (p : ℕ) → times p (catalog_no ∷ all_pages (g.image old) index) ≡ 0 → p ≢ oid.page.0
      other p none same =
          let there : 1 ≤ times p (pages_in (g.image old) index) = subst (λ (n : ℕ). 1 ≤ times n (pages_in (g.image old) index)) (sym same) page_there in
          omega (arith, none, times-append p (catalog_no ∷ []) (all_pages (g.image old) index), times-append p (pages_in (g.image old) index) (pages_of (g.image old) index.level index.root), there)

  the_edit : Edit g old new h index index later
  the_edit = record {
    frame = frame;
    number = number;
    file = edit.file;
    catalog = subst (λ (page : List ℕ). CatalogOf page (catalog_with h index)) (sym same_catalog) (
        let some = (g.geometry old).some_pages in
        subst (λ (page : List ℕ). CatalogOf page (catalog_with h index)) (in_area g old catalog_no (omega (arith, some))) vol.shows.parts.0.0
        );
    paired = paired;
    records = records_later;
    linked = keeps_links was later place was_record now_record record_edit linked_was;
  }

  -- ---- trees

  was_units : stored_units U x ≡ root_units (g.unit old) gone
  was_units = own_units g old vol.shows.apart (Large gone) bytes had.spells had.units

  now_units : stored_units U' y ≡ root_units (g.unit new) come
  now_units = own_units g new apart (Large come) bytes edit.version.spells edit.version.units

  -- a unit of the new tree is one of the old one, or was free, or is in no tree of another object
  source : (u : ℕ) → In u (stored_units U' y) → IsObjectUnit g old v place gone u
  source u k = of_each (IsObjectUnit g old v place gone) u (root_units (g.unit new) come) of_object (subst (λ (us : List ℕ). In u us) now_units k)

  roots_was : roots_in was ≡ roots_in front ++ (root_in (Large gone) ++ roots_in back)
  roots_was = ap roots_in was_is ∙ flat_map-append (λ (s : Stored). root_in s.body.content) front (x ∷ back)

  roots_later : roots_in later ≡ roots_in front ++ (root_in (Large come) ++ roots_in back)
  roots_later = ap roots_in later_is ∙ flat_map-append (λ (s : Stored). root_in s.body.content) front (y ∷ back)

  -- what holds of the old trees and of the new one
  each_tree : (P : Root → Type 0) → ((root : Root) → IsVolumeTree g old root → P root) → AllByRecursion P (root_in (Large come)) → AllByRecursion P (roots_in later)
  each_tree P others own =
      let trees = subst (AllByRecursion (IsVolumeTree g old)) roots_was (file_trees g old new records h index index was later vol the_edit) in
      let first = split_each (IsVolumeTree g old) (roots_in front) (root_in (Large gone) ++ roots_in back) trees in
      let last = split_each (IsVolumeTree g old) (root_in (Large gone)) (roots_in back) first.1 in
      subst (AllByRecursion P) (sym roots_later)
      (each-append P (roots_in front) (root_in (Large come) ++ roots_in back) (each_as (IsVolumeTree g old) P (roots_in front) others first.0)
      (each-append P (root_in (Large come)) (roots_in back) own (each_as (IsVolumeTree g old) P (roots_in back) others last.1)))

  trees_later : AllByRecursion (IsTree (g.geometry new) U') (roots_in later)
  trees_later = each_tree (IsTree (g.geometry new) U') (tree_moved g old new records h index index was later vol the_edit) (own_trees g new apart (Large come) bytes edit.version.spells edit.version.units)

  fine_later : AllByRecursion (λ (root : Root). AllByRecursion (IsFine g new) (root_units U' root)) (roots_in later)
  fine_later = each_tree (λ (root : Root). AllByRecursion (IsFine g new) (root_units U' root)) (fine_root g old new records h index index was later vol the_edit) (own_fine g new apart (Large come) bytes edit.version.spells edit.version.units)

  -- the units of a record of the volume are in use
  record_used : (s : Stored) → Has (stored_in v) s → (u : ℕ) → In u (stored_units U s) → g.used old u ≡ true
  record_used s k u inside =
      let root = from_flat (root_units U) u (root_in s.body.content) inside in
      let tree = of_each (IsVolumeTree g old) root.0 (roots_in (stored_in v)) (olds g old new records h index index was later vol the_edit) (into_flat (λ (t : Stored). root_in t.body.content) root.0 s (stored_in v) (has_in (stored_in v) s k) root.1) in
      (of_each (IsTreeOf g old) u (root_units U root.0) tree.tree root.2).1

  -- and they are units of the volume's trees
  record_trees : (s : Stored) → Has (stored_in v) s → (u : ℕ) → In u (stored_units U s) → In u (trees_of U v)
  record_trees s k u inside =
      let root = from_flat (root_units U) u (root_in s.body.content) inside in
      into_flat (root_units U) u root.0 (roots_in (stored_in v)) (into_flat (λ (t : Stored). root_in t.body.content) root.0 s (stored_in v) (has_in (stored_in v) s k) root.1) root.2

  -- ---- numbers

  numbers_same : map unique_of (stored_in v') ≡ map unique_of (stored_in v)
  numbers_same =
      ap (map unique_of) (stored_filled h (g.image new) index later) ∙ map_around unique_of (stored_first h) later (stored_last h)
      ∙ ap (λ (ns : List ℕ). map unique_of (stored_first h) ++ (ns ++ map unique_of (stored_last h))) own
      ∙ sym (ap (map unique_of) (stored_filled h (g.image old) index was) ∙ map_around unique_of (stored_first h) was (stored_last h))
    where
      own : map unique_of later ≡ map unique_of was
      own = ap (map unique_of) later_is ∙ map-append unique_of front (y ∷ back) ∙ sym (ap (map unique_of) was_is ∙ map-append unique_of front (x ∷ back))

  each_number : (P : ℕ → Type 0) → AllByRecursion (λ (s : Stored). P (unique_of s)) (stored_in v) → AllByRecursion (λ (s : Stored). P (unique_of s)) (stored_in v')
  each_number P all = each_unmapped P unique_of (stored_in v') (subst (AllByRecursion P) (sym numbers_same) (each_mapped P unique_of (stored_in v) all))

  uniques : HasUniques v'
  uniques =
      let had_uniques = vol.shows.parts.1.1.1.1.1.1.0 in
      record {
        differ = subst AllDiffer (sym numbers_same) had_uniques.differ;
        some = each_number (λ n. 1 ≤ n) had_uniques.some;
        below = each_number (λ n. n < h.next) had_uniques.below;
      }

  -- ---- objects

  abbrev whole : List Stored
  whole = stored_first h ++ (was ++ stored_last h)

  abbrev whole_later : List Stored
  whole_later = stored_first h ++ (later ++ stored_last h)

  places_was : Sep place_in whole
  places_was = sep_from place_in whole (whole_places g old records h index was vol.shows)

  places_now : Sep place_in whole_later
  places_now = subst (Sep place_in) (stored_filled h (g.image new) index later) (sep_from place_in (stored_in v') (places_after g old new records h index index was later vol the_edit uniques.differ))

  off : (s : Stored) → Has (stored_first h) s ⊎ Has (stored_last h) s → place ≢ s.place
  off s (inl k) same = sep_cross place_in (stored_first h) (was ++ stored_last h) s x places_was k (has_front was (stored_last h) x x_there) (sym same)
  off s (inr k) same = sep_cross place_in was (stored_last h) x s (sep_back place_in (stored_first h) (was ++ stored_last h) places_was) x_there k same

  whole_edit : EditsRecord whole whole_later place was_record now_record
  whole_edit = record {
    there = has_stands whole place x places_was (has_back (stored_first h) (was ++ stored_last h) x (has_front was (stored_last h) x x_there)) refl;
    head = refl;
    body = edit.is;
    spelled = body_now;
    edit = edits_within (stored_first h) was later (stored_last h) changes records_edit
        (has_each (λ (s : Stored). AllByRecursion (λ (c : PlaceChange). c.0 ≢ s.place) changes) (stored_first h ++ stored_last h) (λ s k. (off s (has_either (stored_first h) (stored_last h) s k), tt)))
        (sep_to place_in whole places_was) (sep_to place_in whole_later places_now);
  }

  objects_was : HasObjects U whole
  objects_was = whole_objects g old records h index was vol.shows

  in_volume : (s : Stored) → Has whole s → Has (stored_in v) s
  in_volume s k = subst (λ (xs : List Stored). Has xs s) (sym (stored_filled h (g.image old) index was)) k

  x_whole : Has whole x
  x_whole = has_back (stored_first h) (was ++ stored_last h) x (has_front was (stored_last h) x x_there)

  -- no unit of the new tree is one of another object
  no_other : (s : Stored) → Has whole s → (objects_was.object s.place ≡ objects_was.object place → ⊥) → (u : ℕ) → In u (stored_units U' y) → In u (stored_units U s) → ⊥
  no_other s k differ u here its = by (source u here)
    where
      by : IsObjectUnit g old v place gone u → ⊥
      by (IsObjectUnit.free free) = true≢false (sym (record_used s (in_volume s k) u its) ∙ free)
      by (IsObjectUnit.kept mine) = of_each (λ p. ¬ Contains (stored_units U s) p) u (stored_units U x) (objects_was.apart x s (has_contains whole x x_whole) (has_contains whole s k) (λ e. differ (sym e)))
          (subst (λ (us : List ℕ). In u us) (sym was_units) (in_contains u (root_units (g.unit old) gone) mine)) (contains_in u (stored_units U s) its)
      by (IsObjectUnit.apart none) = differ (subst (λ (xs : List Stored). AreOfOneObject U xs s.place place) (stored_filled h (g.image old) index was)
          (none s (has_contains (stored_in v) s (in_volume s k)) (contains_in u (stored_units U s) its)) objects_was)

  objects : HasObjects U' (stored_in v')
  objects = subst (HasObjects U') (sym (stored_filled h (g.image new) index later))
      (keeps_objects whole whole_later place was_record now_record whole_edit U U' objects_was others (λ s k differ. (
        each_in (λ u. ¬ Contains (stored_units U s) u) (stored_units U' y) (λ u own c. no_other s (contains_has whole s k) differ u own (in_contains u (stored_units U s) c)),
        each_in (λ u. ¬ Contains (stored_units U' y) u) (stored_units U s) (λ u its c. no_other s (contains_has whole s k) differ u (in_contains u (stored_units U' y) c) its),
      )))
    where
      others : AllByRecursion (λ (s : Stored). s.place ≢ place → stored_units U' s ≡ stored_units U s) whole
      others = each_as (StoredKept U U') (λ (s : Stored). s.place ≢ place → stored_units U' s ≡ stored_units U s) whole (λ s k other. stored_same U U' s k) (subst (AllByRecursion (StoredKept U U')) (stored_filled h (g.image old) index was) (all_kept g old new records h index index was later vol the_edit))

  -- ---- the table

  numbers_was : NumbersDiffer was
  numbers_was = own_numbers g old records h index was vol.shows

  unchanged : (o : Oid) (ws : List Version) → edited_in o (λ (b : List ℕ). b) ws ≡ ws
  unchanged o [] = refl
  unchanged o (w ∷ ws) = ap (λ (t : List Version). bytes_changed o (λ (b : List ℕ). b) w ∷ t) (unchanged o ws) ∙ ap (λ (t : Version). t ∷ ws) (same (has_oid o w))
    where
      same : (b : Bool) → (if b then record w { bytes = w.bytes } else w) ≡ w
      same true = refl
      same false = refl

  same_bytes : content_in U' (Large come) ≡ content_in U (Large gone)
  same_bytes = own_content g new apart (Large come) bytes edit.version.spells edit.version.units ∙ sym (own_content g old vol.shows.apart (Large gone) bytes had.spells had.units)

  versions_now : versions_stored U' later ≡ versions_stored U was
  versions_now =
      is_edited was later place was_record now_record record_edit U U' (λ (b : List ℕ). b) (linked_olders was linked_was) numbers_was
      (each_as (StoredKept U U') (λ (s : Stored). s.place ≢ place → content_in U' s.body.content ≡ content_in U s.body.content) was (λ s k other. content_same U U' s.body.content k) (own_kept g old new records h index index was later vol the_edit))
      same_bytes
      ∙ ap (in_order number_of) (unchanged (oid_of x) (versions_stored U was))
      ∙ order_left number_of (versions_stored U was) (stored_rises U was (sep_from unique_of was numbers_was))

  table_now : table_of U' v' ≡ table_of U v
  table_now =
      table_edited g old new records h index index was later vol the_edit ∙ ap (λ (ws : List Version). table_with U h (objects_formed ws)) versions_now ∙ sym (table_filled U h (g.image old) index was paired)

  -- ---- roots

  root_was : (p : ℕ) → named_root p (x ∷ []) ≡ times p (root_pages (gone ∷ []))
  root_was p = refl

  root_now : (p : ℕ) → named_root p (y ∷ []) ≡ times p (root_pages (come ∷ []))
  root_now p = refl

  roots_counted : (p : ℕ) → times p (root_pages (gone ∷ [])) + named_root p later ≡ named_root p was + times p (root_pages (come ∷ []))
  roots_counted p = omega (
    arith,
    root_was p,
    root_now p,
    ap (named_root p) was_is,
    ap (named_root p) later_is,
    named_append p front (x ∷ back),
    named_append p front (y ∷ back),
    named_append p (x ∷ []) back,
    named_append p (y ∷ []) back,
  )

  replaced : ReplacesRoot g old new v v' gone come
  replaced = record {
    roots = roots_turned h (g.image old) (g.image new) index index was later (Some gone) (Some come) roots_counted;
    there = λ p. (let here = named_has p (stored_in v) x x_in in omega (arith, here, root_was p));
    went = (whole_there g old (Large gone) bytes had.spells had.units had_file.catalog.held).0;
    came = (whole_there g new (Large come) bytes edit.version.spells edit.version.units edit.file.catalog.held).0;
    counts = edit.counts;
    apart = λ names. each_as (IsTaken g old new) (λ p. g.held new p ≡ false) (edit.counts names).nodes (nodes_apart g old new (volume_in_use g old records v vol) edit.held) (edit.counts names).taken;
    own = λ p c. of_each (IsTreeUnit g new) p (root_units (g.unit new) come) edit.version.units (in_contains p (root_units (g.unit new) come) c);
    tree = λ p is away. contains_in p (root_units (g.unit new) come) (unit_in (root_units (g.unit new) come) p (edit.all p is));
  }

  -- ---- the volume

  tree_source : (u : ℕ) → In u (flat_map (root_units U') (roots_in later)) → Contains (trees_of U v) u ⊎ Contains (root_units (g.unit new) come) u
  tree_source u inside =
      let root = from_flat (root_units U') u (roots_in later) inside in
      elim (in_either root.0 (roots_in front) (root_in (Large come) ++ roots_in back) (subst (λ (rs : List Root). In root.0 rs) roots_later root.1)) [
        | inl k ↦ other root.0 (in_left root.0 (roots_in front) (root_in (Large gone) ++ roots_in back) k) root.2
        | inr k ↦ elim (in_either root.0 (root_in (Large come)) (roots_in back) k) [
          | inr m ↦ other root.0 (in_right root.0 (roots_in front) (root_in (Large gone) ++ roots_in back) (in_right root.0 (root_in (Large gone)) (roots_in back) m)) root.2
          | inl m ↦ inr (contains_in u (root_units (g.unit new) come) (subst (λ (us : List ℕ). In u us) now_units (into_flat (root_units U') u root.0 (root_in (Large come)) m root.2)))
        ]
      ]
    where
      other : (root : Root) → In root (roots_in front ++ (root_in (Large gone) ++ roots_in back)) → In u (root_units U' root) → Contains (trees_of U v) u ⊎ Contains (root_units (g.unit new) come) u
      other root k here =
          let mine : In root (roots_in was) = subst (λ (rs : List Root). In root rs) (sym roots_was) k in
          let tree = of_each (IsVolumeTree g old) root (roots_in was) (file_trees g old new records h index index was later vol the_edit) mine in
          let s = from_flat (λ (t : Stored). root_in t.body.content) root was mine in
          let s_in = in_volume s.0 (has_back (stored_first h) (was ++ stored_last h) s.0 (has_front was (stored_last h) s.0 (in_has was s.0 s.1))) in
          inl (contains_in u (trees_of U v) (record_trees s.0 s_in u (into_flat (root_units U) u root (root_in s.0.body.content) s.2 (subst (λ (us : List ℕ). In u us) (units_kept g old new records h index index was later vol the_edit root tree) here))))

  turned : TurnsRecord v v' oid gone come
  turned = record {
    front = stored_first h ++ front;
    back = back ++ stored_last h;
    was = x;
    is = y;
    before = stored_filled h (g.image old) index was ∙ ap (λ (xs : List Stored). stored_first h ++ (xs ++ stored_last h)) was_is ∙ around x;
    after = stored_filled h (g.image new) index later ∙ ap (λ (xs : List Stored). stored_first h ++ (xs ++ stored_last h)) later_is ∙ around y;
    was_oid = oid_is;
    is_oid = oid_is;
    was_root = refl;
    is_root = refl;
  }
    where
      around : (z : Stored) → stored_first h ++ ((front ++ (z ∷ back)) ++ stored_last h) ≡ (stored_first h ++ front) ++ (z ∷ (back ++ stored_last h))
      around z = ap (λ (xs : List Stored). stored_first h ++ xs) (append_assoc front (z ∷ back) (stored_last h)) ∙ sym (append_assoc (stored_first h) front (z ∷ (back ++ stored_last h)))

  pub moved_volume : MovesTree g old new records v oid gone come
  moved_volume = record {
    now = v';
    volume = edited g old new records h index index was later vol the_edit trees_later fine_later uniques objects;
    table = table_now;
    catalog = refl;
    pages = pages_filled h (g.image new) index later ∙ ap (λ (t : List ℕ). pages_first h ++ (t ++ pages_last h)) same_pages ∙ sym (pages_filled h (g.image old) index was);
    units = λ u inside. elim (trees_from g old new records h index index was later vol the_edit u (in_contains u (trees_of U' v') inside)) [
      | inl k ↦ inl (contains_in u (trees_of U v) k)
      | inr k ↦ tree_source u k
    ];
    turns = turned;
    replaced = replaced;
  }

module _ {S : Type 0} (g : ground.Ghosts S) (old new : S) (records : List LogRecord) (v : Volume) (vol : IsVolume g old records v) (index : Index) (oid : Oid) (head : Head) (gone come : Root) (bytes : List ℕ)
    (geometry : g.geometry new ≡ g.geometry old) (apart : IsApart g new) (had : HasVersion g old index oid head (Large gone) bytes) (edit : InstallsRoot g old new index oid head come bytes)
    (of_object : AllByRecursion (IsObjectUnit g old v (place_of oid) gone) (root_units (g.unit new) come)) where
  pub moves_tree : MovesTree g old new records v oid gone come
  moves_tree =
      let p : Placed (g.image old) v index = placed g old records v vol.shows index had.stored.stands.file.entry in
      subst (λ (w : Volume). MovesTree g old new records w oid gone come) (sym p.same)
      (moved_volume g old new records p.hole index (subst (IsVolume g old records) p.same vol) oid head gone come bytes geometry apart had edit (subst (λ (w : Volume). AllByRecursion (IsObjectUnit g old w (place_of oid) gone) (root_units (g.unit new) come)) p.same of_object) p.number p.paired p.records)
