-- A volume in which the records of one file become others is a volume.
use Rattle.std.proofs.Common.{◌≡◌, ℕ, ◌+◌, ◌≤◌, true, List, ◌∷◌, ◌++◌, sym, ap, subst, ◌∙◌, arith, inl, inr, ◌⊎◌}
use Rattle.std.specs.Prelude.{Contains}
use Rattle.std.specs.List.{flat_map, AllByRecursion, AllZip}
use Rattle.ex_base.specs.declared.ground.Ground as ground
use Rattle.ex_base.specs.declared.geometry.Geometry.{Geometry}
use Rattle.ex_base.specs.declared.names.Root.{Root}
use Rattle.ex_base.specs.Area.{catalog_no}
use Rattle.ex_base.specs.Ports.{times}
use Rattle.ex_base.proofs.Rows.{each-append}
use Rattle.ex_base.proofs.Each.{split_each, each_as, each_joined, each_parted, flat_same, zip_with}
use Rattle.ex_base.proofs.Counts.{times-append}
use Rattle.ex_base.proofs.Members.{In, contains_in, each_in, in_contains, in_either, in_left, in_right, of_each}
use Rattle.version_lists.specs.Objects.{objects_formed}
use Rattle.ex_base.specs.declared.names.Index.{Index}
use Rattle.file_index.specs.Index.{IsFilesPage, IsIndex, keys_of, pages_of}
use Rattle.file_index.proofs.Counts.{count_most, is_counted}
use Rattle.file_index.proofs.Heights.{keys_of_pages, index_of_pages}
use Rattle.object_files.specs.Catalog.{FileEntry, CatalogOf}
use Rattle.file_bodies.specs.Bodies.{Row, bodies_of}
use Rattle.file_bodies.specs.Files.{HasFile, all_pages}
use Rattle.file_bodies.proofs.Moving.{moved}
use Rattle.file_bodies.proofs.Rows.{each_at, each_of}
use Rattle.trees.specs.Trees.{Units, root_units, RootNamed}
use Rattle.op_log.specs.declared.record.LogRecord.{LogRecord}
use Rattle.volume_model.specs.Parts.{HasIndex, HasPages, HasBodies, IsStored, HasNodes, HasBalance, HasUniques, HoldsOf, content_parts}
use Rattle.volume_model.specs.Links.{Apart, AreLinked, HasObjects, NumbersDiffer, PlacesDiffer}
use Rattle.volume_model.specs.Volume.{Stored, FileContent, Volume, stored_in, pages_of_file, file_pages, roots_in, reach_of, root_in, table_of, versions_stored}
use Rattle.volume_model.proofs.Standing.{files_at, places_differ}
use Rattle.volume_edits.specs.Ported.{IsVolume, units_in}
use Rattle.volume_edits.proofs.PagesRead.{bodies_read, own_pages, pages_kept}
use Rattle.volume_edits.proofs.Lists.{each_around, each_between, flat_around, Paired, zip_split, zip_joined}
use Rattle.volume_model.proofs.Kept.{StoredKept, roots_of_stored, RootKept, units_of_root, named_root, balance_kept, files_same}
use Rattle.volume_edits.proofs.Counted.{files_lie, Counted, pages_counted, held_of, differ_of, in_area}
pub use Rattle.volume_edits.proofs.VolumeTrees.{IsTree, IsFine}
use Rattle.volume_edits.proofs.VolumeTrees.{IsVolumeTree, volume_trees}
use Rattle.volume_edits.proofs.Frames.{Frame, IsTreeOf, still_bytes, page_bytes}
use Rattle.volume_edits.proofs.Holes.{Hole, entry_with, catalog_with, file_with, files_with, filled, stored_first, stored_last, pages_first, pages_last, stored_filled, roots_filled, times_filled, table_with, table_filled}

-- In a file of a volume the records become others.
pub record Edit {S : Type 0} (g : ground.Ghosts S) (old new : S) (h : Hole) (index after : Index) (is : List Stored) : Type 0 where
  pub frame : Frame g old new (all_pages (g.image old) index) (all_pages (g.image new) after)
  pub number : after.file_no ≡ h.file_no
  pub file : HasFile g new after
  pub catalog : CatalogOf (g.image new catalog_no) (catalog_with h after)
  pub paired : Paired h.entries_before h.files_before
  pub records : AllZip IsStored (bodies_of (g.image new) after) is
  pub linked : AreLinked is

module _ {S : Type 0} (g : ground.Ghosts S) (old new : S) (records : List LogRecord) (h : Hole) (index after : Index) (was is : List Stored) (vol : IsVolume g old records (filled h (g.image old) index was)) (edit : Edit g old new h index after is) where
  abbrev U : Units
  U = units_in g old

  abbrev U' : Units
  U' = units_in g new

  abbrev v : Volume
  v = filled h (g.image old) index was

  abbrev v' : Volume
  v' = filled h (g.image new) after is

  -- ---- pages

  counted_old : Counted g old (catalog_no ∷ file_pages v)
  counted_old = pages_counted g old records v vol.shows

  pub counted_new : Counted g new (catalog_no ∷ file_pages v')
  counted_new p = omega (arith, times_filled h (g.image old) index was p, times_filled h (g.image new) after is p, counted_old p, edit.frame.counted p)

  outside : (p : ℕ) → 1 ≤ times p (pages_first h) + times p (pages_last h) → (g.held old p ≡ true) × (times p (catalog_no ∷ all_pages (g.image old) index) ≡ 0)
  outside p some = (
    is_counted (g.held old p) (omega (arith, times_filled h (g.image old) index was p, counted_old p, some)),
    (omega (arith, times_filled h (g.image old) index was p, counted_old p, count_most (g.held old p), some)),
  )

  zipped : AllZip (HasIndex (g.geometry old) U) h.entries_before h.files_before × AllZip (HasIndex (g.geometry old) U) (entry_with h index ∷ h.entries_behind) (file_with (g.image old) index was ∷ h.files_behind)
  zipped = zip_split (HasIndex (g.geometry old) U) h.entries_before (entry_with h index ∷ h.entries_behind) h.files_before (file_with (g.image old) index was ∷ h.files_behind) edit.paired vol.shows.parts.1.0.0

  abbrev Stays : ℕ → Type 0
  Stays p = U' p ≡ U p

  stay : (pages : List ℕ) → ((p : ℕ) → 1 ≤ times p pages → 1 ≤ times p (pages_first h) + times p (pages_last h)) → AllByRecursion (IsFilesPage (g.geometry old)) pages → AllByRecursion Stays pages
  stay pages other lie = each_of Stays pages (λ p c.
      let o = outside p (other p c) in
      let area = each_at (IsFilesPage (g.geometry old)) pages p lie c in
      page_bytes g old new (all_pages (g.image old) index) (all_pages (g.image new) after) edit.frame p area.0.1 o.0 o.1)

  stay_first : AllByRecursion (λ (file : FileContent). AllByRecursion Stays (pages_of_file file)) h.files_before
  stay_first = each_parted Stays pages_of_file h.files_before (stay (pages_first h) (λ p c. omega arith) (files_lie (g.geometry old) U h.entries_before h.files_before zipped.0))

  stay_last : AllByRecursion (λ (file : FileContent). AllByRecursion Stays (pages_of_file file)) h.files_behind
  stay_last = each_parted Stays pages_of_file h.files_behind (stay (pages_last h) (λ p c. omega arith) (files_lie (g.geometry old) U h.entries_behind h.files_behind zipped.1.1))

  index_moved : (entry : FileEntry) (file : FileContent) → AllByRecursion Stays (pages_of_file file) → HasIndex (g.geometry old) U entry file → HasIndex (g.geometry new) U' entry file
  index_moved entry file stays has =
      let m = moved (g.geometry old) entry.file_no U U' entry.level entry.root (λ p c. each_at Stays (pages_of_file file) p stays (omega (arith, times-append p file.numbers file.index_pages, ap (times p) has.index_pages, c))) in
      subst (λ (gm : Geometry). HasIndex gm U' entry file) (sym edit.frame.geometry) (record { whole = m.whole has.whole; numbers = has.numbers ∙ sym m.keys; index_pages = has.index_pages ∙ sym m.pages })

  same_image : (p : ℕ) → IsFilesPage (g.geometry new) p → U' p ≡ g.image new p
  same_image p lies = in_area g new p lies.0.1

  own_index : HasIndex (g.geometry new) U' (entry_with h after) (file_with (g.image new) after is)
  own_index =
      let pages = index_of_pages (g.geometry new) after.file_no (g.image new) after.level after.root edit.file.whole in
      let m = moved (g.geometry new) after.file_no (g.image new) U' after.level after.root (λ p c. same_image p (each_at (IsFilesPage (g.geometry new)) (pages_of (g.image new) after.level after.root) p pages c)) in
      record {
        whole = subst (λ (n : ℕ). IsIndex (g.geometry new) U' n after.level after.root) edit.number (m.whole edit.file.whole);
        numbers = sym m.keys;
        index_pages = sym m.pages;
      }

  part_file : AllZip (HasIndex (g.geometry new) U') (h.entries_before ++ (entry_with h after ∷ h.entries_behind)) (files_with h (g.image new) after is)
  part_file = zip_joined (HasIndex (g.geometry new) U') h.entries_before (entry_with h after ∷ h.entries_behind) h.files_before (file_with (g.image new) after is ∷ h.files_behind)
      (zip_with (λ (file : FileContent). AllByRecursion Stays (pages_of_file file)) (HasIndex (g.geometry old) U) (HasIndex (g.geometry new) U') h.entries_before h.files_before index_moved stay_first zipped.0)
      (own_index, zip_with (λ (file : FileContent). AllByRecursion Stays (pages_of_file file)) (HasIndex (g.geometry old) U) (HasIndex (g.geometry new) U') h.entries_behind h.files_behind index_moved stay_last zipped.1.1)

  page_zip : AllZip (HasPages U) h.entries_before h.files_before × AllZip (HasPages U) (entry_with h index ∷ h.entries_behind) (file_with (g.image old) index was ∷ h.files_behind)
  page_zip = zip_split (HasPages U) h.entries_before (entry_with h index ∷ h.entries_behind) h.files_before (file_with (g.image old) index was ∷ h.files_behind) edit.paired vol.shows.parts.1.1.0

  page_moved : (entry : FileEntry) (file : FileContent) → AllByRecursion Stays (pages_of_file file) → HasPages U entry file → HasPages U' entry file
  page_moved entry file stays has = pages_kept U U' entry file.numbers file.pages (split_each Stays file.numbers file.index_pages stays).0 has

  part_page : AllZip (HasPages U') (h.entries_before ++ (entry_with h after ∷ h.entries_behind)) (files_with h (g.image new) after is)
  part_page = zip_joined (HasPages U') h.entries_before (entry_with h after ∷ h.entries_behind) h.files_before (file_with (g.image new) after is ∷ h.files_behind)
      (zip_with (λ (file : FileContent). AllByRecursion Stays (pages_of_file file)) (HasPages U) (HasPages U') h.entries_before h.files_before page_moved stay_first page_zip.0) (
        own_pages (g.image new) U' (g.geometry new) (entry_with h after) after.file_no (keys_of (g.image new) after.level after.root) edit.number same_image edit.file.pages (keys_of_pages (g.geometry new) after.file_no (g.image new) after.level after.root edit.file.whole),
        zip_with (λ (file : FileContent). AllByRecursion Stays (pages_of_file file)) (HasPages U) (HasPages U') h.entries_behind h.files_behind page_moved stay_last page_zip.1.1,
      )

  -- ---- records

  split_body : AllByRecursion HasBodies h.files_before × AllByRecursion HasBodies (file_with (g.image old) index was ∷ h.files_behind)
  split_body = split_each HasBodies h.files_before (file_with (g.image old) index was ∷ h.files_behind) vol.shows.parts.1.1.1.0

  own_bodies : HasBodies (file_with (g.image new) after is)
  own_bodies = record {
    records = subst (λ (rs : List Row). AllZip IsStored rs is) (sym (bodies_read (g.image new) (keys_of (g.image new) after.level after.root))) edit.records;
    linked = edit.linked;
  }

  part_body : AllByRecursion HasBodies (files_with h (g.image new) after is)
  part_body = each-append HasBodies h.files_before (file_with (g.image new) after is ∷ h.files_behind) split_body.0 (own_bodies, split_body.1.1)

  -- the records of the volume stand at different places afterwards
  pub places_after : NumbersDiffer (stored_in v') → PlacesDiffer (stored_in v')
  places_after differ = places_differ U' (stored_in v') (files_at U' (catalog_with h after).entries (files_with h (g.image new) after is) part_page part_body) differ

  -- ---- trees

  pub olds : AllByRecursion (IsVolumeTree g old) (roots_in (stored_in v))
  olds = volume_trees g old records v vol

  old_parts : AllByRecursion (IsVolumeTree g old) (roots_in (stored_first h)) × AllByRecursion (IsVolumeTree g old) (roots_in was) × AllByRecursion (IsVolumeTree g old) (roots_in (stored_last h))
  old_parts = each_around (IsVolumeTree g old) (roots_in (stored_first h)) (roots_in was) (roots_in (stored_last h)) (subst (AllByRecursion (IsVolumeTree g old)) (roots_filled h (g.image old) index was) olds)

  pub own_trees : AllByRecursion (IsVolumeTree g old) (roots_in was)
  own_trees = old_parts.1

  kept_root : (root : Root) → IsVolumeTree g old root → RootKept U U' root
  kept_root root o = each_as (IsTreeOf g old) (λ u. U' u ≡ U u) (root_units U root) (λ u t. still_bytes g old new (all_pages (g.image old) index) (all_pages (g.image new) after) edit.frame u vol.shows.apart t) o.tree

  pub units_kept : (root : Root) → IsVolumeTree g old root → root_units U' root ≡ root_units U root
  units_kept root o = units_of_root U U' root.height root.page (kept_root root o)

  pub tree_moved : (root : Root) → IsVolumeTree g old root → IsTree (g.geometry new) U' root
  tree_moved root o = subst (λ (gm : Geometry). IsTree gm U' root) (sym edit.frame.geometry)
      (named_root (g.geometry old) U U' root.height root.page (kept_root root o) o.named, balance_kept (g.geometry old) U U' root (kept_root root o) o.balance)

  pub fine_root : (root : Root) → IsVolumeTree g old root → AllByRecursion (IsFine g new) (root_units U' root)
  fine_root root o = subst (AllByRecursion (IsFine g new)) (sym (units_of_root U U' root.height root.page (kept_root root o)))
      (each_as (IsTreeOf g old) (IsFine g new) (root_units U root) (λ u t. let s = edit.frame.units u t.1 t.2 in (s.used, s.held)) o.tree)

  -- the trees of all records keep their units
  pub all_kept : AllByRecursion (StoredKept U U') (stored_in v)
  all_kept = each_as (λ (s : Stored). AllByRecursion (IsVolumeTree g old) (root_in s.body.content)) (StoredKept U U') (stored_in v) (λ s o. each_as (IsVolumeTree g old) (RootKept U U') (root_in s.body.content) kept_root o) (roots_of_stored (IsVolumeTree g old) (stored_in v) olds)

  kept_parts : AllByRecursion (StoredKept U U') (stored_first h) × AllByRecursion (StoredKept U U') was × AllByRecursion (StoredKept U U') (stored_last h)
  kept_parts = each_around (StoredKept U U') (stored_first h) was (stored_last h) (subst (AllByRecursion (StoredKept U U')) (stored_filled h (g.image old) index was) all_kept)

  pub own_kept : AllByRecursion (StoredKept U U') was
  own_kept = kept_parts.1

  -- its table has the objects of that file changed
  pub table_edited : table_of U' v' ≡ table_with U h (objects_formed (versions_stored U' is))
  table_edited =
      let first = files_same U U' h.entries_before h.files_before (each_parted (StoredKept U U') (λ (file : FileContent). file.stored) h.files_before kept_parts.0) in
      let last = files_same U U' h.entries_behind h.files_behind (each_parted (StoredKept U U') (λ (file : FileContent). file.stored) h.files_behind kept_parts.2) in
      table_filled U' h (g.image new) after is edit.paired ∙ (let same : table_with U' h (objects_formed (versions_stored U' is)) ≡ table_with U h (objects_formed (versions_stored U' is)) = cc (first, last) in same)

  same_trees : (roots : List Root) → AllByRecursion (IsVolumeTree g old) roots → flat_map (root_units U') roots ≡ flat_map (root_units U) roots
  same_trees roots o = flat_same (root_units U) (root_units U') (IsVolumeTree g old) roots (λ root x. units_of_root U U' root.height root.page (kept_root root x)) o

  trees_now : flat_map (root_units U') (roots_in (stored_in v')) ≡ flat_map (root_units U) (roots_in (stored_first h)) ++ (flat_map (root_units U') (roots_in is) ++ flat_map (root_units U) (roots_in (stored_last h)))
  trees_now =
      ap (flat_map (root_units U')) (roots_filled h (g.image new) after is) ∙ flat_around (root_units U') (roots_in (stored_first h)) (roots_in is) (roots_in (stored_last h))
      ∙ ap (λ (t : List ℕ). t ++ (flat_map (root_units U') (roots_in is) ++ flat_map (root_units U') (roots_in (stored_last h)))) (same_trees (roots_in (stored_first h)) old_parts.0)
      ∙ ap (λ (t : List ℕ). flat_map (root_units U) (roots_in (stored_first h)) ++ (flat_map (root_units U') (roots_in is) ++ t)) (same_trees (roots_in (stored_last h)) old_parts.2)

  -- a unit of its trees is one of before, or of the file's trees
  pub trees_from : (u : ℕ) → In u (flat_map (root_units U') (roots_in (stored_in v'))) → In u (flat_map (root_units U) (roots_in (stored_in v))) ⊎ In u (flat_map (root_units U') (roots_in is))
  trees_from u inside =
      let before : flat_map (root_units U) (roots_in (stored_in v)) ≡ flat_map (root_units U) (roots_in (stored_first h)) ++ (flat_map (root_units U) (roots_in was) ++ flat_map (root_units U) (roots_in (stored_last h))) =
      ap (flat_map (root_units U)) (roots_filled h (g.image old) index was) ∙ flat_around (root_units U) (roots_in (stored_first h)) (roots_in was) (roots_in (stored_last h)) in
      elim (in_either u (flat_map (root_units U) (roots_in (stored_first h))) (flat_map (root_units U') (roots_in is) ++ flat_map (root_units U) (roots_in (stored_last h))) (subst (λ (t : List ℕ). In u t) trees_now inside)) [
        | inl k ↦ inl (subst (λ (t : List ℕ). In u t) (sym before) (in_left u (flat_map (root_units U) (roots_in (stored_first h))) (flat_map (root_units U) (roots_in was) ++ flat_map (root_units U) (roots_in (stored_last h))) k))
        | inr k ↦ elim (in_either u (flat_map (root_units U') (roots_in is)) (flat_map (root_units U) (roots_in (stored_last h))) k) [
          | inl m ↦ inr m
          | inr m ↦ inl (subst (λ (t : List ℕ). In u t) (sym before) (in_right u (flat_map (root_units U) (roots_in (stored_first h))) (flat_map (root_units U) (roots_in was) ++ flat_map (root_units U) (roots_in (stored_last h))) (in_right u (flat_map (root_units U) (roots_in was)) (flat_map (root_units U) (roots_in (stored_last h))) m)))
        ]
      ]

  -- ---- all of it

  -- where the file's trees are whole, in use and no logged pages, all numbers differ, and the records form objects
  module _ (trees : AllByRecursion (IsTree (g.geometry new) U') (roots_in is)) (fine : AllByRecursion (λ (root : Root). AllByRecursion (IsFine g new) (root_units U' root)) (roots_in is)) (uniques : HasUniques v') (objects : HasObjects U' (stored_in v')) where
    all_trees : AllByRecursion (IsTree (g.geometry new) U') (roots_in (stored_in v'))
    all_trees = subst (AllByRecursion (IsTree (g.geometry new) U')) (sym (roots_filled h (g.image new) after is))
        (each_between (IsTree (g.geometry new) U') (roots_in (stored_first h)) (roots_in is) (roots_in (stored_last h))
        (each_as (IsVolumeTree g old) (IsTree (g.geometry new) U') (roots_in (stored_first h)) tree_moved old_parts.0) trees
        (each_as (IsVolumeTree g old) (IsTree (g.geometry new) U') (roots_in (stored_last h)) tree_moved old_parts.2))

    abbrev FineRoot : Root → Type 0
    FineRoot root = AllByRecursion (IsFine g new) (root_units U' root)

    all_fine : AllByRecursion (λ (root : Root). AllByRecursion (IsFine g new) (root_units U' root)) (roots_in (stored_in v'))
    all_fine = subst (AllByRecursion FineRoot) (sym (roots_filled h (g.image new) after is))
        (each_between FineRoot (roots_in (stored_first h)) (roots_in is) (roots_in (stored_last h))
        (each_as (IsVolumeTree g old) FineRoot (roots_in (stored_first h)) fine_root old_parts.0) fine
        (each_as (IsVolumeTree g old) FineRoot (roots_in (stored_last h)) fine_root old_parts.2))

    no_page : (u : ℕ) → IsFine g new u → ¬ Contains (catalog_no ∷ file_pages v') u
    no_page u fine c = absurd (let t = (held_of g new (catalog_no ∷ file_pages v') counted_new u).1 c in let f = fine.1 in cc)

    part_node : HasNodes (g.geometry new) U' v'
    part_node = record {
      named = each_as (IsTree (g.geometry new) U') (λ (root : Root). RootNamed (g.geometry new) U' root.height root.page) (roots_in (stored_in v')) (λ root t. t.0) all_trees;
      no_file_page = each_as FineRoot (λ (root : Root). Apart (root_units U' root) (catalog_no ∷ file_pages v')) (roots_in (stored_in v'))
          (λ root fine. each_as (IsFine g new) (λ u. ¬ Contains (catalog_no ∷ file_pages v') u) (root_units U' root) no_page fine) all_fine;
      objects = objects;
    }

    catalog_bytes : U' catalog_no ≡ g.image new catalog_no
    catalog_bytes = let some = (g.geometry new).some_pages in in_area g new catalog_no (omega (arith, some))

    reach_used : (u : ℕ) → Contains (reach_of U' v') u → g.used new u ≡ true
    reach_used u c = of_each (λ x. g.used new x ≡ true) u (reach_of U' v') (each-append (λ x. g.used new x ≡ true) (catalog_no ∷ file_pages v') (flat_map (root_units U') (roots_in (stored_in v')))
        (each_in (λ x. g.used new x ≡ true) (catalog_no ∷ file_pages v') (λ x k. edit.frame.in_use x ((held_of g new (catalog_no ∷ file_pages v') counted_new x).1 (contains_in x (catalog_no ∷ file_pages v') k))))
        (each_joined (λ x. g.used new x ≡ true) (root_units U') (roots_in (stored_in v')) (each_as FineRoot (λ (root : Root). AllByRecursion (λ x. g.used new x ≡ true) (root_units U' root)) (roots_in (stored_in v'))
        (λ root fine. each_as (IsFine g new) (λ x. g.used new x ≡ true) (root_units U' root) (λ x f. f.0) fine) all_fine)))
        (in_contains u (reach_of U' v') c)

    all_parts : AllByRecursion (HoldsOf (g.geometry new) records U' v') content_parts
    all_parts = (
      (subst (λ (bytes : List ℕ). CatalogOf bytes (catalog_with h after)) (sym catalog_bytes) edit.catalog, vol.shows.parts.0.1),
      ((part_file, differ_of g new catalog_no (file_pages v') counted_new), (part_page, (part_body, (part_node, (each_as (IsTree (g.geometry new) U') (HasBalance (g.geometry new) U') (roots_in (stored_in v')) (λ root t. t.1) all_trees, (uniques, tt)))))),
    )

    pub edited : IsVolume g new records (filled h (g.image new) after is)
    edited = record {
      shows = record { parts = all_parts; held = held_of g new (catalog_no ∷ file_pages v') counted_new; apart = edit.frame.apart };
      used = reach_used;
    }
