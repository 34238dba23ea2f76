-- A table in which the versions of one file change.
use Rattle.std.proofs.Common.{◌≡◌, ◌≢◌, ℕ, Bool, false, cond, List, [], ◌∷◌, ◌++◌, map, Option, Some, None, refl, sym, ap, subst, ◌∙◌}
use Rattle.std.specs.Prelude.{bytes_eq, find}
use Rattle.std.specs.List.{AllByRecursion, zip}
use Rattle.std.proofs.lemmas.Slice.Eq.{bytes_eq-Decides}
use Rattle.std.proofs.lemmas.List.{map-append}
use Rattle.ex_base.specs.declared.ground.Ground as ground
use Rattle.ex_base.specs.declared.names.Oid.{Oid}
use Rattle.ex_base.specs.Order.{RisingTexts}
use Rattle.ex_base.proofs.Each.{split_each}
use Rattle.version_lists.specs.declared.version.Version.{Version}
use Rattle.version_lists.specs.declared.version.Object.{Object}
use Rattle.version_lists.specs.Sorted.{in_order}
use Rattle.version_lists.specs.Versions.{unique_of as number_of, has_oid}
use Rattle.version_lists.specs.Objects.{objects_formed}
use Rattle.version_lists.specs.Changes.{created_in}
use Rattle.version_lists.proofs.Lists.{Has, Rises, find_has, has_flat, has_front}
use Rattle.version_lists.proofs.Links.{Linked, number_from_oid}
use Rattle.version_lists.proofs.Forming.{all_versions}
use Rattle.version_lists.proofs.Sorted.{order_left}
use Rattle.table_model.specs.declared.table.TableFile.{TableFile}
use Rattle.table_model.specs.declared.table.Table.{Table}
use Rattle.table_model.specs.Tables.{in_each_file, object_added, with_object, with_versions}
use Rattle.ex_base.specs.declared.names.Index.{Index}
use Rattle.object_files.specs.Catalog.{FileEntry, name_of}
use Rattle.trees.specs.Trees.{Units}
use Rattle.op_log.specs.declared.record.LogRecord.{LogRecord}
use Rattle.volume_model.specs.Volume.{Stored, FileContent, file_of, table_of, unique_of, versions_stored}
use Rattle.volume_model.proofs.Places.{Sep, each_has, has_each}
use Rattle.volume_model.proofs.Versions.{has_stored}
use Rattle.volume_edits.specs.Ported.{IsVolume, units_in}
use Rattle.volume_edits.proofs.FileVersions.{IsFile, linked_file, numbers_differ, whole_files}
use Rattle.volume_edits.proofs.Naming.{texts_differ}
use Rattle.volume_edits.proofs.TurnCounts.{sep_back, sep_cross}
use Rattle.volume_edits.proofs.Holes.{Hole, entry_with, file_with, filled, stored_filled, stored_first, stored_last, table_filled, table_with}
use Rattle.volume_edits.proofs.Edited.{Edit, table_edited}

-- ---- a version that isn't among those of a file

pub absent : (units : Units) (oid : Oid) (stored : List Stored) → ((s : Stored) → Has stored s → unique_of s ≢ oid.unique) → find (has_oid oid) (versions_stored units stored) ≡ None
absent units oid stored others = by (find (has_oid oid) (versions_stored units stored)) refl
  where
    by : (o : Option Version) → find (has_oid oid) (versions_stored units stored) ≡ o → find (has_oid oid) (versions_stored units stored) ≡ None
    by None is = is
    by (Some v) is =
        let r = find_has (has_oid oid) (versions_stored units stored) v is in
        let s = has_stored units stored v r.0 in
        absurd (others s.0 s.1 (ap number_of s.2 ∙ number_from_oid oid v r.1))

-- ---- the files

abbrev made_file : List ℕ → List Object → TableFile
made_file name objects = record { name = name; objects = objects }

module _ (units : Units) (change : List Version → List Version) where
  -- no version of the file changes
  pub record IsSpared (f : FileContent) : Type 0 where
    pub whole : IsFile f
    pub same : change (versions_stored units f.stored) ≡ versions_stored units f.stored

  -- the objects of a file are formed anew of the versions that they have
  formed_anew : (name : List ℕ) (vs : List Version) → Linked vs → with_versions change (made_file name (objects_formed vs)) ≡ made_file name (objects_formed (change vs))
  formed_anew name vs linked = ap (λ (ws : List Version). made_file name (objects_formed (change ws))) (all_versions vs linked)

  spared_files : (entries : List FileEntry) (files : List FileContent) → AllByRecursion IsSpared files → map (with_versions change) (map (file_of units) (zip entries files)) ≡ map (file_of units) (zip entries files)
  spared_files [] files all = refl
  spared_files (e ∷ entries) [] all = refl
  spared_files (e ∷ entries) (f ∷ files) all =
      let here : with_versions change (file_of units (e, f)) ≡ file_of units (e, f) = formed_anew e.name (versions_stored units f.stored) (linked_file units f all.0.whole) ∙ ap (λ (ws : List Version). made_file e.name (objects_formed ws)) all.0.same in
      let rest = spared_files entries files all.1 in
      cc (here, rest)

  abbrev made_table : Hole → List TableFile → Table
  made_table h files = record { next_unique = h.next; last = h.last; files = files }

  pub table_turned : (h : Hole) (vs : List Version) → Linked vs → AllByRecursion IsSpared h.files_before → AllByRecursion IsSpared h.files_behind
      → in_each_file change (table_with units h (objects_formed vs)) ≡ table_with units h (objects_formed (change vs))
  table_turned h vs linked before behind =
      let first = spared_files h.entries_before h.files_before before in
      let last = spared_files h.entries_behind h.files_behind behind in
      let own = formed_anew h.name vs linked in
      ap (made_table h) (
      map-append (with_versions change) (map (file_of units) (zip h.entries_before h.files_before)) (made_file h.name (objects_formed vs) ∷ map (file_of units) (zip h.entries_behind h.files_behind))
      ∙ ap (λ (t : List TableFile). t ++ (with_versions change (made_file h.name (objects_formed vs)) ∷ map (with_versions change) (map (file_of units) (zip h.entries_behind h.files_behind)))) first
      ∙ ap (λ (f : TableFile). map (file_of units) (zip h.entries_before h.files_before) ++ (f ∷ map (with_versions change) (map (file_of units) (zip h.entries_behind h.files_behind)))) own
      ∙ ap (λ (t : List TableFile). map (file_of units) (zip h.entries_before h.files_before) ++ (made_file h.name (objects_formed (change vs)) ∷ t)) last
      )

-- ---- a new object in the file of a name

module _ (units : Units) (oid : Oid) (name : List ℕ) where
  other_file : (m : List ℕ) (objects : List Object) → bytes_eq m name ≡ false → object_added oid name (made_file m objects) ≡ made_file m objects
  other_file m objects other = ap (λ (b : Bool). cond b (with_versions (created_in oid) (made_file m objects)) (made_file m objects)) other

  other_files : (entries : List FileEntry) (files : List FileContent) → AllByRecursion (λ (m : List ℕ). bytes_eq m name ≡ false) (map name_of entries)
      → map (object_added oid name) (map (file_of units) (zip entries files)) ≡ map (file_of units) (zip entries files)
  other_files [] files others = refl
  other_files (e ∷ entries) [] others = refl
  other_files (e ∷ entries) (f ∷ files) others =
      let here = other_file e.name (objects_formed (versions_stored units f.stored)) others.0 in
      let rest = other_files entries files others.1 in
      cc (here, rest)

pub table_with_object : (units : Units) (oid : Oid) (h : Hole) (vs : List Version) → Linked vs → AllByRecursion (λ (m : List ℕ). bytes_eq m h.name ≡ false) (map name_of h.entries_before) → AllByRecursion (λ (m : List ℕ). bytes_eq m h.name ≡ false) (map name_of h.entries_behind)
    → with_object oid h.name (table_with units h (objects_formed vs)) ≡ table_with units h (objects_formed (created_in oid vs))
table_with_object units oid h vs linked before behind =
    let first = other_files units oid h.name h.entries_before h.files_before before in
    let last = other_files units oid h.name h.entries_behind h.files_behind behind in
    let made : List TableFile → Table = λ files. record { next_unique = h.next; last = h.last; files = files } in
    let added = object_added oid h.name in
    ap made (
    map-append added (map (file_of units) (zip h.entries_before h.files_before)) (made_file h.name (objects_formed vs) ∷ map (file_of units) (zip h.entries_behind h.files_behind))
    ∙ ap (λ (t : List TableFile). t ++ (added (made_file h.name (objects_formed vs)) ∷ map added (map (file_of units) (zip h.entries_behind h.files_behind)))) first
    ∙ ap (λ (f : TableFile). map (file_of units) (zip h.entries_before h.files_before) ++ (f ∷ map added (map (file_of units) (zip h.entries_behind h.files_behind)))) own
    ∙ ap (λ (t : List TableFile). map (file_of units) (zip h.entries_before h.files_before) ++ (made_file h.name (objects_formed (created_in oid vs)) ∷ t)) last
    )
  where
    own : object_added oid h.name (made_file h.name (objects_formed vs)) ≡ made_file h.name (objects_formed (created_in oid vs))
    own =
        ap (λ (b : Bool). cond b (with_versions (created_in oid) (made_file h.name (objects_formed vs))) (made_file h.name (objects_formed vs))) ((bytes_eq-Decides h.name h.name).1 refl)
        ∙ formed_anew units (created_in oid) h.name vs linked

-- ---- the table of a volume

module _ {S : Type 0} (g : ground.Ghosts S) (old new : S) (records : List LogRecord) (h : Hole) (index after : Index) (was is : List Stored) (vol : IsVolume g old records (filled h (g.image old) index was)) (edit : Edit g old new h index after is) where
  abbrev U : Units
  U = units_in g old

  abbrev U' : Units
  U' = units_in g new

  abbrev vs : List Version
  vs = versions_stored U was

  files_whole : AllByRecursion IsFile h.files_before × AllByRecursion IsFile (file_with (g.image old) index was ∷ h.files_behind)
  files_whole = split_each IsFile h.files_before (file_with (g.image old) index was ∷ h.files_behind) (whole_files (g.geometry old) records U (filled h (g.image old) index was) vol.shows.parts)

  pub own_linked : Linked vs
  own_linked = linked_file U (file_with (g.image old) index was) files_whole.1.0

  differ : Sep unique_of (stored_first h ++ (was ++ stored_last h))
  differ = subst (Sep unique_of) (stored_filled h (g.image old) index was) (numbers_differ (g.geometry old) records U (filled h (g.image old) index was) vol.shows.parts)

  module _ (change : List Version → List Version) (versions : versions_stored U' is ≡ in_order number_of (change vs)) (rises : Rises number_of (change vs)) where
    own_objects : table_of U' (filled h (g.image new) after is) ≡ table_with U h (objects_formed (change vs))
    own_objects = table_edited g old new records h index after was is vol edit ∙ ap (λ (ws : List Version). table_with U h (objects_formed ws)) (versions ∙ order_left number_of (change vs) rises)

    -- a change of a version of this file is one in each file
    pub table_changed : (oid : Oid) → ((ws : List Version) → find (has_oid oid) ws ≡ None → change ws ≡ ws) → (x : Stored) → Has was x → unique_of x ≡ oid.unique
        → table_of U' (filled h (g.image new) after is) ≡ in_each_file change (table_of U (filled h (g.image old) index was))
    table_changed oid elsewhere x there named =
        own_objects
        ∙ sym (ap (in_each_file change) (table_filled U h (g.image old) index was edit.paired)
        ∙ table_turned U change h vs own_linked
        (has_each (IsSpared U change) h.files_before (λ f k. record { whole = each h.files_before f k files_whole.0; same = elsewhere (versions_stored U f.stored) (absent U oid f.stored (λ s m same. first s (has_flat (λ (c : FileContent). c.stored) h.files_before f s k m) (same ∙ sym named))) }))
        (has_each (IsSpared U change) h.files_behind (λ f k. record { whole = each h.files_behind f k files_whole.1.1; same = elsewhere (versions_stored U f.stored) (absent U oid f.stored (λ s m same. last s (has_flat (λ (c : FileContent). c.stored) h.files_behind f s k m) (same ∙ sym named))) })))
      where
        each : (files : List FileContent) (f : FileContent) → Has files f → AllByRecursion IsFile files → IsFile f
        each files f k all = each_has IsFile files all f k

        first : (s : Stored) → Has (stored_first h) s → unique_of s ≢ unique_of x
        first s k same = sep_cross unique_of (stored_first h) (was ++ stored_last h) s x differ k (has_front was (stored_last h) x there) same

        last : (s : Stored) → Has (stored_last h) s → unique_of s ≢ unique_of x
        last s k same = sep_cross unique_of was (stored_last h) x s (sep_back unique_of (stored_first h) (was ++ stored_last h) differ) there k (sym same)

  -- a new object of this file is one in the file of its name
  pub table_added : (oid : Oid) → versions_stored U' is ≡ in_order number_of (created_in oid vs) → Rises number_of (created_in oid vs)
      → table_of U' (filled h (g.image new) after is) ≡ with_object oid h.name (table_of U (filled h (g.image old) index was))
  table_added oid versions rises =
      let names = texts_differ (map name_of h.entries_before) h.name (map name_of h.entries_behind) (subst RisingTexts (map-append name_of h.entries_before (entry_with h index ∷ h.entries_behind)) vol.shows.parts.0.0.fits.sorted) in
      own_objects (created_in oid) versions rises
      ∙ sym (ap (with_object oid h.name) (table_filled U h (g.image old) index was edit.paired) ∙ table_with_object U oid h vs own_linked names.0 names.1)
