-- What is listed of a file in the port is what the table says.
use Rattle.std.proofs.Common.{◌≡◌, ℕ, Bool, true, false, cond, not, List, [], ◌∷◌, ◌++◌, Option, Some, refl, sym, ap, subst, ◌∙◌, inl, inr}
use Rattle.std.specs.Prelude.{map, filter, find, Contains, bytes_eq}
use Rattle.std.specs.List.{AllByRecursion, AllZip, zip}
use Rattle.std.specs.List.Sorted.{IsPermutation}
use Rattle.std.proofs.lemmas.List.{map-append}
use Rattle.std.proofs.lemmas.Slice.Eq.{bytes_eq-Decides}
use Rattle.ex_base.specs.declared.ground.Ground as ground
use Rattle.ex_base.specs.declared.names.Oid.{Oid}
use Rattle.ex_base.specs.declared.names.Place.{Place}
use Rattle.ex_base.specs.Order.{RisingTexts}
use Rattle.ex_base.proofs.Members.{In, in_contains, of_each}
use Rattle.op_log.specs.declared.record.LogRecord.{LogRecord}
use Rattle.ex_base.specs.declared.names.Index.{Index}
use Rattle.file_bodies.specs.Bodies.{Row, bodies_of}
use Rattle.file_bodies.specs.Files.{HasFile, index_at}
use Rattle.object_files.specs.Catalog.{FileEntry, name_of}
use Rattle.object_records.specs.declared.State.{State}
use Rattle.object_records.specs.declared.State.TheVariants.{Current, Frozen}
use Rattle.object_records.specs.Record.{Record}
use Rattle.object_records.specs.Reads.{record_on}
use Rattle.object_records.proofs.RecordLaws.{record_read}
use Rattle.trees.specs.Trees.{Units}
use Rattle.version_lists.specs.declared.version.Version.{Version}
use Rattle.version_lists.specs.Versions.{unique_of as number_of}
use Rattle.version_lists.specs.Objects.{objects_formed, versions_of_all}
use Rattle.version_lists.proofs.Forming.{all_versions}
use Rattle.version_lists.proofs.Lists.{Has, has_filter, has_filter_from, has_map, has_map_from, rises_filter, rises_map, rising_agree}
use Rattle.table_model.specs.declared.table.TableFile.{TableFile}
use Rattle.table_model.specs.Tables.{has_name, file_at, is_current}
use Rattle.table_model.specs.Steps.{current_if}
use Rattle.versions.specs.Listed.{oids_by, oids_in, oids_of, AreByNumber}
use Rattle.volume_model.specs.Parts.{IsStored}
use Rattle.volume_model.specs.Volume.{Stored, FileContent, Volume, is_frozen, oid_of, unique_of, version_of, versions_stored, file_of, table_of}
use Rattle.volume_model.proofs.Places.{Sep, sep_filter, sep_map}
use Rattle.volume_model.proofs.Versions.{has_stored, stored_has, stored_rises}
use Rattle.volume_edits.specs.Ported.{ShowsVolume, units_in, index_named, HasContent}
use Rattle.volume_edits.proofs.Lists.{Paired, zip_append}
use Rattle.volume_edits.proofs.Naming.{texts_differ}
use Rattle.volume_edits.proofs.Contents.{Beside, content_of, pairs}
use Rattle.volume_edits.proofs.FileVersions.{IsFile, linked_file, sep_permuted}
use Rattle.volume_edits.proofs.Finding.{file_in}
use Rattle.volume_model.proofs.InOrder.{permuted_from, permuted_has, sorted_rises}
use Rattle.volume_edits.proofs.Showing.{whole}

-- ---- the rows of a file

-- it is a current one
abbrev is_now : Stored → Bool
is_now s = not (is_frozen s.body.head.state)

listed_rows : (rows : List Row) (stored : List Stored) → AllZip IsStored rows stored → oids_of rows ≡ map oid_of (filter is_now stored)
listed_rows [] [] h = refl
listed_rows [] (s ∷ stored) h = absurd h
listed_rows (row ∷ rows) [] h = absurd h
listed_rows (row ∷ rows) (s ∷ stored) h =
    let body : record_on row.1 ≡ s.body = record_read row.1 s.body h.0.1 in
    let head : (record_on row.1).head ≡ s.body.head = ap (λ (r : Record). r.head) body in
    let own : oids_in row.0 (record_on row.1).head ≡ oids_by s.body.head.state (oid_of s) = ap (λ (p : Place). oids_in p (record_on row.1).head) h.0.0 ∙ ap (oids_in s.place) head in
    ap (λ (t : List Oid). t ++ oids_of rows) own ∙ by s.body.head.state (listed_rows rows stored h.1)
  where
    by : (state : State) → oids_of rows ≡ map oid_of (filter is_now stored) → oids_by state (oid_of s) ++ oids_of rows ≡ map oid_of (cond (not (is_frozen state)) (s ∷ filter is_now stored) (filter is_now stored))
    by Current rest = ap (λ (t : List Oid). oid_of s ∷ t) rest
    by Frozen rest = rest

abbrev number_in : Oid → ℕ
number_in oid = oid.unique

abbrev oid_in : Version → Oid
oid_in w = w.oid

-- the current records of a file, as they are listed, are its current versions
module _ (units : Units) (f : FileContent) (file : IsFile f) (rows : List Row) (records : AllZip IsStored rows f.stored) where
  abbrev vs : List Version
  vs = versions_stored units f.stored

  sorted_is : (oids : List Oid) → IsPermutation (oids_of rows) oids → AreByNumber oids → oids ≡ map oid_in (filter is_current vs)
  sorted_is oids moves sorted =
      rising_agree number_in oids (map oid_in (filter is_current vs)) (sorted_rises number_in oids sorted apart)
      (rises_map number_of number_in oid_in (filter is_current vs) (λ w. refl) (rises_filter number_of is_current vs (stored_rises units f.stored file.numbers))) to from
    where
      listed : oids_of rows ≡ map oid_of (filter is_now f.stored)
      listed = listed_rows rows f.stored records

      apart : Sep number_in oids
      apart = sep_permuted number_in (oids_of rows) oids moves (subst (Sep number_in) (sym listed) (sep_map oid_of number_in (filter is_now f.stored) (sep_filter unique_of is_now f.stored file.numbers)))

      to : (z : Oid) → Has oids z → Has (map oid_in (filter is_current vs)) z
      to z m =
          let r = has_map_from oid_of (filter is_now f.stored) z (subst (λ (l : List Oid). Has l z) listed (permuted_from (oids_of rows) oids moves z m)) in
          let k = has_filter_from is_now f.stored r.0 r.1 in
          subst (Has (map oid_in (filter is_current vs))) r.2 (has_map oid_in (filter is_current vs) (version_of units f.stored r.0) (has_filter is_current vs (version_of units f.stored r.0) (stored_has units f.stored r.0 k.0) k.1))

      from : (z : Oid) → Has (map oid_in (filter is_current vs)) z → Has oids z
      from z m =
          let r = has_map_from oid_in (filter is_current vs) z m in
          let k = has_filter_from is_current vs r.0 r.1 in
          let x = has_stored units f.stored r.0 k.0 in
          let now : is_now x.0 ≡ true = ap is_current x.2 ∙ k.1 in
          permuted_has (oids_of rows) oids moves z (subst (λ (l : List Oid). Has l z) (sym listed) (subst (Has (map oid_of (filter is_now f.stored))) (ap oid_in x.2 ∙ r.2) (has_map oid_of (filter is_now f.stored) x.0 (has_filter is_now f.stored x.0 x.1 now))))

-- ---- the file in the table

find_past : (p : TableFile → Bool) (xs : List TableFile) (x : TableFile) (ys : List TableFile) → AllByRecursion (λ (f : TableFile). p f ≡ false) xs → p x ≡ true → find p (xs ++ (x ∷ ys)) ≡ Some x
find_past p [] x ys others here = ap (λ (b : Bool). cond b (Some x) (find p ys)) here
find_past p (f ∷ xs) x ys others here = ap (λ (b : Bool). cond b (Some f) (find p (xs ++ (x ∷ ys)))) others.0 ∙ find_past p xs x ys others.1 here

named_files : (units : Units) (name : List ℕ) (entries : List FileEntry) (files : List FileContent) → AllByRecursion (λ (m : List ℕ). bytes_eq m name ≡ false) (map name_of entries) → AllByRecursion (λ (f : TableFile). has_name name f ≡ false) (map (file_of units) (zip entries files))
named_files units name [] files differ = tt
named_files units name (e ∷ entries) [] differ = tt
named_files units name (e ∷ entries) (f ∷ files) differ = (differ.0, named_files units name entries files differ.1)

pub beside_entry : (entries : List FileEntry) (files : List FileContent) (e : FileEntry) → Paired entries files → In e entries → (f : FileContent) × Beside entries files e f
beside_entry [] files e p h = absurd h
beside_entry (d ∷ entries) [] e p h = absurd p
beside_entry (d ∷ entries) (c ∷ files) e p (inl same) = (c, record { entries_before = []; entries_behind = entries; files_before = []; files_behind = files; entries_are = ap (λ (x : FileEntry). x ∷ entries) (sym same); files_are = refl; paired = tt })
beside_entry (d ∷ entries) (c ∷ files) e p (inr h) =
    let rest = beside_entry entries files e p.1 h in
    let b = rest.1 in (
      rest.0,
      record {
        entries_before = d ∷ b.entries_before;
        entries_behind = b.entries_behind;
        files_before = c ∷ b.files_before;
        files_behind = b.files_behind;
        entries_are = ap (λ (t : List FileEntry). d ∷ t) b.entries_are;
        files_are = ap (λ (t : List FileContent). c ∷ t) b.files_are;
        paired = (tt, b.paired);
      },
    )

-- the table has the file of an entry under the entry's name
pub file_named : (U : Units) (v : Volume) → RisingTexts (map name_of v.catalog.entries) → (e : FileEntry) (f : FileContent) → Beside v.catalog.entries v.files e f → file_at (table_of U v) e.name ≡ Some (file_of U (e, f))
file_named U v sorted e f b =
    let names = texts_differ (map name_of b.entries_before) e.name (map name_of b.entries_behind) (subst RisingTexts (map-append name_of b.entries_before (e ∷ b.entries_behind)) (subst (λ (es : List FileEntry). RisingTexts (map name_of es)) b.entries_are sorted)) in
    let files : map (file_of U) (zip v.catalog.entries v.files) ≡ map (file_of U) (zip b.entries_before b.files_before) ++ (file_of U (e, f) ∷ map (file_of U) (zip b.entries_behind b.files_behind)) =
    ap (λ (es : List FileEntry). map (file_of U) (zip es v.files)) b.entries_are ∙ ap (λ (fs : List FileContent). map (file_of U) (zip (b.entries_before ++ (e ∷ b.entries_behind)) fs)) b.files_are
    ∙ ap (map (file_of U)) (zip_append b.entries_before (e ∷ b.entries_behind) b.files_before (f ∷ b.files_behind) b.paired) ∙ map-append (file_of U) (zip b.entries_before b.files_before) ((e, f) ∷ zip b.entries_behind b.files_behind) in
    ap (find (has_name e.name)) files ∙ find_past (has_name e.name) (map (file_of U) (zip b.entries_before b.files_before)) (file_of U (e, f)) (map (file_of U) (zip b.entries_behind b.files_behind)) (named_files U e.name b.entries_before b.files_before names.0) ((bytes_eq-Decides e.name e.name).1 refl)

module _ {S : Type 0} (g : ground.Ghosts S) (s : S) (records : List LogRecord) (v : Volume) (vol : ShowsVolume g s records v) where
  abbrev U : Units
  U = units_in g s

  pub file_there : (e : FileEntry) (f : FileContent) → Beside v.catalog.entries v.files e f → file_at (table_of U v) e.name ≡ Some (file_of U (e, f))
  file_there e f b = file_named U v vol.parts.0.0.fits.sorted e f b

  pub file_listed : (e : FileEntry) (index : Index) (oids : List Oid) → Contains v.catalog.entries e → HasFile g s index → index.file_no ≡ e.file_no → IsPermutation (oids_of (bodies_of (g.image s) index)) oids → AreByNumber oids
      → oids ≡ map (λ (w : Version). w.oid) (current_if (file_at (table_of U v) e.name))
  file_listed e index oids entry file number moves sorted =
      let at = beside_entry v.catalog.entries v.files e (pairs g s records v vol) (in_contains e v.catalog.entries entry) in
      let content : HasContent g s e at.0 = content_of g s records v vol e at.0 at.1 in
      let whole_file = of_each IsFile at.0 v.files (whole g s records v vol) (file_in v e at.0 at.1) in
      let both : Some (index_named e) ≡ Some index = sym content.entry ∙ ap (index_at (g.image s)) (sym number) ∙ file.entry in
      let same : index_named e ≡ index = cc in
      let formed : versions_of_all (objects_formed (versions_stored U (at.0).stored)) ≡ versions_stored U (at.0).stored = all_versions (versions_stored U (at.0).stored) (linked_file U at.0 whole_file) in
      sorted_is U at.0 whole_file (bodies_of (g.image s) (index_named e)) content.records oids (subst (λ (i : Index). IsPermutation (oids_of (bodies_of (g.image s) i)) oids) (sym same) moves) sorted
      ∙ sym (ap (λ (o : Option TableFile). map oid_in (current_if o)) (file_there e at.0 at.1) ∙ ap (λ (ws : List Version). map oid_in (filter is_current ws)) formed)
