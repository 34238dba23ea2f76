-- The files of a volume in its table, and which of them have no objects.
use Rattle.std.proofs.Common.{◌≡◌, ℕ, zero, suc, ◌≤◌, Bool, cond, List, [], ◌∷◌, length, Option, Some, None, refl, sym, ap, subst, ◌∙◌, arith, inl, inr}
use Rattle.std.specs.Prelude.{map, find, Contains, IsSome, nat_lt}
use Rattle.std.specs.List.{flat_map, AllByRecursion, AllZip, zip}
use Rattle.std.specs.Option.{is_some}
use Rattle.std.proofs.lemmas.Bool.{cases_Bool}
use Rattle.std.proofs.lemmas.List.{length-append, length-map}
use Rattle.std.proofs.lemmas.List.Sorted.{length_permutation}
use Rattle.std.proofs.lemmas.Slice.Eq.{bytes_eq-Decides}
use Rattle.ex_base.specs.declared.ground.Ground as ground
use Rattle.ex_base.specs.declared.geometry.Geometry.{Geometry}
use Rattle.ex_base.specs.declared.names.PageNo.{PageNo}
use Rattle.ex_base.proofs.Members.{contains_in, in_contains, of_each}
use Rattle.ex_base.proofs.Booleans.{none_below_some}
use Rattle.op_log.specs.declared.record.LogRecord.{LogRecord}
use Rattle.slotted_pages.specs.FilePage.{Slot, EndsLive}
use Rattle.slotted_pages.specs.Edits.{slots_of}
use Rattle.file_index.specs.declared.Entry.{Entry}
use Rattle.file_index.specs.IndexPage.{entries_on}
use Rattle.file_index.specs.Index.{IsUnder, IsIndex, keys_under, keys_of}
use Rattle.file_bodies.specs.Bodies.{Row, row_of, place_at, bodies_from, bodies_on, bodies_of, pages_in}
use Rattle.file_bodies.specs.Files.{IsPageOf}
use Rattle.object_files.specs.Catalog.{FileEntry, name_of}
use Rattle.trees.specs.Trees.{Units}
use Rattle.version_lists.specs.declared.version.Version.{Version}
use Rattle.version_lists.specs.declared.version.Object.{Object}
use Rattle.table_model.specs.declared.table.TableFile.{TableFile}
use Rattle.table_model.specs.Tables.{has_name, file_at}
use Rattle.version_lists.specs.Sorted.{in_order}
use Rattle.version_lists.specs.Versions.{unique_of as number_of}
use Rattle.version_lists.specs.Objects.{objects_formed}
use Rattle.version_lists.proofs.Forming.{all_versions}
use Rattle.version_lists.proofs.Links.{Linked}
use Rattle.version_lists.proofs.Sorted.{order_permutation}
use Rattle.table_model.specs.Refusals.{has_objects}
use Rattle.volume_model.specs.Parts.{HasBodies, HasIndex, HasPages, IsStored}
use Rattle.volume_model.specs.Volume.{Stored, FileContent, Volume, version_of, versions_stored, file_of, table_of}
use Rattle.volume_edits.specs.Ported.{ShowsVolume, units_in, index_named}
use Rattle.volume_edits.proofs.Lists.{Paired}
use Rattle.volume_edits.proofs.Contents.{Beside, content_of, pairs, at_beside}
use Rattle.volume_edits.proofs.FileVersions.{IsFile, linked_file}
use Rattle.volume_edits.proofs.Finding.{file_in}
use Rattle.volume_edits.proofs.Listed.{file_there, beside_entry}
use Rattle.volume_model.proofs.FilesListed.{bare}
use Rattle.volume_edits.proofs.Showing.{whole}

-- ---- a page of a file has a body

live_rows : (page at : ℕ) (slots : List Slot) → EndsLive slots → 1 ≤ length slots → 1 ≤ length (bodies_from page at slots)
live_rows page at [] ends some = absurd (omega arith)
live_rows page at (None ∷ []) ends some = absurd ends
live_rows page at (Some body ∷ []) ends some = omega arith
live_rows page at (s ∷ next ∷ slots) ends some =
    omega (arith, length-append (row_of (place_at page at) s) (bodies_from page (suc at) (next ∷ slots)), live_rows page (suc at) (next ∷ slots) ends (omega arith))

-- pages without bodies are none
no_pages_in : (image : ℕ → List ℕ) (file_no : ℕ) (keys : List ℕ) → AllByRecursion (λ page. IsPageOf file_no (image page)) keys → length (flat_map (bodies_on image) keys) ≡ 0 → length keys ≡ 0
no_pages_in image file_no [] pages none = refl
no_pages_in image file_no (k ∷ keys) pages none =
    let some = live_rows k 0 (slots_of (image k)) pages.0.spelled.fits.last pages.0.some in
    absurd (omega (arith, none, some, length-append (bodies_on image k) (flat_map (bodies_on image) keys)))

-- what an index with a root names is some page
among : (g : Geometry) (file_no : ℕ) (image : ℕ → List ℕ) (level : ℕ) (es : List Entry) → 2 ≤ length es → AllByRecursion (λ (e : Entry). IsUnder g file_no image level (Some e.key) e.page.0) es
    → ((least : Option ℕ) (page : ℕ) → IsUnder g file_no image level least page → 1 ≤ length (keys_under image level page)) → 1 ≤ length (flat_map (λ (e : Entry). keys_under image level e.page.0) es)
among g file_no image level [] two each some = absurd (omega arith)
among g file_no image level (e ∷ es) two each some =
    omega (arith, some (Some e.key) e.page.0 each.0, length-append (keys_under image level e.page.0) (flat_map (λ (d : Entry). keys_under image level d.page.0) es))

some_under : (g : Geometry) (file_no : ℕ) (image : ℕ → List ℕ) (level : ℕ) (least : Option ℕ) (page : ℕ) → IsUnder g file_no image level least page → 1 ≤ length (keys_under image level page)
some_under g file_no image zero least page h = omega arith
some_under g file_no image (suc level) least page h = among g file_no image level (entries_on (image page)) h.1.two h.2 (λ least page. some_under g file_no image level least page)

no_root : (g : Geometry) (image : ℕ → List ℕ) (file_no level : ℕ) (root : Option PageNo) → IsIndex g image file_no level root → length (keys_of image level root) ≡ 0 → root ≡ None
no_root g image file_no level None h none = refl
no_root g image file_no level (Some page) h none = absurd (omega (arith, none, some_under g file_no image level None page.0 h.whole))

-- ---- names

names_are : (units : Units) (entries : List FileEntry) (files : List FileContent) → Paired entries files → map (λ (f : TableFile). f.name) (map (file_of units) (zip entries files)) ≡ map name_of entries
names_are units [] [] p = refl
names_are units [] (c ∷ files) p = absurd p
names_are units (e ∷ entries) [] p = absurd p
names_are units (e ∷ entries) (c ∷ files) p = ap (λ (t : List (List ℕ)). e.name ∷ t) (names_are units entries files p.1)

none_named : (name : List ℕ) (files : List TableFile) → (Contains (map (λ (f : TableFile). f.name) files) name → ⊥) → find (has_name name) files ≡ None
none_named name [] lacks = refl
none_named name (f ∷ files) lacks = elim (cases_Bool (has_name name f)) [
  | inl here ↦ absurd (lacks (contains_in name (map (λ (x : TableFile). x.name) (f ∷ files)) (inl (sym ((bytes_eq-Decides f.name name).0 here)))))
  | inr other ↦ ap (λ (b : Bool). cond b (Some f) (find (has_name name) files)) other ∙ none_named name files (λ c. lacks (contains_in name (map (λ (x : TableFile). x.name) (f ∷ files)) (inr (in_contains name (map (λ (x : TableFile). x.name) files) c))))
]

-- ---- a file without objects

nil_of : {A : Type 0} (xs : List A) → length xs ≡ 0 → xs ≡ []
nil_of [] none = refl
nil_of (x ∷ xs) none = absurd (omega (arith, none))

-- versions that form no object are none
pub none_formed : (vs : List Version) → Linked vs → length (objects_formed vs) ≡ 0 → length vs ≡ 0
none_formed vs linked none = ap length (sym (all_versions vs linked) ∙ ap (λ (os : List Object). in_order number_of (flat_map (λ (o : Object). o.versions) os)) (nil_of (objects_formed vs) none))

pub as_many : (units : Units) (stored : List Stored) → length (versions_stored units stored) ≡ length stored
as_many units stored = length_permutation (map (version_of units stored) stored) (versions_stored units stored) (order_permutation number_of (map (version_of units stored) stored)) ∙ length-map stored (version_of units stored)

no_rows : (rows : List Row) (stored : List Stored) → AllZip IsStored rows stored → length stored ≡ 0 → length rows ≡ 0
no_rows [] [] h none = refl
no_rows [] (s ∷ stored) h none = absurd h
no_rows (row ∷ rows) [] h none = absurd h
no_rows (row ∷ rows) (s ∷ stored) h none = absurd (omega arith)

module _ {S : Type 0} (g : ground.Ghosts S) (s : S) (records : List LogRecord) (v : Volume) (vol : ShowsVolume g s records v) where
  abbrev U : Units
  U = units_in g s

  pub file_names : map (λ (f : TableFile). f.name) (table_of U v).files ≡ map name_of v.catalog.entries
  file_names = names_are U v.catalog.entries v.files (pairs g s records v vol)

  pub no_file : (name : List ℕ) → (Contains (map name_of v.catalog.entries) name → ⊥) → file_at (table_of U v) name ≡ None
  no_file name lacks = none_named name (table_of U v).files (λ c. lacks (subst (λ (ns : List (List ℕ)). Contains ns name) file_names c))

  rootless_objects : (e : FileEntry) (f : FileContent) → Beside v.catalog.entries v.files e f → length (file_of U (e, f)).objects ≡ 0 → e.root ≡ None
  rootless_objects e f b none =
      let content = content_of g s records v vol e f b in
      let file = of_each IsFile f v.files (whole g s records v vol) (file_in v e f b) in
      let stored : length f.stored ≡ 0 = sym (as_many U f.stored) ∙ none_formed (versions_stored U f.stored) (linked_file U f file) none in
      let rows = no_rows (bodies_of (g.image s) (index_named e)) f.stored content.records stored in
      no_root (g.geometry s) (g.image s) e.file_no e.level e.root content.file.whole (no_pages_in (g.image s) e.file_no (pages_in (g.image s) (index_named e)) content.file.pages rows)

  rooted_objects : (e : FileEntry) (f : FileContent) → Beside v.catalog.entries v.files e f → e.root ≡ None → length (file_of U (e, f)).objects ≡ 0
  rooted_objects e f b rootless =
      ap (λ (stored : List Stored). length (objects_formed (versions_stored U stored)))
      (bare (g.geometry s) U e f rootless (at_beside (HasIndex (g.geometry s) U) v.catalog.entries v.files e f b vol.parts.1.0.0) (at_beside (HasPages U) v.catalog.entries v.files e f b vol.parts.1.1.0) (of_each HasBodies f v.files vol.parts.1.1.1.0 (file_in v e f b))).stored

  pub file_objects : (e : FileEntry) → Contains v.catalog.entries e → IsSome (file_at (table_of U v) e.name) × (has_objects (file_at (table_of U v) e.name) ≡ is_some e.root)
  file_objects e entry =
      let at = beside_entry v.catalog.entries v.files e (pairs g s records v vol) (in_contains e v.catalog.entries entry) in
      let there = file_there g s records v vol e at.0 at.1 in
      (subst IsSome (sym there) refl, ap has_objects there ∙ own e at.0 at.1)
    where
      by_root : (n : ℕ) (root : Option PageNo) → (n ≡ 0 → root ≡ None) → (root ≡ None → n ≡ 0) → nat_lt 0 n ≡ is_some root
      by_root zero None to from = refl
      by_root zero (Some page) to from = absurd (let e : Some page ≡ None = to refl in cc)
      by_root (suc n) None to from = absurd (omega (arith, from refl))
      by_root (suc n) (Some page) to from = none_below_some n

      own : (d : FileEntry) (c : FileContent) → Beside v.catalog.entries v.files d c → nat_lt 0 (length (file_of U (d, c)).objects) ≡ is_some d.root
      own d c b = by_root (length (file_of U (d, c)).objects) d.root (rootless_objects d c b) (rooted_objects d c b)
