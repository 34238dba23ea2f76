-- The large versions of a file of a volume, as they are listed.
use Rattle.std.proofs.Common.{◌≡◌, ℕ, List, [], ◌∷◌, map, inl, inr, refl, sym, ap, subst, ◌∙◌}
use Rattle.std.specs.List.{AllZip, zip}
use Rattle.ex_base.specs.declared.ground.Ground as ground
use Rattle.ex_base.specs.declared.names.Index.{Index}
use Rattle.ex_base.specs.declared.names.Place.{Place}
use Rattle.ex_base.proofs.Members.{In, in_contains, of_each}
use Rattle.file_bodies.specs.Bodies.{Row, bodies_of}
use Rattle.file_bodies.specs.Files.{HasFile}
use Rattle.file_walk.specs.Objects.{linked_of}
use Rattle.file_walk.proofs.SameLinks.{linked_all, links_kept}
use Rattle.object_files.specs.Catalog.{FileEntry}
use Rattle.object_records.specs.Record.{Record}
use Rattle.object_records.specs.Reads.{record_on}
use Rattle.object_records.specs.declared.Head.{Head}
use Rattle.object_records.proofs.RecordLaws.{record_read}
use Rattle.record_links.specs.Links.{AreLinked}
use Rattle.record_links.specs.declared.Linked.{Linked}
use Rattle.record_lists.specs.Listed.{listed_of}
use Rattle.versions.specs.Listed.{AreReadable}
use Rattle.volume_edits.specs.Ported.{HasContent, ShowsVolume, index_named}
use Rattle.volume_edits.proofs.Contents.{contents}
use Rattle.volume_model.specs.Parts.{HasBodies, IsStored, bodies_in}
use Rattle.volume_model.specs.Volume.{FileContent, Stored, Volume}
use Rattle.packing.specs.Loop.{HasFileAs}
use Rattle.packing.specs.Objects.{AreLargeVersions, linked_listed}
use Rattle.packing.specs.declared.objects.LargeVersion.{LargeVersion}

-- ---- pairs of two lists

pub zip_in : {A B : Type 0} (P : A → B → Type 0) (xs : List A) (ys : List B) (x : A) (y : B) → AllZip P xs ys → In (x, y) (zip xs ys) → P x y
zip_in P [] ys x y all there = absurd there
zip_in P (a ∷ xs) [] x y all there = absurd there
zip_in {A} {B} P (a ∷ xs) (b ∷ ys) x y all (inl same) = subst (λ (row : A × B). P row.0 row.1) (sym same) all.0
zip_in P (a ∷ xs) (b ∷ ys) x y all (inr later) = zip_in P xs ys x y all.1 later

pub zip_second : {A B : Type 0} (xs : List A) (ys : List B) (x : A) (y : B) → In (x, y) (zip xs ys) → In y ys
zip_second [] ys x y there = absurd there
zip_second (a ∷ xs) [] x y there = absurd there
zip_second {A} {B} (a ∷ xs) (b ∷ ys) x y (inl same) = inl (ap (λ (row : A × B). row.1) same)
zip_second (a ∷ xs) (b ∷ ys) x y (inr later) = inr (zip_second xs ys x y later)

-- ---- records as they read

abbrev linked_by : Place → Head → Linked
linked_by place head = record { place = place; head = head }

pub rows_linked : (rows : List Row) (stored : List Stored) → AllZip IsStored rows stored → map linked_listed (map listed_of rows) ≡ linked_all stored
rows_linked [] [] both = refl
rows_linked [] (s ∷ stored) both = absurd both
rows_linked (row ∷ rows) [] both = absurd both
rows_linked (row ∷ rows) (s ∷ stored) both =
    let here : linked_listed (listed_of row) ≡ linked_of s = ap (λ (place : Place). linked_by place (record_on row.1).head) both.0.0 ∙ ap (λ (r : Record). linked_by s.place r.head) (record_read row.1 s.body both.0.1) in
    ap (λ (l : Linked). l ∷ map linked_listed (map listed_of rows)) here ∙ ap (λ (ls : List Linked). linked_of s ∷ ls) (rows_linked rows stored both.1)

rows_readable : (rows : List Row) (stored : List Stored) → AllZip IsStored rows stored → AreReadable rows
rows_readable [] [] both = tt
rows_readable [] (s ∷ stored) both = absurd both
rows_readable (row ∷ rows) [] both = absurd both
rows_readable (row ∷ rows) (s ∷ stored) both = ((s.body, both.0.1), rows_readable rows stored both.1)

-- ---- a file

module _ {S : Type 0} (g : ground.Ghosts S) (s : S) (v : Volume) (shows : ShowsVolume g s [] v) (e : FileEntry) (f : FileContent) (has : HasFileAs v e f) where
  there : In (e, f) (zip v.catalog.entries v.files)
  there = in_contains (e, f) (zip v.catalog.entries v.files) has

  content : HasContent g s e f
  content = zip_in (HasContent g s) v.catalog.entries v.files e f (contents g s [] v shows) there

  bodies : HasBodies f
  bodies = of_each HasBodies f v.files shows.parts.1.1.1.0 (zip_second v.catalog.entries v.files e f there)

  pub listed_file : (versions : List LargeVersion) (file_no : ℕ) → e.file_no ≡ file_no
      → ((index : Index) → HasFile g s index → index.file_no ≡ file_no → AreLargeVersions (map listed_of (bodies_of (g.image s) index)) versions)
      → AreLargeVersions (map listed_of (bodies_in f)) versions
  listed_file versions file_no is given = subst (λ (rows : List Row). AreLargeVersions (map listed_of rows) versions) content.bodies (given (index_named e) content.file is)

  pub never_damaged : (file_no : ℕ) → e.file_no ≡ file_no
      → ((index : Index) → HasFile g s index → index.file_no ≡ file_no → AreReadable (bodies_of (g.image s) index) → AreLinked (map linked_listed (map listed_of (bodies_of (g.image s) index))) → ⊥) → ⊥
  never_damaged file_no is never =
      never (index_named e) content.file is (rows_readable (bodies_of (g.image s) (index_named e)) f.stored content.records)
      (subst AreLinked (sym (rows_linked (bodies_of (g.image s) (index_named e)) f.stored content.records)) (links_kept f.stored bodies.linked))
