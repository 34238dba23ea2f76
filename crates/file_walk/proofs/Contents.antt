-- The files as they read.
use Rattle.std.proofs.Common.{◌≡◌, ℕ, List, [], ◌∷◌, ◌++◌, map, refl, sym, ap, subst, ◌∙◌}
use Rattle.std.specs.List.{flat_map, AllByRecursion, AllZip, zip}
use Rattle.ex_base.specs.declared.geometry.Geometry.{Geometry}
use Rattle.ex_base.specs.declared.names.Place.{Place}
use Rattle.slotted_pages.specs.FilePage.{FilePage}
use Rattle.slotted_pages.specs.Reads.{page_on}
use Rattle.slotted_pages.proofs.PageLaws.{page_read_is}
use Rattle.object_records.specs.Record.{Record}
use Rattle.object_records.specs.Reads.{record_on}
use Rattle.object_records.proofs.RecordLaws.{record_read}
use Rattle.record_links.specs.declared.Linked.{Linked}
use Rattle.record_links.specs.Labels.{LabelsObjects}
use Rattle.record_links.specs.Links as kept
use Rattle.file_index.specs.Index.{keys_of, pages_of}
use Rattle.object_files.specs.Catalog.{FileEntry}
use Rattle.trees.specs.Trees.{Units}
use Rattle.volume_model.specs.Volume.{Stored, FileContent}
use Rattle.volume_model.specs.Links.{AreLinked}
use Rattle.volume_model.specs.Parts.{HasBodies, HasIndex, HasPage, HasPages, IsStored, bodies_in, bodies_from}
use Rattle.file_walk.specs.Indexes.{IsEntryIndex}
use Rattle.file_walk.specs.Objects.{AreObjects, linked_of, links_of}
use Rattle.file_walk.specs.Records.{IsGoodFile, IsGoodRow, standing_at, stored_at, IsPageOf, rows_on, rows_among}
use Rattle.file_walk.proofs.Rows.{good_row}
use Rattle.file_walk.proofs.SameLinks.{kept_links, kept_objects, linked_all, links_kept}

-- ---- a file as it reads

abbrev pub keys_in : Units → FileEntry → List ℕ
keys_in images e = keys_of images e.level e.root

abbrev pub stored_among : Units → List ℕ → List Stored
stored_among images ns = map stored_at (rows_among images ns)

abbrev pub content : Units → FileEntry → FileContent
content images e = record {
  numbers = keys_in images e;
  index_pages = pages_of images e.level e.root;
  pages = map (λ (n : ℕ). page_on (images n)) (keys_in images e);
  stored = stored_among images (keys_in images e);
}

bodies_back : (images : Units) (ns : List ℕ) → flat_map (λ (row : ℕ × FilePage). bodies_from row.0 0 row.1.slots) (zip ns (map (λ (n : ℕ). page_on (images n)) ns)) ≡ rows_among images ns
bodies_back images [] = refl
bodies_back images (n ∷ ns) = ap (λ (t : List (Place × List ℕ)). rows_on images n ++ t) (bodies_back images ns)

pages_zip : (images : Units) (e : FileEntry) (ns : List ℕ) → AllByRecursion (IsPageOf images e) ns → AllZip (HasPage images e) ns (map (λ (n : ℕ). page_on (images n)) ns)
pages_zip images e [] h = tt
pages_zip images e (n ∷ ns) h = (h.0, pages_zip images e ns h.1)

stored_zip : (rows : List (Place × List ℕ)) → AllByRecursion IsGoodRow rows → AllZip IsStored rows (map stored_at rows)
stored_zip [] h = tt
stored_zip (row ∷ rows) h = ((refl, h.0), stored_zip rows h.1)

-- what is kept of the records of bodies
links_rows : (rows : List (Place × List ℕ)) → links_of (map standing_at rows) ≡ linked_all (map stored_at rows)
links_rows [] = refl
links_rows (row ∷ rows) = ap (λ (t : List Linked). linked_of (stored_at row) ∷ t) (links_rows rows)

pub good_links : (rows : List (Place × List ℕ)) → IsGoodFile rows → AreLinked (map stored_at rows)
good_links rows good = kept_links (map stored_at rows) (subst kept.AreLinked (links_rows rows) good.linked)

pub label_objects : (rows : List (Place × List ℕ)) (label : Place → ℕ) → LabelsObjects (links_of (map standing_at rows)) label → AreObjects (map stored_at rows) label
label_objects rows label labels = kept_objects (map stored_at rows) label (subst (λ (links : List Linked). LabelsObjects links label) (links_rows rows) labels)

pub content_index : (g : Geometry) (images : Units) (e : FileEntry) → IsEntryIndex g images e → HasIndex g images e (content images e)
content_index g images e whole = record { whole = whole; numbers = refl; index_pages = refl }

pub content_pages : (images : Units) (e : FileEntry) → AllByRecursion (IsPageOf images e) (keys_in images e) → HasPages images e (content images e)
content_pages images e h = pages_zip images e (keys_in images e) h

pub content_bodies : (images : Units) (e : FileEntry) → IsGoodFile (rows_among images (keys_in images e)) → HasBodies (content images e)
content_bodies images e good =
    let back : rows_among images (keys_in images e) ≡ bodies_in (content images e) = sym (bodies_back images (keys_in images e)) in
    record {
      records = subst (λ (rows : List (Place × List ℕ)). AllZip IsStored rows (stored_among images (keys_in images e))) back (stored_zip (rows_among images (keys_in images e)) good.good);
      linked = good_links (rows_among images (keys_in images e)) good;
    }

-- ---- any file that has a part

pages_read : (images : Units) (e : FileEntry) (ns : List ℕ) (ps : List FilePage) → AllZip (HasPage images e) ns ps → AllByRecursion (IsPageOf images e) ns × (ps ≡ map (λ (n : ℕ). page_on (images n)) ns)
pages_read images e [] [] h = (tt, refl)
pages_read images e [] (p ∷ ps) h = absurd h
pages_read images e (n ∷ ns) [] h = absurd h
pages_read images e (n ∷ ns) (p ∷ ps) h =
    let rest = pages_read images e ns ps h.1 in
    let same : p ≡ page_on (images n) = sym (page_read_is (images n) p h.0.0) in (
      (subst (HasPage images e n) same h.0, rest.0),
      ap (λ (q : FilePage). q ∷ ps) same ∙ ap (λ (t : List FilePage). page_on (images n) ∷ t) rest.1,
    )

pub has_pages : (g : Geometry) (images : Units) (e : FileEntry) (file : FileContent) → HasIndex g images e file → HasPages images e file → AllByRecursion (IsPageOf images e) (keys_in images e)
has_pages g images e file index pages = subst (AllByRecursion (IsPageOf images e)) index.numbers (pages_read images e file.numbers file.pages pages).0

stored_back : (rows : List (Place × List ℕ)) (ss : List Stored) → AllZip IsStored rows ss → AllByRecursion IsGoodRow rows × (ss ≡ map stored_at rows)
stored_back [] [] h = (tt, refl)
stored_back [] (s ∷ ss) h = absurd h
stored_back (row ∷ rows) [] h = absurd h
stored_back (row ∷ rows) (s ∷ ss) h =
    let rest = stored_back rows ss h.1 in
    let read : s.body ≡ record_on row.1 = sym (record_read row.1 s.body h.0.1) in
    let same : s ≡ stored_at row = ap (λ (p : Place). made p s.body) (sym h.0.0) ∙ ap (made row.0) read in (
      (good_row row.0 row.1 s.body h.0.1, rest.0),
      ap (λ (t : Stored). t ∷ ss) same ∙ ap (λ (t : List Stored). stored_at row ∷ t) rest.1,
    )
  where
    made : Place → Record → Stored
    made place body = record { place = place; body = body }

pub has_bodies : (g : Geometry) (images : Units) (e : FileEntry) (file : FileContent) → HasIndex g images e file → HasPages images e file → HasBodies file → IsGoodFile (rows_among images (keys_in images e))
has_bodies g images e file index pages bodies =
    let read = pages_read images e file.numbers file.pages pages in
    let rows : bodies_in file ≡ rows_among images (keys_in images e) =
    ap (λ (ps : List FilePage). flat_map (λ (row : ℕ × FilePage). bodies_from row.0 0 row.1.slots) (zip file.numbers ps)) read.1 ∙ bodies_back images file.numbers ∙ ap (rows_among images) index.numbers in
    let back = stored_back (rows_among images (keys_in images e)) file.stored (subst (λ (t : List (Place × List ℕ)). AllZip IsStored t file.stored) rows bodies.records) in
    record {
      good = back.0;
      linked = subst kept.AreLinked (sym (links_rows (rows_among images (keys_in images e)))) (links_kept (map stored_at (rows_among images (keys_in images e))) (subst AreLinked back.1 bodies.linked));
    }
