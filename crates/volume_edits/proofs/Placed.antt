-- A volume as one with a place for the file of an index.
use Rattle.std.proofs.Common.{◌≡◌, ℕ, List, ◌∷◌, ◌++◌, Some, refl, sym, ap, subst, ◌∙◌}
use Rattle.std.specs.Prelude.{map}
use Rattle.std.specs.List.{AllZip}
use Rattle.ex_base.specs.declared.ground.Ground as ground
use Rattle.slotted_pages.specs.FilePage.{FilePage}
use Rattle.slotted_pages.specs.Reads.{page_on}
use Rattle.ex_base.specs.declared.names.Index.{Index}
use Rattle.file_index.specs.Index.{keys_of, pages_of}
use Rattle.object_files.specs.Catalog.{FileEntry}
use Rattle.file_bodies.specs.Bodies.{bodies_of}
use Rattle.file_bodies.specs.Files.{index_at}
use Rattle.op_log.specs.declared.record.LogRecord.{LogRecord}
use Rattle.volume_model.specs.Parts.{IsStored}
use Rattle.volume_model.specs.Volume.{Stored, FileContent, Volume}
use Rattle.volume_edits.specs.Ported.{ShowsVolume, index_named}
use Rattle.volume_edits.proofs.Lists.{Paired}
use Rattle.volume_edits.proofs.Holes.{Hole, filled, entry_with, file_with}
use Rattle.volume_edits.proofs.RecordEdits.{stored_of}
use Rattle.volume_edits.proofs.Rows.{all_read}
use Rattle.volume_edits.proofs.Contents.{Beside, found_at, content_of}

-- the records of an index's file
abbrev pub records_of : (ℕ → List ℕ) → Index → List Stored
records_of image index = stored_of (bodies_of image index)

-- the volume with a place in it for the file of an index
pub record Placed (image : ℕ → List ℕ) (v : Volume) (index : Index) : Type 0 where
  pub hole : Hole
  pub same : v ≡ filled hole image index (records_of image index)
  pub number : index.file_no ≡ hole.file_no
  pub paired : Paired hole.entries_before hole.files_before
  pub records : AllZip IsStored (bodies_of image index) (records_of image index)

abbrev made_file : List ℕ → List ℕ → List FilePage → List Stored → FileContent
made_file numbers index_pages pages stored = record { numbers = numbers; index_pages = index_pages; pages = pages; stored = stored }

abbrev made_volume : ℕ → ℕ → List FileEntry → List FileContent → Volume
made_volume next last entries files = record { catalog = record { next_unique = next; last = last; entries = entries }; files = files }

module _ {S : Type 0} (g : ground.Ghosts S) (s : S) (records : List LogRecord) (v : Volume) (vol : ShowsVolume g s records v) where
  placed_in : (e : FileEntry) (f : FileContent) → Beside v.catalog.entries v.files e f → Placed (g.image s) v (index_named e)
  placed_in e f b =
      let content = content_of g s records v vol e f b in
      let hole : Hole = record {
        next = v.catalog.next_unique;
        last = v.catalog.last;
        name = e.name;
        file_no = e.file_no;
        entries_before = b.entries_before;
        entries_behind = b.entries_behind;
        files_before = b.files_before;
        files_behind = b.files_behind;
      } in
      let numbers : f.numbers ≡ keys_of (g.image s) e.level e.root = sym content.numbers in
      let index_pages : f.index_pages ≡ pages_of (g.image s) e.level e.root = sym content.index_pages in
      let pages : f.pages ≡ map (λ (n : ℕ). page_on (g.image s n)) (keys_of (g.image s) e.level e.root) = content.pages ∙ ap (map (λ (n : ℕ). page_on (g.image s n))) numbers in
      let stored : f.stored ≡ records_of (g.image s) (index_named e) = all_read (bodies_of (g.image s) (index_named e)) f.stored content.records in
      let file : made_file f.numbers f.index_pages f.pages f.stored ≡ file_with (g.image s) (index_named e) (records_of (g.image s) (index_named e)) = cc (numbers, index_pages, pages, stored) in
      let files : v.files ≡ b.files_before ++ (file_with (g.image s) (index_named e) (records_of (g.image s) (index_named e)) ∷ b.files_behind) = b.files_are ∙ ap (λ (c : FileContent). b.files_before ++ (c ∷ b.files_behind)) file in
      let entries : v.catalog.entries ≡ b.entries_before ++ (entry_with hole (index_named e) ∷ b.entries_behind) = b.entries_are in
      let same : made_volume v.catalog.next_unique v.catalog.last v.catalog.entries v.files ≡ filled hole (g.image s) (index_named e) (records_of (g.image s) (index_named e)) = cc (entries, files) in
      record {
        hole = hole;
        same = same;
        number = refl;
        paired = b.paired;
        records = subst (AllZip IsStored (bodies_of (g.image s) (index_named e))) stored content.records;
      }

  pub placed : (index : Index) → index_at (g.image s) index.file_no ≡ Some index → Placed (g.image s) v index
  placed index at =
      let here = found_at g s records v vol index.file_no index at in
      subst (Placed (g.image s) v) here.named (placed_in here.e here.f here.beside)
