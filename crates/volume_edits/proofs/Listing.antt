-- The files of a volume with one without pages more or less, and another next unique number.
use Rattle.std.proofs.Common.{◌≡◌, ℕ, ◌≤◌, true, List, [], ◌∷◌, refl, ap, ◌∙◌, arith, inl, inr}
use Rattle.std.specs.Prelude.{Contains}
use Rattle.std.specs.List.{AllByRecursion, AllZip}
use Rattle.std.proofs.lemmas.Slice.Eq.{bytes_eq-Decides}
use Rattle.ex_base.specs.declared.ground.Ground as ground
use Rattle.ex_base.proofs.Members.{In, contains_in}
use Rattle.ex_base.proofs.Each.{zip_as}
use Rattle.op_log.specs.declared.record.LogRecord.{LogRecord}
use Rattle.object_files.specs.Catalog.{FileEntry}
use Rattle.object_files.specs.Edits.{with_entries, new_file, has_name, entry_inserted, without_name}
use Rattle.trees.specs.Trees.{Units}
use Rattle.table_model.specs.declared.table.TableFile.{TableFile}
use Rattle.table_model.specs.declared.table.Table.{Table}
use Rattle.table_model.specs.Tables.{with_file, without_file}
use Rattle.volume_model.specs.Parts.{HasBodies, HasIndex, HasPages}
use Rattle.volume_model.specs.Volume.{FileContent, Volume, pages_of_file, table_of}
use Rattle.volume_model.proofs.FilesListed.{HasNone, IsBare, bare, each_added, each_left, file_added, file_left, flat_added, flat_left, no_bodies, no_index, table_added, table_left, zip_added, zip_left}
use Rattle.volume_edits.specs.Ported.{IsVolume, units_in}
use Rattle.volume_edits.specs.Edits.{WritesCatalog, RecatalogsVolume, catalog_numbered, table_numbered, IsRootless}
use Rattle.volume_edits.proofs.Catalogs.{Recataloged, recataloged, table_same, trees_same}

-- ---- the volumes

module _ {S : Type 0} (g : ground.Ghosts S) (old new : S) (records : List LogRecord) (v : Volume) (vol : IsVolume g old records v) where
  abbrev U : Units
  U = units_in g old

  pairs_here : AllZip (λ (e : FileEntry) (f : FileContent). Unit {0}) v.catalog.entries v.files
  pairs_here = zip_as (HasIndex (g.geometry old) U) (λ (e : FileEntry) (f : FileContent). Unit {0}) v.catalog.entries v.files (λ e f h. tt) vol.shows.parts.1.0.0

  -- another next unique number
  abbrev numbered : ℕ → Volume
  numbered n = record { catalog = catalog_numbered n v.catalog; files = v.files }

  numbered_is : (n : ℕ) → v.catalog.next_unique ≤ n → Recataloged (g.geometry old) U v (numbered n)
  numbered_is n le = record {
    pages_same = refl;
    stored_same = refl;
    last = refl;
    next = le;
    index = vol.shows.parts.1.0.0;
    page = vol.shows.parts.1.1.0;
    bodies = vol.shows.parts.1.1.1.0;
  }

  pub numbers_volume : (n : ℕ) → v.catalog.next_unique ≤ n → WritesCatalog g old new (catalog_numbered n v.catalog) → RecatalogsVolume g old new records v (catalog_numbered n v.catalog) (table_numbered n (table_of U v))
  numbers_volume n le writes = record {
    now = numbered n;
    volume = recataloged g old new records v (numbered n) vol writes.image writes.puts writes.told writes.geometry writes.spelled (numbered_is n le);
    shows = table_same g old new records v (numbered n) vol writes.image writes.puts writes.told writes.geometry writes.spelled (numbered_is n le);
    has = refl;
    stored = refl;
    pages = refl;
    units = trees_same g old new records v (numbered n) vol writes.image writes.puts writes.told writes.geometry writes.spelled (numbered_is n le);
  }

  -- a file more
  abbrev with_more : List ℕ → ℕ → Volume
  with_more name file_no = record { catalog = with_entries v.catalog (entry_inserted (new_file name file_no) v.catalog.entries); files = file_added (new_file name file_no) v.catalog.entries v.files }

  more_is : (name : List ℕ) (file_no : ℕ) → Recataloged (g.geometry old) U v (with_more name file_no)
  more_is name file_no = record {
    pages_same = flat_added pages_of_file (new_file name file_no) v.catalog.entries v.files refl;
    stored_same = flat_added (λ (f : FileContent). f.stored) (new_file name file_no) v.catalog.entries v.files refl;
    last = refl;
    next = omega arith;
    index = zip_added (HasIndex (g.geometry old) U) (new_file name file_no) v.catalog.entries v.files (no_index (g.geometry old) U name file_no) vol.shows.parts.1.0.0;
    page = zip_added (HasPages U) (new_file name file_no) v.catalog.entries v.files tt vol.shows.parts.1.1.0;
    bodies = each_added HasBodies (new_file name file_no) v.catalog.entries v.files no_bodies vol.shows.parts.1.1.1.0;
  }

  pub adds_file : (name : List ℕ) (file_no : ℕ) → WritesCatalog g old new (with_entries v.catalog (entry_inserted (new_file name file_no) v.catalog.entries))
      → RecatalogsVolume g old new records v (with_entries v.catalog (entry_inserted (new_file name file_no) v.catalog.entries)) (with_file name (table_of U v))
  adds_file name file_no writes = record {
    now = with_more name file_no;
    volume = recataloged g old new records v (with_more name file_no) vol writes.image writes.puts writes.told writes.geometry writes.spelled (more_is name file_no);
    shows = table_same g old new records v (with_more name file_no) vol writes.image writes.puts writes.told writes.geometry writes.spelled (more_is name file_no)
        ∙ ap (λ (files : List TableFile). let t : Table = record { next_unique = v.catalog.next_unique; last = v.catalog.last; files = files } in t) (table_added U name file_no v.catalog.entries v.files pairs_here);
    has = refl;
    stored = (more_is name file_no).stored_same;
    pages = flat_added pages_of_file (new_file name file_no) v.catalog.entries v.files refl;
    units = trees_same g old new records v (with_more name file_no) vol writes.image writes.puts writes.told writes.geometry writes.spelled (more_is name file_no);
  }

  -- a file less
  abbrev with_less : List ℕ → Volume
  with_less name = record { catalog = with_entries v.catalog (without_name name v.catalog.entries); files = file_left name v.catalog.entries v.files }

  bare_files : (name : List ℕ) (entries : List FileEntry) (files : List FileContent) → ((e : FileEntry) → In e entries → IsRootless name e) → AllZip (HasIndex (g.geometry old) U) entries files → AllZip (HasPages U) entries files → AllByRecursion HasBodies files
      → AllZip (λ (e : FileEntry) (c : FileContent). has_name name e ≡ true → IsBare c) entries files
  bare_files name [] [] rootless index pages bodies = tt
  bare_files name [] (c ∷ files) rootless index pages bodies = absurd index
  bare_files name (e ∷ entries) [] rootless index pages bodies = absurd index
  bare_files name (e ∷ entries) (c ∷ files) rootless index pages bodies = (
    (λ is. bare (g.geometry old) U e c (rootless e (inl refl) ((bytes_eq-Decides e.name name).0 is)) index.0 pages.0 bodies.0),
    bare_files name entries files (λ d k. rootless d (inr k)) index.1 pages.1 bodies.1,
  )

  module _ (name : List ℕ) (rootless : (e : FileEntry) → Contains v.catalog.entries e → IsRootless name e) where
    bare_here : AllZip (λ (e : FileEntry) (c : FileContent). has_name name e ≡ true → IsBare c) v.catalog.entries v.files
    bare_here = bare_files name v.catalog.entries v.files (λ e k. rootless e (contains_in e v.catalog.entries k)) vol.shows.parts.1.0.0 vol.shows.parts.1.1.0 vol.shows.parts.1.1.1.0

    less_is : Recataloged (g.geometry old) U v (with_less name)
    less_is = record {
      pages_same = flat_left pages_of_file name v.catalog.entries v.files (zip_as (λ (e : FileEntry) (c : FileContent). has_name name e ≡ true → IsBare c) (HasNone pages_of_file name) v.catalog.entries v.files (λ e c b is. (b is).pages) bare_here);
      stored_same = flat_left (λ (f : FileContent). f.stored) name v.catalog.entries v.files (zip_as (λ (e : FileEntry) (c : FileContent). has_name name e ≡ true → IsBare c) (HasNone (λ (f : FileContent). f.stored) name) v.catalog.entries v.files (λ e c b is. (b is).stored) bare_here);
      last = refl;
      next = omega arith;
      index = zip_left (HasIndex (g.geometry old) U) name v.catalog.entries v.files vol.shows.parts.1.0.0;
      page = zip_left (HasPages U) name v.catalog.entries v.files vol.shows.parts.1.1.0;
      bodies = each_left HasBodies name v.catalog.entries v.files vol.shows.parts.1.1.1.0;
    }

    pub removes_file : WritesCatalog g old new (with_entries v.catalog (without_name name v.catalog.entries)) → RecatalogsVolume g old new records v (with_entries v.catalog (without_name name v.catalog.entries)) (without_file name (table_of U v))
    removes_file writes = record {
      now = with_less name;
      volume = recataloged g old new records v (with_less name) vol writes.image writes.puts writes.told writes.geometry writes.spelled less_is;
      shows = table_same g old new records v (with_less name) vol writes.image writes.puts writes.told writes.geometry writes.spelled less_is
          ∙ ap (λ (files : List TableFile). let t : Table = record { next_unique = v.catalog.next_unique; last = v.catalog.last; files = files } in t) (table_left U name v.catalog.entries v.files pairs_here);
      has = refl;
      stored = less_is.stored_same;
      pages = less_is.pages_same;
      units = trees_same g old new records v (with_less name) vol writes.image writes.puts writes.told writes.geometry writes.spelled less_is;
    }
