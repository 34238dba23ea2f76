-- How many records and roots a volume has at most: a page of a file has room for 204 records.
use Rattle.std.proofs.Common.{ℕ, suc, ◌+◌, ◌*◌, ◌<◌, ◌≤◌, List, [], ◌∷◌, ◌++◌, length, Option, Some, None, arith}
use Rattle.std.specs.List.{flat_map, AllByRecursion, AllZip, zip}
use Rattle.std.proofs.lemmas.List.{length-append}
use Rattle.std.proofs.lemmas.Slice.Zip.{AllZip-long}
use Rattle.ex_base.specs.declared.geometry.Geometry.{Geometry}
use Rattle.ex_base.specs.declared.names.PageNo.{PageNo}
use Rattle.ex_base.specs.declared.names.Place.{Place}
use Rattle.ex_base.specs.declared.names.Root.{Root}
use Rattle.ex_base.specs.Order.{AllDiffer}
use Rattle.ex_base.proofs.Counts.{differ_once, few_once}
use Rattle.ex_base.proofs.Each.{each_as, split_each}
use Rattle.file_index.specs.Index.{IsFilesPage}
use Rattle.object_files.specs.Catalog.{FileEntry}
use Rattle.object_records.proofs.RecordLaws.{spelled_reads}
use Rattle.object_records.specs.Record.{Content, Large, Small}
use Rattle.op_log.specs.declared.record.LogRecord.{LogRecord}
use Rattle.slotted_pages.specs.FilePage.{FilePage, Slot, bodies}
use Rattle.trees.specs.Owners.{page_here, root_pages}
use Rattle.trees.specs.Trees.{Units}
use Rattle.volume_model.specs.OwnersMoved.{volume_roots_most}
use Rattle.volume_model.specs.OwnersShown.{committed_roots, roots_held}
use Rattle.volume_model.specs.Parts.{Decodes, HasBodies, HasIndex, HasPage, HasPages, HoldsOf, IsStored, bodies_from, bodies_in, content_parts}
use Rattle.volume_model.specs.Volume.{Decoded, FileContent, Stored, Volume, file_pages, pages_of_file, root_in, roots_in, stored_in}
use Rattle.volume_model.proofs.FilePages.{file_pages_are}

-- a body as long as a record
abbrev IsLong : Place × List ℕ → Type 0
IsLong row = 36 ≤ length row.1

all_long : (rows : List (Place × List ℕ)) (stored : List Stored) → AllZip IsStored rows stored → AllByRecursion IsLong rows
all_long [] stored is = tt
all_long (row ∷ rows) [] is = absurd is
all_long (row ∷ rows) (s ∷ stored) is = ((spelled_reads row.1 s.body is.0.1).0.long, all_long rows stored is.1)

-- ---- a page

few_slots : (page slot : ℕ) (slots : List Slot) → AllByRecursion IsLong (bodies_from page slot slots) → 40 * length (bodies_from page slot slots) ≤ 4 * length slots + length (bodies slots)
few_slots page slot [] long = omega arith
few_slots page slot (None ∷ slots) long = omega (arith, few_slots page (suc slot) slots long)
few_slots page slot (Some body ∷ slots) long = omega (arith, few_slots page (suc slot) slots long.1, long.0, length-append body (bodies slots))

-- ---- a file

abbrev records_on : ℕ × FilePage → List (Place × List ℕ)
records_on row = bodies_from row.0 0 row.1.slots

few_records : (units : Units) (entry : FileEntry) (numbers : List ℕ) (pages : List FilePage) → AllZip (HasPage units entry) numbers pages → AllByRecursion IsLong (flat_map records_on (zip numbers pages))
    → length (flat_map records_on (zip numbers pages)) ≤ 204 * length numbers
few_records units entry [] pages is long = omega arith
few_records units entry (n ∷ numbers) [] is long = omega arith
few_records units entry (n ∷ numbers) (p ∷ pages) is long =
    let here = bodies_from n 0 p.slots in
    let parts = split_each IsLong here (flat_map records_on (zip numbers pages)) long in
    let fits = is.0.0.fits in
    omega (
      arith,
      few_slots n 0 p.slots parts.0,
      fits.room,
      fits.page,
      few_records units entry numbers pages is.1 parts.1,
      length-append here (flat_map records_on (zip numbers pages)),
    )

few_stored : (units : Units) (entry : FileEntry) (file : FileContent) → HasPages units entry file → HasBodies file → length file.stored ≤ 204 * length file.numbers
few_stored units entry file pages bodies =
    omega (
      arith,
      few_records units entry file.numbers file.pages pages (all_long (bodies_in file) file.stored bodies.records),
      AllZip-long IsStored (bodies_in file) file.stored bodies.records,
    )

-- ---- a volume

few_of_files : (units : Units) (entries : List FileEntry) (files : List FileContent) → AllZip (HasPages units) entries files → AllByRecursion HasBodies files
    → length (flat_map (λ (file : FileContent). file.stored) files) ≤ 204 * length (flat_map pages_of_file files)
few_of_files units entries [] pages bodies = omega arith
few_of_files units [] (file ∷ files) pages bodies = absurd pages
few_of_files units (entry ∷ entries) (file ∷ files) pages bodies =
    omega (
      arith,
      few_stored units entry file pages.0 bodies.0,
      few_of_files units entries files pages.1 bodies.1,
      length-append file.stored (flat_map (λ (f : FileContent). f.stored) files),
      length-append (pages_of_file file) (flat_map pages_of_file files),
      length-append file.numbers file.index_pages,
    )

one_root : (content : Content) → length (root_in content) ≤ 1
one_root (Small bytes) = omega arith
one_root (Large root) = omega arith

fewer_roots : (stored : List Stored) → length (roots_in stored) ≤ length stored
fewer_roots [] = omega arith
fewer_roots (s ∷ stored) = omega (arith, one_root s.body.content, fewer_roots stored, length-append (root_in s.body.content) (roots_in stored))

one_page : (page : Option PageNo) → length (page_here page) ≤ 1
one_page None = omega arith
one_page (Some page) = omega arith

pub fewer_pages : (roots : List Root) → length (root_pages roots) ≤ length roots
fewer_pages [] = omega arith
fewer_pages (root ∷ roots) = omega (arith, one_page root.page, fewer_pages roots, length-append (page_here root.page) (root_pages roots))

-- Files have 4,000,000 pages at most, so they have 816,000,000 records at most, and as many roots.
few_records_in : (g : Geometry) (units : Units) (v : Volume) → AllZip (HasIndex g units) v.catalog.entries v.files → AllDiffer (file_pages v) → AllZip (HasPages units) v.catalog.entries v.files → AllByRecursion HasBodies v.files
    → length (stored_in v) ≤ volume_roots_most
few_records_in g units v indexes differ pages bodies =
    let area = each_as (IsFilesPage g) (λ (page : ℕ). (257 ≤ page) × (page < 257 + g.pages)) (file_pages v) (λ page is. is.0) (file_pages_are g units v indexes) in
    let few : length (file_pages v) ≤ g.pages = few_once 257 g.pages (file_pages v) area (differ_once (file_pages v) differ) in
    omega (arith, few, g.few_pages, few_of_files units v.catalog.entries v.files pages bodies)

pub few_stored_in : (g : Geometry) (records : List LogRecord) (units : Units) (v : Volume) → AllByRecursion (HoldsOf g records units v) content_parts → length (stored_in v) ≤ volume_roots_most
few_stored_in g records units v parts = few_records_in g units v parts.1.0.0 parts.1.0.1 parts.1.1.0 parts.1.1.1.0

pub few_in_files : (g : Geometry) (units : Units) (v : Volume) → AllZip (HasIndex g units) v.catalog.entries v.files → AllDiffer (file_pages v) → AllZip (HasPages units) v.catalog.entries v.files → AllByRecursion HasBodies v.files
    → length (roots_in (stored_in v)) ≤ volume_roots_most
few_in_files g units v indexes differ pages bodies = omega (arith, fewer_roots (stored_in v), few_records_in g units v indexes differ pages bodies)

pub few_roots : (g : Geometry) (records : List LogRecord) (units : Units) (v : Volume) → AllByRecursion (HoldsOf g records units v) content_parts → length (roots_in (stored_in v)) ≤ volume_roots_most
few_roots g records units v parts = few_in_files g units v parts.1.0.0 parts.1.0.1 parts.1.1.0 parts.1.1.1.0

-- So the roots that own trees are few, where a transaction gains few and few scans are open.
pub few_owners : (d : Decoded) (disk : List ℕ) (gained scans : List Root) → Decodes disk d → length (root_pages (roots_held d gained scans)) ≤ volume_roots_most + length gained + length scans
few_owners d disk gained scans (super, (log, content)) =
    omega (
      arith,
      few_roots d.geometry d.records _ d.volume content,
      fewer_pages (roots_held d gained scans),
      length-append (committed_roots d ++ gained) scans,
      length-append (committed_roots d) gained,
    )
