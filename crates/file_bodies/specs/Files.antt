-- A file that is whole, and how a call edits it.
use Rattle.std.specs.Prelude.{◌≡◌, ◌≢◌, ℕ, ◌≤◌, ◌==◌, true, if◌then◌else◌, List, [], ◌∷◌, ◌++◌, length, map, Option, Some, None, slice_index_or, Contains}
use Rattle.std.specs.List.{AllByRecursion}
use Rattle.ex_base.specs.declared.ground.Ground as ground
use Rattle.ex_base.specs.declared.names.Place.{Place}
use Rattle.ex_base.specs.Area.{catalog_no}
use Rattle.ex_base.specs.Ports.{times}
use Rattle.slotted_pages.specs.FilePage.{Slot}
use Rattle.slotted_pages.specs.Reads.{page_on, IsPage}
use Rattle.slotted_pages.specs.Edits.{slots_of, body_in}
use Rattle.ex_base.specs.declared.names.Index.{Index}
use Rattle.file_index.specs.Changes.{Changes, count_of}
use Rattle.file_index.specs.Index.{IsIndex, pages_of}
use Rattle.object_files.specs.Catalog.{FileEntry, Catalog}
use Rattle.object_files.specs.Reads.{catalog_on}
use Rattle.object_files.specs.Edits.{IsCatalogPage, entries_on, with_entries, indexed}
use Rattle.file_bodies.specs.Bodies.{EditsRow, bodies_of, pages_in}

-- ---- what the catalog says of a file

-- the index in the entry of the file with a number
abbrev pub index_in : ℕ → List FileEntry → Option Index
index_in file_no [] = None
index_in file_no (e ∷ es) = if e.file_no == file_no then Some (record { root = e.root; level = e.level; file_no = file_no }) else index_in file_no es

abbrev pub index_at : (ℕ → List ℕ) → ℕ → Option Index
index_at image file_no = index_in file_no (entries_on (image catalog_no))

-- the catalog with an index in the entry of its file
abbrev pub with_index : Catalog → Index → Catalog
with_index c index = with_entries c (map (indexed index.file_no index.level index.root) c.entries)

-- The catalog is whole, and the working state has its page.
pub record HasCatalog {S : Type 0} (g : ground.Ghosts S) (s : S) : Type 0 where
  pub whole : IsCatalogPage (g.image s catalog_no)
  pub held : g.held s catalog_no ≡ true

-- ---- a file that is whole

-- the page is one of a file: in its grammar, with the file's number and a body
pub record IsPageOf (file_no : ℕ) (page : List ℕ) : Type 0 where
  pub spelled : IsPage page
  pub number : (page_on page).file_no ≡ file_no
  pub some : 1 ≤ length (slots_of page)

-- the slot has a body
abbrev pub IsLive : List ℕ → ℕ → Type 0
IsLive page slot = 1 ≤ length (body_in page slot)

-- all pages of a file: those with bodies and those of its index
abbrev pub all_pages : (ℕ → List ℕ) → Index → List ℕ
all_pages image index = pages_in image index ++ pages_of image index.level index.root

-- The file is whole: the catalog has its index, which is whole and names pages of the file. No page is named twice, and the working state has each.
pub record HasFile {S : Type 0} (g : ground.Ghosts S) (s : S) (index : Index) : Type 0 where
  pub catalog : HasCatalog g s
  pub entry : index_at (g.image s) index.file_no ≡ Some index
  pub whole : IsIndex (g.geometry s) (g.image s) index.file_no index.level index.root
  pub pages : AllByRecursion (λ page. IsPageOf index.file_no (g.image s page)) (pages_in (g.image s) index)
  pub once : (page : ℕ) → times page (all_pages (g.image s) index) ≤ count_of (g.held s page)

-- The catalog and every file in it are whole.
pub record HasFiles {S : Type 0} (g : ground.Ghosts S) (s : S) : Type 0 where
  pub catalog : HasCatalog g s
  pub each : (file_no : ℕ) (index : Index) → index_at (g.image s) file_no ≡ Some index → HasFile g s index

-- The catalog is whole, and so is the file that a page says it belongs to, where the catalog has it.
pub record HasFileOf {S : Type 0} (g : ground.Ghosts S) (s : S) (page : ℕ) : Type 0 where
  pub catalog : HasCatalog g s
  pub whole : (index : Index) → index_at (g.image s) (page_on (g.image s page)).file_no ≡ Some index → HasFile g s index

-- A whole file has this body at this place: its index names the page, and the slot has the body.
pub record HasBody {S : Type 0} (g : ground.Ghosts S) (s : S) (index : Index) (place : Place) (body : List ℕ) : Type 0 where
  pub file : HasFile g s index
  pub named : Contains (pages_in (g.image s) index) place.page.0
  pub stands : slice_index_or (slots_of (g.image s place.page.0)) place.slot None ≡ Some body

-- Some whole file has the page.
pub record IsOfFile {S : Type 0} (g : ground.Ghosts S) (s : S) (page : ℕ) : Type 0 where
  pub index : Index
  pub file : HasFile g s index
  pub named : Contains (pages_in (g.image s) index) page

-- Some whole file has this body at this place.
pub record HasSomeBody {S : Type 0} (g : ground.Ghosts S) (s : S) (place : Place) (body : List ℕ) : Type 0 where
  pub index : Index
  pub has : HasBody g s index place body

-- ---- a file that is edited

-- A whole file becomes another. In its list of bodies one place changes; in the catalog only its own entry. Each page that the call took is one of the
-- file's, and it gave back just the pages that left the file; nothing but the catalog and pages of the file was written.
pub record EditsFile {S : Type 0} (g : ground.Ghosts S) (old new : S) (before after : Index) (place : Place) (was is : Slot) : Type 0 where
  pub file : HasFile g new after
  pub same_file : after.file_no ≡ before.file_no
  pub bodies : EditsRow (bodies_of (g.image old) before) (bodies_of (g.image new) after) place was is
  pub catalog : catalog_on (g.image new catalog_no) ≡ with_index (catalog_on (g.image old catalog_no)) after
  pub changes : Changes g old new (catalog_no ∷ all_pages (g.image old) before) (catalog_no ∷ all_pages (g.image new) after)
  pub others : (page : ℕ) → page ≢ place.page.0 → Contains (pages_in (g.image new) after) page
      → Contains (pages_in (g.image old) before) page × (g.image new page ≡ g.image old page)
