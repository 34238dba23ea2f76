-- A port whose working state is a volume.
use Rattle.std.specs.Prelude.{◌≡◌, ◌↔◌, ℕ, true, false, nat_lt, if◌then◌else◌, List, ◌∷◌, Contains, Some, map}
use Rattle.std.specs.List.{AllByRecursion, AllZip}
use Rattle.ex_base.specs.declared.ground.Ground as ground
use Rattle.ex_base.specs.Area.{InPageArea, catalog_no, area_end}
use Rattle.op_log.specs.declared.record.LogRecord.{LogRecord}
use Rattle.slotted_pages.specs.Reads.{page_on}
use Rattle.ex_base.specs.declared.names.Index.{Index}
use Rattle.file_index.specs.Index.{pages_of}
use Rattle.file_bodies.specs.Bodies.{bodies_of, pages_in}
use Rattle.file_bodies.specs.Files.{HasFile, index_at}
use Rattle.object_files.specs.Catalog.{FileEntry}
use Rattle.trees.specs.Trees.{Units}
use Rattle.volume_model.specs.Parts.{HoldsOf, content_parts, IsStored, bodies_in}
use Rattle.volume_model.specs.Volume.{FileContent, Volume, file_pages, reach_of}

-- The bytes of each unit, as the working state has it: of a page of the page area its image.
abbrev pub units_in : {S : Type 0} → ground.Ghosts S → S → Units
units_in g s unit = if nat_lt unit (area_end (g.geometry s)) then g.image s unit else g.unit s unit

-- A page that the working state doesn't have as a logged page has the bytes of its unit.
abbrev pub IsApart : {S : Type 0} → ground.Ghosts S → S → Type 0
IsApart g s = (page : ℕ) → InPageArea (g.geometry s) page → g.held s page ≡ false → g.image s page ≡ g.unit s page

-- What the port's working state shows is this volume, behind these records of the log: the logged pages that it has are those of the volume.
pub record ShowsVolume {S : Type 0} (g : ground.Ghosts S) (s : S) (records : List LogRecord) (v : Volume) : Type 0 where
  pub parts : AllByRecursion (HoldsOf (g.geometry s) records (units_in g s) v) content_parts
  pub held : (page : ℕ) → (g.held s page ≡ true) ↔ Contains (catalog_no ∷ file_pages v) page
  pub apart : IsApart g s

-- The port's working state is this volume, and every unit that the volume reaches is in use.
pub record IsVolume {S : Type 0} (g : ground.Ghosts S) (s : S) (records : List LogRecord) (v : Volume) : Type 0 where
  pub shows : ShowsVolume g s records v
  pub used : (unit : ℕ) → Contains (reach_of (units_in g s) v) unit → g.used s unit ≡ true

-- the index that an entry of the catalog names
abbrev pub index_named : FileEntry → Index
index_named e = record { root = e.root; level = e.level; file_no = e.file_no }

-- The port has the file of an entry whole, with the pages that the volume says it has. Its bodies are those on these pages, and they are the records
-- of the volume, in their order.
pub record HasContent {S : Type 0} (g : ground.Ghosts S) (s : S) (e : FileEntry) (f : FileContent) : Type 0 where
  pub entry : index_at (g.image s) e.file_no ≡ Some (index_named e)
  pub file : HasFile g s (index_named e)
  pub numbers : pages_in (g.image s) (index_named e) ≡ f.numbers
  pub index_pages : pages_of (g.image s) e.level e.root ≡ f.index_pages
  pub pages : f.pages ≡ map (λ (page : ℕ). page_on (g.image s page)) f.numbers
  pub bodies : bodies_of (g.image s) (index_named e) ≡ bodies_in f
  pub records : AllZip IsStored (bodies_of (g.image s) (index_named e)) f.stored

-- Nothing of what the volume reaches changes, and no logged page is taken or given back.
pub record KeepsReach {S : Type 0} (g : ground.Ghosts S) (old new : S) (v : Volume) : Type 0 where
  pub geometry : g.geometry new ≡ g.geometry old
  pub held : g.held new ≡ g.held old
  pub units : (unit : ℕ) → Contains (reach_of (units_in g old) v) unit → units_in g new unit ≡ units_in g old unit
  pub apart : IsApart g new
