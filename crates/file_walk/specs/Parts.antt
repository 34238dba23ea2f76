-- The parts of a volume that its files hold, and which of them fails first.
use Rattle.std.specs.Prelude.{◌≡◌, ℕ, List, map}
use Rattle.std.specs.List.{flat_map, AllByRecursion, AllZip}
use Rattle.ex_base.specs.declared.geometry.Geometry.{Geometry}
use Rattle.ex_base.specs.declared.names.Place.{Place}
use Rattle.ex_base.specs.Order.{AllDiffer}
use Rattle.object_files.specs.Catalog.{FileEntry}
use Rattle.session_views.specs.declared.part.Part.{Part}
use Rattle.session_views.specs.declared.part.Part.TheVariants.{File, Page, Body}
use Rattle.trees.specs.Trees.{Units}
use Rattle.volume_model.specs.Volume.{Stored, FileContent, pages_of_file}
use Rattle.volume_model.specs.Parts.{HasIndex, HasPages, HasBodies}
use Rattle.file_walk.specs.declared.WalkedFiles.{WalkedFiles}
use Rattle.file_walk.specs.Objects.{AreObjects, found_of}
use Rattle.file_walk.specs.Walk.{page_numbers}

-- Each file's index is whole, and no page is named twice.
pub record HasFilePart (g : Geometry) (units : Units) (entries : List FileEntry) (files : List FileContent) : Type 0 where
  pub indexes : AllZip (HasIndex g units) entries files
  pub differ : AllDiffer (flat_map pages_of_file files)

-- Each page is in its grammar, has a record and its file's number.
abbrev pub HasPagePart : Units → List FileEntry → List FileContent → Type 0
HasPagePart units entries files = AllZip (HasPages units) entries files

-- Each record is in its grammar, and names records of its file as its older and its newer one.
abbrev pub HasBodyPart : List FileContent → Type 0
HasBodyPart files = AllByRecursion HasBodies files

-- the files' parts that are tested before a part
abbrev pub FirstParts : Geometry → Units → List FileEntry → List FileContent → Part → Type 0
FirstParts g units entries files Page = HasFilePart g units entries files
FirstParts g units entries files Body = HasFilePart g units entries files × HasPagePart units entries files
FirstParts g units entries files part = Unit {0}

-- the part itself
abbrev pub ThisPart : Geometry → Units → List FileEntry → List FileContent → Part → Type 0
ThisPart g units entries files File = HasFilePart g units entries files
ThisPart g units entries files Page = HasPagePart units entries files
ThisPart g units entries files Body = HasBodyPart files
ThisPart g units entries files part = Unit {0}

-- The part is the first of the files' parts that fails: some files have the parts before it, and none has it too.
pub record IsBadFiles (g : Geometry) (units : Units) (entries : List FileEntry) (part : Part) : Type 0 where
  pub files : List FileContent
  pub earlier : FirstParts g units entries files part
  pub fails : (files : List FileContent) → FirstParts g units entries files part → ThisPart g units entries files part → ⊥

-- all records, file by file
abbrev pub stored_of : List FileContent → List Stored
stored_of files = flat_map (λ (file : FileContent). file.stored) files

-- The files have all three parts, and these are their pages and their records, each with its object.
pub record HasWalked (g : Geometry) (units : Units) (entries : List FileEntry) (walked : WalkedFiles) : Type 0 where
  pub files : List FileContent
  pub file : HasFilePart g units entries files
  pub page : HasPagePart units entries files
  pub body : HasBodyPart files
  pub pages : page_numbers walked.pages.items ≡ flat_map pages_of_file files
  pub object : Place → ℕ
  pub objects : AreObjects (stored_of files) object
  pub records : walked.records.items ≡ map (found_of object) (stored_of files)
