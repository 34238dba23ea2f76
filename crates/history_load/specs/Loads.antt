-- What a load leaves on a disk, before and after its commit.
use Rattle.std.specs.Prelude.{◌≡◌, ◌↔◌, ℕ, Bool, true, ◌==◌, if◌then◌else◌, List, [], length, Some, Contains}
use Rattle.std.specs.List.{AllByRecursion}
use Rattle.ex_base.specs.declared.geometry.Geometry.{Geometry}
use Rattle.ex_base.specs.Area.{catalog_no}
use Rattle.ex_base.specs.declared.names.Area.TheVariants.{Segment}
use Rattle.disk_model.specs.Outside.{Outside}
use Rattle.table_model.specs.declared.table.Table.{Table}
use Rattle.trees.specs.Trees.{Units}
use Rattle.volume_model.specs.Homes.{home}
use Rattle.volume_model.specs.Parts.{Decodes, HoldsOf, StandsFor, SuperOf, content_parts}
use Rattle.volume_model.specs.Shown.{used_in}
use Rattle.volume_model.specs.Volume.{Decoded, Volume, reach_of, table_of, units_of}
use Rattle.history_model.specs.Dumps.{IsDump}

-- ---- units in use

-- The volume reaches so many units of the segment area.
pub record ReachesSegs (g : Geometry) (units : Units) (v : Volume) (segs : ℕ) : Type 0 where
  -- which units it reaches, each of them
  pub used : ℕ → Bool
  pub each : (unit : ℕ) → (used unit ≡ true) ↔ Contains (reach_of units v) unit
  pub segs_are : segs ≡ used_in g used Segment

-- The volume on the image does.
pub record ImageReaches (image : List ℕ) (segs : ℕ) : Type 0 where
  pub decoded : Decoded
  pub parts : Decodes image decoded
  pub reaches : ReachesSegs decoded.geometry (units_of decoded image) decoded.volume segs

-- ---- before it

-- the units with another page as the catalog
abbrev pub with_catalog : List ℕ → Units → Units
with_catalog page units unit = if unit == catalog_no then page else units unit

-- the units of a disk with this page as the catalog
abbrev pub units_loaded : Geometry → List ℕ → List ℕ → Units
units_loaded g image page = with_catalog page (home g image)

-- With this page as its catalog, what stands on the disk is a volume of this last number, which reaches so many units of the segment area. The stream is a
-- dump of its table, with as many leaves.
pub record LoadsAs (g : Geometry) (image stream page : List ℕ) (last segs : ℕ) : Type 0 where
  pub volume : Volume
  pub parts : AllByRecursion (HoldsOf g [] (units_loaded g image page) volume) content_parts
  pub last_is : volume.catalog.last ≡ last
  pub dump : IsDump stream g (table_of (units_loaded g image page) volume)
  pub leaves : segs ≡ length dump.history.leaves
  pub reaches : ReachesSegs g (units_loaded g image page) volume segs

-- ---- after it

-- The image stands for a table of which the stream is a dump.
pub record IsDumpImage (g : Geometry) (stream image : List ℕ) : Type 0 where
  pub table : Table
  pub dump : IsDump stream g table
  pub stands : StandsFor image table

-- The disk is of this geometry, and stands, whatever a crash leaves of it, for one table, of which the stream is a dump. Its volume reaches so many units of
-- the segment area, and as many leaves has the stream.
pub record HoldsDump (w : Outside) (g : Geometry) (stream : List ℕ) (segs : ℕ) : Type 0 where
  pub table : Table
  pub dump : IsDump stream g table
  pub leaves : segs ≡ length dump.history.leaves
  pub image : List ℕ
  pub holds : w.disk ≡ Some image
  pub super : SuperOf image g
  pub stands : StandsFor image table
  pub reaches : ImageReaches image segs
  pub left : (e : List ℕ) → w.images e → StandsFor e table
