-- What an opening tests, and what it gives.
use Rattle.std.specs.Prelude.{◌≡◌, ◌≤◌, ◌⊎◌, ◌*◌, ℕ, Bool, List, [], ◌∷◌, Option, Some, None, IsSome}
use Rattle.ex_base.specs.declared.geometry.Geometry.{Geometry}
use Rattle.buffer_groups.specs.Frames.{Frames}
use Rattle.buffer_groups.specs.declared.Policy.TheVariants.{Lru}
use Rattle.disk_model.specs.Changes.{InRange}
use Rattle.disk_model.specs.Outside.{Outside}
use Rattle.object_files.specs.Catalog.{Catalog, CatalogOf}
use Rattle.op_log.specs.AfterLog.{logged}
use Rattle.op_log.specs.State.{LogState}
use Rattle.table_model.specs.declared.table.Table.{Table}
use Rattle.volume_port.specs.declared.state.VolumeState.{VolumeState}
use Rattle.volume_port.specs.State.{IsAtRest}
use Rattle.commits.specs.Written.{InLog}
use Rattle.restart.specs.Content.{IsReached}
use Rattle.volume_model.specs.Homes.{home}
use Rattle.volume_model.specs.Committed.{Committed, OverlayOf, SameAfterLog, with_records}
use Rattle.volume_model.specs.FreshView.{KnowsUnits, OwnsUnits}
use Rattle.volume_model.specs.Parts.{Decodes, StandsFor}
use Rattle.volume_model.specs.Volume.{Decoded, table_of, units_of}

-- ---- what is tested

-- the number is that of the last record, where there is one
abbrev pub LastIs : Option ℕ → ℕ → Type 0
LastIs None txn = Unit {0}
LastIs (Some number) txn = txn ≡ number

-- The page is this catalog, with the number of the last record.
pub record HasCatalog (page : List ℕ) (last : Option ℕ) (c : Catalog) : Type 0 where
  pub spelled : CatalogOf page c
  pub number : LastIs last c.last

-- ---- what an opening gives

-- the group `main`, without a page in it
abbrev pub empty_main : Geometry → Frames
empty_main g = record { entries = []; cap = 64; page_size = g.page_size; policy = Lru }

-- The parts are of one geometry; the committed state has the logged pages of the working one, no page is touched, and no frame is filled.
pub record AreFresh (p : VolumeState) : Type 0 where
  pub log : p.log.geometry ≡ p.geometry
  pub meta : p.meta.geometry ≡ p.geometry
  pub working : p.meta.working ≡ []
  pub reached : IsReached p.geometry (record { units = p.units; pages = p.pages })
  pub kept : p.kept ≡ p.pages
  pub groups : p.groups ≡ empty_main p.geometry ∷ []

-- Besides no record counts, and no page has an image.
pub record AreOpened (p : VolumeState) : Type 0 where
  pub fresh : AreFresh p
  pub log : p.log ≡ record { geometry = p.geometry; end = 0; count = 0 }
  pub images : p.meta.committed ≡ []

-- The disk decodes so, log and overlay are those of its records, and units, their counts of references and logged pages are those of its volume.
pub record ReadsAs (image : List ℕ) (g : Geometry) (log : LogState) (overlay : List (ℕ × List ℕ)) (used : ℕ → Bool) (refs : ℕ → ℕ) (held : ℕ → Bool) : Type 0 where
  pub decoded : Decoded
  pub geometry : decoded.geometry ≡ g
  pub parts : Decodes image decoded
  pub shown : OverlayOf decoded log overlay
  pub knows : KnowsUnits decoded image used held
  pub owned : OwnsUnits decoded.geometry (units_of decoded image) decoded.volume used refs

-- The disk stood for a table, as it decoded; now it holds the same volume with no record in its log, committed, and it is known which units and logged
-- pages that volume has, and how many owners each unit has, as it stands at its home.
pub record OpenedOn (image : List ℕ) (g : Geometry) (w : Outside) (log : LogState) (overlay : List (ℕ × List ℕ)) (used : ℕ → Bool) (refs : ℕ → ℕ) (held : ℕ → Bool) : Type 0 where
  pub decoded : Decoded
  pub disk : List ℕ
  pub geometry : decoded.geometry ≡ g
  pub was : Decodes image decoded
  pub holds : w.disk ≡ Some disk
  pub committed : Committed w.images (with_records decoded [] decoded.volume) disk log overlay
  pub same : SameAfterLog decoded image [] disk
  pub knows : KnowsUnits (with_records decoded [] decoded.volume) disk used held
  pub owned : OwnsUnits decoded.geometry (home decoded.geometry disk) decoded.volume used refs

-- The volume is at rest, as the image decoded: with no record in its log, and the same in each page after the log.
pub record RestsAs (image : List ℕ) (w : Outside) (p : VolumeState) : Type 0 where
  pub decoded : Decoded
  pub parts : Decodes image decoded
  pub disk : List ℕ
  pub rests : IsAtRest w p (with_records decoded [] decoded.volume) disk
  pub same : SameAfterLog decoded image [] disk

-- The image stands for a table for which the other one stands too.
pub record StandsForSame (image other : List ℕ) : Type 0 where
  pub table : Table
  pub was : StandsFor image table
  pub stands : StandsFor other table

-- The other one is the image, or stands for its table.
abbrev pub StaysAs : List ℕ → List ℕ → Type 0
StaysAs image other = (other ≡ image) ⊎ StandsForSame image other

-- What a crash in an opening leaves: what one could leave before, or the volume as it reads, or what stands for its table.
abbrev pub OpensAs : (List ℕ → Type 0) → List ℕ → List ℕ → Type 0
OpensAs before image other = before other ⊎ StaysAs image other

-- The moments are parted: since some time between, a crash leaves the volume as it reads, or what stands for its table, and nothing of before any more.
pub record PartsMoments (old new : Outside) (image : List ℕ) : Type 0 where
  pub since : ℕ
  pub from : old.clock ≤ since
  pub up_to : since ≤ new.clock
  pub each : (s d : List ℕ) → new.moments since s d → StaysAs image d
  pub now : (d : List ℕ) → new.images d → StaysAs image d

-- The disk holds the image, or what stands for its table.
abbrev pub HoldsAs : List ℕ → Outside → Type 0
HoldsAs image w = (other : List ℕ) × (w.disk ≡ Some other) × StaysAs image other

-- ---- where it writes

-- the log, and the homes of the pages of which its records have an image
abbrev pub InLogOrLogged : Decoded → ℕ → Type 0
InLogOrLogged d i =
    InLog d.geometry.page_size i ⊎ ((page : ℕ) × IsSome (logged d.records page) × InRange (page * d.geometry.page_size) d.geometry.page_size i)
