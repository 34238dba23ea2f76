-- What the opening of a volume promises, whichever command asked for it.
use Rattle.std.specs.Prelude.{◌≡◌, ◌≢◌, ℕ, IsTrue, Some, List, []}
use Rattle.disk_model.specs.Changes.{SameBut}
use Rattle.disk_model.specs.Outside.{Outside, Leaves, Only, WritesNothing}
use Rattle.table_model.specs.declared.table.Table.{Table}
use Rattle.session_views.specs.declared.Part.{Part}
use Rattle.restart.specs.Opening.{InLogOrLogged, PartsMoments}
use Rattle.volume_model.specs.Parts.{Decodes, FirstBad}
use Rattle.volume_model.specs.Volume.{Decoded, table_of, units_of}
use Rattle.volume_port.specs.declared.state.VolumeState.{VolumeState}
use Rattle.volume_port.specs.State.{IsAtRest}
use Rattle.command_line.specs.declared.status.Status.{Status}
use Rattle.command_line.specs.declared.status.Status.TheVariants.{BadVolume, DiskFault}
use Rattle.exsm_run.specs.Script.{IsOpeningStatus}

-- Nothing was sent, taken or written: the disk was read and synced at most, and, where it is honest, a crash at any moment leaves what it could leave
-- before.
pub record LeftAlone (before after : Outside) : Type 0 where
  pub nothing : WritesNothing before after
  pub moments : IsTrue before.honest → Leaves before after before.images

-- What the opening of a volume promises: a bad volume is answered exactly where a part of it fails, but for a fault of the disk and want of memory, with
-- the first part. Where a part fails, whatever is answered, and where a bad volume is answered, nothing is sent, taken or written.
pub record OpeningPromise (before after : Outside) (status : Status) : Type 0 where
  pub bad : (part : Part) → status ≡ BadVolume part → (image : List ℕ) → before.disk ≡ Some image → FirstBad image part
  pub unopened : (image : List ℕ) (part : Part) → before.disk ≡ Some image → FirstBad image part → IsOpeningStatus status
  pub left : (image : List ℕ) (part : Part) → before.disk ≡ Some image → FirstBad image part → LeftAlone before after
  pub only : (part : Part) → status ≡ BadVolume part → LeftAlone before after
  pub kept : (part : Part) → status ≡ BadVolume part → (image : List ℕ) → IsTrue before.honest → before.disk ≡ Some image
      → (after.disk ≡ Some image) × Only image after.images

-- ---- where a command writes that only opens its volume, and what a crash in it leaves

-- Nothing was written: the disk holds what it held, and, where it is honest, a crash at any moment leaves what it could leave before.
pub record KeepsDisk (before after : Outside) : Type 0 where
  pub disk : after.disk ≡ before.disk
  pub moments : IsTrue before.honest → Leaves before after before.images

-- An honest disk was written in these places alone: it holds what it held, but for them, and a crash at any moment leaves what it could leave before, but
-- for them.
pub record WritesIn (R : ℕ → Type 0) (before after : Outside) : Type 0 where
  pub disk : IsTrue before.honest → (d : List ℕ) → before.disk ≡ Some d → (e : List ℕ) × (after.disk ≡ Some e) × SameBut R d e
  pub moments : IsTrue before.honest → Leaves before after (λ e. (d : List ℕ) × before.images d × SameBut R d e)

-- Where the disk didn't fail the moments are parted at the first sync: from then on a crash leaves the image, or what stands for its table.
abbrev pub PartsAtSync : Outside → Outside → Status → Type 0
PartsAtSync before after status = status ≢ DiskFault → (image : List ℕ) → IsTrue before.honest → before.disk ≡ Some image → PartsMoments before after image

-- It writes as an opening does, and not besides.
pub record WritesAsOpening (before after : Outside) (status : Status) : Type 0 where
  -- Where no record of the log counts nothing is written. Else it is written in the log alone, and at the homes of the pages that the log has.
  pub clean : (image : List ℕ) (d : Decoded) → before.disk ≡ Some image → Decodes image d → d.records ≡ [] → KeepsDisk before after
  pub writes : (image : List ℕ) (d : Decoded) → before.disk ≡ Some image → Decodes image d → WritesIn (InLogOrLogged d) before after
  pub parted : PartsAtSync before after status

-- ---- an open volume

-- The volume was opened and is at rest, with this table.
pub record RestsWith (table : Table) (w : Outside) (volume : VolumeState) : Type 0 where
  pub decoded : Decoded
  pub disk : List ℕ
  pub rests : IsAtRest w volume decoded disk
  pub table_is : table_of (units_of decoded disk) decoded.volume ≡ table
