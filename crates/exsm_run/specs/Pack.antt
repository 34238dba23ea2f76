-- What `pack` moves, sends and leaves.
use Rattle.std.specs.Prelude.{◌≡◌, ◌≢◌, ◌⊎◌, ◌<◌, ◌-◌, ◌↔◌, ℕ, Bool, true, IsTrue, Some, List, [], ◌∷◌, ◌++◌, length, take, codes, decimal, Contains, ⊤}
use Rattle.disk_model.specs.Outside.{Outside, Leaves}
use Rattle.ex_base.specs.declared.names.Area.TheVariants.{Page, Segment}
use Rattle.ex_base.specs.Area.{unit_at}
use Rattle.ex_base.specs.Sizes.{units}
use Rattle.table_model.specs.declared.table.Table.{Table}
use Rattle.session_views.specs.Opening.{StandsOpening}
use Rattle.session_core.specs.Meant.{meant}
use Rattle.volume_model.specs.Parts.{Decodes, StandsFor}
use Rattle.volume_model.specs.Shown.{used_below, used_in}
use Rattle.volume_model.specs.Volume.{Decoded, reach_of, units_of}
use Rattle.packing.specs.Dense.{IsDense, IsFirstLacking, all_objects}
use Rattle.packing.specs.declared.fault.PackFault.{PackFault}
use Rattle.packing.specs.declared.fault.PackFault.TheVariants as fault
use Rattle.command_line.specs.declared.status.Status.{Status}
use Rattle.command_line.specs.declared.status.Status.TheVariants.{Done, Usage, ScriptFault, OutputFault, DiskFault, BadVolume, Memory, Damaged, AlreadyVolume, TooSmall, ScriptLong, NotEmpty, BadDump, Misfit, NoRoom, NoPages}
use Rattle.exsm_run.specs.Check.{MaySend}
use Rattle.exsm_run.specs.Load.{HoldsTableNow}
use Rattle.exsm_run.specs.Openings.{OpeningPromise, PartsAtSync}
use Rattle.exsm_run.specs.Script.{HoldsVolume, IsOnVolume}

-- ---- the line

unfoldable pub pack_line : ℕ → ℕ → List ℕ
pack_line moved segs = codes "ok pack moved " ++ (decimal moved ++ (codes " segs " ++ (decimal segs ++ 10 ∷ [])))

-- ---- the volume at entry

-- The volume on the image reaches these units, each of them.
pub record Reaches (image : List ℕ) (decoded : Decoded) (used : ℕ → Bool) : Type 0 where
  pub parts : Decodes image decoded
  pub each : (unit : ℕ) → (used unit ≡ true) ↔ Contains (reach_of (units_of decoded image) decoded.volume) unit

-- The volume that the disk held at entry reaches so many units of the segment area, of which so many are high: not among as many of the lowest ones.
pub record HighAtEntry (entry : Outside) (segs high : ℕ) : Type 0 where
  pub image : List ℕ
  pub holds : entry.disk ≡ Some image
  pub decoded : Decoded
  pub used : ℕ → Bool
  pub reaches : Reaches image decoded used
  pub segs_are : segs ≡ used_in decoded.geometry used Segment
  pub high_are : high ≡ segs - used_below used (unit_at decoded.geometry Segment) segs

-- The volume that the disk held at entry had so many free pages, and for its first object that needs more so many were needed.
pub record LacksAtEntry (entry : Outside) (need free : ℕ) : Type 0 where
  pub image : List ℕ
  pub holds : entry.disk ≡ Some image
  pub decoded : Decoded
  pub used : ℕ → Bool
  pub reaches : Reaches image decoded used
  pub free_are : free ≡ units decoded.geometry Page - used_in decoded.geometry used Page
  pub lacking : IsFirstLacking decoded image (used_in decoded.geometry used Segment) free need (all_objects decoded image)

-- ---- the volume afterwards

-- The disk holds a volume of the table whose units in use of the segment area are so many of the lowest ones, of which so many were high at entry.
pub record HoldsPacked (before after : Outside) (table : Table) (moved segs : ℕ) : Type 0 where
  pub image : List ℕ
  pub holds : after.disk ≡ Some image
  pub stands : StandsFor image table
  pub dense : IsDense image segs
  pub high : HighAtEntry before segs moved

-- Behind what was sent before the line was sent, and the volume is packed.
abbrev pub SendsPacked : Table → List ℕ → Outside → Outside → Type 0
SendsPacked table was before after = (moved : ℕ) × (segs : ℕ) × HoldsPacked before after table moved segs × (after.sent ≡ Some (was ++ pack_line moved segs))

-- A front of the line was sent, but not all of it, and the volume is packed.
abbrev pub SendsPackedPart : Table → List ℕ → Outside → Outside → Type 0
SendsPackedPart table was before after = (moved : ℕ) × (segs : ℕ) × HoldsPacked before after table moved segs
    × ((n : ℕ) × (n < length (pack_line moved segs)) × (after.sent ≡ Some (was ++ take n (pack_line moved segs))))

-- ---- statuses

-- the status where a volume wasn't packed
abbrev pub unpacked_status : PackFault → Status
unpacked_status fault.Disk = DiskFault
unpacked_status fault.Memory = Memory
unpacked_status (fault.Damaged page want got) = Damaged page want got
unpacked_status (fault.NoPages need free) = NoPages need free

-- the statuses of `pack` on a volume
abbrev pub IsPackStatus : Status → Type 0
IsPackStatus Done = ⊤
IsPackStatus Usage = ⊥
IsPackStatus ScriptFault = ⊥
IsPackStatus OutputFault = ⊤
IsPackStatus DiskFault = ⊤
IsPackStatus (BadVolume part) = ⊥
IsPackStatus Memory = ⊤
IsPackStatus (Damaged page want got) = ⊥
IsPackStatus AlreadyVolume = ⊥
IsPackStatus (TooSmall have need) = ⊥
IsPackStatus (ScriptLong max) = ⊥
IsPackStatus NotEmpty = ⊥
IsPackStatus BadDump = ⊥
IsPackStatus (Misfit field dump volume) = ⊥
IsPackStatus (NoRoom area need free) = ⊥
IsPackStatus (NoPages need free) = ⊤

-- What it needs to be done: a volume, no fault of the disk or of the output, and no object that lacks pages.
pub record MayPack (before after : Outside) : Type 0 where
  pub may : MaySend before after
  pub pages : (need free : ℕ) → LacksAtEntry before need free → ⊥

-- ---- the promise

-- What `pack` promises.
pub record PackPromise (before after : Outside) (status : Status) : Type 0 where
  -- On a volume its line has the number of units that were moved and of those in use, which are the lowest then; a front of it is sent where the output failed,
  -- and else nothing.
  pub sends : (table : Table) (was : List ℕ) → HoldsVolume before table was → status ≡ Done → SendsPacked table was before after
  pub front : (table : Table) (was : List ℕ) → HoldsVolume before table was → status ≡ OutputFault → SendsPackedPart table was before after
  pub nothing : status ≢ Done → status ≢ OutputFault → after.sent ≡ before.sent
  pub left : after.left ≡ before.left
  -- The table is as it was, whatever the status.
  pub table : (table : Table) (was : List ℕ) → HoldsVolume before table was → HoldsTableNow after table
  -- With status 0 nothing of before is pending any more: a crash now leaves the table.
  pub settled : (table : Table) (was : List ℕ) → HoldsVolume before table was → status ≡ Done → (d : List ℕ) → after.images d → StandsFor d table
  -- The first object that lacks pages is told, and exactly where there is one.
  pub lacks : (need free : ℕ) → status ≡ NoPages need free → (table : Table) (was : List ℕ) → HoldsVolume before table was → LacksAtEntry before need free
  pub lacking : (need free : ℕ) (table : Table) (was : List ℕ) → HoldsVolume before table was → LacksAtEntry before need free
      → (status ≡ NoPages need free) ⊎ ((status ≡ DiskFault) ⊎ (status ≡ Memory))
  -- A crash at any moment leaves what one in an opening may leave: where nothing is pending at entry, the table.
  pub moments : (image : List ℕ) → IsTrue before.honest → before.disk ≡ Some image → Leaves before after (StandsOpening meant before.images image)
  pub moments_settled : (table : Table) (was : List ℕ) → IsOnVolume before table was → Leaves before after (λ d. StandsFor d table)
  pub parted : PartsAtSync before after status
  -- On a volume nothing but a fault of the disk or of the output, want of memory, or an object that lacks pages stops it, and without those nothing but want of memory.
  pub sound : (table : Table) (was : List ℕ) → HoldsVolume before table was → IsPackStatus status
  pub completes : MayPack before after → (status ≡ Done) ⊎ (status ≡ Memory)
  -- The disk holds a volume, or nothing is done.
  pub opening : OpeningPromise before after status
