-- Volumes whose units in use are made the lowest ones.
use Rattle.std.specs.Prelude.{◌≡◌, ◌⊎◌, ◌-◌, ℕ, List, Some, ⊤}
use Rattle.ex_base.specs.declared.names.Area.TheVariants.{Page, Segment}
use Rattle.ex_base.specs.Area.{unit_at}
use Rattle.disk_model.specs.Outside.{Leaves, Outside}
use Rattle.page_alloc.specs.UnitSet.{free_count, used_at}
use Rattle.volume_model.specs.Committed.{StandsForVolume}
use Rattle.volume_model.specs.Shown.{used_below, used_in}
use Rattle.volume_model.specs.Volume.{Decoded}
use Rattle.volume_port.specs.declared.state.VolumeState.{VolumeState}
use Rattle.packing.specs.Dense.{IsDense, IsFirstLacking, all_objects}
use Rattle.packing.specs.Resting.{RestsAgain}
use Rattle.packing.specs.declared.fault.PackFault.{PackFault}
use Rattle.packing.specs.declared.fault.PackFault.TheVariants as fault
use Rattle.packing.specs.declared.volume.Packed.{Packed}

-- how many units of the segment area are in use
abbrev pub segs_used : VolumeState → ℕ
segs_used volume = used_in volume.geometry (used_at volume.units) Segment

-- how many of them are high: not among as many of the lowest ones
abbrev pub high_used : VolumeState → ℕ
high_used volume = segs_used volume - used_below (used_at volume.units) (unit_at volume.geometry Segment) (segs_used volume)

abbrev pub pages_free : VolumeState → ℕ
pages_free volume = free_count volume.geometry (used_at volume.units) Page

-- The volume is at rest again, the same but for places of bytes, and dense: of as many units as before, of which so many were high.
pub record IsPacked (w : Outside) (old new : VolumeState) (d : Decoded) (disk : List ℕ) (packed : Packed) : Type 0 where
  pub again : RestsAgain w new d disk
  pub dense : IsDense again.image packed.segs
  pub segs : packed.segs ≡ segs_used old
  pub moved : packed.moved ≡ high_used old

-- so many pages are needed for the first object for which fewer are free
abbrev pub LacksPages : VolumeState → Decoded → List ℕ → ℕ → ℕ → Type 0
LacksPages volume d disk need free = (free ≡ pages_free volume) × IsFirstLacking d disk (segs_used volume) free need (all_objects d disk)

-- the disk holds a volume of the table that one had
abbrev pub HoldsTableOf : Outside → Decoded → List ℕ → Type 0
HoldsTableOf w d disk = (image : List ℕ) × (w.disk ≡ Some image) × StandsForVolume d disk image

-- A crash at any moment leaves a volume of the table that one had, and the disk holds one.
pub record KeepsTable (a b : Outside) (d : Decoded) (disk : List ℕ) : Type 0 where
  pub any_moment : Leaves a b (StandsForVolume d disk)
  pub holds : HoldsTableOf b d disk

-- why a volume with an object that lacks pages isn't packed
abbrev pub StopsLacking : ℕ → ℕ → PackFault → Type 0
StopsLacking need free why = (why ≡ fault.NoPages need free) ⊎ ((why ≡ fault.Disk) ⊎ (why ≡ fault.Memory))

-- a fact of a fault that tells of an object that lacks pages
abbrev pub IfLacking : PackFault → (ℕ → ℕ → Type 0) → Type 0
IfLacking fault.Disk fact = ⊤
IfLacking fault.Memory fact = ⊤
IfLacking (fault.Damaged page want got) fact = ⊤
IfLacking (fault.NoPages need free) fact = fact need free
