-- What holds of the state of an open volume, and what is left of it by a port.
use Rattle.std.specs.Prelude.{◌≡◌, ℕ, true, false, List, [], length, Some, None, nat_eq}
use Rattle.std.specs.Map.{lookup}
use Rattle.ex_base.specs.Area.{area_end, catalog_no}
use Rattle.disk_model.specs.Changes.{ChangesWithin}
use Rattle.disk_model.specs.Outside.{Outside}
use Rattle.buffer_groups.specs.Groups.{SameKinds}
use Rattle.page_alloc.specs.UnitSet.{refs_at, used_at}
use Rattle.tree_store.specs.Stored.{Fits, InRest, NoUnit, Tells}
use Rattle.volume_model.specs.Committed.{Committed}
use Rattle.volume_model.specs.FreshView.{KnowsUnits, OwnsUnits}
use Rattle.volume_model.specs.Homes.{home}
use Rattle.volume_model.specs.Volume.{Decoded}
use Rattle.volume_port.specs.declared.state.VolumeState.{VolumeState}
use Rattle.volume_port.specs.Logged.{is_held}
use Rattle.volume_port.specs.Ported.{IsKnown, IsUntouched, IsUsed}

-- The parts are of one geometry, the disk has room for its volume, and no frame is of the superblock or the log. The working state has the catalog, and
-- each page that it has is used; of the touched pages it has just those with an image. Of each page it is told whether the committed state has it.
pub record AreReady (disk_size : ℕ) (v : VolumeState) : Type 0 where
  pub fits : Fits v.geometry disk_size v.groups 0 v.units
  pub overlay : v.meta.geometry ≡ v.geometry
  pub held_len : length v.pages ≡ area_end v.geometry
  pub kept_len : length v.kept ≡ area_end v.geometry
  pub catalog : is_held v.pages catalog_no ≡ true
  pub in_use : (page : ℕ) → IsUsed (used_at v.units) v.pages page
  pub images : (page : ℕ) (image : List ℕ) → lookup (nat_eq page) v.meta.working ≡ Some (Some image) → is_held v.pages page ≡ true
  pub gone : (page : ℕ) → lookup (nat_eq page) v.meta.working ≡ Some None → is_held v.pages page ≡ false

-- What an update leaves of a volume: no unit was given back that isn't of the set, on the disk nothing changed but bytes of units that weren't in use, and the
-- committed images, the groups of frames, the log and the sizes are as they were. A page that is there no more was given back, and one that is there untouched
-- was so before.
pub record Moved (freed : ℕ → Type 0) (a b : Outside) (old new : VolumeState) : Type 0 where
  pub changes : ChangesWithin (InRest old.geometry (used_at old.units) NoUnit) a b
  pub told : Tells a old.groups → Tells b new.groups
  pub used : (unit : ℕ) → used_at old.units unit ≡ true → (freed unit → ⊥) → used_at new.units unit ≡ true
  pub given_back : (page : ℕ) → IsKnown old.meta old.pages page → is_held new.pages page ≡ false → lookup (nat_eq page) new.meta.working ≡ Some None
  pub untouched : (page : ℕ) → IsUntouched new.meta new.pages page → IsUntouched old.meta old.pages page
  pub committed : new.meta.committed ≡ old.meta.committed
  pub kinds : SameKinds old.groups new.groups
  pub ready : AreReady b.size new
  pub rest : new ≡ record old { units = new.units; groups = new.groups; meta = new.meta; pages = new.pages }

-- Nothing runs on the volume: an honest disk that tells its bytes holds it committed, with no record in its log. No page has an image, and what is in use,
-- logged and owned is what the volume reaches.
pub record IsAtRest (w : Outside) (v : VolumeState) (d : Decoded) (disk : List ℕ) : Type 0 where
  pub told : Tells w v.groups
  pub ready : AreReady w.size v
  pub holds : w.disk ≡ Some disk
  pub none : d.records ≡ []
  pub geometry : d.geometry ≡ v.geometry
  pub committed : Committed w.images d disk v.log v.meta.committed
  pub images : v.meta.committed ≡ []
  pub working : v.meta.working ≡ []
  pub knows : KnowsUnits d disk (used_at v.units) (is_held v.pages)
  pub owned : OwnsUnits d.geometry (home d.geometry disk) d.volume (used_at v.units) (refs_at v.units)
  pub kept : v.kept ≡ v.pages
