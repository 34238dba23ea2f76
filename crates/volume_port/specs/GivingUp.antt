-- What giving trees up over the parts of a session does.
use Rattle.std.specs.Prelude.{◌≡◌, ◌≤◌, ◌<◌, ◌+◌, ℕ, Bool, true, List, ◌++◌, Contains, Option, Some}
use Rattle.std.specs.List.{AllByRecursion}
use Rattle.ex_base.specs.declared.faults.PortFault.{PortFault}
use Rattle.ex_base.specs.declared.geometry.Geometry.{Geometry}
use Rattle.ex_base.specs.declared.names.Area.{Area}
use Rattle.ex_base.specs.declared.names.Root.{Root}
use Rattle.ex_base.specs.Area.{IsUnit}
use Rattle.ex_base.specs.Ports.{refs_most, times}
use Rattle.disk_model.specs.Outside.{Outside, ReadsOnly}
use Rattle.buffer_groups.specs.Frames.{Frames}
use Rattle.buffer_groups.specs.Groups.{SameKinds}
use Rattle.page_alloc.specs.UnitSet.{UnitSet, used_at, refs_at, free_count}
use Rattle.tree_store.specs.Stored.{Fits, unit_bytes}
use Rattle.trees.specs.Damage.{IsRootFault, IsWhole}
use Rattle.trees.specs.Owners.{IsOwned, root_pages}
use Rattle.trees.specs.Trees.{Units}
use Rattle.volume_model.specs.Held.{root_here}
use Rattle.volume_model.specs.Homes.{home}
pub use Rattle.volume_port.specs.Giving.{is_logged}
use Rattle.volume_port.specs.Logged.{LoggedSet}
use Rattle.volume_port.specs.Reading.{TellsBytes}

-- Trees were given up over the parts of a session: the disk was read at most, and units became free, but none that is logged. The parts fit as they did,
-- each frame lends its page, and each group is of the kind that it was.
pub record GivesTrees (held : ℕ → Bool) (g : Geometry) (a b : Outside) (old new : UnitSet) (was now : List Frames) : Type 0 where
  pub only : ReadsOnly a b
  pub told : TellsBytes a was → TellsBytes b now
  pub fits : Fits g a.size was 0 old → Fits g b.size now 0 new
  pub geometry : new.geometry ≡ old.geometry
  pub fewer : (unit : ℕ) → used_at new unit ≡ true → used_at old unit ≡ true
  pub logged : (unit : ℕ) → held unit ≡ true → used_at old unit ≡ true → used_at new unit ≡ true
  pub free : (area : Area) → free_count old.geometry (used_at old) area ≤ free_count new.geometry (used_at new) area
  pub kinds : SameKinds was now

-- The trees of these roots are whole at home on this disk, which tells its bytes, and own their units beside others; the logged pages are these, and each
-- that is logged is one of them.
pub record OwnRoots (pages : LoggedSet) (kept : List Bool) (g : Geometry) (a : Outside) (groups : List Frames) (units : UnitSet) (roots : List Root) : Type 0 where
  pub disk : List ℕ
  pub logged : List ℕ
  pub others : List ℕ
  pub told : TellsBytes a groups
  pub holds : a.disk ≡ Some disk
  pub listed : (page : ℕ) → is_logged pages kept page ≡ true → 1 ≤ times page logged
  pub whole : AllByRecursion (IsWhole g (home g disk)) roots
  pub owned : IsOwned g (home g disk) (used_at units) (refs_at units) logged (root_pages roots ++ others)

-- An owner less of each of these trees: the others own what is left.
abbrev pub ReleasesRoots : LoggedSet → List Bool → Geometry → Outside → List Frames → UnitSet → UnitSet → List Root → Type 0
ReleasesRoots pages kept g a groups old new roots = (own : OwnRoots pages kept g a groups old roots)
    → IsOwned g (home g own.disk) (used_at new) (refs_at new) own.logged own.others

-- The units with one owner more of the tree of this root, where its page is a unit in use with fewer owners than can be counted.
pub record CountsRoot (root : Option Root) (old new : UnitSet) : Type 0 where
  pub geometry : new.geometry ≡ old.geometry
  pub used : used_at new ≡ used_at old
  pub refs : ((u : ℕ) → 1 ≤ times u (root_pages (root_here root)) → IsUnit old.geometry u × (used_at old u ≡ true) × (refs_at old u < refs_most))
      → (u : ℕ) → refs_at new u ≡ refs_at old u + times u (root_pages (root_here root))

-- The fault is the port's own, or tells of a page on the way down from one of these roots.
pub record BlamesRoot (g : Geometry) (units : Units) (roots : List Root) (fault : PortFault) : Type 0 where
  pub root : Root
  pub one : Contains roots root
  pub way : IsRootFault g units root fault

-- so over the bytes that the disk tells and the frames lend, however honest it is
abbrev pub IsGivingFault : Geometry → Outside → List Frames → List Root → PortFault → Type 0
IsGivingFault g a groups roots fault = TellsBytes a groups → BlamesRoot g (unit_bytes g a.disk) roots fault
