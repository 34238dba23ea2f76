-- A volume at rest of which trees are moved.
use Rattle.std.specs.Prelude.{◌≡◌, ◌≢◌, ◌≤◌, ◌⊎◌, ◌+◌, ℕ, Bool, true, false, List, [], ◌∷◌, Some, Contains, ⊤}
use Rattle.std.specs.List.{AllByRecursion}
use Rattle.ex_base.specs.declared.names.Area.TheVariants.{Page, Segment}
use Rattle.ex_base.specs.declared.names.PageNo.{PageNo}
use Rattle.ex_base.specs.declared.names.Root.{Root}
use Rattle.ex_base.specs.Area.{catalog_no}
use Rattle.disk_model.specs.Outside.{Outside, Rose}
use Rattle.object_records.specs.Record.{Large}
use Rattle.page_alloc.specs.UnitSet.{free_count, used_at}
use Rattle.trees.specs.Made.{AreUsed, Has}
use Rattle.trees.specs.Trees.{IsNamed, root_units, units_on}
use Rattle.compact.specs.Moved.{Copies, HasCopy, IsSent, IsSoundPair, nodes_left, leaves_left, unmoved}
use Rattle.compact.specs.High.{each_once, free_below, root_high_leaves, root_low_leaves, root_nodes_above}
use Rattle.volume_model.specs.Volume.{Decoded, Stored, file_pages, oid_of, stored_in, table_of, units_of}
use Rattle.volume_moves.specs.Moves.{IsOfNoOther}
use Rattle.volume_port.specs.declared.state.VolumeState.{VolumeState}
use Rattle.volume_port.specs.State.{AreReady, IsAtRest}
use Rattle.packing.specs.declared.fault.PackFault.{PackFault}
use Rattle.packing.specs.declared.fault.PackFault.TheVariants.{Disk, Memory, Damaged, NoPages}
use Rattle.packing.specs.declared.objects.LargeVersion.{LargeVersion}
use Rattle.packing.specs.declared.start.Start.{Start}

-- ---- the state between two versions

-- The parts of the state are of one geometry, no page has an image, and no record of the log counts.
pub record IsIdle (size : ℕ) (volume : VolumeState) : Type 0 where
  pub ready : AreReady size volume
  pub log : volume.log ≡ record { geometry = volume.geometry; end = 0; count = 0 }
  pub working : volume.meta.working ≡ []
  pub committed : volume.meta.committed ≡ []

-- A volume has the table of another one, its geometry, its catalog in the same bytes, and the pages of its files.
pub record IsSameBut (d : Decoded) (disk : List ℕ) (now : Decoded) (image : List ℕ) : Type 0 where
  pub geometry : now.geometry ≡ d.geometry
  pub table : table_of (units_of now image) now.volume ≡ table_of (units_of d disk) d.volume
  pub catalog : now.volume.catalog ≡ d.volume.catalog
  pub page : units_of now image catalog_no ≡ units_of d disk catalog_no
  pub pages : file_pages now.volume ≡ file_pages d.volume

-- What was read before the first version is so of the volume: the bytes of its catalog, the number of its last transaction.
pub record IsStartOf (d : Decoded) (disk : List ℕ) (start : Start) : Type 0 where
  pub catalog : start.catalog.items ≡ units_of d disk catalog_no
  pub last : start.last ≡ d.volume.catalog.last

-- ---- what may be moved

-- The unit is of no other object than that of a record, and is no logged page.
abbrev pub CopyIsOwn : Decoded → List ℕ → Stored → ℕ → Type 0
CopyIsOwn d disk s unit = IsOfNoOther (units_of d disk) d.volume s.place unit × (Contains (catalog_no ∷ file_pages d.volume) unit → ⊥)

-- The copy of a unit of the tree of a record is sound, and over units of its object alone. What the unit's tree leads to was sent.
pub record IsOwnCopy (volume : VolumeState) (d : Decoded) (disk : List ℕ) (dense : ℕ) (moves : Copies) (s : Stored) (level page : ℕ) (copy : PageNo) : Type 0 where
  pub sound : IsSoundPair d.geometry (units_of d disk) (used_at volume.units) dense level page copy.0
  pub own : AllByRecursion (CopyIsOwn d disk s) (units_on (units_of d disk) level copy.0)
  pub sent : IsSent d.geometry dense (units_of d disk) moves level page

-- The record is of a large version with this root, and the copies of the units of its tree are sound and its object's own.
pub record HasOwnCopies (volume : VolumeState) (d : Decoded) (disk : List ℕ) (dense : ℕ) (moves : Copies) (version : LargeVersion) : Type 0 where
  pub stored : Stored
  pub there : Contains (stored_in d.volume) stored
  pub oid : oid_of stored ≡ version.oid
  pub large : stored.body.content ≡ Large version.root
  pub copies : (level page : ℕ) (copy : PageNo) → Has (root_units (units_of d disk) version.root) page → moves page ≡ Some copy
      → IsNamed d.geometry (units_of d disk) level page → IsOwnCopy volume d disk dense moves stored level page copy

-- There is room for what is still to copy of a tree: free pages for its nodes, and low free units for its leaves.
pub record HasRoomFor (volume : VolumeState) (d : Decoded) (disk : List ℕ) (dense : ℕ) (moves : Copies) (root : Root) : Type 0 where
  pub pages : nodes_left d.geometry dense (units_of d disk) moves root ≤ free_count volume.geometry (used_at volume.units) Page
  pub leaves : leaves_left d.geometry dense (units_of d disk) moves root ≤ free_below d.geometry (used_at volume.units) dense
  pub low : dense ≤ d.geometry.segs

-- ---- what was moved

-- The volume is at rest again, and but for places of bytes it is the same.
pub record RestsAgain (w : Outside) (volume : VolumeState) (d : Decoded) (disk : List ℕ) : Type 0 where
  pub decoded : Decoded
  pub image : List ℕ
  pub rests : IsAtRest w volume decoded image
  pub same : IsSameBut d disk decoded image

-- the nodes above high leaves of a root's tree, and its high leaves, each once
abbrev pub nodes_of : Decoded → List ℕ → ℕ → Root → List ℕ
nodes_of d disk dense root = each_once (root_nodes_above d.geometry dense (units_of d disk) root)

abbrev pub leaves_of : Decoded → List ℕ → ℕ → Root → List ℕ
leaves_of d disk dense root = each_once (root_high_leaves d.geometry dense (units_of d disk) root)

-- One version was moved: its tree has no high leaf, and each leaf that wasn't high. Each other record is as it was. Between the move and the release of the old tree it had paid for the nodes
-- and leaves that got copies; what was taken stays in use. Each copy of a unit of the old tree is sound while its units are in use, and a new one stands in the new tree.
pub record MovesVersion (w : Outside) (old new : VolumeState) (d : Decoded) (disk : List ℕ) (dense : ℕ) (moves after : Copies) (version : LargeVersion) : Type 0 where
  pub again : RestsAgain w new d disk
  pub made : Root
  -- the records: this one has another root, in its place and with its head
  pub others : (s : Stored) → Contains (stored_in d.volume) s → (oid_of s ≡ version.oid → ⊥) → Contains (stored_in again.decoded.volume) s
  pub stored : (s : Stored) → Contains (stored_in again.decoded.volume) s → (oid_of s ≡ version.oid → ⊥) → Contains (stored_in d.volume) s
  pub moved : Stored
  pub there : Contains (stored_in again.decoded.volume) moved
  pub oid : oid_of moved ≡ version.oid
  pub large : moved.body.content ≡ Large made
  pub high : root_high_leaves d.geometry dense (units_of again.decoded again.image) made ≡ []
  pub low : AllByRecursion (Has (root_units (units_of again.decoded again.image) made)) (root_low_leaves d.geometry dense (units_of d disk) version.root)
  -- Each unit in use before, but a page of a file, keeps its bytes.
  pub units : (u : ℕ) → used_at old.units u ≡ true → (Contains (catalog_no ∷ file_pages d.volume) u → ⊥) → units_of again.decoded again.image u ≡ units_of d disk u
  -- the copies
  pub fresh : (page : ℕ) (copy : PageNo) → after page ≡ Some copy
      → (moves page ≡ Some copy) ⊎ (Has (root_units (units_of d disk) version.root) page × Has (root_units (units_of again.decoded again.image) made) copy.0)
  pub each : AllByRecursion (HasCopy after) (root_high_leaves d.geometry dense (units_of d disk) version.root)
  pub sound : (level page : ℕ) (copy : PageNo) → Has (root_units (units_of d disk) version.root) page → after page ≡ Some copy → IsNamed d.geometry (units_of d disk) level page
      → (in_use : ℕ → Bool) → AreUsed in_use (units_on (units_of again.decoded again.image) level copy.0)
      → IsSoundPair d.geometry (units_of again.decoded again.image) in_use dense level page copy.0
  pub sent : (level page : ℕ) (copy : PageNo) → Has (root_units (units_of d disk) version.root) page → after page ≡ Some copy → IsNamed d.geometry (units_of d disk) level page → IsSent d.geometry dense (units_of d disk) after level page
  -- what is in use between the move and the release
  pub between : ℕ → Bool
  pub kept : (u : ℕ) → used_at old.units u ≡ true → between u ≡ true
  pub fewer : (u : ℕ) → used_at new.units u ≡ true → between u ≡ true
  pub stay : (u : ℕ) → used_at old.units u ≡ false → between u ≡ true → used_at new.units u ≡ true
  pub pages : free_count old.geometry (used_at old.units) Page + unmoved after (nodes_of d disk dense version.root) ≤ free_count old.geometry between Page + unmoved moves (nodes_of d disk dense version.root)
  pub segs : free_count old.geometry (used_at old.units) Segment + unmoved after (leaves_of d disk dense version.root) ≡ free_count old.geometry between Segment + unmoved moves (leaves_of d disk dense version.root)

-- ---- faults

-- A fault of the disk rose in its count, and damage is told of two things that differ.
abbrev pub PackCause : Outside → Outside → PackFault → Type 0
PackCause a b Disk = Rose a.disk_faults b.disk_faults
PackCause a b Memory = ⊤
PackCause a b (Damaged page want got) = want ≢ got
PackCause a b (NoPages need free) = Unit {0}

-- the fault is that of a damaged page
abbrev pub TellsDamage : PackFault → Type 0
TellsDamage Disk = ⊥
TellsDamage Memory = ⊥
TellsDamage (Damaged page want got) = Unit {0}
TellsDamage (NoPages need free) = ⊥

-- The fault doesn't tell of pages that are lacking.
abbrev pub NeverLacks : PackFault → Type 0
NeverLacks Disk = ⊤
NeverLacks Memory = ⊤
NeverLacks (Damaged page want got) = ⊤
NeverLacks (NoPages need free) = ⊥
