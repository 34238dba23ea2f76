-- A version's tree that was moved in the working pages, before they are committed.
use Rattle.std.specs.Prelude.{◌≡◌, ◌≤◌, ◌<◌, ◌⊎◌, ◌+◌, ◌↔◌, ℕ, true, false, List, [], ◌∷◌, ◌++◌, Some, Contains}
use Rattle.std.specs.List.{AllByRecursion, flat_map}
use Rattle.ex_base.specs.declared.geometry.Geometry.{Geometry}
use Rattle.ex_base.specs.declared.ground.Ground as ground
use Rattle.ex_base.specs.declared.names.Index.{Index}
use Rattle.ex_base.specs.declared.names.Area.TheVariants.{Page, Segment}
use Rattle.ex_base.specs.declared.names.PageNo.{PageNo}
use Rattle.ex_base.specs.declared.names.Root.{Root}
use Rattle.ex_base.specs.Area.{IsUnit, catalog_no}
use Rattle.ex_base.specs.Ports.{Keeps, refs_most, times}
use Rattle.disk_model.specs.Outside.{Outside}
use Rattle.buffer_groups.specs.Frames.{Frames}
use Rattle.file_bodies.specs.Files.{HasFileOf}
use Rattle.object_records.specs.Record.{Large}
use Rattle.object_records.specs.declared.Head.{Head}
use Rattle.meta_pages.specs.Overlays.{Overlays}
use Rattle.page_alloc.specs.UnitSet.{UnitSet, free_count, refs_at, used_at}
use Rattle.tree_store.specs.Stored.{NoUnit, Tells}
use Rattle.trees.specs.Damage.{IsWhole}
use Rattle.trees.specs.Made.{AreUsed, Has}
use Rattle.trees.specs.Owners.{IsOwned, root_pages}
use Rattle.trees.specs.Trees.{IsNamed, RootNamed, Units, root_units, units_on}
use Rattle.compact.specs.High.{each_once, root_high_leaves, root_low_leaves, root_nodes_above}
use Rattle.versions.specs.Found.{IsReadable}
use Rattle.versions.specs.Versions.{AreInUse, HasRecord, HasVersion, place_of}
use Rattle.compact.specs.Moved.{AreLow, Copies, HasCopy, IsSent, IsSoundPair, MayMove, unmoved}
use Rattle.volume_model.specs.Homes.{home}
use Rattle.volume_model.specs.Parts.{HoldsOf, content_parts}
use Rattle.volume_model.specs.Shown.{working_units}
use Rattle.volume_model.specs.Volume.{Decoded, Volume, file_pages, roots_in, stored_in, table_of, units_of}
use Rattle.volume_moves.specs.Moves.{TurnsRecord}
use Rattle.volume_port.specs.declared.state.VolumeState.{VolumeState}
use Rattle.volume_port.specs.Logged.{LoggedSet, is_held}
use Rattle.volume_port.specs.State.{IsAtRest, Moved}
use Rattle.volume_port.specs.Stays.{StaysUsed, StillCommitted}
use Rattle.packing.specs.Moving.{CopiesAreAway, VersionMoved}
use Rattle.packing.specs.declared.objects.LargeVersion.{LargeVersion}

-- The tree of a root, over units in use that are no page of a file, was moved, with these units before and later: none of its units is high, each is in use, and what was taken and the leaves that weren't high
-- are among them. What was in use
-- keeps its bytes. Each copy of a unit of the old tree is sound, and over no page of a file; a new one stands in the new tree, and was paid for.
pub record TreeMoved (g : Geometry) (dense : ℕ) (pages : List ℕ) (before later : Units) (old new : VolumeState) (moves after : Copies) (root made : Root) : Type 0 where
  pub named : RootNamed g before root.height root.page
  pub its : AllByRecursion (λ u. (used_at old.units u ≡ true) × (Contains pages u → ⊥)) (root_units before root)
  pub low : AreLow g dense (root_units later made)
  pub used : AreUsed (used_at new.units) (root_units later made)
  pub apart : AllByRecursion (λ u. Contains pages u → ⊥) (root_units later made)
  pub stay : AllByRecursion (Has (root_units later made)) (root_low_leaves g dense before root)
  pub taken : (u : ℕ) → used_at old.units u ≡ false → used_at new.units u ≡ true → Has (root_units later made) u
  pub stays : (u : ℕ) → used_at old.units u ≡ true → later u ≡ before u
  pub fresh : (page : ℕ) (copy : PageNo) → after page ≡ Some copy → (moves page ≡ Some copy) ⊎ (Has (root_units before root) page × Has (root_units later made) copy.0)
  pub each : AllByRecursion (HasCopy after) (root_high_leaves g dense before root)
  pub sound : (level page : ℕ) (copy : PageNo) → Has (root_units before root) page → after page ≡ Some copy → IsNamed g before level page → IsSoundPair g later (used_at new.units) dense level page copy.0
  pub sent : (level page : ℕ) (copy : PageNo) → Has (root_units before root) page → after page ≡ Some copy → IsNamed g before level page → IsSent g dense before after level page
  pub copies_apart : (level page : ℕ) (copy : PageNo) → Has (root_units before root) page → after page ≡ Some copy → IsNamed g before level page
      → AllByRecursion (λ u. Contains pages u → ⊥) (units_on later level copy.0)
  pub of_pages : free_count old.geometry (used_at old.units) Page + unmoved after (each_once (root_nodes_above g dense before root)) ≤ free_count old.geometry (used_at new.units) Page + unmoved moves (each_once (root_nodes_above g dense before root))
  pub of_segs : free_count old.geometry (used_at old.units) Segment + unmoved after (each_once (root_high_leaves g dense before root)) ≡ free_count old.geometry (used_at new.units) Segment + unmoved moves (each_once (root_high_leaves g dense before root))

-- Over the later disk the working pages are a volume of the same table, with the same catalog and pages, in which the version has the root that came. With that
-- counted, the roots of this volume and the one that went own what is in use, and both trees are whole at home.
pub record WorkingMoved (new : VolumeState) (d : Decoded) (disk later : List ℕ) (version : LargeVersion) (made : Root) : Type 0 where
  pub now : Volume
  pub parts : AllByRecursion (HoldsOf d.geometry [] (working_units d later new.meta.working) now) content_parts
  pub table : table_of (working_units d later new.meta.working) now ≡ table_of (units_of d disk) d.volume
  pub catalog : now.catalog ≡ d.volume.catalog
  pub page : working_units d later new.meta.working catalog_no ≡ units_of d disk catalog_no
  pub pages : file_pages now ≡ file_pages d.volume
  pub turns : TurnsRecord d.volume now version.oid version.root made
  pub held : (page : ℕ) → (is_held new.pages page ≡ true) ↔ Contains (catalog_no ∷ file_pages now) page
  -- no page of it is in a tree
  pub no_tree : (u : ℕ) → Contains (catalog_no ∷ file_pages now) u → Contains (flat_map (root_units (working_units d later new.meta.working)) (roots_in (stored_in now))) u → ⊥
  pub whole : IsWhole d.geometry (home d.geometry later) version.root
  pub room : (u : ℕ) → 1 ≤ times u (root_pages (made ∷ [])) → IsUnit new.units.geometry u × (used_at new.units u ≡ true) × (refs_at new.units u < refs_most)
  pub owned : (refs : ℕ → ℕ) → ((u : ℕ) → refs u ≡ refs_at new.units u + times u (root_pages (made ∷ [])))
      → IsOwned d.geometry (home d.geometry later) (used_at new.units) refs (catalog_no ∷ file_pages now) (root_pages (version.root ∷ []) ++ root_pages (roots_in (stored_in now)))

-- The tree of a version of a volume at rest was moved in the working pages. What is committed is as it was. Where the tree has another root then, the working
-- pages are a volume with that; else the volume is at rest.
pub record MovesWorking (w x : Outside) (old new : VolumeState) (d : Decoded) (disk : List ℕ) (dense : ℕ) (moves after : Copies) (version : LargeVersion) (made : Root) : Type 0 where
  pub moved : Moved NoUnit w x old new
  pub told : Tells x new.groups
  pub later : List ℕ
  pub holds : x.disk ≡ Some later
  pub still : StillCommitted (StaysUsed NoUnit (used_at old.units)) (StaysUsed NoUnit (used_at new.units)) d disk x.images later old.log old.meta.committed
  pub tree : TreeMoved d.geometry dense (catalog_no ∷ file_pages d.volume) (units_of d disk) (home d.geometry later) old new moves after version.root made
  pub same_pages : new.pages ≡ old.pages
  pub turned : (made ≡ version.root → ⊥) → WorkingMoved new d disk later version made
  pub rests : made ≡ version.root → IsAtRest x new d later

-- The working pages are those of a version that was moved, and that has another root then.
pub record MaySettle (w x : Outside) (old mid : VolumeState) (d : Decoded) (disk : List ℕ) (dense : ℕ) (moves after : Copies) (version : LargeVersion) (gone come : Root) : Type 0 where
  pub rests : IsAtRest w old d disk
  pub works : MovesWorking w x old mid d disk dense moves after version come
  pub root : gone ≡ version.root
  pub differ : come ≡ gone → ⊥

-- ---- through a port

-- A port found the version, and moved it as it stood then.
pub record FindsAndMoves {S : Type 0} (g : ground.Ghosts S) (old new : S) (version : LargeVersion) (dense : ℕ) (moves after : Copies) (made : Root) : Type 0 where
  pub mid : S
  pub read : Keeps g old mid
  pub moved : g.tells old → (at index : Index) (head : Head) (bytes : List ℕ) → HasRecord g old at version.oid (record { head = head; content = Large version.root }) → AreInUse g mid
      → HasVersion g mid index version.oid head (Large version.root) bytes → MayMove g mid dense moves version.root → CopiesAreAway g mid moves (root_units (g.unit mid) version.root)
      → VersionMoved g mid new index version.oid head dense moves after version.root made bytes

-- A port found the version damaged, or not as it was listed: it stands in no whole file, or it may not be moved.
pub record FindsDamage {S : Type 0} (g : ground.Ghosts S) (old : S) (version : LargeVersion) (dense : ℕ) (moves : Copies) : Type 0 where
  pub mid : S
  pub read : Keeps g old mid
  pub never : g.tells old → (at index : Index) (head : Head) (bytes : List ℕ) → HasRecord g old at version.oid (record { head = head; content = Large version.root }) → HasFileOf g old version.oid.page.0
      → IsReadable g old (place_of version.oid) → AreInUse g mid → HasVersion g mid index version.oid head (Large version.root) bytes → MayMove g mid dense moves version.root → ⊥

-- ---- the parts that a port is made over

-- the volume with other parts that a port changes
abbrev pub with_parts : VolumeState → UnitSet → List Frames → Overlays → LoggedSet → VolumeState
with_parts v units groups meta pages = record v { units = units; groups = groups; meta = meta; pages = pages }

-- The parts are those of the volume.
pub record HasParts (v : VolumeState) (g : Geometry) (u : UnitSet) (f : List Frames) (m : Overlays) (k : LoggedSet) : Type 0 where
  pub geometry : g ≡ v.geometry
  pub units : u ≡ v.units
  pub groups : f ≡ v.groups
  pub meta : m ≡ v.meta
  pub pages : k ≡ v.pages
