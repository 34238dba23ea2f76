-- How the contents of versions lie after an update: whether a version is small or large, and of which shape its tree is.
use Rattle.std.specs.Prelude.{◌≡◌, ◌≤◌, ◌↔◌, ℕ, List, [], true, None, slice_index_or, ⊤}
use Rattle.ex_base.specs.declared.geometry.Geometry.{Geometry}
use Rattle.ex_base.specs.declared.ground.Ground as ground
use Rattle.ex_base.specs.declared.names.Oid.{Oid}
use Rattle.disk_model.specs.Outside.{Outside}
use Rattle.meta_pages.specs.Overlays.{Overlays}
use Rattle.tree_store.specs.Stored.{unit_bytes}
use Rattle.slotted_pages.specs.FilePage.{body_of}
use Rattle.slotted_pages.specs.Edits.{slots_of}
use Rattle.object_records.specs.Record.{Content, Small}
use Rattle.object_records.specs.Reads.{content_on}
use Rattle.trees.specs.Trees.{Units}
use Rattle.versions.specs.Found.{size_of}
use Rattle.versions.specs.Versions.{Change, HasShape, IsSmall, count_of}
use Rattle.volume_edits.specs.TableUpdates.{TableUpdate, Makes, Changes, Freezes, Derives}
use Rattle.volume_port.specs.Ported.{image_over}
use Rattle.session_core.specs.Meant.{fits_small}
use Rattle.session_core.specs.Sessions.{SessionState}

-- ---- where contents lie

-- the pages of a volume: the images of the logged ones, and the bytes of the units of its trees
pub record VolumePages : Type 0 where
  pub geometry : Geometry
  pub image : ℕ → List ℕ
  pub units : Units

-- as a port has them
abbrev pub pages_in : {S : Type 0} → ground.Ghosts S → S → VolumePages
pages_in g s = record { geometry = g.geometry s; image = g.image s; units = g.unit s }

-- as these images lie over the disk
abbrev pub pages_over : Geometry → Overlays → Outside → VolumePages
pages_over g meta w = record { geometry = g; image = image_over g meta (unit_bytes g w.disk); units = unit_bytes g w.disk }

-- as a session has them
abbrev pub pages_on : Outside → SessionState → VolumePages
pages_on w s = pages_over s.geometry s.meta w

-- the content of the record where an OID leads: its bytes, or the root of its tree
abbrev pub content_there : VolumePages → Oid → Content
content_there p oid = content_on (body_of (slice_index_or (slots_of (p.image oid.page.0)) oid.slot None))

-- ---- what an update makes of them

-- An edit of no bytes leaves the content of a version. After another one it is small exactly where it was and the record of its bytes fits its page beside
-- the others; else its tree has the shape that an insert, an append or a replace gives it, or one append of all its bytes where it was small.
pub record EditShaped (old new : VolumePages) (oid : Oid) (change : Change) : Type 0 where
  pub nothing : count_of change ≡ 0 → content_there new oid ≡ content_there old oid
  pub small : 1 ≤ count_of change
      → IsSmall (content_there new oid) ↔ (fits_small old.geometry.page_size (slots_of (old.image oid.page.0)) (size_of (content_there new oid)) (content_there old oid) ≡ true)
  pub shape : 1 ≤ count_of change → HasShape old.geometry change old.units new.units (content_there old oid) (size_of (content_there new oid)) (content_there new oid)

-- A version that is copied keeps its content, root and all, and its copy has the same.
pub record CopyShaped (old new : VolumePages) (oid made : Oid) : Type 0 where
  pub kept : content_there new oid ≡ content_there old oid
  pub shared : content_there new made ≡ content_there old oid

-- the same of an update that makes, changes or removes the version with this OID; a new object is small
abbrev pub Shaped : VolumePages → VolumePages → TableUpdate → Oid → Type 0
Shaped old new (Makes name file_no unique) made = content_there new made ≡ Small []
Shaped old new (Changes oid change) made = EditShaped old new oid change
Shaped old new (Freezes oid unique) made = CopyShaped old new oid made
Shaped old new (Derives oid unique) made = CopyShaped old new oid made
Shaped old new u made = ⊤
