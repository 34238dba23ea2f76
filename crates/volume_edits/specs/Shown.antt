-- A version of a volume's table, as the port has it.
use Rattle.std.specs.Prelude.{◌≡◌, false}
use Rattle.std.specs.List.{AllByRecursion}
use Rattle.ex_base.specs.declared.ground.Ground as ground
use Rattle.ex_base.specs.declared.names.Oid.{Oid}
use Rattle.ex_base.specs.declared.names.Index.{Index}
use Rattle.object_records.specs.Record.{Content, Small, Large}
use Rattle.object_records.specs.declared.Head.{Head}
use Rattle.trees.specs.Trees.{Units, root_shape}
use Rattle.version_lists.specs.declared.version.Version.{Version}
use Rattle.versions.specs.Versions.{HasRecord, HasVersion, Spells, content_units}
use Rattle.volume_model.specs.Volume.{is_frozen}
use Rattle.volume_edits.specs.Ported.{units_in}

-- the tree of a large content has the same shape over both
abbrev pub SameShape : Units → Units → Content → Type 0
SameShape a b (Small bytes) = Unit {0}
SameShape a b (Large root) = root_shape a root ≡ root_shape b root

-- A file of the port has the record of the version under the OID, which is frozen where the version is and whose content spells the version's bytes.
-- The tree of a large one has the shape that it has in the volume, and no unit of it is a logged page.
pub record ReadsVersion {S : Type 0} (g : ground.Ghosts S) (s : S) (oid : Oid) (version : Version) : Type 0 where
  pub index : Index
  pub head : Head
  pub content : Content
  pub stored : HasRecord g s index oid (record { head = head; content = content })
  pub frozen : is_frozen head.state ≡ version.frozen
  pub spells : Spells (g.geometry s) (g.unit s) content version.bytes
  pub apart : AllByRecursion (λ unit. g.held s unit ≡ false) (content_units (g.unit s) content)
  pub shape : SameShape (units_in g s) (g.unit s) content
  pub named : version.oid ≡ oid

-- The version stands under the OID in a file of the port, over units in use.
pub record HasShown {S : Type 0} (g : ground.Ghosts S) (s : S) (oid : Oid) (version : Version) : Type 0 where
  pub index : Index
  pub head : Head
  pub content : Content
  pub stands : HasVersion g s index oid head content version.bytes
  pub frozen : is_frozen head.state ≡ version.frozen
  pub named : version.oid ≡ oid
