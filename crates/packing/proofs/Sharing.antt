-- The units of a tree that was moved are free ones, or of trees of its object.
use Rattle.std.proofs.Common.{◌≡◌, ℕ, List, inl, inr}
use Rattle.ex_base.specs.declared.ground.Ground as ground
use Rattle.ex_base.specs.declared.names.Index.{Index}
use Rattle.ex_base.specs.declared.names.Oid.{Oid}
use Rattle.ex_base.specs.declared.names.Root.{Root}
use Rattle.ex_base.proofs.Each.{each_as}
use Rattle.ex_base.proofs.Members.{contains_in}
use Rattle.object_records.specs.Record.{Large}
use Rattle.object_records.specs.declared.Head.{Head}
use Rattle.op_log.specs.declared.record.LogRecord.{LogRecord}
use Rattle.trees.specs.Trees.{root_units, units_on}
use Rattle.trees.proofs.RootSteps.{has_each}
use Rattle.versions.specs.Versions.{HasVersion, place_of}
use Rattle.volume_model.specs.Volume.{Volume}
use Rattle.volume_edits.specs.Ported.{IsApart, IsVolume}
use Rattle.compact.specs.Moved.{Copies, IsOwn}
use Rattle.volume_moves.specs.Moves.{IsObjectUnit, MovesTree}
use Rattle.volume_moves.proofs.Moving.{moves_tree, unit_in}
use Rattle.packing.specs.Moving.{CopiesAreOwn, VersionMoved}

module _ {S : Type 0} (g : ground.Ghosts S) (old new : S) (records : List LogRecord) (v : Volume) (vol : IsVolume g old records v) (index : Index) (oid : Oid) (head : Head) (dense : ℕ) (moves after : Copies) (root made : Root) (bytes : List ℕ)
    (geometry : g.geometry new ≡ g.geometry old) (apart : IsApart g new) (has : HasVersion g old index oid head (Large root) bytes) (shared : CopiesAreOwn g old v (place_of oid) moves root)
    (moved : VersionMoved g old new index oid head dense moves after root made bytes) (differ : made ≡ root → ⊥) where
  object_unit : (p : ℕ) → IsOwn g old new moves (root_units (g.unit old) root) p → IsObjectUnit g old v (place_of oid) root p
  object_unit p own = elim own [
    | inl taken ↦ IsObjectUnit.free taken.0
    | inr other ↦ elim other [
      | inl mine ↦ IsObjectUnit.kept (contains_in p (root_units (g.unit old) root) (unit_in (root_units (g.unit old) root) p mine))
      | inr reached ↦ has_each (IsObjectUnit g old v (place_of oid) root) (units_on (g.unit old) reached.level reached.copy.0) p (shared reached.level reached.page reached.copy reached.inside reached.sent reached.named) reached.below
    ]
  ]

  pub tree_moves : MovesTree g old new records v oid root made
  tree_moves = moves_tree g old new records v vol index oid head root made bytes geometry apart has (moved.installs differ)
      (each_as (IsOwn g old new moves (root_units (g.unit old) root)) (IsObjectUnit g old v (place_of oid) root) (root_units (g.unit new) made) object_unit moved.tree.own)
