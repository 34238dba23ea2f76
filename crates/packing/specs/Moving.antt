-- What is made of a version whose tree is moved.
use Rattle.std.specs.Prelude.{◌≡◌, ℕ, false, List, Some}
use Rattle.std.specs.List.{AllByRecursion}
use Rattle.ex_base.specs.declared.ground.Ground as ground
use Rattle.ex_base.specs.declared.names.Index.{Index}
use Rattle.ex_base.specs.declared.names.Oid.{Oid}
use Rattle.ex_base.specs.declared.names.PageNo.{PageNo}
use Rattle.ex_base.specs.declared.names.Place.{Place}
use Rattle.ex_base.specs.declared.names.Root.{Root}
use Rattle.object_records.specs.Record.{Large}
use Rattle.object_records.specs.declared.Head.{Head}
use Rattle.trees.specs.Made.{Extends, Has}
use Rattle.trees.specs.Trees.{IsNamed, root_units, units_on}
use Rattle.versions.specs.Versions.{HasVersion}
use Rattle.compact.specs.Moved.{Copies, IsMoved}
use Rattle.volume_model.specs.Volume.{Volume}
use Rattle.volume_moves.specs.Moves.{InstallsRoot, IsObjectUnit}

-- No unit of the copy that one of these units has is a logged page.
abbrev pub CopiesAreAway : {S : Type 0} → ground.Ghosts S → S → Copies → List ℕ → Type 0
CopiesAreAway g s moves units = (level page : ℕ) (copy : PageNo) → Has units page → moves page ≡ Some copy → IsNamed (g.geometry s) (g.unit s) level page
    → AllByRecursion (λ p. g.held s p ≡ false) (units_on (g.unit s) level copy.0)

-- The tree of a version was moved, and the version has the same bytes. Its record has the new root where that is another one; else units were taken at most. No
-- logged page is taken or given back.
pub record VersionMoved {S : Type 0} (g : ground.Ghosts S) (old new : S) (index : Index) (oid : Oid) (head : Head) (dense : ℕ) (moves after : Copies) (root made : Root) (bytes : List ℕ) : Type 0 where
  pub tree : IsMoved g old new dense moves after root made
  pub version : HasVersion g new index oid head (Large made) bytes
  pub installs : (made ≡ root → ⊥) → InstallsRoot g old new index oid head made bytes
  pub stays : made ≡ root → Extends g old new
  pub held : g.held new ≡ g.held old

-- The copy that a unit of the tree of a root has is over units that are in no tree of another object than that at the place.
abbrev pub CopiesAreOwn : {S : Type 0} → ground.Ghosts S → S → Volume → Place → Copies → Root → Type 0
CopiesAreOwn g s v place moves root = (level page : ℕ) (copy : PageNo) → Has (root_units (g.unit s) root) page → moves page ≡ Some copy → IsNamed (g.geometry s) (g.unit s) level page
    → AllByRecursion (IsObjectUnit g s v place root) (units_on (g.unit s) level copy.0)
