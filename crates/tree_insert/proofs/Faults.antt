-- Which page a fault of an edit tells of.
use Rattle.std.proofs.Common.{◌≡◌, List, Option, sym, subst}
use Rattle.ex_base.specs.declared.faults.PortFault.{PortFault}
use Rattle.ex_base.specs.declared.geometry.Geometry.{Geometry}
use Rattle.ex_base.specs.declared.names.PageNo.{PageNo}
use Rattle.ex_base.specs.declared.names.Root.{Root}
use Rattle.trees.specs.Trees.{Units}
use Rattle.trees.specs.declared.rows.Part.{Part}
use Rattle.trees.specs.Damage.{IsWalkFault, IsRootFault, root_row_at}

-- a fault on the way down from a root's tree
pub root_fault : (geo : Geometry) (u : Units) (root : Root) (page : Option PageNo) (row : List Part) (fault : PortFault) → root.page ≡ page → row ≡ root_row_at root.size page → IsWalkFault geo u root.height 2 row fault → IsRootFault geo u root fault
root_fault geo u root page row fault is row_is h =
    subst (λ p. IsWalkFault geo u root.height 2 (root_row_at root.size p) fault) (sym is) (subst (λ r. IsWalkFault geo u root.height 2 r fault) row_is h)
