-- The leaves and nodes that walks of trees leave, each once.
use Rattle.std.specs.Prelude.{◌≡◌, ℕ, suc, List, Contains}
use Rattle.std.specs.List.{flat_map}
use Rattle.ex_base.specs.declared.geometry.Geometry.{Geometry}
use Rattle.ex_base.specs.declared.names.Root.{Root}
use Rattle.ex_base.specs.Area.{InPageArea}
use Rattle.trees.specs.Trees.{Units, IsNamed}
use Rattle.history_volumes.specs.Walks.{namings_left, nodes_left, root_namings, root_nodes, with_firsts, with_namings}

-- the unit of each leaf and how many of its bytes are named at most; the page of each node
pub record PlannedPieces : Type 0 where
  pub leaves : List (ℕ × ℕ)
  pub nodes : List ℕ

-- each page of the page area is as it is read
abbrev pub ShowsPages : Geometry → (ℕ → List ℕ) → Units → Type 0
ShowsPages g image units = (page : ℕ) → InPageArea g page → units page ≡ image page

-- A walk of a tree would add nothing.
pub record HasTree (units : Units) (l page : ℕ) (pieces : PlannedPieces) : Type 0 where
  pub leaves : with_namings pieces.leaves (namings_left units l page 0) ≡ pieces.leaves
  pub nodes : with_firsts pieces.nodes (nodes_left units l page) ≡ pieces.nodes

-- What a node names is there.
abbrev pub IsClosed : Geometry → Units → PlannedPieces → Type 0
IsClosed g units pieces = (page : ℕ) → Contains pieces.nodes page → (l : ℕ) → IsNamed g units (suc l) page → HasTree units (suc l) page pieces

-- A walk left these namings and nodes.
pub record Leaves (g : Geometry) (units : Units) (namings : List (ℕ × ℕ)) (pages : List ℕ) (before after : PlannedPieces) : Type 0 where
  pub leaves : after.leaves ≡ with_namings before.leaves namings
  pub nodes : after.nodes ≡ with_firsts before.nodes pages
  pub closed : IsClosed g units after

-- A walk left a tree, or that of a root.
abbrev pub LeavesTree : Geometry → Units → ℕ → ℕ → ℕ → PlannedPieces → PlannedPieces → Type 0
LeavesTree g units l page n before after = Leaves g units (namings_left units l page n) (nodes_left units l page) before after

abbrev pub LeavesRoot : Geometry → Units → Root → PlannedPieces → PlannedPieces → Type 0
LeavesRoot g units root before after = Leaves g units (root_namings units root) (root_nodes units root) before after

-- or those of roots one after the other
abbrev pub LeavesRoots : Geometry → Units → List Root → PlannedPieces → PlannedPieces → Type 0
LeavesRoots g units roots before after = Leaves g units (flat_map (root_namings units) roots) (flat_map (root_nodes units) roots) before after
