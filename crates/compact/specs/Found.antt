-- What the count of the nodes that lead to high leaves knows.
use Rattle.std.specs.Prelude.{◌≡◌, ℕ, ◌≤◌, Bool, true, false, List, [], ◌∷◌, ◌++◌, Option, Some, nat_eq}
use Rattle.std.specs.List.{AllByRecursion, flat_map}
use Rattle.std.specs.HashMap.{get}
use Rattle.ex_base.specs.declared.geometry.Geometry.{Geometry}
use Rattle.ex_base.specs.Ports.{times}
use Rattle.trees.specs.Made.{Has}
use Rattle.trees.specs.Trees.{Units, IsNamed}
use Rattle.compact.specs.High.{any_of, has_high, nodes_above}
use Rattle.compact.specs.declared.high.Found.{Found}

-- whether a node that was seen leads to a high leaf
abbrev pub seen_in : Found → ℕ → Option Bool
seen_in found = get nat_eq found.seen

-- the list with a node, where that leads to a high leaf
abbrev pub with_node : Bool → List ℕ → ℕ → List ℕ
with_node true above page = above ++ page ∷ []
with_node false above page = above

-- Nodes were seen, each as what it is. Those that lead to a high leaf are listed, each once, with those below them; all are among these nodes.
pub record IsFound (g : Geometry) (dense : ℕ) (units : Units) (seen : ℕ → Option Bool) (above nodes : List ℕ) : Type 0 where
  pub once : (p : ℕ) → times p above ≤ 1
  pub marked : AllByRecursion (λ p. seen p ≡ Some true) above
  pub right : (l p : ℕ) (high : Bool) → seen p ≡ Some high → IsNamed g units l p → (high ≡ has_high g dense units l p) × AllByRecursion (Has above) (nodes_above g dense units l p)
  pub inside : AllByRecursion (Has nodes) above

-- a node that was listed stays so
abbrev pub StayListed : List ℕ → List ℕ → Type 0
StayListed above later = (p : ℕ) → Has above p → Has later p

-- The trees of a level at these pages were counted: whether one of them has a high leaf, and the nodes that lead to one.
pub record AreFound (g : Geometry) (dense : ℕ) (units : Units) (l : ℕ) (pages : List ℕ) (high : Bool) (seen : ℕ → Option Bool) (above nodes : List ℕ) : Type 0 where
  pub is : high ≡ any_of (has_high g dense units l) pages
  pub listed : AllByRecursion (Has above) (flat_map (nodes_above g dense units l) pages)
  pub found : IsFound g dense units seen above nodes

-- Trees of a level can be counted, of which these are the nodes that lead to high leaves.
pub record CanCount (g : Geometry) (dense : ℕ) (units : Units) (l : ℕ) (pages : List ℕ) (seen : ℕ → Option Bool) (above nodes : List ℕ) : Type 0 where
  pub named : AllByRecursion (IsNamed g units l) pages
  pub nodes_in : AllByRecursion (Has nodes) (flat_map (nodes_above g dense units l) pages)
  pub found : IsFound g dense units seen above nodes
