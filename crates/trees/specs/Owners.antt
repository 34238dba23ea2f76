-- Who owns the units of trees: the roots that name them, and the nodes in use that name them.
use Rattle.std.specs.Prelude.{◌≡◌, ◌↔◌, ℕ, zero, suc, ◌+◌, ◌≤◌, Bool, true, List, [], ◌∷◌, map, Option, Some, None}
use Rattle.std.specs.List.{flat_map, AllByRecursion}
use Rattle.ex_base.specs.declared.geometry.Geometry.{Geometry}
use Rattle.ex_base.specs.declared.names.PageNo.{PageNo}
use Rattle.ex_base.specs.declared.names.Root.{Root}
use Rattle.ex_base.specs.Area.{InPageArea, NamesLeaf}
use Rattle.ex_base.specs.Ports.{times}
use Rattle.trees.specs.Names.{page_of_pair}
use Rattle.trees.specs.Node.{PairsOf, pairs_on}
use Rattle.trees.specs.Trees.{Units}

-- the units that a node names, each as often as it names it
abbrev pub named_on : Units → ℕ → List ℕ
named_on units page = map page_of_pair (pairs_on (units page))

-- the units that nodes name
abbrev pub all_named : Units → List ℕ → List ℕ
all_named units nodes = flat_map (named_on units) nodes

-- a tree of this level may have its root there: a leaf, or a node of this level in the grammar
abbrev pub StandsAt : Geometry → Units → ℕ → ℕ → Type 0
StandsAt g units zero unit = NamesLeaf g unit
StandsAt g units (suc level) unit = InPageArea g unit × PairsOf g.fan (units unit) (suc level) (pairs_on (units unit))

-- An inner node. What it names stands one level lower.
pub record IsInner (g : Geometry) (units : Units) (page : ℕ) : Type 0 where
  pub level : ℕ
  pub stands : StandsAt g units (suc level) page
  pub below : AllByRecursion (StandsAt g units level) (named_on units page)

-- Each unit of a tree has as many references as it has owners: the roots that name it, and the pairs of nodes in use that name it. In use are the logged
-- pages and the units that have an owner, and no others.
pub record IsOwned (g : Geometry) (units : Units) (used : ℕ → Bool) (refs : ℕ → ℕ) (logged roots : List ℕ) : Type 0 where
  pub nodes : List ℕ
  pub inner : AllByRecursion (IsInner g units) nodes
  pub once : (page : ℕ) → times page nodes ≤ 1
  pub owners : (unit : ℕ) → refs unit ≡ times unit roots + times unit (all_named units nodes)
  pub listed : (page : ℕ) → InPageArea g page → 1 ≤ refs page → 1 ≤ times page nodes
  pub owned : (page : ℕ) → 1 ≤ times page nodes → 1 ≤ refs page
  pub in_use : (unit : ℕ) → (used unit ≡ true) ↔ (1 ≤ times unit logged + refs unit)
  pub apart : (page : ℕ) → 1 ≤ times page logged → refs page ≡ 0

abbrev pub page_here : Option PageNo → List ℕ
page_here None = []
page_here (Some page) = page.0 ∷ []

-- the pages of roots; an empty tree has none
abbrev pub root_pages : List Root → List ℕ
root_pages roots = flat_map (λ (root : Root). page_here root.page) roots
