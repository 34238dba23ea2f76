-- How an edit counts the units that its new nodes name.
use Rattle.std.specs.Prelude.{◌≡◌, ℕ, ◌+◌, ◌≤◌, true, false, List, map}
use Rattle.std.specs.List.{AllByRecursion}
use Rattle.ex_base.specs.declared.geometry.Geometry.{Geometry}
use Rattle.ex_base.specs.declared.ground.Ground as ground
use Rattle.ex_base.specs.Area.{InPageArea, IsUnit}
use Rattle.ex_base.specs.Ports.{times, refs_most}
use Rattle.trees.specs.declared.Pair.{Pair}
use Rattle.trees.specs.Names.{page_of_pair}
use Rattle.trees.specs.Node.{PairsOf}
use Rattle.trees.specs.Made.{IsTaken}
use Rattle.trees.specs.Owners.{all_named}

-- what a node names, as the port counts it, are the pages of its pairs
abbrev pub NamesPairs : {S : Type 0} → ground.Ghosts S → Type 0
NamesPairs g = (geo : Geometry) (page : List ℕ) (level : ℕ) (pairs : List Pair) → PairsOf geo.fan page level pairs
    → g.names geo page ≡ map page_of_pair pairs

-- Each of these nodes is a page that was taken, none is listed twice, and they are all pages that were
-- taken and are no logged page. Each unit has a reference more for each time that one of them names it,
-- and no other one, as long as its count holds so many.
pub record Counted {S : Type 0} (g : ground.Ghosts S) (old new : S) : Type 0 where
  pub nodes : List ℕ
  pub taken : AllByRecursion (IsTaken g old new) nodes
  pub pages : AllByRecursion (InPageArea (g.geometry old)) nodes
  pub once : (p : ℕ) → times p nodes ≤ 1
  pub all : (p : ℕ) → IsTaken g old new p → InPageArea (g.geometry old) p → g.held new p ≡ false
      → 1 ≤ times p nodes
  pub refs : (p : ℕ) → g.refs old p + times p (all_named (g.unit new) nodes) ≤ refs_most
      → g.refs new p ≡ g.refs old p + times p (all_named (g.unit new) nodes)

-- a unit that has references is one, and in use
pub record HasCounts {S : Type 0} (g : ground.Ghosts S) (s : S) : Type 0 where
  pub used : (p : ℕ) → 1 ≤ g.refs s p → g.used s p ≡ true
  pub named : (p : ℕ) → 1 ≤ g.refs s p → IsUnit (g.geometry s) p
