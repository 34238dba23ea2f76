-- How a walk counts the owners of units: the roots that name them, and the pairs of nodes that name them.
use Rattle.std.specs.Prelude.{◌≡◌, ◌⊎◌, ◌↔◌, ℕ, ◌+◌, ◌≤◌, Bool, true, false, List, min}
use Rattle.std.specs.List.{AllByRecursion}
use Rattle.ex_base.specs.declared.geometry.Geometry.{Geometry}
use Rattle.ex_base.specs.Area.{InPageArea, IsUnit}
use Rattle.ex_base.specs.Ports.{times, refs_most}
use Rattle.page_alloc.specs.UnitSet.{UnitSet, used_at, refs_at, updated}
use Rattle.trees.specs.Owners.{IsInner, all_named}
use Rattle.trees.specs.Trees.{Units}
use Rattle.node_walk.specs.Walk.{Notes, IsKnown}

-- A unit that has references is in use, and counts are in their limit.
pub record AreCounted (units : UnitSet) : Type 0 where
  pub owned : (unit : ℕ) → 1 ≤ refs_at units unit → used_at units unit ≡ true
  pub few : (unit : ℕ) → refs_at units unit ≤ refs_most

-- the units in use are exactly these
abbrev pub AreUsed : (ℕ → Bool) → List ℕ → Type 0
AreUsed used pages = (unit : ℕ) → (used unit ≡ true) ↔ (1 ≤ times unit pages)

-- the counts with one more at a page, in their limit
abbrev pub counted_at : (ℕ → ℕ) → ℕ → ℕ → ℕ
counted_at refs page = updated refs page (min (refs page + 1) refs_most)

-- the unit was free, and is in use
abbrev pub Came : (ℕ → Bool) → (ℕ → Bool) → ℕ → Type 0
Came used after unit = (used unit ≡ false) × (after unit ≡ true)

-- Units came into use, and owners were counted: what has these names, and what the nodes name that came. Each page that came is such a node, listed once,
-- and each unit that came has a reference.
pub record Counts (g : Geometry) (units : Units) (names : List ℕ) (used : ℕ → Bool) (refs : ℕ → ℕ) (after : ℕ → Bool) (later : ℕ → ℕ) : Type 0 where
  pub nodes : List ℕ
  pub still : (unit : ℕ) → used unit ≡ true → after unit ≡ true
  pub once : (page : ℕ) → times page nodes ≤ 1
  pub came : (page : ℕ) → 1 ≤ times page nodes → Came used after page × InPageArea g page
  pub listed : (page : ℕ) → InPageArea g page → after page ≡ true → (used page ≡ true) ⊎ (1 ≤ times page nodes)
  pub counted : (unit : ℕ) → after unit ≡ true → (used unit ≡ true) ⊎ (1 ≤ later unit)
  pub owners : (unit : ℕ) → later unit ≡ min (refs unit + (times unit names + times unit (all_named units nodes))) refs_most

-- A walk counted trees whose roots have these names. Only units that have a note were counted.
pub record CountsMet (g : Geometry) (units : Units) (names : List ℕ) (used : ℕ → Bool) (refs : ℕ → ℕ) (after : ℕ → Bool) (later : ℕ → ℕ) (noted : Notes) : Type 0 where
  pub counts : Counts g units names used refs after later
  pub others : (unit : ℕ) → (later unit ≡ refs unit) ⊎ IsKnown noted unit

-- Whole trees were counted, whose roots have these names: each name is of a unit that came. What was in use keeps its count.
pub record CountsTrees (g : Geometry) (units : Units) (names : List ℕ) (used : ℕ → Bool) (refs : ℕ → ℕ) (after : ℕ → Bool) (later : ℕ → ℕ) : Type 0 where
  pub counts : Counts g units names used refs after later
  pub inner : AllByRecursion (IsInner g units) counts.nodes
  pub others : (unit : ℕ) → used unit ≡ true → later unit ≡ refs unit
  pub roots : (unit : ℕ) → 1 ≤ times unit names → Came used after unit × IsUnit g unit

-- Each unit that has a note is one in use, and counts hold.
pub record AreTracked (g : Geometry) (units : UnitSet) (known : Notes) : Type 0 where
  pub counted : AreCounted units
  pub noted : (unit : ℕ) → IsKnown known unit → IsUnit g unit × (used_at units unit ≡ true)
