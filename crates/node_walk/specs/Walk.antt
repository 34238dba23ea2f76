-- What the walk of a tree knows of the units that it met.
use Rattle.std.specs.Prelude.{◌≡◌, ◌⊎◌, ◌↔◌, ℕ, zero, suc, ◌/◌, ◌≤◌, Bool, true, false, List, [], ◌∷◌, length, Option, Some, None, nat_eq, Contains}
use Rattle.std.specs.List.{AllByRecursion}
use Rattle.ex_base.specs.declared.geometry.Geometry.{Geometry}
use Rattle.ex_base.specs.declared.names.PageNo.{PageNo}
use Rattle.ex_base.specs.declared.names.Root.{Root}
use Rattle.ex_base.specs.Sizes.{leaf_bytes, object_most}
use Rattle.trees.specs.Node.{PairsOf, pairs_on, total_of}
use Rattle.page_alloc.specs.UnitSet.{UnitSet, used_at, refs_at}
use Rattle.trees.specs.Owners.{StandsAt}
use Rattle.trees.specs.Trees.{Units, IsNamed}
use Rattle.trees.specs.declared.rows.Part.{Part}
use Rattle.trees.specs.Rows.{parts_of, row_units}
use Rattle.node_walk.specs.declared.nodes.Met.{Met}
use Rattle.node_walk.specs.declared.least.Least.{Least}

-- the notes of a tree's units, by the numbers that name them
abbrev pub Notes : Type 0
Notes = ℕ → Option Met

-- the level below; 0 stays
abbrev pub level_below : ℕ → ℕ
level_below zero = zero
level_below (suc l) = l

-- the trees below a root of this level
abbrev pub row_at : Units → ℕ → ℕ → List Part
row_at units zero page = []
row_at units (suc l) page = parts_of 0 (pairs_on (units page))

-- the page is a node as it is noted, over these trees
pub record IsNodeOn (fan : ℕ) (page : List ℕ) (met : Met) (below : List Part) : Type 0 where
  pub fits : PairsOf fan page met.level (pairs_on page)
  pub total : met.total ≡ total_of (pairs_on page)
  pub pairs : met.pairs ≡ length (pairs_on page)
  pub below_is : below ≡ parts_of 0 (pairs_on page)

-- The note says what stands at the page.
pub record IsNoted (g : Geometry) (units : Units) (page : ℕ) (met : Met) : Type 0 where
  pub at : StandsAt g units met.level page
  pub total : 1 ≤ met.level → met.total ≡ total_of (pairs_on (units page))
  pub pairs : 1 ≤ met.level → met.pairs ≡ length (pairs_on (units page))

abbrev pub AreNoted : Geometry → Units → Notes → Type 0
AreNoted g units known = (p : ℕ) (met : Met) → known p ≡ Some met → IsNoted g units p met

-- the unit has a note
abbrev pub IsKnown : Notes → ℕ → Type 0
IsKnown known page = (met : Met) × (known page ≡ Some met)

-- the unit has a note of this level
abbrev pub IsMet : Notes → ℕ → ℕ → Type 0
IsMet known level page = (met : Met) × (known page ≡ Some met) × (met.level ≡ level)

-- the least of a tree below a node
abbrev pub below_least : Geometry → Least
below_least g = record { pairs = g.fan; bytes = leaf_bytes g / 2 }

-- the least of a root: so many pairs where it is a node, and so many bytes where it is a leaf
abbrev pub root_least : Least
root_least = record { pairs = 2; bytes = 1 }

-- A leaf of so many bytes, or a node of them, has its least.
pub record IsAsked (g : Geometry) (least : Least) (met : Met) (size : ℕ) : Type 0 where
  pub leaf : met.level ≡ 0 → (least.bytes ≤ size) × (size ≤ leaf_bytes g)
  pub node : 1 ≤ met.level → (met.total ≡ size) × (least.pairs ≤ met.pairs)

-- A tree's root has its least, and a node the bytes that are asked.
abbrev pub HasLeast : Geometry → Units → Least → ℕ → Part → Type 0
HasLeast g units least zero part = (least.bytes ≤ part.size) × (part.size ≤ leaf_bytes g)
HasLeast g units least (suc l) part = (total_of (pairs_on (units part.page.0)) ≡ part.size) × (least.pairs ≤ length (pairs_on (units part.page.0)))

-- The same of each node and leaf of a tree, with the least of a tree below a node.
abbrev pub IsFull : Geometry → Units → Least → ℕ → Part → Type 0
IsFull g units least zero part = HasLeast g units least zero part
IsFull g units least (suc l) part = HasLeast g units least (suc l) part × AllByRecursion (IsFull g units (below_least g) l) (parts_of 0 (pairs_on (units part.page.0)))

-- A unit that was met in a walk: it was free, it is one of the walked trees, and what it names was met. Where the walk found all balanced, it names what
-- has its least.
pub record IsNew (g : Geometry) (units : Units) (level : ℕ) (row : List Part) (used after : ℕ → Bool) (known : Notes) (balanced : Bool) (page : ℕ) (met : Met) : Type 0 where
  pub free : used page ≡ false
  pub taken : after page ≡ true
  pub inside : Contains (row_units units level row) page
  pub below : AllByRecursion (λ (part : Part). IsMet known (level_below met.level) part.page.0) (row_at units met.level page)
  pub asked : balanced ≡ true → AllByRecursion (HasLeast g units (below_least g) (level_below met.level)) (row_at units met.level page)

-- Trees of one level side by side were walked, from one set of units in use and of notes to another, and this was found of their balance.
pub record Walked (g : Geometry) (units : Units) (level : ℕ) (least : Least) (row : List Part) (used : ℕ → Bool) (known : Notes) (after : ℕ → Bool) (noted : Notes) (balanced : Bool) : Type 0 where
  pub notes : AreNoted g units noted
  pub kept : (p : ℕ) (met : Met) → known p ≡ Some met → noted p ≡ Some met
  pub fresh : (p : ℕ) (met : Met) → noted p ≡ Some met → (known p ≡ Some met) ⊎ IsNew g units level row used after noted balanced p met
  pub used_then : (p : ℕ) → after p ≡ true → (used p ≡ true) ⊎ IsKnown noted p
  pub still_used : (p : ℕ) → used p ≡ true → after p ≡ true
  pub met : AllByRecursion (λ (part : Part). IsMet noted level part.page.0) row
  pub asked : balanced ≡ true → AllByRecursion (HasLeast g units least level) row
  pub thin : balanced ≡ false → AllByRecursion (IsFull g units least level) row → ⊥

-- Trees are well formed, and each of their units that is in use has a note.
pub record CanWalk (g : Geometry) (units : Units) (used : ℕ → Bool) (known : Notes) (level : ℕ) (row : List Part) : Type 0 where
  pub named : AllByRecursion (λ (part : Part). IsNamed g units level part.page.0) row
  pub own : (p : ℕ) → Contains (row_units units level row) p → used p ≡ true → IsKnown known p

-- A unit was met again: nothing changes, and nothing is left below it.
pub record MetAgain (level page : ℕ) (met : Met) (below : List Part) (used : ℕ → Bool) (known : Notes) (after : ℕ → Bool) (noted : Notes) : Type 0 where
  pub known_as : known page ≡ Some met
  pub level_is : met.level ≡ level
  pub same_notes : noted ≡ known
  pub same_units : after ≡ used
  pub nothing : below ≡ []

-- A unit that can be the root of a tree of this level, and is free.
pub record IsFirst (g : Geometry) (units : Units) (level page : ℕ) (met : Met) (below : List Part) (used : ℕ → Bool) : Type 0 where
  pub free : used page ≡ false
  pub level_is : met.level ≡ level
  pub note : IsNoted g units page met
  pub below_is : below ≡ row_at units level page

-- A unit was met for the first time: it is in use, with a note.
pub record MetFirst (g : Geometry) (units : Units) (level page : ℕ) (met : Met) (below : List Part) (used : ℕ → Bool) (known : Notes) (after : ℕ → Bool) (noted : Notes) : Type 0 where
  pub first : IsFirst g units level page met below used
  pub unknown : known page ≡ None
  pub noted_as : noted page ≡ Some met
  pub other_notes : (q : ℕ) → nat_eq page q ≡ false → noted q ≡ known q
  pub taken : after page ≡ true
  pub other_units : (q : ℕ) → nat_eq page q ≡ false → after q ≡ used q

abbrev pub Meets : Geometry → Units → ℕ → ℕ → Met → List Part → (ℕ → Bool) → Notes → (ℕ → Bool) → Notes → Type 0
Meets g units level page met below used known after noted =
    MetAgain level page met below used known after noted ⊎ MetFirst g units level page met below used known after noted

-- the tree of a root, where it has one
abbrev pub row_here : ℕ → Option PageNo → List Part
row_here size None = []
row_here size (Some page) = record { size = size; page = page } ∷ []

abbrev pub root_row : Root → List Part
root_row root = row_here root.size root.page

-- The tree of a root was walked. It is balanced as far as it wasn't met before, and not above the largest size.
pub record RootWalked (g : Geometry) (units : Units) (root : Root) (used : ℕ → Bool) (known : Notes) (after : ℕ → Bool) (noted : Notes) (balanced : Bool) : Type 0 where
  pub full : Bool
  pub walked : Walked g units root.height root_least (root_row root) used known after noted full
  pub is : (balanced ≡ true) ↔ ((full ≡ true) × (root.size ≤ object_most))

-- The notes of an object stay where it is the same one, and else there are none.
pub record TurnsTo (was : ℕ) (known : Notes) (now : ℕ) (noted : Notes) : Type 0 where
  pub same : was ≡ now → noted ≡ known
  pub other : (was ≡ now → ⊥) → (page : ℕ) → noted page ≡ None

-- no unit in use is given back
abbrev pub StayUsed : UnitSet → UnitSet → Type 0
StayUsed before after = (unit : ℕ) → used_at before unit ≡ true → used_at after unit ≡ true

-- The references and the geometry of the units stay, and no unit in use is given back.
pub record OnlyUses (before after : UnitSet) : Type 0 where
  pub geometry : after.geometry ≡ before.geometry
  pub stays : StayUsed before after
  pub refs : refs_at after ≡ refs_at before
