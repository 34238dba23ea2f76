-- What the walk of a tree that is moved knows of the trees in it.
use Rattle.std.specs.Prelude.{◌≡◌, ◌⊎◌, ℕ, zero, suc, ◌≤◌, Bool, true, false, List, [], ◌∷◌, length, take, Some}
use Rattle.std.specs.List.{AllByRecursion, AllZip}
use Rattle.ex_base.specs.declared.geometry.Geometry.{Geometry}
use Rattle.ex_base.specs.declared.ground.Ground as ground
use Rattle.ex_base.specs.declared.names.Area.TheVariants.{Page, Segment}
use Rattle.ex_base.specs.declared.names.PageNo.{PageNo}
use Rattle.ex_base.specs.Area.{NamesLeaf}
use Rattle.ex_base.specs.Ports.{IsLowest, times}
use Rattle.ex_base.specs.Sizes.{leaf_bytes}
use Rattle.trees.specs.Built.{Built}
use Rattle.trees.specs.Counted.{Counted, NamesPairs}
use Rattle.trees.specs.Damage.{AvoidsCatalog, AnyPart}
use Rattle.trees.specs.Made.{AreUsed, Extends, Has, IsTaken, Spent, Took}
use Rattle.trees.specs.Rows.{row_units}
use Rattle.trees.specs.Shape.{Subtree, IsHalfFull}
use Rattle.trees.specs.Trees.{IsNamed, HasSize, shape_on, units_on}
use Rattle.trees.specs.declared.rows.Part.{Part}
use Rattle.compact.specs.High.{has_high, nodes_above, high_leaves, free_below}
use Rattle.compact.specs.Moved.{Copies, IsSoundPair, IsSent, IsOwn, IsCopyOf, IsPaid, unmoved}

-- A move of a tree: the state and the copies that it began with, the units of its tree, and the nodes and leaves of it that were to copy.
pub record Move (S : Type 0) : Type 0 where
  pub start : S
  pub first : Copies
  pub units : List ℕ
  pub nodes : List ℕ
  pub leaves : List ℕ

-- leaves, each of them once
pub record AreLeaves (g : Geometry) (leaves : List ℕ) : Type 0 where
  pub named : AllByRecursion (NamesLeaf g) leaves
  pub once : (p : ℕ) → times p leaves ≤ 1

-- ---- what is moved

-- a node of at least so many trees, each at least half full
abbrev pub HasLeast : ℕ → ℕ → ℕ → (h : ℕ) → Subtree h → Type 0
HasLeast fan full least zero leaf = Unit {0}
HasLeast fan full least (suc h) trees = (least ≤ length trees) × AllByRecursion (IsHalfFull fan full h) trees

-- A tree of the move, with its numbers of children, over used units.
pub record IsTreeOf {S : Type 0} (g : ground.Ghosts S) (move : Move S) (dense : ℕ) (s : S) (l least : ℕ) (part : Part) : Type 0 where
  pub named : IsNamed (g.geometry s) (g.unit s) l part.page.0
  pub sized : HasSize (g.geometry s) (g.unit s) l part.page.0 part.size
  pub enough : HasLeast (g.geometry s).fan (leaf_bytes (g.geometry s)) least l (shape_on (g.unit s) l part.page.0 part.size)
  pub used : AreUsed (g.used s) (units_on (g.unit s) l part.page.0)
  pub begun : AreUsed (g.used move.start) (units_on (g.unit s) l part.page.0)
  pub avoids : AvoidsCatalog (units_on (g.unit s) l part.page.0)
  pub units : AllByRecursion (Has move.units) (units_on (g.unit s) l part.page.0)
  pub nodes : AllByRecursion (Has move.nodes) (nodes_above (g.geometry s) dense (g.unit s) l part.page.0)
  pub leaves : AllByRecursion (Has move.leaves) (high_leaves (g.geometry s) dense (g.unit s) l part.page.0)

-- A sound pair, over units that the move may have in its tree. Each high leaf of the tree that has the copy has one too, and each node that leads to one.
pub record IsGoodPair {S : Type 0} (g : ground.Ghosts S) (move : Move S) (dense : ℕ) (s : S) (moves : Copies) (level page copy : ℕ) : Type 0 where
  pub sound : IsSoundPair (g.geometry s) (g.unit s) (g.used s) dense level page copy
  pub own : AllByRecursion (IsOwn g move.start s move.first move.units) (units_on (g.unit s) level copy)
  pub sent : IsSent (g.geometry s) dense (g.unit s) moves level page

-- each copy of a tree that stood at the start is good
abbrev pub AreGood : {S : Type 0} → ground.Ghosts S → Move S → ℕ → S → Copies → Type 0
AreGood g move dense s moves = (level page : ℕ) (copy : PageNo) → Has move.units page → moves page ≡ Some copy
    → IsNamed (g.geometry move.start) (g.unit move.start) level page → AreUsed (g.used move.start) (units_on (g.unit move.start) level page)
    → IsGoodPair g move dense s moves level page copy.0

-- there is room for what is still to copy
pub record HasRoom {S : Type 0} (g : ground.Ghosts S) (move : Move S) (dense : ℕ) (s : S) (moves : Copies) : Type 0 where
  pub pages : unmoved moves move.nodes ≤ g.free s Page
  pub leaves : unmoved moves move.leaves ≤ g.free s Segment
  pub low : unmoved moves move.leaves ≤ free_below (g.geometry s) (g.used s) dense

-- Trees of the move that can be moved.
pub record CanMove {S : Type 0} (g : ground.Ghosts S) (move : Move S) (dense : ℕ) (s : S) (moves : Copies) (l least : ℕ) (row : List Part) : Type 0 where
  pub since : Extends g move.start s
  pub trees : AllByRecursion (IsTreeOf g move dense s l least) row
  pub pairs : AreGood g move dense s moves
  pub leaves : AreLeaves (g.geometry s) move.leaves
  pub room : HasRoom g move dense s moves

-- ---- what comes of it

-- Trees over some units gave way to trees over others.
pub record Stepped {S : Type 0} (g : ground.Ghosts S) (move : Move S) (dense : ℕ) (old new : S) (moves after : Copies) (was now : List ℕ) : Type 0 where
  pub all : (p : ℕ) → IsTaken g old new p → Has now p
  pub copies : (p : ℕ) → IsTaken g old new p → IsCopyOf move.units after p
  pub fresh : (page : ℕ) (copy : PageNo) → after page ≡ Some copy → (moves page ≡ Some copy) ⊎ (Has was page × Has now copy.0)
  pub pairs : AreGood g move dense new after
  pub paid : IsPaid g old new dense moves after move.nodes move.leaves
  pub counts : NamesPairs g → Counted g old new

-- A tree gave way to its copy.
pub record TreeMoved {S : Type 0} (g : ground.Ghosts S) (move : Move S) (dense : ℕ) (old new : S) (moves after : Copies) (l page copy : ℕ) : Type 0 where
  pub good : IsGoodPair g move dense new after l page copy
  pub step : Stepped g move dense old new moves after (units_on (g.unit old) l page) (units_on (g.unit new) l copy)

-- A row of trees gave way to their copies. Where some is another one, the row has a high leaf.
pub record RowMoved {S : Type 0} (g : ground.Ghosts S) (move : Move S) (dense : ℕ) (old new : S) (moves after : Copies) (l : ℕ) (row made : List Part) (changed : Bool) : Type 0 where
  pub good : AllZip (λ (part copy : Part). IsGoodPair g move dense new after l part.page.0 copy.page.0) row made
  pub step : Stepped g move dense old new moves after (row_units (g.unit old) l row) (row_units (g.unit new) l made)
  pub same : changed ≡ false → made ≡ row
  pub above : changed ≡ true → AnyPart (λ (part : Part). has_high (g.geometry old) dense (g.unit old) l part.page.0 ≡ true) row

-- ---- one unit

-- A leaf was copied to the lowest free unit, and nothing else changed.
pub record LeafCopied {S : Type 0} (g : ground.Ghosts S) (old new : S) (page copy : ℕ) : Type 0 where
  pub named : NamesLeaf (g.geometry old) copy
  pub took : Took g old new (copy ∷ [])
  pub lowest : IsLowest (g.geometry old) (g.used old) Segment copy
  pub bytes : g.tells old → take (leaf_bytes (g.geometry old)) (g.unit new copy) ≡ take (leaf_bytes (g.geometry old)) (g.unit old page)
  pub spent : Spent g old new 1 0
  pub counts : Counted g old new

-- A new node stands over a row of trees.
pub record NodeMade {S : Type 0} (g : ground.Ghosts S) (old new : S) (l : ℕ) (row : List Part) (node : Part) : Type 0 where
  pub took : Took g old new (node.page.0 ∷ [])
  pub spent : Spent g old new 0 1
  pub built : Built g new l (length row ∷ []) row (node ∷ [])
  pub counts : NamesPairs g → Counted g old new
