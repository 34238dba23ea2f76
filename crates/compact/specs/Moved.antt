-- What it means that a tree is moved to low units.
use Rattle.std.specs.Prelude.{◌≡◌, ◌⊎◌, ℕ, ◌+◌, ◌≤◌, Bool, false, List, [], ◌∷◌, Option, Some, None}
use Rattle.std.specs.List.{AllByRecursion}
use Rattle.ex_base.specs.declared.geometry.Geometry.{Geometry}
use Rattle.ex_base.specs.declared.ground.Ground as ground
use Rattle.ex_base.specs.declared.names.Area.TheVariants.{Page, Segment}
use Rattle.ex_base.specs.declared.names.PageNo.{PageNo}
use Rattle.ex_base.specs.declared.names.Root.{Root}
use Rattle.trees.specs.Counted.{Counted, NamesPairs}
use Rattle.trees.specs.Damage.{IsWhole}
use Rattle.trees.specs.Made.{AreUsed, Has, IsTaken}
use Rattle.trees.specs.Trees.{Units, IsNamed, HasSize, bytes_on, shape_on, units_on, RootSpells, root_shape, root_units}
use Rattle.compact.specs.High.{is_high, has_high, nodes_above, high_leaves, low_leaves, root_nodes_above, root_high_leaves, root_low_leaves, each_once, free_below}

-- the copies of units and nodes, by the numbers that name them
abbrev pub Copies : Type 0
Copies = ℕ → Option PageNo

-- each unit that has a copy keeps it
abbrev pub KeepsCopies : Copies → Copies → Type 0
KeepsCopies moves after = (page : ℕ) (copy : PageNo) → moves page ≡ Some copy → after page ≡ Some copy

-- a unit that has a copy
abbrev pub HasCopy : Copies → ℕ → Type 0
HasCopy moves page = (copy : PageNo) × (moves page ≡ Some copy)

-- Each high leaf of the tree of a level at a page has a copy, and each node that leads to one.
pub record IsSent (g : Geometry) (dense : ℕ) (units : Units) (moves : Copies) (level page : ℕ) : Type 0 where
  pub leaves : AllByRecursion (HasCopy moves) (high_leaves g dense units level page)
  pub nodes : AllByRecursion (HasCopy moves) (nodes_above g dense units level page)

-- none of the units is high
abbrev pub AreLow : Geometry → ℕ → List ℕ → Type 0
AreLow g dense units = AllByRecursion (λ p. is_high g dense p ≡ false) units

-- ---- sound pairs

-- The tree of a level at a page has a copy in used units: of the same level, bytes and shape, with no high unit. A leaf has its copy in all its bytes. What
-- leads to no high unit is its own copy, and each leaf that isn't high is a leaf of the copy too.
pub record IsSoundPair (g : Geometry) (units : Units) (in_use : ℕ → Bool) (dense level page copy : ℕ) : Type 0 where
  pub named : IsNamed g units level copy
  pub sized : (n : ℕ) → HasSize g units level page n → HasSize g units level copy n
  pub bytes : (n : ℕ) → HasSize g units level page n → bytes_on units level copy n ≡ bytes_on units level page n
  pub shape : (n : ℕ) → HasSize g units level page n → shape_on units level copy n ≡ shape_on units level page n
  pub used : AreUsed in_use (units_on units level copy)
  pub low : AreLow g dense (units_on units level copy)
  pub still : has_high g dense units level page ≡ false → copy ≡ page
  pub stay : AllByRecursion (Has (units_on units level copy)) (low_leaves g dense units level page)

-- Each copy of a unit of these is sound. Where a unit has one, each high leaf of its tree has one too, and each node that leads to one.
abbrev pub AreSound : {S : Type 0} → ground.Ghosts S → S → ℕ → Copies → List ℕ → Type 0
AreSound g s dense moves units = (level page : ℕ) (copy : PageNo) → Has units page → moves page ≡ Some copy → IsNamed (g.geometry s) (g.unit s) level page
    → IsSoundPair (g.geometry s) (g.unit s) (g.used s) dense level page copy.0 × IsSent (g.geometry s) dense (g.unit s) moves level page

-- ---- what is still to copy

abbrev pub one_without : Option PageNo → ℕ
one_without None = 1
one_without (Some copy) = 0

-- how many of these have no copy
abbrev pub unmoved : Copies → List ℕ → ℕ
unmoved moves [] = 0
unmoved moves (page ∷ pages) = one_without (moves page) + unmoved moves pages

-- how many nodes and leaves of a root's tree are still to copy
abbrev pub nodes_left : Geometry → ℕ → Units → Copies → Root → ℕ
nodes_left g dense units moves root = unmoved moves (each_once (root_nodes_above g dense units root))

abbrev pub leaves_left : Geometry → ℕ → Units → Copies → Root → ℕ
leaves_left g dense units moves root = unmoved moves (each_once (root_high_leaves g dense units root))

-- ---- a tree that is moved

-- A root's tree of used units is whole, the copies of its units are sound, and there is room for what is still to copy: in free pages, in free units, and
-- in those of them that are low.
pub record MayMove {S : Type 0} (g : ground.Ghosts S) (s : S) (dense : ℕ) (moves : Copies) (root : Root) : Type 0 where
  pub whole : IsWhole (g.geometry s) (g.unit s) root
  pub used : AreUsed (g.used s) (root_units (g.unit s) root)
  pub sound : AreSound g s dense moves (root_units (g.unit s) root)
  pub pages : nodes_left (g.geometry s) dense (g.unit s) moves root ≤ g.free s Page
  pub leaves : leaves_left (g.geometry s) dense (g.unit s) moves root ≤ g.free s Segment
  pub low : leaves_left (g.geometry s) dense (g.unit s) moves root ≤ free_below (g.geometry s) (g.used s) dense

-- a unit of the copy that one of these units had
pub record IsReached {S : Type 0} (g : ground.Ghosts S) (s : S) (moves : Copies) (units : List ℕ) (unit : ℕ) : Type 0 where
  pub level : ℕ
  pub page : ℕ
  pub copy : PageNo
  pub inside : Has units page
  pub sent : moves page ≡ Some copy
  pub named : IsNamed (g.geometry s) (g.unit s) level page
  pub below : Has (units_on (g.unit s) level copy.0) unit

-- A unit was taken, is one of these units, or of the copy that one of them had.
abbrev pub IsOwn : {S : Type 0} → ground.Ghosts S → S → S → Copies → List ℕ → ℕ → Type 0
IsOwn g old new moves units unit = IsTaken g old new unit ⊎ Has units unit ⊎ IsReached g old moves units unit

-- the copy of one of these units
abbrev pub IsCopyOf : List ℕ → Copies → ℕ → Type 0
IsCopyOf units moves unit = (page : ℕ) × (copy : PageNo) × Has units page × (moves page ≡ Some copy) × (copy.0 ≡ unit)

-- A page was taken at most for each of the nodes that got its copy, and a free unit that is low for each of the leaves that got one, and no other.
pub record IsPaid {S : Type 0} (g : ground.Ghosts S) (old new : S) (dense : ℕ) (moves after : Copies) (nodes leaves : List ℕ) : Type 0 where
  pub of_pages : g.free old Page + unmoved after nodes ≤ g.free new Page + unmoved moves nodes
  pub of_leaves : g.free old Segment + unmoved after leaves ≡ g.free new Segment + unmoved moves leaves
  pub of_low : free_below (g.geometry old) (g.used old) dense + unmoved after leaves ≡ free_below (g.geometry old) (g.used new) dense + unmoved moves leaves

-- The tree of a root was moved: the new root spells the same bytes in the same shape, over used units that are none of them high. The leaves that weren't high
-- stay, and for each other one that had no copy one low unit was taken. What was taken are copies, and units of the new tree; its others are units of the old
-- tree, or of copies that units of the old tree had, and so are those of the copies. Each new copy is one of a unit of the old tree, stands in the new one, and
-- is sound. Each high leaf of the old tree has a copy, and each node above one. What new nodes name is counted.
pub record IsMoved {S : Type 0} (g : ground.Ghosts S) (old new : S) (dense : ℕ) (moves after : Copies) (root made : Root) : Type 0 where
  pub spells : (bytes : List ℕ) → RootSpells (g.geometry old) (g.unit old) root bytes → RootSpells (g.geometry new) (g.unit new) made bytes
  pub shape : root_shape (g.unit new) made ≡ root_shape (g.unit old) root
  pub used : AreUsed (g.used new) (root_units (g.unit new) made)
  pub low : AreLow (g.geometry new) dense (root_units (g.unit new) made)
  pub stay : AllByRecursion (Has (root_units (g.unit new) made)) (root_low_leaves (g.geometry old) dense (g.unit old) root)
  pub own : AllByRecursion (IsOwn g old new moves (root_units (g.unit old) root)) (root_units (g.unit new) made)
  pub all : (p : ℕ) → IsTaken g old new p → Has (root_units (g.unit new) made) p
  pub copies : (p : ℕ) → IsTaken g old new p → IsCopyOf (root_units (g.unit old) root) after p
  pub fresh : (page : ℕ) (copy : PageNo) → after page ≡ Some copy → (moves page ≡ Some copy) ⊎ (Has (root_units (g.unit old) root) page × Has (root_units (g.unit new) made) copy.0)
  pub of_copies : (level page : ℕ) (copy : PageNo) → Has (root_units (g.unit old) root) page → after page ≡ Some copy → IsNamed (g.geometry new) (g.unit new) level page
      → AllByRecursion (IsOwn g old new moves (root_units (g.unit old) root)) (units_on (g.unit new) level copy.0)
  pub sound : AreSound g new dense after (root_units (g.unit old) root)
  pub sent : AllByRecursion (HasCopy after) (root_high_leaves (g.geometry old) dense (g.unit old) root)
  pub above : AllByRecursion (HasCopy after) (root_nodes_above (g.geometry old) dense (g.unit old) root)
  pub paid : IsPaid g old new dense moves after (each_once (root_nodes_above (g.geometry old) dense (g.unit old) root)) (each_once (root_high_leaves (g.geometry old) dense (g.unit old) root))
  pub counts : NamesPairs g → Counted g old new
