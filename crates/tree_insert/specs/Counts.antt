-- What is known of nodes whose leaves were counted.
use Rattle.std.specs.Prelude.{◌≡◌, ◌≤◌, ℕ, [], ◌∷◌, length, Option, Some}
use Rattle.ex_base.specs.declared.geometry.Geometry.{Geometry}
use Rattle.trees.specs.Shape.{joined}
use Rattle.trees.specs.Trees.{Units, shape_on}
use Rattle.trees.specs.Damage.{AnyPage, IsSoundWay}
use Rattle.trees.specs.Rows.{AreTrees}
use Rattle.tree_insert.specs.declared.lengths.Counted.{Counted}

-- no node has more leaves than bytes
abbrev pub AreBounded : (ℕ → Option Counted) → Type 0
AreBounded known = (p : ℕ) (c : Counted) → known p ≡ Some c → c.leaves ≤ c.size

-- each node that is a tree of the level and the size that it was counted with has as many leaves
abbrev pub AreCounted : Geometry → Units → (ℕ → Option Counted) → Type 0
AreCounted g units known = (p : ℕ) (c : Counted) → known p ≡ Some c → (l : ℕ) → c.level ≡ l → AreTrees g units l (record { size = c.size; page = record { 0 = p } } ∷ []) → c.leaves ≡ length (joined l (shape_on units l p c.size))

-- each node that was counted, and each node below it, is what names it
abbrev pub AreSound : Geometry → Units → (ℕ → Option Counted) → Type 0
AreSound g units known = (p : ℕ) (c : Counted) → known p ≡ Some c → (byte : ℕ) → IsSoundWay g units AnyPage c.level g.fan (record { size = c.size; page = record { 0 = p } } ∷ []) byte byte
