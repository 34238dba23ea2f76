-- What the steps of an edit leave.
use Rattle.std.specs.Prelude.{◌≡◌, ◌⊎◌, ℕ, ◌+◌, ◌-◌, ◌<◌, ◌≤◌, List, [], ◌∷◌, ◌++◌, map, take, drop, Bool, true, false}
use Rattle.std.specs.List.{AllByRecursion}
use Rattle.ex_base.specs.declared.names.Area.TheVariants.{Page, Segment}
use Rattle.ex_base.specs.declared.ground.Ground as ground
use Rattle.ex_base.specs.Ports.{refs_most}
use Rattle.trees.specs.declared.rows.Part.{Part}
use Rattle.trees.specs.Rows.{AreTrees, row_units}

-- Each used unit stays used and keeps its bytes and its image, and no logged page is taken, given back or
-- touched. No reference goes.
pub record Extends {S : Type 0} (g : ground.Ghosts S) (old new : S) : Type 0 where
  pub leads : g.leads old new
  pub used : (p : ℕ) → g.used old p ≡ true → g.used new p ≡ true
  pub units : (p : ℕ) → g.used old p ≡ true → g.unit new p ≡ g.unit old p
  pub images : (p : ℕ) → g.used old p ≡ true → g.image new p ≡ g.image old p
  pub held : g.held new ≡ g.held old
  pub touched : g.touched new ≡ g.touched old
  pub refs : (p : ℕ) → g.refs old p ≤ refs_most → (g.refs old p ≤ g.refs new p) × (g.refs new p ≤ refs_most)

-- so many free units of each area were taken
pub record Spent {S : Type 0} (g : ground.Ghosts S) (old new : S) (leaves pages : ℕ) : Type 0 where
  pub of_leaves : g.free new Segment + leaves ≡ g.free old Segment
  pub of_pages : g.free new Page + pages ≡ g.free old Page

abbrev pub AreUsed : (ℕ → Bool) → List ℕ → Type 0
AreUsed used units = AllByRecursion (λ p. used p ≡ true) units

-- a row of trees over used units
pub record Holds {S : Type 0} (g : ground.Ghosts S) (s : S) (l : ℕ) (row : List Part) : Type 0 where
  pub trees : AreTrees (g.geometry s) (g.unit s) l row
  pub used : AreUsed (g.used s) (row_units (g.unit s) l row)

-- a number stands in a list
abbrev pub Has : List ℕ → ℕ → Type 0
Has [] p = ⊥
Has (x ∷ xs) p = (x ≡ p) ⊎ Has xs p

-- a unit that was free and is used now
abbrev pub IsTaken : {S : Type 0} → ground.Ghosts S → S → S → ℕ → Type 0
IsTaken g old new p = (g.used old p ≡ false) × (g.used new p ≡ true)

-- these are the units that were taken
pub record Took {S : Type 0} (g : ground.Ghosts S) (old new : S) (units : List ℕ) : Type 0 where
  pub each : AllByRecursion (IsTaken g old new) units
  pub all : (p : ℕ) → IsTaken g old new p → Has units p

abbrev pub pages_of : List Part → List ℕ
pages_of row = map (λ part. part.page.0) row

abbrev pub sizes_of : List Part → List ℕ
sizes_of row = map (λ part. part.size) row

-- the bytes with others in the place of some of them
abbrev pub changed : List ℕ → ℕ → ℕ → List ℕ → List ℕ
changed old at cut given = take at old ++ (given ++ drop (at + cut) old)

-- a byte that stays where `cut` bytes from a position on give way to `given` others, and where it comes to stand
abbrev pub Stays : ℕ → ℕ → ℕ → ℕ → ℕ → Type 0
Stays at cut given byte new = ((byte < at) × (new ≡ byte)) ⊎ ((at + cut ≤ byte) × (new ≡ byte - cut + given))
