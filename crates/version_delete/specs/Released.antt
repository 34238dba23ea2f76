-- What it means that an owner is taken away from each of some trees.
use Rattle.std.specs.Prelude.{◌≡◌, ◌≤◌, ℕ, true, false, List, ◌++◌}
use Rattle.std.specs.List.{AllByRecursion}
use Rattle.ex_base.specs.declared.faults.PortFault.{PortFault}
use Rattle.ex_base.specs.declared.ground.Ground as ground
use Rattle.ex_base.specs.Ports.{CountsRefs, without_ref}
use Rattle.trees.specs.Counted.{HasCounts}
use Rattle.trees.specs.Damage.{IsWalkFault}
use Rattle.trees.specs.Made.{pages_of}
use Rattle.trees.specs.Owners.{IsOwned, StandsAt}
use Rattle.trees.specs.declared.rows.Part.{Part}

-- the units are owned by these roots, and by the nodes in use
abbrev pub Owned : {S : Type 0} → ground.Ghosts S → S → List ℕ → List ℕ → Type 0
Owned g s logged roots = IsOwned (g.geometry s) (g.unit s) (g.used s) (g.refs s) logged roots

-- a tree of this level may have its root at each of these pages
abbrev pub AreAt : {S : Type 0} → ground.Ghosts S → S → ℕ → List ℕ → Type 0
AreAt g s level pages = AllByRecursion (StandsAt (g.geometry s) (g.unit s) level) pages

-- a unit that has references is no logged page
abbrev pub AreApart : {S : Type 0} → ground.Ghosts S → S → Type 0
AreApart g s = (p : ℕ) → 1 ≤ g.refs s p → g.held s p ≡ false

-- a unit that was used and is free now
abbrev pub IsFreed : {S : Type 0} → ground.Ghosts S → S → S → ℕ → Type 0
IsFreed g old new p = (g.used old p ≡ true) × (g.used new p ≡ false)

-- Some used units were given back. What is left in use keeps its bytes, and every image stays.
pub record Gives {S : Type 0} (g : ground.Ghosts S) (old new : S) : Type 0 where
  pub fewer : (p : ℕ) → g.used new p ≡ true → g.used old p ≡ true
  pub units : (p : ℕ) → g.used new p ≡ true → g.unit new p ≡ g.unit old p
  pub images : g.image new ≡ g.image old
  pub held : g.held new ≡ g.held old
  pub touched : g.touched new ≡ g.touched old
  pub counts : HasCounts g old → HasCounts g new
  pub apart : AreApart g old → AreApart g new
  pub frees : g.frees (IsFreed g old new) old new

-- An owner less of each tree of a level at these pages: where they were owners, the others own what is left.
abbrev pub Released : {S : Type 0} → ground.Ghosts S → S → S → ℕ → List ℕ → Type 0
Released g old new level pages = g.tells old → (logged roots : List ℕ) → AreAt g old level pages
    → Owned g old logged (pages ++ roots) → Owned g new logged roots

-- A unit's only owner is taken away, and nothing else changes.
pub record LosesLast {S : Type 0} (g : ground.Ghosts S) (before now : S) (page : ℕ) : Type 0 where
  pub last : g.refs before page ≡ 1
  pub counts : CountsRefs g before now page (without_ref (g.refs before page))

-- The fault is the port's own, or tells of a page on the way down from these trees that isn't what names it,
-- where they were owners.
abbrev pub Blames : {S : Type 0} → ground.Ghosts S → S → ℕ → ℕ → List Part → PortFault → Type 0
Blames g s level least row fault = g.tells s → (logged roots : List ℕ) → AreAt g s level (pages_of row)
    → Owned g s logged (pages_of row ++ roots) → IsWalkFault (g.geometry s) (g.unit s) level least row fault

-- Whatever is given up, each unit keeps its bytes.
abbrev pub KeepsBytes : {S : Type 0} → ground.Ghosts S → Type 0
KeepsBytes {S} g = (a b : S) → Gives g a b → g.unit b ≡ g.unit a

-- Where units keep their bytes, the fault is the port's own, or tells of a page on the way down from these trees that isn't what names it, whoever owns them.
abbrev pub BlamesAlways : {S : Type 0} → ground.Ghosts S → S → ℕ → ℕ → List Part → PortFault → Type 0
BlamesAlways g s level least row fault = KeepsBytes g → g.tells s → IsWalkFault (g.geometry s) (g.unit s) level least row fault
