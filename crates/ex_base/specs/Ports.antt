-- What the contracts of the ports cite.
use Rattle.std.specs.Prelude.{◌≡◌, ◌≢◌, ◌≤◌, ◌<◌, ◌+◌, ◌-◌, ℕ, Bool, true, false, ◌&&◌, nat_lt, ◌==◌, min, if◌then◌else◌, List, [], ◌∷◌, length, take, Result, MatchResult, ⊤}
use Rattle.std.specs.Borrow.{follows_so, Fml, RattleType, MutBor}
use mathlib.Core.Option.{none}
use Rattle.ex_base.specs.declared.geometry.Geometry.{Geometry}
use Rattle.ex_base.specs.declared.names.Area.{Area}
use Rattle.ex_base.specs.declared.names.Area.TheVariants.{Page, Segment}
use Rattle.ex_base.specs.declared.faults.PortFault.{PortFault}
use Rattle.ex_base.specs.declared.faults.PortFault.TheVariants.{Disk, Memory, Damaged}
use Rattle.ex_base.specs.declared.ground.Ground as ground
use Rattle.ex_base.specs.Area.{InArea, InPageArea, catalog_no, unit_at}
use Rattle.ex_base.specs.Faults.{Rose}
use Rattle.ex_base.specs.Sizes.{units}

-- P holds of the value in the `&mut` s once the result's borrow of it ends.
abbrev pub Rests : (R : RattleType) → MutBor R.Denot → (R.Denot → Type 0) → Fml
Rests R s P = follows_so R R s.ghost_name none (λ _ _. ⊤) P

-- Nothing of the meanings changes, but the count of faults.
pub record Keeps {S : Type 0} (g : ground.Ghosts S) (old new : S) : Type 0 where
  pub units : g.unit new ≡ g.unit old
  pub images : g.image new ≡ g.image old
  pub used : g.used new ≡ g.used old
  pub refs : g.refs new ≡ g.refs old
  pub held : g.held new ≡ g.held old
  pub free : g.free new ≡ g.free old
  pub touched : g.touched new ≡ g.touched old
  pub leads : g.leads old new

-- A free unit of the area is taken, and has these bytes at its front. Used units keep their bytes.
pub record TakesUnit {S : Type 0} (g : ground.Ghosts S) (old new : S) (area : Area) (page : ℕ) (content : List ℕ) : Type 0 where
  pub named : InArea (g.geometry old) area page
  pub was_free : g.used old page ≡ false
  pub now_used : g.used new page ≡ true
  pub bytes : g.tells old → take (length content) (g.unit new page) ≡ content
  pub units : (p : ℕ) → g.used old p ≡ true → g.unit new p ≡ g.unit old p
  pub images : (p : ℕ) → p ≢ page → g.image new p ≡ g.image old p
  pub used : (p : ℕ) → p ≢ page → g.used new p ≡ g.used old p
  pub held : g.held new ≡ g.held old

-- The lowest free unit of the area.
pub record IsLowest (g : Geometry) (used : ℕ → Bool) (area : Area) (page : ℕ) : Type 0 where
  pub index : ℕ
  pub below : index < units g area
  pub named : page ≡ unit_at g area index
  pub free : used page ≡ false
  pub others : (j : ℕ) → j < index → used (unit_at g area j) ≡ true

-- the most references that a unit counts
abbrev pub refs_most : ℕ
refs_most = 4294967295

-- The count with one reference more; it stands where the unit isn't used, and at its end.
abbrev pub with_ref : Bool → ℕ → ℕ
with_ref used count = if used && nat_lt count refs_most then count + 1 else count

-- how often a number stands in a list
abbrev pub times : ℕ → List ℕ → ℕ
times page [] = 0
times page (p ∷ pages) = (if p == page then 1 else 0) + times page pages

-- The count with so many references more; it stands where the unit isn't used, and at its end.
abbrev pub with_refs : Bool → ℕ → ℕ → ℕ
with_refs used count more = if used then min (count + more) refs_most else count

-- Each used unit has a reference more for each time that it is named.
abbrev pub CountsNames : {S : Type 0} → ground.Ghosts S → S → S → List ℕ → Type 0
CountsNames g old new names = (p : ℕ) → g.refs new p ≡ with_refs (g.used old p) (g.refs old p) (times p names)

-- The count with one reference less; none stays none.
abbrev pub without_ref : ℕ → ℕ
without_ref count = count - 1

-- A unit has this many references, and nothing else changes.
pub record CountsRefs {S : Type 0} (g : ground.Ghosts S) (old new : S) (page count : ℕ) : Type 0 where
  pub units : g.unit new ≡ g.unit old
  pub images : g.image new ≡ g.image old
  pub used : g.used new ≡ g.used old
  pub counted : g.refs new page ≡ count
  pub others : (p : ℕ) → p ≢ page → g.refs new p ≡ g.refs old p
  pub held : g.held new ≡ g.held old
  pub free : g.free new ≡ g.free old
  pub touched : g.touched new ≡ g.touched old
  pub faults : g.faults new ≡ g.faults old
  pub leads : g.leads old new

-- A unit is given back: it is free, and every other unit stays as it was.
pub record GivesUnit {S : Type 0} (g : ground.Ghosts S) (old new : S) (page : ℕ) : Type 0 where
  pub gone : g.used new page ≡ false
  pub used : (p : ℕ) → p ≢ page → g.used new p ≡ g.used old p
  pub units : (p : ℕ) → p ≢ page → g.unit new p ≡ g.unit old p
  pub images : g.image new ≡ g.image old
  pub refs : g.refs new ≡ g.refs old
  pub held : g.held new ≡ g.held old
  pub freed : (area : Area) → InArea (g.geometry old) area page → g.free new area ≡ g.free old area + 1
  pub kept : (area : Area) → (InArea (g.geometry old) area page → ⊥) → g.free new area ≡ g.free old area
  pub touched : g.touched new ≡ g.touched old
  pub faults : g.faults new ≡ g.faults old
  pub frees : g.frees (λ p. p ≡ page) old new

-- One working image is changed.
pub record PutsImage {S : Type 0} (g : ground.Ghosts S) (old new : S) (page : ℕ) (content : List ℕ) : Type 0 where
  pub image : g.tells old → g.image new page ≡ content
  pub images : (p : ℕ) → p ≢ page → g.image new p ≡ g.image old p
  pub units : g.unit new ≡ g.unit old
  pub used : g.used new ≡ g.used old
  pub refs : g.refs new ≡ g.refs old
  pub held : g.held new ≡ g.held old
  pub free : g.free new ≡ g.free old

-- A page that the working state did not have is taken, and has this image.
pub record TakesPage {S : Type 0} (g : ground.Ghosts S) (old new : S) (page : ℕ) (content : List ℕ) : Type 0 where
  pub area : InPageArea (g.geometry old) page
  pub other : page ≢ catalog_no
  pub was_free : g.used old page ≡ false
  pub now_used : g.used new page ≡ true
  pub was_not_held : g.held old page ≡ false
  pub now_held : g.held new page ≡ true
  pub image : g.tells old → g.image new page ≡ content
  pub images : (p : ℕ) → p ≢ page → g.image new p ≡ g.image old p
  pub held : (p : ℕ) → p ≢ page → g.held new p ≡ g.held old p
  pub used : (p : ℕ) → p ≢ page → g.used new p ≡ g.used old p
  pub units : (p : ℕ) → g.used old p ≡ true → g.unit new p ≡ g.unit old p
  pub refs : g.refs new ≡ g.refs old

-- A page is given back: the working state no longer has it. Whether it is free at once is the object's to say.
pub record GivesPage {S : Type 0} (g : ground.Ghosts S) (old new : S) (page : ℕ) : Type 0 where
  pub gone : g.held new page ≡ false
  pub held : (p : ℕ) → p ≢ page → g.held new p ≡ g.held old p
  pub images : (p : ℕ) → p ≢ page → g.image new p ≡ g.image old p
  pub used : (p : ℕ) → p ≢ page → g.used new p ≡ g.used old p
  pub units : (p : ℕ) → p ≢ page → g.unit new p ≡ g.unit old p
  pub refs : g.refs new ≡ g.refs old
  pub pages : g.free old Page ≤ g.free new Page
  pub leaves : g.free new Segment ≡ g.free old Segment

-- `Disk` comes only where the count of faults rose, and `Damaged` says two different things.
abbrev pub Cause : ℕ → ℕ → PortFault → Type 0
Cause before now Disk = Rose before now
Cause before now Memory = ⊤
Cause before now (Damaged page want got) = want ≢ got

abbrev pub HasCause : {T : Type 0} → ℕ → ℕ → Result T PortFault → Type 0
HasCause before now result = MatchResult result (λ _. ⊤) (Cause before now)

-- the fault is that of a damaged page
abbrev pub IsDamage : PortFault → Type 0
IsDamage Disk = ⊥
IsDamage Memory = ⊥
IsDamage (Damaged page want got) = Unit {0}
