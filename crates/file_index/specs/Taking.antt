-- What calls on logged pages take and give back.
use Rattle.std.specs.Prelude.{◌≡◌, ℕ, true, false}
use Rattle.ex_base.specs.declared.ground.Ground as ground

-- Each unit that was taken is a logged page, and no logged page was given back.
pub record OnlyTakes {S : Type 0} (g : ground.Ghosts S) (old new : S) : Type 0 where
  pub taken : (unit : ℕ) → g.used old unit ≡ false → g.used new unit ≡ true → g.held new unit ≡ true
  pub held : (page : ℕ) → g.held old page ≡ true → g.held new page ≡ true

-- No unit came into use that wasn't a logged page already, and no logged page came.
pub record OnlyGives {S : Type 0} (g : ground.Ghosts S) (old new : S) : Type 0 where
  pub was : (unit : ℕ) → g.used old unit ≡ false → g.used new unit ≡ true → g.held old unit ≡ true
  pub held : (page : ℕ) → g.held new page ≡ true → g.held old page ≡ true
