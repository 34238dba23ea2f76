-- What calls take and give back, where the ones before them change nothing, or the ones behind them no unit.
use Rattle.std.proofs.Common.{ℕ, Bool, sym, ap, ◌∙◌}
use Rattle.ex_base.specs.declared.ground.Ground as ground
use Rattle.ex_base.specs.Ports.{Keeps}
use Rattle.file_index.specs.Taking.{OnlyGives, OnlyTakes}
use Rattle.version_tree.specs.Bodies.{SameUnits}

module _ {S : Type 0} (g : ground.Ghosts S) where
  -- behind calls that change nothing
  pub takes_after : (a b c : S) → Keeps g a b → OnlyTakes g b c → OnlyTakes g a c
  takes_after a b c kept takes = record {
    taken = λ unit free used. takes.taken unit (ap (λ (f : ℕ → Bool). f unit) kept.used ∙ free) used;
    held = λ page was. takes.held page (ap (λ (f : ℕ → Bool). f page) kept.held ∙ was);
  }

  pub gives_after : (a b c : S) → Keeps g a b → OnlyGives g b c → OnlyGives g a c
  gives_after a b c kept gives = record {
    was = λ unit free used. sym (ap (λ (f : ℕ → Bool). f unit) kept.held) ∙ gives.was unit (ap (λ (f : ℕ → Bool). f unit) kept.used ∙ free) used;
    held = λ page has. sym (ap (λ (f : ℕ → Bool). f page) kept.held) ∙ gives.held page has;
  }

  -- before calls that change no unit
  pub takes_before : (a b c : S) → OnlyTakes g a b → SameUnits g b c → OnlyTakes g a c
  takes_before a b c takes same = record {
    taken = λ unit free used. ap (λ (f : ℕ → Bool). f unit) same.held ∙ takes.taken unit free (sym (ap (λ (f : ℕ → Bool). f unit) same.used) ∙ used);
    held = λ page was. ap (λ (f : ℕ → Bool). f page) same.held ∙ takes.held page was;
  }

  pub gives_before : (a b c : S) → OnlyGives g a b → SameUnits g b c → OnlyGives g a c
  gives_before a b c gives same = record {
    was = λ unit free used. gives.was unit free (sym (ap (λ (f : ℕ → Bool). f unit) same.used) ∙ used);
    held = λ page has. gives.held page (sym (ap (λ (f : ℕ → Bool). f page) same.held) ∙ has);
  }
