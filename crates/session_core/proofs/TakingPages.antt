-- Calls by which only logged pages come into use.
use Rattle.std.proofs.Common.{◌≡◌, ◌∙◌, ℕ, Bool, List, true, true≢false, sym, ap, subst, inl, inr}
use Rattle.std.proofs.lemmas.Bool.{cases_Bool}
use Rattle.ex_base.specs.declared.ground.Ground as ground
use Rattle.ex_base.specs.Ports.{Keeps, PutsImage}
use Rattle.file_index.specs.Taking.{OnlyTakes}
use Rattle.page_alloc.specs.UnitSet.{UnitSet, used_at}
use Rattle.volume_port.specs.Logged.{LoggedSet}
use Rattle.session_core.specs.Sessions.{TakesLogged}

-- ---- over a port

module _ {S : Type 0} (g : ground.Ghosts S) where
  same_takes : (a b : S) → g.used b ≡ g.used a → g.held b ≡ g.held a → OnlyTakes g a b
  same_takes a b used held = record {
    taken = λ unit free now. absurd (true≢false (sym now ∙ ap (λ (f : ℕ → Bool). f unit) used ∙ free));
    held = λ page was. ap (λ (f : ℕ → Bool). f page) held ∙ was;
  }

  pub put_takes : (a b : S) (page : ℕ) (content : List ℕ) → PutsImage g a b page content → OnlyTakes g a b
  put_takes a b page content puts = same_takes a b puts.used puts.held

  pub keeps_takes : (a b : S) → Keeps g a b → OnlyTakes g a b
  keeps_takes a b keeps = same_takes a b keeps.used keeps.held

  pub takes_both : (a b c : S) → OnlyTakes g a b → OnlyTakes g b c → OnlyTakes g a c
  takes_both a b c one two = record {
    taken = λ unit free now. elim (cases_Bool (g.used b unit)) [
      | inl there ↦ two.held unit (one.taken unit free there)
      | inr not_yet ↦ two.taken unit not_yet now
    ];
    held = λ page was. two.held page (one.held page was);
  }

-- ---- over the parts of a session

pub logged_at : {a b c d : UnitSet} {p q : LoggedSet} → a ≡ b → c ≡ d → p ≡ q → TakesLogged a c p → TakesLogged b d q
logged_at {a} {b} {c} {d} {p} {q} old new pages takes =
    subst (λ (u : UnitSet). TakesLogged u d q) old (subst (λ (u : UnitSet). TakesLogged a u q) new (subst (λ (l : LoggedSet). TakesLogged a c l) pages takes))

-- where units are given back afterwards, no other one came
pub still_logged : (old mid new : UnitSet) (pages : LoggedSet) → ((unit : ℕ) → used_at new unit ≡ true → used_at mid unit ≡ true) → TakesLogged old mid pages → TakesLogged old new pages
still_logged old mid new pages fewer takes = record { taken = λ unit free now. takes.taken unit free (fewer unit now) }

-- nothing came where the units are as they were
pub takes_none : (old new : UnitSet) (pages : LoggedSet) → new ≡ old → TakesLogged old new pages
takes_none old new pages same = record { taken = λ unit free now. absurd (true≢false (sym now ∙ ap (λ (u : UnitSet). used_at u unit) same ∙ free)) }
