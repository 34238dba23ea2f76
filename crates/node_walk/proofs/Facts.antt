-- Results that are handed on, and sets of units with one more.
use Rattle.std.proofs.Common.{◌≡◌, ◌⊎◌, ◌≤◌, true≢false, ℕ, Bool, true, false, Result, Ok, Err, arith, sym, ap, ◌∙◌, nat_eq, nat_le, inl, inr}
use Rattle.std.proofs.lemmas.Bool.Decides.{nat_tests}
use Rattle.std.specs.Result.{IsErrAnd}
use Rattle.ex_base.specs.Faults.{Rose}
use Rattle.session_views.specs.declared.opener.OpenFault.{OpenFault}
use Rattle.session_views.specs.declared.opener.OpenFault.TheVariants.{BadVolume}
use Rattle.session_views.specs.declared.part.Part.{Part}
use Rattle.page_alloc.specs.UnitSet.{updated}

pub same_part : {X : Type 0} (p q : Part) → ◌≡◌ {A = Result X OpenFault} (Err (BadVolume p)) (Err (BadVolume q)) → q ≡ p
same_part p q is = cc

-- a fault that is handed on
pub handed : {X E : Type 0} (r : Result X E) (e f : E) → IsErrAnd r (λ x. x ≡ e) → r ≡ Err f → e ≡ f
handed (Ok x) e f is same = absurd cc
handed (Err x) e f is same = sym is ∙ (let s : x ≡ f = cc in s)

pub handed_err : {X Y E : Type 0} (r : Result X E) (e f : E) → IsErrAnd r (λ x. x ≡ e) → r ≡ Err f → ◌≡◌ {A = Result Y E} (Err e) (Err f)
handed_err r e f is same = ap Err (handed r e f is same)

pub rose_since : (before mid now : ℕ) → before ≤ mid → Rose mid now → Rose before now
rose_since before mid now le rose = omega arith

pub updated_here : (f : ℕ → Bool) (page : ℕ) (v : Bool) → updated f page v page ≡ v
updated_here f page v = grind (arith, nat_tests)

pub updated_else : (f : ℕ → Bool) (page : ℕ) (v : Bool) (q : ℕ) → nat_eq page q ≡ false → updated f page v q ≡ f q
updated_else f page v q apart = grind (arith, nat_tests)

-- what is found of two parts
pub record BothOf (b c r : Bool) : Type 0 where
  pub holds : r ≡ true → (b ≡ true) × (c ≡ true)
  pub fails : r ≡ false → (b ≡ false) ⊎ (c ≡ false)

pub both_then : (b c r : Bool) → c ≡ true → r ≡ b → BothOf b c r
both_then b c r is same = record { holds = λ t. (sym same ∙ t, is); fails = λ f. inl (sym same ∙ f) }

pub both_else : (b c r : Bool) → c ≡ false → r ≡ false → BothOf b c r
both_else b c r is same = record { holds = λ t. absurd (true≢false (sym t ∙ same)); fails = λ f. inr is }

pub both_swapped : (b c r : Bool) → BothOf b c r → BothOf c b r
both_swapped b c r h = record { holds = λ t. ((h.holds t).1, (h.holds t).0); fails = λ f. elim (h.fails f) [ inl x ↦ inr x | inr y ↦ inl y ] }

pub within : (r : Bool) (a b : ℕ) → r ≡ nat_le a b → r ≡ true → a ≤ b
within r a b is t = grind (arith, nat_tests)

pub is_within : (r : Bool) (a b : ℕ) → r ≡ nat_le a b → a ≤ b → r ≡ true
is_within r a b is le = grind (arith, nat_tests)
