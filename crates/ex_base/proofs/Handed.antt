-- What a call promises where it hands on the fault of a call within, and what it promises since an earlier state.
use Rattle.std.proofs.Common.{◌≡◌, ℕ, Result, Ok, Err, IfOk, OnOk, sym, subst}
use Rattle.std.specs.Result.{IsErrAnd}
use Rattle.ex_base.specs.declared.ground.Ground as ground
use Rattle.ex_base.specs.declared.faults.PortFault.{PortFault}
use Rattle.ex_base.specs.Ports.{HasCause, Cause}
use Rattle.ex_base.proofs.Keeping.{cause_since, cause_on}
use Rattle.ex_base.proofs.Results.{cause_handed}

-- ---- no value is given

pub no_value : {X E : Type 0} (r : Result X E) (P : X → Type 0) (e : E) → IsErrAnd r (λ f. f ≡ e) → IfOk r P
no_value (Ok x) P e is = absurd is
no_value (Err f) P e is = tt

pub not_given : {X E : Type 0} (r : Result X E) (P : Type 0) (e : E) → IsErrAnd r (λ f. f ≡ e) → OnOk r P
not_given (Ok x) P e is = absurd is
not_given (Err f) P e is = tt

-- ---- what holds of every value

pub any_value : {X E : Type 0} (r : Result X E) (P : X → Type 0) → ((x : X) → P x) → IfOk r P
any_value (Ok x) P f = f x
any_value (Err e) P f = tt

-- ---- the cause of a fault, since the same count

pub cause_here : {X : Type 0} (before now : ℕ) (r : Result X PortFault) (e : PortFault) → IsErrAnd r (λ f. f ≡ e) → Cause before now e → HasCause before now r
cause_here before now (Ok x) e is cause = absurd is
cause_here before now (Err f) e is cause = subst (Cause before now) (sym is) cause

-- ---- the cause of a fault that a later call had, told from an earlier state on

module _ {S : Type 0} (g : ground.Ghosts S) (a b : S) (leads : g.leads a b) where
  pub cause_after : (c : S) (fault : PortFault) → Cause (g.faults b) (g.faults c) fault → Cause (g.faults a) (g.faults c) fault
  cause_after c fault cause = cause_since (g.faults a) (g.faults b) (g.faults c) fault (g.leads_faults a b leads) cause

  pub cause_of : {X : Type 0} (c : S) (r : Result X PortFault) → HasCause (g.faults b) (g.faults c) r → HasCause (g.faults a) (g.faults c) r
  cause_of c r cause = cause_on (g.faults a) (g.faults b) (g.faults c) r (g.leads_faults a b leads) cause

  pub handed_after : {X : Type 0} (c : S) (r : Result X PortFault) (fault : PortFault) → IsErrAnd r (λ f. f ≡ fault) → Cause (g.faults b) (g.faults c) fault → HasCause (g.faults a) (g.faults c) r
  handed_after c r fault is cause = cause_handed (g.faults a) (g.faults b) (g.faults c) r fault is (g.leads_faults a b leads) cause
