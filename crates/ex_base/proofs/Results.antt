-- What holds of a result that is handed on.
use Rattle.std.proofs.Common.{◌≡◌, ◌≤◌, ℕ, false, Result, Ok, Err, IfOk, OnOk, IfErr, is_err, refl, sym, subst}
use Rattle.std.specs.Result.{IsErrAnd}
use Rattle.ex_base.specs.declared.faults.PortFault.{PortFault}
use Rattle.ex_base.specs.Ports.{HasCause, Cause}
use Rattle.ex_base.proofs.Keeping.{cause_since}

-- ---- what a call promises, of the value that it gave

pub from_ok : {X E : Type 0} (r : Result X E) (x : X) (P : Type 0) → r ≡ Ok x → OnOk r P → P
from_ok r x P is h = subst (λ s. OnOk s P) is h

pub if_no_error : {X E P : Type 0} (r : Result X E) → is_err r ≡ false → OnOk r P → P
if_no_error (Ok x) no_error h = h
if_no_error (Err e) no_error h = absurd cc

-- ---- what holds where a value was given

pub if_ok_from : {X E : Type 0} (r : Result X E) (P : X → Type 0) → ((x : X) → r ≡ Ok x → P x) → IfOk r P
if_ok_from (Ok x) P f = f x refl
if_ok_from (Err e) P f = tt

pub on_ok_from : {X E : Type 0} (r : Result X E) (P : Type 0) → ((x : X) → r ≡ Ok x → P) → OnOk r P
on_ok_from (Ok x) P f = f x refl
on_ok_from (Err e) P f = tt

-- what follows from what holds of the value
pub if_ok_on_ok : {X E : Type 0} (r : Result X E) (P : X → Type 0) (Q : Type 0) → ((x : X) → P x → Q) → IfOk r P → OnOk r Q
if_ok_on_ok (Ok x) P Q f p = f x p
if_ok_on_ok (Err e) P Q f p = tt

-- what follows from two facts
pub if_ok_both : {X E : Type 0} (r : Result X E) (P Q R : X → Type 0) → ((x : X) → P x → Q x → R x) → IfOk r P → IfOk r Q → IfOk r R
if_ok_both (Ok x) P Q R f p q = f x p q
if_ok_both (Err e) P Q R f p q = tt

pub on_ok_both : {X E : Type 0} (r : Result X E) (P Q R : Type 0) → (P → Q → R) → OnOk r P → OnOk r Q → OnOk r R
on_ok_both (Ok x) P Q R f p q = f p q
on_ok_both (Err e) P Q R f p q = tt

-- ---- a fault that is handed on

pub if_err_handed : {X E : Type 0} (r : Result X E) (P : E → Type 0) (e : E) → IsErrAnd r (λ f. f ≡ e) → P e → IfErr r P
if_err_handed (Ok x) P e is p = tt
if_err_handed (Err f) P e is p = subst P (sym is) p

-- with the cause that it had since a later count
pub cause_handed : {X : Type 0} (before mid now : ℕ) (r : Result X PortFault) (e : PortFault) → IsErrAnd r (λ f. f ≡ e) → before ≤ mid → Cause mid now e → HasCause before now r
cause_handed before mid now (Ok x) e is le h = tt
cause_handed before mid now (Err f) e is le h = subst (Cause before now) (sym is) (cause_since before mid now e le h)
