-- Results whose error is known, and what holds of any result.
use Rattle.std.proofs.Common.{◌≡◌, Result, Ok, Err, OnOk, OnErr, subst, sym}
use Rattle.std.specs.Result.{IsErrAnd}

-- it is this error
pub err_is : {X E : Type 0} (r : Result X E) (e f : E) → IsErrAnd r (λ x. x ≡ e) → r ≡ Err f → e ≡ f
err_is r e f is same = sym (subst (λ (s : Result _ _). IsErrAnd s (λ x. x ≡ e)) same is)

-- what holds anyway
pub ok_of : {X E : Type 0} (r : Result X E) (P : Type 0) → P → OnOk r P
ok_of (Ok x) P p = p
ok_of (Err e) P p = tt

pub err_of : {X E : Type 0} (r : Result X E) (P : Type 0) → P → OnErr r P
err_of (Ok x) P p = tt
err_of (Err e) P p = p
