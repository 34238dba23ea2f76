-- A result that is a fault has that fault.
use Rattle.std.proofs.Common.{◌≡◌, Result, Err, refl, subst, sym}
use Rattle.std.specs.Result.{IsErrAnd}

pub ends_with : {X E : Type 0} (r : Result X E) (e : E) → r ≡ Err e → IsErrAnd r (λ f. f ≡ e)
ends_with {X} {E} r e is = subst (λ (s : Result X E). IsErrAnd s (λ f. f ≡ e)) (sym is) refl
