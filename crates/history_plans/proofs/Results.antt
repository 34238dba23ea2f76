-- Results and options that are known.
use Rattle.std.proofs.Common.{◌≡◌, Result, Ok, Err, Option, None, IfNone, OnOk, subst}

pub ok_given : {T E : Type 0} (P : Type 0) (r : Result T E) → P → OnOk r P
ok_given P (Ok x) p = p
ok_given P (Err e) p = tt

pub err_given : {T E : Type 0} (P : Type 0) (r : Result T E) (e : E) → r ≡ Err e → OnOk r P
err_given P (Ok x) e is = absurd cc
err_given P (Err x) e is = tt

pub none_given : {A : Type 0} (X : Type 0) (o : Option A) → o ≡ None → IfNone o X → X
none_given {A} X o is h = subst (λ (q : Option A). IfNone q X) is h
