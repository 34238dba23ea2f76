-- Facts about results.
use Rattle.std.proofs.Common.{◌≡◌, Result, Ok, Err, subst}
use Rattle.std.specs.Prelude.{IfOk, MatchResult, OnErr, OnOk}

-- what holds anyway holds on success
pub ok_any : {T E : Type 0} (r : Result T E) (P : Type 0) → P → OnOk r P
ok_any (Ok x) P p = p
ok_any (Err e) P p = tt

pub ok_both : {T E : Type 0} (r : Result T E) (P : T → Type 0) (Q : Type 0) → IfOk r P → OnOk r Q → IfOk r (λ x. P x × Q)
ok_both (Ok x) P Q p q = (p, q)
ok_both (Err e) P Q p q = tt

pub match_of : {T E : Type 0} (r : Result T E) (P Q A B : Type 0) → OnOk r P → OnErr r Q → (P → A) → (Q → B) → MatchResult r (λ _. A) (λ _. B)
match_of (Ok x) P Q A B p q f g = f p
match_of (Err e) P Q A B p q f g = g q

-- a fault is no value
pub never_ok : {X E : Type 0} (e : E) (x : X) → ◌≡◌ {A = Result X E} (Err e) (Ok x) → ⊥
never_ok {X} {E} e x is = subst (λ (r : Result X E). IfOk r (λ n. ⊥)) is tt

-- one fault is one fault
pub err_same : {X E : Type 0} {a b : E} → ◌≡◌ {A = Result X E} (Err a) (Err b) → a ≡ b
err_same is = cc
