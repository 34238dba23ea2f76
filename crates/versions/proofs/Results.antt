-- What holds of a result that is handed on.
use Rattle.std.proofs.Common.{◌≡◌, Option, Some, None, Result, Ok, Err, IfErr, OnOk, subst, sym, ap, ◌∙◌}
use Rattle.std.specs.Prelude.{MatchOption, IfNone, IfSome}
use Rattle.std.specs.Option.{option_map}

pub match_some : {A : Type 0} (o : Option A) (x : A) (N : Type 0) (P : A → Type 0) → o ≡ Some x → MatchOption o N P → P x
match_some o x N P is h = subst (λ (p : Option _). MatchOption p N P) is h

pub match_none : {A : Type 0} (o : Option A) (N : Type 0) (P : A → Type 0) → o ≡ None → MatchOption o N P → N
match_none o N P is h = subst (λ (p : Option _). MatchOption p N P) is h

pub none_some : {A : Type 0} (o : Option A) (x : A) → o ≡ None → o ≡ Some x → ⊥
none_some o x none some = let e : None ≡ Some x = sym none ∙ some in cc

value_or : {A : Type 0} → A → Option A → A
value_or other None = other
value_or other (Some x) = x

pub same_some : {A : Type 0} (o : Option A) (x y : A) → o ≡ Some x → o ≡ Some y → x ≡ y
unfolding value_or
same_some o x y is also = ap (value_or x) (sym is ∙ also)

-- what holds anyway
pub ok_of : {X E : Type 0} (r : Result X E) (P : Type 0) → P → OnOk r P
ok_of (Ok x) P p = p
ok_of (Err e) P p = tt

pub err_of : {X E : Type 0} (r : Result X E) (P : E → Type 0) → ((e : E) → P e) → IfErr r P
err_of (Ok x) P p = tt
err_of (Err e) P p = p e

pub at_this : {A : Type 0} (o : Option A) (x : A) (P : A → Type 0) → o ≡ Some x → P x → IfSome o P
at_this o x P is p = subst (λ (q : Option _). IfSome q P) (sym is) p

pub at_nothing : {A : Type 0} (o : Option A) (P : A → Type 0) → o ≡ None → IfSome o P
at_nothing o P is = subst (λ (q : Option _). IfSome q P) (sym is) tt

-- what follows where nothing is there
pub none_then : {A : Type 0} (o : Option A) (P Q : Type 0) → (P → Q) → IfNone o P → IfNone o Q
none_then None P Q f p = f p
none_then (Some x) P Q f p = p

-- what was looked for is there or not
pub of_found : {A : Type 0} (o : Option A) (N : Type 0) (P Q : A → Type 0) (R : Type 0) → MatchOption o N P → IfSome o Q → (N → R) → ((x : A) → P x → Q x → R) → R
of_found None N P Q R found told never there = never found
of_found (Some x) N P Q R found told never there = there x found told

-- what holds of the image of what is there holds of what the image is
pub at_image : {A B : Type 0} (f : A → B) (o : Option A) (y : B) (P : B → Type 0) → option_map f o ≡ Some y → IfSome o (λ x. P (f x)) → P y
at_image f None y P is h = absurd (let e : None ≡ Some y = is in cc)
at_image f (Some x) y P is h = let e : f x ≡ y = cc in subst P e h

-- what follows of what is there, where its image is known
pub of_mapped : {A B : Type 0} (f : A → B) (o : Option A) (y : B) (Q : A → Type 0) {R : Type 0} → option_map f o ≡ Some y → IfSome o Q → ((x : A) → f x ≡ y → Q x → R) → R
of_mapped f None y Q is told there = absurd (let e : None ≡ Some y = is in cc)
of_mapped f (Some x) y Q is told there = there x (let e : f x ≡ y = cc in e) told

pub if_err_both : {X E : Type 0} (r : Result X E) (P Q R : E → Type 0) → ((e : E) → P e → Q e → R e) → IfErr r P → IfErr r Q → IfErr r R
if_err_both (Ok x) P Q R f p q = tt
if_err_both (Err e) P Q R f p q = f e p q
