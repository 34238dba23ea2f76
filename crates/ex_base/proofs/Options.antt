-- What holds of an option that is known.
use Rattle.std.proofs.Common.{◌≡◌, true, false, Option, Some, None, is_some, refl, subst}
use Rattle.std.specs.Prelude.{IfSome, IfNone}

-- what is promised of a value that is there
pub at_some : {A : Type 0} (o : Option A) (x : A) (P : A → Type 0) → o ≡ Some x → IfSome o P → P x
at_some None x P is h = absurd cc
at_some (Some y) x P is h = subst P (let same : y ≡ x = cc in same) h

-- what is promised where no value is there
pub at_none : {A : Type 0} (o : Option A) (X : Type 0) → o ≡ None → IfNone o X → X
at_none None X is h = h
at_none (Some y) X is h = absurd cc

-- no value is there where the test says so
pub none_from_test : {A : Type 0} (o : Option A) → is_some o ≡ false → o ≡ None
none_from_test None test = refl
none_from_test (Some x) test = absurd (let e : true ≡ false = test in cc)

-- a value is not none
pub some_apart : {A : Type 0} (x : A) → Some x ≡ None → ⊥
some_apart x is = absurd cc

-- an option with a value is not one without
pub some_apart_inside : {A : Type 0} (x : A) → Some (Some x) ≡ Some None → ⊥
some_apart_inside x is = absurd cc

-- what is promised where no value is there, of one that is none of those there are
pub none_is : {A : Type 0} {X : Type 0} (o : Option A) → ((x : A) → o ≡ Some x → ⊥) → IfNone o X → X
none_is None never is = is
none_is (Some x) never is = absurd (never x refl)

-- what one fact, or two, on a value that is there make
pub if_some_both : {X : Type 0} (o : Option X) (P Q : X → Type 0) → ((x : X) → P x → Q x) → IfSome o P → IfSome o Q
if_some_both None P Q f p = tt
if_some_both (Some x) P Q f p = f x p

pub some_both : {X : Type 0} (o : Option X) (P Q R : X → Type 0) → ((x : X) → P x → Q x → R x) → IfSome o P → IfSome o Q → IfSome o R
some_both None P Q R f p q = tt
some_both (Some x) P Q R f p q = f x p q
