-- What holds of each item of a list, and of the items of two lists side by side.
use Rattle.std.proofs.Common.{◌≡◌, ◌<◌, ℕ, zero, suc, List, [], ◌∷◌, ◌++◌, length, map, get_or, refl, arith}
use Rattle.std.specs.Prelude.{Contains}
use Rattle.std.specs.List.{flat_map, AllByRecursion, AllZip}
use Rattle.ex_base.proofs.Rows.{each-append}
use Rattle.ex_base.proofs.Members.{contains_later}

-- each item has what follows from what it has
pub each_as : {A : Type 0} (P Q : A → Type 0) (xs : List A) → ((x : A) → P x → Q x) → AllByRecursion P xs → AllByRecursion Q xs
each_as P Q [] f p = tt
each_as P Q (x ∷ xs) f p = (f x p.0, each_as P Q xs f p.1)

-- and what follows from two facts
pub each_with : {A : Type 0} (P Q R : A → Type 0) (xs : List A) → ((x : A) → P x → Q x → R x) → AllByRecursion P xs → AllByRecursion Q xs → AllByRecursion R xs
each_with P Q R [] f p q = tt
each_with P Q R (x ∷ xs) f p q = (f x p.0 q.0, each_with P Q R xs f p.1 q.1)

-- ---- one item

pub each_of : {A : Type 0} (P : A → Type 0) (xs : List A) (x : A) → AllByRecursion P xs → Contains xs x → P x
each_of P [] x each (k, lt, is) = absurd (omega arith)
each_of P (y ∷ xs) x each (zero, lt, is) = rw is at each.0
each_of P (y ∷ xs) x each (suc k, lt, is) = each_of P xs x each.1 (k, omega arith, is)

pub each_at : {A : Type 0} (P : A → Type 0) (xs : List A) (i : ℕ) (d : A) → i < length xs → AllByRecursion P xs → P (get_or xs i d)
each_at P [] i d lt each = absurd (omega arith)
each_at P (x ∷ xs) zero d lt each = each.0
each_at P (x ∷ xs) (suc i) d lt each = each_at P xs i d (omega arith) each.1

-- each has what every item that stands in the list has
pub each_from : {A : Type 0} (P : A → Type 0) (xs : List A) → ((x : A) → Contains xs x → P x) → AllByRecursion P xs
each_from P [] f = tt
each_from P (x ∷ xs) f = (f x (zero, omega arith, refl), each_from P xs (λ y here. f y (contains_later x y xs here)))

-- ---- the parts of a list

pub split_each : {A : Type 0} (P : A → Type 0) (xs ys : List A) → AllByRecursion P (xs ++ ys) → AllByRecursion P xs × AllByRecursion P ys
split_each P [] ys h = (tt, h)
split_each P (x ∷ xs) ys h = let rest = split_each P xs ys h.1 in ((h.0, rest.0), rest.1)

pub each_mapped : {A B : Type 0} (P : B → Type 0) (f : A → B) (xs : List A) → AllByRecursion (λ x. P (f x)) xs → AllByRecursion P (map f xs)
each_mapped P f [] h = tt
each_mapped P f (x ∷ xs) h = (h.0, each_mapped P f xs h.1)

pub each_unmapped : {A B : Type 0} (P : B → Type 0) (f : A → B) (xs : List A) → AllByRecursion P (map f xs) → AllByRecursion (λ x. P (f x)) xs
each_unmapped P f [] h = tt
each_unmapped P f (x ∷ xs) h = (h.0, each_unmapped P f xs h.1)

pub each_joined : {A B : Type 0} (P : B → Type 0) (f : A → List B) (xs : List A) → AllByRecursion (λ x. AllByRecursion P (f x)) xs → AllByRecursion P (flat_map f xs)
each_joined P f [] h = tt
each_joined P f (x ∷ xs) h = each-append P (f x) (flat_map f xs) h.0 (each_joined P f xs h.1)

pub each_parted : {A B : Type 0} (P : B → Type 0) (f : A → List B) (xs : List A) → AllByRecursion P (flat_map f xs) → AllByRecursion (λ x. AllByRecursion P (f x)) xs
each_parted P f [] h = tt
each_parted P f (x ∷ xs) h = let both = split_each P (f x) (flat_map f xs) h in (both.0, each_parted P f xs both.1)

-- ---- what is made of each item is the same where it is for each that has K

pub map_same : {A B : Type 0} (f g : A → B) (K : A → Type 0) (xs : List A) → ((x : A) → K x → g x ≡ f x) → AllByRecursion K xs → map g xs ≡ map f xs
map_same f g K [] same k = refl
map_same f g K (x ∷ xs) same k = let here = same x k.0 in let rest = map_same f g K xs same k.1 in cc (here, rest)

pub flat_same : {A B : Type 0} (f g : A → List B) (K : A → Type 0) (xs : List A) → ((x : A) → K x → g x ≡ f x) → AllByRecursion K xs → flat_map g xs ≡ flat_map f xs
flat_same f g K [] same k = refl
flat_same f g K (x ∷ xs) same k = let here = same x k.0 in let rest = flat_same f g K xs same k.1 in cc (here, rest)

-- ---- two lists side by side

pub zip_as : {A B : Type 0} (P R : A → B → Type 0) (xs : List A) (ys : List B) → ((x : A) (y : B) → P x y → R x y) → AllZip P xs ys → AllZip R xs ys
zip_as P R [] [] f p = tt
zip_as P R [] (y ∷ ys) f p = p
zip_as P R (x ∷ xs) [] f p = p
zip_as P R (x ∷ xs) (y ∷ ys) f p = (f x y p.0, zip_as P R xs ys f p.1)

pub zip_with : {A B : Type 0} (K : B → Type 0) (P R : A → B → Type 0) (xs : List A) (ys : List B) → ((x : A) (y : B) → K y → P x y → R x y) → AllByRecursion K ys → AllZip P xs ys → AllZip R xs ys
zip_with K P R [] [] f k p = tt
zip_with K P R [] (y ∷ ys) f k p = p
zip_with K P R (x ∷ xs) [] f k p = p
zip_with K P R (x ∷ xs) (y ∷ ys) f k p = (f x y k.0 p.0, zip_with K P R xs ys f k.1 p.1)
