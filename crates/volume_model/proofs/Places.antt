-- Records at places that differ.
use Rattle.std.proofs.Common.{◌≡◌, ℕ, Bool, true, false, List, [], ◌∷◌, ◌++◌, map, Option, Some, None, refl, sym, ap, subst, ◌∙◌, inl, inr}
use Rattle.std.specs.Prelude.{filter, if◌then◌else◌}
use Rattle.std.specs.List.{flat_map, AllByRecursion}
use Rattle.std.proofs.lemmas.Bool.{false≢true}
use Rattle.ex_base.specs.declared.names.Place.{Place}
use Rattle.ex_base.specs.Order.{AllDiffer}
use Rattle.ex_base.proofs.SamePlaces.{same_place_is, at_itself}
use Rattle.version_lists.proofs.Lists.{Has, has_contains, contains_has, has_map, has_map_from, has_filter_from, has_front, find_has, find_none}
use Rattle.version_lists.proofs.Sorted.{Unlike}
use Rattle.volume_model.specs.Volume.{Stored, lies_at, stands_at}
use Rattle.volume_model.specs.Links.{place_in}

-- ---- items of which something differs

abbrev pub Sep : {A B : Type 0} → (A → B) → List A → Type 0
Sep f [] = Unit {0}
Sep {A} f (x ∷ xs) = ((y : A) → Has xs y → f x ≡ f y → ⊥) × Sep f xs

pub sep_from : {A B : Type 0} (f : A → B) (xs : List A) → AllDiffer (map f xs) → Sep f xs
sep_from f [] d = tt
sep_from {A} {B} f (x ∷ xs) d = (λ y m e. d.0 (has_contains (map f xs) (f x) (subst (λ b. Has (map f xs) b) (sym e) (has_map f xs y m))), sep_from f xs d.1)

pub sep_to : {A B : Type 0} (f : A → B) (xs : List A) → Sep f xs → AllDiffer (map f xs)
sep_to f [] s = tt
sep_to {A} {B} f (x ∷ xs) s = (λ c. let r = has_map_from f xs (f x) (contains_has (map f xs) (f x) c) in s.0 r.0 r.1 (sym r.2), sep_to f xs s.1)

pub sep_one : {A B : Type 0} (f : A → B) (xs : List A) (x y : A) → Sep f xs → Has xs x → Has xs y → f x ≡ f y → x ≡ y
sep_one f [] x y s h k e = absurd h
sep_one f (z ∷ zs) x y s (inl h) (inl k) e = sym h ∙ k
sep_one f (z ∷ zs) x y s (inl h) (inr k) e = absurd (s.0 y k (ap f h ∙ e))
sep_one f (z ∷ zs) x y s (inr h) (inl k) e = absurd (s.0 x h (ap f k ∙ sym e))
sep_one f (z ∷ zs) x y s (inr h) (inr k) e = sep_one f zs x y s.1 h k e

pub sep_filter : {A B : Type 0} (f : A → B) (p : A → Bool) (xs : List A) → Sep f xs → Sep f (filter p xs)
sep_filter f p [] s = tt
sep_filter {A} {B} f p (x ∷ xs) s =
    let rest = sep_filter f p xs s.1 in
    elim (p x) as (λ b. Sep f (if b then x ∷ filter p xs else filter p xs)) [ true ↦ (λ y m. s.0 y (has_filter_from p xs y m).0, rest) | false ↦ rest ]

-- where the one is the same, so is the other
pub sep_by : {A B C : Type 0} (f : A → B) (h : A → C) (xs : List A) → ((x y : A) → Has xs x → Has xs y → h x ≡ h y → f x ≡ f y) → Sep f xs → Sep h xs
sep_by f h [] same s = tt
sep_by f h (x ∷ xs) same s = (λ y m e. s.0 y m (same x y (inl refl) (inr m) e), sep_by f h xs (λ y z k l. same y z (inr k) (inr l)) s.1)

pub sep_unlike : {A : Type 0} (key : A → ℕ) (xs : List A) → Sep key xs → Unlike key xs
sep_unlike key [] s = tt
sep_unlike key (x ∷ xs) s = (s.0, sep_unlike key xs s.1)

pub sep_map : {A B C : Type 0} (f : A → B) (h : B → C) (xs : List A) → Sep (λ x. h (f x)) xs → Sep h (map f xs)
sep_map f h [] s = tt
sep_map {A} {B} {C} f h (x ∷ xs) s = (λ y m e. let r = has_map_from f xs y m in s.0 r.0 r.1 (e ∙ ap h (sym r.2)), sep_map f h xs s.1)

pub sep_split : {A B : Type 0} (f : A → B) (xs ys : List A) → Sep f (xs ++ ys) → Sep f xs × Sep f ys
sep_split f [] ys s = (tt, s)
sep_split f (x ∷ xs) ys s = let rest = sep_split f xs ys s.1 in ((λ y m. s.0 y (has_front xs ys y m), rest.0), rest.1)

pub sep_parted : {A B C : Type 0} (f : B → C) (g : A → List B) (xs : List A) → Sep f (flat_map g xs) → AllByRecursion (λ x. Sep f (g x)) xs
sep_parted f g [] s = tt
sep_parted f g (x ∷ xs) s = let both = sep_split f (g x) (flat_map g xs) s in (both.0, sep_parted f g xs both.1)

-- ---- what stands at a place

pub stands_has : (stored : List Stored) (place : Place) (s : Stored) → stands_at place stored ≡ Some s → Has stored s × (s.place ≡ place)
stands_has stored place s e = let r = find_has (lies_at place) stored s e in (r.0, same_place_is s.place place r.1)

pub stands_none : (stored : List Stored) (place : Place) (s : Stored) → stands_at place stored ≡ None → Has stored s → s.place ≡ place → ⊥
stands_none stored place s e h is = false≢true (sym (find_none (lies_at place) stored e s h) ∙ at_itself s.place place is)

pub has_stands : (stored : List Stored) (place : Place) (s : Stored) → Sep place_in stored → Has stored s → s.place ≡ place → stands_at place stored ≡ Some s
has_stands stored place s apart h is = found (stands_at place stored) refl
  where
    found : (o : Option Stored) → stands_at place stored ≡ o → stands_at place stored ≡ Some s
    found None none = absurd (stands_none stored place s none h is)
    found (Some t) some = let r = stands_has stored place t some in some ∙ ap Some (sep_one place_in stored t s apart r.0 h (r.1 ∙ sym is))

-- ---- all of a list

pub each_has : {A : Type 0} (P : A → Type 0) (xs : List A) → AllByRecursion P xs → (x : A) → Has xs x → P x
each_has P [] all x h = absurd h
each_has P (y ∷ ys) all x (inl e) = subst P e all.0
each_has P (y ∷ ys) all x (inr m) = each_has P ys all.1 x m

pub has_each : {A : Type 0} (P : A → Type 0) (xs : List A) → ((x : A) → Has xs x → P x) → AllByRecursion P xs
has_each P [] h = tt
has_each P (y ∷ ys) h = (h y (inl refl), has_each P ys (λ x m. h x (inr m)))
