-- Searches of a list of lists, from one place on.
use Rattle.std.proofs.Common.{◌≡◌, ℕ, ◌+◌, ◌<◌, List, length, get_or, drop, ap, sym, Bool, false, true, ◌||◌, Option, ◌∙◌}
use Rattle.std.specs.Prelude.{find, flat_map, Some, None}
use Rattle.std.specs.List.{list_any}
use Rattle.std.specs.Option.{option_or}
use Rattle.std.proofs.lemmas.List.{at_drop_more}
use Rattle.std.proofs.lemmas.List.Folds.{find-append, list_any-append}

module _ {X A : Type 0} (p : A → Bool) (f : X → List A) where
  pub find_flat : (xs : List X) (i : ℕ) (d : X) → i < length xs →
      find p (flat_map f (drop i xs)) ≡ option_or (find p (f (get_or xs i d))) (find p (flat_map f (drop (i + 1) xs)))
  find_flat xs i d h = at_drop_more (λ ys. find p (flat_map f ys)) xs i d h ∙ find-append p (f (get_or xs i d)) (flat_map f (drop (i + 1) xs))

  pub any_flat : (xs : List X) (i : ℕ) (d : X) → i < length xs →
      list_any p (flat_map f (drop i xs)) ≡ (list_any p (f (get_or xs i d)) || list_any p (flat_map f (drop (i + 1) xs)))
  any_flat xs i d h = at_drop_more (λ ys. list_any p (flat_map f ys)) xs i d h ∙ list_any-append p (f (get_or xs i d)) (flat_map f (drop (i + 1) xs))

  -- what isn't found in one part is found in what is left, or not at all
  pub missed : (xs : List X) (i : ℕ) (o : X) (all : Option A) → i < length xs → o ≡ get_or xs i o →
      find p (flat_map f (drop i xs)) ≡ all → find p (f o) ≡ None → find p (flat_map f (drop (i + 1) xs)) ≡ all
  missed xs i o all h e inv none =
      sym (ap (λ r. option_or r (find p (flat_map f (drop (i + 1) xs)))) (ap (λ x. find p (f x)) (sym e) ∙ none)) ∙ sym (find_flat xs i o h) ∙ inv

  pub found : (xs : List X) (i : ℕ) (o : X) (all : Option A) (a : A) → i < length xs → o ≡ get_or xs i o →
      find p (flat_map f (drop i xs)) ≡ all → find p (f o) ≡ Some a → Some a ≡ all
  found xs i o all a h e inv some =
      sym (ap (λ r. option_or r (find p (flat_map f (drop (i + 1) xs)))) (ap (λ x. find p (f x)) (sym e) ∙ some)) ∙ sym (find_flat xs i o h) ∙ inv

  pub none_there : (xs : List X) (i : ℕ) (o : X) (all : Bool) → i < length xs → o ≡ get_or xs i o →
      list_any p (flat_map f (drop i xs)) ≡ all → list_any p (f o) ≡ false → list_any p (flat_map f (drop (i + 1) xs)) ≡ all
  none_there xs i o all h e inv none =
      sym (ap (λ r. r || list_any p (flat_map f (drop (i + 1) xs))) (ap (λ x. list_any p (f x)) (sym e) ∙ none)) ∙ sym (any_flat xs i o h) ∙ inv

  pub some_there : (xs : List X) (i : ℕ) (o : X) (all : Bool) → i < length xs → o ≡ get_or xs i o →
      list_any p (flat_map f (drop i xs)) ≡ all → list_any p (f o) ≡ true → true ≡ all
  some_there xs i o all h e inv some =
      sym (ap (λ r. r || list_any p (flat_map f (drop (i + 1) xs))) (ap (λ x. list_any p (f x)) (sym e) ∙ some)) ∙ sym (any_flat xs i o h) ∙ inv
