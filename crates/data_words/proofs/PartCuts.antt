-- A word cut at the first of a byte.
use Rattle.std.proofs.Common.{◌≡◌, ℕ, ◌+◌, ◌-◌, ◌<◌, ◌≤◌, List, [], ◌∷◌, ◌++◌, length, get_or, take, drop, Bool, false, true, ap, sym, ◌∙◌, arith, length-drop}
use Rattle.std.specs.Prelude.{All}
use Rattle.std.specs.List.{slice_split}
use Rattle.std.proofs.lemmas.List.{take-append-drop, drop_more, take_more, take_all}
use Rattle.std.proofs.lemmas.List.Elements.{All-push}
use Rattle.std.proofs.lemmas.List.Splits.{slice_split_at, slice_split_none}

module _ (p : ℕ → Bool) where
  pub free_more : (xs : List ℕ) (i : ℕ) → i < length xs → All (λ x. p x ≡ false) (take i xs) → p (get_or xs i 0) ≡ false → All (λ x. p x ≡ false) (take (i + 1) xs)
  free_more xs i h all free = rw (take_more xs i 0 h) (All-push (λ x. p x ≡ false) (take i xs) (get_or xs i 0) all free)

  pub cut_at : (xs : List ℕ) (i : ℕ) → i < length xs → All (λ x. p x ≡ false) (take i xs) → p (get_or xs i 0) ≡ true →
      slice_split p xs ≡ take i xs ∷ slice_split p (take (length xs - (i + 1)) (drop (i + 1) xs))
  cut_at xs i h all hit =
      let fits : length (drop (i + 1) xs) ≤ length xs - (i + 1) = rw (length-drop (i + 1) xs) (omega arith) in
      let whole : xs ≡ take i xs ++ (get_or xs i 0 ∷ drop (i + 1) xs) = sym (take-append-drop i xs) ∙ ap (λ ys. take i xs ++ ys) (drop_more xs i 0 h) in
      rw (take_all (length xs - (i + 1)) (drop (i + 1) xs) fits)
      (ap (slice_split p) whole ∙ slice_split_at p (take i xs) (get_or xs i 0) (drop (i + 1) xs) all hit)

  pub uncut : (xs : List ℕ) (i : ℕ) → length xs ≤ i → All (λ x. p x ≡ false) (take i xs) → slice_split p xs ≡ xs ∷ []
  uncut xs i h all = slice_split_none p xs (rw (take_all i xs h) at all)
