-- Where the first word of a line starts and ends.
use Rattle.std.proofs.Common.{ℕ, ◌≡◌, ◌∙◌, ◌<◌, ◌≤◌, ◌+◌, zero, suc, sym, ap, refl, Bool, true, false, not, List, [], ◌∷◌, Some, None, length, take, drop, get_or, arith}
use Rattle.std.specs.List.{slice_split, onto_first, filter, position_or_len, position}
use Rattle.std.specs.Prelude.{nat_lt}
use Rattle.std.proofs.lemmas.Bool.Decides.{nat_tests}
use Rattle.std.proofs.lemmas.List.{drop_all, drop_more}
use Rattle.std.proofs.lemmas.List.Sums.{fails_before_first}
use Rattle.std.proofs.lemmas.List.Quantifiers.{position-Some}
use Rattle.std.proofs.lemmas.Bool.{not-false, not-true}
use Rattle.script_lang.specs.LineWords.{is_blank, is_nonempty, words_of}

-- a blank in front changes nothing
blank_first : (b : ℕ) (xs : List ℕ) → is_blank b ≡ true → words_of (b ∷ xs) ≡ words_of xs
blank_first b xs e = rw e refl

-- nor do several
pub blanks_first : (k : ℕ) (xs : List ℕ) → k ≤ length xs → ((j : ℕ) → j < k → is_blank (get_or xs j 0) ≡ true) → words_of xs ≡ words_of (drop k xs)
blanks_first zero xs h all = refl
blanks_first (suc k) [] h all = absurd (omega arith)
blanks_first (suc k) (x ∷ xs) h all =
    blank_first x xs (all 0 (omega arith)) ∙ blanks_first k xs (omega arith) (λ j lt. all (suc j) (omega arith))

-- ---- the first part, and the others, of which the words are those after it

abbrev pub end_of : List ℕ → ℕ
end_of xs = position_or_len is_blank xs

abbrev Cut : List ℕ → Type 0
Cut xs = (parts : List (List ℕ)) × (slice_split is_blank xs ≡ take (end_of xs) xs ∷ parts) × (filter is_nonempty parts ≡ words_of (drop (end_of xs) xs))

end_zero : (x : ℕ) (xs : List ℕ) → is_blank x ≡ true → end_of (x ∷ xs) ≡ 0
end_zero x xs e = rw e refl

end_more : (x : ℕ) (xs : List ℕ) → is_blank x ≡ false → end_of (x ∷ xs) ≡ suc (end_of xs)
end_more x xs e = rw e (omega arith)

cut : (xs : List ℕ) → Cut xs
cut [] = ([], refl, refl)
cut (x ∷ xs) = go (is_blank x) refl (cut xs)
  where
    go : (b : Bool) → is_blank x ≡ b → Cut xs → Cut (x ∷ xs)
    go true e rest = (
      slice_split is_blank xs,
      rw e refl,
      sym (blank_first x xs e) ∙ ap (λ n. words_of (drop n (x ∷ xs))) (sym (end_zero x xs e)),
    )
    go false e (parts, split, words) =
        let first : slice_split is_blank (x ∷ xs) ≡ onto_first x (slice_split is_blank xs) = rw e refl in (
          parts,
          first ∙ ap (onto_first x) split ∙ ap (λ n. take n (x ∷ xs) ∷ parts) (sym (end_more x xs e)),
          words ∙ ap (λ n. words_of (drop n (x ∷ xs))) (sym (end_more x xs e)),
        )

nonempty_suc : (n : ℕ) → nat_lt 0 (suc n) ≡ true
nonempty_suc n = grind (arith, nat_tests)

-- a word in front is the first
pub word_first : (x : ℕ) (xs : List ℕ) → is_blank x ≡ false
    → words_of (x ∷ xs) ≡ take (end_of (x ∷ xs)) (x ∷ xs) ∷ words_of (drop (end_of (x ∷ xs)) (x ∷ xs))
word_first x xs e = go (cut (x ∷ xs))
  where
    go : Cut (x ∷ xs) → words_of (x ∷ xs) ≡ take (end_of (x ∷ xs)) (x ∷ xs) ∷ words_of (drop (end_of (x ∷ xs)) (x ∷ xs))
    go (parts, split, words) =
        let filled : (n : ℕ) → n ≡ suc (end_of xs) → filter is_nonempty (take n (x ∷ xs) ∷ parts) ≡ take n (x ∷ xs) ∷ filter is_nonempty parts = λ n m. rw m (rw (nonempty_suc (length (take (end_of xs) xs))) refl) in
        ap (filter is_nonempty) split ∙ filled (end_of (x ∷ xs)) (end_more x xs e) ∙ ap (λ ws. take (end_of (x ∷ xs)) (x ∷ xs) ∷ ws) words

-- ---- a line

-- no byte but blanks
pub no_word : (xs : List ℕ) → position (λ b. not (is_blank b)) xs ≡ None → words_of xs ≡ []
no_word xs e = go (nat_lt (position_or_len (λ b. not (is_blank b)) xs) (length xs)) refl
  where
    go : (b : Bool) → nat_lt (position_or_len (λ b. not (is_blank b)) xs) (length xs) ≡ b → words_of xs ≡ []
    go true t = let bad : Some (position_or_len (λ b. not (is_blank b)) xs) ≡ None = rw t at e in cc
    go false t =
        let far : length xs ≤ position_or_len (λ b. not (is_blank b)) xs = grind (arith, nat_tests) in
        blanks_first (length xs) xs (omega arith) (λ j lt. not-false _ (fails_before_first (λ b. not (is_blank b)) xs j 0 (omega arith)))
        ∙ ap words_of (drop_all (length xs) xs (omega arith))

-- the first word stands where the first other byte does
pub word_at : (xs : List ℕ) (i : ℕ) → position (λ b. not (is_blank b)) xs ≡ Some i
    → words_of xs ≡ take (end_of (drop i xs)) (drop i xs) ∷ words_of (drop (end_of (drop i xs)) (drop i xs))
word_at xs i e =
    let at = position-Some (λ b. not (is_blank b)) xs i 0 e in
    let shape = drop_more xs i 0 at.0 in
    blanks_first i xs (omega arith) (λ j lt. not-false _ (at.2 j lt))
    ∙ (λ k. words_of (shape k))
    ∙ word_first (get_or xs i 0) (drop (i + 1) xs) (not-true _ at.1)
    ∙ (λ k. let l : List ℕ = sym shape k in take (end_of l) l ∷ words_of (drop (end_of l) l))

pub end_of-le : (xs : List ℕ) → end_of xs ≤ length xs
end_of-le [] = omega arith
end_of-le (x ∷ xs) = go (is_blank x) refl (end_of-le xs)
  where
    go : (b : Bool) → is_blank x ≡ b → end_of xs ≤ length xs → end_of (x ∷ xs) ≤ length (x ∷ xs)
    go true e h = rw (end_zero x xs e) (omega arith)
    go false e h = rw (end_more x xs e) (omega arith)
