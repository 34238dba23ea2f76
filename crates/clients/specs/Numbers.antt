-- How the number of a client is written.
use Rattle.std.proofs.Common.{◌≡◌, ◌⊎◌, ◌∙◌, ◌<◌, ◌≤◌, ◌+◌, ◌/◌, ◌%◌, ℕ, Bool, true, false, nat_lt, List, [], ◌∷◌, ◌++◌, length, inl, inr, ⊎_elim, refl, ap, arith}
use Rattle.std.specs.Prelude.{decimal}
use Rattle.std.proofs.lemmas.Bool.Decides.{nat_tests}
use Rattle.std.proofs.lemmas.Fmt.{decimal_digit, decimal_step}
use Rattle.table_model.specs.Words.{number_of}
use Rattle.clients.specs.Names.{clients_most}

-- one digit, or two of which the first is 1
abbrev pub TwoForms : ℕ → Type 0
TwoForms k = ((k < 10) × (decimal k ≡ (48 + k) ∷ [])) ⊎ ((10 ≤ k) × (decimal k ≡ 49 ∷ (38 + k) ∷ []))

pub two_forms : (k : ℕ) → k ≤ clients_most → TwoForms k
two_forms k few = by_size (nat_lt k 10) refl
  where
    by_size : (less : Bool) → nat_lt k 10 ≡ less → TwoForms k
    by_size true is = let low : k < 10 = grind (arith, nat_tests) in inl (low, decimal_digit k low)
    by_size false is =
        let high : 10 ≤ k = grind (arith, nat_tests) in
        let first : k / 10 ≡ 1 = omega (arith, high, few) in
        let second : 48 + k % 10 ≡ 38 + k = omega (arith, high, few) in
        inr (high, decimal_step k high (omega (arith, few)) ∙ (λ i. decimal (first i) ++ (second i ∷ [])) ∙ ap (λ (l : List ℕ). l ++ (38 + k) ∷ []) (decimal_digit 1 (omega arith)))

-- It is read back.
pub number_back : (k : ℕ) → k ≤ clients_most → number_of (decimal k) ≡ k
number_back k few =
    ⊎_elim (λ one. ap number_of one.1 ∙ omega arith) (λ two. ap number_of two.1 ∙ (let high : 10 ≤ k = two.0 in omega (arith, high))) (two_forms k few)

pub short_number : (k : ℕ) → k ≤ clients_most → length (decimal k) ≤ 2
short_number k few = ⊎_elim (λ one. rw one.1 (omega arith)) (λ two. rw two.1 (omega arith)) (two_forms k few)
