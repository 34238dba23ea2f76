-- Which words are the number of a client.
use Rattle.std.proofs.Common.{◌≡◌, ◌⊎◌, ◌∙◌, ◌≤◌, ◌+◌, ◌-◌, ℕ, List, [], ◌∷◌, length, get_or, inl, inr, ⊎_elim, sym, ap, subst, arith}
use Rattle.std.specs.Prelude.{decimal}
use Rattle.std.proofs.lemmas.Fmt.{decimal_digit}
use Rattle.clients.specs.Names.{IsClient}
use Rattle.clients.specs.Numbers.{two_forms}

-- one digit from 1 on
abbrev pub IsOneDigit : List ℕ → Type 0
IsOneDigit word = (length word ≡ 1) × (49 ≤ get_or word 0 0) × (get_or word 0 0 ≤ 57)

-- 1 and a digit up to 6
abbrev pub IsTwoDigits : List ℕ → Type 0
IsTwoDigits word = (length word ≡ 2) × (get_or word 0 0 ≡ 49) × (48 ≤ get_or word 1 0) × (get_or word 1 0 ≤ 54)

pub number_reads : (word : List ℕ) (k : ℕ) → IsClient k → word ≡ decimal k → IsOneDigit word ⊎ IsTwoDigits word
number_reads word k few is =
    ⊎_elim (λ one. inl (subst IsOneDigit (sym (is ∙ one.1)) (omega arith, omega (arith, few.0), omega (arith, one.0))))
    (λ two. inr (subst IsTwoDigits (sym (is ∙ two.1)) (omega arith, omega arith, omega (arith, two.0), omega (arith, few.1)))) (two_forms k few.1)

pub one_digit : (word : List ℕ) → length word ≡ 1 → 49 ≤ get_or word 0 0 → get_or word 0 0 ≤ 57 → word ≡ decimal (get_or word 0 0 - 48)
one_digit [] one low high = absurd (omega (arith, one))
one_digit (x ∷ []) one low high =
    let same : 48 + (x - 48) ≡ x = omega (arith, low) in
    ap (λ (n : ℕ). n ∷ []) (sym same) ∙ sym (decimal_digit (x - 48) (omega (arith, high)))
one_digit (x ∷ y ∷ ys) one low high = absurd (omega (arith, one))

pub two_digits : (word : List ℕ) → length word ≡ 2 → get_or word 0 0 ≡ 49 → 48 ≤ get_or word 1 0 → get_or word 1 0 ≤ 54 → word ≡ decimal (10 + (get_or word 1 0 - 48))
two_digits [] two tens low high = absurd (omega (arith, two))
two_digits (x ∷ []) two tens low high = absurd (omega (arith, two))
two_digits (x ∷ y ∷ []) two tens low high =
    ⊎_elim (λ one. absurd (omega (arith, one.0)))
    (λ form. let same : 38 + (10 + (y - 48)) ≡ y = omega (arith, low) in ap (λ (n : ℕ). n ∷ y ∷ []) tens ∙ ap (λ (n : ℕ). 49 ∷ n ∷ []) (sym same) ∙ sym form.1) (two_forms (10 + (y - 48)) (omega (arith, high)))
two_digits (x ∷ y ∷ z ∷ zs) two tens low high = absurd (omega (arith, two))
