-- Two digits that are looked at together.
use Rattle.std.proofs.Common.{◌≡◌, ◌<◌, ◌+◌, ◌*◌, ◌/◌, ◌%◌, ◌^◌, ℕ, Some, true, ap, arith, ◌∙◌}
use Rattle.hex.specs.Hex.{hex_digit_value, is_hex_digit}
use Rattle.std.specs.Int.Bits.{bit_and}
use Rattle.std.proofs.lemmas.Nat.{and_block, and_mask}

-- the last four bits of both
last_four : (a b : ℕ) → a < 256 → bit_and (a + b * 256) 3855 ≡ b % 16 * 256 + a % 16
last_four a b small =
    ap (λ (n : ℕ). bit_and n 3855) (let e : a + b * 256 ≡ b * 2 ^ 8 + a = omega arith in e)
    ∙ and_block 8 b 15 a 15 (omega arith) (omega arith)
    ∙ ap (λ (n : ℕ). n * 256 + bit_and a 15) (and_mask b 4)
    ∙ ap (λ (n : ℕ). b % 16 * 256 + n) (and_mask a 4)

-- whether each is a letter
letters : (a b : ℕ) → a < 128 → b < 128 → bit_and ((a + b * 256) / 64) 257 ≡ b / 64 * 256 + a / 64
letters a b first second =
    ap (λ (n : ℕ). bit_and n 257) (let e : (a + b * 256) / 64 ≡ b / 64 * 2 ^ 8 + (b % 64 * 4 + a / 64) = omega arith in e)
    ∙ and_block 8 (b / 64) 1 (b % 64 * 4 + a / 64) 1 (omega arith) (omega arith)
    ∙ ap (λ (n : ℕ). n * 256 + bit_and (b % 64 * 4 + a / 64) 1) (and_mask (b / 64) 1)
    ∙ ap (λ (n : ℕ). b / 64 % 2 * 256 + n) (and_mask (b % 64 * 4 + a / 64) 1)
    ∙ (let e : b / 64 % 2 * 256 + (b % 64 * 4 + a / 64) % 2 ≡ b / 64 * 256 + a / 64 = omega arith in e)

-- the values of both
pub values_of : (a b : ℕ) → a < 128 → b < 128
    → bit_and (a + b * 256) 3855 + bit_and ((a + b * 256) / 64) 257 * 9 ≡ (b % 16 + b / 64 * 9) * 256 + (a % 16 + a / 64 * 9)
values_of a b first second =
    ap (λ (n : ℕ). n + bit_and ((a + b * 256) / 64) 257 * 9) (last_four a b (omega arith))
    ∙ ap (λ (n : ℕ). b % 16 * 256 + a % 16 + n * 9) (letters a b first second)
    ∙ (let e : b % 16 * 256 + a % 16 + (b / 64 * 256 + a / 64) * 9 ≡ (b % 16 + b / 64 * 9) * 256 + (a % 16 + a / 64 * 9) = omega arith in e)

-- ---- one digit

pub below : (d : ℕ) → is_hex_digit d ≡ true → d < 128
below d h = grind (arith)

pub value_small : (d : ℕ) → is_hex_digit d ≡ true → d % 16 + d / 64 * 9 < 16
value_small d h = grind (arith)

pub value_is : (d : ℕ) → is_hex_digit d ≡ true → hex_digit_value d ≡ Some (d % 16 + d / 64 * 9)
value_is d h = grind (arith)
