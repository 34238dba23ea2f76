use Rattle.std.proofs.Common.{◌≡◌, ℕ, ◌+◌, ◌*◌, ◌/◌, ◌%◌, slice_index, Ok, Some, refl, ap, ◌∙◌, arith}
use Rattle.hex.specs.Hex.{digit_or_error, hex_digit_value, pair_value, value_at}
use Rattle.hex.proofs.HexLemmas.{decode_of-even}
use Rattle.hex.proofs.Pairs.{decode_step, decode_done}
use Rattle.data_words.proofs.digits.decode_into.Goals as goal

-- the byte of two digits that have values
pair_of : (high low h l i : ℕ) → hex_digit_value high ≡ Some h → hex_digit_value low ≡ Some l → pair_value high low i ≡ Ok (h * 16 + l)
pair_of high low h l i is also =
    let first : value_at high i ≡ Ok h = ap (digit_or_error high i) is in
    let second : value_at low (i + 1) ≡ Ok l = ap (digit_or_error low (i + 1)) also in
    rw (first, second) refl

pub loop-i-preserved : goal.loop-i-preserved
loop-i-preserved c =
    let s = c.args.digits.now in
    let i = c.loop-i.i in
    let halves : c.byte_of.result / 16 * 16 + c.byte_of.result % 16 ≡ c.byte_of.result = omega arith in
    let byte = pair_of (slice_index s (2 * i)) (slice_index s (2 * i + 1)) _ _ (2 * i) c.byte_of.ensures.high c.byte_of.ensures.low ∙ ap (λ (n : ℕ). Ok n) halves in
    decode_step s c.loop-i.out i _ (omega arith) (omega arith) byte c.loop-i.invariant

pub returns : goal.returns
returns c =
    let s = c.args.digits.now in
    decode_of-even s (omega arith) ∙ decode_done s c.loop-i.out c.loop-i.i (omega arith) (omega arith) c.loop-i.invariant
