use Rattle.std.proofs.Common.{◌≡◌, Some, ap, arith, ℕ, ◌∙◌}
use Rattle.data_words.proofs.PairBits.{below, values_of, value_is, value_small}
use Rattle.data_words.proofs.digits.byte_of.Goals as goal

pub overflow_mul-result : goal.overflow_mul-result
overflow_mul-result c =
    omega (arith, values_of c.from.result c.from-2.result (omega (arith, below c.args.high c.requires.first)) (omega (arith, below c.args.low c.requires.second)), value_small c.args.high c.requires.first, value_small c.args.low c.requires.second)

pub overflow_cast-result : goal.overflow_cast-result
overflow_cast-result c =
    omega (arith, values_of c.from.result c.from-2.result (omega (arith, below c.args.high c.requires.first)) (omega (arith, below c.args.low c.requires.second)), value_small c.args.high c.requires.first, value_small c.args.low c.requires.second)

pub returns-clause-high : goal.returns-clause-high
returns-clause-high c =
    value_is c.args.high c.requires.first
    ∙ ap (λ (n : ℕ). Some n)
    (omega (arith, values_of c.from.result c.from-2.result (omega (arith, below c.args.high c.requires.first)) (omega (arith, below c.args.low c.requires.second)), value_small c.args.high c.requires.first, value_small c.args.low c.requires.second))

pub returns-clause-low : goal.returns-clause-low
returns-clause-low c =
    value_is c.args.low c.requires.second
    ∙ ap (λ (n : ℕ). Some n)
    (omega (arith, values_of c.from.result c.from-2.result (omega (arith, below c.args.high c.requires.first)) (omega (arith, below c.args.low c.requires.second)), value_small c.args.high c.requires.first, value_small c.args.low c.requires.second))
