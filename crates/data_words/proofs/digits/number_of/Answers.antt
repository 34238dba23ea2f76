use Rattle.std.proofs.Common.{◌+◌, ◌*◌, ◌-◌, get_or, drop, map, List, ℕ, arith}
use Rattle.std.specs.Int.Digits.{number_from_digits_after}
use Rattle.std.proofs.lemmas.Int.Digits.{number_after_ge}
use Rattle.std.proofs.lemmas.List.{at_drop_more}
use Rattle.data_words.proofs.digits.number_of.Goals as goal

pub returns-then-next-from-clause-large : goal.returns-then-next-from-clause-large
returns-then-next-from-clause-large c =
    let ds = c.args.digits.now in
    let i = c.loop-digit.digit-index in
    let more = at_drop_more (λ (xs : List ℕ). number_from_digits_after 10 c.loop-digit.n (map (λ b. b - 48) xs)) ds i 0 c.loop-digit-test.true in
    let ge = number_after_ge 10 (c.loop-digit.n * 10 + (get_or ds i 0 - 48)) (map (λ b. b - 48) (drop (i + 1) ds)) (omega arith) in
    rw (← c.loop-digit.invariant.whole) (rw more (omega (arith, ge)))
