use Rattle.std.proofs.Common.{◌≡◌, ◌<◌, ◌-◌, ◌^◌, drop, map}
use Rattle.std.specs.Int.Digits.{number_from_digits_after}
use Rattle.table_model.specs.Words.{number_of}
use Rattle.data_words.proofs.digits.number_of.Given as goal

-- the digits that are left complete the number
abbrev pub invariant-loop-digit : goal.invariant-loop-digit
invariant-loop-digit l = record {
  small : l.n < 2 ^ 64;
  whole : number_from_digits_after 10 l.n (map (λ b. b - 48) (drop l.digit-index l.digits)) ≡ number_of l.digits;
}
