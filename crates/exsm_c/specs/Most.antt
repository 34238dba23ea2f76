-- A count as 64 bits have it.
use Rattle.std.specs.Prelude.{ℕ, ◌-◌, ◌^◌, nat_lt, if◌then◌else◌}

-- the count, or the largest number of 64 bits
abbrev pub most_of : ℕ → ℕ
most_of count = if nat_lt count (2 ^ 64 - 1) then count else 2 ^ 64 - 1
