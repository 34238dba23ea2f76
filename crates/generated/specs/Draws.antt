-- The numbers that are drawn for the script.
use Rattle.std.specs.Prelude.{ℕ, zero, suc, ◌+◌, ◌*◌, ◌/◌, ◌%◌, ◌^◌}

-- the state after a draw
unfoldable pub stirred : ℕ → ℕ
stirred x = (x * 6364136223846793005 + 1442695040888963407) % 2 ^ 64

-- what a state gives: its high bits
unfoldable pub drawn : ℕ → ℕ
drawn x = x / 2 ^ 33

-- the state after so many draws
abbrev pub state_after : ℕ → ℕ → ℕ
state_after zero x = x
state_after (suc n) x = state_after n (stirred x)

-- the draw of that number, from 1 on
abbrev pub draw_of : ℕ → ℕ → ℕ
draw_of n x = drawn (state_after n x)
