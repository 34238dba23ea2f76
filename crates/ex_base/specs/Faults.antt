-- How a fault of the outside shows in a count.
use Rattle.std.specs.Prelude.{◌≤◌, ℕ, ◌+◌, ◌-◌, ◌^◌, min}

-- The count of faults rose, or it stands at the top of a `u64`, where it can't rise.
abbrev pub Rose : ℕ → ℕ → Type 0
Rose before after = min (before + 1) (2 ^ 64 - 1) ≤ after
