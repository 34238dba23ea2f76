-- What a host in memory is asked to do beside its work.
use Rattle.std.specs.Prelude.{ℕ, List, Option, Some, None, Contains, ◌⊎◌, ◌<◌}

pub record Plan : Type 0 where
  -- the numbers of the calls that fail
  pub failing : List ℕ
  -- the numbers of the reads that give zero bytes
  pub lying : List ℕ
  -- the number of the last call that may work, where the host stops
  pub stop : Option ℕ
  -- how many bytes a take or put moves at most
  pub piece : ℕ

-- The host has stopped before the call of this number.
abbrev pub HasStopped : Option ℕ → ℕ → Type 0
HasStopped (Some last) number = last < number
HasStopped None number = ⊥

-- The call of this number fails.
abbrev pub IsFailing : Plan → ℕ → Type 0
IsFailing plan number = Contains plan.failing number ⊎ HasStopped plan.stop number

-- The read of this number lies.
abbrev pub IsLying : Plan → ℕ → Type 0
IsLying plan number = Contains plan.lying number
