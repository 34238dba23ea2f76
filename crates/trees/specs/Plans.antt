-- Which plans have lengths.
use Rattle.std.specs.Prelude.{◌≡◌, ◌*◌, ◌<◌, ◌≤◌, ℕ, true}
use Rattle.ex_base.specs.Even.{least_parts}
use Rattle.trees.specs.declared.plans.Plan.{Plan}

-- The leaves hold the total, and there is at least one. Where all but two are full, they are the least number of leaves that hold it, and it doesn't
-- fit one leaf.
pub record IsPlan (full : ℕ) (plan : Plan) : Type 0 where
  pub some : 1 ≤ plan.leaves
  pub fits : plan.total ≤ plan.leaves * full
  pub tail : plan.tail ≡ true → (full < plan.total) × (plan.leaves ≡ least_parts full plan.total)
