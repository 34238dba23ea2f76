-- What stays of a committed volume while a transaction runs.
use Rattle.std.specs.Prelude.{◌≡◌, ℕ, Bool, true, List, Contains}
use Rattle.op_log.specs.State.{LogState}
use Rattle.volume_model.specs.Committed.{Committed}
use Rattle.volume_model.specs.Shown.{PageRow}
use Rattle.volume_model.specs.Volume.{Decoded, reach_of, table_of, units_of}

-- The unit is used, and it is none of this set.
abbrev pub StaysUsed : (ℕ → Type 0) → (ℕ → Bool) → ℕ → Type 0
StaysUsed freed used unit = (used unit ≡ true) × (freed unit → ⊥)

-- Each unit that the committed volume reaches is one of these.
abbrev pub ReachIsOf : (ℕ → Type 0) → Decoded → List ℕ → Type 0
ReachIsOf stays d disk = (unit : ℕ) → Contains (reach_of (units_of d disk) d.volume) unit → stays unit

-- On the later disk the same is committed, and no image that a crash may leave differs where it matters. The units that stay have the same bytes after
-- the log, and what the volume reaches is as it was, and stays.
pub record StillCommitted (before stays : ℕ → Type 0) (d : Decoded) (disk : List ℕ) (may_leave : List ℕ → Type 0) (later : List ℕ) (log : LogState) (overlay : List PageRow) : Type 0 where
  pub committed : Committed may_leave d later log overlay
  pub units : (unit : ℕ) → before unit → units_of d later unit ≡ units_of d disk unit
  pub reach : reach_of (units_of d later) d.volume ≡ reach_of (units_of d disk) d.volume
  pub table : table_of (units_of d later) d.volume ≡ table_of (units_of d disk) d.volume
  pub reached : ReachIsOf stays d later
