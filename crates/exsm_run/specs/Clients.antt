-- What `clients` sends and leaves.
use Rattle.std.specs.Prelude.{◌≡◌, ◌≤◌, ◌<◌, ◌+◌, ◌⊎◌, ℕ, Option, Some, List, [], drop, length}
use Rattle.ex_base.specs.declared.faults.Seen.{Seen}
use Rattle.ex_base.specs.declared.names.PageNo.{PageNo}
use Rattle.disk_model.specs.Outside.{Outside}
use Rattle.engines.specs.Keeping.{DamagedStep}
use Rattle.table_model.specs.declared.table.Table.{Table}
use Rattle.talks.specs.declared.stopped.Stopped.{Stopped}
use Rattle.clients.specs.Headline.{Served}
use Rattle.session_core.specs.Meant.{meant}
use Rattle.command_line.specs.declared.status.Status.{Status}
use Rattle.command_line.specs.declared.status.Status.TheVariants.{Damaged, Done, Memory, ScriptLong}
use Rattle.exsm_run.specs.Begun.{BeginsOrNot}
use Rattle.exsm_run.specs.Fresh.{IsFresh}
use Rattle.exsm_run.specs.Kept.{volume_steps}
use Rattle.exsm_run.specs.Openings.{OpeningPromise}
use Rattle.exsm_run.specs.Script.{HoldsVolume, IsOnVolume, MayRun, IsRunStatus, status_of}

-- The serving of a schedule of at most so many bytes ended with this status, and this is what it did.
pub record ServedAs {H : Type 0} (outside : H → Outside) (most : ℕ) (table : Table) (was : List ℕ) (before after : Outside) (status : Status) : Type 0 where
  pub ending : Option Stopped
  pub is : status ≡ status_of most ending
  pub served : Served meant (volume_steps outside) IsFresh table was most before after ending

-- What `clients` promises, where at most so many bytes of a schedule count.
pub record ClientsPromise {H : Type 0} (outside : H → Outside) (most : ℕ) (before after : Outside) (status : Status) : Type 0 where
  -- what was replied to each client, from view to view, what each step kept, and what a stop at any moment leaves
  pub headline : (table : Table) (was : List ℕ) → IsOnVolume before table was → ServedAs outside most table was before after status
  -- On a volume nothing but a fault of the outside, want of memory or too long a schedule stops it, and without those it reaches the schedule's end.
  pub sound : (table : Table) (was : List ℕ) → HoldsVolume before table was → IsRunStatus status
  pub completes : MayRun most before after → (status ≡ Done) ⊎ (status ≡ Memory)
  -- The schedule is read to its end, or it is too long: exactly where the source gave more bytes than count. Of these it loses one more at most,
  -- however the serving ends, and what is left is the rest.
  pub reads_all : status ≡ Done → (script : List ℕ) → before.left ≡ Some script → after.left ≡ Some []
  pub within : status ≡ Done → (script : List ℕ) → before.left ≡ Some script → length script ≤ most
  pub long : (max : ℕ) → status ≡ ScriptLong max → (script : List ℕ) → before.left ≡ Some script → (max ≡ most) × (most < length script)
  pub draws : (script : List ℕ) → before.left ≡ Some script → (n : ℕ) × (n ≤ most + 1) × (after.left ≡ Some (drop n script))
  -- A damaged page is told as the step that found it has it.
  pub damaged : (page : PageNo) (want got : Seen) → status ≡ Damaged page want got → DamagedStep (volume_steps outside) before after page want got
  -- The disk holds a volume, or nothing is done.
  pub opening : OpeningPromise before after status
  -- First its volume is opened, and that writes as an opening does.
  pub begins : BeginsOrNot outside before after status
