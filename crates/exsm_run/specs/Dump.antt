-- What `dump` sends and leaves.
use Rattle.std.specs.Prelude.{◌≡◌, ◌≢◌, ◌⊎◌, ℕ, IsTrue, Some, List}
use Rattle.disk_model.specs.Outside.{Outside, Leaves}
use Rattle.table_model.specs.declared.table.Table.{Table}
use Rattle.session_views.specs.Opening.{StandsOpening}
use Rattle.session_core.specs.Meant.{meant}
use Rattle.volume_model.specs.Parts.{StandsFor}
use Rattle.history_dump.specs.Sending.{SendsWhole, SendsPart}
use Rattle.history_dump.specs.declared.fault.DumpFault.{DumpFault}
use Rattle.history_dump.specs.declared.fault.DumpFault.TheVariants as fault
use Rattle.command_line.specs.declared.status.Status.{Status}
use Rattle.command_line.specs.declared.status.Status.TheVariants.{Done, OutputFault, DiskFault, Memory, Damaged}
use Rattle.exsm_run.specs.Check.{IsLineStatus, MaySend}
use Rattle.exsm_run.specs.Openings.{OpeningPromise, WritesAsOpening}
use Rattle.exsm_run.specs.Script.{HoldsVolume, IsOnVolume}

-- the status where a stream wasn't sent whole
abbrev pub failed_status : DumpFault → Status
failed_status fault.Output = OutputFault
failed_status fault.Disk = DiskFault
failed_status fault.Memory = Memory
failed_status (fault.Damaged page want got) = Damaged page want got

-- The disk holds the volume, and behind what was sent before its whole stream was sent.
abbrev pub SendsStream : Table → List ℕ → Outside → Type 0
SendsStream table was after = (image : List ℕ) × (after.disk ≡ Some image) × SendsWhole image table was after

-- The disk holds the volume, and behind what was sent before a front of its stream was sent, but not all of it.
abbrev pub SendsFrontOfIt : Table → List ℕ → Outside → Type 0
SendsFrontOfIt table was after = (image : List ℕ) × (after.disk ≡ Some image) × SendsPart image table was after

-- What `dump` promises.
pub record DumpPromise (before after : Outside) (status : Status) : Type 0 where
  -- On a volume the stream of its history is sent, which is a dump of its table, each leaf and node once and in order; with any other status nothing, or
  -- a front of it, but never all.
  pub sends : (table : Table) (was : List ℕ) → HoldsVolume before table was → status ≡ Done → SendsStream table was after
  pub front : (table : Table) (was : List ℕ) → HoldsVolume before table was → status ≢ Done → (after.sent ≡ Some was) ⊎ SendsFrontOfIt table was after
  pub left : after.left ≡ before.left
  -- With status 0 nothing of before is pending any more: a crash now leaves the table.
  pub settled : (table : Table) (was : List ℕ) → HoldsVolume before table was → status ≡ Done → (d : List ℕ) → after.images d → StandsFor d table
  -- A crash at any moment leaves what one in an opening may leave: where nothing is pending at entry, the table.
  pub moments : (image : List ℕ) → IsTrue before.honest → before.disk ≡ Some image → Leaves before after (StandsOpening meant before.images image)
  pub moments_settled : (table : Table) (was : List ℕ) → IsOnVolume before table was → Leaves before after (λ d. StandsFor d table)
  -- It writes as an opening does: nothing where no record of the log counts.
  pub writes : WritesAsOpening before after status
  -- On a volume nothing but a fault of the disk or of the output, or want of memory, stops it, and without those faults nothing but the latter.
  pub sound : (table : Table) (was : List ℕ) → HoldsVolume before table was → IsLineStatus status
  pub completes : MaySend before after → (status ≡ Done) ⊎ (status ≡ Memory)
  -- The disk holds a volume, or nothing is done.
  pub opening : OpeningPromise before after status
