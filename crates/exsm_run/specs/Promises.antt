-- What each command promises, given what stood outside before and after it, and its status.
use Rattle.std.specs.Prelude.{◌≡◌, ◌≤◌, ◌<◌, ◌+◌, ◌⊎◌, ℕ, IsTrue, Some, List, [], drop, length}
use Rattle.disk_model.specs.Outside.{Outside, Along, ReadsOnly, RestsOn}
use Rattle.ex_base.specs.Sizes.{volume_bytes}
use Rattle.ex_base.specs.declared.faults.Seen.{Seen}
use Rattle.ex_base.specs.declared.names.PageNo.{PageNo}
use Rattle.engines.specs.Keeping.{DamagedStep}
use Rattle.ex_base.specs.declared.geometry.Geometry.{Geometry}
use Rattle.table_model.specs.declared.table.Table.{Table}
use Rattle.session_core.specs.Meant.{meant}
use Rattle.command_line.specs.declared.status.Status.{Status}
use Rattle.command_line.specs.declared.status.Status.TheVariants.{Damaged, Done, Memory, ScriptLong}
use Rattle.command_words.specs.declared.wish.Wish.{Wish}
use Rattle.command_words.specs.declared.wish.Wish.TheVariants.{Format, Run, Check, Gen, Clients, Dump, Load, Pack}
use Rattle.exsm_run.specs.Check.{CheckPromise}
use Rattle.exsm_run.specs.Clients.{ClientsPromise}
use Rattle.exsm_run.specs.Dump.{DumpPromise}
use Rattle.exsm_run.specs.Generate.{GenPromise}
use Rattle.exsm_run.specs.Load.{LoadPromise}
use Rattle.exsm_run.specs.Pack.{PackPromise}
use Rattle.exsm_run.specs.EmptyVolume.{HasMagic}
use Rattle.exsm_run.specs.Format.{FormatAnswers, FormatSends, IsFormatted, IsFormatMoment, MayFormat, WritesAlone}
use Rattle.exsm_run.specs.Begun.{BeginsOrNot}
use Rattle.exsm_run.specs.Fresh.{IsFresh}
use Rattle.exsm_run.specs.Kept.{volume_steps}
use Rattle.exsm_run.specs.Openings.{OpeningPromise}
use Rattle.exsm_run.specs.Script.{Ran, HoldsVolume, IsOnVolume, MayRun, IsRunStatus}

-- What `format` promises.
pub record FormatPromise (g : Geometry) (before after : Outside) (status : Status) : Type 0 where
  -- which status comes, and what is sent
  pub answers : FormatAnswers g status before
  pub sends : FormatSends g status before after
  -- A disk that begins with the magic, or is too small, is read at most, whatever the status.
  pub keeps : (d : List ℕ) → before.disk ≡ Some d → HasMagic d ⊎ (before.size < volume_bytes g) → ReadsOnly before after
  -- what stands on the disk at the end, and at each moment
  -- It changes no byte but those of the superblock, the first gate of the log and the catalog's page.
  pub writes : IsTrue before.honest → (d : List ℕ) → before.disk ≡ Some d → WritesAlone g d after
  pub makes : status ≡ Done → IsTrue before.honest → (d : List ℕ) → before.disk ≡ Some d → IsFormatted g after
  pub moments : (d was : List ℕ) → RestsOn before d → (HasMagic d → ⊥) → before.sent ≡ Some was → Along before after (IsFormatMoment g was)
  -- when it succeeds
  pub succeeds : MayFormat g before after → (status ≡ Done) ⊎ (status ≡ Memory)

-- What `run` promises, where at most so many bytes of a script count.
pub record RunPromise {H : Type 0} (outside : H → Outside) (most : ℕ) (before after : Outside) (status : Status) : Type 0 where
  -- what was replied, from view to view, what each step kept, and what a stop at any moment leaves
  pub headline : (table : Table) (was : List ℕ) → IsOnVolume before table was → Ran meant (volume_steps outside) IsFresh most table was before after status
  -- On a volume nothing but a fault of the outside, want of memory or too long a script stops it, and without those it reaches the script's end.
  pub sound : (table : Table) (was : List ℕ) → HoldsVolume before table was → IsRunStatus status
  pub completes : MayRun most before after → (status ≡ Done) ⊎ (status ≡ Memory)
  -- The script is read to its end, or it is too long: exactly where the source gave more bytes than count. Of these it loses one more at most, however
  -- the run ends, and what is left is the rest.
  pub reads_all : status ≡ Done → (script : List ℕ) → before.left ≡ Some script → after.left ≡ Some []
  pub within : status ≡ Done → (script : List ℕ) → before.left ≡ Some script → length script ≤ most
  pub long : (max : ℕ) → status ≡ ScriptLong max → (script : List ℕ) → before.left ≡ Some script → (max ≡ most) × (most < length script)
  pub draws : (script : List ℕ) → before.left ≡ Some script → (n : ℕ) × (n ≤ most + 1) × (after.left ≡ Some (drop n script))
  -- A damaged page is told as the step that found it has it.
  pub damaged : (page : PageNo) (want got : Seen) → status ≡ Damaged page want got → DamagedStep (volume_steps outside) before after page want got
  -- The disk holds a volume, or nothing is done.
  pub opening : OpeningPromise before after status
  -- First its volume is opened, and that writes as an opening does.
  pub begins : BeginsOrNot outside before after status

-- What each command promises, over hosts of a type, given what stands outside of each.
abbrev pub Promise : {H : Type 0} → (H → Outside) → Wish → Outside → Outside → Status → Type 0
Promise outside (Format g) before after status = FormatPromise g before after status
Promise outside (Run most) before after status = RunPromise outside most before after status
Promise outside Check before after status = CheckPromise before after status
Promise outside (Gen seed count) before after status = GenPromise outside seed count before after status
Promise outside (Clients most) before after status = ClientsPromise outside most before after status
Promise outside Dump before after status = DumpPromise before after status
Promise outside Load before after status = LoadPromise before after status
Promise outside Pack before after status = PackPromise before after status
