-- What `gen` sends and leaves.
use Rattle.std.specs.Prelude.{◌≡◌, ◌≢◌, ◌⊎◌, ◌<◌, ℕ, IfSome, Option, Some, None, List, [], ◌++◌, length, take}
use Rattle.ex_base.specs.declared.faults.Seen.{Seen}
use Rattle.ex_base.specs.declared.names.PageNo.{PageNo}
use Rattle.disk_model.specs.Outside.{Outside, Along}
use Rattle.engines.specs.Keeping.{DamagedStep}
use Rattle.table_model.specs.declared.table.Table.{Table}
use Rattle.session_views.specs.View.{View}
use Rattle.script_lang.specs.Reading.{Reading}
use Rattle.talks.specs.Headline.{OpenedAt, Unopened}
use Rattle.talks.specs.Talking.{Exchange}
use Rattle.talks.specs.Transcript.{Row, Ended, LastKept, IsRunMoment, Trail, exchanges, last_time, request_in}
use Rattle.talks.specs.declared.stopped.Stopped.{Stopped}
use Rattle.generated.specs.GeneratedTalk.{silent_acking}
use Rattle.generated.specs.Replies.{gen_line}
use Rattle.generated.specs.Script.{generated}
use Rattle.generated.specs.Talked.{Heard, HeardFront, replies_of}
use Rattle.session_core.specs.Meant.{meant}
use Rattle.session_core.specs.Sessions.{SessionState}
use Rattle.volume_model.specs.Parts.{StandsFor}
use Rattle.command_line.specs.declared.status.Status.{Status}
use Rattle.command_line.specs.declared.status.Status.TheVariants.{Damaged, Done, OutputFault, Memory}
use Rattle.exsm_run.specs.Check.{IsLineStatus, MaySend}
use Rattle.exsm_run.specs.Begun.{Begins}
use Rattle.exsm_run.specs.Fresh.{IsFresh}
use Rattle.exsm_run.specs.Kept.{volume_steps}
use Rattle.exsm_run.specs.Openings.{OpeningPromise}
use Rattle.exsm_run.specs.Script.{HoldsVolume, IsOnVolume, status_of}

-- The volume was opened, and then lines were answered so: each reply is the machine's, with the volume's pick, each step kept what steps keep, and after it
-- there is a view that shows.
-- A crash at any moment leaves the table after a prefix of the commits. Where a line behind them asked for that, and has no answer, it may be one of them.
pub record Answered {H : Type 0} (outside : H → Outside) (table : Table) (was : List ℕ) (before after : Outside) (had : List Exchange) (asked : Option Reading) : Type 0 where
  pub opening : View SessionState
  pub time : ℕ
  pub opened : OpenedAt meant IsFresh table was before after time opening
  pub rows : List (Row SessionState)
  pub last : View SessionState
  pub are : exchanges rows ≡ had
  pub trail : Trail meant (volume_steps outside) after was time [] opening rows last
  pub stops : Along before after (IsRunMoment meant silent_acking opening.machine rows last.machine (request_in asked) was)

-- Each line of the script was answered, and this line tells of the replies. At the end an open transaction was aborted, and the view after that shows.
pub record ToldOf {H : Type 0} (outside : H → Outside) (seed count : ℕ) (table : Table) (was : List ℕ) (before after : Outside) (line : List ℕ) : Type 0 where
  pub had : List Exchange
  pub heard : Heard (generated seed count) had
  pub answered : Answered outside table was before after had None
  pub ended : Ended meant (volume_steps outside) (last_time answered.time answered.rows) answered.last after
  pub line_is : line ≡ gen_line (replies_of had)

-- The first lines of the script were answered, up to a stop at a line behind them or at the end, or to the end of the script (None).
pub record StoppedIn {H : Type 0} (outside : H → Outside) (seed count : ℕ) (table : Table) (was : List ℕ) (before after : Outside) (ending : Option Stopped) : Type 0 where
  pub had : List Exchange
  pub asked : Option Reading
  pub heard : HeardFront (generated seed count) had asked
  pub answered : Answered outside table was before after had asked
  pub kept : IfSome ending (LastKept meant (volume_steps outside) (last_time answered.time answered.rows) after answered.last (request_in asked))

-- It stopped with no line to tell: in the script, or at the opening of the volume.
abbrev pub StopsUntold : {H : Type 0} → (H → Outside) → ℕ → ℕ → Table → List ℕ → Outside → Outside → Status → Type 0
StopsUntold outside seed count table was before after status =
    ((ending : Option Stopped) × IfSome ending (λ why. status ≡ status_of 0 (Some why)) × StoppedIn outside seed count table was before after ending) ⊎ ((why : Stopped) × (status ≡ status_of 0 (Some why)) × Unopened meant table was before after (Some why))

-- The image stands for a table.
abbrev pub StandsForOne : List ℕ → List ℕ → Type 0
StandsForOne sent d = (table : Table) × StandsFor d table

-- What `gen` promises.
pub record GenPromise {H : Type 0} (outside : H → Outside) (seed count : ℕ) (before after : Outside) (status : Status) : Type 0 where
  -- On a volume its line tells of the replies to all lines of the script; a front of it is sent where the output failed, and else nothing.
  pub done : (table : Table) (was : List ℕ) → IsOnVolume before table was → status ≡ Done
      → (line : List ℕ) × ToldOf outside seed count table was before after line × (after.sent ≡ Some (was ++ line))
  pub front : (table : Table) (was : List ℕ) → IsOnVolume before table was → status ≡ OutputFault
      → (line : List ℕ) × ToldOf outside seed count table was before after line × ((n : ℕ) × (n < length line) × (after.sent ≡ Some (was ++ take n line)))
  pub nothing : (table : Table) (was : List ℕ) → IsOnVolume before table was → status ≢ Done → status ≢ OutputFault → after.sent ≡ Some was
  -- With any other status it was stopped before that: each line up to there has its reply, and a crash leaves a prefix of the commits up to there.
  pub stopped : (table : Table) (was : List ℕ) → IsOnVolume before table was → status ≢ Done → status ≢ OutputFault
      → StopsUntold outside seed count table was before after status
  pub left : after.left ≡ before.left
  -- A crash at any moment leaves a volume.
  pub moments : (table : Table) (was : List ℕ) → IsOnVolume before table was → Along before after StandsForOne
  -- On a volume nothing but a fault of the disk or of the output, or want of memory, stops it, and without those faults nothing but the latter.
  pub sound : (table : Table) (was : List ℕ) → HoldsVolume before table was → IsLineStatus status
  pub completes : MaySend before after → (status ≡ Done) ⊎ (status ≡ Memory)
  -- A damaged page is told as the step that found it has it.
  pub damaged : (page : PageNo) (want got : Seen) → status ≡ Damaged page want got → DamagedStep (volume_steps outside) before after page want got
  -- The disk holds a volume, or nothing is done.
  pub opening : OpeningPromise before after status
  -- First its volume is opened, and that writes as an opening does.
  pub begins : Begins outside before after status
