-- What a step leaves of a session and of the outside, over a volume of any kind.
use Rattle.std.specs.Prelude.{◌≡◌, ◌≢◌, ◌⊎◌, ℕ, IsTrue, List, Some, Result, Ok, Err, IfOk, OnOk, Option}
use Rattle.disk_model.specs.Outside.{Outside, Leaves, Only, ReadsOnly}
use Rattle.ex_base.specs.declared.faults.Seen.{Seen}
use Rattle.ex_base.specs.declared.names.PageNo.{PageNo}
use Rattle.table_model.specs.declared.reply.Reply.{Reply}
use Rattle.table_model.specs.declared.reply.Refusal.{Refusal}
use Rattle.table_model.specs.declared.table.Table.{Table}
use Rattle.table_model.specs.Requests.{Checkpoint, Commit, Request}
use Rattle.script_lines.specs.Lines.{Line}
use Rattle.script_lang.specs.Reading.{Reading, Reads}
use Rattle.session_views.specs.declared.stop.Stop.{Stop}
use Rattle.session_views.specs.declared.stop.Stop.TheVariants as stop
use Rattle.session_views.specs.declared.opener.OpenFault.{OpenFault}
use Rattle.session_views.specs.declared.opener.OpenFault.TheVariants as fault
use Rattle.session_views.specs.declared.part.Part.{Part}
use Rattle.session_views.specs.Opening.{StandsOpening}
use Rattle.session_views.specs.View.{Meaning, View, ShowsNow, Stepped, StandsDuring}
use Rattle.talks.specs.Opening.{Opened}
use Rattle.volume_calls.specs.declared.lines.Unanswered.{Unanswered}
use Rattle.volume_calls.specs.declared.lines.Unanswered.TheVariants.{Stopped, Untold}
use Rattle.volume_calls.specs.Lines.{Answered, MayLeave, WasDone}

-- A step on a request, over an outside v that became w: from a view that shows
pub record StepsOver {S : Type 0} (M : Meaning S) (session now : S) (v w : Outside) (r : Request) (result : Result Reply Stop) : Type 0 where
  -- to a view that shows, by the machine's step,
  pub stepped : (before : View S) → before.session ≡ session → ShowsNow M v before → IfOk result (λ told. Stepped M before r told now w)
  -- or it finds no memory,
  pub sound : (before : View S) (why : Stop) → before.session ≡ session → ShowsNow M v before → result ≡ Err why → (why ≡ stop.Disk) ⊎ (why ≡ stop.Memory)
  -- and a crash at any moment of it leaves the committed table before it, or in a commit that one or the next.
  pub any_moment : (before : View S) → before.session ≡ session → ShowsNow M v before → Leaves v w (StandsDuring M before.machine r)
  -- A checkpoint wants no memory, a commit that wants some only read, and damage is told of two things that differ.
  pub takes_none : r ≡ Checkpoint → result ≡ Err stop.Memory → ⊥
  pub unwritten : r ≡ Commit → result ≡ Err stop.Memory → ReadsOnly v w
  pub damaged : (page : PageNo) (want got : Seen) → result ≡ Err (stop.Damaged page want got) → want ≢ got

-- The same of a line, and of the text that is left.
pub record LinesOver {S : Type 0} (M : Meaning S) (session now : S) (v w : Outside) (line : Line) (text : List ℕ) (result : Result (Option Refusal) Unanswered) : Type 0 where
  pub answered : (before : View S) (reading : Reading) → before.session ≡ session → ShowsNow M v before → Reads line reading
      → IfOk result (λ why. Answered M before reading why text now w)
  pub sound : (before : View S) (why : Stop) → before.session ≡ session → ShowsNow M v before → result ≡ Err (Stopped why) → (why ≡ stop.Disk) ⊎ (why ≡ stop.Memory)
  pub untold : (before : View S) (reading : Reading) → before.session ≡ session → ShowsNow M v before → Reads line reading → result ≡ Err Untold → WasDone M before reading now w
  pub any_moment : (before : View S) (reading : Reading) → before.session ≡ session → ShowsNow M v before → Reads line reading
      → Leaves v w (MayLeave M before.machine reading)

-- An opening, over an outside v that became w.
pub record OpensOver {S : Type 0} (M : Meaning S) (Fresh : View S → Type 0) (v w : Outside) (result : Result S OpenFault) : Type 0 where
  -- What is opened stands for a table, which the session shows, with nothing else.
  pub stands : OnOk result ((image : List ℕ) → v.disk ≡ Some image → (table : Table) × M.StandsFor image table)
  pub shows : (image : List ℕ) (table : Table) → IsTrue v.honest → v.disk ≡ Some image → M.StandsFor image table → IfOk result (λ session. Opened M Fresh table session w)
  -- Of what isn't, the first part that fails is told, and nothing is written.
  pub bad : (part : Part) → result ≡ Err (fault.BadVolume part) → (image : List ℕ) → v.disk ≡ Some image → M.FirstBad image part
  pub kept : (part : Part) → result ≡ Err (fault.BadVolume part) → IsTrue v.honest → (image : List ℕ) → v.disk ≡ Some image → (w.disk ≡ Some image) × Only image w.images
  -- A crash at any moment of it leaves what could be left before, or what stands for the same table.
  pub any_moment : (image : List ℕ) → IsTrue v.honest → v.disk ≡ Some image → Leaves v w (StandsOpening M v.images image)
