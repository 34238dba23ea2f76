-- A run of lines: what it replies, from view to view, and what a stop in it may leave.
use Rattle.std.specs.Prelude.{◌≡◌, ◌⊎◌, ◌≤◌, ◌<◌, ℕ, ◌+◌, Option, Some, None, List, [], ◌∷◌, ◌++◌, length, take, flat_map, map, Result, Ok, Err, IfOk}
use Rattle.disk_model.specs.Outside.{Outside, Along}
use Rattle.table_model.specs.declared.table.Table.{Table}
use Rattle.table_model.specs.declared.machine.Machine.{Machine}
use Rattle.table_model.specs.declared.machine.Pick.{Pick}
use Rattle.table_model.specs.declared.reply.Reply.{Reply}
use Rattle.table_model.specs.declared.reply.Reply.TheVariants as reply
use Rattle.table_model.specs.Requests.{Request, Abort}
use Rattle.table_model.specs.Steps.{Step, table_committed}
use Rattle.script_lang.specs.Reading.{Reading, Silent, Asks, Fails}
use Rattle.session_views.specs.declared.Stop.{Stop}
use Rattle.session_views.specs.View.{View, Meaning, ShowsNow, Stepped, IsOpenCommit}
use Rattle.engines.specs.Keeping.{Conduct, StepKept}
use Rattle.talks.specs.Acking.{Acking}
use Rattle.talks.specs.Stops.{stop_as, IsSendingStop, IsTakingStop}
use Rattle.talks.specs.Talking.{Exchange}
use Rattle.talks.specs.declared.stopped.Stopped.{Stopped}
use Rattle.talks.specs.declared.stopped.Stopped.TheVariants.{Output}

-- ---- steps from view to view

-- an exchange, what the volume decided, the view after it, and a time when its text had been sent whole
pub record Row (S : Type 0) : Type 0 where
  pub had : Exchange
  pub pick : Pick
  pub view : View S
  pub time : ℕ

abbrev pub exchanges : {S : Type 0} → List (Row S) → List Exchange
exchanges rows = map (λ row. row.had) rows

-- what is written
abbrev pub output_of : {S : Type 0} → List (Row S) → List ℕ
output_of rows = flat_map (λ row. row.had.text) rows

-- The machine steps with the volume's pick. A line that says no command leaves the view.
abbrev pub StepsTo : {S : Type 0} → Meaning S → View S → Reading → Pick → Reply → View S → Type 0
StepsTo M before Silent pick told after = ⊥
StepsTo M before (Asks r) pick told after = Step before.machine r pick told after.machine × (pick ≡ M.pick before r after)
StepsTo M before (Fails why) pick told after = (told ≡ reply.No why) × (after ≡ before)

-- At this time this had been sent and the disk read as the view's; and the view shows, whatever of that disk a crash then could have left.
pub record ShowsAt {S : Type 0} (M : Meaning S) (now : Outside) (time : ℕ) (sent : List ℕ) (v : View S) : Type 0 where
  pub stood : now.stood time sent v.disk v.disk
  pub shows : M.Shows (now.stood time sent v.disk) v

-- Between these times the session stepped on what the line asks for, to this reply, and kept what its steps keep; the view after it shows the host that the
-- step left.
abbrev pub LineKept : {S H : Type 0} → Meaning S → Conduct S H → ℕ → ℕ → Outside → View S → Reading → Reply → View S → Type 0
LineKept M C since time now before Silent told after = Unit {0}
LineKept M C since time now before (Asks r) told after = (kept : StepKept M C since time now before r (Ok told) after.session) × ShowsNow M (C.outside kept.to) after
LineKept M C since time now before (Fails why) told after = Unit {0}

-- A row follows on a view: by a step that kept what steps keep, to a view that shows at a time, not before that of the row before, when its text had been
-- sent whole.
pub record Follows {S H : Type 0} (M : Meaning S) (C : Conduct S H) (now : Outside) (was : List ℕ) (since : ℕ) (sent : List ℕ) (before : View S) (row : Row S) : Type 0 where
  pub steps : StepsTo M before row.had.reading row.pick row.had.told row.view
  pub kept : LineKept M C since row.time now before row.had.reading row.had.told row.view
  pub later : since ≤ row.time
  pub shown : ShowsAt M now row.time (was ++ (sent ++ row.had.text)) row.view

-- The rows follow one on the other, from that time on, where this was sent before them.
abbrev pub Trail : {S H : Type 0} → Meaning S → Conduct S H → Outside → List ℕ → ℕ → List ℕ → View S → List (Row S) → View S → Type 0
Trail M C now was since sent before [] after = after ≡ before
Trail M C now was since sent before (row ∷ rows) after =
    Follows M C now was since sent before row × Trail M C now was row.time (sent ++ row.had.text) row.view rows after

-- the time of the last row, or else that one
abbrev pub last_time : {S : Type 0} → ℕ → List (Row S) → ℕ
last_time since [] = since
last_time since (row ∷ rows) = last_time row.time rows

-- ---- what a stop leaves

-- the table that was committed under the number j: at the opening, or after a row
abbrev pub Committed : {S : Type 0} → Machine → List (Row S) → ℕ → Table → Type 0
Committed m [] j t = (j ≡ m.committed.last) × (t ≡ m.committed)
Committed m (row ∷ rows) j t = ((j ≡ m.committed.last) × (t ≡ m.committed)) ⊎ Committed row.view.machine rows j t

-- The line that has no reply yet is a commit with a transaction open: it counts as the next one.
abbrev pub InFlight : Machine → Option Request → ℕ → Table → Type 0
InFlight m None j t = ⊥
InFlight m (Some r) j t = IsOpenCommit m r × (j ≡ m.committed.last + 1) × (t ≡ table_committed m)

-- A crash when this was sent leaves the table after a prefix of the commits that may be left then.
pub record IsRunMoment {S : Type 0} (M : Meaning S) (A : Acking) (opening : Machine) (rows : List (Row S)) (last : Machine) (asked : Option Request) (was s d : List ℕ) : Type 0 where
  pub number : ℕ
  pub table : Table
  pub after : Committed opening rows number table ⊎ InFlight last asked number table
  pub stands : M.StandsFor d table
  pub more : List ℕ
  pub sent : s ≡ was ++ more
  pub may : A.May opening.committed.last more number

-- ---- the run so far

-- The view shows what stands outside, and this had been sent.
pub record Opens {S : Type 0} (M : Meaning S) (entry : Outside) (opening : View S) (was : List ℕ) : Type 0 where
  pub shows : ShowsNow M entry opening
  pub sent : entry.sent ≡ Some was

-- These exchanges were had: the first two sentences of a run so far, and the third.
pub record Reached {S H : Type 0} (M : Meaning S) (C : Conduct S H) (A : Acking) (opening : View S) (was : List ℕ) (entry now : Outside) (session : S) (had : List Exchange) : Type 0 where
  pub rows : List (Row S)
  pub view : View S
  pub heard : exchanges rows ≡ had
  pub sent : now.sent ≡ Some (was ++ output_of rows)
  pub trail : Trail M C now was entry.clock [] opening rows view
  pub is : view.session ≡ session
  pub shows : ShowsNow M now view
  pub even : A.Even opening.machine.committed.last (output_of rows) view.machine.committed.last
  pub stops : Along entry now (IsRunMoment M A opening.machine rows view.machine None was)

-- the request of a line
abbrev pub request_in : Option Reading → Option Request
request_in None = None
request_in (Some Silent) = None
request_in (Some (Asks r)) = Some r
request_in (Some (Fails why)) = None

-- A front of the text of the reply to the last line, and not all of it: the line's step began.
pub record FrontOfText {S : Type 0} (M : Meaning S) (text : Reply → List ℕ) (before : View S) (reading : Reading) (front : List ℕ) : Type 0 where
  pub pick : Pick
  pub told : Reply
  pub view : View S
  pub steps : StepsTo M before reading pick told view
  pub n : ℕ
  pub short : n < length (text told)
  pub is : front ≡ take n (text told)

-- what the run sent of the reply to the last line
abbrev pub LastText : {S : Type 0} → Meaning S → (Reply → List ℕ) → View S → Option Reading → List ℕ → Type 0
LastText M text before None front = front ≡ []
LastText M text before (Some reading) front = (front ≡ []) ⊎ FrontOfText M text before reading front

-- ---- what the step that was made last kept

-- A step that gave this ended the run so: it stopped, or the telling of its reply did.
abbrev pub EndsBy : Result Reply Stop → Stopped → Type 0
EndsBy (Ok told) why = IsSendingStop why
EndsBy (Err stop) why = Some why ≡ stop_as stop

-- the step on the last line, which has no whole reply
pub record LastStep {S H : Type 0} (M : Meaning S) (C : Conduct S H) (since : ℕ) (now : Outside) (before : View S) (r : Request) (why : Stopped) : Type 0 where
  pub result : Result Reply Stop
  pub session : S
  pub ends : EndsBy result why
  pub kept : StepKept M C since now.clock now before r result session
  -- where it replied, it led to a view that shows the host that it left
  pub stepped : IfOk result (λ told. Stepped M before r told session (C.outside kept.to))

-- the abort at the end of the lines, where it stopped
pub record StoppedAbort {S H : Type 0} (M : Meaning S) (C : Conduct S H) (since : ℕ) (now : Outside) (before : View S) (why : Stopped) : Type 0 where
  pub stop : Stop
  pub session : S
  pub is : Some why ≡ stop_as stop
  pub kept : StepKept M C since now.clock now before Abort (Err stop) session

-- What stopped the run kept what steps keep: the step on the last line, or the abort at the end. Where a line was taken or refused, no step was made.
abbrev pub LastKept : {S H : Type 0} → Meaning S → Conduct S H → ℕ → Outside → View S → Option Request → Stopped → Type 0
LastKept M C since now before None why = (IsTakingStop why ⊎ IsSendingStop why) ⊎ StoppedAbort M C since now before why
LastKept M C since now before (Some r) why = LastStep M C since now before r why

-- The run ended early: all texts but the last line's were sent whole, and of that one's a front, where the sink failed.
pub record CutShort {S H : Type 0} (M : Meaning S) (C : Conduct S H) (A : Acking) (text : Reply → List ℕ) (opening : View S) (was : List ℕ) (entry now : Outside) (had : List Exchange) (last : Option Reading) (why : Stopped) : Type 0 where
  pub rows : List (Row S)
  pub view : View S
  pub heard : exchanges rows ≡ had
  pub front : List ℕ
  pub sent : now.sent ≡ Some (was ++ output_of rows ++ front)
  pub is_front : LastText M text view last front
  pub uncut : (why ≡ Output → ⊥) → front ≡ []
  pub trail : Trail M C now was entry.clock [] opening rows view
  pub kept : LastKept M C (last_time entry.clock rows) now view (request_in last) why
  pub stops : Along entry now (IsRunMoment M A opening.machine rows view.machine (request_in last) was)

-- At the end of the lines a transaction that is open is aborted, by a step that kept what steps keep. The view after that shows what stands outside.
pub record Ended {S H : Type 0} (M : Meaning S) (C : Conduct S H) (since : ℕ) (before : View S) (now : Outside) : Type 0 where
  pub after : View S
  pub told : Reply
  pub step : Step before.machine Abort (M.pick before Abort after) told after.machine
  pub kept : StepKept M C since now.clock now before Abort (Ok told) after.session
  pub left : ShowsNow M (C.outside kept.to) after
  pub shows : ShowsNow M now after
