-- What a whole run promises, from the opening of the volume to the last line that was taken.
use Rattle.std.specs.Prelude.{◌≡◌, ◌≢◌, ◌⊎◌, ◌≤◌, ℕ, IsTrue, IfSome, Option, Some, None, List, [], ◌++◌}
use Rattle.disk_model.specs.Outside.{Outside, Along, Only, WritesNothing, DiskOnly, Goes, ReadsOnly}
use Rattle.table_model.specs.declared.table.Table.{Table}
use Rattle.script_lang.specs.Reading.{Reading}
use Rattle.session_views.specs.declared.OpenFault.{OpenFault}
use Rattle.session_views.specs.declared.Part.{Part}
use Rattle.session_views.specs.View.{View, Meaning}
use Rattle.session_views.specs.Opening.{IsStart}
use Rattle.engines.specs.Keeping.{Conduct}
use Rattle.talks.specs.Opening.{Opened}
use Rattle.talks.specs.Passage.{ByDamagedStep}
use Rattle.talks.specs.Stops.{CausedBy, IsOpeningStop, IsSoundStop, unopened_as}
use Rattle.talks.specs.Talking.{Talking, HasTalked}
use Rattle.talks.specs.Transcript.{Row, ShowsAt, Trail, IsRunMoment, LastKept, LastText, Ended, exchanges, last_time, output_of, request_in}
use Rattle.talks.specs.declared.stopped.Stopped.{Stopped}
use Rattle.talks.specs.declared.stopped.Stopped.TheVariants.{Output, Disk, BadVolume}

-- An honest disk holds an image that stands for this table, and the sink tells what it was sent.
pub record HoldsTable {S : Type 0} (M : Meaning S) (entry : Outside) (table : Table) (was : List ℕ) : Type 0 where
  pub image : List ℕ
  pub honest : IsTrue entry.honest
  pub holds : entry.disk ≡ Some image
  pub stands : M.StandsFor image table
  pub sent : entry.sent ≡ Some was

-- The premises of the headline: besides the image stands for no other table, and nothing is pending.
pub record RunStarts {S : Type 0} (M : Meaning S) (entry : Outside) (table : Table) (was : List ℕ) : Type 0 where
  pub on : HoldsTable M entry table was
  pub settled : Only on.image entry.images
  pub alone : (other : Table) → M.StandsFor on.image other → other ≡ table

-- The volume was opened: this view shows it, with the table at its start and nothing else, at a time before the first line was taken.
pub record OpenedAt {S : Type 0} (M : Meaning S) (Fresh : View S → Type 0) (table : Table) (was : List ℕ) (entry now : Outside) (time : ℕ) (opening : View S) : Type 0 where
  pub starts : IsStart opening.machine table
  pub fresh : Fresh opening
  pub later : entry.clock ≤ time
  pub shown : ShowsAt M now time was opening

-- The volume was opened and lines were stepped, to the end of the talk (None) or to a stop, from the talk's first value to its last.
-- The first sentence, what was written: talked, sent, is_front, uncut. The second, the views between, and what each step kept: opened, trail, kept, ended.
-- The third, what a stop leaves: stops.
pub record SteppedTalk {S H T : Type 0} (M : Meaning S) (C : Conduct S H) (Fresh : View S → Type 0) (K : Talking T) (first talk : T) (table : Table) (was : List ℕ) (entry now : Outside) (ending : Option Stopped) : Type 0 where
  pub opening : View S
  pub time : ℕ
  pub opened : OpenedAt M Fresh table was entry now time opening
  -- the rows of the lines whose texts were sent whole, with their views, and what the line after them asked for, where there is one
  pub rows : List (Row S)
  pub after : View S
  pub last : Option Reading
  -- what handed in the last line, as it stood when it did
  pub at : T
  pub talked : HasTalked K first entry.left (exchanges rows) last ending talk at now.left
  pub front : List ℕ
  pub sent : now.sent ≡ Some (was ++ output_of rows ++ front)
  pub is_front : LastText M (K.text at) after last front
  pub uncut : (ending ≡ Some Output → ⊥) → front ≡ []
  pub trail : Trail M C now was time [] opening rows after
  pub kept : IfSome ending (LastKept M C (last_time time rows) now after (request_in last))
  pub ended : ending ≡ None → Ended M C (last_time time rows) after now
  pub stops : Along entry now (IsRunMoment M K.acking opening.machine rows after.machine (request_in last) was)

-- The volume wasn't opened: nothing was sent and no byte of the source taken, and each image stands for the table.
pub record Unopened {S : Type 0} (M : Meaning S) (table : Table) (was : List ℕ) (entry now : Outside) (ending : Option Stopped) : Type 0 where
  pub why : Stopped
  pub is : ending ≡ Some why
  pub opening : IsOpeningStop why
  pub sent : now.sent ≡ Some was
  pub left : now.left ≡ entry.left
  pub stops : Along entry now (λ s d. (s ≡ was) × M.StandsFor d table)

-- what a run promises, given how it ends
abbrev pub TalkHeadline : {S H T : Type 0} → Meaning S → Conduct S H → (View S → Type 0) → Talking T → T → T → Table → List ℕ → Outside → Outside → Option Stopped → Type 0
TalkHeadline M C Fresh K first talk table was entry now ending = SteppedTalk M C Fresh K first talk table was entry now ending ⊎ Unopened M table was entry now ending

-- What a run promises of its disk and of why it was stopped, whatever hands it its lines, given how it ends.
pub record RunOn {S H : Type 0} (M : Meaning S) (C : Conduct S H) (before after : Outside) (ending : Option Stopped) : Type 0 where
  -- A fault of the outside is answered only where the count of such faults rose, and damage only of two things that differ.
  pub caused : IfSome ending (λ why. CausedBy why before after)
  -- A damaged page is told as the step that found it has it.
  pub damaged : IfSome ending (ByDamagedStep C before after)
  -- On a volume nothing but a fault of the outside, want of memory or too long a script stops it.
  pub sound : (table : Table) (was : List ℕ) → HoldsTable M before table was → IfSome ending IsSoundStop
  -- The disk holds no volume exactly where a part of it fails. Then nothing is sent, no line is taken, and nothing is written, whatever is answered.
  pub bad : (part : Part) → ending ≡ Some (BadVolume part) → (image : List ℕ) → before.disk ≡ Some image → M.FirstBad image part
  pub bad_only : (part : Part) → ending ≡ Some (BadVolume part) → WritesNothing before after
  pub bad_kept : (part : Part) → ending ≡ Some (BadVolume part) → (image : List ℕ) → IsTrue before.honest → before.disk ≡ Some image
      → (after.disk ≡ Some image) × Only image after.images
  pub unopened : (image : List ℕ) (part : Part) → before.disk ≡ Some image → M.FirstBad image part → (why : Stopped) × (ending ≡ Some why) × IsOpeningStop why
  pub left : (image : List ℕ) (part : Part) → before.disk ≡ Some image → M.FirstBad image part → WritesNothing before after
  -- A fault of the disk is told: with any other ending none came.
  pub told : ending ≢ Some Disk → after.disk_faults ≡ before.disk_faults

-- A run begins with the opening of its volume. It was over on this host, with a fault or with none, and did what openings do.
pub record RunOpens {S H : Type 0} (M : Meaning S) (C : Conduct S H) (Fresh : View S → Type 0) (Does : Outside → Outside → Option OpenFault → Type 0) (before after : Outside) (ending : Option Stopped) : Type 0 where
  pub then : H
  pub fault : Option OpenFault
  pub did : Does before (C.outside then) fault
  pub only : DiskOnly before (C.outside then)
  pub later : Goes (C.outside then) after
  -- Where a volume was opened a view shows it there, with its table at its start and nothing else.
  pub shows : fault ≡ None → (table : Table) (was : List ℕ) → HoldsTable M before table was → (session : S) × Opened M Fresh table session (C.outside then)
  -- Where none was the run ended by that fault, and the disk was read at most since.
  pub failed : IfSome fault (λ why. (ending ≡ Some (unopened_as why)) × ReadsOnly (C.outside then) after)
