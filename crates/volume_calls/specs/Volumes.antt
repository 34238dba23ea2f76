-- What a call on an open volume leaves of it.
use Rattle.std.specs.Prelude.{◌≡◌, ◌≢◌, ◌⊎◌, ℕ, IsTrue, false, List, [], length, Result, Ok, Err, IfOk, OnOk, Option, Some, None}
use Rattle.disk_model.specs.Outside.{Outside, Leaves, ReadsOnly}
use Rattle.ex_base.specs.declared.faults.Seen.{Seen}
use Rattle.ex_base.specs.declared.names.PageNo.{PageNo}
use Rattle.table_model.specs.declared.reply.Reply.{Reply}
use Rattle.table_model.specs.declared.reply.Reply.TheVariants as reply
use Rattle.table_model.specs.declared.reply.Refusal.{Refusal}
use Rattle.table_model.specs.declared.table.Table.{Table}
use Rattle.table_model.specs.Requests.{Checkpoint, Commit, Request}
use Rattle.script_lines.specs.Lines.{Line}
use Rattle.script_lang.specs.Reading.{Reading, Reads}
use Rattle.session_views.specs.declared.stop.Stop.{Stop}
use Rattle.session_views.specs.declared.stop.Stop.TheVariants as stop
use Rattle.session_views.specs.declared.opener.OpenFault.{OpenFault}
use Rattle.session_views.specs.declared.opener.OpenFault.TheVariants as fault
use Rattle.session_views.specs.declared.part.Part.{Part}
use Rattle.session_views.specs.Opening.{StandsOpening}
use Rattle.session_views.specs.View.{Meaning, View, ShowsNow, Stepped, StandsDuring}
use Rattle.talks.specs.Opening.{Opened}
use Rattle.lent_host.specs.Lent.{IsLent, outside_of}
use Rattle.volume_calls.specs.declared.volume.LentVolume.{LentVolume}
use Rattle.volume_calls.specs.declared.volume.NotDone.{NotDone}
use Rattle.volume_calls.specs.declared.volume.NotDone.TheVariants.{Misuse, Refused, Stopped, Untold}
use Rattle.volume_calls.specs.Forms.{is_formed, unformed}
use Rattle.volume_calls.specs.Lines.{Answered, MayLeave, WasDone}

-- the file on which the volume's listed calls are made, at each of their fronts
abbrev pub outside_at : {S : Type 0} → LentVolume S → Outside
outside_at v = outside_of v.file.bytes v.asked.items 0 0

-- The image is the one that the volume's last call left.
pub record IsLentTo {S : Type 0} (fits : S → ℕ → Type 0) (v : LentVolume S) (image : List ℕ) : Type 0 where
  pub lent : IsLent v.file.bytes v.asked.items image
  pub room : fits v.session (length v.file.bytes)
  pub size : length image ≡ v.size

-- The text is the same, and the size.
pub record SameBeside {S : Type 0} (a b : LentVolume S) : Type 0 where
  pub text : b.text.items ≡ a.text.items
  pub size : b.size ≡ a.size

-- what came of a call, from a view: it stepped to the reply, which is no refusal; it was refused; or there was no memory
abbrev pub Ended : {S : Type 0} → Meaning S → View S → Request → Result Reply NotDone → LentVolume S → Type 0
Ended M before r (Ok told) b = Stepped M before r told b.session (outside_at b)
Ended M before r (Err (Refused why)) b = Stepped M before r (reply.No why) b.session (outside_at b)
Ended M before r (Err (Stopped why)) b = (why ≡ stop.Disk) ⊎ (why ≡ stop.Memory)
Ended M before r (Err Untold) b = ⊥
Ended M before r (Err Misuse) b = ⊥

-- A call on an open volume, which asks this.
pub record Called {S : Type 0} (M : Meaning S) (fits : S → ℕ → Type 0) (a b : LentVolume S) (image now : List ℕ) (r : Request) (result : Result Reply NotDone) : Type 0 where
  -- The image is the one that the call left, of the same file.
  pub lent : IsLentTo fits b now
  pub file : b.file.bytes ≡ a.file.bytes
  -- What no line could ask for is refused, and nothing is done.
  pub unformed : is_formed r ≡ false → (result ≡ Err (Refused (unformed r))) × (b.session ≡ a.session) × (b.asked.items ≡ a.asked.items) × (now ≡ image)
  -- Where it was done, its reply is no refusal.
  pub accepted : (why : Refusal) → result ≡ Ok (reply.No why) → ⊥
  -- From a view that shows it ends by the machine's step, or for want of memory,
  pub ended : IsTrue (is_formed r) → (before : View S) → before.session ≡ a.session → ShowsNow M (outside_at a) before → Ended M before r result b
  -- and whichever front of the listed calls is made, it leaves the committed table before it, or in a commit that one or the next.
  pub any_moment : IsTrue (is_formed r) → (before : View S) → before.session ≡ a.session → ShowsNow M (outside_at a) before
      → Leaves (outside_at a) (outside_at b) (StandsDuring M before.machine r)
  -- A checkpoint wants no memory, a commit that wants some only read, and damage is told of two things that differ.
  pub takes_none : r ≡ Checkpoint → result ≡ Err (Stopped stop.Memory) → ⊥
  pub unwritten : r ≡ Commit → result ≡ Err (Stopped stop.Memory) → ReadsOnly (outside_at a) (outside_at b)
  pub damaged : (page : PageNo) (want got : Seen) → result ≡ Err (Stopped (stop.Damaged page want got)) → want ≢ got

-- what came of a line, from a view
abbrev pub LineEnded : {S : Type 0} → Meaning S → View S → Reading → Result (Unit {0}) NotDone → LentVolume S → Type 0
LineEnded M before reading (Ok done) b = Answered M before reading None b.text.items b.session (outside_at b)
LineEnded M before reading (Err (Refused why)) b = Answered M before reading (Some why) b.text.items b.session (outside_at b)
LineEnded M before reading (Err (Stopped why)) b = (why ≡ stop.Disk) ⊎ (why ≡ stop.Memory)
LineEnded M before reading (Err Untold) b = WasDone M before reading b.session (outside_at b)
LineEnded M before reading (Err Misuse) b = ⊥

-- A step on a line of a script.
pub record LineCalled {S : Type 0} (M : Meaning S) (fits : S → ℕ → Type 0) (a b : LentVolume S) (now : List ℕ) (line : Line) (result : Result (Unit {0}) NotDone) : Type 0 where
  pub lent : IsLentTo fits b now
  pub file : b.file.bytes ≡ a.file.bytes
  pub ended : (before : View S) (reading : Reading) → before.session ≡ a.session → ShowsNow M (outside_at a) before → Reads line reading → LineEnded M before reading result b
  pub any_moment : (before : View S) (reading : Reading) → before.session ≡ a.session → ShowsNow M (outside_at a) before → Reads line reading
      → Leaves (outside_at a) (outside_at b) (MayLeave M before.machine reading)

-- An opening of a volume, from an outside v.
pub record OpensVolume {S : Type 0} (M : Meaning S) (Fresh : View S → Type 0) (v : Outside) (result : Result (LentVolume S) OpenFault) : Type 0 where
  -- What is opened stands for a table, which the volume shows, with nothing else.
  pub stands : OnOk result ((image : List ℕ) → v.disk ≡ Some image → (table : Table) × M.StandsFor image table)
  pub shows : (image : List ℕ) (table : Table) → IsTrue v.honest → v.disk ≡ Some image → M.StandsFor image table
      → IfOk result (λ volume. Opened M Fresh table volume.session (outside_at volume))
  -- Of what isn't, the first part that fails is told.
  pub bad : (part : Part) → result ≡ Err (fault.BadVolume part) → (image : List ℕ) → v.disk ≡ Some image → M.FirstBad image part
  -- A crash at any moment of it leaves what could be left before, or what stands for the same table.
  pub any_moment : IfOk result (λ volume. (image : List ℕ) → IsTrue v.honest → v.disk ≡ Some image → Leaves v (outside_at volume) (StandsOpening M v.images image))
