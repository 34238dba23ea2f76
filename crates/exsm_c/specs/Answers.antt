-- What the exports promise of a call.
use Rattle.std.specs.Prelude.{◌≡◌, ℕ, List, [], length, Option, Some, Result, IfOk, OnOk}
use Rattle.ex_base.specs.declared.names.Oid.{Oid}
use Rattle.table_model.specs.declared.reply.Reply.{Reply}
use Rattle.table_model.specs.declared.table.Table.{Table}
use Rattle.table_model.specs.Requests.{Request}
use Rattle.script_lines.specs.Lines.{Line}
use Rattle.disk_model.specs.Outside.{Outside}
use Rattle.session_views.specs.View.{View, ShowsNow}
use Rattle.session_core.specs.Meant.{meant}
use Rattle.session_core.specs.Sessions.{SessionState}
use Rattle.talks.specs.Opening.{Opened}
use Rattle.transactions.specs.declared.summary.Summary.{Summary}
use Rattle.transactions.specs.Summaries.{IsSummary}
use Rattle.exsm_run.specs.Fresh.{IsFresh}
use Rattle.volume_calls.specs.declared.volume.LentVolume.{LentVolume}
use Rattle.volume_calls.specs.declared.volume.NotDone.{NotDone}
use Rattle.volume_calls.specs.Volumes.{Called, IsLentTo, LineCalled, outside_at}
use Rattle.exsm_c.specs.declared.open.Open.{Open}
use Rattle.exsm_c.specs.Codes.{code_of}
use Rattle.exsm_c.specs.Owned.{fits}
use Rattle.exsm_c.specs.Told.{BeginsWith, NameAt, OidAt, TellsAt, counts_of}
use Rattle.exsm_c.specs.declared.passed.AskedCall.{AskedCall}
use Rattle.exsm_c.specs.declared.passed.Counts.{Counts}
use Rattle.exsm_c.specs.declared.passed.Identifier.{Identifier}

-- The handle's volume was called with this request, over an image that became another, and so it ended.
pub record Steps (was is : Option Open) (image now : List ℕ) (r : Request) (result : Result Reply NotDone) : Type 0 where
  pub before : Open
  pub after : Open
  pub had : was ≡ Some before
  pub has : is ≡ Some after
  pub called : Called meant fits before.volume after.volume image now r result

-- A call of a handle asks this and answers this code: 0 where it was done, and then what it tells is so.
pub record Answers (was is : Option Open) (image now : List ℕ) (r : Request) (code : ℕ) (Tells : Reply → Type 0) : Type 0 where
  pub result : Result Reply NotDone
  pub steps : Steps was is image now r result
  pub answered : code ≡ code_of result
  pub tells : IfOk result Tells

-- A handle's volume stepped on a line, and answers this code.
pub record AnswersLine (was is : Option Open) (now : List ℕ) (line : Line) (code : ℕ) : Type 0 where
  pub before : Open
  pub after : Open
  pub had : was ≡ Some before
  pub has : is ≡ Some after
  pub result : Result (Unit {0}) NotDone
  pub called : LineCalled meant fits before.volume after.volume now line result
  pub answered : code ≡ code_of result

-- Nothing was done: the session, the listed calls, the file and its size are the same.
pub record Unstepped (was is : Option Open) : Type 0 where
  pub before : Open
  pub after : Open
  pub had : was ≡ Some before
  pub has : is ≡ Some after
  pub session : after.volume.session ≡ before.volume.session
  pub asked : after.volume.asked.items ≡ before.volume.asked.items
  pub file : after.volume.file.bytes ≡ before.volume.file.bytes
  pub size : after.volume.size ≡ before.volume.size

-- Only the lists that were told changed.
pub record SameVolume (was is : Option Open) : Type 0 where
  pub before : Open
  pub after : Open
  pub had : was ≡ Some before
  pub has : is ≡ Some after
  pub volume : after.volume ≡ before.volume

-- The handle has these names, so many,
abbrev pub HasNames : Option Open → List (List ℕ) → ℕ → Type 0
HasNames value names count = (count ≡ length names) × ((x : Open) → value ≡ Some x → x.names ≡ names)

-- or these identifiers.
abbrev pub HasOids : Option Open → List Oid → ℕ → Type 0
HasOids value oids count = (count ≡ length oids) × ((x : Open) → value ≡ Some x → x.oids ≡ oids)

-- So many calls are to be made on the file.
abbrev pub HasCalls : Option Open → ℕ → Type 0
HasCalls value count = (x : Open) → value ≡ Some x → count ≡ length x.volume.asked.items

-- The call of this number is told, and its bytes begin `out`.
abbrev pub HasCall : Option Open → ℕ → AskedCall → List ℕ → Type 0
HasCall value i call out = (x : Open) → value ≡ Some x → TellsAt x.volume.asked.items i call out

-- The listed calls were made on the file and settled: none is listed, nothing else changed, and the image is still the one that was left.
pub record AreMade (was is : Option Open) : Type 0 where
  pub before : Open
  pub after : Open
  pub had : was ≡ Some before
  pub has : is ≡ Some after
  pub lent : (image : List ℕ) → IsLentTo fits before.volume image → IsLentTo fits after.volume image
  pub none : after.volume.asked.items ≡ []
  pub session : after.volume.session ≡ before.volume.session
  pub shows : (view : View SessionState) → ShowsNow meant (outside_at before.volume) view → ShowsNow meant (outside_at after.volume) view

-- The name of this number of the last list is told,
abbrev pub HasName : Option Open → ℕ → List ℕ → ℕ → Type 0
HasName value i out len = (x : Open) → value ≡ Some x → NameAt x.names i out len

-- or the identifier.
abbrev pub HasIdentifier : Option Open → ℕ → Identifier → Type 0
HasIdentifier value i told = (x : Open) → value ≡ Some x → OidAt x.oids i told

-- The text of the last line's reply has this length,
abbrev pub HasTextOf : Option Open → ℕ → Type 0
HasTextOf value len = (x : Open) → value ≡ Some x → len ≡ length x.volume.text.items

-- and begins `out`.
abbrev pub HasText : Option Open → List ℕ → Type 0
HasText value out = (x : Open) → value ≡ Some x → BeginsWith out x.volume.text.items

-- The handle has this volume.
abbrev pub HasVolume : Option Open → LentVolume SessionState → Type 0
HasVolume value volume = (x : Open) × (value ≡ Some x) × (x.volume ≡ volume)

-- The handle has a volume that was just opened, which shows this table; the image is the one that the opening left.
abbrev pub IsOpenedOn : Option Open → List ℕ → Table → Type 0
IsOpenedOn value now table = (x : Open) × (value ≡ Some x) × IsLentTo fits x.volume now × Opened meant IsFresh table x.volume.session (outside_at x.volume)

-- A summary over an outside v that became w: where a view shows, it is that of its machine, and the view goes on to be shown.
pub record SumsOver {E : Type 0} (session is : SessionState) (v w : Outside) (result : Result Summary E) : Type 0 where
  pub sums : (before : View SessionState) → before.session ≡ session → ShowsNow meant v before → IfOk result (IsSummary before.machine)
  pub shows : (before : View SessionState) → before.session ≡ session → ShowsNow meant v before → OnOk result (ShowsNow meant w (record before { session = is }))

-- What the handle's volume holds was summed up, and this code answered: where it is 0, these are its counts.
pub record AnswersCheck (was is : Option Open) (now : List ℕ) (code : ℕ) (counts : Counts) : Type 0 where
  pub before : Open
  pub after : Open
  pub had : was ≡ Some before
  pub has : is ≡ Some after
  pub lent : IsLentTo fits after.volume now
  pub result : Result Summary NotDone
  pub sums : SumsOver before.volume.session after.volume.session (outside_at before.volume) (outside_at after.volume) result
  pub answered : code ≡ code_of result
  pub told : IfOk result (λ summary. counts ≡ counts_of summary)
