-- What a whole run of a source promises, whichever talk takes its lines from it.
use Rattle.std.specs.Prelude.{◌≡◌, ◌⊎◌, ◌≤◌, ◌<◌, ◌+◌, ℕ, Option, Some, None, List, [], length, drop}
use Rattle.disk_model.specs.Calls.{MakesCalls}
use Rattle.disk_model.specs.Outside.{Outside, ReadsOnly, Rose}
use Rattle.table_model.specs.declared.table.Table.{Table}
use Rattle.script_lines.specs.Reader.{ahead, counted, to_take}
use Rattle.script_lines.specs.declared.lines.Lines.{Lines}
use Rattle.session_views.specs.View.{View, Meaning}
use Rattle.engines.specs.Keeping.{Conduct}
use Rattle.talks.specs.Headline.{HoldsTable, RunOn, RunStarts, SteppedTalk, Unopened}
use Rattle.talks.specs.Talking.{Talking, Left}
use Rattle.talks.specs.declared.stopped.Stopped.{Stopped}
use Rattle.talks.specs.declared.stopped.Stopped.TheVariants.{Memory, ScriptLong}

-- The reader has taken nothing yet, and so many bytes of the source count.
pub record BeginsReading (reader : Lines) (most : ℕ) : Type 0 where
  pub none : ahead reader ≡ []
  pub count : counted reader ≡ most
  pub may : to_take reader ≡ most + 1

-- The source was read to its end, and each of its bytes counts.
abbrev pub ReadsAll : ℕ → Left → Left → Type 0
ReadsAll most left at = (script : List ℕ) → left ≡ Some script → (length script ≤ most) × (at ≡ Some [])

-- The source lost a front, of one byte more than count at most. It is too long only where it has more bytes than count.
abbrev pub ReadsSome : ℕ → Left → Stopped → Left → Type 0
ReadsSome most left why at = (script : List ℕ) → left ≡ Some script → (why ≡ ScriptLong → most < length script) × ((n : ℕ) × (n ≤ most + 1) × (at ≡ Some (drop n script)))

-- The volume was opened and lines were stepped, from a talk that had taken nothing, or the volume wasn't opened; given how the run ends.
abbrev pub SourceHeadline : {S H T : Type 0} → Meaning S → Conduct S H → (View S → Type 0) → Talking T → (T → ℕ → Type 0) → ℕ → Table → List ℕ → Outside → Outside → Option Stopped → Type 0
SourceHeadline {S} {H} {T} M C Fresh K begins most table was entry now ending =
    ((first : T) × (last : T) × begins first most × SteppedTalk M C Fresh K first last table was entry now ending) ⊎ Unopened M table was entry now ending

-- The source is long exactly where it gave more bytes than count; else it is read to its end. It loses a front, of one byte more than count at most,
-- however the run ends.
pub record ReadsSource (most : ℕ) (before after : Outside) (ending : Option Stopped) : Type 0 where
  pub within : ending ≡ None → (script : List ℕ) → before.left ≡ Some script → length script ≤ most
  pub reads_all : ending ≡ None → (script : List ℕ) → before.left ≡ Some script → after.left ≡ Some []
  pub long : ending ≡ Some ScriptLong → (script : List ℕ) → before.left ≡ Some script → most < length script
  pub draws : (script : List ℕ) → before.left ≡ Some script → (n : ℕ) × (n ≤ most + 1) × (after.left ≡ Some (drop n script))

-- What a run needs to reach the end of its source: a volume, a source that is within its bound, and no fault of the outside.
pub record MayComplete {S : Type 0} (M : Meaning S) (before after : Outside) (most : ℕ) : Type 0 where
  pub table : Table
  pub was : List ℕ
  pub on : HoldsTable M before table was
  pub script : List ℕ
  pub left : before.left ≡ Some script
  pub within : length script ≤ most
  pub no_read_fault : Rose before.read_faults after.read_faults → ⊥
  pub no_output_fault : Rose before.write_faults after.write_faults → ⊥
  pub no_disk_fault : Rose before.disk_faults after.disk_faults → ⊥

-- What a run of a source promises, of which at most so many bytes count, given how it ends.
pub record RunOfSource {S H T : Type 0} (M : Meaning S) (C : Conduct S H) (Fresh : View S → Type 0) (K : Talking T) (begins : T → ℕ → Type 0) (most : ℕ) (before after : Outside) (ending : Option Stopped) : Type 0 where
  -- what was replied, from view to view, what each step kept, and what a stop at any moment leaves
  pub headline : (table : Table) (was : List ℕ) → RunStarts M before table was → SourceHeadline M C Fresh K begins most table was before after ending
  -- what becomes of the disk, and why it was stopped
  pub on : RunOn M C before after ending
  pub reads : ReadsSource most before after ending
  -- Without a fault of the outside it reaches the end of a source that is within its bound, but for want of memory.
  pub completes : MayComplete M before after most → (ending ≡ None) ⊎ (ending ≡ Some Memory)

-- The volume was not opened, since there was no memory for lines: nothing was called.
pub record NotBegun (before after : Outside) : Type 0 where
  pub reads : ReadsOnly before after
  pub idle : MakesCalls 0 before after
