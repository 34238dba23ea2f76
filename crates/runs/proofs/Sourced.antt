-- From a talk that takes the lines of a source to what its run promises.
use Rattle.std.proofs.Common.{◌≡◌, ◌⊎◌, ◌∙◌, ◌≤◌, ℕ, Option, Some, None, Result, Ok, Err, OnOk, IfErr, List, [], ◌++◌, length, inl, inr, ⊎_elim, refl, sym, ap, subst, arith}
use Rattle.std.specs.Result.{result_err}
use Rattle.std.proofs.lemmas.List.{append-nil}
use Rattle.std.proofs.lemmas.Option.{same_Some}
use Rattle.std.proofs.Math.Seq.{drop-length}
use Rattle.disk_model.specs.Outside.{DiskOnly, IsWorld, Outside, Rose}
use Rattle.disk_model.specs.Runs.{disk_refl, leaves_start, writes_nothing_refl}
use Rattle.table_model.specs.declared.table.Table.{Table}
use Rattle.script_lines.specs.Lines.{Line}
use Rattle.script_lines.specs.Reader.{ahead, counted}
use Rattle.script_lines.specs.Remains.{IfTold}
use Rattle.script_lines.specs.declared.lines.Lines.{Lines}
use Rattle.script_lang.specs.Reading.{Reading}
use Rattle.session_views.specs.View.{View, Meaning}
use Rattle.engines.specs.Keeping.{Conduct}
use Rattle.talks.specs.Headline.{RunOn, RunStarts, TalkHeadline}
use Rattle.talks.specs.Passage.{IsBroken, IsOver}
use Rattle.talks.specs.Stops.{CausedBy, IsOpeningStop, IsSoundStop, IsWhole}
use Rattle.talks.specs.Talking.{Exchange, Left, Talking}
use Rattle.talks.specs.declared.stopped.Stopped.{Stopped}
use Rattle.talks.specs.declared.stopped.Stopped.TheVariants.{Output, Disk, Memory, BadVolume, Damaged, ScriptLong}
use Rattle.talks.specs.declared.stopped.Stopped.TheVariants as stopped
use Rattle.talks.proofs.Stopping.{opening_undamaged}
use Rattle.talks.proofs.Whole.{unopened}
use Rattle.runs.specs.Script.{TakenBy, line_if}
use Rattle.runs.specs.Source.{BeginsReading, MayComplete, ReadsAll, ReadsSome, ReadsSource, RunOfSource}
use Rattle.runs.specs.Taking.{told_script}
use Rattle.runs.specs.Talked.{IsBrokenOff, IsRead}

-- ---- the lines that were taken

-- What a talk of a source tells of its lines: those that were answered, and the one after them.
pub record Lined (H : List Line → List Exchange → Type 0) (A : Option Line → Option Reading → Type 0) (most : ℕ) (left : Left) (had : List Exchange) (last : Option Reading) (ending : Option Stopped) : Type 0 where
  pub done : List Line
  pub next : Option Line
  pub asks : A next last
  pub complete : IsWhole ending → next ≡ None
  pub script : (bytes : List ℕ) → left ≡ Some bytes → TakenBy ending most bytes (done ++ line_if next)
  pub heard : H done had

pub lined_read : {H : List Line → List Exchange → Type 0} {A : Option Line → Option Reading → Type 0} {most : ℕ} {first : Lines} {left at : Left} {had : List Exchange} → BeginsReading first most → A None None
    → IsRead H first left had at → Lined H A most left had None None
lined_read {most = most} {first = first} {left = left} begins none read = record {
  done = read.lines;
  next = None;
  asks = none;
  complete = λ whole. refl;
  script = λ bytes told. subst (λ (l : List Line). TakenBy None most bytes l) (sym (append-nil read.lines))
      (told_script None (ahead first) left left (counted first) most read.lines begins.none begins.count refl read.script bytes told);
  heard = read.heard;
}

pub lined_broken : {H : List Line → List Exchange → Type 0} {A : Option Line → Option Reading → Type 0} {most : ℕ} {first : Lines} {left at : Left} {had : List Exchange} {last : Option Reading} {why : Stopped}
    → BeginsReading first most → IsBrokenOff H A first left had last why at → Lined H A most left had last (Some why)
lined_broken {most = most} {first = first} {left = left} {why = why} begins broken = record {
  done = broken.lines;
  next = broken.next;
  asks = broken.asks;
  complete = broken.complete;
  script = told_script (Some why) (ahead first) left left (counted first) most (broken.lines ++ line_if broken.next) begins.none begins.count refl broken.script;
  heard = broken.heard;
}

-- ---- what the source lost

-- of all of a source that a reader has taken nothing of
told_first : (P : List ℕ → Type 0) (ahead : List ℕ) (left : Left) → ahead ≡ [] → IfTold ahead left P → (script : List ℕ) → left ≡ Some script → P script
told_first P ahead left none told script is = told.each script (record { behind = script; told = is; whole = sym (ap (λ (l : List ℕ). l ++ script) none) })

pub reads_all : {H : List Line → List Exchange → Type 0} {most : ℕ} {first : Lines} {left at : Left} {had : List Exchange} → BeginsReading first most → IsRead H first left had at → ReadsAll most left at
reads_all {most = most} {first = first} {left = left} {at = at} begins read script told = (
  (told_script None (ahead first) left left (counted first) most read.lines begins.none begins.count refl read.script script told).1,
  told_first (λ bytes. at ≡ Some []) (ahead first) left begins.none read.end script told,
)

pub reads_some : {H : List Line → List Exchange → Type 0} {A : Option Line → Option Reading → Type 0} {most : ℕ} {first : Lines} {left at : Left} {had : List Exchange} {last : Option Reading} {why : Stopped}
    → BeginsReading first most → IsBrokenOff H A first left had last why at → ReadsSome most left why at
reads_some {most = most} {first = first} {left = left} {why = why} begins broken script told =
    let lines : List Line = broken.lines ++ line_if broken.next in
    let taken : TakenBy (Some why) most script lines = told_script (Some why) (ahead first) left left (counted first) most lines begins.none begins.count refl broken.script script told in
    let lost = broken.drawn script told in
    (λ long. (subst (λ (w : Stopped). TakenBy (Some w) most script lines) long taken).1, (lost.0, omega (arith, lost.1, begins.may), lost.2))

-- So a stop shows, whether lines were stepped or not.
abbrev pub HasBroken : {T : Type 0} → Talking T → T → Outside → Outside → Stopped → Type 0
HasBroken K first before after why = IsBroken K first before.left why after.left ⊎ (IsOpeningStop why × DiskOnly before after)

pub reads_source : {T X : Type 0} (K : Talking T) {first : T} {most : ℕ} {before after : Outside} (r : Result X Stopped) → OnOk r (IsOver K first before.left after.left) → IfErr r (HasBroken K first before after)
    → ((left at : Left) → IsOver K first left at → ReadsAll most left at) → ((left at : Left) (why : Stopped) → IsBroken K first left why at → ReadsSome most left why at)
    → ReadsSource most before after (result_err r)
reads_source K {first} {most} {before} {after} (Ok x) over broken all some = record {
  within = λ is script told. (all before.left after.left over script told).0;
  reads_all = λ is script told. (all before.left after.left over script told).1;
  long = λ is. absurd (cc);
  draws = λ script told.
      let read = all before.left after.left over script told in
      let within : length script ≤ most = read.0 in
      (length script, omega (arith, within), read.1 ∙ ap (λ (l : List ℕ). Some l) (sym (drop-length script)));
}
reads_source K {first} {most} {before} {after} (Err why) over broken all some = record {
  within = λ is. absurd (cc);
  reads_all = λ is. absurd (cc);
  long = λ is script told. ⊎_elim (λ off. (some before.left after.left why off script told).0 (same_Some why ScriptLong is))
      (λ opening. absurd (subst IsOpeningStop (same_Some why ScriptLong is) opening.0)) broken;
  draws = λ script told. ⊎_elim (λ off. (some before.left after.left why off script told).1) (λ opening. (0, omega arith, opening.1.left ∙ told)) broken;
}

-- ---- the whole run

-- Only want of memory is left.
memory_left : (why : Stopped) (before after : Outside) → IsSoundStop why → CausedBy why before after → (why ≡ ScriptLong → ⊥) → (Rose before.read_faults after.read_faults → ⊥)
    → (Rose before.write_faults after.write_faults → ⊥) → (Rose before.disk_faults after.disk_faults → ⊥) → why ≡ Memory
memory_left stopped.Script before after sound caused short read write disk = absurd (read caused)
memory_left Output before after sound caused short read write disk = absurd (write caused)
memory_left Disk before after sound caused short read write disk = absurd (disk caused)
memory_left Memory before after sound caused short read write disk = refl
memory_left (BadVolume part) before after sound caused short read write disk = absurd sound
memory_left (Damaged page want got) before after sound caused short read write disk = absurd sound
memory_left stopped.ScriptLong before after sound caused short read write disk = absurd (short refl)

completed : {S H : Type 0} {M : Meaning S} {C : Conduct S H} {before after : Outside} {most : ℕ} (ending : Option Stopped) → RunOn M C before after ending → ReadsSource most before after ending → MayComplete M before after most
    → (ending ≡ None) ⊎ (ending ≡ Some Memory)
completed None on reads may = inl refl
completed {before = before} {after = after} (Some why) on reads may =
    inr (ap (λ (w : Stopped). Some w) (memory_left why before after (on.sound may.table may.was may.on) on.caused
    (λ long. let more = reads.long (ap (λ (w : Stopped). Some w) long) may.script may.left in omega (arith, more, may.within)) may.no_read_fault may.no_output_fault may.no_disk_fault))

pub run_of_source : {S H T : Type 0} {M : Meaning S} {C : Conduct S H} {Fresh : View S → Type 0} {K : Talking T} {begins : T → ℕ → Type 0} {most : ℕ} {before after : Outside} (ending : Option Stopped) (first last : T)
    → begins first most → ((table : Table) (was : List ℕ) → RunStarts M before table was → TalkHeadline M C Fresh K first last table was before after ending)
    → RunOn M C before after ending → ReadsSource most before after ending → RunOfSource M C Fresh K begins most before after ending
run_of_source ending first last begins headline on reads = record {
  headline = λ table was starts. ⊎_elim (λ stepped. inl (first, last, begins, stepped)) (λ unopened. inr unopened) (headline table was starts);
  on = on;
  reads = reads;
  completes = completed ending on reads;
}

-- No memory was there for the lines: nothing was begun.
pub unbegun : {S H T : Type 0} {M : Meaning S} {C : Conduct S H} {Fresh : View S → Type 0} {K : Talking T} {begins : T → ℕ → Type 0} {most : ℕ} (w : Outside) → IsWorld w → RunOfSource M C Fresh K begins most w w (Some Memory)
unbegun {M = M} {C = C} w world = record {
  headline = λ table was starts. inr (unopened world starts (disk_refl w)
      (leaves_start w (λ d. M.StandsFor d table) world (λ d here. subst (λ (x : List ℕ). M.StandsFor x table) (sym (starts.settled d here)) starts.on.stands)) Memory tt);
  on = record {
    caused = tt;
    damaged = opening_undamaged C w w Memory tt;
    sound = λ table was on. tt;
    bad = λ part is. absurd (cc);
    bad_only = λ part is. absurd (cc);
    bad_kept = λ part is. absurd (cc);
    unopened = λ image part holds fails. (Memory, refl, tt);
    left = λ image part holds fails. writes_nothing_refl w;
    told = λ other. refl;
  };
  reads = record {
    within = λ is. absurd (cc);
    reads_all = λ is. absurd (cc);
    long = λ is. absurd (cc);
    draws = λ script told. (0, omega arith, told);
  };
  completes = λ may. inr refl;
}
