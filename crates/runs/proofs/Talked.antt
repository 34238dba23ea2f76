-- The lines of a source are taken, one after the other.
use Rattle.std.proofs.Common.{◌≡◌, ℕ, Option, Some, None, List, ◌++◌, refl, sym, subst}
use Rattle.std.proofs.lemmas.List.{append-nil}
use Rattle.disk_model.specs.Outside.{Outside, Rose}
use Rattle.script_lines.specs.Lines.{Line}
use Rattle.script_lines.specs.Reader.{ahead, counted, current, to_take}
use Rattle.script_lines.specs.Remains.{Draws, IfTold}
use Rattle.script_lines.specs.Taking.{IsCut}
use Rattle.script_lines.specs.declared.lines.Lines.{Lines}
use Rattle.script_lines.specs.declared.shown.LineFault.{LineFault}
use Rattle.script_lines.specs.declared.shown.LineFault.TheVariants as line_fault
use Rattle.script_lang.specs.Reading.{Reading}
use Rattle.talks.specs.Stops.{CausedBy, IsPart, IsSendingStop, IsTakingStop, unread_as}
use Rattle.talks.specs.Talking.{Exchange, Left}
use Rattle.talks.specs.declared.stopped.Stopped.{Stopped}
use Rattle.talks.specs.declared.stopped.Stopped.TheVariants.{Output, Disk, Memory, BadVolume, Damaged, ScriptLong}
use Rattle.talks.specs.declared.stopped.Stopped.TheVariants as stop
use Rattle.runs.specs.Script.{TakenBy, TakesNext, line_if}
use Rattle.runs.specs.Taking.{moved_more, told_all, told_cut, told_end, told_part, draws_more, loses}
use Rattle.runs.specs.Talked.{HasHeard, HasNext, IsRead, IsBrokenOff}
use Rattle.runs.specs.TalkLaws.{stopped}

-- ---- a line is taken

-- The next line was taken.
pub waits_more : {H : List Line → List Exchange → Type 0} {first old now : Lines} {left a b : Left} {had : List Exchange} → HasHeard H first left had old a → (line : Line) → Some line ≡ current now
    → TakesNext (ahead old) a (counted old) (current now) (ahead now) b (counted now) → Draws (to_take old) a (to_take now) b → HasNext H first left had now b
waits_more {H} {first} {old} {now} {left} {a} {b} {had} so_far line shown takes drawn = record {
  lines = so_far.lines;
  next = line;
  shown = shown;
  moved = moved_more (ahead first) (ahead old) (ahead now) left a b b (counted first) (counted old) (counted now) so_far.lines line (current now) so_far.moved takes shown refl;
  heard = so_far.heard;
  drawn = draws_more (to_take first) (to_take old) (to_take now) left a b so_far.drawn drawn;
}

-- There is none.
pub read_whole : {H : List Line → List Exchange → Type 0} {first old : Lines} (now : Lines) {left a b : Left} {had : List Exchange} → HasHeard H first left had old a → None ≡ current now
    → TakesNext (ahead old) a (counted old) (current now) (ahead now) b (counted now) → Draws (to_take old) a (to_take now) b → IsRead H first left had b
read_whole {H} {first} {old} now {left} {a} {b} {had} so_far none takes drawn = record {
  lines = so_far.lines;
  script = told_all (ahead first) (ahead old) (ahead now) left a b (counted first) (counted old) (counted now) so_far.lines (current now) so_far.moved takes none;
  end = told_end (ahead first) (ahead old) (ahead now) left a b (counted first) (counted old) (counted now) so_far.lines (current now) so_far.moved takes none;
  heard = so_far.heard;
  drawn = loses (draws_more (to_take first) (to_take old) (to_take now) left a b so_far.drawn drawn);
}

-- the lines so far, with none behind them
with_none : {ahead : List ℕ} {left : Left} (most : ℕ) (why : Stopped) (lines : List Line) → IfTold ahead left (λ bytes. TakenBy (Some why) most bytes lines)
    → IfTold ahead left (λ bytes. TakenBy (Some why) most bytes (lines ++ line_if None))
with_none most why lines told = record { each = λ bytes r. subst (λ (l : List Line). TakenBy (Some why) most bytes l) (sym (append-nil lines)) (told.each bytes r) }

-- The source failed.
broken_read : {H : List Line → List Exchange → Type 0} {A : Option Line → Option Reading → Type 0} {first old : Lines} {still : ℕ} {left a b : Left} {had : List Exchange} → HasHeard H first left had old a
    → A None None → Draws (to_take old) a still b → IsBrokenOff H A first left had None stop.Script b
broken_read {H} {A} {first} {old} {still} {left} {a} {b} {had} so_far none drawn = record {
  lines = so_far.lines;
  next = None;
  asks = none;
  complete = λ whole. refl;
  script = with_none (counted first) stop.Script so_far.lines (told_part (ahead first) (ahead old) left a (counted first) (counted old) so_far.lines stop.Script so_far.moved (λ whole. whole));
  heard = so_far.heard;
  drawn = loses (draws_more (to_take first) (to_take old) still left a b so_far.drawn drawn);
}

-- The source is too long.
broken_long : {H : List Line → List Exchange → Type 0} {A : Option Line → Option Reading → Type 0} {first old : Lines} {still : ℕ} {left a b : Left} {had : List Exchange} → HasHeard H first left had old a
    → A None None → IfTold (ahead old) a (IsCut (counted old)) → Draws (to_take old) a still b → IsBrokenOff H A first left had None ScriptLong b
broken_long {H} {A} {first} {old} {still} {left} {a} {b} {had} so_far none cut drawn = record {
  lines = so_far.lines;
  next = None;
  asks = none;
  complete = λ whole. refl;
  script = with_none (counted first) ScriptLong so_far.lines (told_cut (ahead first) (ahead old) left a (counted first) (counted old) so_far.lines so_far.moved cut);
  heard = so_far.heard;
  drawn = loses (draws_more (to_take first) (to_take old) still left a b so_far.drawn drawn);
}

-- No line was taken.
pub broken_taking : {H : List Line → List Exchange → Type 0} {A : Option Line → Option Reading → Type 0} {first old : Lines} {still : ℕ} {left a b : Left} {had : List Exchange} (fault : LineFault) → HasHeard H first left had old a
    → A None None → (fault ≡ line_fault.TooMuch → IfTold (ahead old) a (IsCut (counted old))) → Draws (to_take old) a still b → IsBrokenOff H A first left had None (unread_as fault) b
broken_taking line_fault.Read so_far none cut drawn = broken_read so_far none drawn
broken_taking line_fault.TooMuch so_far none cut drawn = broken_long so_far none (cut refl) drawn

pub taking_stop : (fault : LineFault) → IsTakingStop (unread_as fault)
taking_stop line_fault.Read = tt
taking_stop line_fault.TooMuch = tt

pub taking_caused : (fault : LineFault) (before after : Outside) → (fault ≡ line_fault.Read → Rose before.read_faults after.read_faults) → CausedBy (unread_as fault) before after
taking_caused line_fault.Read before after read = read refl
taking_caused line_fault.TooMuch before after read = tt

-- ---- a reply was sent in part

pub sending_part : (why : Stopped) → IsSendingStop why → IsPart why
sending_part stop.Script stops whole = whole
sending_part Output stops whole = whole
sending_part Disk stops whole = whole
sending_part Memory stops whole = whole
sending_part (BadVolume part) stops whole = whole
sending_part (Damaged page want got) stops whole = whole
sending_part ScriptLong stops whole = stops

-- The sending failed.
pub broken_answer : {H : List Line → List Exchange → Type 0} {A : Option Line → Option Reading → Type 0} {first old : Lines} {left a b : Left} {had : List Exchange} (reading : Reading) (why : Stopped)
    (waits : HasNext H first left had old a) → A (Some waits.next) (Some reading) → IsSendingStop why → b ≡ a → IsBrokenOff H A first left had (Some reading) why b
broken_answer {H} {A} {first} {left = left} {had = had} reading why waits asks stops same =
    subst (λ (at : Left). IsBrokenOff H A first left had (Some reading) why at) (sym same) (stopped reading why waits asks (sending_part why stops))
