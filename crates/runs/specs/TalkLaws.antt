-- The laws of a talk that takes the lines of a source, whatever answers them.
use Rattle.std.proofs.Common.{◌∙◌, Option, Some, None, List, [], ◌∷◌, ◌++◌, refl, sym}
use Rattle.std.proofs.lemmas.List.{append-nil}
use Rattle.script_lines.specs.Lines.{Line}
use Rattle.script_lines.specs.Reader.{ahead, counted, to_take}
use Rattle.script_lines.specs.declared.lines.Lines.{Lines}
use Rattle.script_lang.specs.Reading.{Reading}
use Rattle.talks.specs.Stops.{IsPart}
use Rattle.talks.specs.Talking.{Exchange, Left}
use Rattle.talks.specs.declared.stopped.Stopped.{Stopped}
use Rattle.runs.specs.Taking.{moved_none, told_part, taken_part, draws_none, loses}
use Rattle.runs.specs.Talked.{HasHeard, HasNext, IsRead, IsBrokenOff}

-- Nothing was taken yet.
pub begun : {H : List Line → List Exchange → Type 0} (first : Lines) (left : Left) → H [] [] → HasHeard H first left [] first left
begun first left none = record {
  lines = [];
  moved = moved_none (ahead first) left (counted first);
  heard = none;
  drawn = draws_none (to_take first) left;
}

-- The line that waits is answered, or wants no answer: this is what was heard with it.
pub heard_next : {H J : List Line → List Exchange → Type 0} {first now : Lines} {left at : Left} {had then : List Exchange} (waits : HasNext H first left had now at)
    → J (waits.lines ++ waits.next ∷ []) then → HasHeard J first left then now at
heard_next waits heard = record { lines = waits.lines ++ waits.next ∷ []; moved = waits.moved; heard = heard; drawn = waits.drawn }

-- It was stopped on the line that waits, which asked for that.
pub stopped : {H : List Line → List Exchange → Type 0} {A : Option Line → Option Reading → Type 0} {first now : Lines} {left at : Left} {had : List Exchange} (reading : Reading) (why : Stopped)
    (waits : HasNext H first left had now at) → A (Some waits.next) (Some reading) → IsPart why → IsBrokenOff H A first left had (Some reading) why at
stopped {H} {A} {first} {now} {left} {at} {had} reading why waits asks part = record {
  lines = waits.lines;
  next = Some waits.next;
  asks = asks;
  complete = λ whole. absurd (part whole);
  script = told_part (ahead first) (ahead now) left at (counted first) (counted now) (waits.lines ++ waits.next ∷ []) why waits.moved part;
  heard = waits.heard;
  drawn = loses waits.drawn;
}

-- It was stopped at the end.
pub ended : {H : List Line → List Exchange → Type 0} {A : Option Line → Option Reading → Type 0} {first : Lines} {left at : Left} {had : List Exchange} (why : Stopped)
    → IsRead H first left had at → A None None → IsPart why → IsBrokenOff H A first left had None why at
ended {H} {A} {first} why over none part = record {
  lines = over.lines;
  next = None;
  asks = none;
  complete = λ whole. refl;
  script = record {
    each = λ bytes told. taken_part why (counted first) bytes (over.lines ++ []) part ([], sym ((over.script.each bytes told).0) ∙ sym (append-nil over.lines) ∙ sym (append-nil (over.lines ++ [])));
  };
  heard = over.heard;
  drawn = over.drawn;
}
