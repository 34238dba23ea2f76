-- The laws of the generated script as a talk.
use Rattle.std.proofs.Common.{◌≡◌, ◌∙◌, ◌≤◌, ◌<◌, ◌+◌, ◌^◌, ℕ, Some, None, List, [], ◌∷◌, ◌++◌, length, refl, sym, subst, arith, append_assoc}
use Rattle.std.proofs.lemmas.List.{append-nil}
use Rattle.table_model.specs.declared.reply.Reply.{Reply}
use Rattle.script_lines.specs.Lines.{Short}
use Rattle.script_lang.specs.Reading.{Reading, Silent, Reads}
use Rattle.talks.specs.Talking.{Exchange, Left}
use Rattle.generated.specs.Lines.{line_taken, to_come}
use Rattle.generated.specs.Replies.{IsTallyOf}
use Rattle.generated.specs.Talked.{Heard, HeardFront, HasMade, HasAsked, IsMade, IsCutOff}
use Rattle.generated.specs.declared.talk.Generated.{Generated}

pub begun : (first : Generated) (left : Left) → HasMade first left [] first left
begun first left = record {
  lines = [];
  made = refl;
  heard = tt;
  tallied = λ before is room. subst (λ (l : List Reply). IsTallyOf l first.tally) (sym (append-nil before)) is;
  left_so = refl;
}

-- No line says nothing.
pub quiet : (first now : Generated) (left at : Left) (had : List Exchange) → HasAsked first left had now at → Reads (Short (line_taken now.lines)) Silent → HasMade first left had now at
quiet first now left at had waits silent = absurd (waits.spoken silent)

pub stopped : (first now : Generated) (left at : Left) (had : List Exchange) (reading : Reading) → HasAsked first left had now at → Reads (Short (line_taken now.lines)) reading → IsCutOff first left had (Some reading) at
stopped first now left at had reading waits reads = record {
  heard = record {
    lines = waits.lines;
    next = Some (line_taken now.lines);
    asks = reads;
    front = (to_come now.lines, waits.made ∙ sym (append_assoc waits.lines (line_taken now.lines ∷ []) (to_come now.lines)));
    heard = waits.heard;
  };
  left_so = waits.left_so;
}

-- All lines were answered.
pub heard_whole : {script : List (List ℕ)} {had : List Exchange} → Heard script had → HeardFront script had None
heard_whole {script} heard = record {
  lines = script;
  next = None;
  asks = tt;
  front = ([], sym (append-nil script) ∙ sym (append-nil (script ++ [])));
  heard = heard;
}

pub ended : (first now : Generated) (left at : Left) (had : List Exchange) → IsMade first left had now at → IsCutOff first left had None at
ended first now left at had over = record { heard = heard_whole over.heard; left_so = over.left_so }

-- ---- what is acknowledged: nothing is sent, so a stop may leave any commit of the script

pub next_commit : (first : ℕ) (sent : List ℕ) (j : ℕ) → first ≤ j → first ≤ j + 1
next_commit first sent j least = omega arith

pub front_next : (first : ℕ) (sent : List ℕ) (j n : ℕ) (told : Reply) (text : List ℕ) → first ≤ j → text ≡ [] → n < length text → first ≤ j + 1
front_next first sent j n told text least none short = omega arith

pub one_commit : (first : ℕ) (sent : List ℕ) (j : ℕ) (text : List ℕ) → first ≤ j → text ≡ [] → j + 1 < 2 ^ 64 → first ≤ j + 1
one_commit first sent j text least none fits = omega arith

pub from_first : (first : ℕ) → first ≤ first
from_first first = omega arith
