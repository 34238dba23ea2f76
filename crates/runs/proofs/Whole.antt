-- What a run of a script promises.
use Rattle.std.proofs.Common.{ℕ, Option, Some, None, List, ◌++◌, inl, inr, ⊎_elim, refl, subst, sym}
use Rattle.disk_model.specs.Outside.{Outside}
use Rattle.table_model.specs.declared.table.Table.{Table}
use Rattle.script_lines.specs.Lines.{Line}
use Rattle.script_lang.specs.Reading.{Reading, Silent, Asks, Fails}
use Rattle.script_replies.specs.ReplyText.{text_of}
use Rattle.session_views.specs.View.{View, Meaning}
use Rattle.engines.specs.Keeping.{Conduct}
use Rattle.talks.specs.Headline.{SteppedTalk}
use Rattle.talks.specs.Talking.{Exchange, HasTalked, Left}
use Rattle.talks.specs.Transcript.{LastText, exchanges, request_in}
use Rattle.talks.specs.declared.stopped.Stopped.{Stopped}
use Rattle.runs.specs.Headline.{AskedBy, Headline, LastReply, SteppedLines}
use Rattle.runs.specs.Heard.{Heard, LastAsks}
use Rattle.runs.specs.Script.{line_if}
use Rattle.runs.specs.ScriptTalk.{script_begins, script_talking}
use Rattle.runs.specs.Source.{BeginsReading, SourceHeadline}
use Rattle.runs.specs.declared.script.Script.{Script}
use Rattle.runs.proofs.Sourced.{Lined, lined_read, lined_broken}

-- ---- the last line

last_reply : {S : Type 0} (M : Meaning S) (after : View S) (line : Option Line) (last : Option Reading) (front : List ℕ) → LastAsks line last → LastText M text_of after last front → LastReply M after line front
last_reply M after None None front asks is = is
last_reply M after None (Some reading) front asks is = absurd asks
last_reply M after (Some line) None front asks is = absurd asks
last_reply M after (Some line) (Some reading) front asks is = ⊎_elim (λ none. inl none) (λ begun. inr (record { reading = reading; reads = asks; begun = begun })) is

asked_by : (line : Option Line) (last : Option Reading) → LastAsks line last → AskedBy line (request_in last)
asked_by line None asks = tt
asked_by line (Some Silent) asks = tt
asked_by None (Some (Asks r)) asks = asks
asked_by (Some line) (Some (Asks r)) asks = asks
asked_by line (Some (Fails why)) asks = tt

-- ---- the whole run

lined : {most : ℕ} (first talk handed : Script) (left at : Left) (had : List Exchange) (last : Option Reading) (ending : Option Stopped) → BeginsReading first.reader most
    → HasTalked script_talking first left had last ending talk handed at → Lined Heard LastAsks most left had last ending
lined {most} first talk handed left at had last None begins talked =
    subst (λ (l : Option Reading). Lined Heard LastAsks most left had l None) (sym talked.0) (lined_read begins tt talked.1)
lined first talk handed left at had last (Some why) begins talked = lined_broken begins talked

stepped_lines : {S H : Type 0} {M : Meaning S} {C : Conduct S H} {Fresh : View S → Type 0} {first last : Script} {table : Table} {was : List ℕ} {entry now : Outside} {ending : Option Stopped} (most : ℕ) → BeginsReading first.reader most
    → SteppedTalk M C Fresh script_talking first last table was entry now ending → SteppedLines M C Fresh table was most entry now ending
stepped_lines {S} {H} {M} {C} {Fresh} {first} {last} {table} {was} {entry} {now} {ending} most begins talk =
    let lines : Lined Heard LastAsks most entry.left (exchanges talk.rows) talk.last ending = lined first last talk.at entry.left now.left (exchanges talk.rows) talk.last ending begins talk.talked in record {
      opening = talk.opening;
      time = talk.time;
      opened = talk.opened;
      lines = lines.done ++ line_if lines.next;
      script = lines.script;
      rows = talk.rows;
      after = talk.after;
      done = lines.done;
      last = lines.next;
      taken = refl;
      complete = lines.complete;
      heard = lines.heard;
      front = talk.front;
      sent = talk.sent;
      is_front = last_reply M talk.after lines.next talk.last talk.front lines.asks talk.is_front;
      uncut = talk.uncut;
      trail = talk.trail;
      ended = talk.ended;
      asked = request_in talk.last;
      is_asked = asked_by lines.next talk.last lines.asks;
      kept = talk.kept;
      stops = talk.stops;
    }

pub headline_of : {S H : Type 0} {M : Meaning S} {C : Conduct S H} {Fresh : View S → Type 0} {table : Table} {was : List ℕ} {entry now : Outside} {ending : Option Stopped} {most : ℕ}
    → SourceHeadline M C Fresh script_talking script_begins most table was entry now ending → Headline M C Fresh table was most entry now ending
headline_of {most = most} headline = ⊎_elim (λ stepped. inl (stepped_lines most stepped.2 stepped.3)) (λ unopened. inr unopened) headline
