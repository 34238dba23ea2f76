-- What the serving of a schedule promises.
use Rattle.std.proofs.Common.{◌≡◌, ◌∙◌, ℕ, Option, Some, None, List, [], ◌∷◌, ◌++◌, inl, inr, ⊎_elim, sym, ap, subst}
use Rattle.std.specs.Prelude.{is_some}
use Rattle.disk_model.specs.Outside.{Outside}
use Rattle.table_model.specs.Requests.{Request}
use Rattle.table_model.specs.declared.reply.Refusal.{Refusal}
use Rattle.table_model.specs.declared.reply.Refusal.TheVariants as refusal
use Rattle.table_model.specs.declared.reply.Reply.{Reply}
use Rattle.table_model.specs.declared.reply.Reply.TheVariants as reply
use Rattle.table_model.specs.declared.machine.Machine.{Machine}
use Rattle.table_model.specs.declared.machine.Pick.{Pick}
use Rattle.table_model.specs.declared.table.Table.{Table}
use Rattle.script_lines.specs.Lines.{Line}
use Rattle.script_lang.specs.Reading.{Reading, Silent, Asks, Fails}
use Rattle.session_views.specs.View.{View, Meaning}
use Rattle.engines.specs.Keeping.{Conduct}
use Rattle.talks.specs.Headline.{SteppedTalk}
use Rattle.talks.specs.Talking.{Exchange, HasTalked, Left}
use Rattle.talks.specs.Transcript.{LastText, Row, StepsTo, Trail, exchanges, request_in}
use Rattle.talks.specs.declared.stopped.Stopped.{Stopped}
use Rattle.runs.specs.Source.{SourceHeadline}
use Rattle.runs.proofs.Sourced.{Lined, lined_read, lined_broken}
use Rattle.clients.specs.Headline.{AskedBy, LastReply, Served, ServedTurns}
use Rattle.clients.specs.Heard.{Heard, IsAnswered, LastAsks}
use Rattle.clients.specs.Names.{owned}
use Rattle.clients.specs.Routing.{busy_with, owner_after, routed, turn_text, unless_busy}
use Rattle.clients.specs.ScheduleTalk.{BeginsSchedule, schedule_talking}
use Rattle.clients.specs.declared.schedule.Schedule.{Schedule}
use Rattle.clients.proofs.Owners.{owner_follows}

-- ---- the last line

last_reply : {S : Type 0} (M : Meaning S) (after : View S) (owner : Option ℕ) (client : ℕ) (line : Option Line) (last : Option Reading) (front : List ℕ) → LastAsks owner client line last
    → LastText M (turn_text client) after last front → LastReply M after owner line front
last_reply M after owner client None None front asks is = is
last_reply M after owner client None (Some reading) front asks is = absurd asks
last_reply M after owner client (Some line) None front asks is = absurd asks
last_reply M after owner client (Some line) (Some reading) front asks is = ⊎_elim (λ none. inl none)
    (λ begun. inr (record { client = client; said = asks.0; turn = asks.1; begun = rw (← asks.2) begun })) is

asked_by : (owner : Option ℕ) (client : ℕ) (line : Option Line) (last : Option Reading) → LastAsks owner client line last → AskedBy owner line (request_in last)
asked_by owner client line None asks = tt
asked_by owner client line (Some Silent) asks = tt
asked_by owner client None (Some (Asks r)) asks = asks
asked_by owner client (Some line) (Some (Asks r)) asks = (client, asks)
asked_by owner client line (Some (Fails why)) asks = tt

-- ---- whose transaction is open

-- A refusal leaves the machine, and the owner.
refused : {S : Type 0} (before : View S) (owner : Option ℕ) (client : ℕ) (told : Reply) (after : View S) (why : Refusal) → told ≡ reply.No why → after ≡ before
    → is_some owner ≡ is_some before.machine.working → is_some (owner_after client told owner) ≡ is_some after.machine.working
refused {S} before owner client told after why is stays same =
    ap (λ (t : Reply). is_some (owner_after client t owner)) is ∙ same ∙ ap (λ (v : View S). is_some v.machine.working) (sym stays)

module _ {S : Type 0} (M : Meaning S) where
  by_busy : (busy : Option ℕ) (before : View S) (owner : Option ℕ) (client : ℕ) (r : Request) (reading : Reading) (pick : Pick) (told : Reply) (after : View S) → reading ≡ unless_busy busy (owned client r)
      → StepsTo M before reading pick told after → is_some owner ≡ is_some before.machine.working → is_some (owner_after client told owner) ≡ is_some after.machine.working
  by_busy None before owner client r reading pick told after is steps same =
      let step = subst (λ (x : Reading). StepsTo M before x pick told after) is steps in
      owner_follows before.machine client r pick told after.machine owner step.0 same
  by_busy (Some other) before owner client r reading pick told after is steps same =
      let step = subst (λ (x : Reading). StepsTo M before x pick told after) is steps in
      refused before owner client told after (refusal.Busy other) step.0 step.1 same

  by_said : (before : View S) (owner : Option ℕ) (client : ℕ) (said reading : Reading) (pick : Pick) (told : Reply) (after : View S) → reading ≡ routed owner client said
      → StepsTo M before reading pick told after → is_some owner ≡ is_some before.machine.working → is_some (owner_after client told owner) ≡ is_some after.machine.working
  by_said before owner client Silent reading pick told after is steps same = absurd (subst (λ (x : Reading). StepsTo M before x pick told after) is steps)
  by_said before owner client (Asks r) reading pick told after is steps same = by_busy (busy_with owner client r) before owner client r reading pick told after is steps same
  by_said before owner client (Fails why) reading pick told after is steps same =
      let step = subst (λ (x : Reading). StepsTo M before x pick told after) is steps in refused before owner client told after why step.0 step.1 same

  answered : (before : View S) (owner after : Option ℕ) (line : Line) (row : Row S) (had rest : List Exchange) → IsAnswered owner line (row.had ∷ had) after rest
      → StepsTo M before row.had.reading row.pick row.had.told row.view → is_some owner ≡ is_some before.machine.working → is_some after ≡ is_some row.view.machine.working
  answered before owner after line row had rest is steps same =
      let first : row.had ≡ is.first = (let both = is.had_is in cc) in
      let asked : row.had.reading ≡ routed owner is.client is.reading = ap (λ (x : Exchange). x.reading) first ∙ is.step.asked in
      let owned : after ≡ owner_after is.client row.had.told owner = is.step.after_is ∙ ap (λ (x : Exchange). owner_after is.client x.told owner) (sym first) in
      ap (λ (o : Option ℕ). is_some o) owned ∙ by_said before owner is.client is.reading row.had.reading row.pick row.had.told row.view asked steps same

  module _ {H : Type 0} (C : Conduct S H) (now : Outside) (was : List ℕ) where
    pub whose : (lines : List Line) (rows : List (Row S)) (owner last : Option ℕ) (since : ℕ) (sent : List ℕ) (before after : View S) → Heard owner lines (exchanges rows) last
        → Trail M C now was since sent before rows after → is_some owner ≡ is_some before.machine.working → is_some last ≡ is_some after.machine.working
    whose [] [] owner last since sent before after heard trail same =
        ap (λ (o : Option ℕ). is_some o) heard.1 ∙ same ∙ ap (λ (v : View S). is_some v.machine.working) (sym trail)
    whose [] (row ∷ rows) owner last since sent before after heard trail same = absurd (let no = heard.0 in cc)
    whose (line ∷ lines) [] owner last since sent before after (inl quiet) trail same = whose lines [] owner last since sent before after quiet.1 trail same
    whose (line ∷ lines) [] owner last since sent before after (inr told) trail same = absurd (let no = told.2.had_is in cc)
    whose (line ∷ lines) (row ∷ rows) owner last since sent before after (inl quiet) trail same = whose lines (row ∷ rows) owner last since sent before after quiet.1 trail same
    whose (line ∷ lines) (row ∷ rows) owner last since sent before after (inr told) trail same =
        let rest : exchanges rows ≡ told.1 = (let both = told.2.had_is in cc) in
        whose lines rows told.0 last row.time (sent ++ row.had.text) row.view after (subst (λ (had : List Exchange). Heard told.0 lines had last) (sym rest) told.3) trail.1
        (answered before owner told.0 line row (exchanges rows) told.1 told.2 trail.0.steps same)

-- ---- the whole serving

abbrev HeardFrom : Option ℕ → Option ℕ → List Line → List Exchange → Type 0
HeardFrom owner last lines had = Heard owner lines had last

-- What the lines came to: those that were answered, and the one after them, with whose transaction was open then, and whose line was taken last.
lined : {most : ℕ} (first talk handed : Schedule) (left at : Left) (had : List Exchange) (last : Option Reading) (ending : Option Stopped) → BeginsSchedule first most
    → HasTalked schedule_talking first left had last ending talk handed at
    → (owner : Option ℕ) × Lined (HeardFrom None owner) (LastAsks owner handed.clients.client) most left had last ending
lined {most} first talk handed left at had last None begins talked = (
  talk.clients.owner,
  subst (λ (l : Option Reading). Lined (HeardFrom None talk.clients.owner) (LastAsks talk.clients.owner handed.clients.client) most left had l None) (sym talked.0)
      (subst (λ (o : Option ℕ). Lined (HeardFrom o talk.clients.owner) (LastAsks talk.clients.owner handed.clients.client) most left had None None) begins.closed
      (lined_read begins.reading tt talked.1)),
)
lined {most} first talk handed left at had last (Some why) begins talked = (
  handed.clients.owner,
  subst (λ (o : Option ℕ). Lined (HeardFrom o handed.clients.owner) (LastAsks handed.clients.owner handed.clients.client) most left had last (Some why)) begins.closed
      (lined_broken begins.reading talked),
)

served_turns : {S H : Type 0} {M : Meaning S} {C : Conduct S H} {Fresh : View S → Type 0} {first last : Schedule} {table : Table} {was : List ℕ} {entry now : Outside} {ending : Option Stopped} (most : ℕ)
    → BeginsSchedule first most → SteppedTalk M C Fresh schedule_talking first last table was entry now ending → ServedTurns M C Fresh table was most entry now ending
served_turns {S} {H} {M} {C} {Fresh} {first} {last} {table} {was} {entry} {now} {ending} most begins talk =
    let found = lined first last talk.at entry.left now.left (exchanges talk.rows) talk.last ending begins talk.talked in
    let lines : Lined (HeardFrom None found.0) (LastAsks found.0 talk.at.clients.client) most entry.left (exchanges talk.rows) talk.last ending = found.1 in record {
      opening = talk.opening;
      time = talk.time;
      opened = talk.opened;
      done = lines.done;
      last = lines.next;
      script = lines.script;
      complete = lines.complete;
      rows = talk.rows;
      after = talk.after;
      owner = found.0;
      heard = lines.heard;
      whose = whose M C now was lines.done talk.rows None found.0 talk.time [] talk.opening talk.after lines.heard talk.trail (sym (ap (λ (m : Machine). is_some m.working) talk.opened.starts.is));
      front = talk.front;
      sent = talk.sent;
      is_front = last_reply M talk.after found.0 talk.at.clients.client lines.next talk.last talk.front lines.asks talk.is_front;
      uncut = talk.uncut;
      trail = talk.trail;
      ended = talk.ended;
      asked = request_in talk.last;
      is_asked = asked_by found.0 talk.at.clients.client lines.next talk.last lines.asks;
      kept = talk.kept;
      stops = talk.stops;
    }

pub served_of : {S H : Type 0} {M : Meaning S} {C : Conduct S H} {Fresh : View S → Type 0} {table : Table} {was : List ℕ} {entry now : Outside} {ending : Option Stopped} {most : ℕ}
    → SourceHeadline M C Fresh schedule_talking BeginsSchedule most table was entry now ending → Served M C Fresh table was most entry now ending
served_of {most = most} headline = ⊎_elim (λ stepped. inl (served_turns most stepped.2 stepped.3)) (λ unopened. inr unopened) headline
