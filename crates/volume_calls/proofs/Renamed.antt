-- What is said of the outside of a lent host holds whichever loans it has.
use Rattle.std.proofs.Common.{◌≡◌, ℕ, List, Option, Result, Ok, Err, IfOk, OnOk, refl}
use Rattle.disk_model.specs.Outside.{Leaves, ReadsOnly}
use Rattle.table_model.specs.declared.reply.Reply.{Reply}
use Rattle.table_model.specs.declared.reply.Refusal.{Refusal}
use Rattle.table_model.specs.declared.table.Table.{Table}
use Rattle.table_model.specs.Requests.{Request}
use Rattle.script_lines.specs.Lines.{Line}
use Rattle.script_lang.specs.Reading.{Reading, Silent, Asks, Fails}
use Rattle.session_views.specs.declared.stop.Stop.{Stop}
use Rattle.session_views.specs.declared.opener.OpenFault.{OpenFault}
use Rattle.session_views.specs.View.{Meaning, View, ShowsNow, Stepped}
use Rattle.talks.specs.Opening.{Opened}
use Rattle.lent_host.specs.Lent.{outside_of}
use Rattle.lent_host.specs.declared.host.Asked.{Asked}
use Rattle.volume_calls.specs.declared.lines.Unanswered.{Unanswered}
use Rattle.volume_calls.specs.Lines.{Answered, MayLeave, WasDone}
use Rattle.volume_calls.specs.Over.{StepsOver, LinesOver, OpensOver}

-- what holds of a value that is Ok
pub on_ok : {A : Type 0} {B : Type 0} {P Q : A → Type 0} (result : Result A B) → ((x : A) → P x → Q x) → IfOk result P → IfOk result Q
on_ok (Ok x) on p = on x p
on_ok (Err why) on p = tt

module _ {S : Type 0} (M : Meaning S) (file : List ℕ) (asked : List Asked) (i a j b : ℕ) where
  pub shows_renamed : {before : View S} → ShowsNow M (outside_of file asked i a) before → ShowsNow M (outside_of file asked j b) before
  shows_renamed shows = record { honest = shows.honest; holds = shows.holds; shows = shows.shows }

  stepped_renamed : {before : View S} {r : Request} {told : Reply} {session : S} → Stepped M before r told session (outside_of file asked i a) → Stepped M before r told session (outside_of file asked j b)
  stepped_renamed stepped = record { after = stepped.after; is = stepped.is; shows = shows_renamed stepped.shows; step = stepped.step }

  answered_renamed : (before : View S) (why : Option Refusal) (text : List ℕ) (session : S) (reading : Reading)
      → Answered M before reading why text session (outside_of file asked i a) → Answered M before reading why text session (outside_of file asked j b)
  answered_renamed before why text session Silent answered = (answered.0, answered.1, answered.2, shows_renamed answered.3)
  answered_renamed before why text session (Asks r) answered = (answered.0, answered.1, answered.2, stepped_renamed answered.3)
  answered_renamed before why text session (Fails refused) answered = (answered.0, answered.1, answered.2, shows_renamed answered.3)

  done_renamed : (before : View S) (session : S) (reading : Reading) → WasDone M before reading session (outside_of file asked i a) → WasDone M before reading session (outside_of file asked j b)
  done_renamed before session Silent done = done
  done_renamed before session (Asks r) done = (done.0, stepped_renamed done.1)
  done_renamed before session (Fails refused) done = (done.0, shows_renamed done.1)

  opened_renamed : {Fresh : View S → Type 0} {table : Table} {session : S} → Opened M Fresh table session (outside_of file asked i a) → Opened M Fresh table session (outside_of file asked j b)
  opened_renamed opened = record { view = opened.view; is = opened.is; starts = opened.starts; shows = shows_renamed opened.shows; fresh = opened.fresh }

module _ (file : List ℕ) (asked now : List Asked) (i a i' a' : ℕ) where
  leaves_renamed : (Q : List ℕ → Type 0) → Leaves (outside_of file asked i a) (outside_of file now i' a') Q → Leaves (outside_of file asked 0 0) (outside_of file now 0 0) Q
  leaves_renamed Q leaves = record { clock = leaves.clock; each = leaves.each; adds = record { each = leaves.adds.each }; now = leaves.now }

  reads_renamed : ReadsOnly (outside_of file asked i a) (outside_of file now i' a') → ReadsOnly (outside_of file asked 0 0) (outside_of file now 0 0)
  reads_renamed reads =
      let only = reads.nothing.only in
      let goes = only.goes in
      record {
        nothing = record {
          only = record {
            goes = record {
              size = goes.size;
              honest = goes.honest;
              disk_told = goes.disk_told;
              left_told = goes.left_told;
              sent_told = goes.sent_told;
              calls_told = goes.calls_told;
              clock = goes.clock;
              disk_faults = goes.disk_faults;
              read_faults = goes.read_faults;
              write_faults = goes.write_faults;
              moments = goes.moments;
              past = goes.past;
            };
            left = refl;
            sent = only.sent;
            read_faults = only.read_faults;
            write_faults = only.write_faults;
            adds = record { each = only.adds.each };
          };
          disk = reads.nothing.disk;
          back = reads.nothing.back;
          adds = λ honest. record { each = (reads.nothing.adds honest).each };
        };
        on = reads.on;
      }

  module _ {S : Type 0} (M : Meaning S) where
    pub steps_renamed : {session last : S} {r : Request} (result : Result Reply Stop) → StepsOver M session last (outside_of file asked i a) (outside_of file now i' a') r result
        → StepsOver M session last (outside_of file asked 0 0) (outside_of file now 0 0) r result
    steps_renamed result steps = record {
      stepped = λ before same shows. on_ok result (λ told stepped. stepped_renamed M file now i' a' 0 0 stepped) (steps.stepped before same (shows_renamed M file asked 0 0 i a shows));
      sound = λ before why same shows. steps.sound before why same (shows_renamed M file asked 0 0 i a shows);
      any_moment = λ before same shows. leaves_renamed _ (steps.any_moment before same (shows_renamed M file asked 0 0 i a shows));
      takes_none = steps.takes_none;
      unwritten = λ commit memory. reads_renamed (steps.unwritten commit memory);
      damaged = steps.damaged;
    }

    pub lines_renamed : {session last : S} {line : Line} {text : List ℕ} (result : Result (Option Refusal) Unanswered) → LinesOver M session last (outside_of file asked i a) (outside_of file now i' a') line text result
        → LinesOver M session last (outside_of file asked 0 0) (outside_of file now 0 0) line text result
    lines_renamed {session} {last} {line} {text} result lines = record {
      answered = λ before reading same shows reads. on_ok result (λ why answered. answered_renamed M file now i' a' 0 0 before why text last reading answered) (lines.answered before reading same (shows_renamed M file asked 0 0 i a shows) reads);
      sound = λ before why same shows. lines.sound before why same (shows_renamed M file asked 0 0 i a shows);
      untold = λ before reading same shows reads is. done_renamed M file now i' a' 0 0 before last reading (lines.untold before reading same (shows_renamed M file asked 0 0 i a shows) reads is);
      any_moment = λ before reading same shows reads. leaves_renamed _ (lines.any_moment before reading same (shows_renamed M file asked 0 0 i a shows) reads);
    }

    pub opens_renamed : {Fresh : View S → Type 0} (result : Result S OpenFault) → OpensOver M Fresh (outside_of file asked i a) (outside_of file now i' a') result
        → OpensOver M Fresh (outside_of file asked 0 0) (outside_of file now 0 0) result
    opens_renamed result opens = record {
      stands = opens.stands;
      shows = λ image table honest holds stands. on_ok result (λ session opened. opened_renamed M file now i' a' 0 0 opened) (opens.shows image table honest holds stands);
      bad = opens.bad;
      kept = opens.kept;
      any_moment = λ image honest holds. leaves_renamed _ (opens.any_moment image honest holds);
    }
