-- What a call on an open volume leaves, of what its step left.
use Rattle.std.proofs.Common.{◌≡◌, ◌⊎◌, ◌∙◌, sym, ap, subst, refl, ℕ, List, [], length, slice_index, Bool, true, false, IsTrue, Result, Ok, Err, IfOk, IsOk, Option, Some, None}
use Rattle.disk_model.specs.Outside.{Outside}
use Rattle.table_model.specs.declared.reply.Reply.{Reply}
use Rattle.table_model.specs.declared.reply.Reply.TheVariants as reply
use Rattle.table_model.specs.declared.reply.Refusal.{Refusal}
use Rattle.table_model.specs.Requests.{Request}
use Rattle.script_lines.specs.Lines.{Line}
use Rattle.script_lang.specs.Reading.{Reading}
use Rattle.session_views.specs.declared.stop.Stop.{Stop}
use Rattle.session_views.specs.declared.stop.Stop.TheVariants as stop
use Rattle.session_views.specs.declared.opener.OpenFault.{OpenFault}
use Rattle.session_views.specs.View.{Meaning, View, ShowsNow, Stepped}
use Rattle.memory_host.specs.Replay.{IsImage, State, fresh}
use Rattle.memory_host.specs.ReplayLaws.{replayed_none}
use Rattle.lent_host.specs.Lent.{IsLent, outside_of, state_after}
use Rattle.lent_host.specs.declared.host.Asked.{Asked}
use Rattle.volume_calls.specs.declared.volume.LentVolume.{LentVolume}
use Rattle.volume_calls.specs.declared.volume.NotDone.{NotDone}
use Rattle.volume_calls.specs.declared.volume.NotDone.TheVariants.{Misuse, Refused, Stopped, Untold}
use Rattle.volume_calls.specs.Forms.{is_formed, unformed}
use Rattle.volume_calls.specs.declared.lines.Unanswered.{Unanswered}
use Rattle.volume_calls.specs.declared.lines.Unanswered.TheVariants as unanswered
use Rattle.volume_calls.specs.Lines.{Answered, WasDone}
use Rattle.volume_calls.specs.Over.{StepsOver, LinesOver, OpensOver}
use Rattle.volume_calls.specs.Volumes.{Called, Ended, IsLentTo, LineCalled, LineEnded, OpensVolume, outside_at}

not_both : (b : Bool) → IsTrue b → b ≡ false → ⊥
not_both true holds denied = absurd (cc)
not_both false holds denied = absurd (cc)

-- a refusal is no stop
no_stop : {A : Type 0} (refusal : Refusal) (why : Stop) → ◌≡◌ {A = Result A NotDone} (Err (Refused refusal)) (Err (Stopped why)) → ⊥
no_stop refusal why is = cc

-- what came of a step, as a call tells it
pub record Turns (told : Result Reply Stop) (result : Result Reply NotDone) : Type 0 where
  pub done : (x : Reply) → result ≡ Ok x → told ≡ Ok x
  pub accepted : (why : Refusal) → result ≡ Ok (reply.No why) → ⊥
  pub refused : (why : Refusal) → result ≡ Err (Refused why) → told ≡ Ok (reply.No why)
  pub stopped : (why : Stop) → result ≡ Err (Stopped why) → told ≡ Err why
  pub untold : result ≡ Err Untold → ⊥
  pub used : result ≡ Err Misuse → ⊥

-- what came of a step on a line, as a call tells it
pub record TurnsLine (told : Result (Option Refusal) Unanswered) (result : Result (Unit {0}) NotDone) : Type 0 where
  pub done : IsOk result → told ≡ Ok None
  pub refused : (why : Refusal) → result ≡ Err (Refused why) → told ≡ Ok (Some why)
  pub stopped : (why : Stop) → result ≡ Err (Stopped why) → told ≡ Err (unanswered.Stopped why)
  pub untold : result ≡ Err Untold → told ≡ Err unanswered.Untold
  pub used : result ≡ Err Misuse → ⊥

module _ {S : Type 0} (M : Meaning S) (b : LentVolume S) (before : View S) where
  ended : (r : Request) (told : Result Reply Stop) (result : Result Reply NotDone) → Turns told result → IfOk told (λ x. Stepped M before r x b.session (outside_at b))
      → ((why : Stop) → told ≡ Err why → (why ≡ stop.Disk) ⊎ (why ≡ stop.Memory)) → Ended M before r result b
  ended r told (Ok x) turns stepped sound = subst (λ (t : Result Reply Stop). IfOk t (λ y. Stepped M before r y b.session (outside_at b))) (turns.done x refl) stepped
  ended r told (Err (Refused why)) turns stepped sound = subst (λ (t : Result Reply Stop). IfOk t (λ y. Stepped M before r y b.session (outside_at b))) (turns.refused why refl) stepped
  ended r told (Err (Stopped why)) turns stepped sound = sound why (turns.stopped why refl)
  ended r told (Err Untold) turns stepped sound = turns.untold refl
  ended r told (Err Misuse) turns stepped sound = turns.used refl

  line_ended : (reading : Reading) (told : Result (Option Refusal) Unanswered) (result : Result (Unit {0}) NotDone) → TurnsLine told result
      → IfOk told (λ why. Answered M before reading why b.text.items b.session (outside_at b)) → ((why : Stop) → told ≡ Err (unanswered.Stopped why) → (why ≡ stop.Disk) ⊎ (why ≡ stop.Memory))
      → (told ≡ Err unanswered.Untold → WasDone M before reading b.session (outside_at b)) → LineEnded M before reading result b
  line_ended reading told (Ok x) turns answered sound done = subst (λ (t : Result (Option Refusal) Unanswered). IfOk t (λ why. Answered M before reading why b.text.items b.session (outside_at b))) (turns.done refl) answered
  line_ended reading told (Err (Refused why)) turns answered sound done = subst (λ (t : Result (Option Refusal) Unanswered). IfOk t (λ y. Answered M before reading y b.text.items b.session (outside_at b))) (turns.refused why refl) answered
  line_ended reading told (Err (Stopped why)) turns answered sound done = sound why (turns.stopped why refl)
  line_ended reading told (Err Untold) turns answered sound done = done (turns.untold refl)
  line_ended reading told (Err Misuse) turns answered sound done = turns.used refl

-- what no line could ask for
pub called_unformed : {S : Type 0} (M : Meaning S) (fits : S → ℕ → Type 0) (a : LentVolume S) (image : List ℕ) (r : Request) (result : Result Reply NotDone) → IsLentTo fits a image → is_formed r ≡ false
    → result ≡ Err (Refused (unformed r)) → Called M fits a a image image r result
called_unformed M fits a image r result lent denied is = record {
  lent = lent;
  file = refl;
  unformed = λ unmade. (is, refl, refl, refl);
  accepted = λ why done. absurd (cc);
  ended = λ formed before same shows. absurd (not_both (is_formed r) formed denied);
  any_moment = λ formed before same shows. absurd (not_both (is_formed r) formed denied);
  takes_none = λ checkpoint memory. no_stop (unformed r) stop.Memory (sym is ∙ memory);
  unwritten = λ commit memory. absurd (no_stop (unformed r) stop.Memory (sym is ∙ memory));
  damaged = λ page want got told. absurd (no_stop (unformed r) (stop.Damaged page want got) (sym is ∙ told));
}

-- a step that left the session and the list so
module _ {S : Type 0} (M : Meaning S) (fits : S → ℕ → Type 0) (a b : LentVolume S) (image now : List ℕ) (was : IsLentTo fits a image) (file : b.file.bytes ≡ a.file.bytes) (size : b.size ≡ a.size)
    (lent : IsLent a.file.bytes b.asked.items now) (room : fits b.session (length a.file.bytes)) where
  stays_lent : IsLentTo fits b now
  stays_lent = record {
    lent = subst (λ (f : List ℕ). IsLent f b.asked.items now) (sym file) lent;
    room = subst (λ (f : List ℕ). fits b.session (length f)) (sym file) room;
    size = lent.1 ∙ sym was.lent.1 ∙ was.size ∙ sym size;
  }

  pub called : (r : Request) (told : Result Reply Stop) (result : Result Reply NotDone) → IsTrue (is_formed r) → Turns told result
      → StepsOver M a.session b.session (outside_of a.file.bytes a.asked.items 0 0) (outside_of a.file.bytes b.asked.items 0 0) r told → Called M fits a b image now r result
  called r told result formed turns steps =
      let over = subst (λ (f : List ℕ). StepsOver M a.session b.session (outside_at a) (outside_of f b.asked.items 0 0) r told) (sym file) steps in
      record {
        lent = stays_lent;
        file = file;
        unformed = λ denied. absurd (not_both (is_formed r) formed denied);
        accepted = turns.accepted;
        ended = λ is before same shows. ended M b before r told result turns (over.stepped before same shows) (λ why. over.sound before why same shows);
        any_moment = λ is before same shows. over.any_moment before same shows;
        takes_none = λ checkpoint memory. over.takes_none checkpoint (turns.stopped stop.Memory memory);
        unwritten = λ commit memory. over.unwritten commit (turns.stopped stop.Memory memory);
        damaged = λ page want got is. over.damaged page want got (turns.stopped (stop.Damaged page want got) is);
      }

  pub line_called : (line : Line) (told : Result (Option Refusal) Unanswered) (result : Result (Unit {0}) NotDone) → TurnsLine told result
      → LinesOver M a.session b.session (outside_of a.file.bytes a.asked.items 0 0) (outside_of a.file.bytes b.asked.items 0 0) line b.text.items told → LineCalled M fits a b now line result
  line_called line told result turns steps =
      let over = subst (λ (f : List ℕ). LinesOver M a.session b.session (outside_at a) (outside_of f b.asked.items 0 0) line b.text.items told) (sym file) steps in
      record {
        lent = stays_lent;
        file = file;
        ended = λ before reading same shows reads. line_ended M b before reading told result turns (over.answered before reading same shows reads) (λ why. over.sound before why same shows)
            (over.untold before reading same shows reads);
        any_moment = λ before reading same shows reads. over.any_moment before reading same shows reads;
      }

-- The listed calls were made: the file is the image.
pub made_lent : {S : Type 0} (fits : S → ℕ → Type 0) (v : LentVolume S) (image : List ℕ) → IsLentTo fits v image → (file : List ℕ) (asked calls : List Asked)
    → file ≡ (state_after v.file.bytes calls).disk → calls ≡ v.asked.items → asked ≡ [] → IsLent file asked image × fits v.session (length file)
made_lent fits v image lent file asked calls after all emptied =
    let is : file ≡ image = after ∙ ap (λ (l : List Asked). (state_after v.file.bytes l).disk) all ∙ lent.lent.0 in (
      (ap (λ (l : List Asked). (state_after file l).disk) emptied ∙ ap (λ (st : State). st.disk) (replayed_none file [] refl) ∙ is, ap length (sym is)),
      subst (λ (n : ℕ). fits v.session n) (sym lent.lent.1 ∙ ap length (sym is)) lent.room,
    )

-- What a crash leaves then, it could leave before.
settled_image : (now d : List ℕ) (before after : State) → after ≡ fresh now → now ≡ before.disk → IsImage after d → IsImage before d
settled_image now d before after is held image =
    let on : IsImage (fresh now) d = subst (λ (st : State). IsImage st d) is image in
    record {
      same_length = on.same_length ∙ ap length held;
      bytes = on.bytes;
      outside = λ i settled. on.outside i tt ∙ ap (λ (l : List ℕ). slice_index l i) held;
    }

-- The view goes on to be shown.
pub made_shows : {S : Type 0} (M : Meaning S) (v : LentVolume S) (view : View S) (file : List ℕ) (asked calls : List Asked)
    → file ≡ (state_after v.file.bytes calls).disk → calls ≡ v.asked.items → asked ≡ [] → ShowsNow M (outside_at v) view → ShowsNow M (outside_of file asked 0 0) view
made_shows M v view file asked calls after all emptied shows =
    let held : file ≡ (state_after v.file.bytes v.asked.items).disk = after ∙ ap (λ (l : List Asked). (state_after v.file.bytes l).disk) all in
    let is : state_after file asked ≡ fresh file = ap (λ (l : List Asked). state_after file l) emptied ∙ replayed_none file [] refl in
    record {
      honest = shows.honest;
      holds = ap (λ (st : State). Some st.disk) is ∙ ap (λ (l : List ℕ). Some l) held ∙ shows.holds;
      shows = M.narrower (outside_at v).images (outside_of file asked 0 0).images view
          (λ d image. settled_image file d (state_after v.file.bytes v.asked.items) (state_after file asked) is held image) shows.shows;
    }

-- a volume that was opened
pub opened_volume : {S : Type 0} (M : Meaning S) (Fresh : View S → Type 0) (v : Outside) (volume : LentVolume S) → OpensOver M Fresh v (outside_at volume) (Ok volume.session) → OpensVolume M Fresh v (Ok volume)
opened_volume M Fresh v volume opens = record {
  stands = opens.stands;
  shows = opens.shows;
  bad = λ part is image holds. absurd (cc);
  any_moment = opens.any_moment;
}

-- and one that wasn't
pub unopened_volume : {S : Type 0} (M : Meaning S) (Fresh : View S → Type 0) (v w : Outside) (fault : OpenFault) → OpensOver M Fresh v w (Err fault) → OpensVolume M Fresh v (Err fault)
unopened_volume M Fresh v w fault opens = record {
  stands = tt;
  shows = λ image table honest holds stands. tt;
  bad = λ part is image holds. opens.bad part (cc) image holds;
  any_moment = tt;
}
