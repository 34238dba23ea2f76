-- What the text of a reply and the machine's step make of a line.
use Rattle.std.proofs.Common.{◌≡◌, ℕ, List, Option, Result, Ok, Err, IfOk, OnOk, sym, subst}
use Rattle.disk_model.specs.Outside.{Outside}
use Rattle.table_model.specs.declared.reply.Reply.{Reply}
use Rattle.table_model.specs.declared.reply.Reply.TheVariants as reply
use Rattle.table_model.specs.declared.reply.Refusal.{Refusal}
use Rattle.table_model.specs.Requests.{Request}
use Rattle.script_lang.specs.Reading.{Reading, Asks, Fails}
use Rattle.script_replies.specs.ReplyText.{text_of}
use Rattle.session_views.specs.View.{Meaning, View, ShowsNow, Stepped}
use Rattle.volume_calls.specs.declared.lines.Unanswered.{Unanswered}
use Rattle.volume_calls.specs.Lines.{Answered, refusal_in}

-- A line that asks for something was stepped on, and the text of its reply was left.
pub asks_answered : {S : Type 0} {M : Meaning S} {before : View S} {reading : Reading} {r : Request} {told : Reply} {session : S} {w : Outside} (result : Result (Option Refusal) Unanswered) (text : List ℕ)
    → reading ≡ Asks r → IfOk result (λ why. why ≡ refusal_in told) → OnOk result (text ≡ text_of told) → Stepped M before r told session w
    → IfOk result (λ why. Answered M before reading why text session w)
asks_answered {S} {M} {before} {reading} {r} {told} {session} {w} (Ok why) text asks is spelled stepped =
    subst (λ (x : Reading). Answered M before x why text session w) (sym asks) (told, is, spelled, stepped)
asks_answered (Err why) text asks is spelled stepped = tt

-- A line that is none was refused, and the text of that was left.
pub fails_answered : {S : Type 0} {M : Meaning S} {before : View S} {reading : Reading} {refused : Refusal} {session : S} {w : Outside} (result : Result (Option Refusal) Unanswered) (text : List ℕ)
    → reading ≡ Fails refused → IfOk result (λ why. why ≡ refusal_in (reply.No refused)) → OnOk result (text ≡ text_of (reply.No refused)) → session ≡ before.session → ShowsNow M w before
    → IfOk result (λ why. Answered M before reading why text session w)
fails_answered {S} {M} {before} {reading} {refused} {session} {w} (Ok why) text fails is spelled same shows =
    subst (λ (x : Reading). Answered M before x why text session w) (sym fails) (is, spelled, same, shows)
fails_answered (Err why) text fails is spelled same shows = tt
