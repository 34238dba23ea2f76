-- Lines of a schedule are taken and answered.
use Rattle.std.proofs.Common.{◌≡◌, ◌∙◌, ℕ, Option, Some, None, IfSome, List, [], ◌∷◌, ◌++◌, refl, sym, ap, subst, append_assoc}
use Rattle.std.specs.Prelude.{decimal}
use Rattle.table_model.specs.declared.reply.Reply.{Reply}
use Rattle.script_lines.specs.Lines.{Line}
use Rattle.script_lines.specs.Reader.{ahead, counted, current, to_take}
use Rattle.script_lines.specs.Remains.{Draws}
use Rattle.script_lines.specs.declared.lines.Lines.{Lines}
use Rattle.script_lang.specs.Reading.{Reading}
use Rattle.script_replies.specs.ReplyText.{text_of}
use Rattle.talks.specs.Talking.{Exchange, IsLoud, Left}
use Rattle.runs.specs.Script.{TakesNext}
use Rattle.runs.specs.TalkLaws.{heard_next}
use Rattle.runs.specs.Talked.{HasHeard, IsRead}
use Rattle.runs.proofs.Talked.{read_whole, waits_more}
use Rattle.clients.specs.Heard.{Heard}
use Rattle.clients.specs.Names.{told_bare}
use Rattle.clients.specs.Prepared.{AsksNow, IsPrepared}
use Rattle.clients.specs.Routing.{owner_after, turn_text}
use Rattle.clients.specs.ScheduleLaws.{heard_more, next_is_routed}
use Rattle.clients.specs.ScheduleTalk.{HasPrepared, HeardTo}
use Rattle.clients.specs.declared.schedule.Schedule.{Schedule}

-- ---- a line is taken

-- The owner is the one whose transaction was open before.
same_owner : {reader now : Lines} {left at : Left} {had : List Exchange} (owner was is : Option ℕ) → is ≡ was → HasHeard (λ lines heard. Heard owner lines heard was) reader left had now at
    → HasHeard (λ lines heard. Heard owner lines heard is) reader left had now at
same_owner {reader} {now} {left} {at} {had} owner was is same heard =
    subst (λ (o : Option ℕ). HasHeard (λ lines heard. Heard owner lines heard o) reader left had now at) (sym same) heard

module _ (first old now : Schedule) {left a b : Left} {had : List Exchange} (same : now.clients.owner ≡ old.clients.owner) (so_far : HasHeard (HeardTo first old) first.reader left had old.reader a)
    (takes : TakesNext (ahead old.reader) a (counted old.reader) (current now.reader) (ahead now.reader) b (counted now.reader)) (drawn : Draws (to_take old.reader) a (to_take now.reader) b) where
  pub takes_line : (line : Line) → Some line ≡ current now.reader → IfSome (current now.reader) (λ l. IsPrepared l now.clients) → HasPrepared first left had now b
  takes_line line shown prepared = record {
    waits = waits_more (same_owner first.clients.owner old.clients.owner now.clients.owner same so_far) line shown takes drawn;
    prepared = prepared;
  }

  pub takes_none : None ≡ current now.reader → IsRead (HeardTo first now) first.reader left had b
  takes_none none = read_whole now.reader (same_owner first.clients.owner old.clients.owner now.clients.owner same so_far) none takes drawn

-- ---- a line is answered

-- A number, a space and a text are what is sent.
pub text_is : (client : ℕ) (told given : Reply) (front : List ℕ) → front ≡ decimal client ++ 32 ∷ [] → given ≡ told_bare told → front ++ text_of given ≡ turn_text client told
text_is client told given front number bare =
    ap (λ (l : List ℕ). l ++ text_of given) number ∙ append_assoc (decimal client) (32 ∷ []) (text_of given) ∙ ap (λ (r : Reply). decimal client ++ 32 ∷ text_of r) bare

pub answers : (first old now : Schedule) {left a b : Left} {had : List Exchange} (reading : Reading) (told : Reply) → now.clients.owner ≡ owner_after old.clients.client told old.clients.owner → now.reader ≡ old.reader
    → HasPrepared first left had old a → AsksNow (current old.reader) old.clients reading → IsLoud reading → b ≡ a
    → HasHeard (HeardTo first now) first.reader left (had ++ record { reading = reading; told = told; text = turn_text old.clients.client told } ∷ []) now.reader b
answers first old now {had = had} reading told owner reader waits asks loud left_is =
    let routed = next_is_routed waits.waits old.clients reading waits.prepared asks loud in
    rw (reader, left_is) (heard_next waits.waits
    (heard_more first.clients.owner old.clients.owner now.clients.owner waits.waits.lines waits.waits.next had old.clients.client routed.0
    (record { reading = reading; told = told; text = turn_text old.clients.client told }) waits.waits.heard routed.1 (record { asked = routed.2; text = refl; after_is = owner })))
