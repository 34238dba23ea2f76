use Rattle.std.proofs.Common.{◌≡◌, ◌∙◌, ℕ, List, [], ◌∷◌, ◌++◌, OnOk, IfErr, ap, length, refl, subst}
use Rattle.std.specs.Prelude.{decimal}
use Rattle.std.proofs.lemmas.Result.{IfErr-at_err}
use Rattle.ex_base.proofs.Results.{from_ok, on_ok_from}
use Rattle.script_replies.specs.ReplyText.{text_of}
use Rattle.talks.specs.Sending.{SentFront, SentPart}
use Rattle.talks.specs.Stops.{IsSendingStop}
use Rattle.talks.proofs.Stopping.{if_err_from}
use Rattle.runs.proofs.Talked.{broken_answer}
use Rattle.clients.specs.ScheduleLaws.{next_is_routed}
use Rattle.clients.proofs.Serving.{answers, text_is}
use Rattle.clients.proofs.schedule.ScheduleTalk.tell.Goals as goal

pub returns-clause-sent : goal.returns-clause-sent
returns-clause-sent g c =
    let number : c.as_slice.result.now ≡ decimal c.args.self.now.clients.client ++ 32 ∷ [] = c.as_slice.ensures.value ∙ c.numbered-front.ensures ∙ ap (λ (k : ℕ). decimal k ++ 32 ∷ []) c.client.ensures in
    subst (λ (text : List ℕ). OnOk c.say.result (SentFront (g.H.World.outside c.args.host.now) (g.H.World.outside c.say.new.sink) text (length text)))
    (text_is c.args.self.now.clients.client c.args.told c.settle-told.result c.as_slice.result.now number c.settle-told.ensures.bare) c.say.ensures.sent

pub returns-clause-part : goal.returns-clause-part
returns-clause-part g c =
    let number : c.as_slice.result.now ≡ decimal c.args.self.now.clients.client ++ 32 ∷ [] = c.as_slice.ensures.value ∙ c.numbered-front.ensures ∙ ap (λ (k : ℕ). decimal k ++ 32 ∷ []) c.client.ensures in
    subst (λ (text : List ℕ). IfErr c.say.result (λ why. SentPart why (g.H.World.outside c.args.host.now) (g.H.World.outside c.say.new.sink) text))
    (text_is c.args.self.now.clients.client c.args.told c.settle-told.result c.as_slice.result.now number c.settle-told.ensures.bare) c.say.ensures.part

pub returns-clause-had : goal.returns-clause-had
returns-clause-had g c = on_ok_from c.say.result _ (λ x is first left had reading waits asks loud.
    let text : List ℕ = c.as_slice.result.now ++ text_of c.settle-told.result in
    let sent : SentFront (g.H.World.outside c.args.host.now) (g.H.World.outside c.say.new.sink) text (length text) = from_ok c.say.result x _ is c.say.ensures.sent in
    answers first c.args.self.now (record { reader = c.args.self.now.reader; clients = c.settle-told.new.self; text = c.say.new.text }) reading c.args.told c.settle-told.ensures.owner refl waits asks loud
    sent.only.left)

pub returns-clause-broken : goal.returns-clause-broken
returns-clause-broken g c = if_err_from c.say.result _ (λ why is first left had reading waits asks loud.
    let text : List ℕ = c.as_slice.result.now ++ text_of c.settle-told.result in
    let part = IfErr-at_err (λ w. SentPart w (g.H.World.outside c.args.host.now) (g.H.World.outside c.say.new.sink) text) is c.say.ensures.part in
    broken_answer reading why waits.waits (next_is_routed waits.waits c.args.self.now.clients reading waits.prepared asks loud) (IfErr-at_err IsSendingStop is c.say.ensures.stops) part.front.only.left)
