use Rattle.std.proofs.Common.{length}
use Rattle.std.proofs.lemmas.Result.{IfErr-at_err}
use Rattle.ex_base.proofs.Results.{from_ok, on_ok_from}
use Rattle.script_replies.specs.ReplyText.{text_of}
use Rattle.talks.specs.Sending.{SentFront, SentPart}
use Rattle.talks.specs.Stops.{IsSendingStop}
use Rattle.talks.proofs.Stopping.{if_err_from}
use Rattle.runs.specs.ScriptLaws.{waits_for}
use Rattle.runs.proofs.Spoken.{heard_answer}
use Rattle.runs.proofs.Talked.{broken_answer}
use Rattle.runs.proofs.script.ScriptTalk.tell.Goals as goal

pub returns-clause-had : goal.returns-clause-had
returns-clause-had g c = on_ok_from c.say.result _ (λ x is first left had reading waits asks loud.
    let sent : SentFront (g.H.World.outside c.args.host.now) (g.H.World.outside c.say.new.sink) (text_of c.args.told) (length (text_of c.args.told)) = from_ok c.say.result x _ is c.say.ensures.sent in
    heard_answer reading c.args.told waits asks sent.only.left)

pub returns-clause-broken : goal.returns-clause-broken
returns-clause-broken g c = if_err_from c.say.result _ (λ why is first left had reading waits asks loud.
    let part = IfErr-at_err (λ w. SentPart w (g.H.World.outside c.args.host.now) (g.H.World.outside c.say.new.sink) (text_of c.args.told)) is c.say.ensures.part in
    broken_answer reading why waits (waits_for reading waits asks) (IfErr-at_err IsSendingStop is c.say.ensures.stops) part.front.only.left)
