use Rattle.std.proofs.Common.{ℕ, List, ◌∙◌, ◌++◌, sym, subst}
use Rattle.std.proofs.lemmas.Result.{err_from_is_err_and}
use Rattle.script_replies.specs.ReplyText.{text_of}
use Rattle.talks.specs.Sending.{SentPart}
use Rattle.talks.specs.declared.stopped.Stopped.TheVariants.{Memory, Output}
use Rattle.talks.proofs.Stopping.{none_sent}
use Rattle.runs.proofs.Sending.{at_err, part_sent, put_behind}
use Rattle.runs.proofs.sender.say.Goals as goal

pub returns-in_err-push_reply-clause-part : goal.returns-in_err-push_reply-clause-part
returns-in_err-push_reply-clause-part g c =
    let p = err_from_is_err_and c.from_residual-in_err-push_reply.result c.from_residual-in_err-push_reply.ensures.1 in
    rw (p.1, p.2) (none_sent (g.S.World.outside c.args.sink.now) (c.args.front.now ++ text_of c.args.reply) Memory)

pub returns-then-is_err-clause-part : goal.returns-then-is_err-clause-part
returns-then-is_err-clause-part g c =
    let old = g.S.World.outside c.args.sink.now in
    let new = g.S.World.outside c.send_all.new.sink in
    let same = put_behind c.args.front.now (text_of c.args.reply) c.clear.ensures.items c.in_ok-extend_from_slice.ensures.items c.in_ok-push_reply.ensures.text c.as_slice.ensures.value in
    let failed = at_err c.send_all.result _ (sym c.is_err.ensures.value ∙ c.if-is_err.true) c.send_all.ensures.failed in
    subst (λ (bytes : List ℕ). SentPart Output old new bytes) same (part_sent old new c.as_slice.result.now c.send_all.ensures.only failed)
