use Rattle.std.proofs.Common.{◌≡◌, length, arith}
use Rattle.std.proofs.lemmas.Result.{IfOk-at_ok}
use Rattle.ex_base.proofs.Results.{if_ok_from}
use Rattle.generated.specs.Replies.{gen_line, transcript}
use Rattle.generated.proofs.Counting.{all_counted}
use Rattle.generated.proofs.tally.Tally.line.Goals as goal

pub returns : goal.returns
unfolding gen_line
returns c = if_ok_from c.format.result _ (λ line is replies tally.
    let total : c.saturating_add-replies.result ≡ length replies = omega (arith, all_counted replies, tally.few, tally.accepted, tally.refused, c.saturating_add-replies.ensures) in
    let hash = c.finalize.ensures (transcript replies) tally.hashed in
    rw (← total, ← tally.accepted, ← tally.refused, ← hash, ← c.in_ok-hash.ensures) (IfOk-at_ok _ is c.format.ensures.ok))
