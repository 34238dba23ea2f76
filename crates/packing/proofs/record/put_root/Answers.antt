use Rattle.std.proofs.lemmas.Result.{on_ok_weaker}
use Rattle.ex_base.proofs.Results.{if_err_handed}
use Rattle.packing.proofs.record.put_root.Goals as goal

pub returns-in_err-done-clause-sound : goal.returns-in_err-done-clause-sound
returns-in_err-done-clause-sound g c = if_err_handed c.from_residual-in_err-done.result _ _ c.from_residual-in_err-done.ensures.1 (λ damage told index was has long for placed. c.in_err-done.ensures.sound damage told index was has)

pub returns-clause-put : goal.returns-clause-put
returns-clause-put g c = on_ok_weaker c.check-2.result (λ holds told index was has.
    let put = c.in_ok-done.ensures.put holds in
    record { body = c.write_large.new.out; spelled = c.write_large.ensures; edit = c.in_ok-done.ensures.changed holds told index was has; image = put.0; put = put.1; leads = c.change_body.ensures.leads }) c.check-2.ensures.holds
