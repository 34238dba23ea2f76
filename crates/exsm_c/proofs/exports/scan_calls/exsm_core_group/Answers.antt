use Rattle.exsm_c.proofs.Answering.{nothing_told}
use Rattle.exsm_c.proofs.exports.scan_calls.exsm_core_group.Goals as goal

pub returns : goal.returns
returns c = record {
  answers = record {
    result = c.step-told.result;
    steps = c.step-told.ensures;
    answered = c.tell_done.ensures;
    tells = nothing_told c.step-told.result;
  };
}
