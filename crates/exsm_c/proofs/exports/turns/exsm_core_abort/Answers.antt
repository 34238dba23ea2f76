use Rattle.exsm_c.proofs.Answering.{nothing_told}
use Rattle.exsm_c.proofs.exports.turns.exsm_core_abort.Goals as goal

pub returns : goal.returns
returns c = record {
  answers = record {
    result = c.step-told.result;
    steps = c.step-told.ensures;
    answered = c.tell_done.ensures;
    tells = nothing_told c.step-told.result;
  };
}
