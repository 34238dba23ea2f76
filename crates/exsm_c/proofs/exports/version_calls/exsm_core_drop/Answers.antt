use Rattle.std.proofs.Common.{ap}
use Rattle.table_model.specs.Requests.{DropVersion, Reference}
use Rattle.exsm_c.proofs.Answering.{nothing_told, steps_same}
use Rattle.exsm_c.proofs.exports.version_calls.exsm_core_drop.Goals as goal

pub returns : goal.returns
returns c = record {
  answers = record {
    result = c.step-told.result;
    steps = steps_same c.step-told.ensures (ap (λ (y : Reference). DropVersion y) c.subject.ensures);
    answered = c.tell_done.ensures;
    tells = nothing_told c.step-told.result;
  };
}
