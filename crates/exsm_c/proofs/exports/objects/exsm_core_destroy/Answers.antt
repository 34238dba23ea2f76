use Rattle.std.proofs.Common.{ap}
use Rattle.table_model.specs.Requests.{Destroy, Reference}
use Rattle.exsm_c.proofs.Answering.{nothing_told, steps_same}
use Rattle.exsm_c.proofs.exports.objects.exsm_core_destroy.Goals as goal

pub returns : goal.returns
returns c = record {
  answers = record {
    result = c.step-told.result;
    steps = steps_same c.step-told.ensures (ap (λ (y : Reference). Destroy y) c.subject.ensures);
    answered = c.tell_done.ensures;
    tells = nothing_told c.step-told.result;
  };
}
