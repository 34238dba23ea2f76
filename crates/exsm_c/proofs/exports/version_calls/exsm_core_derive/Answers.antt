use Rattle.std.proofs.Common.{None, ap}
use Rattle.table_model.specs.Requests.{Derive, Reference}
use Rattle.exsm_c.proofs.Answering.{steps_same}
use Rattle.exsm_c.proofs.exports.version_calls.exsm_core_derive.Goals as goal

pub returns-clause-answers : goal.returns-clause-answers
returns-clause-answers c = record {
  result = c.step-told.result;
  steps = steps_same c.step-told.ensures (ap (λ (y : Reference). Derive y None) c.subject.ensures);
  answered = c.tell_identifier.ensures.code;
  tells = c.tell_identifier.ensures.told;
}
