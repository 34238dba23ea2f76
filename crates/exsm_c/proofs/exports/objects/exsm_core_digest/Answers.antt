use Rattle.std.proofs.Common.{ap}
use Rattle.table_model.specs.Requests.{Digest, Reference}
use Rattle.exsm_c.proofs.Answering.{steps_same}
use Rattle.exsm_c.proofs.exports.objects.exsm_core_digest.Goals as goal

pub returns-clause-answers : goal.returns-clause-answers
returns-clause-answers c = record {
  result = c.step-told.result;
  steps = steps_same c.step-told.ensures (ap (λ (y : Reference). Digest y) c.subject.ensures);
  answered = c.tell_bytes.ensures.code;
  tells = c.tell_bytes.ensures.told;
}
