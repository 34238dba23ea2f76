use Rattle.std.proofs.Common.{ap}
use Rattle.table_model.specs.Requests.{Append, ByBytes, Reference}
use Rattle.exsm_c.proofs.Answering.{steps_same}
use Rattle.exsm_c.proofs.exports.edits.exsm_core_append.Goals as goal

pub returns-clause-answers : goal.returns-clause-answers
returns-clause-answers c = record {
  result = c.step-told.result;
  steps = steps_same c.step-told.ensures (ap (λ (y : Reference). Append y (ByBytes c.args.bytes.now)) c.subject.ensures);
  answered = c.tell_size.ensures.code;
  tells = c.tell_size.ensures.told;
}
