use Rattle.std.proofs.Common.{ℕ, ap}
use Rattle.table_model.specs.Requests.{Next}
use Rattle.exsm_c.proofs.Answering.{steps_same}
use Rattle.exsm_c.proofs.exports.scan_calls.exsm_core_next.Goals as goal

pub returns-clause-answers : goal.returns-clause-answers
returns-clause-answers c = record {
  result = c.step-told.result;
  steps = steps_same c.step-told.ensures (ap (λ (y : ℕ). Next c.args.name.now y) c.wanted.ensures);
  answered = c.tell_next.ensures.code;
  tells = c.tell_next.ensures.told;
}
