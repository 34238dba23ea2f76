use Rattle.std.proofs.Common.{◌∙◌, ℕ, ap}
use Rattle.table_model.specs.Requests.{Read, Reference}
use Rattle.exsm_c.specs.Told.{numbered}
use Rattle.exsm_c.proofs.Answering.{steps_same}
use Rattle.exsm_c.proofs.exports.objects.exsm_core_read.Goals as goal

pub returns-clause-answers : goal.returns-clause-answers
returns-clause-answers c = record {
  result = c.step-told.result;
  steps = steps_same c.step-told.ensures
      (ap (λ (y : Reference). Read y c.args.pos c.wanted.result) c.subject.ensures ∙ ap (λ (y : ℕ). Read (numbered c.args.x.now) c.args.pos y) c.wanted.ensures);
  answered = c.tell_bytes.ensures.code;
  tells = c.tell_bytes.ensures.told;
}
