use Rattle.exsm_c.proofs.exports.objects.exsm_core_create.Goals as goal

pub returns-clause-answers : goal.returns-clause-answers
returns-clause-answers c = record {
  result = c.step-told.result;
  steps = c.step-told.ensures;
  answered = c.tell_identifier.ensures.code;
  tells = c.tell_identifier.ensures.told;
}
