use Rattle.exsm_c.proofs.exports.numbers.exsm_core_space.Goals as goal

pub returns-clause-answers : goal.returns-clause-answers
returns-clause-answers c = record {
  result = c.step-told.result;
  steps = c.step-told.ensures;
  answered = c.tell_units.ensures.code;
  tells = c.tell_units.ensures.told;
}
