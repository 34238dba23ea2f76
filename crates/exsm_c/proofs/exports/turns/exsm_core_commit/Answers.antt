use Rattle.exsm_c.proofs.exports.turns.exsm_core_commit.Goals as goal

pub returns-clause-answers : goal.returns-clause-answers
returns-clause-answers c = record {
  result = c.step-told.result;
  steps = c.step-told.ensures;
  answered = c.tell_number.ensures.code;
  tells = c.tell_number.ensures.told;
}
