use Rattle.std.proofs.Common.{◌∙◌, Bor, List, Option, ℕ, ap}
use Rattle.std.specs.Prelude.{option_map}
use Rattle.table_model.specs.Requests.{Reference, Scan}
use Rattle.exsm_c.specs.Told.{numbered}
use Rattle.exsm_c.proofs.Answering.{steps_same}
use Rattle.exsm_c.proofs.exports.scan_calls.exsm_core_scan.Goals as goal

pub returns-clause-answers : goal.returns-clause-answers
returns-clause-answers c = record {
  result = c.step-told.result;
  steps = steps_same c.step-told.ensures
      (ap (λ (y : Reference). Scan y c.args.name.now (option_map (λ (g : Bor (List ℕ)). g.now) c.group_of.result)) c.subject.ensures ∙ ap (λ (y : Option (List ℕ)). Scan (numbered c.args.x.now) c.args.name.now y) c.group_of.ensures);
  answered = c.tell_size.ensures.code;
  tells = c.tell_size.ensures.told;
}
