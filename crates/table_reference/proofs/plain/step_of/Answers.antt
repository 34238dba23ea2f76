use Rattle.std.proofs.Common.{◌∙◌, ap, subst, sym, ◌&&◌}
use Rattle.std.proofs.lemmas.Bool.{and_parts}
use Rattle.table_model.specs.Requests.{Request, given_of, is_given, is_position, is_reference, is_request, reference_of, request_of}
use Rattle.table_model.specs.Steps.{Allows}
use Rattle.table_model.proofs.GivenData.{given_few}
use Rattle.table_reference.proofs.plain.step_of.Goals as goal

pub step_insert-requires-clause-form : goal.step_insert-requires-clause-form
step_insert-requires-clause-form c =
    let form = sym (ap (λ (r : Request). is_request r) (ap request_of c.in-Insert.is)) ∙ c.requires.form in
    given_few (given_of c.in-Insert.given) (and_parts (is_reference (reference_of c.in-Insert.x) && is_position c.in-Insert.pos) (is_given (given_of c.in-Insert.given)) form).1

pub step_replace-requires-clause-form : goal.step_replace-requires-clause-form
step_replace-requires-clause-form c =
    let form = sym (ap (λ (r : Request). is_request r) (ap request_of c.in-Replace.is)) ∙ c.requires.form in
    given_few (given_of c.in-Replace.given) (and_parts (is_reference (reference_of c.in-Replace.x) && is_position c.in-Replace.pos) (is_given (given_of c.in-Replace.given)) form).1

pub step_freeze-requires-clause-allowed : goal.step_freeze-requires-clause-allowed
step_freeze-requires-clause-allowed c = subst (λ (r : Request). Allows c.args.machine.now r c.args.pick.now) (ap request_of c.in-Freeze.is) c.requires.allowed

pub step_derive-requires-clause-allowed : goal.step_derive-requires-clause-allowed
step_derive-requires-clause-allowed c = subst (λ (r : Request). Allows c.args.machine.now r c.args.pick.now) (ap request_of c.in-Derive.is) c.requires.allowed
