use Rattle.std.proofs.Common.{◌≡◌, ◌≤◌, ◌∙◌, ℕ, ap, arith, sym, true, ◌&&◌}
use Rattle.std.proofs.lemmas.Bool.{and_parts}
use Rattle.table_model.specs.Words.{data_most}
use Rattle.table_model.specs.Requests.{Data, Reference, Request, given_count, given_of, is_given, is_position, is_reference, is_request, reference_of, request_of}
use Rattle.table_model.specs.Requests as request
use Rattle.table_model.proofs.GivenData.{given_few}
use Rattle.table_picks.proofs.picks.need_of.Goals as goal

-- what stands behind a version and a position
few_behind : (x : Reference) (pos : ℕ) (given : Data) → (is_reference x && is_position pos && is_given given) ≡ true → given_count given ≤ data_most
few_behind x pos given form = given_few given (and_parts (is_reference x && is_position pos) (is_given given) form).1

pub growth_need-most-requires : goal.growth_need-most-requires
growth_need-most-requires c =
    let form : is_request (request.Insert (reference_of c.in-Insert.x) c.in-Insert.pos (given_of c.in-Insert.given)) ≡ true = sym (ap (λ (r : Request). is_request r) (ap request_of c.in-Insert.is)) ∙ c.requires in
    let few = few_behind (reference_of c.in-Insert.x) c.in-Insert.pos (given_of c.in-Insert.given) form in
    omega (arith, few, c.in_ok-n-in-Insert.ensures)

pub given_count-requires-in-Replace : goal.given_count-requires-in-Replace
given_count-requires-in-Replace c =
    let form : is_request (request.Replace (reference_of c.in-Replace.x) c.in-Replace.pos (given_of c.in-Replace.given)) ≡ true = sym (ap (λ (r : Request). is_request r) (ap request_of c.in-Replace.is)) ∙ c.requires in
    few_behind (reference_of c.in-Replace.x) c.in-Replace.pos (given_of c.in-Replace.given) form

pub replace_need-most-requires : goal.replace_need-most-requires
replace_need-most-requires c =
    let form : is_request (request.Replace (reference_of c.in-Replace.x) c.in-Replace.pos (given_of c.in-Replace.given)) ≡ true = sym (ap (λ (r : Request). is_request r) (ap request_of c.in-Replace.is)) ∙ c.requires in
    let few = few_behind (reference_of c.in-Replace.x) c.in-Replace.pos (given_of c.in-Replace.given) form in
    omega (arith, few, c.in_ok-n-in-Replace.ensures)
