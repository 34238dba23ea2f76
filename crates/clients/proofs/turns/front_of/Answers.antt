use Rattle.std.proofs.Common.{◌∙◌, ap, ◌++◌, ◌∷◌, List, ℕ}
use Rattle.clients.specs.Turns as quiet
use Rattle.clients.proofs.Fronts.{first_apart, first_no_number, whole_apart}
use Rattle.clients.proofs.Numbers.{joined}
use Rattle.clients.proofs.turns.front_of.Goals as goal

pub front_of_none-requires-clause-apart : goal.front_of_none-requires-clause-apart
front_of_none-requires-clause-apart c = first_apart c.args.line.now c.in-Some.word.now c.in-Some.rest.now c.in-Some.ensures c.in-None-client_of.ensures

pub front_of_none-requires-clause-alone : goal.front_of_none-requires-clause-alone
front_of_none-requires-clause-alone c = first_no_number c.args.line.now c.in-Some.word.now c.in-Some.rest.now c.in-Some.ensures

pub front_of_none-requires-in-None-client_of-2-clause-apart : goal.front_of_none-requires-in-None-client_of-2-clause-apart
front_of_none-requires-in-None-client_of-2-clause-apart c = whole_apart c.args.line.now c.in-None.ensures

pub returns-in-Some-client_of : goal.returns-in-Some-client_of
returns-in-Some-client_of c = (
  c.in-Some-client_of.ensures.0,
  joined c.args.line.now c.in-Some.word.now c.in-Some.rest.now c.in-Some.ensures ∙ ap (λ (l : List ℕ). l ++ 32 ∷ c.in-Some.rest.now) c.in-Some-client_of.ensures.1,
)

pub returns-in-Some-client_of-2 : goal.returns-in-Some-client_of-2
returns-in-Some-client_of-2 c = quiet.alone c.in-Some-client_of-2._client c.in-Some-client_of-2.ensures.0 c.in-Some-client_of-2.ensures.1
