use Rattle.std.proofs.Common.{rules, ◌≡◌, ◌∙◌, ap, subst, List, ℕ, Option}
use Rattle.command_words.specs.Wishes.{texts, Means, MeansNothing}
use Rattle.command_words.proofs.Requests.{asks_on, asks_nothing}
use Rattle.command_words.proofs.request.request_of.Goals as goal

pub returns-in-Some-wish_by : goal.returns-in-Some-wish_by
returns-in-Some-wish_by c =
    let numbers : c.as_slice.result.now ≡ c.in-Some-2.field-0.numbers.items = search rules in
    asks_on c.in-Some-named.command (ap texts c.in-Some.ensures.cases.0) (c.in-Some-named.ensures ∙ c.as_str.ensures.value) (rw c.in-Some-2.is at c.in_ok-volume.ensures)
    c.in-Some-wish_by.wish (subst (λ (ns : List (Option ℕ)). Means c.in-Some-named.command ns c.in-Some-wish_by.wish) numbers c.in-Some-wish_by.ensures)

pub returns : goal.returns
returns c =
    let numbers : c.as_slice.result.now ≡ c.in-Some-2.field-0.numbers.items = search rules in
    asks_nothing c.in-Some-named.command (ap texts c.in-Some.ensures.cases.0) (c.in-Some-named.ensures ∙ c.as_str.ensures.value) (rw c.in-Some-2.is at c.in_ok-volume.ensures)
    (subst (λ (ns : List (Option ℕ)). MeansNothing c.in-Some-named.command ns) numbers c.in-None.ensures)
