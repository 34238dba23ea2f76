use Rattle.std.proofs.Common.{rules, refl}
use Rattle.std.proofs.lemmas.Result.{err_from_is_err_and}
use Rattle.generated.proofs.Talked.{asked_more, cut_making}
use Rattle.generated.proofs.talk.GeneratedTalk.advance.Goals as goal

pub returns-clause-taken : goal.returns-clause-taken
returns-clause-taken g c is first left had so_far = asked_more so_far (c.in_ok-advance.ensures.taken (search rules)) refl

pub returns-in_err-advance-clause-broken : goal.returns-in_err-advance-clause-broken
returns-in_err-advance-clause-broken g c =
    let p = err_from_is_err_and c.from_residual.result c.from_residual.ensures.1 in
    rw p.1 (λ first left had so_far. cut_making so_far)
