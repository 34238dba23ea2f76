use Rattle.std.proofs.Common.{[], refl}
use Rattle.std.proofs.lemmas.Result.{err_from_is_err_and}
use Rattle.talks.proofs.Stopping.{none_sent}
use Rattle.generated.proofs.Talked.{told_more}
use Rattle.generated.specs.TalkLaws.{stopped}
use Rattle.generated.proofs.talk.GeneratedTalk.tell.Goals as goal

pub returns-clause-had : goal.returns-clause-had
returns-clause-had g c first left had reading waits reads loud = told_more reading waits reads refl c.in_ok-add.ensures

pub returns-in_err-add-clause-broken : goal.returns-in_err-add-clause-broken
returns-in_err-add-clause-broken g c =
    let p = err_from_is_err_and c.from_residual.result c.from_residual.ensures.1 in
    rw p.1 (λ first left had reading waits reads loud. stopped first c.args.self.now left (g.H.World.outside c.args._host.now).left had reading waits reads)

pub returns-in_err-add-clause-part : goal.returns-in_err-add-clause-part
returns-in_err-add-clause-part g c =
    let p = err_from_is_err_and c.from_residual.result c.from_residual.ensures.1 in
    rw p.1 (none_sent (g.H.World.outside c.args._host.now) [] p.0)
