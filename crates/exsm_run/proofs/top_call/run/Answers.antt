use Rattle.std.proofs.Common.{inl, inr, refl, subst}
use Rattle.command_words.specs.declared.wish.Wish.{Wish}
use Rattle.command_words.specs.Wishes.{texts}
use Rattle.command_words.proofs.Requests.{one_wish}
use Rattle.exsm_run.specs.Promises.{Promise}
use Rattle.exsm_run.proofs.top_call.run.Goals as goal

pub returns-in-Some-clause-does : goal.returns-in-Some-clause-does
returns-in-Some-clause-does g c wish asks =
    inl (subst (λ (w : Wish). Promise g.H.World.outside w (g.H.World.outside c.args.host.now) (g.H.World.outside c.fulfil.new.host) c.fulfil.result)
    (one_wish (texts c.args.words.now) c.in-Some.wish wish (rw c.in-Some.is at c.in-Ok.ensures) asks) c.fulfil.ensures.promise)

pub returns-in-None-clause-does : goal.returns-in-None-clause-does
returns-in-None-clause-does g c wish asks = absurd ((rw c.in-None.is at c.in-Ok.ensures) wish asks)

pub returns-in-Err-clause-does : goal.returns-in-Err-clause-does
returns-in-Err-clause-does g c wish asks = inr (refl, refl)
