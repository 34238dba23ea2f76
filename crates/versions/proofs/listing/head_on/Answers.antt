use Rattle.std.proofs.Common.{sym, subst, refl}
use Rattle.std.specs.Prelude.{IsSome}
use Rattle.std.proofs.lemmas.Result.{IfOk-weaker, IfErr-weaker}
use Rattle.versions.proofs.Results.{at_this, at_nothing, ok_of}
use Rattle.versions.proofs.listing.head_on.Goals as goal

pub returns-in-Some-clause-head : goal.returns-in-Some-clause-head
returns-in-Some-clause-head c = IfOk-weaker c.head_of.result _ _ (λ head is. at_this c.args.body c.in-Some.body _ c.in-Some.is is) c.head_of.ensures.head

pub returns-in-Some-clause-sound : goal.returns-in-Some-clause-sound
returns-in-Some-clause-sound c = IfErr-weaker c.head_of.result _ _ (λ fault never. at_this c.args.body c.in-Some.body _ c.in-Some.is never) c.head_of.ensures.sound

pub returns-in-Some-clause-none : goal.returns-in-Some-clause-none
returns-in-Some-clause-none c = ok_of c.head_of.result _ (subst IsSome (sym c.in-Some.is) refl)

pub returns-in-None-clause-sound : goal.returns-in-None-clause-sound
returns-in-None-clause-sound c = at_nothing c.args.body _ c.in-None.is
