use Rattle.std.proofs.Common.{sym, subst, refl}
use Rattle.std.specs.Prelude.{IsSome}
use Rattle.std.proofs.lemmas.Result.{on_ok_weaker, IfErr-weaker}
use Rattle.versions.proofs.Results.{at_this, at_nothing, ok_of}
use Rattle.versions.proofs.finding.copy_small.Goals as goal

pub returns-in-Some-clause-bytes : goal.returns-in-Some-clause-bytes
returns-in-Some-clause-bytes c = on_ok_weaker c.copy_record.result (λ b. at_this c.args.body c.in-Some.body _ c.in-Some.is b) c.copy_record.ensures.bytes

pub returns-in-Some-clause-none : goal.returns-in-Some-clause-none
returns-in-Some-clause-none c = ok_of c.copy_record.result _ (subst IsSome (sym c.in-Some.is) refl)

pub returns-in-Some-clause-sound : goal.returns-in-Some-clause-sound
returns-in-Some-clause-sound c = IfErr-weaker c.copy_record.result _ _ (λ fault never. at_this c.args.body c.in-Some.body _ c.in-Some.is never) c.copy_record.ensures.sound

pub returns-in-None-clause-sound : goal.returns-in-None-clause-sound
returns-in-None-clause-sound c = at_nothing c.args.body _ c.in-None.is
