use Rattle.std.proofs.Common.{arith}
use Rattle.std.proofs.lemmas.Result.{IfErr-weaker, IfOk-weaker}
use Rattle.versions.specs.Damage.{own}
use Rattle.ex_base.proofs.Keeping.{keeps_refl}
use Rattle.versions.proofs.editing.edited_small.Goals as goal

pub returns-in-Ok-clause-bytes : goal.returns-in-Ok-clause-bytes
returns-in-Ok-clause-bytes g c = IfOk-weaker c.edited_by.result _ _ (λ made is told index body head bytes has spelled long. is told index body head bytes has spelled (omega (arith, long, c.deref_mut.ensures.len, c.in-Ok.ensures.len))) c.edited_by.ensures.bytes

pub returns-in-Ok-clause-sound : goal.returns-in-Ok-clause-sound
returns-in-Ok-clause-sound g c = IfErr-weaker c.edited_by.result _ _ (λ fault never damage told index body head bytes has spelled long. never damage told index body head bytes has spelled (omega (arith, long, c.deref_mut.ensures.len, c.in-Ok.ensures.len))) c.edited_by.ensures.sound

pub returns-in-Err-clause-fault : goal.returns-in-Err-clause-fault
returns-in-Err-clause-fault g c = λ told. own (λ damage. damage)

pub returns-in-Ok-clause-limit : goal.returns-in-Ok-clause-limit
returns-in-Ok-clause-limit g c = c.edited_by.ensures.limit

pub returns-in-Ok-clause-fault : goal.returns-in-Ok-clause-fault
returns-in-Ok-clause-fault g c = c.edited_by.ensures.fault

pub returns-in-Ok-clause-kept : goal.returns-in-Ok-clause-kept
returns-in-Ok-clause-kept g c = c.edited_by.ensures.kept

pub returns-in-Ok-clause-cause : goal.returns-in-Ok-clause-cause
returns-in-Ok-clause-cause g c = c.edited_by.ensures.cause

pub returns-in-Ok-clause-page : goal.returns-in-Ok-clause-page
returns-in-Ok-clause-page g c = c.edited_by.ensures.page

pub edited_by-requires-clause-ready : goal.edited_by-requires-clause-ready
edited_by-requires-clause-ready g c = c.requires.ready

pub returns-in-Err-clause-kept : goal.returns-in-Err-clause-kept
returns-in-Err-clause-kept g c = keeps_refl g.V.Ground c.args.volume.now

pub returns-in-Ok-clause-len : goal.returns-in-Ok-clause-len
returns-in-Ok-clause-len g c = IfOk-weaker c.edited_by.result _ _ (λ made few.
    omega (arith, few, c.deref_mut.ensures.len, c.in-Ok.ensures.len)) c.edited_by.ensures.len
