use Rattle.std.proofs.Common.{None, Some, refl, subst, ◌∙◌, ap}
use Rattle.exsm_run.specs.Script.{status_of}
use Rattle.exsm_run.specs.Status.{IsRefusal}
use Rattle.exsm_run.proofs.Ending.{no_refusal}
use Rattle.exsm_run.proofs.script.run_script.Goals as goal

pub returns-in-Err-clause-never : goal.returns-in-Err-clause-never
returns-in-Err-clause-never g c refused = no_refusal c.args.most c.in-Err.stopped (subst IsRefusal c.status_of.ensures refused)

pub returns-in-Err-clause-ran : goal.returns-in-Err-clause-ran
returns-in-Err-clause-ran g c = record { ending = _; is = c.status_of.ensures; run = c.in-Err.ensures.run }

pub returns-in-Ok-clause-opened : goal.returns-in-Ok-clause-opened
returns-in-Ok-clause-opened g c = (None, refl, c.in-Ok.ensures.opened)

pub returns-in-Err-clause-opened : goal.returns-in-Err-clause-opened
returns-in-Err-clause-opened g c = (Some c.in-Err.stopped, c.status_of.ensures, c.in-Err.ensures.opened)

pub returns-in-Ok-clause-told : goal.returns-in-Ok-clause-told
returns-in-Ok-clause-told g c other = c.in-Ok.ensures.run.on.told (λ is. cc)

pub returns-in-Err-clause-told : goal.returns-in-Err-clause-told
returns-in-Err-clause-told g c other = c.in-Err.ensures.run.on.told (λ is. other (c.status_of.ensures ∙ ap (status_of c.args.most) is))
