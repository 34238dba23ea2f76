use Rattle.std.proofs.Common.{rules, ap, subst, ◌∙◌}
use Rattle.std.proofs.lemmas.Result.{IfOk-weaker, IfErr-weaker}
use Rattle.ex_base.proofs.Options.{if_some_both}
use Rattle.object_records.specs.Record.{Record}
use Rattle.versions.specs.Damage.{record_fault, no_record}
use Rattle.versions.specs.Found.{HasLimits}
use Rattle.versions.proofs.Records.{one_record}
use Rattle.versions.proofs.Results.{none_then}
use Rattle.versions.proofs.finding.told_of.Goals as goal

pub returns-in-Some-clause-some : goal.returns-in-Some-clause-some
returns-in-Some-clause-some c = IfOk-weaker c.told_by.result _ _ (λ found told. if_some_both found _ _ (λ f t. t c.args.body.now c.in-Some.ensures.found) told) c.told_by.ensures.some

pub returns-in-Some-clause-none : goal.returns-in-Some-clause-none
returns-in-Some-clause-none c = IfOk-weaker c.told_by.result _ _ (λ found none. none_then found _ _ (λ other is spelled same.
    other (ap (λ (r : Record). r.head.unique) (one_record c.args.body.now c.in-Some.view is c.in-Some.ensures.found spelled) ∙ same)) none) c.told_by.ensures.none

pub returns-in-Some-clause-sound : goal.returns-in-Some-clause-sound
returns-in-Some-clause-sound c = IfErr-weaker c.told_by.result _ _ (λ fault never readable.
    never (subst (λ (r : Record). HasLimits c.args.geometry.now r.content) (one_record c.args.body.now readable.is c.in-Some.view readable.spelled c.in-Some.ensures.found) readable.limits)) c.told_by.ensures.sound

pub returns-in-Some-clause-fault : goal.returns-in-Some-clause-fault
returns-in-Some-clause-fault c = IfErr-weaker c.told_by.result _ _ (λ fault h. h c.args.body.now c.in-Some.ensures.found) c.told_by.ensures.fault

pub returns-in-Some-clause-cause : goal.returns-in-Some-clause-cause
returns-in-Some-clause-cause c = c.told_by.ensures.cause

pub returns-in-None-clause-fault : goal.returns-in-None-clause-fault
returns-in-None-clause-fault c = no_record (λ is spelled. search rules) (c.no_record.ensures.is ∙ ap record_fault c.place_of.ensures)
