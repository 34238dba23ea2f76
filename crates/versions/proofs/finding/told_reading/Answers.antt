use Rattle.std.proofs.Common.{rules, ◌≡◌, length, ap, subst, ◌∙◌, arith}
use Rattle.ex_base.proofs.Options.{at_none, at_some}
use Rattle.object_records.specs.Record.{Record}
use Rattle.object_records.specs.Reads.{small_record}
use Rattle.versions.specs.Damage.{record_fault, no_record}
use Rattle.versions.specs.Found.{HasLimits, size_of}
use Rattle.versions.specs.declared.finding.Found.{Found}
use Rattle.versions.proofs.Records.{one_record}
use Rattle.versions.proofs.finding.told_reading.Goals as goal

pub returns-in_default-clause-fault : goal.returns-in_default-clause-fault
returns-in_default-clause-fault c = no_record (λ is spelled. search rules) (c.no_record.ensures.is ∙ ap record_fault c.place_of.ensures)

pub returns-in-Ok-Some-clause-some : goal.returns-in-Ok-Some-clause-some
returns-in-Ok-Some-clause-some c = at_some c.in-Ok-Some.field-0 c.in-Ok-Some.found _ c.in-Ok-Some.field-0-is c.in-Ok-Some.ensures.some c.args.body.now c.in-Some.ensures.found

pub returns-in-Ok-Some-clause-bytes : goal.returns-in-Ok-Some-clause-bytes
returns-in-Ok-Some-clause-bytes c = λ small inside head bytes spelled.
    let told = at_some c.in-Ok-Some.field-0 c.in-Ok-Some.found _ c.in-Ok-Some.field-0-is c.in-Ok-Some.ensures.some c.args.body.now c.in-Some.ensures.found in
    let view_is = one_record c.args.body.now c.in-Some.view (small_record head bytes) c.in-Some.ensures.found spelled in
    let is_is = one_record c.args.body.now told.is (small_record head bytes) told.spelled spelled in
    let size : c.in-Ok-Some.found.size ≡ length bytes = ap (λ (f : Found). f.size) told.told ∙ ap (λ (r : Record). size_of r.content) is_is in
    c.copy_inside.ensures.bytes bytes (c.payload-payload.ensures ∙ ap (λ (r : Record). r.content) view_is) (omega (arith, inside, size))

pub returns-in-Ok-None-clause-none : goal.returns-in-Ok-None-clause-none
returns-in-Ok-None-clause-none c = λ is spelled same.
    at_none c.in-Ok-None.field-0 _ c.in-Ok-None.field-0-is c.in-Ok-None.ensures.none (ap (λ (r : Record). r.head.unique) (one_record c.args.body.now c.in-Some.view is c.in-Some.ensures.found spelled) ∙ same)

pub returns-in-Err-clause-sound : goal.returns-in-Err-clause-sound
returns-in-Err-clause-sound c = λ readable.
    c.in-Err.ensures.sound (subst (λ (r : Record). HasLimits c.args.geometry.now r.content) (one_record c.args.body.now readable.is c.in-Some.view readable.spelled c.in-Some.ensures.found) readable.limits)

pub returns-in-Err-clause-fault : goal.returns-in-Err-clause-fault
returns-in-Err-clause-fault c = c.in-Err.ensures.fault c.args.body.now c.in-Some.ensures.found
