use Rattle.std.proofs.Common.{ℕ, List, length, ap, ◌∙◌, arith, subst, sym}
use Rattle.std.proofs.lemmas.List.{take_all}
use Rattle.std.proofs.lemmas.Result.{IfErr-weaker, IfOk-weaker}
use Rattle.versions.specs.Damage.{own}
use Rattle.versions.specs.Versions.{changed, InRange}
use Rattle.versions.specs.Edited.{change_of}
use Rattle.versions.proofs.Results.{ok_of}
use Rattle.versions.proofs.Needed.{changed_most, changed_limit}
use Rattle.versions.proofs.editing.edited_by.Goals as goal

pub returns-in-Ok-clause-bytes : goal.returns-in-Ok-clause-bytes
returns-in-Ok-clause-bytes g c = IfOk-weaker c.bytes_after.result _ _ (λ made is told index body head bytes has spelled long.
    is ∙ ap (λ (b : List ℕ). changed (change_of c.args.edit.now) b) ((c.in-Ok.ensures.bytes told index body head bytes has spelled).1 ∙ take_all (length c.args.old.now) bytes (omega (arith, long)))) c.bytes_after.ensures.bytes

pub returns-in-Ok-clause-cause : goal.returns-in-Ok-clause-cause
returns-in-Ok-clause-cause g c = c.bytes_after.ensures.cause _ _

pub returns-in-Err-clause-sound : goal.returns-in-Err-clause-sound
returns-in-Err-clause-sound g c = λ damage told index body head bytes has spelled long. c.in-Err.ensures.sound damage told index body head bytes has spelled (omega (arith, long))

pub returns-in-Ok-clause-fault : goal.returns-in-Ok-clause-fault
returns-in-Ok-clause-fault g c = IfErr-weaker c.bytes_after.result _ _ (λ fault never told. own never) c.bytes_after.ensures.no_damage

pub returns-in-Err-clause-bytes : goal.returns-in-Err-clause-bytes
returns-in-Err-clause-bytes g c = tt

pub returns-in-Err-clause-len : goal.returns-in-Err-clause-len
returns-in-Err-clause-len g c = tt

pub returns-in-Err-clause-limit : goal.returns-in-Err-clause-limit
returns-in-Err-clause-limit g c = tt

pub returns-in-Err-clause-page : goal.returns-in-Err-clause-page
returns-in-Err-clause-page g c = tt

pub returns-in-Err-clause-kept : goal.returns-in-Err-clause-kept
returns-in-Err-clause-kept g c = c.read_small.ensures.kept

pub returns-in-Err-clause-fault : goal.returns-in-Err-clause-fault
returns-in-Err-clause-fault g c = c.in-Err.ensures.fault

pub returns-in-Err-clause-cause : goal.returns-in-Err-clause-cause
returns-in-Err-clause-cause g c = c.in-Err.ensures.cause

pub returns-in-Ok-clause-kept : goal.returns-in-Ok-clause-kept
returns-in-Ok-clause-kept g c = c.read_small.ensures.kept

pub returns-in-Ok-clause-page : goal.returns-in-Ok-clause-page
returns-in-Ok-clause-page g c = ok_of c.bytes_after.result _ c.in-Ok.ensures.page

pub returns-in-Ok-clause-sound : goal.returns-in-Ok-clause-sound
returns-in-Ok-clause-sound g c = IfErr-weaker c.bytes_after.result _ _ (λ fault never damage told index body head bytes has spelled long. never damage) c.bytes_after.ensures.no_damage

pub read_small-requires : goal.read_small-requires
read_small-requires g c = c.requires.ready

pub bytes_after-requires : goal.bytes_after-requires
bytes_after-requires g c = subst (InRange (change_of c.args.edit.now)) (sym c.read_small.ensures.len) c.requires.range

pub returns-in-Ok-clause-len : goal.returns-in-Ok-clause-len
returns-in-Ok-clause-len g c = IfOk-weaker c.bytes_after.result _ _ (λ made is.
    omega (arith, ap length is, changed_most (change_of c.args.edit.now) c.read_small.new.out (subst (InRange (change_of c.args.edit.now)) (sym c.read_small.ensures.len) c.requires.range), c.read_small.ensures.len)) c.bytes_after.ensures.bytes

pub returns-in-Ok-clause-limit : goal.returns-in-Ok-clause-limit
returns-in-Ok-clause-limit g c = IfOk-weaker c.bytes_after.result _ _ (λ made is.
    omega (arith, ap length is, changed_limit (change_of c.args.edit.now) c.read_small.new.out (subst (InRange (change_of c.args.edit.now)) (sym c.read_small.ensures.len) c.requires.range) (omega (arith, c.requires.short, c.read_small.ensures.len)))) c.bytes_after.ensures.bytes
