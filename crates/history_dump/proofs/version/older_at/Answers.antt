use Rattle.std.proofs.Common.{Option, subst}
use Rattle.ex_base.specs.declared.names.Place.{Place}
use Rattle.history_dump.specs.Items.{IsOlderNumber}
use Rattle.history_dump.proofs.Pairing.{older_read}
use Rattle.ex_base.proofs.Keeping.{keeps_refl}
use Rattle.history_dump.proofs.version.older_at.Goals as goal

pub returns-in-Ok-clause-number : goal.returns-in-Ok-clause-number
returns-in-Ok-clause-number g c = λ told index is older.
    older_read g.V.Ground c.args.volume.now index c.in-Some.place is c.in-Ok.head (λ body has. c.in-Ok.ensures.head told index body has)
    (subst (λ (o : Option Place). IsOlderNumber g.V.Ground c.args.volume.now index o is) c.in-Some.is older)

pub returns-in-None-clause-sound : goal.returns-in-None-clause-sound
returns-in-None-clause-sound g c = tt

pub returns-in-None-clause-kept : goal.returns-in-None-clause-kept
returns-in-None-clause-kept g c = keeps_refl g.V.Ground c.args.volume.now

pub returns-in-None-clause-cause : goal.returns-in-None-clause-cause
returns-in-None-clause-cause g c = tt

pub returns-in-Ok-clause-sound : goal.returns-in-Ok-clause-sound
returns-in-Ok-clause-sound g c = tt

pub returns-in-Ok-clause-kept : goal.returns-in-Ok-clause-kept
returns-in-Ok-clause-kept g c = c.in-Ok.ensures.kept

pub returns-in-Ok-clause-cause : goal.returns-in-Ok-clause-cause
returns-in-Ok-clause-cause g c = tt

pub returns-in-Err-clause-number : goal.returns-in-Err-clause-number
returns-in-Err-clause-number g c = tt

pub returns-in-Err-clause-kept : goal.returns-in-Err-clause-kept
returns-in-Err-clause-kept g c = c.in-Err.ensures.kept

pub returns-in-Err-clause-cause : goal.returns-in-Err-clause-cause
returns-in-Err-clause-cause g c = c.in-Err.ensures.cause

pub returns-in-Err-clause-sound : goal.returns-in-Err-clause-sound
returns-in-Err-clause-sound g c = λ damage told index is older.
    let (body, record_is, has, spelled, number) = subst (λ (o : Option Place). IsOlderNumber g.V.Ground c.args.volume.now index o is) c.in-Some.is older in
    c.in-Err.ensures.sound damage told index body record_is has spelled
