use Rattle.ex_base.proofs.Keeping.{keeps_refl}
use Rattle.history_dump.proofs.file.put_listed.Goals as goal

pub returns-in-Err-clause-cause : goal.returns-in-Err-clause-cause
returns-in-Err-clause-cause g c = c.in-Err.ensures.cause _ _

pub put_head-requires-clause-ready : goal.put_head-requires-clause-ready
put_head-requires-clause-ready g c = c.requires.ready

pub put_head-requires-clause-room : goal.put_head-requires-clause-room
put_head-requires-clause-room g c = c.requires.room

pub returns-in-Ok-clause-some : goal.returns-in-Ok-clause-some
returns-in-Ok-clause-some g c = c.put_head.ensures.some

pub returns-in-Ok-clause-inside : goal.returns-in-Ok-clause-inside
returns-in-Ok-clause-inside g c = c.put_head.ensures.inside

pub returns-in-Ok-clause-kept : goal.returns-in-Ok-clause-kept
returns-in-Ok-clause-kept g c = c.put_head.ensures.kept

pub returns-in-Ok-clause-cause : goal.returns-in-Ok-clause-cause
returns-in-Ok-clause-cause g c = c.put_head.ensures.cause

pub returns-in-Err-clause-item : goal.returns-in-Err-clause-item
returns-in-Err-clause-item g c = tt

pub returns-in-Err-clause-some : goal.returns-in-Err-clause-some
returns-in-Err-clause-some g c = tt

pub returns-in-Err-clause-inside : goal.returns-in-Err-clause-inside
returns-in-Err-clause-inside g c = tt

pub returns-in-Err-clause-sound : goal.returns-in-Err-clause-sound
returns-in-Err-clause-sound g c = λ damage told catalog entry spelled is few. c.in-Err.ensures.sound few

pub returns-in-Err-clause-kept : goal.returns-in-Err-clause-kept
returns-in-Err-clause-kept g c = keeps_refl g.V.Ground c.args.volume.now
