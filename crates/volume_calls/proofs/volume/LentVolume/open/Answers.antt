use Rattle.volume_calls.proofs.Calling.{opened_volume, unopened_volume}
use Rattle.volume_calls.proofs.volume.LentVolume.open.Goals as goal

pub returns-in-Ok-clause-opens : goal.returns-in-Ok-clause-opens
returns-in-Ok-clause-opens g c = opened_volume g.E.Engine.meaning g.E.Opener.fresh _ _ c.in-Ok.ensures.opens

pub returns-in-Err-clause-opens : goal.returns-in-Err-clause-opens
returns-in-Err-clause-opens g c = unopened_volume g.E.Engine.meaning g.E.Opener.fresh _ _ _ c.in-Err.ensures.opens
