use Rattle.history_load.proofs.EmptyVolumesStay.{writing_stays}
use Rattle.history_load.proofs.staying.an_empty_volume_stays.Goals as goal

pub returns : goal.returns
returns g c changes = writing_stays (g.D.World.outside c.args.before.now) (g.D.World.outside c.args.after.now) c.args.volume.now c.requires.opened (g.D.World.is_world c.args.before.now) changes
