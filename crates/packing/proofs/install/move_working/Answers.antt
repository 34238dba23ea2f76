use Rattle.std.proofs.Common.{refl}
use Rattle.packing.proofs.install.move_working.Goals as goal

pub move_parts-requires : goal.move_parts-requires
move_parts-requires g c = record { ready = (c.args.volume.now, (record { geometry = refl; units = refl; groups = refl; meta = refl; pages = refl }, c.requires.ready)) }

pub returns-clause-moved : goal.returns-clause-moved
returns-clause-moved g c = c.move_parts.ensures.moved c.args.volume.now (record { geometry = refl; units = refl; groups = refl; meta = refl; pages = refl }) c.requires.ready

pub returns-clause-works : goal.returns-clause-works
returns-clause-works g c = c.move_parts.ensures.works c.args.volume.now (record { geometry = refl; units = refl; groups = refl; meta = refl; pages = refl }) c.requires.ready

pub returns-clause-sound : goal.returns-clause-sound
returns-clause-sound g c = c.move_parts.ensures.sound c.args.volume.now (record { geometry = refl; units = refl; groups = refl; meta = refl; pages = refl }) c.requires.ready
