use Rattle.file_bodies.proofs.OwnFaults.{own_file}
use Rattle.file_bodies.specs.Damage.{unlisted_file}
use Rattle.file_bodies.proofs.placing.place_from.Goals as goal

pub returns-in-Err-clause-cause : goal.returns-in-Err-clause-cause
returns-in-Err-clause-cause g c = c.in-Err.ensures.cause _ _

pub returns-in-Err-clause-fault : goal.returns-in-Err-clause-fault
returns-in-Err-clause-fault g c = λ told. unlisted_file (own_file _ _ c.in-Err.fault c.in-Err.ensures.no_damage)

pub returns-in-Err-clause-leads : goal.returns-in-Err-clause-leads
returns-in-Err-clause-leads g c = g.P.Ground.leads_refl _

pub returns-in-Err-clause-sound : goal.returns-in-Err-clause-sound
returns-in-Err-clause-sound g c = λ damage told file. c.in-Err.ensures.no_damage damage

pub place_by-requires-clause-some : goal.place_by-requires-clause-some
place_by-requires-clause-some g c = c.requires.some

pub place_by-requires-clause-usable : goal.place_by-requires-clause-usable
place_by-requires-clause-usable g c = c.requires.usable

pub place_by-requires-clause-free : goal.place_by-requires-clause-free
place_by-requires-clause-free g c = c.requires.free

pub returns-in-Ok-clause-placed : goal.returns-in-Ok-clause-placed
returns-in-Ok-clause-placed g c = c.place_by.ensures.placed

pub returns-in-Ok-clause-puts : goal.returns-in-Ok-clause-puts
returns-in-Ok-clause-puts g c = c.place_by.ensures.puts

pub returns-in-Ok-clause-free : goal.returns-in-Ok-clause-free
returns-in-Ok-clause-free g c = c.place_by.ensures.free

pub returns-in-Ok-clause-takes : goal.returns-in-Ok-clause-takes
returns-in-Ok-clause-takes g c = c.place_by.ensures.takes

pub returns-in-Ok-clause-sound : goal.returns-in-Ok-clause-sound
returns-in-Ok-clause-sound g c = c.place_by.ensures.sound

pub returns-in-Ok-clause-fault : goal.returns-in-Ok-clause-fault
returns-in-Ok-clause-fault g c = c.place_by.ensures.fault

pub returns-in-Ok-clause-way : goal.returns-in-Ok-clause-way
returns-in-Ok-clause-way g c = c.place_by.ensures.way

pub returns-in-Ok-clause-leaves : goal.returns-in-Ok-clause-leaves
returns-in-Ok-clause-leaves g c = c.place_by.ensures.leaves

pub returns-in-Ok-clause-touches : goal.returns-in-Ok-clause-touches
returns-in-Ok-clause-touches g c = c.place_by.ensures.touches

pub returns-in-Ok-clause-leads : goal.returns-in-Ok-clause-leads
returns-in-Ok-clause-leads g c = c.place_by.ensures.leads

pub returns-in-Ok-clause-cause : goal.returns-in-Ok-clause-cause
returns-in-Ok-clause-cause g c = c.place_by.ensures.cause

pub returns-in-Ok-clause-grows : goal.returns-in-Ok-clause-grows
returns-in-Ok-clause-grows g c = c.place_by.ensures.grows
