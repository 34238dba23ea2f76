use Rattle.volume_moves.proofs.MovedOwners.{owned_moved}
use Rattle.volume_moves.proofs.owners_of_a_moved_volume.Goals as goal

pub returns : goal.returns
returns g c old new records v index oid head gone come bytes vol same edit moved names owns after counts = owned_moved g.P.Ground old new records v index oid head gone come bytes vol same edit moved names owns after counts
