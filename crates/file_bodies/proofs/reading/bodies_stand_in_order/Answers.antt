use Rattle.file_bodies.proofs.Ordered.{ordered}
use Rattle.file_bodies.proofs.reading.bodies_stand_in_order.Goals as goal

pub returns : goal.returns
returns g c = ordered g.P.Ground
