use Rattle.op_log.proofs.FirstGate.{first_gate}
use Rattle.op_log.proofs.scan.is_open.Goals as goal

pub returns-clause-closed : goal.returns-clause-closed
returns-clause-closed g c d holds =
    first_gate c.args.geometry.now (g.D.World.outside c.args.disk.now) d c.read.new.out (g.D.World.is_world c.args.disk.now) c.requires holds (c.in_ok-read.ensures.bytes d holds)
