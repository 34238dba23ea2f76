use Rattle.std.proofs.Common.{length}
use Rattle.tree_store.proofs.Places.{leaf_part}
use Rattle.volume_port.proofs.giving_port.GivingPortReadBlocks.leaf_into.Goals as goal

pub returns-in-Ok-clause-bytes : goal.returns-in-Ok-clause-bytes
returns-in-Ok-clause-bytes g c = λ told. leaf_part c.args.self.now.geometry (g.D.World.outside c.args.self.now.disk.now).disk c.args.page.0 c.args.from (length c.args.out.now) c.read.new.out c.requires.page c.requires.range told.0 c.in-Ok.ensures.bytes
