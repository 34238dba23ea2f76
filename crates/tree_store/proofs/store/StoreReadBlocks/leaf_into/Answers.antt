use Rattle.std.proofs.Common.{length}
use Rattle.tree_store.proofs.Places.{leaf_part}
use Rattle.tree_store.proofs.store.StoreReadBlocks.leaf_into.Goals as goal

pub returns-clause-bytes : goal.returns-clause-bytes
returns-clause-bytes g c = λ told. leaf_part c.args.self.now.geometry (g.D.World.outside c.args.self.now.disk.now).disk c.args.page.0 c.args.from (length c.args.out.now) c.read.new.out c.requires.page c.requires.range told.1 c.in_ok-read.ensures.bytes
