use Rattle.tree_store.specs.Stored.{NoUnit}
use Rattle.volume_port.specs.Giving.{gives_ready}
use Rattle.volume_port.proofs.giving_port.GivingPortReadBlocks.node.Goals as goal

pub frame-requires-clause-ready : goal.frame-requires-clause-ready
frame-requires-clause-ready g c = gives_ready g.D.World.outside NoUnit _ _ _ _ _ _ _ _ _ _ _ _ _ _ c.bring.ensures.kept.leads c.requires.ready
