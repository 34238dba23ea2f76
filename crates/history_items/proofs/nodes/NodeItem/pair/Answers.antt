use Rattle.std.proofs.Common.{arith}
use Rattle.history_items.proofs.NodeItems.{pair_room, pair_said}
use Rattle.history_items.proofs.nodes.NodeItem.pair.Goals as goal

pub get_u64-requires : goal.get_u64-requires
get_u64-requires c = omega (arith, pair_room c.self.inside.bytes.now c.args.self.now c.args.index c.self.view_is c.requires c.self.invariant.1)

pub get_u32-requires : goal.get_u32-requires
get_u32-requires c = omega (arith, pair_room c.self.inside.bytes.now c.args.self.now c.args.index c.self.view_is c.requires c.self.invariant.1)

pub returns : goal.returns
returns c = pair_said c.self.inside.bytes.now c.args.self.now c.args.index c.get_u64.result c.get_u32.result c.self.view_is c.requires c.get_u64.ensures c.get_u32.ensures
