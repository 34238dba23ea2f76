use Rattle.std.proofs.Common.{IsTrue}
use Rattle.trees.proofs.NodeLaws.{rise_decides}
use Rattle.trees.proofs.reads.is_node.Goals as goal

pub returns : goal.returns
returns c = rise_decides c.args.fan c.args.page.now c.of.result c.get_u16-n.result (IsTrue c.counts_rise.result) (c.has_frame.ensures.0 c.if-not-has_frame.false) c.of.ensures c.get_u16-n.ensures c.counts_rise.ensures
