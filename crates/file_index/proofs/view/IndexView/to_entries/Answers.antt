use Rattle.std.proofs.Common.{arith, ◌∙◌}
use Rattle.file_index.proofs.PageLaws.{take_one_more}
use Rattle.file_index.proofs.view.IndexView.to_entries.Goals as goal

pub loop-index-preserved : goal.loop-index-preserved
loop-index-preserved c = (
  take_one_more c.args.self.now.entries c.loop-index.entries.items c.push_reserved.new.self.items c.loop-index.index c.entry.result c.entry.ensures c.loop-index.invariant.0 c.push_reserved.ensures.items,
  omega (arith, c.push_reserved.ensures.len, c.loop-index.invariant.1),
  c.push_reserved.ensures.capacity ∙ c.loop-index.invariant.2,
)
