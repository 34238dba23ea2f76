use Rattle.tree_insert.proofs.Spans.{span_is}
use Rattle.tree_insert.proofs.overwrite.span_of.Goals as goal

pub returns : goal.returns
returns c = span_is c.args.row.now c.args.pos c.args.n c.tree_at-first.result.0 c.tree_at-first.result.1 c.tree_at-last.result.0 c.tree_at-last.result.1 c.requires.some c.tree_at-first.ensures c.tree_at-last.ensures
