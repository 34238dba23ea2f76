use Rattle.std.proofs.Common.{sym}
use Rattle.ex_base.proofs.Spread.{evenly_first, evenly_later}
use Rattle.trees.proofs.split.even_part.Goals as goal

pub returns-then-index-total : goal.returns-then-index-total
returns-then-index-total c = sym (evenly_first c.args.parts c.args.total c.args.index c.if-index-total.true)

pub returns-else-index-total : goal.returns-else-index-total
returns-else-index-total c = sym (evenly_later c.args.parts c.args.total c.args.index c.if-index-total.false c.requires.index)
