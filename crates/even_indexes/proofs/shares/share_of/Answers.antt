use Rattle.std.proofs.Common.{arith, sym}
use Rattle.ex_base.proofs.Spread.{evenly_first, evenly_later}
use Rattle.even_indexes.proofs.Places.{before_first, before_later, first_fits, later_fits, later_inside}
use Rattle.even_indexes.proofs.shares.share_of.Goals as goal

pub returns-then-index-more-clause-from : goal.returns-then-index-more-clause-from
returns-then-index-more-clause-from c = sym (before_first c.args.parts c.args.total c.args.index (omega (arith, c.if-index-more.true)))

pub returns-then-index-more-clause-len : goal.returns-then-index-more-clause-len
returns-then-index-more-clause-len c = sym (evenly_first c.args.parts c.args.total c.args.index c.if-index-more.true)

pub returns-then-index-more-clause-fits : goal.returns-then-index-more-clause-fits
returns-then-index-more-clause-fits c =
    let fits = first_fits c.args.parts c.args.total c.args.index (omega (arith, c.requires.index)) c.if-index-more.true in
    (omega (arith, fits), fits)

pub returns-else-index-more-clause-from : goal.returns-else-index-more-clause-from
returns-else-index-more-clause-from c = sym (before_later c.args.parts c.args.total c.args.index c.if-index-more.false c.requires.index)

pub returns-else-index-more-clause-len : goal.returns-else-index-more-clause-len
returns-else-index-more-clause-len c = sym (evenly_later c.args.parts c.args.total c.args.index c.if-index-more.false c.requires.index)

pub returns-else-index-more-clause-fits : goal.returns-else-index-more-clause-fits
returns-else-index-more-clause-fits c =
    (later_inside c.args.parts c.args.total c.args.index c.requires.index c.requires.total.0, later_fits c.args.parts c.args.total c.args.index c.requires.index)
