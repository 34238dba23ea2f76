use Rattle.std.proofs.Common.{◌∙◌, ap, true}
use Rattle.std.proofs.Math.ListN.{set}
use Rattle.page_alloc.proofs.Writes.{fresh_used, fresh_refs}
use Rattle.page_alloc.proofs.units.Units.make.Goals as goal

pub returns-clause-used : goal.returns-clause-used
returns-clause-used c = fresh_used _ _ _ c.args.geometry.now.some_pages (c.adopt.ensures.used ∙ ap (λ w. set w 0 true) c.in_ok-pages.ensures.used) c.in_ok-segs.ensures.used

pub returns-clause-refs : goal.returns-clause-refs
returns-clause-refs c = fresh_refs _ _ _ (c.adopt.ensures.refs ∙ c.in_ok-pages.ensures.refs) c.in_ok-segs.ensures.refs
