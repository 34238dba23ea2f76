use Rattle.std.proofs.Common.{refl}
use Rattle.file_index.proofs.Picking.{rises_of, rising_of}
use Rattle.file_walk.specs.Walk.{page_numbers}
use Rattle.file_walk.proofs.Runs.{rise_stops, rise_goes_on, rise_ends}
use Rattle.file_walk.proofs.indexes.rise.Goals as goal

pub loop-page-init : goal.loop-page-init
loop-page-init c = (λ all. rises_of (page_numbers c.args.pages.now) all, λ all. rising_of 0 (page_numbers c.args.pages.now) all)

pub returns-then-number-least : goal.returns-then-number-least
returns-then-number-least c = (
  λ e. absurd cc,
  λ all. absurd (rise_stops c.loop-page.least c.args.pages.now c.loop-page.page-index _ c.loop-page-test.true c.from-number.ensures c.if-number-least.true c.loop-page.invariant all),
)

pub loop-page-preserved : goal.loop-page-preserved
loop-page-preserved c = rise_goes_on c.loop-page.least c.args.pages.now c.loop-page.page-index _ c.loop-page-test.true c.from-number.ensures c.if-number-least.false c.loop-page.invariant

pub returns : goal.returns
returns c = (λ e. rise_ends c.loop-page.least c.args.pages.now c.loop-page.page-index c.loop-page-test.false c.loop-page.invariant, λ all. refl)
