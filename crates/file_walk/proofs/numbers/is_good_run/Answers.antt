use Rattle.std.proofs.Common.{refl, arith}
use Rattle.file_walk.proofs.Runs.{run_stops, run_goes_on, run_ends}
use Rattle.file_walk.proofs.numbers.is_good_run.Goals.{then-number-least-via-then-number-least, then-number-least-via-else-number-least+then-number-next_unique}
use Rattle.file_walk.proofs.numbers.is_good_run.Goals as goal

pub loop-number-init : goal.loop-number-init
loop-number-init c = (λ all. all, λ all. all)

pub returns-then-number-least : goal.returns-then-number-least
returns-then-number-least c = (
  λ e. absurd cc,
  λ all. absurd (run_stops c.args.next_unique c.loop-number.least c.args.numbers.now c.loop-number.number-index _ c.loop-number-test.true refl (λ low high. elim c.then-number-least.branch [
    | then-number-least-via-then-number-least w ↦ absurd (omega (arith, w.if-number-least.true))
    | then-number-least-via-else-number-least+then-number-next_unique w ↦ absurd (omega (arith, w.if-number-next_unique.true))
  ]) c.loop-number.invariant all),
)

pub loop-number-preserved : goal.loop-number-preserved
loop-number-preserved c = run_goes_on c.args.next_unique c.loop-number.least c.args.numbers.now c.loop-number.number-index _ c.loop-number-test.true refl c.if-number-least.false c.if-number-next_unique.false c.loop-number.invariant

pub returns : goal.returns
returns c = (λ e. run_ends c.args.next_unique c.loop-number.least c.args.numbers.now c.loop-number.number-index c.loop-number-test.false c.loop-number.invariant, λ all. refl)
