use Rattle.std.proofs.Common.{sym, ◌∙◌, true≢false, arith}
use Rattle.std.proofs.lemmas.Bool.{leb-true, le-leb}
use Rattle.file_index.proofs.EntryLaws.{stops, stops_second, goes_two, last_alone}
use Rattle.file_index.proofs.reads.keys_rise.Goals as goal

pub returns-then-key-least : goal.returns-then-key-least
returns-then-key-least c = (
  λ e. absurd (true≢false (sym e)),
  λ all. absurd (stops c.args.n c.loop-at.at c.loop-at.least c.from-key.result c.args.bytes.now (omega (arith, c.loop-at-test.true)) (c.from-key.ensures ∙ c.get_u32.ensures) c.if-key-least.true (c.loop-at.invariant.rest.0 all)),
)

pub returns-then-next-key : goal.returns-then-next-key
returns-then-next-key c = (
  λ e. absurd (true≢false (sym e)),
  λ all. absurd (stops_second _ c.args.n c.loop-at.at c.loop-at.least c.from-key.result c.from-next.result c.args.bytes.now c.loop-at-test.true (c.from-key.ensures ∙ c.get_u32.ensures) (c.from-next.ensures ∙ c.get_u32-in-loop-at.ensures) c.if-key-least.false c.if-next-key.true c.loop-at.invariant.rest all),
)

pub loop-at-preserved : goal.loop-at-preserved
loop-at-preserved c = record {
  within = omega (arith, c.loop-at-test.true);
  rest = goes_two _ c.args.n c.loop-at.at c.loop-at.least c.from-key.result c.from-next.result c.args.bytes.now c.loop-at-test.true (c.from-key.ensures ∙ c.get_u32.ensures) (c.from-next.ensures ∙ c.get_u32-in-loop-at.ensures) c.if-key-least.false c.if-next-key.false c.loop-at.invariant.rest;
}

pub returns-else-at-n : goal.returns-else-at-n
returns-else-at-n c =
    let last = last_alone _ c.args.n c.loop-at.at c.loop-at.least c.from.result c.args.bytes.now (omega (arith, c.loop-at-test.false, c.if-at-n.false, c.loop-at.invariant.within)) (c.from.ensures ∙ c.get_u32-else-at-n.ensures) c.loop-at.invariant.rest in
    (λ t. last.0 (leb-true _ _ t), λ all. le-leb _ _ (last.1 all))
