use Rattle.std.proofs.Common.{sym, ◌∙◌, arith}
use Rattle.page_entries.proofs.SetSlots.{vacant_less, live_here}
use Rattle.page_entries.proofs.slots.live_count.Goals as goal

pub loop-count-preserved : goal.loop-count-preserved
loop-count-preserved c = record {
  within = omega (arith, c.loop-count.invariant.within);
  same = sym (vacant_less c.args.slots.now c.loop-count.count (omega (arith, c.loop-count-test.true)) c.loop-count.invariant.within c.if-is_none.ensures) ∙ c.loop-count.invariant.same;
}

pub returns-else-is_none-clause-live : goal.returns-else-is_none-clause-live
returns-else-is_none-clause-live c =
    live_here c.args.slots.now c.loop-count.count (omega (arith, c.loop-count-test.true)) c.loop-count.invariant.within c.if-is_none.ensures ∙ c.loop-count.invariant.same
