use Rattle.std.proofs.Common.{◌<◌, length, arith}
use Rattle.record_links.proofs.Older.{older_within}
use Rattle.record_links.proofs.Counting.{none_counted, counted_step, counted_all}
use Rattle.record_links.proofs.derived.derived_from_each.Goals as goal

pub walk-init : goal.walk-init
walk-init c = none_counted c.args.records.now c.in_ok-derived.derived.items c.in_ok-derived.ensures

pub count-requires : goal.count-requires
count-requires c =
    let below : c.walk.at < length c.args.records.now = omega (arith, c.walk-test.true) in
    older_within c.args.records.now c.args.olders.now c.walk.at (length c.walk.derived.items) _ c.requires.olders below c.walk.invariant.len

pub walk-preserved : goal.walk-preserved
walk-preserved c =
    let below : c.walk.at < length c.args.records.now = omega (arith, c.walk-test.true) in
    counted_step c.args.records.now c.args.olders.now c.walk.at c.walk.derived.items c.count.new.derived.items _ _ c.requires.ordered c.requires.olders below c.walk.invariant c.count.ensures

pub returns : goal.returns
returns c = counted_all c.args.records.now c.walk.at c.walk.derived.items (omega (arith, c.walk-test.false)) c.walk.invariant
