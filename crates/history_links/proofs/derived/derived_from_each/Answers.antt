use Rattle.std.proofs.Common.{◌<◌, length, arith}
use Rattle.history_links.specs.Found.{version_at}
use Rattle.history_links.proofs.Counting.{counted_all, counted_step, none_counted}
use Rattle.history_links.proofs.Older.{index_within, older_here}
use Rattle.history_links.proofs.derived.derived_from_each.Goals as goal

pub walk-init : goal.walk-init
walk-init c = none_counted c.args.versions.now c.in_ok-derived.derived.items c.in_ok-derived.ensures

pub count-requires : goal.count-requires
count-requires c =
    let below : c.walk.at < length c.args.versions.now = omega (arith, c.walk-test.true) in
    index_within c.args.versions.now (version_at c.args.versions.now c.walk.at) _ (length c.walk.derived.items) (older_here c.args.versions.now c.args.olders.now c.walk.at _ c.requires.olders below) c.walk.invariant.len

pub walk-preserved : goal.walk-preserved
walk-preserved c =
    let below : c.walk.at < length c.args.versions.now = omega (arith, c.walk-test.true) in
    counted_step c.args.versions.now c.walk.at _ c.walk.derived.items c.count.new.derived.items _ c.requires.rising below c.walk.invariant
    (older_here c.args.versions.now c.args.olders.now c.walk.at _ c.requires.olders below) c.count.ensures

pub returns : goal.returns
returns c = counted_all c.args.versions.now c.walk.at c.walk.derived.items (omega (arith, c.walk-test.false)) c.walk.invariant
