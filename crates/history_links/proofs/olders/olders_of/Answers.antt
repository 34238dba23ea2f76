use Rattle.std.proofs.Common.{◌<◌, length, arith}
use Rattle.history_links.proofs.Older.{none_told, told_all, told_more}
use Rattle.history_links.proofs.olders.olders_of.Goals as goal

pub walk-init : goal.walk-init
walk-init c = none_told c.args.versions.now c.in_ok-olders.olders.items c.in_ok-olders.ensures.items

pub walk-preserved : goal.walk-preserved
walk-preserved c =
    let below : c.walk.at < length c.args.versions.now = omega (arith, c.walk-test.true) in
    told_more c.args.versions.now c.walk.at c.walk.olders.items c.push.new.self.items c.older_of.result _ below c.walk.invariant c.older_of.ensures c.in_ok-push.ensures.items

pub returns : goal.returns
returns c = told_all c.args.versions.now c.walk.at c.walk.olders.items (omega (arith, c.walk-test.false)) c.walk.invariant
