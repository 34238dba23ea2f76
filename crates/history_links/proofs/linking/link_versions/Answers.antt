use Rattle.std.proofs.Common.{◌<◌, length, sym, subst, arith}
use Rattle.history_links.specs.Found.{OlderIs, version_at}
use Rattle.history_links.proofs.LinkList.{linked_all, linked_more}
use Rattle.history_links.proofs.Older.{older_here}
use Rattle.history_links.proofs.linking.link_versions.Goals as goal

pub returns : goal.returns
returns c = linked_all c.args.versions.now c.walk.at c.walk.links.items (omega (arith, c.walk-test.false)) c.walk.invariant

pub walk-preserved : goal.walk-preserved
walk-preserved c =
    let below : c.walk.at < length c.args.versions.now = omega (arith, c.walk-test.true) in
    linked_more c.args.versions.now c.in_ok-olders.olders.items c.walk.at c.walk.links.items c.push.new.self.items (record { older = c.place_at.result; newer = c.newer_at.result }) c.index.result.now below
    (subst (OlderIs c.args.versions.now (version_at c.args.versions.now c.walk.at)) (sym c.index.ensures) (older_here c.args.versions.now c.in_ok-olders.olders.items c.walk.at _ c.in_ok-olders.ensures below))
    c.place_at.ensures c.newer_at.ensures c.walk.invariant c.in_ok-push.ensures.items
