use Rattle.std.proofs.Common.{◌∙◌, Ok, ap}
use Rattle.meta_pages.specs.Overlays.{committed_image}
use Rattle.restart.proofs.Adopted.{logged_next, not_logged}
use Rattle.restart.proofs.overlay.overlay_of.Goals as goal

pub loop-item-preserved : goal.loop-item-preserved
loop-item-preserved c =
    let was = c.loop-item.invariant in (
      logged_next c.args.records.now c.loop-item.item-index c.item-item.result (committed_image c.loop-item.meta) (committed_image c.adopt_record.new.meta) c.loop-item-test.true c.item-item.is was.0
          (c.in_ok-adopt_record.ensures.apply (ap Ok c.if-not-branch.false)) (c.in_ok-adopt_record.ensures.just (ap Ok c.if-not-branch.false)),
      c.adopt_record.ensures.geometry ∙ was.1,
      c.adopt_record.ensures.working ∙ was.2,
    )

pub returns-then-not-branch-clause-refused : goal.returns-then-not-branch-clause-refused
returns-then-not-branch-clause-refused c all =
    not_logged c.args.records.now c.loop-item.item-index c.item-item.result (committed_image c.loop-item.meta) c.loop-item-test.true c.item-item.is c.loop-item.invariant.0 (c.in_ok-adopt_record.ensures.refused (ap Ok c.if-not-branch.true)) all
