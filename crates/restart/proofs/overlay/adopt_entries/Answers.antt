use Rattle.std.proofs.Common.{◌∙◌, Ok, sym, ap, subst}
use Rattle.meta_pages.specs.Overlays.{committed_image}
use Rattle.op_log.specs.AfterLog.{EntriesApply}
use Rattle.restart.proofs.Adopted.{next_over, not_over}
use Rattle.restart.proofs.overlay.adopt_entries.Goals as goal

pub returns-then-not-branch-clause-refused : goal.returns-then-not-branch-clause-refused
returns-then-not-branch-clause-refused c same all =
    not_over c.as_slice-entry-items.result.now c.loop-entry.entry-index c.entry-item.result (committed_image c.args.meta.now) (committed_image c.loop-entry.meta) c.loop-entry-test.true c.entry-item.is c.loop-entry.invariant.0
    (c.in_ok-adopt_entry.ensures.refused (ap Ok c.if-not-branch.true)) (subst (EntriesApply (committed_image c.args.meta.now)) (sym c.as_slice-entry-items.ensures) all)

pub loop-entry-preserved : goal.loop-entry-preserved
loop-entry-preserved c =
    let was = c.loop-entry.invariant in (
      next_over c.as_slice-entry-items.result.now c.loop-entry.entry-index c.entry-item.result (committed_image c.args.meta.now) (committed_image c.loop-entry.meta) (committed_image c.adopt_entry.new.self) c.loop-entry-test.true c.entry-item.is was.0
          (c.in_ok-adopt_entry.ensures.applies (ap Ok c.if-not-branch.false)) (c.in_ok-adopt_entry.ensures.image (ap Ok c.if-not-branch.false)),
      c.adopt_entry.ensures.geometry ∙ was.1,
      c.adopt_entry.ensures.working ∙ was.2,
    )
