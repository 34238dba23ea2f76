use Rattle.std.proofs.Common.{arith, ◌∙◌}
use Rattle.commits.proofs.WorkingRows.{next_entry, no_entry, all_entries}
use Rattle.commits.proofs.build.entries_of.Goals as goal
use Rattle.commits.proofs.build.entries_of.Goals.{in-Some+in_ok-push-in-Some, in-None}

pub loop-index-preserved : goal.loop-index-preserved
loop-index-preserved c = elim c.match-branch-2.branch [
  | in-Some+in_ok-push-in-Some w ↦
      next_entry c.args.meta.now c.loop-index.index w.in-Some.entry c.loop-index.pages c.match-branch-2.pages c.loop-index.invariant (rw w.in-Some.is at c.in_ok-entry.ensures) (w.pages-is ∙ w.in_ok-push-in-Some.ensures.ok)
  | in-None w ↦ no_entry c.args.meta.now c.loop-index.index c.loop-index.pages c.match-branch-2.pages c.loop-index.invariant (rw w.in-None.is at c.in_ok-entry.ensures) w.pages-is
]

pub returns-clause-rule : goal.returns-clause-rule
returns-clause-rule c = all_entries c.args.meta.now c.loop-index.index c.loop-index.pages (omega (arith, c.loop-index-test.false, c.touched-index-end.ensures.value)) c.loop-index.invariant
