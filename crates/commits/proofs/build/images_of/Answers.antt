use Rattle.std.proofs.Common.{◌∙◌, ap, Some, arith}
use Rattle.std.specs.Option.{option_copied}
use Rattle.commits.proofs.WorkingRows.{next_image, no_image}
use Rattle.commits.proofs.build.images_of.Goals as goal
use Rattle.commits.proofs.build.images_of.Goals.{in-Some-default-Some+in_ok-entry_for-in-Some-default-Some+in_ok-push-in-Some-default-Some, in-Some-default-None, in-None}

pub loop-index-preserved : goal.loop-index-preserved
loop-index-preserved c = elim c.match-touched_at.branch [
  | in-Some-default-Some+in_ok-entry_for-in-Some-default-Some+in_ok-push-in-Some-default-Some w ↦
      next_image c.args.meta.now.working c.loop-index.index w.in-Some-default-Some.page w.in-Some-default-Some.bytes.now w.in_ok-entry_for-in-Some-default-Some.field-0 c.loop-index.pages c.match-touched_at.pages
      (w.in-Some-default-Some.ensures ∙ ap (λ o. Some (w.in-Some-default-Some.page.0, option_copied o)) w.in-Some-default-Some.field-0-1-is) c.loop-index.invariant w.in_ok-entry_for-in-Some-default-Some.ensures (w.pages-is ∙ w.in_ok-push-in-Some-default-Some.ensures.ok)
  | in-Some-default-None w ↦
      no_image c.args.meta.now.working c.loop-index.index w.in-Some-default-None.field-0-0.0 c.loop-index.pages c.match-touched_at.pages (w.in-Some-default-None.ensures ∙ ap (λ o. Some (w.in-Some-default-None.field-0-0.0, option_copied o)) w.in-Some-default-None.field-0-1-is) c.loop-index.invariant w.pages-is
  | in-None w ↦ absurd (omega (arith, w.in-None.ensures, c.loop-index-test.true, c.touched-index-end.ensures.value))
]
