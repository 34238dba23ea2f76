use Rattle.std.proofs.Common.{◌∙◌, ap, Some, arith}
use Rattle.std.specs.Option.{option_copied}
use Rattle.commits.proofs.WorkingRows.{next_given, none_given}
use Rattle.commits.proofs.build.freed_of.Goals as goal
use Rattle.commits.proofs.build.freed_of.Goals.{in-Some-default-None+in_ok-push-in-Some-default-None, in-Some-default-Some, in-None}

pub loop-index-preserved : goal.loop-index-preserved
loop-index-preserved c = elim c.match-touched_at.branch [
  | in-Some-default-None+in_ok-push-in-Some-default-None w ↦
      next_given c.args.meta.now.working c.loop-index.index w.in-Some-default-None.page c.loop-index.pages c.match-touched_at.pages (w.in-Some-default-None.ensures ∙ ap (λ o. Some (w.in-Some-default-None.page.0, option_copied o)) w.in-Some-default-None.field-0-1-is) c.loop-index.invariant
      (w.pages-is ∙ w.in_ok-push-in-Some-default-None.ensures.ok)
  | in-Some-default-Some w ↦
      none_given c.args.meta.now.working c.loop-index.index w.in-Some-default-Some.field-0-0.0 w.in-Some-default-Some.field-0-1-0.now c.loop-index.pages c.match-touched_at.pages (w.in-Some-default-Some.ensures ∙ ap (λ o. Some (w.in-Some-default-Some.field-0-0.0, option_copied o)) w.in-Some-default-Some.field-0-1-is)
      c.loop-index.invariant w.pages-is
  | in-None w ↦ absurd (omega (arith, w.in-None.ensures, c.loop-index-test.true, c.touched-index-end.ensures.value))
]
