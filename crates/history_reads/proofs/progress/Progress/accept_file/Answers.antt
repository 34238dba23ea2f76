use Rattle.std.proofs.Common.{inl, inr, ap, refl, arith}
use Rattle.history_counts.specs.Pages.{pages_by}
use Rattle.history_reads.proofs.Filed.{clash, file_refuses, file_takes}
use Rattle.history_reads.proofs.progress.Progress.accept_file.Goals as goal
use Rattle.history_reads.proofs.progress.Progress.accept_file.Goals.{then-not-is_before-via-then-not-is_before, then-not-is_before-via-else-not-is_before+then-pages-from}

pub returns-then-not-is_before-clause-refused : goal.returns-then-not-is_before-clause-refused
returns-then-not-is_before-clause-refused c = λ e.
    file_refuses c.args.self.now (record { name = c.args.file.now.name.now; versions = c.args.file.now.versions }) c.requires.some (elim c.then-not-is_before.branch [
      | then-not-is_before-via-then-not-is_before w ↦ inl (λ less. clash c.is_before.result w.if-not-is_before.true (c.is_before.ensures.1 less))
      | then-not-is_before-via-else-not-is_before+then-pages-from w ↦ inr (omega (arith, w.pages.ensures, ap pages_by c.with_file-needs.ensures, w.from.ensures))
    ])

pub returns-clause-takes : goal.returns-clause-takes
returns-clause-takes c =
    file_takes c.args.self.now _ (record { name = c.args.file.now.name.now; versions = c.args.file.now.versions }) c.requires.missing (c.is_before.ensures.0 c.if-not-is_before.false) (record {
      geometry = refl;
      head = refl;
      leaves = refl;
      nodes = refl;
      files = refl;
      missing = refl;
      lengths = refl;
      name = c.set.ensures;
      needs = c.with_file-needs.ensures;
      numbers = c.clear.ensures;
    })
