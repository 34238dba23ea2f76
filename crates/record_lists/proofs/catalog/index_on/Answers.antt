use Rattle.std.proofs.Common.{arith, ap, sym, ◌∙◌}
use Rattle.std.proofs.lemmas.List.{drop_all}
use Rattle.object_files.specs.Reads.{entry_of}
use Rattle.object_files.specs.Edits.{entries_on}
use Rattle.file_bodies.specs.Files.{index_in}
use Rattle.file_bodies.proofs.Entries.{entries_are, in_found, in_passed}
use Rattle.versions.proofs.Results.{none_some}
use Rattle.record_lists.proofs.catalog.index_on.Goals as goal

pub returns-then-entry-file_no-clause-some : goal.returns-then-entry-file_no-clause-some
returns-then-entry-file_no-clause-some c =
    ap (index_in c.args.file_no) (entries_are c.args.page.now c.in_ok-view.view c.in_ok-view.ensures.found)
    ∙ sym (in_found c.args.file_no c.loop-at.at c.in_ok-view.view.entries (entry_of c.entry-entry.result) c.entry-entry.ensures c.if-entry-file_no.true c.loop-at.invariant)

pub loop-at-preserved : goal.loop-at-preserved
loop-at-preserved c = in_passed c.args.file_no c.loop-at.at c.in_ok-view.view.entries (entry_of c.entry-entry.result) c.entry-entry.ensures c.if-entry-file_no.false c.loop-at.invariant

pub returns-clause-none : goal.returns-clause-none
returns-clause-none c = λ whole index is.
    none_some (index_in c.args.file_no (entries_on c.args.page.now)) index
    (ap (index_in c.args.file_no) (entries_are c.args.page.now c.in_ok-view.view c.in_ok-view.ensures.found) ∙ c.loop-at.invariant
    ∙ ap (index_in c.args.file_no) (drop_all c.loop-at.at c.in_ok-view.view.entries (omega (arith, c.loop-at-test.false, c.len-at-end.ensures)))) is
