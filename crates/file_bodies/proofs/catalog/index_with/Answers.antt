use Rattle.object_files.specs.Reads.{entry_of}
use Rattle.file_bodies.proofs.Entries.{in_found, in_passed}
use Rattle.file_bodies.proofs.catalog.index_with.Goals as goal

pub returns-then-entry-file_no : goal.returns-then-entry-file_no
returns-then-entry-file_no c = in_found c.args.file_no c.loop-at.at c.args.view.now.entries (entry_of c.entry-entry.result) c.entry-entry.ensures c.if-entry-file_no.true c.loop-at.invariant

pub loop-at-preserved : goal.loop-at-preserved
loop-at-preserved c = in_passed c.args.file_no c.loop-at.at c.args.view.now.entries (entry_of c.entry-entry.result) c.entry-entry.ensures c.if-entry-file_no.false c.loop-at.invariant
