use Rattle.std.proofs.Common.{length, take}
use Rattle.std.specs.List.{AllByRecursion}
use Rattle.file_index.specs.IndexPage.{head_bytes, HasEntryFields}
use Rattle.file_index.proofs.WriteLaws.{SoFar}
use Rattle.file_index.proofs.write.write_index.Given as goal

abbrev pub invariant-loop-entry : goal.invariant-loop-entry
invariant-loop-entry l = record {
  bytes : SoFar (length l.fn.out) (head_bytes l.level l.file_no (length l.entries)) l.entries l.entry-index l.at l.out;
  fields : AllByRecursion HasEntryFields (take l.entry-index l.entries);
}
