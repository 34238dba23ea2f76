use Rattle.std.proofs.Common.{take, filter}
use Rattle.page_entries.specs.Said.{numbers_read}
use Rattle.page_entries.specs.FilesAfter.{Lists, stays}
use Rattle.page_entries.proofs.file_changes.kept.Given as goal

abbrev pub invariant-loop-i : goal.invariant-loop-i
invariant-loop-i l = Lists l.files.items (filter (stays (numbers_read l.fields l.n 18) l.put.entries) (take l.i l.old.entries))
