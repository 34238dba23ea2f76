use Rattle.std.proofs.Common.{◌≡◌, false, take}
use Rattle.page_entries.specs.Rule.{has_same}
use Rattle.page_entries.proofs.file_differences.has_entry.Given as goal

abbrev pub invariant-loop-i : goal.invariant-loop-i
invariant-loop-i l = has_same (take l.i l.files.entries) l.spelled ≡ false
