use Rattle.std.proofs.Common.{arith}
use Rattle.std.proofs.lemmas.Option.{slice_get_within}
use Rattle.page_entries.proofs.Numbers.{entry_with}
use Rattle.page_entries.proofs.file_changes.has_number.Goals as goal

pub returns : goal.returns
returns c = (
  λ yes. absurd cc,
  λ here. let found = entry_with c.args.files.now.entries here.0 c.args.file_no here.1 here.2 in
      absurd (c.loop-i.invariant here.0 found.0 (omega (arith, slice_get_within c.args.files.now.entries here.0 found.0 found.1, c.loop-i-test.false, c.len-i-end.ensures)) found.1 found.2),
)
