use Rattle.std.proofs.Common.{arith}
use Rattle.page_entries.proofs.FilesCompared.{same_here, same_next, same_none}
use Rattle.page_entries.proofs.file_differences.has_entry.Goals as goal

pub returns-then-eq : goal.returns-then-eq
returns-then-eq c = same_here c.args.files.now.entries c.loop-i.i c.spelled.result.now c.args.spelled.now c.eq.result c.spelled.ensures c.eq.ensures c.if-eq.true

pub loop-i-preserved : goal.loop-i-preserved
loop-i-preserved c = same_next c.args.files.now.entries c.loop-i.i c.spelled.result.now c.args.spelled.now c.eq.result c.spelled.ensures c.eq.ensures c.if-eq.false c.loop-i.invariant

pub returns : goal.returns
returns c = same_none c.args.files.now.entries c.loop-i.i c.args.spelled.now (omega (arith, c.loop-i-test.false, c.len-i-end.ensures)) c.loop-i.invariant
