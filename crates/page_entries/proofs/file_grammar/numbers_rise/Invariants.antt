use Rattle.std.proofs.Common.{◌↔◌, ◌+◌, ◌-◌, ◌*◌}
use Rattle.file_index.specs.Index.{Rises}
use Rattle.page_entries.specs.Said.{numbers_read}
use Rattle.page_entries.proofs.file_grammar.numbers_rise.Given as goal

-- the numbers that are left rise where all do
abbrev pub invariant-loop-i : goal.invariant-loop-i
invariant-loop-i l = Rises 0 (numbers_read l.fields l.n 18) ↔ Rises l.least (numbers_read l.fields (l.n - l.i) (18 + 4 * l.i))
