use Rattle.std.proofs.Common.{◌≢◌, ℕ, ◌+◌, ◌*◌, ◌<◌}
use Rattle.ex_base.specs.Fields.{number_at}
use Rattle.page_entries.proofs.file_grammar.is_removed.Given as goal

abbrev pub invariant-loop-i : goal.invariant-loop-i
invariant-loop-i l = (k : ℕ) → k < l.i → number_at 4 l.fields (18 + 4 * k) ≢ l.number
