use Rattle.std.proofs.Common.{◌↔◌, ◌≤◌, ◌-◌, ◌*◌, drop}
use Rattle.file_index.specs.IndexPage.{RiseFrom, read_entries}
use Rattle.file_index.proofs.reads.keys_rise.Given as goal

-- all keys rise exactly where those that are left rise from the least that may follow
abbrev pub invariant-loop-at : goal.invariant-loop-at
invariant-loop-at l = record {
  within : l.at ≤ l.n;
  rest : RiseFrom 0 (read_entries l.n l.bytes) ↔ RiseFrom l.least (read_entries (l.n - l.at) (drop (8 * l.at) l.bytes));
}

abbrev pub decreases-loop-at : goal.decreases-loop-at
decreases-loop-at l = l.n - l.at
