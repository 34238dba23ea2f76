use Rattle.std.proofs.Common.{◌≡◌, min, take, ◌^◌, ◌-◌}
use Rattle.op_log.specs.Records.{entries_len}
use Rattle.op_log.proofs.length.entries_len.Given as goal

abbrev pub invariant-loop-entry : goal.invariant-loop-entry
invariant-loop-entry l = l.len ≡ min (entries_len l.kind (take l.entry-index l.entries)) (2 ^ 64 - 1)
