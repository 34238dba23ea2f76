use Rattle.std.proofs.Common.{take, ◌≡◌, ◌+◌}
use Rattle.std.specs.List.{flat_map}
use Rattle.op_log.specs.Records.{entry_bytes, entries_len}
use Rattle.op_log.specs.Writing.{Puts}
use Rattle.op_log.proofs.encode.put_entries.Given as goal

abbrev pub invariant-loop-entry : goal.invariant-loop-entry
invariant-loop-entry l = record {
  puts : Puts (flat_map (entry_bytes l.kind) (take l.entry-index l.entries)) l.initial.out l.out l.start l.at;
  at_is : l.at ≡ l.start + entries_len l.kind (take l.entry-index l.entries);
}
