use Rattle.std.proofs.Common.{◌≡◌, take}
use Rattle.std.specs.Prelude.{count_by}
use Rattle.memory_host.specs.Replay.{is_write}
use Rattle.memory_host.proofs.host.images.written_ranges.Given as goal

abbrev pub invariant-loop-call : goal.invariant-loop-call
invariant-loop-call l = l.count ≡ count_by is_write (take l.call-index l.calls)
