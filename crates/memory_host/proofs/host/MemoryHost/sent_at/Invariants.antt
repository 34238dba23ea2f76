use Rattle.std.proofs.Common.{◌≡◌, take}
use Rattle.memory_host.specs.Replay.{replayed}
use Rattle.memory_host.proofs.host.MemoryHost.sent_at.Given as goal

abbrev pub invariant-loop-call : goal.invariant-loop-call
invariant-loop-call l = l.sent.items ≡ (replayed l.self.start.items (take l.call-index l.call-items)).sent
