use Rattle.std.proofs.Common.{◌≡◌, take, fold, length}
use Rattle.memory_host.specs.Replay.{State, after_call}
use Rattle.memory_host.proofs.host.images.replay.Given as goal

abbrev pub invariant-loop-call : goal.invariant-loop-call
invariant-loop-call l = record {
  long : length l.disk ≡ length l.initial.disk;
  done : (m : State) → m.disk ≡ l.initial.disk → l.disk ≡ (fold after_call m (take l.call-index l.calls)).disk;
}
