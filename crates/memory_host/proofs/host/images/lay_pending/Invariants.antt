use Rattle.std.proofs.Common.{◌≡◌, take, fold, length}
use Rattle.memory_host.specs.Replay.{State, after_call, image_of}
use Rattle.memory_host.proofs.host.images.lay_pending.Given as goal

abbrev pub invariant-loop-call : goal.invariant-loop-call
invariant-loop-call l = record {
  long : length l.image ≡ length l.initial.image;
  laid : (m : State) → image_of l.choice m ≡ l.initial.image → l.image ≡ image_of l.choice (fold after_call m (take l.call-index l.calls));
}
