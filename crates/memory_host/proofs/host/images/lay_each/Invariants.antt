use Rattle.std.proofs.Common.{◌≡◌, [], take, fold, length}
use Rattle.std.specs.Prelude.{count_by, reverse}
use Rattle.memory_host.specs.Replay.{State, after_call, is_write, laid_by}
use Rattle.memory_host.proofs.host.images.lay_each.Given as goal

abbrev pub invariant-loop-call : goal.invariant-loop-call
invariant-loop-call l = record {
  long : length l.image ≡ length l.initial.image;
  count : l.at ≡ count_by is_write (take l.call-index l.calls);
  laid : (m : State) → m.pending ≡ [] → m.settled ≡ l.initial.image
      → l.image ≡ laid_by m.settled (reverse (take l.at l.choices)) (fold after_call m (take l.call-index l.calls)).pending;
}
