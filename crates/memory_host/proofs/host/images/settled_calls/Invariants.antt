use Rattle.std.proofs.Common.{◌≢◌, ◌≤◌, All, length, drop}
use Rattle.memory_host.specs.declared.host.Call.TheVariants.{Sync}
use Rattle.memory_host.proofs.host.images.settled_calls.Given as goal

abbrev pub invariant-loop-count : goal.invariant-loop-count
invariant-loop-count l = record {
  within : l.count ≤ length l.calls;
  pending : All (λ call. call ≢ Sync) (drop l.count l.calls);
}

abbrev pub decreases-loop-count : goal.decreases-loop-count
decreases-loop-count l = l.count
