use Rattle.std.proofs.Common.{◌≡◌, ◌≤◌, ◌-◌, ℕ, List, Some, drop, length, take}
use Rattle.disk_model.specs.Outside.{SourceOnly}
use Rattle.history_load.proofs.stream.take_all.Given as goal

abbrev pub invariant-takes : goal.invariant-takes
invariant-takes g l = record {
  size : length l.out ≡ length l.initial.out;
  within : l.at ≤ length l.initial.out;
  only : SourceOnly (g.S.World.outside l.initial.source) (g.S.World.outside l.source);
  taken : (was : List ℕ) → (g.S.World.outside l.initial.source).left ≡ Some was → (l.at ≤ length was) × (take l.at l.out ≡ take l.at was) × ((g.S.World.outside l.source).left ≡ Some (drop l.at was));
}

abbrev pub decreases-takes : goal.decreases-takes
decreases-takes g l = length l.initial.out - l.at
