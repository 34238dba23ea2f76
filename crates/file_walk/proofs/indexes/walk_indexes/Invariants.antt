use Rattle.std.proofs.Common.{◌≡◌, [], drop, length}
use Rattle.std.specs.List.{flat_map, AllByRecursion}
use Rattle.ex_base.specs.Ports.{Keeps}
use Rattle.trees.specs.Trees.{Units}
use Rattle.file_walk.specs.Indexes.{HasRisingPages, IsInArea, walked_pages}
use Rattle.file_walk.specs.Walk.{Tells, KeepsUnits, CountsUsed}
use Rattle.file_walk.proofs.Walking.{IndexesTo}
use Rattle.file_walk.proofs.indexes.walk_indexes.Given as goal

-- the indexes so far were walked
abbrev pub invariant-loop-at : goal.invariant-loop-at
invariant-loop-at g l = record {
  kept : Keeps g.P.Ground l.fn.pages l.pages;
  units : KeepsUnits l.fn.units l.units;
  counted : CountsUsed l.fn.units l.units [] (flat_map walked_pages l.files.items);
  area : AllByRecursion (IsInArea (g.P.Ground.geometry l.fn.pages)) l.files.items;
  rising : AllByRecursion HasRisingPages l.files.items;
  len : length l.files.items ≡ l.at;
  told : (images : Units) → Tells g.P.Ground l.fn.pages images → IndexesTo (g.P.Ground.geometry l.fn.pages) images l.catalog.entries (drop l.at l.catalog.entries) l.files.items;
}
