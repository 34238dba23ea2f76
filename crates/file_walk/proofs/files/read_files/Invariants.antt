use Rattle.std.proofs.Common.{drop, IsTrue}
use Rattle.std.specs.List.{AllByRecursion}
use Rattle.ex_base.specs.Ports.{Keeps}
use Rattle.trees.specs.Trees.{Units}
use Rattle.file_walk.specs.Indexes.{HasRisingPages, IsInArea}
use Rattle.file_walk.specs.Records.{HasRootFields}
use Rattle.file_walk.specs.Walk.{Tells}
use Rattle.file_walk.proofs.Reading.{FilesTo}
use Rattle.file_walk.proofs.files.read_files.Given as goal

-- the files so far were read
abbrev pub invariant-loop-at : goal.invariant-loop-at
invariant-loop-at g l = record {
  kept : Keeps g.P.Ground l.fn.pages l.pages;
  area : AllByRecursion (IsInArea (g.P.Ground.geometry l.fn.pages)) (drop l.at l.files);
  rising : AllByRecursion HasRisingPages (drop l.at l.files);
  roots : IsTrue l.good → AllByRecursion HasRootFields l.fn.found.items → AllByRecursion HasRootFields l.found.items;
  told : (images : Units) → Tells g.P.Ground l.fn.pages images → FilesTo images l.good l.fn.found.items l.found.items l.catalog.entries (drop l.at l.catalog.entries) l.files (drop l.at l.files);
}
