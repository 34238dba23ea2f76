use Rattle.std.proofs.Common.{◌≡◌, [], drop, IsTrue}
use Rattle.std.specs.List.{AllByRecursion}
use Rattle.ex_base.specs.Area.{InPageArea}
use Rattle.ex_base.specs.Order.{Rising}
use Rattle.ex_base.specs.Ports.{Keeps}
use Rattle.object_files.specs.Reads.{entry_of}
use Rattle.trees.specs.Trees.{Units}
use Rattle.file_walk.specs.Records.{AreRooted}
use Rattle.file_walk.specs.Walk.{Tells, page_numbers}
use Rattle.file_walk.proofs.Order.{StandsTo}
use Rattle.file_walk.proofs.Reading.{PagesTo}
use Rattle.file_walk.proofs.records.read_file.Given as goal

-- the pages so far were read
abbrev pub invariant-loop-page : goal.invariant-loop-page
invariant-loop-page g l = record {
  kept : Keeps g.P.Ground l.fn.pages l.pages;
  area : AllByRecursion (InPageArea (g.P.Ground.geometry l.fn.pages)) (page_numbers (drop l.page-index l.page-items));
  roots : IsTrue l.good → AreRooted l.fn.records.items → AreRooted l.records.items;
  order : IsTrue l.good → Rising (page_numbers l.page-items) → l.fn.records.items ≡ [] → StandsTo l.records.items (page_numbers (drop l.page-index l.page-items));
  told : (images : Units) → Tells g.P.Ground l.fn.pages images → PagesTo images (entry_of l.entry) l.good l.fn.records.items l.records.items (page_numbers l.page-items) (page_numbers (drop l.page-index l.page-items));
}
