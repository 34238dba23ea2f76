use Rattle.std.proofs.Common.{drop}
use Rattle.ex_base.specs.Ports.{Keeps}
use Rattle.trees.specs.Trees.{Units}
use Rattle.file_walk.specs.Indexes.{AddsPages}
use Rattle.file_walk.specs.Walk.{Tells, KeepsUnits}
use Rattle.file_walk.proofs.Walking.{WalkedTo}
use Rattle.file_walk.proofs.indexes.+walk_under.Given as goal

abbrev pub decreases-walk_under : goal.decreases-walk_under
decreases-walk_under g l = l.named.level

-- the entries so far were walked
abbrev pub invariant-loop-entry : goal.invariant-loop-entry
invariant-loop-entry g l = record {
  kept : Keeps g.P.Ground l.fn.pages l.pages;
  units : KeepsUnits l.fn.units l.units;
  pages : AddsPages (g.P.Ground.geometry l.fn.pages) l.fn.units l.units l.fn.walked l.walked;
  told : (images : Units) → Tells g.P.Ground l.fn.pages images → WalkedTo (g.P.Ground.geometry l.fn.pages) images l.fn.named l.fn.walked l.walked (drop l.entry-index l.entry-items);
}
