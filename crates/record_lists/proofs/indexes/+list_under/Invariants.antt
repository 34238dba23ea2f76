use Rattle.std.proofs.Common.{◌≡◌, ◌++◌, ◌-◌, drop, map}
use Rattle.ex_base.specs.Ports.{Keeps}
use Rattle.record_lists.specs.Listed.{listed_of}
use Rattle.record_lists.specs.Under.{IsReadable, rows_under}
use Rattle.record_lists.proofs.Under.{AreReadableEntries, rows_among}
use Rattle.record_lists.proofs.indexes.+list_under.Given as goal

abbrev pub decreases-list_under : goal.decreases-list_under
decreases-list_under g l = l.named.level

-- the records under the entries so far are listed
abbrev pub invariant-loop-entry : goal.invariant-loop-entry
invariant-loop-entry g l = record {
  kept : Keeps g.V.Ground l.fn.volume l.volume;
  listed : g.V.Ground.tells l.fn.volume → l.fn.records.items ++ map listed_of (rows_under (g.V.Ground.image l.fn.volume) l.named.level l.named.page.0)
      ≡ l.records.items ++ map listed_of (rows_among (g.V.Ground.image l.fn.volume) (l.named.level - 1) (drop l.entry-index l.entry-items));
  readable : g.V.Ground.tells l.fn.volume → IsReadable (g.V.Ground.geometry l.fn.volume) (g.V.Ground.image l.fn.volume) l.named
      → AreReadableEntries (g.V.Ground.geometry l.fn.volume) (g.V.Ground.image l.fn.volume) l.named (drop l.entry-index l.entry-items);
}
