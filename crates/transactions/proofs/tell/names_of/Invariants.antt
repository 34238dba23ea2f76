use Rattle.std.proofs.Common.{◌≡◌, take, map}
use Rattle.object_files.specs.Catalog.{name_of}
use Rattle.transactions.proofs.tell.names_of.Given as goal

abbrev pub invariant-loop-index : goal.invariant-loop-index
invariant-loop-index l = l.names ≡ map name_of (take l.index l.catalog.entries)
