use Rattle.std.proofs.Common.{◌≡◌, take, map}
use Rattle.object_files.specs.Catalog.{number_of}
use Rattle.history_plans.proofs.catalog.numbers_of.Given as goal

abbrev pub invariant-loop-index : goal.invariant-loop-index
invariant-loop-index l = l.numbers.items ≡ map number_of (take l.index l.catalog.entries)
