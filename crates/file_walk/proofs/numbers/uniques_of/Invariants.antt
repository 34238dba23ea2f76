use Rattle.std.proofs.Common.{◌≡◌, ◌++◌, drop}
use Rattle.file_walk.specs.Numbers.{uniques}
use Rattle.file_walk.proofs.numbers.uniques_of.Given as goal

abbrev pub invariant-loop-found : goal.invariant-loop-found
invariant-loop-found l = uniques l.records ≡ l.numbers.items ++ uniques (drop l.found-index l.records)
