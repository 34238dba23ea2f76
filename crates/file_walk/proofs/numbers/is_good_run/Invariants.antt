use Rattle.std.proofs.Common.{◌↔◌, drop}
use Rattle.file_walk.specs.Numbers.{IsGoodRun}
use Rattle.file_walk.proofs.numbers.is_good_run.Given as goal

-- all numbers are a good run exactly where those that are left are one from the least that may follow
abbrev pub invariant-loop-number : goal.invariant-loop-number
invariant-loop-number l = IsGoodRun l.next_unique 1 l.numbers ↔ IsGoodRun l.next_unique l.least (drop l.number-index l.numbers)
