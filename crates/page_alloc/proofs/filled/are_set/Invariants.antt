use Rattle.std.proofs.Common.{◌≡◌, Bool, true, All, take}
use Rattle.page_alloc.proofs.filled.are_set.Given as goal

-- where all is true so far, so is each flag
abbrev pub invariant-loop-flag : goal.invariant-loop-flag
invariant-loop-flag l = l.all ≡ true → All (λ (flag : Bool). flag ≡ true) (take l.flag-index l.flags)
