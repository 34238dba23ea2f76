use Rattle.std.proofs.Common.{◌≡◌, take, false}
use Rattle.std.specs.Prelude.{All, ◌==◌}
use Rattle.data_words.proofs.parts.cut.Given as goal

-- none of these bytes so far
abbrev pub invariant-loop-i : goal.invariant-loop-i
invariant-loop-i l = All (λ x. (x == l.at) ≡ false) (take l.i l.bytes)
