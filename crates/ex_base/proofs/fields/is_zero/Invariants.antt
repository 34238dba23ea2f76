use Rattle.std.proofs.Common.{◌≡◌, ◌↔◌, take}
use Rattle.ex_base.specs.Fields.{AreZero}
use Rattle.ex_base.proofs.fields.is_zero.Given as goal

abbrev pub invariant-loop-byte : goal.invariant-loop-byte
invariant-loop-byte l = (l.joined ≡ 0) ↔ AreZero (take l.byte-index l.bytes)
