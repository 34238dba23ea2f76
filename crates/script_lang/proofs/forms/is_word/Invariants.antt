use Rattle.std.proofs.Common.{◌≡◌, drop}
use Rattle.std.specs.Prelude.{bytes_eq}
use Rattle.script_lang.proofs.forms.is_word.Given as goal

-- The bytes that are left tell.
abbrev pub invariant-loop-i : goal.invariant-loop-i
invariant-loop-i l = bytes_eq (drop l.i l.word) (drop l.i l.text) ≡ bytes_eq l.word l.text
