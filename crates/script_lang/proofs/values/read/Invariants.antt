use Rattle.std.proofs.Common.{◌≡◌, drop}
use Rattle.script_lang.specs.LineWords.{words_of}
use Rattle.script_lang.specs.Rows.{read}
use Rattle.script_lang.specs.ReadValues.{values_of}
use Rattle.script_lang.proofs.values.read.Given as goal

-- The places and words that are left complete the values.
abbrev pub invariant-loop-place : goal.invariant-loop-place
invariant-loop-place l =
    read (drop l.place-index l.places) (words_of l.words.0.now) (values_of l.values)
    ≡ read l.places (words_of l.fn.words.0.now) (values_of l.fn.values)
