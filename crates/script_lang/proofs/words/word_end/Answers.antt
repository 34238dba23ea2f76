use Rattle.std.proofs.Common.{ℕ, ◌≡◌, ◌∙◌, sym, List, Option, Some, None, length, unwrap_or, arith}
use Rattle.std.specs.List.{position_or_len}
use Rattle.std.proofs.lemmas.Bool.{false_from_ne_true}
use Rattle.std.proofs.lemmas.List.Sums.{position_or_len_is}
use Rattle.memchr.specs.Find.{IsFirstByte, is_byte2}
use Rattle.script_lang.specs.LineWords.{is_blank}
use Rattle.script_lang.proofs.words.word_end.Goals as goal

-- the first blank that a search finds, or the length where it finds none
found : (xs : List ℕ) (o : Option ℕ) → IsFirstByte (is_byte2 32 9) xs o → unwrap_or o (length xs) ≡ position_or_len is_blank xs
found xs (Some k) first = sym (position_or_len_is is_blank xs k 0 (omega (arith, first.0.high)) (λ j lt. false_from_ne_true _ (first.0.before j (omega arith) lt)) (λ lt. first.1))
found xs None first = sym (position_or_len_is is_blank xs (length xs) 0 (omega arith) (λ j lt. false_from_ne_true _ (first j (omega arith) lt)) (λ lt. absurd (omega (arith, lt))))

pub returns : goal.returns
returns c = c.unwrap_or.ensures ∙ found c.args.line.now _ c.memchr2.ensures
