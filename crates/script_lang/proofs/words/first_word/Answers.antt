use Rattle.std.proofs.Common.{◌≡◌, ◌∙◌, sym, ap, ◌∷◌, take, drop}
use Rattle.std.proofs.lemmas.List.{take_rest}
use Rattle.script_lang.specs.LineWords.{words_of}
use Rattle.script_lang.proofs.WordCuts.{end_of, end_of-le, no_word, word_at}
use Rattle.script_lang.proofs.words.first_word.Goals as goal

pub returns-in_err-start : goal.returns-in_err-start
returns-in_err-start c = rw c.from_residual.ensures (no_word c.args.line.now (sym c.word_start.ensures ∙ c.in_err-start.was))

pub split_at-requires : goal.split_at-requires
split_at-requires c = rw c.word_end.ensures (end_of-le _)

pub returns : goal.returns
returns c =
    let line = c.args.line.now in
    let i = c.in_ok-start.start in
    let from = take_rest line i in
    let found = word_at line i (sym c.word_start.ensures ∙ c.in_ok-start.was) in
    let end : c.word_end.result ≡ end_of (drop i line) = c.word_end.ensures ∙ ap end_of from in
    found
    ∙ (λ k. take (sym end k) (sym from k) ∷ words_of (drop (sym end k) (sym from k)))
    ∙ (λ k. sym c.split_at.ensures.front k ∷ words_of (sym c.split_at.ensures.back k))
