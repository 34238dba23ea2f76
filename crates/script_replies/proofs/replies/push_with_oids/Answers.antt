use Rattle.std.proofs.Common.{List, ℕ, [], ◌∷◌, ◌++◌, map, ap, ◌∙◌}
use Rattle.std.specs.Prelude.{codes}
use Rattle.script_replies.specs.ReplyText.{oid_word, counted_words}
use Rattle.script_replies.specs.Texts.{spaced}
use Rattle.script_replies.proofs.Spaces.{whole_line}
use Rattle.script_replies.proofs.replies.push_with_oids.Goals as goal

pub returns-clause-text : goal.returns-clause-text
returns-clause-text c =
    let words : List (List ℕ) = counted_words (map oid_word c.args.oids.now) in
    c.in_ok-push_end.ensures.text
    ∙ ap (λ (l : List ℕ). l ++ 10 ∷ []) (c.in_ok-push_counted_oids.ensures.text ∙ ap (λ (l : List ℕ). l ++ spaced words) c.in_ok-push_ok.ensures.text)
    ∙ whole_line c.args.out.now.items (codes "ok") c.args.word.now words
