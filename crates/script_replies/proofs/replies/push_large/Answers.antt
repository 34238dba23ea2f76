use Rattle.std.proofs.Common.{List, ℕ, [], ◌∷◌, ◌++◌, map, ap, ◌∙◌}
use Rattle.std.specs.Prelude.{decimal, codes}
use Rattle.script_replies.specs.Texts.{spaced}
use Rattle.script_replies.proofs.Spaces.{whole_line}
use Rattle.script_replies.proofs.replies.push_large.Goals as goal

pub returns-clause-text : goal.returns-clause-text
returns-clause-text c =
    let words : List (List ℕ) =
    codes "large" ∷ decimal c.args.size ∷ codes "height" ∷ decimal c.args.height ∷ codes "leaves" ∷ decimal c.args.leaves ∷ map decimal c.args.first.now in
    c.in_ok-push_end.ensures.text
    ∙ ap (λ (l : List ℕ). l ++ 10 ∷ []) (c.in_ok-push_shape.ensures.text ∙ ap (λ (l : List ℕ). l ++ spaced words) c.in_ok-push_ok.ensures.text)
    ∙ whole_line c.args.out.now.items (codes "ok") (codes "stat") words
