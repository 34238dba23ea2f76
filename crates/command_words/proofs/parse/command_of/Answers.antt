use Rattle.std.proofs.Common.{◌≡◌, ◌∙◌, ◌++◌, ◌∷◌, [], Bor, List, ℕ, ap, ap₂, sym, map, take, get_or}
use Rattle.std.specs.Prelude.{fold}
use Rattle.std.proofs.lemmas.List.{map_more}
use Rattle.std.proofs.lemmas.List.Sums.{fold-append}
use Rattle.clap.specs.Words.{App, with_rule}
use Rattle.command_words.specs.ClapCommand.{bare_app, with_option, with_volume}
use Rattle.command_words.proofs.parse.command_of.Goals as goal

-- one more option
with_more : (app : App) (options : List (Bor (List ℕ))) (i : ℕ) (name : Bor (List ℕ))
    → fold with_option app (map (λ (option : Bor (List ℕ)). option.now) (take i options) ++ name.now ∷ []) ≡ with_option (fold with_option app (map (λ (option : Bor (List ℕ)). option.now) (take i options))) name.now
with_more app options i name = fold-append with_option app (map (λ (option : Bor (List ℕ)). option.now) (take i options)) (name.now ∷ [])

pub loop-name-preserved : goal.loop-name-preserved
loop-name-preserved c =
    let options = c.args.options.now in
    let i = c.loop-name.name-index in
    let d : Bor (List ℕ) = record { ref_ptr = (0, 0); now = [] } in
    let name = get_or options i d in
    let base : App = with_volume (bare_app c.args.name.now) in
    c.in_ok-command-2.ensures.shape c.option_named.ensures.local
    ∙ ap₂ with_rule c.loop-name.invariant c.option_named.ensures.rule
    ∙ sym (with_more base options i name)
    ∙ ap (fold with_option base) (sym (map_more (λ (option : Bor (List ℕ)). option.now) options i d c.loop-name-test.true))
