use Rattle.std.proofs.Common.{◌∙◌, ◌++◌, ◌∷◌, [], Bor, List, ℕ, sym}
use Rattle.std.proofs.lemmas.List.{map_more}
use Rattle.std.proofs.lemmas.List.Elements.{All-more}
use Rattle.clap.specs.Words.{found_of}
use Rattle.command_words.specs.ClapCommand.{GivesNumber, number_found}
use Rattle.command_words.proofs.parse.numbers_of.Goals as goal

pub loop-name-preserved : goal.loop-name-preserved
loop-name-preserved c =
    let options = c.args.options.now in
    let i = c.loop-name.name-index in
    let d : Bor (List ℕ) = record { ref_ptr = (0, 0); now = [] } in
    let found = found_of c.args.matches.now in record {
      each = All-more (λ (name : Bor (List ℕ)). GivesNumber found name.now) options i d c.loop-name-test.true c.loop-name.invariant.each c.in-Some.ensures.0;
      numbers_are = c.in_ok-push.ensures.items ∙ (λ k. c.loop-name.invariant.numbers_are k ++ c.in-Some.ensures.1 k ∷ []) ∙ sym (map_more (λ (name : Bor (List ℕ)). number_found found name.now) options i d c.loop-name-test.true);
    }
