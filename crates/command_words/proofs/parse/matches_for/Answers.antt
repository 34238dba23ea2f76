use Rattle.std.proofs.Common.{◌≡◌, ◌∙◌, ap, ap₂, subst}
use Rattle.std.proofs.lemmas.Result.{IfOk-weaker}
use Rattle.clap.specs.Words.{App, FailsBy, app_of, fault_of, is_simple, is_simple_and_free, matches_of}
use Rattle.command_words.specs.ClapCommand.{app_for, app_with}
use Rattle.command_words.specs.Wishes.{texts}
use Rattle.command_words.proofs.OptionFacts.{simple, simple_only}
use Rattle.command_words.proofs.parse.matches_for.Goals as goal

pub returns-clause-fails : goal.returns-clause-fails
returns-clause-fails c =
    let app_is : app_of c.in_ok-command_of.field-0 ≡ app_for c.args.command = c.in_ok-command_of.ensures ∙ ap₂ app_with c.as_str.ensures c.options.ensures in
    let parse = c.try_get_matches_from in
    subst (λ (a : App). FailsBy (fault_of a (texts c.args.words.now)) parse.result) app_is (parse.ensures.kinds (ap is_simple_and_free app_is ∙ simple c.args.command))

pub returns-clause-rows : goal.returns-clause-rows
returns-clause-rows c =
    let app_is : app_of c.in_ok-command_of.field-0 ≡ app_for c.args.command = c.in_ok-command_of.ensures ∙ ap₂ app_with c.as_str.ensures c.options.ensures in
    let parse = c.try_get_matches_from in
    IfOk-weaker parse.result _ _ (λ m h. (h (ap is_simple app_is ∙ simple_only c.args.command)).0 ∙ ap (λ (a : App). matches_of a (texts c.args.words.now)) app_is) parse.ensures.matches
