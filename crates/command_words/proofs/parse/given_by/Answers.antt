use Rattle.std.proofs.Common.{◌≡◌, ◌∙◌, sym, ap, refl, true≢false, option_map, true}
use Rattle.command_words.specs.Wishes.{texts}
use Rattle.command_words.proofs.Parses.{unfit_outside, fit_words, refused_outside, no_volume_outside, bad_number_outside, reads_given}
use Rattle.command_words.proofs.parse.given_by.Goals as goal

pub returns-then-not-all_fit : goal.returns-then-not-all_fit
returns-then-not-all_fit c = unfit_outside c.args.command c.args.words.now (sym c.all_fit.ensures ∙ c.if-not-all_fit.true)

pub returns-in-Err : goal.returns-in-Err
returns-in-Err c =
    refused_outside c.args.command (texts c.args.words.now) c.in-Err.fault c.in-Err.ensures.fails (λ e.
    let same : c.eq.result ≡ true = c.eq.ensures ∙ rw (c.kind.ensures ∙ e) refl in
    true≢false (sym same ∙ c.if-eq.false))

pub returns-in_default : goal.returns-in_default
returns-in_default c =
    no_volume_outside c.args.command (texts c.args.words.now) c.in-Ok.matches c.in-Ok.ensures.rows (sym c.get_str.ensures ∙ ap (option_map (λ s. s.now)) c.in_default.is)

pub returns-in-Some-2 : goal.returns-in-Some-2
returns-in-Some-2 c =
    reads_given c.args.command (texts c.args.words.now) c.in-Ok.matches c.in-Ok.ensures.rows c.in-Some.volume.now c.options.result.now c.in-Some-2.numbers.items
    (fit_words c.args.words.now (sym c.all_fit.ensures ∙ c.if-not-all_fit.false)) c.in-Ok.ensures.fails
    (sym c.get_str.ensures ∙ ap (option_map (λ s. s.now)) c.in-Some.is) c.options.ensures (rw c.in-Some-2.is at c.in_ok-numbers.ensures)

pub returns : goal.returns
returns c =
    bad_number_outside c.args.command (texts c.args.words.now) c.in-Ok.matches c.in-Ok.ensures.rows c.options.result.now c.options.ensures (rw c.in-None.is at c.in_ok-numbers.ensures)
