use Rattle.std.proofs.Common.{Err, ap, sym, ◌∙◌, ◌∷◌}
use Rattle.std.proofs.lemmas.Result.{err_from_is_err_and}
use Rattle.table_model.specs.Requests.{request_of}
use Rattle.script_lang.specs.Grammar.{spells, within}
use Rattle.script_lang.specs.LineWords.{words_of}
use Rattle.script_lang.specs.ReadValues.{values_of}
use Rattle.script_lang.specs.Rows.{asked, read}
use Rattle.script_lang.proofs.Laws.{read_spelled, unknown_says, unread_says}
use Rattle.script_lang.proofs.parser.said.Goals as goal

pub returns-in_default : goal.returns-in_default
returns-in_default c = unknown_says _ _ c.requires c.in_default.ensures

pub returns-in_default-read : goal.returns-in_default-read
returns-in_default-read c =
    unread_says _ _ _ c.requires c.in-Some.ensures (ap (λ v. read c.in-Some.places.now (words_of c.args.words.0.now) v) (sym c.nothing-nothing.ensures) ∙ c.in_default-read.ensures)

pub returns-in_err-len : goal.returns-in_err-len
returns-in_err-len c =
    let spelled = read_spelled _ _ _ (values_of c.in-Some-read.values) c.in-Some.ensures (ap (λ v. read c.in-Some.places.now (words_of c.args.words.0.now) v) (sym c.nothing-nothing.ensures) ∙ c.in-Some-read.ensures) in
    let why = err_from_is_err_and c.from_residual.result c.from_residual.ensures.1 in
    let over = c.in_err-len.ensures in
    rw (why.1 ∙ ap Err (why.2 ∙ over.0)) (asked c.in-Some.verb (values_of c.in-Some-read.values) c.in-Some-read.values.bytes, spelled.0, spelled.1 ∙ over.1)

pub returns : goal.returns
returns c =
    let words = c.args.first.now ∷ words_of c.args.words.0.now in
    let spelled = read_spelled _ _ _ (values_of c.in-Some-read.values) c.in-Some.ensures (ap (λ v. read c.in-Some.places.now (words_of c.args.words.0.now) v) (sym c.nothing-nothing.ensures) ∙ c.in-Some-read.ensures) in
    let inside = c.in_ok-len.ensures in
    let is = c.command.ensures ∙ ap (asked c.in-Some.verb (values_of c.in-Some-read.values)) inside.0 in
    (ap (spells words) is ∙ spelled.0, ap within is ∙ spelled.1 ∙ inside.1)
