use Rattle.std.proofs.Common.{◌∙◌, arith, sym}
use Rattle.clients.proofs.FirstWords.{by_number, by_one_word, numbered_loud, one_word_loud, unturned}
use Rattle.clients.proofs.turns.may_name.Goals as goal

pub returns-in-Some-default-len1-up-clause-none : goal.returns-in-Some-default-len1-up-clause-none
returns-in-Some-default-len1-up-clause-none c none r says =
    by_number c.args.said.now c.in-Some-default-len1-up.word.now c.in-Some-default-len1-up.field-0-1.now c.in-Some-default-len1-up.ensures (sym c.is_of_one_version.ensures ∙ unturned c.is_of_one_version.result none) (omega arith) (omega arith) (omega arith) r says

pub returns-in-Some-default-len1-up-clause-loud : goal.returns-in-Some-default-len1-up-clause-loud
returns-in-Some-default-len1-up-clause-loud c none silent =
    numbered_loud c.args.said.now c.in-Some-default-len1-up.word.now c.in-Some-default-len1-up.field-0-1.now c.in-Some-default-len1-up.ensures (sym c.is_of_one_version.ensures ∙ unturned c.is_of_one_version.result none) (omega arith) (omega arith) (omega arith) silent

pub returns-in-None-clause-none : goal.returns-in-None-clause-none
returns-in-None-clause-none c none r says = by_one_word c.args.said.now (sym c.is_one_word.ensures ∙ unturned c.is_one_word.result none) r says

pub returns-in-None-clause-loud : goal.returns-in-None-clause-loud
returns-in-None-clause-loud c none silent = one_word_loud c.args.said.now (sym c.is_one_word.ensures ∙ unturned c.is_one_word.result none) silent
