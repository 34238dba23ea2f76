use Rattle.std.proofs.Common.{◌≡◌, List, ℕ, sym, subst, decimal}
use Rattle.std.specs.Prelude.{codes}
use Rattle.generated.specs.Commands.{command_line, object_word, repeated_word}
use Rattle.generated.specs.declared.edit.Edit.{Edit}
use Rattle.generated.proofs.Words.{three_words, four_words, words_behind}
use Rattle.generated.proofs.line.put_command.Goals as goal

by_edit : {line : List ℕ} (index object byte : ℕ) {edit other : Edit} → edit ≡ other → line ≡ command_line index object byte other → line ≡ command_line index object byte edit
by_edit {line} index object byte is made = subst (λ (e : Edit). line ≡ command_line index object byte e) (sym is) made

pub returns-in_ok-push_repeated-in-Append : goal.returns-in_ok-push_repeated-in-Append
unfolding command_line
returns-in_ok-push_repeated-in-Append c = by_edit c.args.index c.args.turn.now.object c.args.turn.now.byte c.in-Append.is (three_words (codes "append") (object_word c.args.turn.now.object) (repeated_word c.in-Append.count c.args.turn.now.byte) c.in_ok-put_verb-in-Append.ensures c.in_ok-push_repeated-in-Append.ensures)

pub returns-in_ok-push_repeated-in-Insert : goal.returns-in_ok-push_repeated-in-Insert
unfolding command_line
returns-in_ok-push_repeated-in-Insert c =
    by_edit c.args.index c.args.turn.now.object c.args.turn.now.byte c.in-Insert.is (four_words (codes "insert") (object_word c.args.turn.now.object) (decimal c.in-Insert.at) (repeated_word c.in-Insert.count c.args.turn.now.byte) c.in_ok-put_verb-in-Insert.ensures c.in_ok-push_number-in-Insert.ensures c.in_ok-push_repeated-in-Insert.ensures)

pub returns-in_ok-push_repeated-in-Replace : goal.returns-in_ok-push_repeated-in-Replace
unfolding command_line
returns-in_ok-push_repeated-in-Replace c =
    by_edit c.args.index c.args.turn.now.object c.args.turn.now.byte c.in-Replace.is (four_words (codes "replace") (object_word c.args.turn.now.object) (decimal c.in-Replace.at) (repeated_word c.in-Replace.count c.args.turn.now.byte) c.in_ok-put_verb-in-Replace.ensures c.in_ok-push_number-in-Replace.ensures c.in_ok-push_repeated-in-Replace.ensures)

pub returns-in_ok-push_number-in-Delete-2 : goal.returns-in_ok-push_number-in-Delete-2
unfolding command_line
returns-in_ok-push_number-in-Delete-2 c =
    by_edit c.args.index c.args.turn.now.object c.args.turn.now.byte c.in-Delete.is (four_words (codes "delete") (object_word c.args.turn.now.object) (decimal c.in-Delete.at) (decimal c.in-Delete.count) c.in_ok-put_verb-in-Delete.ensures c.in_ok-push_number-in-Delete.ensures c.in_ok-push_number-in-Delete-2.ensures)

pub returns-in_ok-push_decimal-in-Freeze : goal.returns-in_ok-push_decimal-in-Freeze
unfolding command_line
returns-in_ok-push_decimal-in-Freeze c =
    by_edit c.args.index c.args.turn.now.object c.args.turn.now.byte c.in-Freeze.is (words_behind (codes "freeze") (object_word c.args.turn.now.object) (codes " as @v") (decimal c.args.index) c.in_ok-put_verb-in-Freeze.ensures c.in_ok-extend_from_slice-in-Freeze.ensures.items c.in_ok-push_decimal-in-Freeze.ensures)

pub returns-in_ok-push_number-in-Read-2 : goal.returns-in_ok-push_number-in-Read-2
unfolding command_line
returns-in_ok-push_number-in-Read-2 c =
    by_edit c.args.index c.args.turn.now.object c.args.turn.now.byte c.in-Read.is (four_words (codes "read") (object_word c.args.turn.now.object) (decimal c.in-Read.at) (decimal c.in-Read.count) c.in_ok-put_verb-in-Read.ensures c.in_ok-push_number-in-Read.ensures c.in_ok-push_number-in-Read-2.ensures)
