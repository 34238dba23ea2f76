use Rattle.std.proofs.Common.{sym, ◌∙◌}
use Rattle.page_entries.proofs.SlotsDiffering.{slots_found, same_file}
use Rattle.page_entries.proofs.slot_differences.slot_fields.Goals as goal

pub returns-then-file_no-clause-none : goal.returns-then-file_no-clause-none
returns-then-file_no-clause-none c = λ said d.
    c.if-file_no.true (c.file_no.ensures ∙ sym (same_file c.args.old.now c.args.new.now c.in-Some.view.page c.in-Some-of.view.page said c.in-Some.ensures.found.1 c.in-Some-of.ensures.found.1 d) ∙ sym c.file_no-2.ensures)

pub returns-clause-differ : goal.returns-clause-differ
returns-clause-differ c =
    (slots_found c.args.old.now c.args.new.now c.in-Some.view.page c.in-Some-of.view.page c.from_vec.result c.in-Some.ensures.found.1 c.in-Some-of.ensures.found.1 (sym c.file_no-2.ensures ∙ sym c.if-file_no.false ∙ c.file_no.ensures)
    (c.from_vec.ensures ∙ c.in_ok-differing.ensures)).0

pub returns-clause-fields : goal.returns-clause-fields
returns-clause-fields c =
    (slots_found c.args.old.now c.args.new.now c.in-Some.view.page c.in-Some-of.view.page c.from_vec.result c.in-Some.ensures.found.1 c.in-Some-of.ensures.found.1 (sym c.file_no-2.ensures ∙ sym c.if-file_no.false ∙ c.file_no.ensures)
    (c.from_vec.ensures ∙ c.in_ok-differing.ensures)).1
