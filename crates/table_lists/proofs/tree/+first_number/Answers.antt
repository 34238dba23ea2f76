use Rattle.std.proofs.Common.{sym, ap, ◌∙◌}
use Rattle.std.specs.Prelude.{option_copied}
use Rattle.table_lists.proofs.Steps.{no_step, step_up, step_ends}
use Rattle.table_lists.proofs.tree.+first_number.Goals as goal

pub returns-then-steps-eq0 : goal.returns-then-steps-eq0
returns-then-steps-eq0 t c = no_step _ _ _ c.if-steps-eq0.true

pub returns-in-Some : goal.returns-in-Some
returns-in-Some t c =
    step_up _ _ _ c.in-Some.older.now _ c.if-steps-eq0.false (sym c.numbered_in.ensures ∙ ap option_copied c.in-Some.is) c.first_number.ensures

pub returns-in-None : goal.returns-in-None
returns-in-None t c = step_ends _ _ _ c.if-steps-eq0.false (sym c.numbered_in.ensures ∙ ap option_copied c.in-None.is)
