use Rattle.page_entries.proofs.RuleLaws.{no_difference}
use Rattle.ex_base.proofs.Options.{at_none}
use Rattle.page_entries.proofs.rule.differences.Goals as goal

pub returns-in-None-2-clause-none : goal.returns-in-None-2-clause-none
returns-in-None-2-clause-none c = no_difference c.args.page.0 c.args.old.now c.args.new.now (at_none c.in_ok-slot_fields.field-0 _ c.in-None.is c.in_ok-slot_fields.ensures.none) (at_none c.in_ok-file_fields.field-0 _ c.in-None-2.is c.in_ok-file_fields.ensures.none)
