use Rattle.std.proofs.Common.{true, false, ◌∙◌}
use Rattle.std.proofs.lemmas.List.{get_or_default}
use Rattle.object_files.proofs.MarkLaws.{missing_inside}
use Rattle.object_files.proofs.marks.first_unmarked.Goals as goal

pub bounds-marks-at : goal.bounds-marks-at
bounds-marks-at c = missing_inside c.args.marks.now c.loop-at.at c.loop-at.invariant c.requires

pub returns-clause-inside : goal.returns-clause-inside
returns-clause-inside c = missing_inside c.args.marks.now c.loop-at.at c.loop-at.invariant c.requires

pub returns-clause-missing : goal.returns-clause-missing
returns-clause-missing c = get_or_default c.args.marks.now c.loop-at.at true false (missing_inside c.args.marks.now c.loop-at.at c.loop-at.invariant c.requires) ∙ c.loop-at-test.false
