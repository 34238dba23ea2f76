use Rattle.std.proofs.Common.{refl}
use Rattle.version_lists.specs.Versions.{first_number, listed_from}
use Rattle.version_lists.proofs.laws.worked_rows.Goals as goal

pub returns-clause-freezes : goal.returns-clause-freezes
unfolding first_number listed_from
returns-clause-freezes c = refl

pub returns-clause-drop : goal.returns-clause-drop
unfolding first_number listed_from
returns-clause-drop c = refl

pub returns-clause-branch : goal.returns-clause-branch
unfolding first_number listed_from
returns-clause-branch c = refl

pub returns-clause-left : goal.returns-clause-left
unfolding first_number listed_from
returns-clause-left c = refl
