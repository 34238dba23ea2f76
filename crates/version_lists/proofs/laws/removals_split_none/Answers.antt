use Rattle.version_lists.proofs.Links.{linked_all}
use Rattle.version_lists.proofs.Splitting.{removal_splits_none}
use Rattle.version_lists.proofs.laws.removals_split_none.Goals as goal

pub returns : goal.returns
returns c = λ oid vs linked asked. removal_splits_none oid vs (linked_all vs linked) asked
