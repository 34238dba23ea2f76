use Rattle.version_lists.specs.Objects.{versions_of_all}
use Rattle.version_lists.proofs.Links.{all_linked}
use Rattle.version_lists.proofs.Trees.{trees_linked, trees_formed}
use Rattle.version_lists.proofs.laws.versions_of_objects.Goals as goal

pub returns-clause-linked : goal.returns-clause-linked
returns-clause-linked c = λ os trees differ. all_linked (versions_of_all os) (trees_linked os trees differ)

pub returns-clause-formed : goal.returns-clause-formed
returns-clause-formed c = trees_formed
