use Rattle.version_lists.proofs.Listing.{listed_permutation, listed_begins}
use Rattle.version_lists.proofs.Trees.{tree_linked}
use Rattle.version_lists.proofs.laws.listing_of_an_object.Goals as goal

pub returns-clause-once : goal.returns-clause-once
returns-clause-once c = λ versions tree. listed_permutation versions (tree_linked versions tree)

pub returns-clause-first : goal.returns-clause-first
returns-clause-first c = listed_begins
