use Rattle.std.proofs.Common.{ap, is_none}
use Rattle.version_lists.specs.Objects.{objects_formed}
use Rattle.version_lists.proofs.Lists.{has_contains, contains_has}
use Rattle.version_lists.proofs.Links.{linked_all}
use Rattle.version_lists.proofs.Climbing.{version_ends}
use Rattle.version_lists.proofs.Forming.{all_versions, formed_permutation, formed_trees, formed_rise}
use Rattle.version_lists.proofs.laws.objects_of_versions.Goals as goal

pub returns-clause-climbs : goal.returns-clause-climbs
returns-clause-climbs c = λ vs v linked there.
    let e = version_ends vs (linked_all vs linked) v (contains_has vs v there) in
    record { first = e.first; there = has_contains vs e.first e.there; is = ap is_none e.is; number = e.number }

pub returns-clause-all : goal.returns-clause-all
returns-clause-all c = λ vs linked. all_versions vs (linked_all vs linked)

pub returns-clause-trees : goal.returns-clause-trees
returns-clause-trees c = λ vs linked. formed_trees vs (linked_all vs linked)

pub returns-clause-rise : goal.returns-clause-rise
returns-clause-rise c = λ vs linked. formed_rise vs (linked_all vs linked)

pub returns-clause-fixed : goal.returns-clause-fixed
returns-clause-fixed c = λ vs linked. ap objects_formed (all_versions vs (linked_all vs linked))

pub returns-clause-once : goal.returns-clause-once
returns-clause-once c = λ vs linked. formed_permutation vs (linked_all vs linked)
