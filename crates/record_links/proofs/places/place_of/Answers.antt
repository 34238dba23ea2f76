use Rattle.std.proofs.Common.{[], ap}
use Rattle.std.proofs.lemmas.List.{get_or_default}
use Rattle.record_links.specs.declared.Linked.{Linked}
use Rattle.record_links.specs.Found.{linked_at}
use Rattle.record_links.proofs.places.place_of.Goals as goal

pub returns : goal.returns
returns c = ap (λ (r : Linked). r.place) (get_or_default c.args.records.now c.args.at _ (linked_at [] 0) c.requires)
