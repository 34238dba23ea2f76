use Rattle.std.proofs.Common.{◌≡◌, map, take}
use Rattle.history_links.specs.Linked.{links_of}
use Rattle.history_links.proofs.linking.link_versions.Given as goal

abbrev pub invariant-walk : goal.invariant-walk
invariant-walk l = l.links.items ≡ map (links_of l.versions) (take l.at l.versions)
