use Rattle.history_links.specs.Found.{AreDerived}
use Rattle.history_links.proofs.derived.derived_from_each.Given as goal

abbrev pub invariant-walk : goal.invariant-walk
invariant-walk l = AreDerived l.versions l.at l.derived.items
