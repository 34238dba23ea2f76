use Rattle.record_links.specs.Found.{AreDerived}
use Rattle.record_links.proofs.derived.derived_from_each.Given as goal

abbrev pub invariant-walk : goal.invariant-walk
invariant-walk l = AreDerived l.records l.at l.derived.items
