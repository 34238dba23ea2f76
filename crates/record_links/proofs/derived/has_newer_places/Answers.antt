use Rattle.std.proofs.Common.{length, sym, subst}
use Rattle.record_links.specs.Found.{AreDerived}
use Rattle.record_links.proofs.derived.has_newer_places.Goals as goal

pub are_newer-requires : goal.are_newer-requires
are_newer-requires c = subst (AreDerived c.args.records.now (length c.args.records.now)) (sym c.deref.ensures.value) c.in_ok-derived.ensures
