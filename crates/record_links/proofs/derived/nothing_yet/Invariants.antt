use Rattle.std.proofs.Common.{◌≡◌, replicate}
use Rattle.record_links.specs.declared.derived.Derived.TheVariants.{Nothing}
use Rattle.record_links.proofs.derived.nothing_yet.Given as goal

abbrev pub invariant-walk : goal.invariant-walk
invariant-walk l = l.derived.items ≡ replicate l._at Nothing
