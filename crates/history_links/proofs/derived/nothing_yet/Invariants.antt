use Rattle.std.proofs.Common.{◌≡◌, replicate}
use Rattle.history_links.specs.declared.derived.Derived.TheVariants.{Nothing}
use Rattle.history_links.proofs.derived.nothing_yet.Given as goal

abbrev pub invariant-walk : goal.invariant-walk
invariant-walk l = l.derived.items ≡ replicate l._at Nothing
