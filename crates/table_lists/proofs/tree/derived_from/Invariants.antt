use Rattle.std.proofs.Common.{◌≡◌, take}
use Rattle.version_lists.specs.Versions.{derived_from}
use Rattle.table_lists.proofs.tree.derived_from.Given as goal

abbrev pub invariant-loop-version : goal.invariant-loop-version
invariant-loop-version l = l.out.items ≡ derived_from l.number (take l.version-index l.versions)
