use Rattle.std.proofs.Common.{◌≡◌, length, take}
use Rattle.std.specs.Prelude.{filter, flat_map}
use Rattle.version_lists.specs.Versions.{is_first, listed_from}
use Rattle.table_lists.proofs.tree.listed.Given as goal

abbrev pub invariant-loop-version : goal.invariant-loop-version
invariant-loop-version l = l.out.items ≡ flat_map (listed_from (length l.versions) l.versions) (filter is_first (take l.version-index l.versions))
