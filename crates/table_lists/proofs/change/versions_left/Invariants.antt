use Rattle.std.proofs.Common.{◌≡◌, take, map}
use Rattle.std.specs.Prelude.{filter, not}
use Rattle.version_lists.specs.Versions.{has_oid}
use Rattle.version_lists.specs.Changes.{older_instead}
use Rattle.table_lists.proofs.change.versions_left.Given as goal

abbrev pub invariant-loop-version : goal.invariant-loop-version
invariant-loop-version l = l.out.items ≡ map (older_instead l.gone) (filter (λ v. not (has_oid l.gone.oid v)) (take l.version-index l.versions))
