use Rattle.std.proofs.Common.{◌≡◌, take}
use Rattle.table_model.specs.Steps.{oids}
use Rattle.table_lists.proofs.names.oids.Given as goal

abbrev pub invariant-loop-version : goal.invariant-loop-version
invariant-loop-version l = l.out.items ≡ oids (take l.version-index l.versions)
