use Rattle.std.proofs.Common.{◌≡◌, take, None}
use Rattle.std.specs.Prelude.{find}
use Rattle.object_files.specs.Edits.{has_name}
use Rattle.transactions.proofs.refuse.entry_named.Given as goal

abbrev pub invariant-loop-index : goal.invariant-loop-index
invariant-loop-index l = find (has_name l.name) (take l.index l.catalog.entries) ≡ None
