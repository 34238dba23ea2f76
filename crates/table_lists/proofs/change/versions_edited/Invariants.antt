use Rattle.std.proofs.Common.{◌≡◌, take}
use Rattle.version_lists.specs.Changes.{edited_in}
use Rattle.table_lists.specs.Keys.{oid_of_key}
use Rattle.table_lists.specs.Edited.{edit_of}
use Rattle.table_lists.proofs.change.versions_edited.Given as goal

abbrev pub invariant-loop-version : goal.invariant-loop-version
invariant-loop-version l = l.out.items ≡ edited_in (oid_of_key l.key) (edit_of l.edit) (take l.version-index l.versions)
