-- What an update makes of the versions of a file.
use Rattle.std.specs.Prelude.{List}
use Rattle.version_lists.specs.declared.version.Version.{Version}
use Rattle.version_lists.specs.Changes.{created_in, edited_in, frozen_in, derived_in, without_in}
use Rattle.table_lists.specs.declared.change.VersionChange.{VersionChange}
use Rattle.table_lists.specs.declared.change.VersionChange.TheVariants.{Create, Edit, Freeze, Derive, Without}
use Rattle.table_lists.specs.Edited.{edit_of}
use Rattle.table_lists.specs.Keys.{oid_of_key}

abbrev pub versions_after : VersionChange → List Version → List Version
versions_after (Create oid) vs = created_in oid vs
versions_after (Edit key edit) vs = edited_in (oid_of_key key) (edit_of edit) vs
versions_after (Freeze key copy) vs = frozen_in (oid_of_key key) copy vs
versions_after (Derive key copy) vs = derived_in (oid_of_key key) copy vs
versions_after (Without key) vs = without_in (oid_of_key key) vs
