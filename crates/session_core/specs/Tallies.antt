-- How many objects and versions a file has, as the shown table has it.
use Rattle.std.specs.Prelude.{◌≡◌, ℕ, Bool, List, [], length, Option, Some, None, is_none}
use Rattle.table_model.specs.declared.machine.Machine.{Machine}
use Rattle.table_model.specs.Machines.{shown}
use Rattle.table_model.specs.Tables.{file_at, versions_in}
use Rattle.table_model.specs.declared.table.Table.{Table}
use Rattle.table_model.specs.declared.table.TableFile.{TableFile}
use Rattle.version_lists.specs.declared.version.Object.{Object}
use Rattle.version_lists.specs.declared.version.Version.{Version}
use Rattle.version_tree.specs.declared.lineage.Member.{Member}
use Rattle.session_core.specs.declared.session.tally.Tally.{Tally}

-- the version is derived from none
abbrev pub is_first : Member → Bool
is_first member = is_none member.older

-- the objects and the versions of a file, where there is one
abbrev pub objects_if : Option TableFile → List Object
objects_if None = []
objects_if (Some f) = f.objects

abbrev pub versions_if : Option TableFile → List Version
versions_if None = []
versions_if (Some f) = versions_in f

-- those of the file of this name
abbrev pub objects_named : Table → List ℕ → List Object
objects_named t name = objects_if (file_at t name)

abbrev pub versions_named : Table → List ℕ → List Version
versions_named t name = versions_if (file_at t name)

-- as many objects and versions as the file of this name has in the shown table
pub record IsTally (m : Machine) (name : List ℕ) (tally : Tally) : Type 0 where
  pub objects : tally.objects ≡ length (objects_named (shown m) name)
  pub versions : tally.versions ≡ length (versions_named (shown m) name)
