-- The record of a version of a volume's table.
use Rattle.std.proofs.Common.{◌≡◌, ◌∙◌, List, Some, ap}
use Rattle.ex_base.specs.declared.geometry.Geometry.{Geometry}
use Rattle.ex_base.specs.declared.names.Oid.{Oid}
use Rattle.ex_base.proofs.Each.{zip_as}
use Rattle.ex_base.proofs.Members.{In, in_contains, into_flat}
use Rattle.object_files.specs.Catalog.{FileEntry}
use Rattle.op_log.specs.declared.record.LogRecord.{LogRecord}
use Rattle.table_model.specs.Tables.{version_at, versions_of}
use Rattle.trees.specs.Trees.{Units}
use Rattle.version_lists.specs.declared.version.Version.{Version}
use Rattle.version_lists.specs.Versions.{has_oid}
use Rattle.version_lists.proofs.Lists.{find_has, has_contains}
use Rattle.volume_edits.proofs.Contents.{Beside}
use Rattle.volume_edits.proofs.FileVersions.{from_table, whole_files}
use Rattle.volume_edits.proofs.Finding.{beside_file, oid_same}
use Rattle.volume_edits.proofs.Lists.{Paired}
use Rattle.volume_model.specs.Parts.{HasIndex}
use Rattle.volume_model.specs.Volume.{FileContent, Stored, Volume, oid_of, stored_in, table_of, version_of}
use Rattle.volume_model.proofs.Volumes.{Parts}

-- The version is what this record of a file of the volume is read as.
pub record OfVersion (units : Units) (v : Volume) (oid : Oid) (version : Version) : Type 0 where
  pub e : FileEntry
  pub f : FileContent
  pub beside : Beside v.catalog.entries v.files e f
  pub file : In f v.files
  pub x : Stored
  pub stored : In x f.stored
  pub inside : In x (stored_in v)
  pub named : oid_of x ≡ oid
  pub is : version_of units f.stored x ≡ version

module _ (g : Geometry) (records : List LogRecord) (units : Units) (v : Volume) (parts : Parts g records units v) where
  pub paired : Paired v.catalog.entries v.files
  paired = zip_as (HasIndex g units) (λ (e : FileEntry) (f : FileContent). Unit {0}) v.catalog.entries v.files (λ e f h. tt) parts.1.0.0

  pub record_of : (oid : Oid) (version : Version) → version_at (table_of units v) oid ≡ Some version → OfVersion units v oid version
  record_of oid version is =
      let there = find_has (has_oid oid) (versions_of (table_of units v)) version is in
      let own = from_table units v.catalog.entries v.files (whole_files g records units v parts) version there.0 in
      let file : In own.f v.files = in_contains own.f v.files (has_contains v.files own.f own.file) in
      let stored : In own.x own.f.stored = in_contains own.x own.f.stored (has_contains own.f.stored own.x own.stored) in
      let at = beside_file v.catalog.entries v.files own.f paired file in
      record {
        e = at.0;
        f = own.f;
        beside = at.1;
        file = file;
        x = own.x;
        stored = stored;
        inside = into_flat (λ (c : FileContent). c.stored) own.x own.f v.files file stored;
        named = ap (λ (w : Version). w.oid) own.is ∙ oid_same version.oid oid there.1;
        is = own.is;
      }
