-- The files of a history that stands as a volume are those of the volume's table.
use Rattle.std.proofs.Common.{◌≡◌, ℕ, List, map, refl, sym, subst, ap, ◌∙◌}
use Rattle.std.specs.List.{AllByRecursion, AllZip, zip}
use Rattle.ex_base.specs.declared.geometry.Geometry.{Geometry}
use Rattle.ex_base.proofs.Each.{each_parted}
use Rattle.object_files.specs.Catalog.{FileEntry}
use Rattle.object_records.specs.Record.{Content, Small, Large}
use Rattle.op_log.specs.declared.record.LogRecord.{LogRecord}
use Rattle.table_model.specs.Tables.{all_in}
use Rattle.trees.specs.Trees.{Units}
use Rattle.version_lists.specs.Sorted.{in_order}
use Rattle.version_lists.specs.Versions.{unique_of as number_of}
use Rattle.version_lists.proofs.Forming.{all_versions as formed_of_all}
use Rattle.version_lists.proofs.Links.{linked_all}
use Rattle.version_lists.proofs.Lists.{Has, has_flat}
use Rattle.version_lists.proofs.Sorted.{order_map, order_has_from}
use Rattle.volume_model.specs.Parts.{HoldsOf, content_parts}
use Rattle.volume_model.specs.Volume.{FileContent, Stored, Volume, content_in, file_of, stored_in, table_of, unique_of, version_of, versions_stored}
use Rattle.volume_model.proofs.Places.{each_has, sep_from, sep_parted}
use Rattle.volume_model.proofs.Standing.{StoredAt, files_at}
use Rattle.volume_model.proofs.TableVersions.{FileLinked, files_linked}
use Rattle.history_model.specs.Dumps.{AreAsNamed, IsFileOf, IsVersionOf}
use Rattle.history_model.specs.History.{History, HistoryFile, HistoryVersion, all_versions}
use Rattle.history_model.specs.Items.{AreItems}
use Rattle.history_model.specs.Trees.{Gives}
use Rattle.history_volumes.specs.Histories.{IsFileOn, IsVersionOn, content_placed}
use Rattle.history_volumes.proofs.Numbers.{second_has, zip_turned}
use Rattle.history_load.specs.Placed.{StandsAs}
use Rattle.history_load.proofs.StandingTrees.{version_stands}

-- ---- the versions of a file of a table

-- those of a volume's file are its records in order of their numbers
pub in_numbers : (g : Geometry) (records : List LogRecord) (units : Units) (v : Volume) → AllByRecursion (HoldsOf g records units v) content_parts → (row : FileEntry × FileContent) → Has v.files row.1
    → all_in (file_of units row) ≡ map (version_of units row.1.stored) (in_order unique_of row.1.stored)
in_numbers g records units v parts row there =
    let standing = each_parted (StoredAt units) (λ (f : FileContent). f.stored) v.files (files_at units v.catalog.entries v.files parts.1.1.0 parts.1.1.1.0) in
    let apart = sep_parted unique_of (λ (f : FileContent). f.stored) v.files (sep_from unique_of (stored_in v) parts.1.1.1.1.1.1.0.differ) in
    let linked = each_has (FileLinked units) v.files (files_linked units v.files standing apart parts.1.1.1.0) row.1 there in
    formed_of_all (versions_stored units row.1.stored) (linked_all (versions_stored units row.1.stored) linked)
    ∙ order_map unique_of number_of (version_of units row.1.stored) row.1.stored (λ s. refl)

module _ (g : Geometry) (records : List LogRecord) (units : Units) (v : Volume) (h : History) (leaf node : ℕ → ℕ) (parts : AllByRecursion (HoldsOf g records units v) content_parts)
    (items : AreItems g h) (lengths : AreAsNamed h 1 h.leaves) (on : StandsAs g units v h leaf node) where
  gives : (w : HistoryVersion) (s : Stored) (content : Content) → Has (all_versions h) w → Has (stored_in v) s → w.content ≡ content → s.body.content ≡ content_placed leaf node content → Gives g h content (content_in units s.body.content)
  gives w s (Small held) there stored content is = ap (content_in units) is
  gives w s (Large root) there stored content is =
      let tree = version_stands g records units v h leaf node parts items lengths on w s root there stored content is in
      (tree.rooted, ap (content_in units) is ∙ tree.bytes)

  version_is : (file : HistoryFile) (row : FileEntry × FileContent) → Has h.files file → Has v.files row.1 → (w : HistoryVersion) (s : Stored) → Has file.versions w → Has (in_order unique_of row.1.stored) s
      → IsVersionOn leaf node row.1.stored w s → IsVersionOf g h w (version_of units row.1.stored s)
  version_is file row here there w s version stored is = record {
    unique = is.unique;
    state = is.state;
    older = is.older;
    bytes = gives w s w.content (has_flat (λ (x : HistoryFile). x.versions) h.files file w here version)
        (has_flat (λ (x : FileContent). x.stored) v.files row.1 s there (order_has_from unique_of row.1.stored s stored)) refl is.content;
  }

  file_is : (file : HistoryFile) (row : FileEntry × FileContent) → Has h.files file → Has (zip v.catalog.entries v.files) row → IsFileOn leaf node file row → IsFileOf g h file (file_of units row)
  file_is file row here there is =
      let content = second_has v.catalog.entries v.files row there in
      record {
        name = is.name;
        versions = subst (AllZip (IsVersionOf g h) file.versions) (sym (in_numbers g records units v parts row content))
            (zip_turned (IsVersionOn leaf node row.1.stored) (IsVersionOf g h) (version_of units row.1.stored) file.versions (in_order unique_of row.1.stored) (version_is file row here content) is.versions);
      }

  pub files_are : AllZip (IsFileOf g h) h.files (table_of units v).files
  files_are = zip_turned (IsFileOn leaf node) (IsFileOf g h) (file_of units) h.files (zip v.catalog.entries v.files) file_is on.files
