-- The trees of a dump, where its pieces and versions stand.
use Rattle.std.proofs.Common.{ℕ, List, Option, Some, None, sym, subst, ◌∙◌, arith}
use Rattle.std.specs.List.{AllByRecursion, AllZip, zip}
use Rattle.ex_base.specs.declared.geometry.Geometry.{Geometry}
use Rattle.ex_base.specs.declared.names.PageNo.{PageNo}
use Rattle.ex_base.specs.declared.names.Root.{Root}
use Rattle.ex_base.specs.Sizes.{leaf_bytes}
use Rattle.object_files.specs.Catalog.{Catalog}
use Rattle.object_records.specs.Record.{Content}
use Rattle.table_model.specs.declared.table.Table.{Table}
use Rattle.table_model.specs.Tables.{all_in}
use Rattle.trees.specs.Shape.{IsBalanced, Subtree}
use Rattle.trees.specs.Trees.{Units}
use Rattle.version_lists.specs.Sorted.{in_order}
use Rattle.version_lists.proofs.Lists.{Has, has_flat_from}
use Rattle.version_lists.proofs.Sorted.{order_has}
use Rattle.volume_model.specs.Parts.{HasPages}
use Rattle.volume_model.specs.Volume.{FileContent, Stored, roots_in, stored_in, root_in, unique_of}
use Rattle.volume_model.proofs.Places.{has_each}
use Rattle.restart.specs.Content.{volume_of}
use Rattle.history_model.specs.Dumps.{IsFileOf, IsHistoryOf, IsVersionOf}
use Rattle.history_model.specs.History.{History}
use Rattle.history_model.specs.Trees.{Gives, IsRooted}
use Rattle.history_volumes.specs.Histories.{IsFileOn, IsVersionOn, page_placed}
use Rattle.history_volumes.specs.Transcribed.{AreTranscribed, place_of}
use Rattle.history_volumes.proofs.Named.{large_content}
use Rattle.history_volumes.proofs.Numbers.{found_zip, has_second, zip_found}
use Rattle.history_volumes.proofs.Transcribing.{tree_named, tree_shape, tree_sized}
use Rattle.history_load.specs.Laws.{IsWholeRoot}
use Rattle.history_load.proofs.StandingPieces.{own_root}

module _ (g : Geometry) (h : History) (t : Table) (units : Units) (leaf node : ℕ → ℕ) (at : AreTranscribed g h units leaf node) (of : IsHistoryOf g h t) where
  whole : (height size : ℕ) (page : Option PageNo) → IsRooted g h height size page → IsWholeRoot g units (record { height = height; page = page_placed (place_of leaf node height) page; size = size })
  whole height size None rooted = record { named = tt; balance = record { sized = rooted; balanced = tt; limit = omega (arith, rooted.0) } }
  whole height size (Some number) rooted = record {
    named = tree_named g h units leaf node at height number.0 size rooted.0;
    balance = record {
      sized = tree_sized g h units leaf node at height number.0 size rooted.0;
      balanced = subst (λ (shape : Subtree height). IsBalanced g.fan (leaf_bytes g) (Some (height, shape))) (tree_shape g h units leaf node at height number.0 size rooted.0) rooted.1;
      limit = rooted.2;
    };
  }

  module _ (c : Catalog) (contents : List FileContent) (pages : AllZip (HasPages units) c.entries contents) (on : AllZip (IsFileOn leaf node) h.files (zip c.entries contents)) where
    root_whole : (root : Root) → Has (roots_in (stored_in (volume_of c contents))) root → IsWholeRoot g units root
    root_whole root there =
        let stored = has_flat_from (λ (x : Stored). root_in x.body.content) (stored_in (volume_of c contents)) root there in
        let file = has_flat_from (λ (x : FileContent). x.stored) contents stored.0 stored.1 in
        let row = has_second (HasPages units) c.entries contents pages file.0 file.1 in
        let own_file = zip_found (IsFileOn leaf node) h.files (zip c.entries contents) on (row.0, file.0) row.1 in
        let own = zip_found (IsVersionOn leaf node file.0.stored) own_file.0.versions (in_order unique_of file.0.stored) own_file.2.versions stored.0 (order_has unique_of file.0.stored stored.0 file.2) in
        let is = own_root leaf node own.0.content root (sym own.2.content ∙ large_content stored.0.body.content root stored.2) in
        let table_file = found_zip (IsFileOf g h) h.files t.files of.files own_file.0 own_file.1 in
        let version = found_zip (IsVersionOf g h) own_file.0.versions (all_in table_file.0) table_file.2.versions own.0 own.1 in
        let gives = subst (λ (content : Content). Gives g h content version.0.bytes) is.large version.2.bytes in
        subst (IsWholeRoot g units) is.placed (whole is.own.height is.own.size is.own.page gives.0)

    pub all_whole : AllByRecursion (IsWholeRoot g units) (roots_in (stored_in (volume_of c contents)))
    all_whole = has_each (IsWholeRoot g units) (roots_in (stored_in (volume_of c contents))) root_whole
