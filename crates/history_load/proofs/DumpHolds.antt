-- Where a dump was written, all parts behind the catalog hold, and each piece is in a tree.
use Rattle.std.proofs.Common.{◌≡◌, ◌≤◌, ◌<◌, inl, ℕ, List, refl, sym, subst, ap, ◌∙◌}
use Rattle.std.specs.Prelude.{Contains}
use Rattle.std.specs.List.{AllByRecursion, zip}
use Rattle.ex_base.specs.declared.geometry.Geometry.{Geometry}
use Rattle.ex_base.specs.declared.names.Root.{Root}
use Rattle.ex_base.proofs.Each.{each_as}
use Rattle.object_files.specs.Catalog.{Catalog}
use Rattle.object_records.specs.Record.{Content, Large, Small}
use Rattle.table_model.specs.declared.table.Table.{Table}
use Rattle.table_model.specs.Tables.{all_in, versions_of}
use Rattle.trees.specs.Trees.{Units, RootNamed, root_units}
use Rattle.version_lists.specs.declared.version.Version.{Version}
use Rattle.version_lists.specs.Sorted.{in_order}
use Rattle.version_lists.specs.Versions.{unique_of as number_of}
use Rattle.version_lists.proofs.Lists.{Has, all_has, contains_has, has_contains, has_flat, has_flat_from, has_map}
use Rattle.version_lists.proofs.Sorted.{order_has_from}
use Rattle.volume_model.specs.Parts.{HasBalance, HasNodes, HasUniques}
use Rattle.volume_model.specs.Volume.{FileContent, Stored, Volume, root_in, roots_in, stored_in, unique_of}
use Rattle.volume_model.proofs.Places.{has_each}
use Rattle.restart.specs.Content.{volume_of}
use Rattle.history_model.specs.Dumps.{IsFileOf, IsHistoryOf, IsNamed, IsVersionOf}
use Rattle.history_model.specs.History.{History, HistoryFile, HistoryVersion, all_versions}
use Rattle.history_model.specs.Trees.{Gives, LeafPiece, NodePiece, Piece, pieces_of, pieces_rooted}
use Rattle.history_volumes.specs.Histories.{IsFileOn, IsVersionOn, content_placed, root_placed}
use Rattle.history_volumes.specs.Transcribed.{piece_place}
use Rattle.history_volumes.proofs.Numbers.{found_zip, numbered_within, second_has}
use Rattle.history_load.specs.Laws.{IsWholeRoot}
use Rattle.history_load.specs.Pieces.{IsPieceOf}
use Rattle.history_load.specs.Placed.{tree_units}
use Rattle.history_load.specs.Written.{AreWellPlaced, HoldsPieces, IsWrittenAt}
use Rattle.history_load.proofs.DumpObjects.{among, bodies, has_objects, no_file_page, number_same, numbers, object_is}
use Rattle.history_load.proofs.DumpTrees.{all_whole}
use Rattle.history_load.proofs.DumpVersions.{in_table}
use Rattle.history_load.proofs.TreePieces.{units_of_pieces}

module _ (g : Geometry) (h : History) (t : Table) (units : Units) (c : Catalog) (leaf node : ℕ → ℕ) (of : IsHistoryOf g h t) (w : IsWrittenAt g units h c.entries leaf node) (well : AreWellPlaced h w.contents leaf node) where
  abbrev v : Volume
  v = volume_of c w.contents

  -- ---- numbers

  number_fits : (s : Stored) → Has (stored_in v) s → (1 ≤ unique_of s) × (unique_of s < t.next_unique)
  number_fits s there =
      let a = among g h t units c leaf node of w well s there in
      let object = object_is g h t units c leaf node of w well s a in
      let fits = all_has (λ (x : Version). (1 ≤ number_of x) × (number_of x < t.next_unique)) (versions_of t) of.rules.numbers a.is.version
      (in_table g h t leaf node of object.object a.is.version object.among object.there) in
      subst (λ (n : ℕ). (1 ≤ n) × (n < t.next_unique)) (sym (number_same g h t units c leaf node of w well s a)) fits

  -- ---- each piece is a unit of a tree

  named : (piece : Piece) → IsPieceOf h piece → IsNamed h piece
  named (LeafPiece number) is = let within = numbered_within h.leaves number is.0 is.1 in of.leaves_named number within.0 within.1
  named (NodePiece number) is = let within = numbered_within h.nodes number is.0 is.1 in of.nodes_named number within.0 within.1

  -- the piece of a version is a unit of its record's tree
  in_tree : (own : HistoryVersion) (s : Stored) (bytes : List ℕ) (piece : Piece) → Has (stored_in v) s → s.body.content ≡ content_placed leaf node own.content → Gives g h own.content bytes → Has (pieces_of h own.content) piece
      → Has (tree_units units v) (piece_place leaf node piece)
  in_tree own s bytes piece there is gives has = by own.content refl
    where
      by : (content : Content) → own.content ≡ content → Has (tree_units units v) (piece_place leaf node piece)
      by (Small held) small = absurd (subst (λ (x : Content). Has (pieces_of h x) piece) small has)
      by (Large root) large =
          let placed = is ∙ ap (content_placed leaf node) large in
          let rooted = subst (λ (x : Content). Gives g h x bytes) large gives in
          let unit = subst (λ (us : List ℕ). Has us (piece_place leaf node piece)) (sym (units_of_pieces g h units leaf node w.transcribed root.height root.size root.page rooted.0))
          (has_map (piece_place leaf node) (pieces_rooted h root.height root.page) piece (subst (λ (x : Content). Has (pieces_of h x) piece) large has)) in
          let in_roots = has_flat (λ (x : Stored). root_in x.body.content) (stored_in v) s (root_placed leaf node root) there
          (subst (λ (rs : List Root). Has rs (root_placed leaf node root)) (sym (ap root_in placed)) (inl refl)) in
          has_flat (root_units units) (roots_in (stored_in v)) (root_placed leaf node root) (piece_place leaf node piece) in_roots unit

  reached : (piece : Piece) → IsPieceOf h piece → Contains (tree_units units v) (piece_place leaf node piece)
  reached piece is =
      let of_version = named piece is in
      let file = has_flat_from (λ (x : HistoryFile). x.versions) h.files of_version.0 (contains_has (all_versions h) of_version.0 of_version.1) in
      let row = found_zip (IsFileOn leaf node) h.files (zip c.entries w.contents) w.on file.0 file.1 in
      let stored = found_zip (IsVersionOn leaf node row.0.1.stored) file.0.versions (in_order unique_of row.0.1.stored) row.2.versions of_version.0 file.2 in
      let table_file = found_zip (IsFileOf g h) h.files t.files of.files file.0 file.1 in
      let version = found_zip (IsVersionOf g h) file.0.versions (all_in table_file.0) table_file.2.versions of_version.0 file.2 in
      let there = has_flat (λ (x : FileContent). x.stored) w.contents row.0.1 stored.0 (second_has c.entries w.contents row.0 row.1) (order_has_from unique_of row.0.1.stored stored.0 stored.1) in
      has_contains (tree_units units v) (piece_place leaf node piece)
      (in_tree of_version.0 stored.0 version.0.bytes piece there stored.2.content version.2.bytes (contains_has (pieces_of h of_version.0.content) piece of_version.2))

  -- ---- all parts

  trees : AllByRecursion (IsWholeRoot g units) (roots_in (stored_in v))
  trees = all_whole g h t units leaf node w.transcribed of c w.contents w.pages w.on

  nodes : HasNodes g units v
  nodes = record {
    named = each_as (IsWholeRoot g units) (λ (root : Root). RootNamed g units root.height root.page) (roots_in (stored_in v)) (λ root whole. whole.named) trees;
    no_file_page = no_file_page g h t units c leaf node of w well;
    objects = has_objects g h t units c leaf node of w well;
  }

  balanced : AllByRecursion (HasBalance g units) (roots_in (stored_in v))
  balanced = each_as (IsWholeRoot g units) (HasBalance g units) (roots_in (stored_in v)) (λ root whole. whole.balance) trees

  uniques : h.next_unique ≡ c.next_unique → HasUniques v
  uniques next = record {
    differ = numbers g h t units c leaf node of w well;
    some = has_each (λ (s : Stored). 1 ≤ unique_of s) (stored_in v) (λ s there. (number_fits s there).0);
    below = has_each (λ (s : Stored). unique_of s < c.next_unique) (stored_in v) (λ s there. subst (λ (n : ℕ). unique_of s < n) (sym of.next_unique ∙ next) (number_fits s there).1);
  }

  pub holds : h.next_unique ≡ c.next_unique → HoldsPieces g units c h leaf node
  holds next = record {
    files = w.contents;
    holds = ((w.indexes, well.differ), (w.pages, (bodies g h t units c leaf node of w well, (nodes, (balanced, (uniques next, tt))))));
    reached = reached;
  }
