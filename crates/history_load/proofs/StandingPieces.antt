-- Each leaf and node of a history that stands as a volume is named, and by versions of one object alone.
use Rattle.std.proofs.Common.{◌≡◌, inl, inr, ℕ, List, refl, sym, subst, ap, ◌∙◌}
use Rattle.std.specs.Prelude.{Contains}
use Rattle.std.specs.List.{flat_map, AllByRecursion, zip}
use Rattle.std.proofs.lemmas.Bool.{cases_eq}
use Rattle.ex_base.specs.declared.geometry.Geometry.{Geometry}
use Rattle.ex_base.specs.declared.names.Root.{Root}
use Rattle.object_records.specs.Record.{Content, Small, Large}
use Rattle.op_log.specs.declared.record.LogRecord.{LogRecord}
use Rattle.table_model.specs.Tables.{IsTable}
use Rattle.trees.specs.Trees.{Units, root_units}
use Rattle.version_lists.specs.Sorted.{in_order}
use Rattle.version_lists.proofs.Lists.{Has, contains_has, has_contains, has_flat, has_flat_from, has_map, has_map_from}
use Rattle.version_lists.proofs.Sorted.{order_has, order_has_from}
use Rattle.volume_model.specs.Links.{stored_units}
use Rattle.volume_model.specs.Parts.{HasPages, HoldsOf, content_parts}
use Rattle.volume_model.specs.Volume.{FileContent, Stored, Volume, root_in, roots_in, stored_in, table_of, unique_of}
use Rattle.volume_model.proofs.Places.{each_has}
use Rattle.history_model.specs.Dumps.{AreAsNamed, AreOfOne, IsHistoryOf, IsNamed, Has as HasPiece}
use Rattle.history_model.specs.FilePages.{pages_needed}
use Rattle.history_model.specs.History.{History, HistoryFile, HistoryVersion, all_versions}
use Rattle.history_model.specs.Items.{AreItems}
use Rattle.history_model.specs.Trees.{LeafPiece, NodePiece, Piece, pieces_of, pieces_rooted}
use Rattle.history_volumes.specs.Histories.{IsFileOn, IsVersionOn, content_placed, root_placed}
use Rattle.history_volumes.specs.Transcribed.{piece_place}
use Rattle.history_volumes.proofs.Named.{large_content}
use Rattle.history_volumes.proofs.Numbers.{found_zip, has_second, numbered_from, second_has, zip_found}
use Rattle.history_volumes.proofs.OneObject.{of_one_object}
use Rattle.history_load.specs.Pieces.{IsPieceOf}
use Rattle.history_load.specs.Placed.{StandsAs, tree_units}
use Rattle.history_load.proofs.StandingFiles.{files_are}
use Rattle.history_load.proofs.StandingTrees.{RootStands, version_stands}
use Rattle.history_load.proofs.TreePieces.{of_root}

-- a root on the volume is that of a version, with its own page's number
pub record IsOwnRoot (leaf node : ℕ → ℕ) (content : Content) (root : Root) : Type 0 where
  pub own : Root
  pub large : content ≡ Large own
  pub placed : root_placed leaf node own ≡ root

pub own_root : (leaf node : ℕ → ℕ) (content : Content) (root : Root) → content_placed leaf node content ≡ Large root → IsOwnRoot leaf node content root
own_root leaf node (Small bytes) root e = absurd (let d : Small bytes ≡ Large root = e in cc)
own_root leaf node (Large own) root e = record { own = own; large = refl; placed = (let d : Large (root_placed leaf node own) ≡ Large root = e in cc) }

module _ (g : Geometry) (records : List LogRecord) (units : Units) (v : Volume) (h : History) (leaf node : ℕ → ℕ) (parts : AllByRecursion (HoldsOf g records units v) content_parts)
    (items : AreItems g h) (lengths : AreAsNamed h 1 h.leaves) (on : StandsAs g units v h leaf node) where
  abbrev Stands : Root → Type 0
  Stands root = RootStands g records units v h leaf node parts items lengths on root

  -- ---- versions and records

  -- the version of a root on the volume
  record OfVersion (root : Root) : Type 0 where
    version : HistoryVersion
    there : Has (all_versions h) version
    own : Root
    large : version.content ≡ Large own
    placed : root_placed leaf node own ≡ root
    tree : Stands own

  of_version : (root : Root) → Has (roots_in (stored_in v)) root → OfVersion root
  of_version root there =
      let stored = has_flat_from (λ (x : Stored). root_in x.body.content) (stored_in v) root there in
      let file = has_flat_from (λ (x : FileContent). x.stored) v.files stored.0 stored.1 in
      let row = has_second (HasPages units) v.catalog.entries v.files parts.1.1.0 file.0 file.1 in
      let own_file = zip_found (IsFileOn leaf node) h.files (zip v.catalog.entries v.files) on.files (row.0, file.0) row.1 in
      let own = zip_found (IsVersionOn leaf node file.0.stored) own_file.0.versions (in_order unique_of file.0.stored) own_file.2.versions stored.0 (order_has unique_of file.0.stored stored.0 file.2) in
      let large = large_content stored.0.body.content root stored.2 in
      let is = own_root leaf node own.0.content root (sym own.2.content ∙ large) in
      let among = has_flat (λ (x : HistoryFile). x.versions) h.files own_file.0 own.0 own_file.1 own.1 in
      record {
        version = own.0;
        there = among;
        own = is.own;
        large = is.large;
        placed = is.placed;
        tree = version_stands g records units v h leaf node parts items lengths on own.0 stored.0 is.own among stored.1 is.large (large ∙ ap Large (sym is.placed));
      }

  -- A unit of a tree is that of a piece.
  pub piece_there : (unit : ℕ) → Has (tree_units units v) unit → (piece : Piece) × IsPieceOf h piece × (piece_place leaf node piece ≡ unit)
  piece_there unit there =
      let found = has_flat_from (root_units units) (roots_in (stored_in v)) unit there in
      let w = of_version found.0 found.1 in
      let own = subst (λ (us : List ℕ). Has us unit) w.tree.units_are (subst (λ (r : Root). Has (root_units units r) unit) (sym w.placed) found.2) in
      let from = has_map_from (piece_place leaf node) (pieces_rooted h w.own.height w.own.page) unit own in
      (from.0, of_root g h units leaf node on.transcribed w.own.height w.own.size w.own.page from.0 w.tree.rooted from.1, from.2)

  -- the record of a version
  record OfRecord (w : HistoryVersion) : Type 0 where
    file : FileContent
    among : Has v.files file
    stored : Stored
    there : Has file.stored stored
    is : IsVersionOn leaf node file.stored w stored

  of_record : (w : HistoryVersion) → Has (all_versions h) w → OfRecord w
  of_record w there =
      let file = has_flat_from (λ (x : HistoryFile). x.versions) h.files w there in
      let row = found_zip (IsFileOn leaf node) h.files (zip v.catalog.entries v.files) on.files file.0 file.1 in
      let stored = found_zip (IsVersionOn leaf node row.0.1.stored) file.0.versions (in_order unique_of row.0.1.stored) row.2.versions w file.2 in
      record {
        file = row.0.1;
        among = second_has v.catalog.entries v.files row.0 row.1;
        stored = stored.0;
        there = order_has_from unique_of row.0.1.stored stored.0 stored.1;
        is = stored.2;
      }

  -- ---- each is named

  named : (piece : Piece) → IsPieceOf h piece → IsNamed h piece
  named piece is =
      let found = has_flat_from (root_units units) (roots_in (stored_in v)) (piece_place leaf node piece) (contains_has (flat_map (root_units units) (roots_in (stored_in v))) (piece_place leaf node piece) (on.reached piece is)) in
      let w = of_version found.0 found.1 in
      let unit = subst (λ (us : List ℕ). Has us (piece_place leaf node piece)) w.tree.units_are (subst (λ (r : Root). Has (root_units units r) (piece_place leaf node piece)) (sym w.placed) found.2) in
      let from = has_map_from (piece_place leaf node) (pieces_rooted h w.own.height w.own.page) (piece_place leaf node piece) unit in
      let same = on.apart from.0 piece (of_root g h units leaf node on.transcribed w.own.height w.own.size w.own.page from.0 w.tree.rooted from.1) is from.2 in
      let there = subst (λ (c : Content). Has (pieces_of h c) piece) (sym w.large) (subst (Has (pieces_rooted h w.own.height w.own.page)) same from.1) in
      (w.version, has_contains (all_versions h) w.version w.there, has_contains (pieces_of h w.version.content) piece there)

  -- ---- by versions of one object

  -- the unit of a version's piece is one of its record
  unit_there : (w : HistoryVersion) (s : Stored) (piece : Piece) → Has (all_versions h) w → Has (stored_in v) s → s.body.content ≡ content_placed leaf node w.content → Has (pieces_of h w.content) piece
      → Has (stored_units units s) (piece_place leaf node piece)
  unit_there w s piece there stored is piece_in = by w.content refl
    where
      by : (content : Content) → w.content ≡ content → Has (stored_units units s) (piece_place leaf node piece)
      by (Small held) small = absurd (subst (λ (c : Content). Has (pieces_of h c) piece) small piece_in)
      by (Large root) large =
          let placed = is ∙ ap (content_placed leaf node) large in
          let tree = version_stands g records units v h leaf node parts items lengths on w s root there stored large placed in
          let unit = subst (λ (us : List ℕ). Has us (piece_place leaf node piece)) (sym tree.units_are)
          (has_map (piece_place leaf node) (pieces_rooted h root.height root.page) piece (subst (λ (c : Content). Has (pieces_of h c) piece) large piece_in)) in
          has_flat (root_units units) (root_in s.body.content) (root_placed leaf node root) (piece_place leaf node piece)
          (subst (λ (rs : List Root). Has rs (root_placed leaf node root)) (sym (ap root_in placed)) (inl refl)) unit

  apart : (a b : HistoryVersion) (piece : Piece) → Contains (all_versions h) a → Contains (all_versions h) b → HasPiece h a piece → HasPiece h b piece → AreOfOne (table_of units v) a.unique b.unique
  apart a b piece one other in_a in_b =
      let s = of_record a (contains_has (all_versions h) a one) in
      let t = of_record b (contains_has (all_versions h) b other) in
      let at_s = has_flat (λ (x : FileContent). x.stored) v.files s.file s.stored s.among s.there in
      let at_t = has_flat (λ (x : FileContent). x.stored) v.files t.file t.stored t.among t.there in
      let unit_s = unit_there a s.stored piece (contains_has (all_versions h) a one) at_s s.is.content (contains_has (pieces_of h a.content) piece in_a) in
      let unit_t = unit_there b t.stored piece (contains_has (all_versions h) b other) at_t t.is.content (contains_has (pieces_of h b.content) piece in_b) in
      let objects = parts.1.1.1.1.0.objects in
      elim (cases_eq (objects.object s.stored.place) (objects.object t.stored.place)) [
        | inl same ↦
            subst (λ (k : ℕ). AreOfOne (table_of units v) k b.unique) (sym s.is.unique) (subst (λ (k : ℕ). AreOfOne (table_of units v) (unique_of s.stored) k) (sym t.is.unique)
            (of_one_object g records units v parts s.file t.file s.stored t.stored s.among t.among s.there t.there same))
        | inr differ ↦
            let none = each_has (λ (x : ℕ). ¬ Contains (stored_units units t.stored) x) (stored_units units s.stored)
            (objects.apart s.stored t.stored (has_contains (stored_in v) s.stored at_s) (has_contains (stored_in v) t.stored at_t) differ) (piece_place leaf node piece) unit_s in
            absurd (none (has_contains (stored_units units t.stored) (piece_place leaf node piece) unit_t))
      ]

  -- ---- the table's history

  pub of_table : IsTable g (table_of units v) → h.pages ≡ pages_needed g.page_size h → IsHistoryOf g h (table_of units v)
  of_table rules pages = record {
    items = items;
    rules = rules;
    next_unique = on.next_unique;
    last = on.last;
    files = files_are g records units v h leaf node parts items lengths on;
    leaves_named = λ number some le. named (LeafPiece number) (numbered_from h.leaves number some le);
    nodes_named = λ number some le. named (NodePiece number) (numbered_from h.nodes number some le);
    lengths = lengths;
    apart = apart;
    pages = pages;
  }
