-- Each leaf and node of the history of a volume is one of the tree of a version, and of one object alone.
use Rattle.std.proofs.Common.{suc, zero, ◌≡◌, ◌≤◌, ℕ, List, [], ◌∷◌, length, Option, Some, None, refl, sym, subst, ap, ◌∙◌, arith, inl, inr}
use Rattle.std.specs.Prelude.{Contains}
use Rattle.std.specs.List.{flat_map, AllByRecursion, zip}
use Rattle.std.proofs.lemmas.Bool.{cases_eq}
use Rattle.ex_base.specs.declared.geometry.Geometry.{Geometry}
use Rattle.ex_base.specs.declared.names.PageNo.{PageNo}
use Rattle.ex_base.specs.declared.names.Root.{Root}
use Rattle.object_files.specs.Catalog.{FileEntry}
use Rattle.object_records.specs.Record.{Content, Small, Large}
use Rattle.op_log.specs.declared.record.LogRecord.{LogRecord}
use Rattle.trees.specs.Trees.{Units, root_units}
use Rattle.version_lists.specs.Sorted.{in_order}
use Rattle.version_lists.proofs.Lists.{Has, contains_has, has_contains, has_flat, has_flat_from, has_map}
use Rattle.version_lists.proofs.Sorted.{order_has_from}
use Rattle.volume_model.specs.Links.{stored_units}
use Rattle.volume_model.specs.Parts.{HasPages, HoldsOf, content_parts}
use Rattle.volume_model.specs.Volume.{FileContent, Stored, Volume, root_in, roots_in, stored_in, table_of, unique_of}
use Rattle.volume_model.proofs.Places.{each_has}
use Rattle.history_model.specs.Dumps.{AreOfOne, IsNamed, Has as HasPiece}
use Rattle.trees.specs.declared.Pair.{Pair}
use Rattle.history_model.specs.History.{History, HistoryFile, HistoryVersion, all_versions, leaf_of, pairs_of}
use Rattle.history_model.specs.Trees.{IsRooted, IsUnder, LeafPiece, NodePiece, Piece, pieces_of, pieces_rooted, pieces_under}
use Rattle.history_volumes.specs.Histories.{IsFileOn, IsHistoryOn, IsVersionOn, content_placed, leaf_pages, node_pages, page_placed, root_placed, roots_in_order}
use Rattle.history_volumes.specs.Transcribed.{at_of, piece_place, place_of}
use Rattle.history_volumes.specs.Walks.{leaves_left_at, nodes_left_at, root_leaves, root_nodes}
use Rattle.history_volumes.proofs.Dumped.{IsTreeOf, leaf, node, version_tree}
use Rattle.history_volumes.proofs.Firsts.{firsts_from, firsts_once}
use Rattle.history_volumes.proofs.Numbers.{at_has, at_one, found_zip, has_second, numbered_from, zip_found}
use Rattle.history_volumes.proofs.OneObject.{of_one_object}
use Rattle.history_volumes.proofs.Transcribing.{child_of, leaf_is, leaf_left, node_left, pairs_are, tree_units}

-- ---- roots of records

pub large_content : (content : Content) (root : Root) → Has (root_in content) root → content ≡ Large root
large_content (Small bytes) root h = absurd h
large_content (Large r) root (inl e) = ap Large e
large_content (Large r) root (inr none) = absurd none

one_large : (a b : Root) → Large a ≡ Large b → a ≡ b
one_large a b e = cc

-- the root of a history's version that is placed there
record IsPlacedRoot (leaf node : ℕ → ℕ) (content : Content) (root : Root) : Type 0 where
  own : Root
  large : content ≡ Large own
  placed : root_placed leaf node own ≡ root

placed_root : (leaf node : ℕ → ℕ) (content : Content) (root : Root) → content_placed leaf node content ≡ Large root → IsPlacedRoot leaf node content root
placed_root leaf node (Small bytes) root e = absurd (let d : Small bytes ≡ Large root = e in cc)
placed_root leaf node (Large own) root e = record { own = own; large = refl; placed = one_large (root_placed leaf node own) root e }

module _ (g : Geometry) (records : List LogRecord) (units : Units) (v : Volume) (h : History) (parts : AllByRecursion (HoldsOf g records units v) content_parts) (on : IsHistoryOn g units v h) where
  abbrev at_leaf : ℕ → ℕ
  at_leaf = at_of (leaf_pages units v)

  abbrev at_node : ℕ → ℕ
  at_node = at_of (node_pages units v)

  -- ---- versions and records

  -- the version of a root of the volume
  record RootVersion (root : Root) : Type 0 where
    version : HistoryVersion
    there : Has (all_versions h) version
    own : Root
    large : version.content ≡ Large own
    placed : root_placed at_leaf at_node own ≡ root
    tree : IsTreeOf g records units v h parts on own.height own.size own.page

  root_version : (root : Root) → Has (roots_in_order v) root → RootVersion root
  root_version root m =
      let f = has_flat_from (λ (x : FileContent). roots_in (in_order unique_of x.stored)) v.files root m in
      let s = has_flat_from (λ (x : Stored). root_in x.body.content) (in_order unique_of f.0.stored) root f.2 in
      let row = has_second (HasPages units) v.catalog.entries v.files parts.1.1.0 f.0 f.1 in
      let file = zip_found (IsFileOn at_leaf at_node) h.files (zip v.catalog.entries v.files) on.files (row.0, f.0) row.1 in
      let w = zip_found (IsVersionOn at_leaf at_node f.0.stored) file.0.versions (in_order unique_of f.0.stored) file.2.versions s.0 s.1 in
      let large = large_content s.0.body.content root s.2 in
      let own = placed_root at_leaf at_node w.0.content root (sym w.2.content ∙ large) in
      let there = has_flat (λ (x : HistoryFile). x.versions) h.files file.0 w.0 file.1 w.1 in
      let stored = has_flat (λ (x : FileContent). x.stored) v.files f.0 s.0 f.1 (order_has_from unique_of f.0.stored s.0 s.1) in
      record {
        version = w.0;
        there = there;
        own = own.own;
        large = own.large;
        placed = own.placed;
        tree = version_tree g records units v h parts on w.0 s.0 own.own there stored own.large (large ∙ ap Large (sym own.placed));
      }

  -- the record of a version
  record StoredVersion (w : HistoryVersion) : Type 0 where
    file : FileContent
    among : Has v.files file
    stored : Stored
    there : Has file.stored stored
    is : IsVersionOn at_leaf at_node file.stored w stored

  stored_version : (w : HistoryVersion) → Has (all_versions h) w → StoredVersion w
  stored_version w m =
      let f = has_flat_from (λ (x : HistoryFile). x.versions) h.files w m in
      let row = found_zip (IsFileOn at_leaf at_node) h.files (zip v.catalog.entries v.files) on.files f.0 f.1 in
      let s = found_zip (IsVersionOn at_leaf at_node row.0.1.stored) f.0.versions (in_order unique_of row.0.1.stored) row.2.versions w f.2 in
      record {
        file = row.0.1;
        among = in_files v.catalog.entries v.files row.0 row.1;
        stored = s.0;
        there = order_has_from unique_of row.0.1.stored s.0 s.1;
        is = s.2;
      }
    where
      in_files : (entries : List FileEntry) (files : List FileContent) (row : FileEntry × FileContent) → Has (zip entries files) row → Has files row.1
      in_files [] files row m = absurd m
      in_files (e ∷ entries) [] row m = absurd m
      in_files (e ∷ entries) (f ∷ files) row (inl is) = inl (ap (λ (r : FileEntry × FileContent). r.1) is)
      in_files (e ∷ entries) (f ∷ files) row (inr m) = inr (in_files entries files row m)

  -- ---- each leaf and node is named

  leaf_in : (height size : ℕ) (page : Option PageNo) (unit : ℕ) → IsRooted g h height size page → Has (leaves_left_at units height (page_placed (place_of at_leaf at_node height) page)) unit → (k : ℕ) × Has (pieces_rooted h height page) (LeafPiece k) × (at_leaf k ≡ unit)
  leaf_in height size None unit rooted m = absurd m
  leaf_in height size (Some number) unit rooted m = leaf_left g h units at_leaf at_node on.transcribed height number.0 size unit rooted.0 m

  node_in : (height size : ℕ) (page : Option PageNo) (unit : ℕ) → IsRooted g h height size page → Has (nodes_left_at units height (page_placed (place_of at_leaf at_node height) page)) unit → (k : ℕ) × Has (pieces_rooted h height page) (NodePiece k) × (at_node k ≡ unit)
  node_in height size None unit rooted m = absurd m
  node_in height size (Some number) unit rooted m = node_left g h units at_leaf at_node on.transcribed height number.0 size unit rooted.0 m

  leaf_some : (number : ℕ) → 1 ≤ number → number ≤ length h.leaves → 1 ≤ at_leaf number
  leaf_some number some le =
      let is = numbered_from h.leaves number some le in
      let area = (on.transcribed.leaves number is.0 is.1).area in
      omega (arith, area.2)

  node_some : (number : ℕ) → 1 ≤ number → number ≤ length h.nodes → 1 ≤ at_node number
  node_some number some le =
      let is = numbered_from h.nodes number some le in
      let area = (on.transcribed.nodes number is.0 is.1).area in
      omega (arith, area.0)

  pub leaf_named : (number : ℕ) → 1 ≤ number → number ≤ length h.leaves → IsNamed h (LeafPiece number)
  leaf_named number some le =
      let left = firsts_from (flat_map (root_leaves units) (roots_in_order v)) (at_leaf number) (at_has (leaf_pages units v) number some (omega (arith, on.leaves, le))) in
      let root = has_flat_from (root_leaves units) (roots_in_order v) (at_leaf number) left in
      let w = root_version root.0 root.1 in
      let piece = leaf_in w.own.height w.own.size w.own.page (at_leaf number) w.tree.rooted (subst (λ (r : Root). Has (root_leaves units r) (at_leaf number)) (sym w.placed) root.2) in
      let place = leaf_some number some le in
      let same = at_one (leaf_pages units v) (firsts_once (flat_map (root_leaves units) (roots_in_order v))) piece.0 number (omega (arith, piece.2, place)) place piece.2 in
      let there = subst (λ (k : ℕ). Has (pieces_of h w.version.content) (LeafPiece k)) same (subst (λ (c : Content). Has (pieces_of h c) (LeafPiece piece.0)) (sym w.large) piece.1) in
      (w.version, has_contains (all_versions h) w.version w.there, has_contains (pieces_of h w.version.content) (LeafPiece number) there)

  pub node_named : (number : ℕ) → 1 ≤ number → number ≤ length h.nodes → IsNamed h (NodePiece number)
  node_named number some le =
      let left = firsts_from (flat_map (root_nodes units) (roots_in_order v)) (at_node number) (at_has (node_pages units v) number some (omega (arith, on.nodes, le))) in
      let root = has_flat_from (root_nodes units) (roots_in_order v) (at_node number) left in
      let w = root_version root.0 root.1 in
      let piece = node_in w.own.height w.own.size w.own.page (at_node number) w.tree.rooted (subst (λ (r : Root). Has (root_nodes units r) (at_node number)) (sym w.placed) root.2) in
      let place = node_some number some le in
      let same = at_one (node_pages units v) (firsts_once (flat_map (root_nodes units) (roots_in_order v))) piece.0 number (omega (arith, piece.2, place)) place piece.2 in
      let there = subst (λ (k : ℕ). Has (pieces_of h w.version.content) (NodePiece k)) same (subst (λ (c : Content). Has (pieces_of h c) (NodePiece piece.0)) (sym w.large) piece.1) in
      (w.version, has_contains (all_versions h) w.version w.there, has_contains (pieces_of h w.version.content) (NodePiece number) there)

  -- ---- of one object alone

  unit_in : (height size : ℕ) (page : Option PageNo) (piece : Piece) → IsRooted g h height size page → Has (pieces_rooted h height page) piece
      → Has (root_units units (root_placed at_leaf at_node (record { height = height; page = page; size = size }))) (piece_place at_leaf at_node piece)
  unit_in height size None piece rooted m = absurd m
  unit_in height size (Some number) piece rooted m =
      subst (λ (us : List ℕ). Has us (piece_place at_leaf at_node piece)) (sym (tree_units g h units at_leaf at_node on.transcribed height number.0 size rooted.0))
      (has_map (piece_place at_leaf at_node) (pieces_rooted h height (Some number)) piece m)

  -- the unit of a version's piece is one of its record
  piece_there : (w : HistoryVersion) (s : Stored) (piece : Piece) → Has (all_versions h) w → Has (stored_in v) s → s.body.content ≡ content_placed at_leaf at_node w.content → Has (pieces_of h w.content) piece → Has (stored_units units s) (piece_place at_leaf at_node piece)
  piece_there w s piece there stored is m = by w.content refl
    where
      by : (content : Content) → w.content ≡ content → Has (stored_units units s) (piece_place at_leaf at_node piece)
      by (Small held) small = absurd (subst (λ (c : Content). Has (pieces_of h c) piece) small m)
      by (Large root) large =
          let placed = is ∙ ap (content_placed at_leaf at_node) large in
          let tree = version_tree g records units v h parts on w s root there stored large placed in
          let unit = unit_in root.height root.size root.page piece tree.rooted (subst (λ (c : Content). Has (pieces_of h c) piece) large m) in
          has_flat (root_units units) (root_in s.body.content) (root_placed at_leaf at_node root) (piece_place at_leaf at_node piece)
          (subst (λ (rs : List Root). Has rs (root_placed at_leaf at_node root)) (sym (ap root_in placed)) (inl refl)) unit

  pub apart : (a b : HistoryVersion) (piece : Piece) → Contains (all_versions h) a → Contains (all_versions h) b → HasPiece h a piece → HasPiece h b piece → AreOfOne (table_of units v) a.unique b.unique
  apart a b piece one other in_a in_b =
      let objects = parts.1.1.1.1.0.objects in
      let there = contains_has (all_versions h) a one in
      let also = contains_has (all_versions h) b other in
      let s = stored_version a there in
      let t = stored_version b also in
      let at_s = has_flat (λ (x : FileContent). x.stored) v.files s.file s.stored s.among s.there in
      let at_t = has_flat (λ (x : FileContent). x.stored) v.files t.file t.stored t.among t.there in
      let unit_s = piece_there a s.stored piece there at_s s.is.content (contains_has (pieces_of h a.content) piece in_a) in
      let unit_t = piece_there b t.stored piece also at_t t.is.content (contains_has (pieces_of h b.content) piece in_b) in
      elim (cases_eq (objects.object s.stored.place) (objects.object t.stored.place)) [
        | inl same ↦
            let found = of_one_object g records units v parts s.file t.file s.stored t.stored s.among t.among s.there t.there same in
            subst (λ (k : ℕ). AreOfOne (table_of units v) k b.unique) (sym s.is.unique) (subst (λ (k : ℕ). AreOfOne (table_of units v) (unique_of s.stored) k) (sym t.is.unique) found)
        | inr differ ↦
            let none = each_has (λ (x : ℕ). ¬ Contains (stored_units units t.stored) x) (stored_units units s.stored)
            (objects.apart s.stored t.stored (has_contains (stored_in v) s.stored at_s) (has_contains (stored_in v) t.stored at_t) differ) (piece_place at_leaf at_node piece) unit_s in
            absurd (none (has_contains (stored_units units t.stored) (piece_place at_leaf at_node piece) unit_t))
      ]

  -- ---- each leaf has a byte

  filled : (l number n k : ℕ) → IsUnder h l number n → Has (pieces_under h l number) (LeafPiece k) → 1 ≤ length (leaf_of h k)
  filled zero number n k is (inl e) =
      let same : number ≡ k = cc in
      let long = subst (λ (bytes : List ℕ). n ≤ length bytes) (sym (leaf_is g h units at_leaf at_node on.transcribed number is.0 is.1)) is.3 in
      subst (λ (j : ℕ). 1 ≤ length (leaf_of h j)) same (omega (arith, long, is.2))
  filled zero number n k is (inr none) = absurd none
  filled (suc l) number n k is (inl e) = absurd (let d : NodePiece number ≡ LeafPiece k = e in cc)
  filled (suc l) number n k is (inr m) =
      let from = has_flat_from (λ (pair : Pair). pieces_under h l pair.page.0) (pairs_of h number) (LeafPiece k) m in
      let child = child_of (IsUnder h l) 0 is.0.pairs is.4 from.0 (subst (λ (ps : List Pair). Has ps from.0) (pairs_are g h units at_leaf at_node on.transcribed number is.0 is.1) from.1) in
      filled l from.0.page.0 child.0 k child.1 from.2

  root_filled : (height size : ℕ) (page : Option PageNo) (k : ℕ) → IsRooted g h height size page → Has (pieces_rooted h height page) (LeafPiece k) → 1 ≤ length (leaf_of h k)
  root_filled height size None k rooted m = absurd m
  root_filled height size (Some number) k rooted m = filled height number.0 size k rooted.0 m

  content_filled : (w : HistoryVersion) (s : Stored) (k : ℕ) → Has (all_versions h) w → Has (stored_in v) s → s.body.content ≡ content_placed at_leaf at_node w.content → Has (pieces_of h w.content) (LeafPiece k) → 1 ≤ length (leaf_of h k)
  content_filled w s k there stored is m = by w.content refl
    where
      by : (content : Content) → w.content ≡ content → 1 ≤ length (leaf_of h k)
      by (Small held) small = absurd (subst (λ (c : Content). Has (pieces_of h c) (LeafPiece k)) small m)
      by (Large root) large =
          let tree = version_tree g records units v h parts on w s root there stored large (is ∙ ap (content_placed at_leaf at_node) large) in
          root_filled root.height root.size root.page k tree.rooted (subst (λ (c : Content). Has (pieces_of h c) (LeafPiece k)) large m)

  pub leaf_filled : (number : ℕ) → 1 ≤ number → number ≤ length h.leaves → 1 ≤ length (leaf_of h number)
  leaf_filled number some le =
      let named = leaf_named number some le in
      let there = contains_has (all_versions h) named.0 named.1 in
      let s = stored_version named.0 there in
      content_filled named.0 s.stored number there (has_flat (λ (x : FileContent). x.stored) v.files s.file s.stored s.among s.there) s.is.content
      (contains_has (pieces_of h named.0.content) (LeafPiece number) named.2)
