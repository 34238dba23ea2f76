-- What was written is a volume once its catalog is there, and the stream is a dump of its table.
use Rattle.std.proofs.Common.{◌≡◌, ◌≢◌, ◌≤◌, ◌<◌, ◌+◌, ◌*◌, suc, suc-mul, ℕ, Bool, cond, List, [], ◌∷◌, length, take, Some, refl, sym, ap, subst, ◌∙◌, arith}
use Rattle.std.specs.Prelude.{Contains}
use Rattle.std.specs.List.{AllByRecursion, AllZip, zip}
use Rattle.std.proofs.lemmas.Bool.{eq-eqb, ne_eqb}
use Rattle.std.proofs.Math.Nat.{mul-le-mul_right, add-mul}
use Rattle.ex_base.specs.declared.geometry.Geometry.{Geometry}
use Rattle.ex_base.specs.declared.names.Root.{Root}
use Rattle.ex_base.specs.Area.{area_end, catalog_no, page_at}
use Rattle.ex_base.specs.Bytes.{length-part}
use Rattle.ex_base.specs.Sizes.{leaf_bytes, volume_bytes}
use Rattle.ex_base.proofs.Each.{each_as}
use Rattle.object_files.specs.Catalog.{Catalog, CatalogOf}
use Rattle.table_model.specs.Tables.{IsTable}
use Rattle.trees.specs.Node.{Node, PairsOf}
use Rattle.trees.specs.Trees.{Units, root_units}
use Rattle.trees.proofs.TreeLaws.{AreWhole}
use Rattle.version_lists.proofs.Lists.{contains_has, has_flat_from}
use Rattle.volume_model.specs.Homes.{home}
use Rattle.volume_model.specs.Links.{Apart}
use Rattle.volume_model.specs.Parts.{HasBodies, HoldsOf, content_parts}
use Rattle.volume_model.specs.Volume.{FileContent, Volume, file_pages, roots_in, stored_in, table_of}
use Rattle.volume_model.proofs.Places.{each_has}
use Rattle.volume_model.proofs.RulesOfTable.{table_rules}
use Rattle.commits.proofs.Places.{unit_leaf}
use Rattle.restart.specs.Content.{volume_of}
use Rattle.history_load.specs.Loads.{LoadsAs, units_loaded}
use Rattle.history_model.specs.Dumps.{AreAsNamed}
use Rattle.history_model.specs.FilePages.{pages_needed}
use Rattle.history_model.specs.History.{History, numbered}
use Rattle.history_model.specs.Items.{AreItems}
use Rattle.history_model.specs.Stream.{stream_of}
use Rattle.history_model.specs.Trees.{LeafPiece, NodePiece, Piece}
use Rattle.history_volumes.specs.Histories.{IsFileOn}
use Rattle.history_volumes.specs.Transcribed.{IsLeafAt, IsNodeAt, paired, piece_place}
use Rattle.history_load.specs.Laws.{LieLowest}
use Rattle.history_load.specs.Pieces.{IsPieceOf}
use Rattle.history_load.specs.Placed.{StandsAs, tree_units}
use Rattle.history_load.specs.Written.{HoldsPieces, IsWrittenAt}
use Rattle.history_load.proofs.OneContent.{HasRecords, one_content}
use Rattle.history_load.proofs.OtherUnits.{apart_from_catalog, same_trees, still_hold}
use Rattle.history_load.proofs.SegmentsInUse.{reaches_leaves}
use Rattle.history_load.proofs.StandingPieces.{of_table}

-- a leaf lies on the disk
leaf_inside : (g : Geometry) (image : List ℕ) (page j : ℕ) → volume_bytes g ≤ length image → j < g.segs → page ≡ area_end g + j * g.seg_len → page * g.page_size + leaf_bytes g ≤ length image
leaf_inside g image page j large lt is =
    let last : page + g.seg_len ≤ 257 + g.pages + g.segs * g.seg_len = omega (arith, is, suc-mul j g.seg_len, mul-le-mul_right {m = suc j} {n = g.segs} g.seg_len lt) in
    omega (arith, large, add-mul page g.seg_len g.page_size, mul-le-mul_right {m = page + g.seg_len} {n = 257 + g.pages + g.segs * g.seg_len} g.page_size last)

module _ (g : Geometry) (image page : List ℕ) (c : Catalog) (h : History) (leaf node : ℕ → ℕ) (large : volume_bytes g ≤ length image) (catalog : CatalogOf page c) (size : length page ≡ g.page_size)
    (next_unique : h.next_unique ≡ c.next_unique) (last : h.last ≡ c.last) (items : AreItems g h) (lengths : AreAsNamed h 1 h.leaves) (pages : h.pages ≡ pages_needed g.page_size h)
    (written : IsWrittenAt g (home g image) h c.entries leaf node) (found : HoldsPieces g (home g image) c h leaf node) (lowest : LieLowest g h leaf) where
  abbrev old : Units
  old = home g image

  abbrev new : Units
  new = units_loaded g image page

  abbrev v : Volume
  v = volume_of c found.files

  -- ---- the units with the new catalog

  other : (u : ℕ) → u ≢ catalog_no → new u ≡ old u
  other u differs = ap (λ (b : Bool). cond b page (old u)) (ne_eqb u catalog_no differs)

  here : new catalog_no ≡ page
  here = ap (λ (b : Bool). cond b page (old catalog_no)) (eq-eqb catalog_no catalog_no refl)

  parts : AllByRecursion (HoldsOf g [] new v) content_parts
  parts = ((subst (λ (bytes : List ℕ). CatalogOf bytes c) (sym here) catalog, tt), still_hold g old new other c found.files found.holds)

  whole : AreWhole g new
  whole u is =
      let bytes = unit_leaf g (page_at g image) image u (omega (arith, is.2)) in
      let long : leaf_bytes g ≤ length (old u) = omega (arith, ap length bytes, length-part image (u * g.page_size) (leaf_bytes g) (leaf_inside g image u is.0 large is.1 is.2)) in
      subst (λ (unit : List ℕ). leaf_bytes g ≤ length unit) (sym (other u (λ e. let some = g.some_pages in omega (arith, is.2, e, some)))) long

  rules : IsTable g (table_of new v)
  rules = table_rules g new whole [] v (omega (arith, ap length here, size)) parts

  -- ---- the history on them

  -- no piece lies on the catalog's page
  piece_off : (piece : Piece) → IsPieceOf h piece → piece_place leaf node piece ≢ catalog_no
  piece_off piece is =
      let root = has_flat_from (root_units old) (roots_in (stored_in v)) (piece_place leaf node piece) (contains_has (tree_units old v) (piece_place leaf node piece) (found.reached piece is)) in
      let none = each_has (λ (u : ℕ). ¬ Contains (catalog_no ∷ file_pages v) u) (root_units old root.0)
      (each_has (λ (r : Root). Apart (root_units old r) (catalog_no ∷ file_pages v)) (roots_in (stored_in v)) found.holds.1.1.1.0.no_file_page root.0 root.1) (piece_place leaf node piece) root.2 in
      apart_from_catalog g old new other c found.files found.holds (piece_place leaf node piece) none

  same_unit : (piece : Piece) → IsPieceOf h piece → new (piece_place leaf node piece) ≡ old (piece_place leaf node piece)
  same_unit piece is = other (piece_place leaf node piece) (piece_off piece is)

  leaf_stays : (i : ℕ) (bytes : List ℕ) → numbered h.leaves i ≡ Some bytes → IsLeafAt g new (leaf i) bytes
  leaf_stays i bytes is =
      let on = written.transcribed.leaves i bytes is in
      record { area = on.area; short = on.short; front = ap (λ (unit : List ℕ). take (length bytes) unit) (same_unit (LeafPiece i) (bytes, is)) ∙ on.front }

  node_stays : (i : ℕ) (n : Node) → numbered h.nodes i ≡ Some n → IsNodeAt g new leaf node (node i) n
  node_stays i n is =
      let on = written.transcribed.nodes i n is in
      record { area = on.area; pairs = subst (λ (unit : List ℕ). PairsOf g.fan unit n.level (paired leaf node n.level n.pairs)) (sym (same_unit (NodePiece i) (n, is))) on.pairs }

  -- the files that were written are those that the walk found
  one_list : written.contents ≡ found.files
  one_list =
      one_content g old c.entries written.contents found.files written.indexes found.holds.0.0 written.pages found.holds.1.0 written.records
      (each_as HasBodies HasRecords found.files (λ f bodies. bodies.records) found.holds.1.1.0)

  stands : StandsAs g new v h leaf node
  stands = record {
    transcribed = record { leaves = leaf_stays; nodes = node_stays };
    reached = λ piece is. subst (λ (us : List ℕ). Contains us (piece_place leaf node piece)) (sym (same_trees g old new other c found.files found.holds)) (found.reached piece is);
    apart = written.apart;
    files = subst (λ (files : List FileContent). AllZip (IsFileOn leaf node) h.files (zip c.entries files)) one_list written.on;
    next_unique = next_unique;
    last = last;
  }

  pub loads : LoadsAs g image (stream_of g h) page c.last (length h.leaves)
  loads = record {
    volume = v;
    parts = parts;
    last_is = refl;
    dump = record { history = h; spelled = refl; of = of_table g [] new v h leaf node parts items lengths stands rules pages };
    leaves = refl;
    reaches = reaches_leaves g [] new v h leaf node parts items lengths stands lowest;
  }
