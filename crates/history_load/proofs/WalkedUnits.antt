-- What a walk reached of the places of leaves and nodes are units of trees.
use Rattle.std.proofs.Common.{◌≡◌, ◌≤◌, inl, inr, ℕ, true, false, ◌∷◌, sym, ◌∙◌, arith}
use Rattle.std.specs.Prelude.{Contains}
use Rattle.ex_base.specs.declared.geometry.Geometry.{Geometry}
use Rattle.ex_base.specs.Area.{NamesLeaf, catalog_no}
use Rattle.file_index.specs.Index.{IsFilesPage}
use Rattle.object_files.specs.Catalog.{Catalog}
use Rattle.page_alloc.specs.UnitSet.{used_at}
use Rattle.trees.specs.Trees.{Units}
use Rattle.trees.proofs.Owned.{page_no_leaf}
use Rattle.version_lists.proofs.Lists.{Has, contains_has, has_contains, has_either}
use Rattle.volume_model.specs.Volume.{Volume, file_pages, reach_of}
use Rattle.volume_model.proofs.FilePages.{file_pages_are}
use Rattle.volume_model.proofs.Places.{each_has}
use Rattle.volume_port.specs.Logged.{is_held}
use Rattle.restart.specs.Content.{FilesReached, volume_of}
use Rattle.restart.specs.declared.content.Reached.{Reached}
use Rattle.history_load.specs.Placed.{tree_units}
use Rattle.history_writes.specs.Places.{leaf_place, node_place}
use Rattle.history_load.specs.Reached.{AreLeavesUsed, AreNodesInTrees, IsWalked}
use Rattle.history_writes.proofs.Placing.{leaf_named}

module _ (g : Geometry) (units : Units) (c : Catalog) (r : Reached) (found : FilesReached g units c r) where
  abbrev v : Volume
  v = volume_of c found.files

  -- a used unit that is no logged page
  of_tree : (unit : ℕ) → used_at r.units unit ≡ true → (Has (catalog_no ∷ file_pages v) unit → ⊥) → Contains (tree_units units v) unit
  of_tree unit used none = elim (has_either (catalog_no ∷ file_pages v) (tree_units units v) unit (contains_has (reach_of units v) unit ((found.used unit).0 used))) [
    | inl page ↦ absurd (none page)
    | inr tree ↦ has_contains (tree_units units v) unit tree
  ]

  no_page : (unit : ℕ) → NamesLeaf g unit → Has (catalog_no ∷ file_pages v) unit → ⊥
  no_page unit leaf (inl is) = let some = g.some_pages in page_no_leaf g unit (omega (arith, is), omega (arith, is, some)) leaf
  no_page unit leaf (inr more) = page_no_leaf g unit (each_has (IsFilesPage g) (file_pages v) (file_pages_are g units v found.holds.0.0) unit more).0 leaf

  no_logged : (unit : ℕ) → is_held r.pages unit ≡ false → Has (catalog_no ∷ file_pages v) unit → ⊥
  no_logged unit free there = let held = (found.held unit).1 (has_contains (catalog_no ∷ file_pages v) unit there) in absurd (let e : true ≡ false = sym held ∙ free in cc)

  pub walked : (leaves nodes : ℕ) → leaves ≤ g.segs → AreLeavesUsed g (used_at r.units) leaves → AreNodesInTrees (used_at r.units) (is_held r.pages) nodes → IsWalked g units c leaves nodes
  walked leaves nodes few used in_trees = record {
    files = found.files;
    holds = found.holds;
    leaves_in = λ i some most. of_tree (leaf_place g i) (used i some most) (no_page (leaf_place g i) (leaf_named g i some (omega (arith, most, few))));
    nodes_in = λ i some most. of_tree (node_place i) (in_trees i some most).0 (no_logged (node_place i) (in_trees i some most).1);
  }
