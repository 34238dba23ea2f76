-- The leaves and nodes of a history are the units of trees that a volume reaches.
use Rattle.std.proofs.Common.{◌⊎◌, ℕ, zero, suc, List, [], ◌∷◌, Option, Some, None, arith, inl, inr}
use Rattle.std.specs.Prelude.{Contains}
use Rattle.std.specs.List.{flat_map, AllByRecursion}
use Rattle.ex_base.specs.declared.geometry.Geometry.{Geometry}
use Rattle.ex_base.specs.declared.names.PageNo.{PageNo}
use Rattle.ex_base.specs.declared.names.Root.{Root}
use Rattle.ex_base.specs.Area.{InPageArea, NamesLeaf, catalog_no}
use Rattle.file_index.specs.Index.{IsFilesPage}
use Rattle.op_log.specs.declared.record.LogRecord.{LogRecord}
use Rattle.trees.specs.declared.Pair.{Pair}
use Rattle.trees.specs.Node.{pairs_on}
use Rattle.trees.specs.Trees.{Units, RootNamed, root_units, root_units_at, units_on}
use Rattle.trees.proofs.Owned.{page_no_leaf}
use Rattle.version_lists.proofs.Lists.{Has, contains_has, has_back, has_contains, has_either, has_flat, has_flat_from, has_front}
use Rattle.volume_model.specs.Parts.{HoldsOf, content_parts}
use Rattle.volume_model.specs.Volume.{Volume, file_pages, reach_of, roots_in, stored_in}
use Rattle.volume_model.proofs.FilePages.{file_pages_are}
use Rattle.volume_model.proofs.Places.{each_has}
use Rattle.history_volumes.specs.Histories.{leaf_pages, node_pages, roots_in_order}
use Rattle.history_volumes.specs.Laws.{HasEachOnce}
use Rattle.history_volumes.specs.Walks.{leaves_left, leaves_left_at, nodes_left, nodes_left_at, root_leaves, root_nodes}
use Rattle.history_volumes.proofs.Firsts.{firsts_differ}
use Rattle.history_volumes.proofs.Order.{leaf_is_named, node_is_named}
use Rattle.history_volumes.proofs.Whole.{once}

module _ (units : Units) where
  leaf_of_tree : (l page unit : ℕ) → Has (leaves_left units l page) unit → Has (units_on units l page) unit
  leaf_of_tree zero page unit left = left
  leaf_of_tree (suc l) page unit left =
      let from = has_flat_from (λ (pair : Pair). leaves_left units l pair.page.0) (pairs_on (units page)) unit left in
      inr (has_flat (λ (pair : Pair). units_on units l pair.page.0) (pairs_on (units page)) from.0 unit from.1 (leaf_of_tree l from.0.page.0 unit from.2))

  node_of_tree : (l page unit : ℕ) → Has (nodes_left units l page) unit → Has (units_on units l page) unit
  node_of_tree zero page unit left = absurd left
  node_of_tree (suc l) page unit left = elim (has_either (flat_map (λ (pair : Pair). nodes_left units l pair.page.0) (pairs_on (units page))) (page ∷ []) unit left) [
    | inl below ↦
        let from = has_flat_from (λ (pair : Pair). nodes_left units l pair.page.0) (pairs_on (units page)) unit below in
        inr (has_flat (λ (pair : Pair). units_on units l pair.page.0) (pairs_on (units page)) from.0 unit from.1 (node_of_tree l from.0.page.0 unit from.2))
    | inr own ↦ elim own [ inl e ↦ inl e | inr none ↦ absurd none ]
  ]

  -- a unit of a tree is a leaf or a node
  of_either : (l page unit : ℕ) → Has (units_on units l page) unit → Has (leaves_left units l page) unit ⊎ Has (nodes_left units l page) unit
  of_either zero page unit there = inl there
  of_either (suc l) page unit (inl e) = inr (has_back (flat_map (λ (pair : Pair). nodes_left units l pair.page.0) (pairs_on (units page))) (page ∷ []) unit (inl e))
  of_either (suc l) page unit (inr m) =
      let from = has_flat_from (λ (pair : Pair). units_on units l pair.page.0) (pairs_on (units page)) unit m in
      elim (of_either l from.0.page.0 unit from.2) [
        | inl leaf ↦ inl (has_flat (λ (pair : Pair). leaves_left units l pair.page.0) (pairs_on (units page)) from.0 unit from.1 leaf)
        | inr node ↦ inr (has_front (flat_map (λ (pair : Pair). nodes_left units l pair.page.0) (pairs_on (units page))) (page ∷ []) unit
            (has_flat (λ (pair : Pair). nodes_left units l pair.page.0) (pairs_on (units page)) from.0 unit from.1 node))
      ]

  leaf_of_root : (height : ℕ) (page : Option PageNo) (unit : ℕ) → Has (leaves_left_at units height page) unit → Has (root_units_at units height page) unit
  leaf_of_root height None unit left = absurd left
  leaf_of_root height (Some page) unit left = leaf_of_tree height page.0 unit left

  node_of_root : (height : ℕ) (page : Option PageNo) (unit : ℕ) → Has (nodes_left_at units height page) unit → Has (root_units_at units height page) unit
  node_of_root height None unit left = absurd left
  node_of_root height (Some page) unit left = node_of_tree height page.0 unit left

  module _ (g : Geometry) where
    leaf_area : (height : ℕ) (page : Option PageNo) (unit : ℕ) → RootNamed g units height page → Has (leaves_left_at units height page) unit → NamesLeaf g unit
    leaf_area height None unit named left = absurd left
    leaf_area height (Some page) unit named left = leaf_is_named g units height page.0 unit named left

    node_area : (height : ℕ) (page : Option PageNo) (unit : ℕ) → RootNamed g units height page → Has (nodes_left_at units height page) unit → InPageArea g unit
    node_area height None unit named left = absurd left
    node_area height (Some page) unit named left = (node_is_named g units height page.0 unit named left).1.0

    -- a unit of a tree that names a leaf is one
    is_leaf : (height : ℕ) (page : Option PageNo) (unit : ℕ) → RootNamed g units height page → Has (root_units_at units height page) unit → NamesLeaf g unit → Has (leaves_left_at units height page) unit
    is_leaf height None unit named there leaf = absurd there
    is_leaf height (Some page) unit named there leaf = elim (of_either height page.0 unit there) [
      | inl left ↦ left
      | inr node ↦ absurd (page_no_leaf g unit (node_is_named g units height page.0 unit named node).1.0 leaf)
    ]

    is_node : (height : ℕ) (page : Option PageNo) (unit : ℕ) → RootNamed g units height page → Has (root_units_at units height page) unit → InPageArea g unit → Has (nodes_left_at units height page) unit
    is_node height None unit named there area = absurd there
    is_node height (Some page) unit named there area = elim (of_either height page.0 unit there) [
      | inl leaf ↦ absurd (page_no_leaf g unit area (leaf_is_named g units height page.0 unit named leaf))
      | inr node ↦ node
    ]

module _ (g : Geometry) (records : List LogRecord) (units : Units) (v : Volume) (parts : AllByRecursion (HoldsOf g records units v) content_parts) where
  abbrev trees : List ℕ
  trees = flat_map (root_units units) (roots_in (stored_in v))

  named : (root : Root) → Has (roots_in (stored_in v)) root → RootNamed g units root.height root.page
  named root m = each_has (λ (r : Root). RootNamed g units r.height r.page) (roots_in (stored_in v)) parts.1.1.1.1.0.named root m

  -- a unit that names a leaf is no page of a file
  no_file_page : (unit : ℕ) → NamesLeaf g unit → Has (catalog_no ∷ file_pages v) unit → ⊥
  no_file_page unit leaf (inl e) = page_no_leaf g unit (let some = g.some_pages in (omega (arith, e), omega (arith, e, some))) leaf
  no_file_page unit leaf (inr m) = page_no_leaf g unit (each_has (IsFilesPage g) (file_pages v) (file_pages_are g units v parts.1.0.0) unit m).0 leaf

  leaves_to : (unit : ℕ) → Contains (leaf_pages units v) unit → NamesLeaf g unit × Contains (reach_of units v) unit
  leaves_to unit there =
      let root = has_flat_from (root_leaves units) (roots_in (stored_in v)) unit (contains_has (flat_map (root_leaves units) (roots_in (stored_in v))) unit ((once v (root_leaves units) unit).0 there)) in (
        leaf_area units g root.0.height root.0.page unit (named root.0 root.1) root.2,
        has_contains (reach_of units v) unit (has_back (catalog_no ∷ file_pages v) trees unit (has_flat (root_units units) (roots_in (stored_in v)) root.0 unit root.1 (leaf_of_root units root.0.height root.0.page unit root.2))),
      )

  leaves_from : (unit : ℕ) → NamesLeaf g unit × Contains (reach_of units v) unit → Contains (leaf_pages units v) unit
  leaves_from unit both = elim (has_either (catalog_no ∷ file_pages v) trees unit (contains_has (reach_of units v) unit both.1)) [
    | inl page ↦ absurd (no_file_page unit both.0 page)
    | inr tree ↦
        let root = has_flat_from (root_units units) (roots_in (stored_in v)) unit tree in
        (once v (root_leaves units) unit).1 (has_contains (flat_map (root_leaves units) (roots_in (stored_in v))) unit
        (has_flat (root_leaves units) (roots_in (stored_in v)) root.0 unit root.1 (is_leaf units g root.0.height root.0.page unit (named root.0 root.1) root.2 both.0)))
  ]

  nodes_to : (unit : ℕ) → Contains (node_pages units v) unit → InPageArea g unit × Contains trees unit
  nodes_to unit there =
      let root = has_flat_from (root_nodes units) (roots_in (stored_in v)) unit (contains_has (flat_map (root_nodes units) (roots_in (stored_in v))) unit ((once v (root_nodes units) unit).0 there)) in (
        node_area units g root.0.height root.0.page unit (named root.0 root.1) root.2,
        has_contains trees unit (has_flat (root_units units) (roots_in (stored_in v)) root.0 unit root.1 (node_of_root units root.0.height root.0.page unit root.2)),
      )

  nodes_from : (unit : ℕ) → InPageArea g unit × Contains trees unit → Contains (node_pages units v) unit
  nodes_from unit both =
      let root = has_flat_from (root_units units) (roots_in (stored_in v)) unit (contains_has trees unit both.1) in
      (once v (root_nodes units) unit).1 (has_contains (flat_map (root_nodes units) (roots_in (stored_in v))) unit
      (has_flat (root_nodes units) (roots_in (stored_in v)) root.0 unit root.1 (is_node units g root.0.height root.0.page unit (named root.0 root.1) root.2 both.0)))

  pub each_once : HasEachOnce g units v
  each_once = record {
    leaves_differ = firsts_differ (flat_map (root_leaves units) (roots_in_order v));
    nodes_differ = firsts_differ (flat_map (root_nodes units) (roots_in_order v));
    leaves = λ unit. (leaves_to unit, leaves_from unit);
    nodes = λ unit. (nodes_to unit, nodes_from unit);
  }
