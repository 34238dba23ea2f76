-- The leaves and nodes of a volume's history are items of a stream.
use Rattle.std.proofs.Common.{◌≡◌, ◌≤◌, ◌<◌, ◌+◌, ◌*◌, ◌^◌, ℕ, zero, suc, Bool, true, false, eqb, List, [], ◌∷◌, length, map, Option, Some, None, refl, sym, subst, ap, ◌∙◌, arith}
use Rattle.std.specs.Prelude.{slice_get, if◌then◌else◌}
use Rattle.std.specs.List.{flat_map, AllByRecursion}
use Rattle.std.proofs.lemmas.Bool.{eqb-true}
use Rattle.std.proofs.lemmas.List.{length-map}
use Rattle.std.proofs.lemmas.Option.{slice_get_within}
use Rattle.ex_base.specs.declared.geometry.Geometry.{Geometry}
use Rattle.ex_base.specs.declared.names.PageNo.{PageNo}
use Rattle.ex_base.specs.declared.names.Root.{Root}
use Rattle.ex_base.specs.Area.{NamesLeaf, area_end}
use Rattle.ex_base.specs.Ports.{times}
use Rattle.ex_base.proofs.Counts.{few_once, times_here}
use Rattle.op_log.specs.declared.record.LogRecord.{LogRecord}
use Rattle.trees.specs.declared.Pair.{Pair}
use Rattle.trees.specs.declared.width.Width.{Width}
use Rattle.trees.specs.declared.width.Width.TheVariants.{Narrow, Wide}
use Rattle.trees.specs.Node.{HasPairFields, Node, PairsOf, RiseFrom, count_len, level_on, pairs_on}
use Rattle.trees.specs.Trees.{Units, IsNamed, RootNamed}
use Rattle.trees.proofs.NodeLaws.{spelled_reads}
use Rattle.trees.proofs.Parts.{narrow}
use Rattle.version_lists.proofs.Lists.{Has, has_flat_from, has_map}
use Rattle.volume_model.specs.Parts.{HoldsOf, content_parts}
use Rattle.volume_model.specs.Volume.{Volume, roots_in, stored_in}
use Rattle.volume_model.proofs.Places.{each_has, has_each}
use Rattle.history_model.specs.History.{History}
use Rattle.history_model.specs.Items.{AreNodeItems, IsChild, IsNodeItem, children_most}
use Rattle.history_volumes.specs.Histories.{IsHistoryOn, leaf_pages, node_pages, roots_in_order}
use Rattle.history_volumes.specs.Transcribed.{at_of, paired, place_of, placed}
use Rattle.history_volumes.specs.Walks.{leaves_left_at, nodes_left_at, root_leaves, root_nodes}
use Rattle.history_volumes.proofs.Dumped.{number_of_tree}
use Rattle.history_volumes.proofs.Firsts.{firsts_from, firsts_once}
use Rattle.history_volumes.proofs.Numbers.{at_has, at_one, numbered_within}
use Rattle.history_volumes.proofs.Order.{AreBehind, leaf_is_named, node_is_named, roots_behind}
use Rattle.history_volumes.proofs.Transcribing.{IsNumber}
use Rattle.history_volumes.proofs.Whole.{in_records}

-- ---- pairs with numbers in the place of places

unplaced_rise : (place : ℕ → ℕ) (before : ℕ) (pairs : List Pair) → RiseFrom before (map (placed place) pairs) → RiseFrom before pairs
unplaced_rise place before [] rise = tt
unplaced_rise place before (pair ∷ pairs) rise = (rise.0, unplaced_rise place pair.count pairs rise.1)

-- a count that is written narrow can be written wide
wide_count : (width : Width) (count : ℕ) → count < 256 ^ count_len width → count < 256 ^ count_len Wide
wide_count Narrow count lt = omega (arith, lt)
wide_count Wide count lt = lt

-- ---- leaves are few

indexes : (g : Geometry) (units : List ℕ) → AllByRecursion (NamesLeaf g) units → List ℕ
indexes g [] named = []
indexes g (u ∷ units) named = named.0.0 ∷ indexes g units named.1

indexes_length : (g : Geometry) (units : List ℕ) (named : AllByRecursion (NamesLeaf g) units) → length (indexes g units named) ≡ length units
unfolding indexes
indexes_length g [] named = refl
indexes_length g (u ∷ units) named = ap suc (indexes_length g units named.1)

indexes_inside : (g : Geometry) (units : List ℕ) (named : AllByRecursion (NamesLeaf g) units) → AllByRecursion (λ (j : ℕ). (0 ≤ j) × (j < 0 + g.segs)) (indexes g units named)
unfolding indexes
indexes_inside g [] named = tt
indexes_inside g (u ∷ units) named = ((omega arith, let lt = named.0.1 in omega (arith, lt)), indexes_inside g units named.1)

indexes_once : (g : Geometry) (units : List ℕ) (named : AllByRecursion (NamesLeaf g) units) (j : ℕ) → times j (indexes g units named) ≤ times (area_end g + j * g.seg_len) units
unfolding indexes
indexes_once g [] named j = omega arith
indexes_once g (u ∷ units) named j = by (eqb named.0.0 j) refl (indexes_once g units named.1 j)
  where
    by : (b : Bool) → eqb named.0.0 j ≡ b → times j (indexes g units named.1) ≤ times (area_end g + j * g.seg_len) units → (if b then 1 else 0) + times j (indexes g units named.1) ≤ times (area_end g + j * g.seg_len) (u ∷ units)
    by true is rest =
        let same : area_end g + j * g.seg_len ≡ u = ap (λ (k : ℕ). area_end g + k * g.seg_len) (sym (eqb-true named.0.0 j is)) ∙ sym named.0.2 in
        omega (arith, times_here (area_end g + j * g.seg_len) u units same, rest)
    by false is rest = omega (arith, rest)

few_leaves : (g : Geometry) (units : List ℕ) → AllByRecursion (NamesLeaf g) units → ((u : ℕ) → times u units ≤ 1) → length units ≤ g.segs
few_leaves g units named once =
    let few = few_once 0 g.segs (indexes g units named) (indexes_inside g units named) (λ j. omega (arith, indexes_once g units named j, once (area_end g + j * g.seg_len))) in
    omega (arith, few, indexes_length g units named)

module _ (g : Geometry) (records : List LogRecord) (units : Units) (v : Volume) (h : History) (parts : AllByRecursion (HoldsOf g records units v) content_parts) (on : IsHistoryOn g units v h) where
  abbrev at_leaf : ℕ → ℕ
  at_leaf = at_of (leaf_pages units v)

  abbrev at_node : ℕ → ℕ
  at_node = at_of (node_pages units v)

  root_named : (root : Root) → Has (roots_in_order v) root → RootNamed g units root.height root.page
  root_named root m = each_has (λ (r : Root). RootNamed g units r.height r.page) (roots_in (stored_in v)) parts.1.1.1.1.0.named root (in_records v root m)

  behind : AreBehind units (node_pages units v)
  behind = roots_behind g units (roots_in_order v) (has_each (λ (r : Root). RootNamed g units r.height r.page) (roots_in_order v) root_named) [] (λ i lt. absurd (omega (arith, lt)))

  node_of_root : (height : ℕ) (page : Option PageNo) (unit : ℕ) → RootNamed g units height page → Has (nodes_left_at units height page) unit → (k : ℕ) × IsNamed g units (suc k) unit
  node_of_root height None unit named left = absurd left
  node_of_root height (Some page) unit named left = node_is_named g units height page.0 unit named left

  leaf_of_root : (height : ℕ) (page : Option PageNo) (unit : ℕ) → RootNamed g units height page → Has (leaves_left_at units height page) unit → NamesLeaf g unit
  leaf_of_root height None unit named left = absurd left
  leaf_of_root height (Some page) unit named left = leaf_is_named g units height page.0 unit named left

  pub node_at : (unit : ℕ) → Has (node_pages units v) unit → (k : ℕ) × IsNamed g units (suc k) unit
  node_at unit there =
      let root = has_flat_from (root_nodes units) (roots_in_order v) unit (firsts_from (flat_map (root_nodes units) (roots_in_order v)) unit there) in
      node_of_root root.0.height root.0.page unit (root_named root.0 root.1) root.2

  pub leaf_at : (unit : ℕ) → Has (leaf_pages units v) unit → NamesLeaf g unit
  leaf_at unit there =
      let root = has_flat_from (root_leaves units) (roots_in_order v) unit (firsts_from (flat_map (root_leaves units) (roots_in_order v)) unit there) in
      leaf_of_root root.0.height root.0.page unit (root_named root.0 root.1) root.2

  -- ---- how many they are

  pub leaves_few : length h.leaves ≤ g.segs
  leaves_few =
      let few = few_leaves g (leaf_pages units v) (has_each (NamesLeaf g) (leaf_pages units v) leaf_at) (firsts_once (flat_map (root_leaves units) (roots_in_order v))) in
      omega (arith, few, on.leaves)

  pub nodes_few : length h.nodes ≤ g.pages
  nodes_few =
      let inside = has_each (λ (u : ℕ). (257 ≤ u) × (u < 257 + g.pages)) (node_pages units v) (λ u m. (node_at u m).1.0) in
      let few = few_once 257 g.pages (node_pages units v) inside (firsts_once (flat_map (root_nodes units) (roots_in_order v))) in
      omega (arith, few, on.nodes)

  -- ---- nodes

  -- what is known of a node that stands at an index: its level, and its children
  record NodeThere (i : ℕ) (n : Node) : Type 0 where
    l : ℕ
    level : n.level ≡ suc l
    named : IsNamed g units (suc l) (at_node (suc i))
    pairs : pairs_on (units (at_node (suc i))) ≡ map (placed (place_of at_leaf at_node l)) n.pairs
    spelled : PairsOf g.fan (units (at_node (suc i))) (suc l) (map (placed (place_of at_leaf at_node l)) n.pairs)

  node_there : (i : ℕ) (n : Node) → slice_get h.nodes i ≡ Some n → NodeThere i n
  node_there i n is =
      let lt = slice_get_within h.nodes i n is in
      let on_page = on.transcribed.nodes (suc i) n is in
      let named = node_at (at_node (suc i)) (at_has (node_pages units v) (suc i) (omega arith) (omega (arith, lt, on.nodes))) in
      let one = spelled_reads g.fan (units (at_node (suc i))) (suc named.0) (pairs_on (units (at_node (suc i)))) (narrow g) named.1.1 in
      let other = spelled_reads g.fan (units (at_node (suc i))) n.level (paired at_leaf at_node n.level n.pairs) (narrow g) on_page.pairs in
      let level : n.level ≡ suc named.0 = sym other.same_level ∙ one.same_level in
      let pairs : pairs_on (units (at_node (suc i))) ≡ map (placed (place_of at_leaf at_node named.0)) n.pairs = other.same_pairs ∙ ap (λ (k : ℕ). paired at_leaf at_node k n.pairs) level in
      record {
        l = named.0;
        level = level;
        named = named.1;
        pairs = pairs;
        spelled = subst (λ (k : ℕ). PairsOf g.fan (units (at_node (suc i))) k (paired at_leaf at_node k n.pairs)) level on_page.pairs;
      }

  child_number : (i : ℕ) (n : Node) (there : NodeThere i n) (pair : Pair) → Has n.pairs pair → IsNumber h there.l pair.page.0
  child_number i n there pair m =
      let place = place_of at_leaf at_node there.l in
      let named = each_has (λ (p : Pair). IsNamed g units there.l p.page.0) (pairs_on (units (at_node (suc i)))) there.named.2 (placed place pair)
      (subst (λ (ps : List Pair). Has ps (placed place pair)) (sym there.pairs) (has_map (placed place) n.pairs pair m)) in
      number_of_tree g records units v h parts on there.l pair.page.0 named

  -- a child that is a node is an earlier one
  child_before : (i l : ℕ) (n : Node) (pair : Pair) → i < length (node_pages units v) → n.level ≡ suc (suc l) → pairs_on (units (at_node (suc i))) ≡ map (placed at_node) n.pairs → level_on (units (at_node (suc i))) ≡ suc (suc l)
      → Has n.pairs pair → IsNumber h (suc l) pair.page.0 → pair.page.0 ≤ i
  child_before i l n pair lt level pairs on_level m is =
      let named = (at_node pair.page.0) in
      let child = behind i lt (at_node pair.page.0) (omega (arith, on_level), (placed at_node pair, subst (λ (ps : List Pair). Has ps (placed at_node pair)) (sym pairs) (has_map (placed at_node) n.pairs pair m), refl)) in
      let area = (on.transcribed.nodes pair.page.0 is.0 is.1).area in
      let some : 1 ≤ at_node pair.page.0 = omega (arith, area.0) in
      let same : suc child.0 ≡ pair.page.0 = at_one (node_pages units v) (firsts_once (flat_map (root_nodes units) (roots_in_order v))) (suc child.0) pair.page.0 (subst (λ (u : ℕ). 1 ≤ u) (sym child.2) some) some child.2 in
      omega (arith, child.1, same)

  child_is : (i : ℕ) (n : Node) (there : NodeThere i n) → i < length (node_pages units v) → (pair : Pair) → Has n.pairs pair → IsChild (children_most (length h.leaves) i n.level) pair
  child_is i n there lt pair m = subst (λ (k : ℕ). IsChild (children_most (length h.leaves) i k) pair) (sym there.level) (by there.l there.level there.pairs (child_number i n there pair m))
    where
      level_there : level_on (units (at_node (suc i))) ≡ suc there.l
      level_there = (spelled_reads g.fan (units (at_node (suc i))) (suc there.l) (map (placed (place_of at_leaf at_node there.l)) n.pairs) (narrow g) there.spelled).same_level

      by : (l : ℕ) → n.level ≡ suc l → pairs_on (units (at_node (suc i))) ≡ map (placed (place_of at_leaf at_node l)) n.pairs → IsNumber h l pair.page.0 → IsChild (children_most (length h.leaves) i (suc l)) pair
      by zero level pairs is = numbered_within h.leaves pair.page.0 is.0 is.1
      by (suc l) level pairs is =
          ((numbered_within h.nodes pair.page.0 is.0 is.1).0, child_before i l n pair lt level pairs (level_there ∙ sym there.level ∙ level) m is)

  short_number : (l number : ℕ) → IsNumber h l number → number < 2 ^ 32
  short_number zero number is = omega (arith, (numbered_within h.leaves number is.0 is.1).1, leaves_few, g.few_segs)
  short_number (suc l) number is = omega (arith, (numbered_within h.nodes number is.0 is.1).1, nodes_few, g.few_pages)

  node_item : (i : ℕ) (n : Node) → slice_get h.nodes i ≡ Some n → IsNodeItem g (length h.leaves) i n
  node_item i n is =
      let there = node_there i n is in
      let place = place_of at_leaf at_node there.l in
      let lt : i < length (node_pages units v) = omega (arith, slice_get_within h.nodes i n is, on.nodes) in
      let fits = there.spelled.fits in
      record {
        is = record {
          inner = omega (arith, there.level);
          byte = omega (arith, there.level, fits.byte);
          some = omega (arith, fits.some, length-map n.pairs (placed place));
          few = omega (arith, fits.few, length-map n.pairs (placed place));
          rising = unplaced_rise place 0 n.pairs fits.rising;
        };
        fields = has_each (HasPairFields Wide) n.pairs (λ pair m. (
          wide_count there.spelled.width pair.count (each_has (HasPairFields there.spelled.width) (map (placed place) n.pairs) there.spelled.fields (placed place pair) (has_map (placed place) n.pairs pair m)).0,
          short_number there.l pair.page.0 (child_number i n there pair m),
        ));
        children = has_each (IsChild (children_most (length h.leaves) i n.level)) n.pairs (child_is i n there lt);
      }

  nodes_from : (before : ℕ) (nodes : List Node) → ((i : ℕ) (n : Node) → slice_get nodes i ≡ Some n → IsNodeItem g (length h.leaves) (before + i) n) → AreNodeItems g (length h.leaves) before nodes
  nodes_from before [] all = tt
  nodes_from before (n ∷ nodes) all = (
    subst (λ (k : ℕ). IsNodeItem g (length h.leaves) k n) (let e : before + 0 ≡ before = omega arith in e) (all 0 n refl),
    nodes_from (suc before) nodes (λ i m is. subst (λ (k : ℕ). IsNodeItem g (length h.leaves) k m) (let e : before + suc i ≡ suc before + i = omega arith in e) (all (suc i) m is)),
  )

  pub node_items : AreNodeItems g (length h.leaves) 0 h.nodes
  node_items = nodes_from 0 h.nodes (λ i n is. subst (λ (k : ℕ). IsNodeItem g (length h.leaves) k n) (let e : i ≡ 0 + i = omega arith in e) (node_item i n is))
