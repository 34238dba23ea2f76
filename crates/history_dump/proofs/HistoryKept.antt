-- A history stays that of a volume where no unit that the volume reaches changes.
use Rattle.std.proofs.Common.{◌≡◌, ℕ, zero, suc, List, [], ◌∷◌, ◌++◌, length, take, Option, Some, None, refl, sym, subst, ap, ◌∙◌, arith, inl, inr}
use Rattle.std.specs.Prelude.{Contains}
use Rattle.std.specs.List.{flat_map, AllByRecursion, AllZip, zip}
use Rattle.ex_base.specs.declared.geometry.Geometry.{Geometry}
use Rattle.ex_base.specs.declared.names.PageNo.{PageNo}
use Rattle.ex_base.specs.declared.names.Root.{Root}
use Rattle.ex_base.specs.Area.{catalog_no}
use Rattle.op_log.specs.declared.record.LogRecord.{LogRecord}
use Rattle.trees.specs.declared.Pair.{Pair}
use Rattle.trees.specs.Node.{Node, PairsOf, pairs_on}
use Rattle.trees.specs.Trees.{Units, root_units, root_units_at, units_on}
use Rattle.version_lists.proofs.Lists.{Has, contains_has, has_back, has_contains, has_flat}
use Rattle.volume_model.specs.Parts.{HoldsOf, content_parts}
use Rattle.volume_model.specs.Volume.{Volume, file_pages, reach_of, roots_in, stored_in}
use Rattle.history_model.specs.History.{History, numbered}
use Rattle.history_volumes.specs.Histories.{IsFileOn, IsHistoryOn, leaf_pages, node_pages, roots_in_order}
use Rattle.history_volumes.specs.Laws.{HasEachOnce}
use Rattle.history_volumes.specs.Transcribed.{AreTranscribed, at_of, paired}
use Rattle.history_volumes.specs.Walks.{firsts, leaves_left, leaves_left_at, nodes_left, nodes_left_at, root_leaves, root_nodes}
use Rattle.history_volumes.proofs.Numbers.{at_has, numbered_within}
use Rattle.history_volumes.proofs.Reached.{each_once}
use Rattle.history_volumes.proofs.Whole.{in_records}

flat_has : {A : Type 0} (f g : A → List ℕ) (xs : List A) → ((x : A) → Has xs x → g x ≡ f x) → flat_map g xs ≡ flat_map f xs
flat_has f g [] same = refl
flat_has f g (x ∷ xs) same = ap (λ (ys : List ℕ). ys ++ flat_map g xs) (same x (inl refl)) ∙ ap (λ (ys : List ℕ). f x ++ ys) (flat_has f g xs (λ y m. same y (inr m)))

-- ---- walks

module _ (old new : Units) where
  leaves_same : (l page : ℕ) → ((u : ℕ) → Has (units_on old l page) u → new u ≡ old u) → leaves_left new l page ≡ leaves_left old l page
  leaves_same zero page same = refl
  leaves_same (suc l) page same =
      let pairs : pairs_on (new page) ≡ pairs_on (old page) = ap pairs_on (same page (inl refl)) in
      ap (flat_map (λ (pair : Pair). leaves_left new l pair.page.0)) pairs
      ∙ flat_has (λ (pair : Pair). leaves_left old l pair.page.0) (λ (pair : Pair). leaves_left new l pair.page.0) (pairs_on (old page))
      (λ pair m. leaves_same l pair.page.0 (λ u there. same u (inr (has_flat (λ (p : Pair). units_on old l p.page.0) (pairs_on (old page)) pair u m there))))

  nodes_same : (l page : ℕ) → ((u : ℕ) → Has (units_on old l page) u → new u ≡ old u) → nodes_left new l page ≡ nodes_left old l page
  nodes_same zero page same = refl
  nodes_same (suc l) page same =
      let pairs : pairs_on (new page) ≡ pairs_on (old page) = ap pairs_on (same page (inl refl)) in
      ap (λ (ps : List Pair). flat_map (λ (pair : Pair). nodes_left new l pair.page.0) ps ++ page ∷ []) pairs
      ∙ ap (λ (us : List ℕ). us ++ page ∷ []) (flat_has (λ (pair : Pair). nodes_left old l pair.page.0) (λ (pair : Pair). nodes_left new l pair.page.0) (pairs_on (old page))
      (λ pair m. nodes_same l pair.page.0 (λ u there. same u (inr (has_flat (λ (p : Pair). units_on old l p.page.0) (pairs_on (old page)) pair u m there)))))

  root_leaves_same : (height : ℕ) (page : Option PageNo) → ((u : ℕ) → Has (root_units_at old height page) u → new u ≡ old u) → leaves_left_at new height page ≡ leaves_left_at old height page
  root_leaves_same height None same = refl
  root_leaves_same height (Some page) same = leaves_same height page.0 same

  root_nodes_same : (height : ℕ) (page : Option PageNo) → ((u : ℕ) → Has (root_units_at old height page) u → new u ≡ old u) → nodes_left_at new height page ≡ nodes_left_at old height page
  root_nodes_same height None same = refl
  root_nodes_same height (Some page) same = nodes_same height page.0 same

-- ---- the history

module _ (g : Geometry) (records : List LogRecord) (old new : Units) (v : Volume) (h : History) (parts : AllByRecursion (HoldsOf g records old v) content_parts)
    (same : (u : ℕ) → Contains (reach_of old v) u → new u ≡ old u) (on : IsHistoryOn g old v h) where
  of_tree : (root : Root) → Has (roots_in_order v) root → (u : ℕ) → Has (root_units old root) u → new u ≡ old u
  of_tree root m u there =
      same u (has_contains (reach_of old v) u (has_back (catalog_no ∷ file_pages v) (flat_map (root_units old) (roots_in (stored_in v))) u
      (has_flat (root_units old) (roots_in (stored_in v)) root u (in_records v root m) there)))

  leaf_pages_same : leaf_pages new v ≡ leaf_pages old v
  leaf_pages_same = ap firsts (flat_has (root_leaves old) (root_leaves new) (roots_in_order v) (λ root m. root_leaves_same old new root.height root.page (of_tree root m)))

  node_pages_same : node_pages new v ≡ node_pages old v
  node_pages_same = ap firsts (flat_has (root_nodes old) (root_nodes new) (roots_in_order v) (λ root m. root_nodes_same old new root.height root.page (of_tree root m)))

  once : HasEachOnce g old v
  once = each_once g records old v parts

  leaf_unit : (i : ℕ) (bytes : List ℕ) → numbered h.leaves i ≡ Some bytes → new (at_of (leaf_pages old v) i) ≡ old (at_of (leaf_pages old v) i)
  leaf_unit i bytes is =
      let within = numbered_within h.leaves i bytes is in
      let page = at_of (leaf_pages old v) i in
      same page ((once.leaves page).0 (has_contains (leaf_pages old v) page (at_has (leaf_pages old v) i within.0 (omega (arith, within.1, on.leaves))))).1

  node_unit : (i : ℕ) (n : Node) → numbered h.nodes i ≡ Some n → new (at_of (node_pages old v) i) ≡ old (at_of (node_pages old v) i)
  node_unit i n is =
      let within = numbered_within h.nodes i n is in
      let page = at_of (node_pages old v) i in
      let tree = ((once.nodes page).0 (has_contains (node_pages old v) page (at_has (node_pages old v) i within.0 (omega (arith, within.1, on.nodes))))).1 in
      same page (has_contains (reach_of old v) page (has_back (catalog_no ∷ file_pages v) (flat_map (root_units old) (roots_in (stored_in v))) page
      (contains_has (flat_map (root_units old) (roots_in (stored_in v))) page tree)))

  transcribed : AreTranscribed g h new (at_of (leaf_pages old v)) (at_of (node_pages old v))
  transcribed = record {
    leaves = λ i bytes is. let at = on.transcribed.leaves i bytes is in
        record { area = at.area; short = at.short; front = subst (λ (b : List ℕ). take (length bytes) b ≡ bytes) (sym (leaf_unit i bytes is)) at.front };
    nodes = λ i n is. let at = on.transcribed.nodes i n is in
        record { area = at.area; pairs = subst (λ (b : List ℕ). PairsOf g.fan b n.level (paired (at_of (leaf_pages old v)) (at_of (node_pages old v)) n.level n.pairs)) (sym (node_unit i n is)) at.pairs };
  }

  pub history_kept : IsHistoryOn g new v h
  history_kept = record {
    leaves = on.leaves ∙ ap length (sym leaf_pages_same);
    nodes = on.nodes ∙ ap length (sym node_pages_same);
    transcribed = subst (λ (ls : List ℕ). AreTranscribed g h new (at_of ls) (at_of (node_pages new v))) (sym leaf_pages_same)
        (subst (λ (ns : List ℕ). AreTranscribed g h new (at_of (leaf_pages old v)) (at_of ns)) (sym node_pages_same) transcribed);
    lengths = on.lengths;
    files = subst (λ (ls : List ℕ). AllZip (IsFileOn (at_of ls) (at_of (node_pages new v))) h.files (zip v.catalog.entries v.files)) (sym leaf_pages_same)
        (subst (λ (ns : List ℕ). AllZip (IsFileOn (at_of (leaf_pages old v)) (at_of ns)) h.files (zip v.catalog.entries v.files)) (sym node_pages_same) on.files);
    next_unique = on.next_unique;
    last = on.last;
    pages = on.pages;
  }
