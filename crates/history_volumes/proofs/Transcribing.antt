-- A tree of a history and the tree that it is transcribed to.
use Rattle.std.proofs.Common.{◌≡◌, ◌≤◌, ◌-◌, inl, inr, ℕ, zero, suc, List, [], ◌∷◌, ◌++◌, length, map, take, Some, refl, sym, subst, ap, ◌∙◌, arith}
use Rattle.std.specs.List.{flat_map, concat, AllByRecursion}
use Rattle.std.proofs.lemmas.List.{map-append, take-take}
use Rattle.ex_base.specs.declared.geometry.Geometry.{Geometry}
use Rattle.ex_base.specs.Area.{InPageArea}
use Rattle.trees.specs.declared.Pair.{Pair}
use Rattle.trees.specs.Node.{Node, PairsOf, pairs_on, total_of}
use Rattle.trees.specs.Trees.{Units, for_each_child, EachChild, IsNamed, HasSize, bytes_on, shape_on, units_on}
use Rattle.trees.proofs.NodeLaws.{spelled_reads}
use Rattle.trees.proofs.Parts.{narrow}
use Rattle.version_lists.proofs.Lists.{Has, has_flat, has_flat_from, has_map_from, has_either}
use Rattle.history_model.specs.History.{History, numbered, leaf_of, pairs_of, leaf_if, pairs_if}
use Rattle.history_model.specs.Trees.{LeafPiece, NodePiece, IsUnder, bytes_under, shape_under, pieces_under}
use Rattle.history_volumes.specs.Walks.{leaves_left, nodes_left}
use Rattle.history_volumes.specs.Transcribed.{AreTranscribed, place_of, piece_place, placed, paired}

-- ---- pairs at places

pub placed_total : (place : ℕ → ℕ) (pairs : List Pair) → total_of (map (placed place) pairs) ≡ total_of pairs
placed_total place [] = refl
placed_total place (pair ∷ []) = refl
placed_total place (pair ∷ next ∷ pairs) = placed_total place (next ∷ pairs)

pub placed_children : {A : Type 0} (place : ℕ → ℕ) (make there : ℕ → ℕ → A) (before : ℕ) (pairs : List Pair) → EachChild (λ number n. make number n ≡ there (place number) n) before pairs
    → for_each_child make before pairs ≡ for_each_child there before (map (placed place) pairs)
placed_children place make there before [] each = refl
placed_children {A} place make there before (pair ∷ pairs) each =
    ap (λ (a : A). a ∷ for_each_child make pair.count pairs) each.0
    ∙ ap (λ (rest : List A). there (place pair.page.0) (pair.count - before) ∷ rest) (placed_children place make there pair.count pairs each.1)

pub placed_each : (place : ℕ → ℕ) (P Q : ℕ → ℕ → Type 0) → ((number n : ℕ) → P number n → Q (place number) n) → (before : ℕ) (pairs : List Pair) → EachChild P before pairs → EachChild Q before (map (placed place) pairs)
placed_each place P Q turn before [] each = tt
placed_each place P Q turn before (pair ∷ pairs) each = (turn pair.page.0 (pair.count - before) each.0, placed_each place P Q turn pair.count pairs each.1)

pub each_turned : (P Q : ℕ → ℕ → Type 0) → ((number n : ℕ) → P number n → Q number n) → (before : ℕ) (pairs : List Pair) → EachChild P before pairs → EachChild Q before pairs
each_turned P Q turn before [] each = tt
each_turned P Q turn before (pair ∷ pairs) each = (turn pair.page.0 (pair.count - before) each.0, each_turned P Q turn pair.count pairs each.1)

pub placed_all : (place : ℕ → ℕ) (P : ℕ → ℕ → Type 0) (Q : ℕ → Type 0) → ((number n : ℕ) → P number n → Q (place number)) → (before : ℕ) (pairs : List Pair) → EachChild P before pairs → AllByRecursion (λ (pair : Pair). Q pair.page.0) (map (placed place) pairs)
placed_all place P Q turn before [] each = tt
placed_all place P Q turn before (pair ∷ pairs) each = (turn pair.page.0 (pair.count - before) each.0, placed_all place P Q turn pair.count pairs each.1)

pub placed_flat : {A B : Type 0} (place : ℕ → ℕ) (f : A → B) (make : ℕ → List A) (there : ℕ → List B) (before : ℕ) (pairs : List Pair) → EachChild (λ number n. there (place number) ≡ map f (make number)) before pairs
    → flat_map (λ (pair : Pair). there pair.page.0) (map (placed place) pairs) ≡ map f (flat_map (λ (pair : Pair). make pair.page.0) pairs)
placed_flat place f make there before [] each = refl
placed_flat {A} {B} place f make there before (pair ∷ pairs) each =
    ap (λ (xs : List B). xs ++ flat_map (λ (p : Pair). there p.page.0) (map (placed place) pairs)) each.0
    ∙ ap (λ (xs : List B). map f (make pair.page.0) ++ xs) (placed_flat place f make there pair.count pairs each.1)
    ∙ sym (map-append f (make pair.page.0) (flat_map (λ (p : Pair). make p.page.0) pairs))

-- a child, with its bytes
pub child_of : (P : ℕ → ℕ → Type 0) (before : ℕ) (pairs : List Pair) → EachChild P before pairs → (pair : Pair) → Has pairs pair → (n : ℕ) × P pair.page.0 n
child_of P before [] each pair h = absurd h
child_of P before (p ∷ pairs) each pair (inl e) = (p.count - before, subst (λ (q : Pair). P q.page.0 (p.count - before)) e each.0)
child_of P before (p ∷ pairs) each pair (inr m) = child_of P p.count pairs each.1 pair m

-- P of each child that is there, where it holds of what is listed of each
pub each_listed : (P : ℕ → ℕ → Type 0) (before : ℕ) (pairs : List Pair) → ((number n : ℕ) → Has {A = ℕ × ℕ} (for_each_child (λ (k m : ℕ). (k, m)) before pairs) (number, n) → P number n) → EachChild P before pairs
each_listed P before [] all = tt
each_listed P before (pair ∷ pairs) all = (all pair.page.0 (pair.count - before) (inl refl), each_listed P pair.count pairs (λ k m h. all k m (inr h)))

-- two facts of each child
pub each_both : (P Q R : ℕ → ℕ → Type 0) → ((number n : ℕ) → P number n → Q number n → R number n) → (before : ℕ) (pairs : List Pair) → EachChild P before pairs → EachChild Q before pairs → EachChild R before pairs
each_both P Q R turn before [] one other = tt
each_both P Q R turn before (pair ∷ pairs) one other = (turn pair.page.0 (pair.count - before) one.0 other.0, each_both P Q R turn pair.count pairs one.1 other.1)

-- what holds of the placed children
pub placed_back : (place : ℕ → ℕ) (P Q : ℕ → ℕ → Type 0) → ((number n : ℕ) → P (place number) n → Q number n) → (before : ℕ) (pairs : List Pair) → EachChild P before (map (placed place) pairs) → EachChild Q before pairs
placed_back place P Q turn before [] each = tt
placed_back place P Q turn before (pair ∷ pairs) each = (turn pair.page.0 (pair.count - before) each.0, placed_back place P Q turn pair.count pairs each.1)

pub placed_all_back : (place : ℕ → ℕ) (P : ℕ → Type 0) (Q : ℕ → ℕ → Type 0) → ((number n : ℕ) → P (place number) → Q number n) → (before : ℕ) (pairs : List Pair) → AllByRecursion (λ (pair : Pair). P pair.page.0) (map (placed place) pairs) → EachChild Q before pairs
placed_all_back place P Q turn before [] each = tt
placed_all_back place P Q turn before (pair ∷ pairs) each = (turn pair.page.0 (pair.count - before) each.0, placed_all_back place P Q turn pair.count pairs each.1)

-- ---- numbers of trees

-- there is a leaf, or a node, with the number
abbrev pub IsNumber : History → ℕ → ℕ → Type 0
IsNumber h zero number = (bytes : List ℕ) × (numbered h.leaves number ≡ Some bytes)
IsNumber h (suc l) number = (n : Node) × (numbered h.nodes number ≡ Some n)

-- a leaf has as many bytes as are named of it
abbrev pub IsLongEnough : History → ℕ → ℕ → ℕ → Type 0
IsLongEnough h zero number n = n ≤ length (leaf_of h number)
IsLongEnough h (suc l) number n = Unit {0}

-- ---- the tree of a history, on a volume

module _ (g : Geometry) (h : History) (units : Units) (leaf node : ℕ → ℕ) (at : AreTranscribed g h units leaf node) where
  abbrev here : ℕ → ℕ → ℕ
  here l number = place_of leaf node l number

  -- the node with a number, on its page
  pub record NodeThere (l number : ℕ) (n : Node) : Type 0 where
    pub area : InPageArea g (node number)
    pub spelled : PairsOf g.fan (units (node number)) (suc l) (pairs_on (units (node number)))
    pub pairs : pairs_on (units (node number)) ≡ map (placed (place_of leaf node l)) n.pairs

  pub node_there : (l number : ℕ) (n : Node) → numbered h.nodes number ≡ Some n → n.level ≡ suc l → NodeThere l number n
  node_there l number n is level =
      let on = at.nodes number n is in
      let spelled : PairsOf g.fan (units (node number)) (suc l) (map (placed (place_of leaf node l)) n.pairs) = subst (λ (k : ℕ). PairsOf g.fan (units (node number)) k (paired leaf node k n.pairs)) level on.pairs in
      let reads = spelled_reads g.fan (units (node number)) (suc l) (map (placed (place_of leaf node l)) n.pairs) (narrow g) spelled in
      record { area = on.area; spelled = subst (PairsOf g.fan (units (node number)) (suc l)) (sym reads.same_pairs) spelled; pairs = reads.same_pairs }

  pub leaf_is : (number : ℕ) (bytes : List ℕ) → numbered h.leaves number ≡ Some bytes → leaf_of h number ≡ bytes
  leaf_is number bytes is = ap leaf_if is

  pub pairs_are : (number : ℕ) (n : Node) → numbered h.nodes number ≡ Some n → pairs_of h number ≡ n.pairs
  pairs_are number n is = ap pairs_if is

  pub tree_named : (l number n : ℕ) → IsUnder h l number n → IsNamed g units l (here l number)
  tree_named zero number n is = (at.leaves number is.0 is.1).area
  tree_named (suc l) number n is =
      let there = node_there l number is.0 is.1 is.2 in
      let below = placed_all (place_of leaf node l) (IsUnder h l) (IsNamed g units l) (λ k m. tree_named l k m) 0 is.0.pairs is.4 in
      (there.area, there.spelled, subst (AllByRecursion (λ (pair : Pair). IsNamed g units l pair.page.0)) (sym there.pairs) below)

  pub tree_sized : (l number n : ℕ) → IsUnder h l number n → HasSize g units l (here l number) n
  tree_sized zero number n is = let on = at.leaves number is.0 is.1 in (is.2, omega (arith, is.3, on.short))
  tree_sized (suc l) number n is =
      let there = node_there l number is.0 is.1 is.2 in
      let below = placed_each (place_of leaf node l) (IsUnder h l) (HasSize g units l) (λ k m. tree_sized l k m) 0 is.0.pairs is.4 in
      (ap total_of there.pairs ∙ placed_total (place_of leaf node l) is.0.pairs ∙ is.3, subst (EachChild (HasSize g units l) 0) (sym there.pairs) below)

  front_of : (n : ℕ) (bytes there : List ℕ) → n ≤ length bytes → take (length bytes) there ≡ bytes → take n bytes ≡ take n there
  front_of n bytes there le front = ap (take n) (sym front) ∙ take-take n (length bytes) there le

  pub tree_bytes : (l number n : ℕ) → IsUnder h l number n → bytes_under h l number n ≡ bytes_on units l (here l number) n
  tree_bytes zero number n is =
      let on = at.leaves number is.0 is.1 in
      ap (take n) (leaf_is number is.0 is.1) ∙ front_of n is.0 (units (leaf number)) is.3 on.front
  tree_bytes (suc l) number n is =
      let there = node_there l number is.0 is.1 is.2 in
      let below = each_turned (IsUnder h l) (λ k m. bytes_under h l k m ≡ bytes_on units l (here l k) m) (λ k m. tree_bytes l k m) 0 is.0.pairs is.4 in
      ap (λ (ps : List Pair). concat (for_each_child (bytes_under h l) 0 ps)) (pairs_are number is.0 is.1)
      ∙ ap concat (placed_children (place_of leaf node l) (bytes_under h l) (bytes_on units l) 0 is.0.pairs below)
      ∙ ap (λ (ps : List Pair). concat (for_each_child (bytes_on units l) 0 ps)) (sym there.pairs)

  pub tree_shape : (l number n : ℕ) → IsUnder h l number n → shape_under h l number n ≡ shape_on units l (here l number) n
  tree_shape zero number n is = refl
  tree_shape (suc l) number n is =
      let there = node_there l number is.0 is.1 is.2 in
      let below = each_turned (IsUnder h l) (λ k m. shape_under h l k m ≡ shape_on units l (here l k) m) (λ k m. tree_shape l k m) 0 is.0.pairs is.4 in
      ap (λ (ps : List Pair). for_each_child (shape_under h l) 0 ps) (pairs_are number is.0 is.1)
      ∙ placed_children (place_of leaf node l) (shape_under h l) (shape_on units l) 0 is.0.pairs below
      ∙ ap (λ (ps : List Pair). for_each_child (shape_on units l) 0 ps) (sym there.pairs)

  -- its units are the places of its pieces
  pub tree_units : (l number n : ℕ) → IsUnder h l number n → units_on units l (here l number) ≡ map (piece_place leaf node) (pieces_under h l number)
  tree_units zero number n is = refl
  tree_units (suc l) number n is =
      let there = node_there l number is.0 is.1 is.2 in
      let below = each_turned (IsUnder h l) (λ k m. units_on units l (here l k) ≡ map (piece_place leaf node) (pieces_under h l k)) (λ k m. tree_units l k m) 0 is.0.pairs is.4 in
      ap (λ (ps : List Pair). node number ∷ flat_map (λ (pair : Pair). units_on units l pair.page.0) ps) there.pairs
      ∙ ap (λ (us : List ℕ). node number ∷ us) (placed_flat (place_of leaf node l) (piece_place leaf node) (pieces_under h l) (units_on units l) 0 is.0.pairs below)
      ∙ ap (λ (ps : List Pair). node number ∷ map (piece_place leaf node) (flat_map (λ (pair : Pair). pieces_under h l pair.page.0) ps)) (sym (pairs_are number is.0 is.1))

  -- ---- what a walk leaves

  -- a piece of a tree that stands at a unit
  abbrev LeafThere : ℕ → ℕ → ℕ → Type 0
  LeafThere l number unit = (k : ℕ) × Has (pieces_under h l number) (LeafPiece k) × (leaf k ≡ unit)

  abbrev NodeThereIn : ℕ → ℕ → ℕ → Type 0
  NodeThereIn l number unit = (k : ℕ) × Has (pieces_under h l number) (NodePiece k) × (node k ≡ unit)

  pub leaf_left : (l number n unit : ℕ) → IsUnder h l number n → Has (leaves_left units l (here l number)) unit → LeafThere l number unit
  leaf_left zero number n unit is (inl e) = (number, inl refl, e)
  leaf_left zero number n unit is (inr none) = absurd none
  leaf_left (suc l) number n unit is left =
      let there = node_there l number is.0 is.1 is.2 in
      let found = has_flat_from (λ (pair : Pair). leaves_left units l pair.page.0) (map (placed (place_of leaf node l)) is.0.pairs) unit
      (subst (λ (ps : List Pair). Has (flat_map (λ (pair : Pair). leaves_left units l pair.page.0) ps) unit) there.pairs left) in
      let from = has_map_from (placed (place_of leaf node l)) is.0.pairs found.0 found.1 in
      let child = child_of (IsUnder h l) 0 is.0.pairs is.4 from.0 from.1 in
      let below = leaf_left l from.0.page.0 child.0 unit child.1 (subst (λ (p : Pair). Has (leaves_left units l p.page.0) unit) (sym from.2) found.2) in
      (below.0, inr (has_flat (λ (pair : Pair). pieces_under h l pair.page.0) (pairs_of h number) from.0 (LeafPiece below.0) (subst (λ (ps : List Pair). Has ps from.0) (sym (pairs_are number is.0 is.1)) from.1) below.1), below.2)

  pub node_left : (l number n unit : ℕ) → IsUnder h l number n → Has (nodes_left units l (here l number)) unit → NodeThereIn l number unit
  node_left zero number n unit is left = absurd left
  node_left (suc l) number n unit is left =
      elim (has_either (flat_map (λ (pair : Pair). nodes_left units l pair.page.0) (pairs_on (units (node number)))) (node number ∷ []) unit left) [
        | inl below ↦
            let there = node_there l number is.0 is.1 is.2 in
            let found = has_flat_from (λ (pair : Pair). nodes_left units l pair.page.0) (map (placed (place_of leaf node l)) is.0.pairs) unit
            (subst (λ (ps : List Pair). Has (flat_map (λ (pair : Pair). nodes_left units l pair.page.0) ps) unit) there.pairs below) in
            let from = has_map_from (placed (place_of leaf node l)) is.0.pairs found.0 found.1 in
            let child = child_of (IsUnder h l) 0 is.0.pairs is.4 from.0 from.1 in
            let deeper = node_left l from.0.page.0 child.0 unit child.1 (subst (λ (p : Pair). Has (nodes_left units l p.page.0) unit) (sym from.2) found.2) in
            (deeper.0, inr (has_flat (λ (pair : Pair). pieces_under h l pair.page.0) (pairs_of h number) from.0 (NodePiece deeper.0) (subst (λ (ps : List Pair). Has ps from.0) (sym (pairs_are number is.0 is.1)) from.1) deeper.1), deeper.2)
        | inr own ↦ elim own [ inl e ↦ (number, inl refl, e) | inr none ↦ absurd none ]
      ]

  -- ---- the way back: a tree on the volume is that of the history

  -- what is known of the children of nodes
  pub record AreClosed : Type 0 where
    pub there : (l number : ℕ) (n : Node) → numbered h.nodes number ≡ Some n → n.level ≡ suc l → EachChild (λ k m. IsNamed g units l (here l k) → IsNumber h l k) 0 n.pairs
    pub long : (number : ℕ) (n : Node) → numbered h.nodes number ≡ Some n → n.level ≡ suc zero → EachChild (λ k m. IsNumber h zero k → IsLongEnough h zero k m) 0 n.pairs

  long_at : (closed : AreClosed) (l number : ℕ) (n : Node) → numbered h.nodes number ≡ Some n → n.level ≡ suc l → EachChild (λ k m. IsNumber h l k → IsLongEnough h l k m) 0 n.pairs
  long_at closed zero number n is level = closed.long number n is level
  long_at closed (suc l) number n is level = each_listed (λ k m. IsNumber h (suc l) k → IsLongEnough h (suc l) k m) 0 n.pairs (λ k m listed number. tt)

  -- the level of a node is that of its page
  level_there : (l number : ℕ) (n : Node) → numbered h.nodes number ≡ Some n → PairsOf g.fan (units (node number)) (suc l) (pairs_on (units (node number))) → n.level ≡ suc l
  level_there l number n is spelled =
      let on = at.nodes number n is in
      let one = spelled_reads g.fan (units (node number)) (suc l) (pairs_on (units (node number))) (narrow g) spelled in
      let other = spelled_reads g.fan (units (node number)) n.level (paired leaf node n.level n.pairs) (narrow g) on.pairs in
      sym other.same_level ∙ one.same_level

  pub tree_back : AreClosed → (l number n : ℕ) → IsNumber h l number → IsNamed g units l (here l number) → HasSize g units l (here l number) n → IsLongEnough h l number n → IsUnder h l number n
  tree_back closed zero number n is named sized long = (is.0, is.1, sized.0, subst (λ (bytes : List ℕ). n ≤ length bytes) (leaf_is number is.0 is.1) long)
  tree_back closed (suc l) number n is named sized long =
      let level = level_there l number is.0 is.1 named.1 in
      let there = node_there l number is.0 is.1 level in
      let total = sym (placed_total (place_of leaf node l) is.0.pairs) ∙ ap total_of (sym there.pairs) ∙ sized.0 in
      let names = placed_all_back (place_of leaf node l) (IsNamed g units l) (λ k m. IsNamed g units l (here l k)) (λ k m x. x) 0 is.0.pairs (subst (AllByRecursion (λ (pair : Pair). IsNamed g units l pair.page.0)) there.pairs named.2) in
      let sizes = placed_back (place_of leaf node l) (HasSize g units l) (λ k m. HasSize g units l (here l k) m) (λ k m x. x) 0 is.0.pairs (subst (EachChild (HasSize g units l) 0) there.pairs sized.1) in
      let numbers = each_both (λ k m. IsNamed g units l (here l k) → IsNumber h l k) (λ k m. IsNamed g units l (here l k)) (λ k m. IsNumber h l k × IsNamed g units l (here l k)) (λ k m f x. (f x, x)) 0 is.0.pairs (closed.there l number is.0 is.1 level) names in
      let longs = each_both (λ k m. HasSize g units l (here l k) m) (λ k m. IsNumber h l k → IsLongEnough h l k m) (λ k m. HasSize g units l (here l k) m × (IsNumber h l k → IsLongEnough h l k m)) (λ k m a b. (a, b)) 0 is.0.pairs sizes (long_at closed l number is.0 is.1 level) in
      let below = each_both (λ k m. IsNumber h l k × IsNamed g units l (here l k)) (λ k m. HasSize g units l (here l k) m × (IsNumber h l k → IsLongEnough h l k m)) (IsUnder h l)
      (λ k m a b. tree_back closed l k m a.0 a.1 b.0 (b.1 a.0)) 0 is.0.pairs numbers longs in
      (is.0, is.1, level, total, below)
