-- What walks of trees leave, tree by tree and root by root.
use Rattle.std.proofs.Common.{◌≡◌, ◌≤◌, ◌<◌, ◌+◌, ◌-◌, ℕ, zero, suc, List, [], ◌∷◌, ◌++◌, length, take, take_all, get_or, Option, Some, None, refl, sym, subst, ap, ◌∙◌, arith, inl, inr}
use Rattle.std.specs.Prelude.{Contains}
use Rattle.std.specs.List.{flat_map, AllByRecursion}
use Rattle.std.proofs.lemmas.Grind.{flat_map-append}
use Rattle.std.proofs.lemmas.List.{append-nil, take_more}
use Rattle.ex_base.specs.declared.geometry.Geometry.{Geometry}
use Rattle.ex_base.specs.declared.ground.Ground as ground
use Rattle.ex_base.specs.declared.names.PageNo.{PageNo}
use Rattle.ex_base.specs.declared.names.Root.{Root}
use Rattle.ex_base.specs.Area.{InPageArea, NamesLeaf}
use Rattle.ex_base.specs.Ports.{Keeps}
use Rattle.ex_base.specs.Sizes.{leaf_bytes}
use Rattle.ex_base.proofs.Keeping.{keeps_on, keeps_refl}
use Rattle.trees.specs.declared.Pair.{Pair}
use Rattle.trees.specs.declared.rows.Part.{Part}
use Rattle.trees.specs.Node.{PairsOf, pairs_on}
use Rattle.trees.specs.Rows.{AreTrees, parts_of}
use Rattle.trees.specs.Trees.{Units, HasSize, IsNamed}
use Rattle.trees.proofs.Reading.{no_part, row_trees}
use Rattle.version_lists.proofs.Lists.{Has, contains_has, has_contains}
use Rattle.history_volumes.specs.Walks.{added, namings_left, nodes_left, of_children, raised, with_firsts, with_namings}
use Rattle.history_volumes.proofs.Firsts.{added_from, with_append, with_has, with_keeps, with_none as firsts_none}
use Rattle.history_volumes.proofs.Made.{one_level}
use Rattle.history_volumes.proofs.Namings.{Covers, with_covers, with_keeps as covers_keeps, with_more, with_none}
use Rattle.history_plans.specs.Pieces.{HasTree, IsClosed, Leaves, LeavesRoot, LeavesTree, PlannedPieces, ShowsPages}

-- ---- what is there stays

module _ (g : Geometry) (units : Units) where
  has_more : (l page : ℕ) (before after : PlannedPieces) (namings : List (ℕ × ℕ)) (nodes : List ℕ) → after.leaves ≡ with_namings before.leaves namings → after.nodes ≡ with_firsts before.nodes nodes → HasTree units l page before → HasTree units l page after
  has_more l page before after namings nodes leaves_are nodes_are is = record {
    leaves = with_none after.leaves (namings_left units l page 0) (λ u n m.
        subst (λ (ls : List (ℕ × ℕ)). Covers ls u n) (sym leaves_are)
        (covers_keeps before.leaves namings u n (subst (λ (ls : List (ℕ × ℕ)). Covers ls u n) is.leaves (with_covers before.leaves (namings_left units l page 0) u n m))));
    nodes = firsts_none after.nodes (nodes_left units l page) (λ u m.
        subst (λ (ns : List ℕ). Has ns u) (sym nodes_are)
        (with_keeps before.nodes nodes u (subst (λ (ns : List ℕ). Has ns u) is.nodes (with_has before.nodes (nodes_left units l page) u m))));
  }

  -- nothing was left
  pub leaves_none : (pieces : PlannedPieces) → IsClosed g units pieces → Leaves g units [] [] pieces pieces
  leaves_none pieces closed = record { leaves = refl; nodes = refl; closed = closed }

  -- one behind the other
  pub leaves_more : (xs ys : List (ℕ × ℕ)) (ms ns : List ℕ) (a b c : PlannedPieces) → Leaves g units xs ms a b → Leaves g units ys ns b c → Leaves g units (xs ++ ys) (ms ++ ns) a c
  leaves_more xs ys ms ns a b c one other = record {
    leaves = other.leaves ∙ ap (λ (ls : List (ℕ × ℕ)). with_namings ls ys) one.leaves ∙ sym (with_more a.leaves xs ys);
    nodes = other.nodes ∙ ap (λ (ps : List ℕ). with_firsts ps ns) one.nodes ∙ sym (with_append a.nodes ms ns);
    closed = other.closed;
  }

  -- ---- a leaf

  pub leaf_left : (page n : ℕ) (before after : PlannedPieces) → after.leaves ≡ raised before.leaves page n → after.nodes ≡ before.nodes → IsClosed g units before → LeavesTree g units zero page n before after
  leaf_left page n before after leaves_are nodes_are closed = record {
    leaves = leaves_are;
    nodes = nodes_are;
    closed = λ p there l named. has_more (suc l) p before after ((page, n) ∷ []) [] leaves_are nodes_are (closed p (subst (λ (ns : List ℕ). Contains ns p) nodes_are there) l named);
  }

  -- ---- a node

  pub node_known : (l page n : ℕ) (pieces : PlannedPieces) → Contains pieces.nodes page → IsClosed g units pieces → IsNamed g units (suc l) page → LeavesTree g units (suc l) page n pieces pieces
  node_known l page n pieces there closed named =
      let is = closed page there l named in
      record { leaves = sym is.leaves; nodes = sym is.nodes; closed = closed }

  -- what trees side by side leave
  abbrev pub row_namings : ℕ → List Part → List (ℕ × ℕ)
  row_namings l row = flat_map (λ (part : Part). namings_left units l part.page.0 part.size) row

  abbrev pub row_nodes : ℕ → List Part → List ℕ
  row_nodes l row = flat_map (λ (part : Part). nodes_left units l part.page.0) row

  row_namings_are : (l before : ℕ) (pairs : List Pair) → of_children (namings_left units l) before pairs ≡ row_namings l (parts_of before pairs)
  row_namings_are l before [] = refl
  row_namings_are l before (pair ∷ pairs) = ap (λ (xs : List (ℕ × ℕ)). namings_left units l pair.page.0 (pair.count - before) ++ xs) (row_namings_are l pair.count pairs)

  row_nodes_are : (l before : ℕ) (pairs : List Pair) → flat_map (λ (pair : Pair). nodes_left units l pair.page.0) pairs ≡ row_nodes l (parts_of before pairs)
  row_nodes_are l before [] = refl
  row_nodes_are l before (pair ∷ pairs) = ap (λ (xs : List ℕ). nodes_left units l pair.page.0 ++ xs) (row_nodes_are l pair.count pairs)

  -- a node that is left behind its children
  pub node_left : (l page n : ℕ) (row : List Part) (before mid after : PlannedPieces) → IsNamed g units (suc l) page → row ≡ parts_of 0 (pairs_on (units page)) → Leaves g units (row_namings l row) (row_nodes l row) before mid
      → after.leaves ≡ mid.leaves → after.nodes ≡ added mid.nodes page → LeavesTree g units (suc l) page n before after
  node_left l page n row before mid after named row_is below leaves_are nodes_are = record {
    leaves = all_leaves;
    nodes = all_nodes;
    closed = closed;
  }
    where
      namings_are : row_namings l row ≡ namings_left units (suc l) page n
      namings_are = ap (row_namings l) row_is ∙ sym (row_namings_are l 0 (pairs_on (units page)))

      all_leaves : after.leaves ≡ with_namings before.leaves (namings_left units (suc l) page n)
      all_leaves = leaves_are ∙ below.leaves ∙ ap (with_namings before.leaves) namings_are

      all_nodes : after.nodes ≡ with_firsts before.nodes (nodes_left units (suc l) page)
      all_nodes =
          nodes_are ∙ ap (λ (ns : List ℕ). added ns page) (below.nodes ∙ ap (λ (ns : List ℕ). with_firsts before.nodes ns) (ap (row_nodes l) row_is ∙ sym (row_nodes_are l 0 (pairs_on (units page)))))
          ∙ sym (with_append before.nodes (flat_map (λ (pair : Pair). nodes_left units l pair.page.0) (pairs_on (units page))) (page ∷ []))

      own : HasTree units (suc l) page after
      own = record {
        leaves = with_none after.leaves (namings_left units (suc l) page 0) (λ u m h. subst (λ (ls : List (ℕ × ℕ)). Covers ls u m) (sym all_leaves) (with_covers before.leaves (namings_left units (suc l) page n) u m h));
        nodes = firsts_none after.nodes (nodes_left units (suc l) page) (λ u h. subst (λ (ns : List ℕ). Has ns u) (sym all_nodes) (with_has before.nodes (nodes_left units (suc l) page) u h));
      }

      closed : IsClosed g units after
      closed p there k named_p = elim (added_from mid.nodes page p (subst (λ (ns : List ℕ). Has ns p) nodes_are (contains_has after.nodes p there))) [
        | inl old ↦ has_more (suc k) p mid after [] (page ∷ []) leaves_are nodes_are (below.closed p (has_contains mid.nodes p old) k named_p)
        | inr same ↦
            let level : l ≡ k = one_level g units l k page named (subst (IsNamed g units (suc k)) (sym same) named_p) in
            subst (λ (q : ℕ). HasTree units (suc k) q after) same (subst (λ (m : ℕ). HasTree units (suc m) page after) level own)
      ]

  -- ---- a root

  pub root_none : (root : Root) (pieces : PlannedPieces) → root.page ≡ None → IsClosed g units pieces → LeavesRoot g units root pieces pieces
  root_none root pieces none closed =
      subst (λ (r : Root). LeavesRoot g units r pieces pieces) (ap (λ (p : Option PageNo). record { height = root.height; page = p; size = root.size }) (sym none)) (leaves_none pieces closed)

  pub root_left : (root : Root) (page : PageNo) (before after : PlannedPieces) → root.page ≡ Some page → LeavesTree g units root.height page.0 root.size before after → LeavesRoot g units root before after
  root_left root page before after is tree =
      subst (λ (r : Root). LeavesRoot g units r before after) (ap (λ (p : Option PageNo). record { height = root.height; page = p; size = root.size }) (sym is)) tree

-- ---- over a port

module _ {S : Type 0} (p : ground.Ghosts S) where
  pub shows_on : (units : Units) (a b : S) → Keeps p a b → ShowsPages (p.geometry a) (p.image a) units → ShowsPages (p.geometry b) (p.image b) units
  shows_on units a b k shows = rw (p.leads_geometry a b k.leads, k.images) shows

  -- Some trees of a row were walked.
  pub record WalkSoFar (old now : S) (level : ℕ) (row : List Part) (i : ℕ) (before after : PlannedPieces) : Type 0 where
    pub kept : Keeps p old now
    pub walked : p.tells old → (units : Units) → ShowsPages (p.geometry old) (p.image old) units → IsClosed (p.geometry old) units before
        → AllByRecursion (λ (part : Part). IsNamed (p.geometry old) units (level - 1) part.page.0) row
        → Leaves (p.geometry old) units (row_namings (p.geometry old) units (level - 1) (take i row)) (row_nodes (p.geometry old) units (level - 1) (take i row)) before after

  pub walk_start : (old : S) (level : ℕ) (row : List Part) (pieces : PlannedPieces) → WalkSoFar old old level row 0 pieces pieces
  walk_start old level row pieces = record { kept = keeps_refl p old; walked = λ told units shows closed named. leaves_none (p.geometry old) units pieces closed }

  each_at : (P : Part → Type 0) (row : List Part) (i : ℕ) → i < length row → AllByRecursion P row → P (get_or row i no_part)
  each_at P [] i lt all = absurd (omega (arith, lt))
  each_at P (part ∷ row) zero lt all = all.0
  each_at P (part ∷ row) (suc i) lt all = each_at P row i (omega (arith, lt)) all.1

  -- the next tree of a row
  pub next_named : (g : Geometry) (units : Units) (l : ℕ) (row : List Part) (i : ℕ) → i < length row → AllByRecursion (λ (part : Part). IsNamed g units l part.page.0) row → IsNamed g units l (get_or row i no_part).page.0
  next_named g units l row i lt all = each_at (λ (part : Part). IsNamed g units l part.page.0) row i lt all

  pub next_tree : (g : Geometry) (units : Units) (l : ℕ) (row : List Part) (i : ℕ) → i < length row → AreTrees g units l row → IsNamed g units l (get_or row i no_part).page.0 × HasSize g units l (get_or row i no_part).page.0 (get_or row i no_part).size
  next_tree g units l row i lt all = each_at (λ (part : Part). IsNamed g units l part.page.0 × HasSize g units l part.page.0 part.size) row i lt all

  pub names_of : (g : Geometry) (units : Units) (l : ℕ) (row : List Part) → AreTrees g units l row → AllByRecursion (λ (part : Part). IsNamed g units l part.page.0) row
  names_of g units l [] all = tt
  names_of g units l (part ∷ row) all = (all.0.0, names_of g units l row all.1)

  row_more : (g : Geometry) (units : Units) (l : ℕ) (row : List Part) (i : ℕ) → i < length row → row_namings g units l (take (i + 1) row) ≡ row_namings g units l (take i row) ++ namings_left units l (get_or row i no_part).page.0 (get_or row i no_part).size
  row_more g units l row i lt =
      ap (row_namings g units l) (take_more row i no_part lt)
      ∙ flat_map-append (λ (part : Part). namings_left units l part.page.0 part.size) (take i row) (get_or row i no_part ∷ [])
      ∙ ap (λ (xs : List (ℕ × ℕ)). row_namings g units l (take i row) ++ xs) (append-nil (namings_left units l (get_or row i no_part).page.0 (get_or row i no_part).size))

  row_nodes_more : (g : Geometry) (units : Units) (l : ℕ) (row : List Part) (i : ℕ) → i < length row → row_nodes g units l (take (i + 1) row) ≡ row_nodes g units l (take i row) ++ nodes_left units l (get_or row i no_part).page.0
  row_nodes_more g units l row i lt =
      ap (row_nodes g units l) (take_more row i no_part lt)
      ∙ flat_map-append (λ (part : Part). nodes_left units l part.page.0) (take i row) (get_or row i no_part ∷ [])
      ∙ ap (λ (xs : List ℕ). row_nodes g units l (take i row) ++ xs) (append-nil (nodes_left units l (get_or row i no_part).page.0))

  pub walk_more : (old now new : S) (level : ℕ) (row : List Part) (i : ℕ) (before mid after : PlannedPieces) → i < length row → WalkSoFar old now level row i before mid → Keeps p now new
      → (p.tells now → (units : Units) → ShowsPages (p.geometry now) (p.image now) units → IsClosed (p.geometry now) units mid → IsNamed (p.geometry now) units (level - 1) (get_or row i no_part).page.0
      → LeavesTree (p.geometry now) units (level - 1) (get_or row i no_part).page.0 (get_or row i no_part).size mid after)
      → WalkSoFar old new level row (i + 1) before after
  walk_more old now new level row i before mid after lt h k child = record {
    kept = keeps_on p old now new h.kept k;
    walked = λ told units shows closed named.
        let g = p.geometry old in
        let geo : p.geometry now ≡ p.geometry old = p.leads_geometry old now h.kept.leads in
        let front = h.walked told units shows closed named in
        let next_is = next_named g units (level - 1) row i lt named in
        let next : LeavesTree g units (level - 1) (get_or row i no_part).page.0 (get_or row i no_part).size mid after =
        subst (λ (x : Geometry). LeavesTree x units (level - 1) (get_or row i no_part).page.0 (get_or row i no_part).size mid after) geo
        (child (p.leads_told old now h.kept.leads told) units (shows_on units old now h.kept shows) (subst (λ (x : Geometry). IsClosed x units mid) (sym geo) front.closed)
        (subst (λ (x : Geometry). IsNamed x units (level - 1) (get_or row i no_part).page.0) (sym geo) next_is)) in
        let all = leaves_more g units (row_namings g units (level - 1) (take i row)) (namings_left units (level - 1) (get_or row i no_part).page.0 (get_or row i no_part).size)
        (row_nodes g units (level - 1) (take i row)) (nodes_left units (level - 1) (get_or row i no_part).page.0) before mid after front next in
        subst (λ (ns : List ℕ). Leaves g units (row_namings g units (level - 1) (take (i + 1) row)) ns before after) (sym (row_nodes_more g units (level - 1) row i lt))
        (subst (λ (xs : List (ℕ × ℕ)). Leaves g units xs (row_nodes g units (level - 1) (take i row) ++ nodes_left units (level - 1) (get_or row i no_part).page.0) before after) (sym (row_more g units (level - 1) row i lt)) all);
  }

  minus_one : (l : ℕ) → suc l - 1 ≡ l
  minus_one l = omega arith

  -- all trees of a row below a node
  pub walk_done : (old now : S) (g : Geometry) (units : Units) (level page n : ℕ) (row : List Part) (i : ℕ) (before mid after : PlannedPieces) → 1 ≤ level → length row ≤ i → g ≡ p.geometry old → WalkSoFar old now level row i before mid
      → p.tells old → ShowsPages (p.geometry old) (p.image old) units → IsClosed g units before → IsNamed g units level page → row ≡ parts_of 0 (pairs_on (units page))
      → after.leaves ≡ mid.leaves → after.nodes ≡ added mid.nodes page → LeavesTree g units level page n before after
  walk_done old now g units zero page n row i before mid after some le same h told shows closed named row_is leaves_are nodes_are = absurd (omega (arith, some))
  walk_done old now g units (suc l) page n row i before mid after some le same h told shows closed named row_is leaves_are nodes_are =
      let names : AllByRecursion (λ (part : Part). IsNamed g units l part.page.0) row =
      subst (AllByRecursion (λ (part : Part). IsNamed g units l part.page.0)) (sym row_is) (pairs_named g units l 0 (pairs_on (units page)) named.2) in
      let walked = h.walked told units shows (subst (λ (x : Geometry). IsClosed x units before) same closed)
      (subst (λ (k : ℕ). AllByRecursion (λ (part : Part). IsNamed (p.geometry old) units k part.page.0) row) (sym (minus_one l)) (subst (λ (x : Geometry). AllByRecursion (λ (part : Part). IsNamed x units l part.page.0) row) same names)) in
      let whole : Leaves (p.geometry old) units (row_namings (p.geometry old) units l row) (row_nodes (p.geometry old) units l row) before mid =
      subst (λ (xs : List Part). Leaves (p.geometry old) units (row_namings (p.geometry old) units l xs) (row_nodes (p.geometry old) units l xs) before mid) (take_all i row le)
      (subst (λ (k : ℕ). Leaves (p.geometry old) units (row_namings (p.geometry old) units k (take i row)) (row_nodes (p.geometry old) units k (take i row)) before mid) (minus_one l) walked) in
      node_left g units l page n row before mid after named row_is (subst (λ (x : Geometry). Leaves x units (row_namings x units l row) (row_nodes x units l row) before mid) (sym same) whole) leaves_are nodes_are
    where
      pairs_named : (x : Geometry) (u : Units) (k b : ℕ) (pairs : List Pair) → AllByRecursion (λ (pair : Pair). IsNamed x u k pair.page.0) pairs → AllByRecursion (λ (part : Part). IsNamed x u k part.page.0) (parts_of b pairs)
      pairs_named x u k b [] all = tt
      pairs_named x u k b (pair ∷ pairs) all = (all.0, pairs_named x u k pair.count pairs all.1)

  -- a node that was left before
  pub walk_known : (g : Geometry) (units : Units) (level page n : ℕ) (pieces : PlannedPieces) → 1 ≤ level → Contains pieces.nodes page → IsClosed g units pieces → IsNamed g units level page → LeavesTree g units level page n pieces pieces
  walk_known g units zero page n pieces some there closed named = absurd (omega (arith, some))
  walk_known g units (suc l) page n pieces some there closed named = node_known g units l page n pieces there closed named

  -- a leaf
  pub walk_leaf : (g : Geometry) (units : Units) (level page n : ℕ) (before after : PlannedPieces) → level ≡ 0 → after.leaves ≡ raised before.leaves page n → after.nodes ≡ before.nodes → IsClosed g units before → LeavesTree g units level page n before after
  walk_leaf g units level page n before after none leaves_are nodes_are closed =
      subst (λ (l : ℕ). LeavesTree g units l page n before after) (sym none) (leaf_left g units page n before after leaves_are nodes_are closed)

  -- ---- no damage is told of a tree

  pub tree_of_leaf : (g : Geometry) (units : Units) (level page n : ℕ) → level ≡ 0 → IsNamed g units level page → HasSize g units level page n → NamesLeaf g page × (n ≤ leaf_bytes g)
  tree_of_leaf g units zero page n none named sized = (named, sized.1)
  tree_of_leaf g units (suc l) page n none named sized = absurd (omega (arith, none))

  pub node_here : (g : Geometry) (units : Units) (image : ℕ → List ℕ) (level page : ℕ) → 1 ≤ level → ShowsPages g image units → IsNamed g units level page → InPageArea g page × ((pairs : List Pair) × PairsOf g.fan (image page) level pairs)
  node_here g units image zero page some shows named = absurd (omega (arith, some))
  node_here g units image (suc l) page some shows named = (named.0, (pairs_on (units page), subst (λ (bytes : List ℕ). PairsOf g.fan bytes (suc l) (pairs_on (units page))) (shows page named.0) named.1))

  pub trees_below : (g : Geometry) (units : Units) (level page n : ℕ) (row : List Part) → 1 ≤ level → IsNamed g units level page → HasSize g units level page n → row ≡ parts_of 0 (pairs_on (units page)) → AreTrees g units (level - 1) row
  trees_below g units zero page n row some named sized row_is = absurd (omega (arith, some))
  trees_below g units (suc l) page n row some named sized row_is =
      subst (λ (k : ℕ). AreTrees g units k row) (sym (minus_one l)) (row_trees g units l page n row named sized row_is)
