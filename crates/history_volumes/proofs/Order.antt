-- In the order of a walk each node stands behind the nodes that it names.
use Rattle.std.proofs.Common.{◌≡◌, ◌≤◌, ◌<◌, ℕ, zero, suc, List, [], ◌∷◌, ◌++◌, length, get_or, Option, Some, None, sym, subst, ◌∙◌, arith, inl, inr}
use Rattle.std.specs.List.{flat_map, AllByRecursion}
use Rattle.std.proofs.lemmas.Bool.{cases_lt}
use Rattle.std.proofs.lemmas.List.{get_or_append_left, get_or_push, length-append}
use Rattle.ex_base.specs.declared.geometry.Geometry.{Geometry}
use Rattle.ex_base.specs.declared.names.PageNo.{PageNo}
use Rattle.ex_base.specs.declared.names.Root.{Root}
use Rattle.trees.specs.declared.Pair.{Pair}
use Rattle.trees.specs.Node.{PairsOf, level_on, pairs_on}
use Rattle.trees.specs.Trees.{Units, IsNamed, RootNamed}
use Rattle.trees.proofs.NodeLaws.{spelled_reads}
use Rattle.trees.proofs.Parts.{narrow}
use Rattle.version_lists.proofs.Lists.{Has, has_back, has_either, has_flat, has_flat_from}
use Rattle.volume_model.proofs.Places.{each_has}
use Rattle.history_volumes.specs.Walks.{added, leaves_left, nodes_left, nodes_left_at, root_nodes, with_firsts}
use Rattle.history_volumes.proofs.Firsts.{added_by, with_append, with_has}

-- a node names another node
abbrev pub NodeBelow : Units → ℕ → ℕ → Type 0
NodeBelow units page child = (2 ≤ level_on (units page)) × ((pair : Pair) × Has (pairs_on (units page)) pair × (pair.page.0 ≡ child))

-- each node that one of the list names stands at a lower index
abbrev pub AreBehind : Units → List ℕ → Type 0
AreBehind units seen = (i : ℕ) → i < length seen → (child : ℕ) → NodeBelow units (get_or seen i 0) child → (j : ℕ) × (j < i) × (get_or seen j 0 ≡ child)

has_index : (seen : List ℕ) (x : ℕ) → Has seen x → (j : ℕ) × (j < length seen) × (get_or seen j 0 ≡ x)
has_index [] x h = absurd h
has_index (y ∷ seen) x (inl is) = (0, omega arith, is)
has_index (y ∷ seen) x (inr m) = let rest = has_index seen x m in (suc rest.0, omega (arith, rest.1), rest.2)

module _ (g : Geometry) (units : Units) where
  one_more : (seen : List ℕ) (x : ℕ) → AreBehind units seen → ((child : ℕ) → NodeBelow units x child → Has seen child) → AreBehind units (seen ++ x ∷ [])
  one_more seen x behind there i lt child below = elim (cases_lt i (length seen)) [
    | inl l ↦
        let same = get_or_append_left seen (x ∷ []) 0 i l in
        let r = behind i l child (subst (λ (p : ℕ). NodeBelow units p child) same below) in
        (r.0, r.1, get_or_append_left seen (x ∷ []) 0 r.0 (omega (arith, r.1, l)) ∙ r.2)
    | inr le ↦
        let last : length seen ≡ i = omega (arith, lt, le, length-append seen (x ∷ [])) in
        let r = has_index seen child (there child (subst (λ (p : ℕ). NodeBelow units p child) (get_or_push seen x 0 i last) below)) in
        (r.0, omega (arith, r.1, last), get_or_append_left seen (x ∷ []) 0 r.0 r.1 ∙ r.2)
  ]

  added_behind : (seen : List ℕ) (x : ℕ) → AreBehind units seen → ((child : ℕ) → NodeBelow units x child → Has seen child) → AreBehind units (added seen x)
  added_behind seen x behind there = added_by seen x (AreBehind units) (λ le. behind) (λ none. one_more seen x behind there)

  abbrev Goes : ℕ → Type 0
  Goes l = (page : ℕ) → IsNamed g units l page → (seen : List ℕ) → AreBehind units seen → AreBehind units (with_firsts seen (nodes_left units l page))

  pairs_behind : (l : ℕ) → Goes l → (pairs : List Pair) → AllByRecursion (λ (pair : Pair). IsNamed g units l pair.page.0) pairs → (seen : List ℕ) → AreBehind units seen
      → AreBehind units (with_firsts seen (flat_map (λ (pair : Pair). nodes_left units l pair.page.0) pairs))
  pairs_behind l goes [] named seen behind = behind
  pairs_behind l goes (pair ∷ pairs) named seen behind =
      subst (AreBehind units) (sym (with_append seen (nodes_left units l pair.page.0) (flat_map (λ (p : Pair). nodes_left units l p.page.0) pairs)))
      (pairs_behind l goes pairs named.1 (with_firsts seen (nodes_left units l pair.page.0)) (goes pair.page.0 named.0 seen behind))

  pub level_is : (l page : ℕ) → PairsOf g.fan (units page) (suc l) (pairs_on (units page)) → level_on (units page) ≡ suc l
  level_is l page spelled = (spelled_reads g.fan (units page) (suc l) (pairs_on (units page)) (narrow g) spelled).same_level

  -- a node that one of this level names is left before it
  left_before : (l page child : ℕ) (seen : List ℕ) → level_on (units page) ≡ suc l → NodeBelow units page child → Has (with_firsts seen (flat_map (λ (pair : Pair). nodes_left units l pair.page.0) (pairs_on (units page)))) child
  left_before zero page child seen level below = absurd (omega (arith, level, below.0))
  left_before (suc l) page child seen level below =
      let pair = below.1.0 in
      with_has seen (flat_map (λ (p : Pair). nodes_left units (suc l) p.page.0) (pairs_on (units page))) child
      (has_flat (λ (p : Pair). nodes_left units (suc l) p.page.0) (pairs_on (units page)) pair child below.1.1
      (has_back (flat_map (λ (p : Pair). nodes_left units l p.page.0) (pairs_on (units pair.page.0))) (pair.page.0 ∷ []) child (inl below.1.2)))

  nodes_behind : (l : ℕ) → Goes l
  nodes_behind zero page named seen behind = behind
  nodes_behind (suc l) page named seen behind =
      let below = flat_map (λ (pair : Pair). nodes_left units l pair.page.0) (pairs_on (units page)) in
      subst (AreBehind units) (sym (with_append seen below (page ∷ [])))
      (added_behind (with_firsts seen below) page (pairs_behind l (nodes_behind l) (pairs_on (units page)) named.2 seen behind)
      (λ child named_child. left_before l page child seen (level_is l page named.1) named_child))

  root_behind : (height : ℕ) (page : Option PageNo) → RootNamed g units height page → (seen : List ℕ) → AreBehind units seen → AreBehind units (with_firsts seen (nodes_left_at units height page))
  root_behind height None named seen behind = behind
  root_behind height (Some page) named seen behind = nodes_behind height page.0 named seen behind

  pub roots_behind : (roots : List Root) → AllByRecursion (λ (root : Root). RootNamed g units root.height root.page) roots → (seen : List ℕ) → AreBehind units seen → AreBehind units (with_firsts seen (flat_map (root_nodes units) roots))
  roots_behind [] named seen behind = behind
  roots_behind (root ∷ roots) named seen behind =
      subst (AreBehind units) (sym (with_append seen (root_nodes units root) (flat_map (root_nodes units) roots)))
      (roots_behind roots named.1 (with_firsts seen (root_nodes units root)) (root_behind root.height root.page named.0 seen behind))

  -- ---- what is left of a tree is well formed

  child_named : (l : ℕ) (pairs : List Pair) → AllByRecursion (λ (pair : Pair). IsNamed g units l pair.page.0) pairs → (pair : Pair) → Has pairs pair → IsNamed g units l pair.page.0
  child_named l pairs each pair h = each_has (λ (p : Pair). IsNamed g units l p.page.0) pairs each pair h

  pub node_is_named : (l page unit : ℕ) → IsNamed g units l page → Has (nodes_left units l page) unit → (k : ℕ) × IsNamed g units (suc k) unit
  node_is_named zero page unit named left = absurd left
  node_is_named (suc l) page unit named left = elim (has_either (flat_map (λ (pair : Pair). nodes_left units l pair.page.0) (pairs_on (units page))) (page ∷ []) unit left) [
    | inl below ↦
        let from = has_flat_from (λ (pair : Pair). nodes_left units l pair.page.0) (pairs_on (units page)) unit below in
        node_is_named l from.0.page.0 unit (child_named l (pairs_on (units page)) named.2 from.0 from.1) from.2
    | inr own ↦ elim own [ inl e ↦ (l, subst (IsNamed g units (suc l)) e named) | inr none ↦ absurd none ]
  ]

  pub leaf_is_named : (l page unit : ℕ) → IsNamed g units l page → Has (leaves_left units l page) unit → IsNamed g units zero unit
  leaf_is_named zero page unit named (inl e) = subst (IsNamed g units zero) e named
  leaf_is_named zero page unit named (inr none) = absurd none
  leaf_is_named (suc l) page unit named left =
      let from = has_flat_from (λ (pair : Pair). leaves_left units l pair.page.0) (pairs_on (units page)) unit left in
      leaf_is_named l from.0.page.0 unit (child_named l (pairs_on (units page)) named.2 from.0 from.1) from.2
