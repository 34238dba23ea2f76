-- The nodes above high leaves, and the high leaves, are units of a tree that are told by what stands below them.
use Rattle.std.proofs.Common.{◌≡◌, inl, inr, ℕ, zero, suc, Bool, true, false, List, [], ◌∷◌, ◌++◌, map, Option, Some, None, refl, sym, ap, subst, ◌∙◌, arith, true≢false}
use Rattle.std.specs.Prelude.{if◌then◌else◌}
use Rattle.std.specs.List.{AllByRecursion, flat_map}
use Rattle.std.proofs.lemmas.Bool.{or_cases}
use Rattle.ex_base.specs.declared.geometry.Geometry.{Geometry}
use Rattle.ex_base.specs.declared.names.PageNo.{PageNo}
use Rattle.ex_base.specs.Area.{NamesLeaf}
use Rattle.trees.specs.declared.Pair.{Pair}
use Rattle.trees.specs.Made.{Has}
use Rattle.trees.specs.Names.{page_of_pair}
use Rattle.trees.specs.Node.{pairs_on}
use Rattle.trees.specs.Owners.{named_on, page_here}
use Rattle.trees.specs.Trees.{IsNamed, RootNamed, Units, root_units_at, units_on}
use Rattle.trees.proofs.Laid.{has_left, has_right}
use Rattle.trees.proofs.Over.{all_has, has_split}
use Rattle.trees.proofs.RootSteps.{has_each}
use Rattle.compact.specs.High.{any_of, has_high, high_leaves, is_high, low_leaves, nodes_above}
use Rattle.compact.proofs.Levels.{same_level, sub_tree}

-- ---- the trees below a node's pairs

in_pairs : (f h : ℕ → List ℕ) (K : ℕ → Type 0) (pairs : List Pair) (unit : ℕ) → ((page : ℕ) → K page → Has (f page) unit → Has (h page) unit) → AllByRecursion (λ (pair : Pair). K pair.page.0) pairs
    → Has (flat_map (λ (pair : Pair). f pair.page.0) pairs) unit → Has (flat_map h (map page_of_pair pairs)) unit
in_pairs f h K [] unit one named has = absurd has
in_pairs f h K (pair ∷ pairs) unit one named has = elim (has_split (f pair.page.0) (flat_map (λ (p : Pair). f p.page.0) pairs) unit has) [
  | inl here ↦ has_left (h pair.page.0) (flat_map h (map page_of_pair pairs)) unit (one pair.page.0 named.0 here)
  | inr rest ↦ has_right (h pair.page.0) (flat_map h (map page_of_pair pairs)) unit (in_pairs f h K pairs unit one named.1 rest)
]

from_pairs : (f h : ℕ → List ℕ) (K : ℕ → Type 0) (P : Type 0) (pairs : List Pair) (unit : ℕ) → ((page : ℕ) → K page → Has (h page) unit → P × Has (f page) unit) → AllByRecursion (λ (pair : Pair). K pair.page.0) pairs
    → Has (flat_map h (map page_of_pair pairs)) unit → P × Has (flat_map (λ (pair : Pair). f pair.page.0) pairs) unit
from_pairs f h K P [] unit one named has = absurd has
from_pairs f h K P (pair ∷ pairs) unit one named has = elim (has_split (h pair.page.0) (flat_map h (map page_of_pair pairs)) unit has) [
  | inl here ↦ let found = one pair.page.0 named.0 here in (found.0, has_left (f pair.page.0) (flat_map (λ (p : Pair). f p.page.0) pairs) unit found.1)
  | inr rest ↦ let found = from_pairs f h K P pairs unit one named.1 rest in (found.0, has_right (f pair.page.0) (flat_map (λ (p : Pair). f p.page.0) pairs) unit found.1)
]

module _ (g : Geometry) (dense : ℕ) (u : Units) where
  -- a node that leads to a high leaf
  pub record IsAbove (unit : ℕ) : Type 0 where
    pub level : ℕ
    pub named : IsNamed g u (suc level) unit
    pub high : has_high g dense u (suc level) unit ≡ true

  pub record IsHighLeaf (unit : ℕ) : Type 0 where
    pub named : NamesLeaf g unit
    pub high : is_high g dense unit ≡ true

  -- ---- in a tree

  leaf_in : (l page unit : ℕ) → IsNamed g u l page → IsHighLeaf unit → Has (units_on u l page) unit → Has (high_leaves g dense u l page) unit
  leaf_in zero page unit named leaf (inl same) = subst (λ (b : Bool). Has (if b then page ∷ [] else []) unit) (sym (ap (is_high g dense) same ∙ leaf.high)) (inl same)
  leaf_in zero page unit named leaf (inr none) = absurd none
  leaf_in (suc l) page unit named leaf (inl same) = absurd (let at = leaf.named in omega (arith, at.2, named.0.1, same))
  leaf_in (suc l) page unit named leaf (inr below) = in_pairs (units_on u l) (high_leaves g dense u l) (IsNamed g u l) (pairs_on (u page)) unit (λ p n h. leaf_in l p unit n leaf h) named.2 below

  node_in : (l page unit : ℕ) → IsNamed g u l page → IsAbove unit → Has (units_on u l page) unit → Has (nodes_above g dense u l page) unit
  node_in zero page unit named above (inl same) = absurd (let at = above.named in omega (arith, named.2, at.0.1, same))
  node_in zero page unit named above (inr none) = absurd none
  node_in (suc l) page unit named above (inl same) =
      let level : suc l ≡ suc above.level = same_level g u (suc l) (suc above.level) unit (subst (IsNamed g u (suc l)) same named) above.named in
      let here : has_high g dense u (suc l) unit ≡ true = subst (λ (m : ℕ). has_high g dense u m unit ≡ true) (sym level) above.high in
      let is : has_high g dense u (suc l) page ≡ true = ap (has_high g dense u (suc l)) same ∙ here in
      has_left (if has_high g dense u (suc l) page then page ∷ [] else []) (flat_map (nodes_above g dense u l) (named_on u page)) unit
      (subst (λ (b : Bool). Has (if b then page ∷ [] else []) unit) (sym is) (inl same))
  node_in (suc l) page unit named above (inr below) =
      has_right (if has_high g dense u (suc l) page then page ∷ [] else []) (flat_map (nodes_above g dense u l) (named_on u page)) unit
      (in_pairs (units_on u l) (nodes_above g dense u l) (IsNamed g u l) (pairs_on (u page)) unit (λ p n h. node_in l p unit n above h) named.2 below)

  leaf_of : (l page unit : ℕ) → IsNamed g u l page → Has (high_leaves g dense u l page) unit → IsHighLeaf unit × Has (units_on u l page) unit
  leaf_of zero page unit named has = by_test (is_high g dense page) refl has
    where
      by_test : (b : Bool) → is_high g dense page ≡ b → Has (if b then page ∷ [] else []) unit → IsHighLeaf unit × Has (page ∷ []) unit
      by_test true is (inl same) = (subst IsHighLeaf same (record { named = named; high = is }), inl same)
      by_test true is (inr none) = absurd none
      by_test false is none = absurd none
  leaf_of (suc l) page unit named has =
      let found = from_pairs (units_on u l) (high_leaves g dense u l) (IsNamed g u l) (IsHighLeaf unit) (pairs_on (u page)) unit (λ p n h. leaf_of l p unit n h) named.2 has in
      (found.0, inr found.1)

  node_of : (l page unit : ℕ) → IsNamed g u l page → Has (nodes_above g dense u l page) unit → IsAbove unit × Has (units_on u l page) unit
  node_of zero page unit named has = absurd has
  node_of (suc l) page unit named has = elim (has_split (if has_high g dense u (suc l) page then page ∷ [] else []) (flat_map (nodes_above g dense u l) (named_on u page)) unit has) [
    | inl here ↦ by_test (has_high g dense u (suc l) page) refl here
    | inr below ↦
        let found = from_pairs (units_on u l) (nodes_above g dense u l) (IsNamed g u l) (IsAbove unit) (pairs_on (u page)) unit (λ p n h. node_of l p unit n h) named.2 below in
        (found.0, inr found.1)
  ]
    where
      by_test : (b : Bool) → has_high g dense u (suc l) page ≡ b → Has (if b then page ∷ [] else []) unit → IsAbove unit × Has (units_on u (suc l) page) unit
      by_test true is (inl same) = (subst IsAbove same (record { level = l; named = named; high = is }), inl same)
      by_test true is (inr none) = absurd none
      by_test false is none = absurd none

  -- a leaf that isn't high is one of the others
  low_in : (l page unit : ℕ) → IsNamed g u l page → NamesLeaf g unit → is_high g dense unit ≡ false → Has (units_on u l page) unit → Has (low_leaves g dense u l page) unit
  low_in zero page unit named leaf low (inl same) = subst (λ (b : Bool). Has (if b then [] else page ∷ []) unit) (sym (ap (is_high g dense) same ∙ low)) (inl same)
  low_in zero page unit named leaf low (inr none) = absurd none
  low_in (suc l) page unit named leaf low (inl same) = absurd (omega (arith, leaf.2, named.0.1, same))
  low_in (suc l) page unit named leaf low (inr below) = in_pairs (units_on u l) (low_leaves g dense u l) (IsNamed g u l) (pairs_on (u page)) unit (λ p n h. low_in l p unit n leaf low h) named.2 below

  -- ---- a tree with a high leaf has one

  some_named : (l : ℕ) (pages : List ℕ) → ((page : ℕ) → has_high g dense u l page ≡ true → (leaf : ℕ) × Has (high_leaves g dense u l page) leaf) → any_of (has_high g dense u l) pages ≡ true
      → (leaf : ℕ) × Has (flat_map (high_leaves g dense u l) pages) leaf
  some_named l [] one high = absurd (true≢false (sym high))
  some_named l (p ∷ pages) one high = elim (or_cases (has_high g dense u l p) (any_of (has_high g dense u l) pages) high) [
    | inl here ↦ let found = one p here in (found.0, has_left (high_leaves g dense u l p) (flat_map (high_leaves g dense u l) pages) found.0 found.1)
    | inr rest ↦ let found = some_named l pages one rest in (found.0, has_right (high_leaves g dense u l p) (flat_map (high_leaves g dense u l) pages) found.0 found.1)
  ]

  some_leaf : (l page : ℕ) → has_high g dense u l page ≡ true → (leaf : ℕ) × Has (high_leaves g dense u l page) leaf
  some_leaf zero page high = (page, subst (λ (b : Bool). Has (if b then page ∷ [] else []) page) (sym high) (inl refl))
  some_leaf (suc l) page high = some_named l (named_on u page) (λ p h. some_leaf l p h) high

  -- the units of the tree at a unit of a tree are units of that
  within : (l page k unit : ℕ) → IsNamed g u l page → Has (units_on u l page) unit → IsNamed g u k unit → AllByRecursion (Has (units_on u l page)) (units_on u k unit)
  within l page k unit named has at =
      let sub = sub_tree g u (Has (units_on u l page)) l page unit named (all_has (units_on u l page)) has in
      subst (λ (m : ℕ). AllByRecursion (Has (units_on u l page)) (units_on u m unit)) (same_level g u sub.level k unit sub.named at) sub.all

  -- a node of a tree without a high leaf leads to none
  none_in : (l page unit : ℕ) → IsNamed g u l page → IsAbove unit → Has (units_on u l page) unit → high_leaves g dense u l page ≡ [] → ⊥
  none_in l page unit named above has none =
      let found = some_leaf (suc above.level) unit above.high in
      let leaf = leaf_of (suc above.level) unit found.0 above.named found.1 in
      let here = leaf_in l page found.0 named leaf.0 (has_each (Has (units_on u l page)) (units_on u (suc above.level) unit) found.0 (within l page (suc above.level) unit named has above.named) leaf.1) in
      subst (λ (xs : List ℕ). Has xs found.0) none here

  -- ---- the same of a root

  pub root_leaf_in : (height : ℕ) (page : Option PageNo) (unit : ℕ) → RootNamed g u height page → IsHighLeaf unit → Has (root_units_at u height page) unit → Has (flat_map (high_leaves g dense u height) (page_here page)) unit
  root_leaf_in height None unit named leaf has = absurd has
  root_leaf_in height (Some page) unit named leaf has = has_left (high_leaves g dense u height page.0) [] unit (leaf_in height page.0 unit named leaf has)

  pub root_node_in : (height : ℕ) (page : Option PageNo) (unit : ℕ) → RootNamed g u height page → IsAbove unit → Has (root_units_at u height page) unit → Has (flat_map (nodes_above g dense u height) (page_here page)) unit
  root_node_in height None unit named above has = absurd has
  root_node_in height (Some page) unit named above has = has_left (nodes_above g dense u height page.0) [] unit (node_in height page.0 unit named above has)

  only_front : (xs : List ℕ) (p : ℕ) → Has (xs ++ []) p → Has xs p
  only_front xs p has = elim (has_split xs [] p has) [ inl here ↦ here | inr none ↦ absurd none ]

  pub root_leaf_of : (height : ℕ) (page : Option PageNo) (unit : ℕ) → RootNamed g u height page → Has (flat_map (high_leaves g dense u height) (page_here page)) unit → IsHighLeaf unit × Has (root_units_at u height page) unit
  root_leaf_of height None unit named has = absurd has
  root_leaf_of height (Some page) unit named has = leaf_of height page.0 unit named (only_front (high_leaves g dense u height page.0) unit has)

  pub root_node_of : (height : ℕ) (page : Option PageNo) (unit : ℕ) → RootNamed g u height page → Has (flat_map (nodes_above g dense u height) (page_here page)) unit → IsAbove unit × Has (root_units_at u height page) unit
  root_node_of height None unit named has = absurd has
  root_node_of height (Some page) unit named has = node_of height page.0 unit named (only_front (nodes_above g dense u height page.0) unit has)

  pub root_low_in : (height : ℕ) (page : Option PageNo) (unit : ℕ) → RootNamed g u height page → NamesLeaf g unit → is_high g dense unit ≡ false → Has (root_units_at u height page) unit
      → Has (flat_map (low_leaves g dense u height) (page_here page)) unit
  root_low_in height None unit named leaf low has = absurd has
  root_low_in height (Some page) unit named leaf low has = has_left (low_leaves g dense u height page.0) [] unit (low_in height page.0 unit named leaf low has)

  pub root_none_in : (height : ℕ) (page : Option PageNo) (unit : ℕ) → RootNamed g u height page → IsAbove unit → Has (root_units_at u height page) unit → flat_map (high_leaves g dense u height) (page_here page) ≡ [] → ⊥
  root_none_in height None unit named above has none = absurd has
  root_none_in height (Some page) unit named above has none = none_in height page.0 unit named above has (front_none (high_leaves g dense u height page.0) none)
    where
      front_none : (xs : List ℕ) → xs ++ [] ≡ [] → xs ≡ []
      front_none [] e = refl
      front_none (x ∷ xs) e = absurd (cc (e))

  -- the tree at a unit of a root's tree
  pub root_within : (height : ℕ) (page : Option PageNo) (k unit : ℕ) → RootNamed g u height page → Has (root_units_at u height page) unit → IsNamed g u k unit → AllByRecursion (Has (root_units_at u height page)) (units_on u k unit)
  root_within height None k unit named has at = absurd has
  root_within height (Some page) k unit named has at = within height page.0 k unit named has at

  -- its level
  pub root_sub : (P : ℕ → Type 0) (height : ℕ) (page : Option PageNo) (unit : ℕ) → RootNamed g u height page → AllByRecursion P (root_units_at u height page) → Has (root_units_at u height page) unit
      → (level : ℕ) × IsNamed g u level unit × AllByRecursion P (units_on u level unit)
  root_sub P height None unit named all has = absurd has
  root_sub P height (Some page) unit named all has = let sub = sub_tree g u P height page.0 unit named all has in (sub.level, sub.named, sub.all)
