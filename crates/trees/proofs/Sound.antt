-- Where trees are well formed, balanced, and none of their nodes is the catalog's page, a walk finds each page as what names it.
use Rattle.std.proofs.Common.{◌≡◌, ◌≢◌, ◌⊎◌, inl, inr, ℕ, zero, suc, ◌-◌, ◌≤◌, List, [], ◌∷◌, Option, Some, None, length, refl, sym, ap, subst, ◌∙◌, arith}
use Rattle.std.specs.List.{AllByRecursion, flat_map}
use Rattle.std.proofs.lemmas.List.{append-nil}
use Rattle.ex_base.specs.declared.faults.PortFault.{PortFault}
use Rattle.ex_base.specs.declared.faults.PortFault.TheVariants.{Disk, Memory, Damaged}
use Rattle.ex_base.specs.declared.geometry.Geometry.{Geometry}
use Rattle.ex_base.specs.declared.names.PageNo.{PageNo}
use Rattle.ex_base.specs.declared.names.Root.{Root}
use Rattle.ex_base.specs.Area.{NamesLeaf, catalog_no}
use Rattle.ex_base.specs.Ports.{IsDamage}
use Rattle.ex_base.specs.Sizes.{leaf_bytes}
use Rattle.trees.specs.declared.Pair.{Pair}
use Rattle.trees.specs.Node.{level_on, pairs_on, total_of}
use Rattle.trees.proofs.NodeLaws.{spelled_reads}
use Rattle.trees.specs.Shape.{Subtree, IsHalfFull, IsRoot}
use Rattle.trees.specs.Trees.{Units, IsNamed, HasSize, RootSpells, for_each_child, shape_on, units_on, root_units}
use Rattle.trees.specs.declared.rows.Part.{Part}
use Rattle.trees.specs.Rows.{AreTrees, AreHalfFull, IsFilled, parts_of, row_units}
use Rattle.trees.specs.Damage.{elsewhere, outside, other, unfilled, IsNodeFault, IsLeafFault, IsWalkFault, AnyPart, root_row_at, IsRootFault, AvoidsCatalog, IsWhole}
use Rattle.ex_base.specs.Seen.{node_seen}
use Rattle.ex_base.proofs.Each.{split_each}
use Rattle.trees.proofs.Parts.{narrow}
use Rattle.trees.proofs.Reading.{children_trees, children_units}

-- a node of at least so many trees, each at least half full
abbrev pub HasEnough : ℕ → ℕ → ℕ → (h : ℕ) → Subtree h → Type 0
HasEnough fan full least zero leaf = Unit {0}
HasEnough fan full least (suc h) trees = (least ≤ length trees) × AllByRecursion (IsHalfFull fan full h) trees

pub half_full_enough : (fan full h : ℕ) (tree : Subtree h) → IsHalfFull fan full h tree → HasEnough fan full fan h tree
half_full_enough fan full zero leaf h = tt
half_full_enough fan full (suc l) trees h = (h.0, h.2)

abbrev pub HaveEnough : Geometry → Units → ℕ → ℕ → List Part → Type 0
HaveEnough geo u l least row = AllByRecursion (λ (part : Part). HasEnough geo.fan (leaf_bytes geo) least l (shape_on u l part.page.0 part.size)) row

none_of : (P : Part → Type 0) (row : List Part) → AllByRecursion (λ (part : Part). P part → ⊥) row → AnyPart P row → ⊥
none_of P [] all h = h
none_of P (part ∷ row) all h = elim h [
  | inl here ↦ all.0 here
  | inr rest ↦ none_of P row all.1 rest
]

each_leaf_good : (geo : Geometry) (u : Units) (row : List Part) (fault : PortFault) → AreTrees geo u 0 row → IsDamage fault → AllByRecursion (λ (part : Part). IsLeafFault geo part.page fault → ⊥) row
each_leaf_good geo u [] fault trees damage = tt
each_leaf_good geo u (part ∷ row) Disk trees damage = absurd damage
each_leaf_good geo u (part ∷ row) Memory trees damage = absurd damage
each_leaf_good geo u (part ∷ row) (Damaged at want got) trees damage =
    (λ h. h.3 (subst (λ (p : ℕ). NamesLeaf geo p) (sym (ap (λ (q : PageNo). q.0) h.0)) trees.0.0), each_leaf_good geo u row (Damaged at want got) trees.1 damage)

-- ---- a node of a tree is what names it

half_children : (fan full before : ℕ) (pairs : List Pair) (u : Units) → AllByRecursion (IsHalfFull fan full 0) (for_each_child (shape_on u 0) before pairs) → AreHalfFull full (parts_of before pairs)
half_children fan full before [] u all = tt
half_children fan full before (pair ∷ pairs) u all = (all.0, half_children fan full pair.count pairs u all.1)

count_children : {A : Type 0} (make : ℕ → ℕ → A) (before : ℕ) (pairs : List Pair) → length (for_each_child make before pairs) ≡ length (parts_of before pairs)
count_children make before [] = refl
count_children make before (pair ∷ pairs) = omega (arith, count_children make pair.count pairs)

halves_at : (geo : Geometry) (u : Units) (l page : ℕ) → AllByRecursion (IsHalfFull geo.fan (leaf_bytes geo) l) (for_each_child (shape_on u l) 0 (pairs_on (u page))) → suc l ≡ 1 → AreHalfFull (leaf_bytes geo) (parts_of 0 (pairs_on (u page)))
halves_at geo u zero page all one = half_children geo.fan (leaf_bytes geo) 0 (pairs_on (u page)) u all
halves_at geo u (suc l) page all one = absurd (omega arith)

is_filled : (geo : Geometry) (u : Units) (l least page n : ℕ) → HasEnough geo.fan (leaf_bytes geo) least (suc l) (shape_on u (suc l) page n) → IsFilled geo (suc l) least (parts_of 0 (pairs_on (u page)))
is_filled geo u l least page n enough = record {
  enough = omega (arith, enough.0, count_children (shape_on u l) 0 (pairs_on (u page)));
  halves = halves_at geo u l page enough.1;
}

node_good : (geo : Geometry) (u : Units) (l least : ℕ) (part : Part) (fault : PortFault) → IsNamed geo u (suc l) part.page.0 → HasSize geo u (suc l) part.page.0 part.size → HasEnough geo.fan (leaf_bytes geo) least (suc l) (shape_on u (suc l) part.page.0 part.size)
    → part.page.0 ≢ catalog_no → IsDamage fault → IsNodeFault geo (u part.page.0) (suc l) part.size least part.page.0 fault → ⊥
node_good geo u l least part Disk named sized enough apart damage h = damage
node_good geo u l least part Memory named sized enough apart damage h = damage
node_good geo u l least part (Damaged at want got) named sized enough apart damage h = elim h.2 [
  | elsewhere out is ↦ out (named.0, apart)
  | outside out is ↦ out (suc l) (pairs_on (u part.page.0)) named.1
  | other is differs ↦
      let level : level_on (u part.page.0) ≡ suc l = (spelled_reads geo.fan (u part.page.0) (suc l) (pairs_on (u part.page.0)) (narrow geo) named.1).same_level in
      differs (is ∙ ap (λ k. node_seen k (total_of (pairs_on (u part.page.0)))) level ∙ ap (node_seen (suc l)) sized.0)
  | unfilled out is ↦ out (is_filled geo u l least part.page.0 part.size enough)
]

-- ---- the trees below it

children_enough : (geo : Geometry) (u : Units) (l before : ℕ) (pairs : List Pair) → AllByRecursion (IsHalfFull geo.fan (leaf_bytes geo) l) (for_each_child (shape_on u l) before pairs) → HaveEnough geo u l geo.fan (parts_of before pairs)
children_enough geo u l before [] all = tt
children_enough geo u l before (pair ∷ pairs) all = (half_full_enough geo.fan (leaf_bytes geo) l (shape_on u l pair.page.0 (pair.count - before)) all.0, children_enough geo u l pair.count pairs all.1)

children_avoid : (f : ℕ → List ℕ) (before : ℕ) (pairs : List Pair) → AvoidsCatalog (flat_map (λ (pair : Pair). f pair.page.0) pairs) → AvoidsCatalog (flat_map (λ (part : Part). f part.page.0) (parts_of before pairs))
children_avoid f before pairs all = subst AvoidsCatalog (children_units f before pairs) all

each_node_good : (geo : Geometry) (u : Units) (l least : ℕ) (row : List Part) (fault : PortFault) → AreTrees geo u (suc l) row → HaveEnough geo u (suc l) least row → AvoidsCatalog (row_units u (suc l) row) → IsDamage fault
    → ((below : List Part) → AreTrees geo u l below → HaveEnough geo u l geo.fan below → AvoidsCatalog (row_units u l below) → IsWalkFault geo u l geo.fan below fault → ⊥)
    → (walk : Part → Type 0) → ((part : Part) → walk part → IsNodeFault geo (u part.page.0) (suc l) part.size least part.page.0 fault ⊎ IsWalkFault geo u l geo.fan (parts_of 0 (pairs_on (u part.page.0))) fault)
    → AllByRecursion (λ (part : Part). walk part → ⊥) row
each_node_good geo u l least [] fault trees enough avoid damage ih walk open_walk = tt
each_node_good geo u l least (part ∷ row) fault trees enough avoid damage ih walk open_walk =
    let split = split_each (λ p. p ≢ catalog_no) (units_on u (suc l) part.page.0) (row_units u (suc l) row) avoid in (
      λ w. elim (open_walk part w) [
        | inl node ↦ node_good geo u l least part fault trees.0.0 trees.0.1 enough.0 split.0.0 damage node
        | inr below ↦ ih (parts_of 0 (pairs_on (u part.page.0))) (children_trees geo u l 0 (pairs_on (u part.page.0)) trees.0.0.2 trees.0.1.1) (children_enough geo u l 0 (pairs_on (u part.page.0)) enough.0.1)
            (children_avoid (units_on u l) 0 (pairs_on (u part.page.0)) split.0.1) below
      ],
      each_node_good geo u l least row fault trees.1 enough.1 split.1 damage ih walk open_walk,
    )

-- no damage is told of such trees
pub sound_walk : (geo : Geometry) (u : Units) (l least : ℕ) (row : List Part) (fault : PortFault) → AreTrees geo u l row → HaveEnough geo u l least row → AvoidsCatalog (row_units u l row) → IsWalkFault geo u l least row fault → IsDamage fault → ⊥
sound_walk geo u l least row Disk trees enough avoid h damage = damage
sound_walk geo u l least row Memory trees enough avoid h damage = damage
sound_walk geo u zero least row (Damaged at want got) trees enough avoid h damage = none_of _ row (each_leaf_good geo u row (Damaged at want got) trees damage) h
sound_walk geo u (suc l) least row (Damaged at want got) trees enough avoid h damage =
    none_of _ row (each_node_good geo u l least row (Damaged at want got) trees enough avoid damage (λ below a b c w. sound_walk geo u l geo.fan below (Damaged at want got) a b c w damage) _ (λ part w. elim w [
      | inl node ↦ inl node
      | inr below ↦ inr below.1
    ])) h

-- ---- a root

root_enough : (geo : Geometry) (u : Units) (height page size : ℕ) → IsRoot geo.fan (leaf_bytes geo) height (shape_on u height page size) → HasEnough geo.fan (leaf_bytes geo) 2 height (shape_on u height page size)
root_enough geo u zero page size h = tt
root_enough geo u (suc l) page size h = (h.0, h.2)

sound_at : (geo : Geometry) (u : Units) (height size : ℕ) (page : Option PageNo) (bytes : List ℕ) (fault : PortFault) → RootSpells geo u (record { height = height; page = page; size = size }) bytes
    → AvoidsCatalog (root_units u (record { height = height; page = page; size = size })) → IsWalkFault geo u height 2 (root_row_at size page) fault → IsDamage fault → ⊥
sound_at geo u height size None bytes fault spells avoids h damage = sound_walk geo u height 2 [] fault tt tt tt h damage
sound_at geo u height size (Some page) bytes fault spells avoids h damage =
    sound_walk geo u height 2 (record { size = size; page = page } ∷ []) fault ((spells.named, spells.sized), tt) (root_enough geo u height page.0 size spells.balanced, tt)
    (subst AvoidsCatalog (sym (append-nil (units_on u height page.0))) avoids) h damage

pub sound_root : (geo : Geometry) (u : Units) (root : Root) (fault : PortFault) → IsWhole geo u root → IsRootFault geo u root fault → IsDamage fault → ⊥
sound_root geo u root fault whole h damage = sound_at geo u root.height root.size root.page whole.bytes fault whole.spells whole.avoids h damage
