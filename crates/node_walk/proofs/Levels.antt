-- The level of a unit, and the trees below it.
use Rattle.std.proofs.Common.{◌≡◌, ◌≤◌, ◌-◌, ℕ, zero, suc, List, [], ◌∷◌, ◌++◌, arith, refl, sym, ap, subst, ◌∙◌}
use Rattle.std.specs.Prelude.{Contains}
use Rattle.std.specs.List.{flat_map, AllByRecursion}
use Rattle.ex_base.specs.declared.geometry.Geometry.{Geometry}
use Rattle.ex_base.specs.Area.{InPageArea, NamesLeaf}
use Rattle.ex_base.specs.Sizes.{most_page}
use Rattle.ex_base.proofs.Members.{contains_later, contains_none}
use Rattle.trees.specs.declared.Pair.{Pair}
use Rattle.trees.specs.Node.{PairsOf, pairs_on}
use Rattle.trees.proofs.NodeLaws.{spelled_reads}
use Rattle.trees.specs.Owners.{StandsAt}
use Rattle.trees.specs.Trees.{Units, IsNamed, units_on}
use Rattle.trees.specs.declared.rows.Part.{Part}
use Rattle.trees.specs.Rows.{parts_of, row_units}
use Rattle.node_walk.specs.declared.nodes.Met.{Met}
use Rattle.node_walk.specs.TreesNamed.{ShowsPages}
use Rattle.node_walk.specs.Walk.{IsNodeOn, level_below, row_at}
use Rattle.node_walk.proofs.Lists.{in_first}

pub narrow : (g : Geometry) → g.fan ≤ 340
narrow g = omega (arith, g.narrow, most_page g)

pub page_or_leaf : (g : Geometry) (page : ℕ) → InPageArea g page → NamesLeaf g page → ⊥
page_or_leaf g page in_area (j, below, is) = omega (arith, in_area.1, is)

-- a page is a node of one level
pub one_level : (fan : ℕ) (bytes : List ℕ) (l m : ℕ) (xs ys : List Pair) → fan ≤ 340 → PairsOf fan bytes l xs → PairsOf fan bytes m ys → l ≡ m
one_level fan bytes l m xs ys small x y = sym (spelled_reads fan bytes l xs small x).same_level ∙ (spelled_reads fan bytes m ys small y).same_level

pub same_level : (g : Geometry) (u : Units) (l m page : ℕ) → StandsAt g u l page → IsNamed g u m page → l ≡ m
same_level g u zero zero page at named = refl
same_level g u zero (suc m) page at named = absurd (page_or_leaf g page named.0 at)
same_level g u (suc l) zero page at named = absurd (page_or_leaf g page at.0 named)
same_level g u (suc l) (suc m) page at named = one_level g.fan (u page) (suc l) (suc m) _ _ (narrow g) at.1 named.1

pub minus_one : (l : ℕ) → l - 1 ≡ level_below l
minus_one zero = refl
minus_one (suc l) = omega arith

-- ---- the trees below a unit

pub units_of_parts : (u : Units) (l before : ℕ) (pairs : List Pair) → row_units u l (parts_of before pairs) ≡ flat_map (λ (pair : Pair). units_on u l pair.page.0) pairs
units_of_parts u l before [] = refl
units_of_parts u l before (pair ∷ pairs) = ap (λ xs. units_on u l pair.page.0 ++ xs) (units_of_parts u l pair.count pairs)

pub to_parts : (P : ℕ → Type 0) (before : ℕ) (pairs : List Pair) → AllByRecursion (λ (pair : Pair). P pair.page.0) pairs → AllByRecursion (λ (part : Part). P part.page.0) (parts_of before pairs)
to_parts P before [] all = tt
to_parts P before (pair ∷ pairs) all = (all.0, to_parts P pair.count pairs all.1)

pub from_parts : (P : ℕ → Type 0) (before : ℕ) (pairs : List Pair) → AllByRecursion (λ (part : Part). P part.page.0) (parts_of before pairs) → AllByRecursion (λ (pair : Pair). P pair.page.0) pairs
from_parts P before [] all = tt
from_parts P before (pair ∷ pairs) all = (all.0, from_parts P pair.count pairs all.1)

pub root_inside : (u : Units) (l page : ℕ) → Contains (units_on u l page) page
root_inside u zero page = in_first page []
root_inside u (suc l) page = in_first page _

-- the units of the trees below a unit are units of its tree
pub below_inside : (u : Units) (l page p : ℕ) → Contains (row_units u (level_below l) (row_at u l page)) p → Contains (units_on u l page) p
below_inside u zero page p h = absurd (contains_none p h)
below_inside u (suc l) page p h = contains_later page p _ (subst (λ xs. Contains xs p) (units_of_parts u l 0 _) h)

pub named_below : (g : Geometry) (u : Units) (l page : ℕ) → IsNamed g u l page → AllByRecursion (λ (part : Part). IsNamed g u (level_below l) part.page.0) (row_at u l page)
named_below g u zero page named = tt
named_below g u (suc l) page named = to_parts (IsNamed g u l) 0 _ named.2

pub named_at : (g : Geometry) (u : Units) (l page : ℕ) → StandsAt g u l page → AllByRecursion (λ (part : Part). IsNamed g u (level_below l) part.page.0) (row_at u l page) → IsNamed g u l page
named_at g u zero page at below = at
named_at g u (suc l) page at below = (at.0, at.1, from_parts (IsNamed g u l) 0 _ below)

-- a page with a node of another level is no tree of this level
pub not_named : (g : Geometry) (u : Units) (pages : ℕ → List ℕ) (l page : ℕ) (met : Met) (below : List Part) → 1 ≤ l → ShowsPages g pages u → IsNodeOn g.fan (pages page) met below → (met.level ≡ l → ⊥) → IsNamed g u l page → ⊥
not_named g u pages zero page met below some shows on other named = absurd (omega arith)
not_named g u pages (suc l) page met below some shows on other named =
    other (one_level g.fan (pages page) met.level (suc l) _ _ (narrow g) on.fits (subst (λ (bytes : List ℕ). PairsOf g.fan bytes (suc l) (pairs_on (u page))) (shows page named.0) named.1))

-- no node stands on the page as it is read
pub not_read : (g : Geometry) (u : Units) (pages : ℕ → List ℕ) (level page : ℕ) → 1 ≤ level → ShowsPages g pages u → ((l : ℕ) (pairs : List Pair) → PairsOf g.fan (pages page) l pairs → ⊥)
    → IsNamed g u level page → ⊥
not_read g u pages zero page some shows none named = absurd (omega (arith, some))
not_read g u pages (suc l) page some shows none named =
    none (suc l) (pairs_on (u page)) (subst (λ (bytes : List ℕ). PairsOf g.fan bytes (suc l) (pairs_on (u page))) (shows page named.0) named.1)
