-- How the owners of units move where units are taken and freed.
use Rattle.std.specs.Prelude.{◌≡◌, ◌⊎◌, ℕ, ◌≤◌, Bool, true, false, List, Option, Contains}
use Rattle.std.specs.List.{flat_map, AllByRecursion}
use Rattle.ex_base.specs.declared.geometry.Geometry.{Geometry}
use Rattle.ex_base.specs.declared.names.Root.{Root}
use Rattle.ex_base.specs.Area.{InPageArea}
use Rattle.ex_base.specs.Ports.{times}
use Rattle.trees.specs.Trees.{RootNamed, Units, root_units}
use Rattle.volume_model.specs.Held.{root_here}

-- A volume has at most so many roots: one for each record of a large version, of which a page of a file has 204 at most.
abbrev pub volume_roots_most : ℕ
volume_roots_most = 816000000

-- With at most so many roots in all no count of references reaches its end: those of a volume, those that a transaction gained, and those of open scans.
abbrev pub roots_most : ℕ
roots_most = 1500000000

-- the units of the tree of a root, where there is one
abbrev pub units_under : Units → Option Root → List ℕ
units_under units root = flat_map (root_units units) (root_here root)

-- the root is named, where there is one
abbrev pub IsNamedRoot : Geometry → Units → Option Root → Type 0
IsNamedRoot g units root = AllByRecursion (λ (r : Root). RootNamed g units r.height r.page) (root_here root)

-- Used units stay used and keep their bytes. The logged pages afterwards are those of before and some that were free. The nodes are the pages that were taken
-- and are no logged page. What was taken and is no logged page is of the tree that came, whose units were taken or had an owner.
pub record UnitsMade (g : Geometry) (units later : Units) (used now : ℕ → Bool) (refs : ℕ → ℕ) (logged pages nodes : List ℕ) (come : Option Root) : Type 0 where
  pub kept : (u : ℕ) → used u ≡ true → later u ≡ units u
  pub stays : (u : ℕ) → used u ≡ true → now u ≡ true
  pub logs : (u : ℕ) → 1 ≤ times u logged → 1 ≤ times u pages
  pub paged : (u : ℕ) → 1 ≤ times u pages → (now u ≡ true) × ((1 ≤ times u logged) ⊎ (used u ≡ false))
  pub taken : AllByRecursion (λ u. (used u ≡ false) × (now u ≡ true) × InPageArea g u × (times u pages ≡ 0)) nodes
  pub once : (u : ℕ) → times u nodes ≤ 1
  pub all : (u : ℕ) → used u ≡ false → now u ≡ true → InPageArea g u → times u pages ≡ 0 → 1 ≤ times u nodes
  pub named : IsNamedRoot g later come
  pub tree : (u : ℕ) → used u ≡ false → now u ≡ true → times u pages ≡ 0 → 1 ≤ times u (units_under later come)
  pub own : (u : ℕ) → 1 ≤ times u (units_under later come) → (now u ≡ true) × (times u pages ≡ 0) × ((1 ≤ refs u) ⊎ (used u ≡ false))

-- Some units are freed: they have no reference and are none of the pages that rest. Of these pages, those that don't rest are freed.
pub record PagesGo (used left : ℕ → Bool) (refs : ℕ → ℕ) (pages rest : List ℕ) : Type 0 where
  pub still : (u : ℕ) → left u ≡ true → used u ≡ true
  pub freed : (u : ℕ) → used u ≡ true → left u ≡ false → (refs u ≡ 0) × (¬ Contains rest u)
  pub all : (u : ℕ) → Contains pages u → ¬ Contains rest u → left u ≡ false
