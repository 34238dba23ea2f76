-- Trees on a volume: which are well formed, what they spell, their shape and their units.
use Rattle.std.specs.Prelude.{◌≡◌, ℕ, zero, suc, ◌-◌, ◌≤◌, List, [], ◌∷◌, take, Option, Some, None, nat_lt, if◌then◌else◌}
use Rattle.std.specs.List.{flat_map, concat, AllByRecursion}
use Rattle.ex_base.specs.declared.names.PageNo.{PageNo}
use Rattle.ex_base.specs.declared.geometry.Geometry.{Geometry}
use Rattle.ex_base.specs.declared.names.Root.{Root}
use Rattle.ex_base.specs.Area.{InPageArea, NamesLeaf, leaf_at, area_end}
use Rattle.ex_base.specs.Sizes.{leaf_bytes}
use Rattle.trees.specs.declared.Pair.{Pair}
use Rattle.trees.specs.Node.{PairsOf, pairs_on, total_of}
use Rattle.trees.specs.Shape.{Subtree, Shape, IsBalanced}

-- the bytes of each unit: a page of the page area, or a whole leaf of the segment area
abbrev pub Units : Type 0
Units = ℕ → List ℕ

-- ---- the children of a node, each with its bytes: its count less the one before

abbrev pub for_each_child : {A : Type 0} → (ℕ → ℕ → A) → ℕ → List Pair → List A
for_each_child make before [] = []
for_each_child make before (pair ∷ pairs) = make pair.page.0 (pair.count - before) ∷ for_each_child make pair.count pairs

abbrev pub EachChild : (ℕ → ℕ → Type 0) → ℕ → List Pair → Type 0
EachChild P before [] = Unit {0}
EachChild P before (pair ∷ pairs) = P pair.page.0 (pair.count - before) × EachChild P pair.count pairs

-- ---- which trees are well formed

-- each page lies in its area, and each node is in the grammar, of the level that its parent asks
abbrev pub IsNamed : Geometry → Units → ℕ → ℕ → Type 0
IsNamed g units zero page = NamesLeaf g page
IsNamed g units (suc l) page = InPageArea g page × PairsOf g.fan (units page) (suc l) (pairs_on (units page)) × AllByRecursion (λ pair. IsNamed g units l pair.page.0) (pairs_on (units page))

-- each node's total is what its parent gives it, and a leaf has 1 byte to all of its unit
abbrev pub HasSize : Geometry → Units → ℕ → ℕ → ℕ → Type 0
HasSize g units zero page n = (1 ≤ n) × (n ≤ leaf_bytes g)
HasSize g units (suc l) page n = (total_of (pairs_on (units page)) ≡ n) × EachChild (HasSize g units l) 0 (pairs_on (units page))

-- ---- what a tree is, as it is read

-- the bytes: the front of a leaf, and the children's bytes joined
abbrev pub bytes_on : Units → ℕ → ℕ → ℕ → List ℕ
bytes_on units zero page n = take n (units page)
bytes_on units (suc l) page n = concat (for_each_child (bytes_on units l) 0 (pairs_on (units page)))

abbrev pub shape_on : Units → (l : ℕ) → ℕ → ℕ → Subtree l
shape_on units zero page n = n
shape_on units (suc l) page n = for_each_child (shape_on units l) 0 (pairs_on (units page))

-- the root page and the units of the children, each as often as it is named
abbrev pub units_on : Units → ℕ → ℕ → List ℕ
units_on units zero page = page ∷ []
units_on units (suc l) page = page ∷ flat_map (λ pair. units_on units l pair.page.0) (pairs_on (units page))

-- ---- trees

-- the tree of this level at the page spells these n bytes
pub record Spells (g : Geometry) (units : Units) (l page n : ℕ) (bytes : List ℕ) : Type 0 where
  pub named : IsNamed g units l page
  pub sized : HasSize g units l page n
  pub spelled : bytes ≡ bytes_on units l page n

-- ---- the same of a root, which may have no tree

abbrev pub root_shape_at : Units → ℕ → ℕ → Option PageNo → Shape
root_shape_at units height size None = None
root_shape_at units height size (Some page) = Some (height, shape_on units height page.0 size)

abbrev pub root_shape : Units → Root → Shape
root_shape units root = root_shape_at units root.height root.size root.page

abbrev pub root_bytes_at : Units → ℕ → ℕ → Option PageNo → List ℕ
root_bytes_at units height size None = []
root_bytes_at units height size (Some page) = bytes_on units height page.0 size

abbrev pub root_bytes : Units → Root → List ℕ
root_bytes units root = root_bytes_at units root.height root.size root.page

abbrev pub root_units_at : Units → ℕ → Option PageNo → List ℕ
root_units_at units height None = []
root_units_at units height (Some page) = units_on units height page.0

abbrev pub root_units : Units → Root → List ℕ
root_units units root = root_units_at units root.height root.page

abbrev pub RootNamed : Geometry → Units → ℕ → Option PageNo → Type 0
RootNamed g units height None = Unit {0}
RootNamed g units height (Some page) = IsNamed g units height page.0

abbrev pub RootSized : Geometry → Units → ℕ → ℕ → Option PageNo → Type 0
RootSized g units height size None = (size ≡ 0) × (height ≡ 0)
RootSized g units height size (Some page) = HasSize g units height page.0 size

-- the root spells these bytes, in a balanced tree or in none
pub record RootSpells (g : Geometry) (units : Units) (root : Root) (bytes : List ℕ) : Type 0 where
  pub named : RootNamed g units root.height root.page
  pub sized : RootSized g units root.height root.size root.page
  pub balanced : IsBalanced g.fan (leaf_bytes g) (root_shape units root)
  pub spelled : bytes ≡ root_bytes units root

-- ---- the units of a volume, from its pages and its disk

abbrev pub units_from : Geometry → (ℕ → List ℕ) → List ℕ → Units
units_from g pages disk unit = if nat_lt unit (area_end g) then pages unit else leaf_at g disk unit
