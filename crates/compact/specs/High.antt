-- Which units are high, and which units lead to them.
use Rattle.std.specs.Prelude.{ℕ, zero, suc, ◌+◌, Bool, true, false, ◌||◌, nat_le, nat_eq, if◌then◌else◌, List, [], ◌∷◌, ◌++◌, length}
use Rattle.std.specs.List.{flat_map}
use Rattle.ex_base.specs.declared.geometry.Geometry.{Geometry}
use Rattle.ex_base.specs.declared.names.Area.TheVariants.{Segment}
use Rattle.ex_base.specs.declared.names.Root.{Root}
use Rattle.ex_base.specs.Area.{unit_at}
use Rattle.ex_base.specs.Ports.{times}
use Rattle.trees.specs.Owners.{named_on, page_here}
use Rattle.trees.specs.Trees.{Units}

-- a unit behind the lowest `dense` ones of the segment area
abbrev pub is_high : Geometry → ℕ → ℕ → Bool
is_high g dense unit = nat_le (unit_at g Segment dense) unit

abbrev pub any_of : (ℕ → Bool) → List ℕ → Bool
any_of test [] = false
any_of test (unit ∷ units) = test unit || any_of test units

-- whether the tree of a level at a page has a high leaf
abbrev pub has_high : Geometry → ℕ → Units → ℕ → ℕ → Bool
has_high g dense units zero page = is_high g dense page
has_high g dense units (suc l) page = any_of (has_high g dense units l) (named_on units page)

-- the nodes of a tree that lead to a high leaf, each as often as it is named
abbrev pub nodes_above : Geometry → ℕ → Units → ℕ → ℕ → List ℕ
nodes_above g dense units zero page = []
nodes_above g dense units (suc l) page =
    (if has_high g dense units (suc l) page then page ∷ [] else []) ++ flat_map (nodes_above g dense units l) (named_on units page)

-- the high leaves of a tree, each as often as it is named
abbrev pub high_leaves : Geometry → ℕ → Units → ℕ → ℕ → List ℕ
high_leaves g dense units zero page = if is_high g dense page then page ∷ [] else []
high_leaves g dense units (suc l) page = flat_map (high_leaves g dense units l) (named_on units page)

-- the other leaves of a tree, each as often as it is named
abbrev pub low_leaves : Geometry → ℕ → Units → ℕ → ℕ → List ℕ
low_leaves g dense units zero page = if is_high g dense page then [] else page ∷ []
low_leaves g dense units (suc l) page = flat_map (low_leaves g dense units l) (named_on units page)

-- ---- the same of a root, which may have no tree

abbrev pub root_nodes_above : Geometry → ℕ → Units → Root → List ℕ
root_nodes_above g dense units root = flat_map (nodes_above g dense units root.height) (page_here root.page)

abbrev pub root_high_leaves : Geometry → ℕ → Units → Root → List ℕ
root_high_leaves g dense units root = flat_map (high_leaves g dense units root.height) (page_here root.page)

abbrev pub root_low_leaves : Geometry → ℕ → Units → Root → List ℕ
root_low_leaves g dense units root = flat_map (low_leaves g dense units root.height) (page_here root.page)

-- ---- how many there are

-- the numbers of a list, each once
abbrev pub each_once : List ℕ → List ℕ
each_once [] = []
each_once (x ∷ xs) = if nat_eq (times x xs) 0 then x ∷ each_once xs else each_once xs

-- how many nodes lead to a high leaf in the trees of these roots
abbrev pub need_of : Geometry → ℕ → Units → List Root → ℕ
need_of g dense units roots = length (each_once (flat_map (root_nodes_above g dense units) roots))

-- 1 for a unit that isn't used
abbrev pub one_if_free : Bool → ℕ
one_if_free true = 0
one_if_free false = 1

-- how many of the lowest units of the segment area are free
abbrev pub free_below : Geometry → (ℕ → Bool) → ℕ → ℕ
free_below g used zero = 0
free_below g used (suc j) = one_if_free (used (unit_at g Segment j)) + free_below g used j
