-- The units of trees in the order in which a walk from left to right leaves them: a node behind all that is below it.
use Rattle.std.specs.Prelude.{ℕ, zero, suc, ◌-◌, ◌==◌, max, if◌then◌else◌, List, [], ◌∷◌, ◌++◌, Option, Some, None}
use Rattle.std.specs.List.{flat_map}
use Rattle.ex_base.specs.Ports.{times}
use Rattle.ex_base.specs.declared.names.PageNo.{PageNo}
use Rattle.ex_base.specs.declared.names.Root.{Root}
use Rattle.trees.specs.declared.Pair.{Pair}
use Rattle.trees.specs.Node.{pairs_on}
use Rattle.trees.specs.Trees.{Units}

-- ---- as often as they are left

abbrev pub leaves_left : Units → ℕ → ℕ → List ℕ
leaves_left units zero page = page ∷ []
leaves_left units (suc l) page = flat_map (λ (pair : Pair). leaves_left units l pair.page.0) (pairs_on (units page))

abbrev pub nodes_left : Units → ℕ → ℕ → List ℕ
nodes_left units zero page = []
nodes_left units (suc l) page = flat_map (λ (pair : Pair). nodes_left units l pair.page.0) (pairs_on (units page)) ++ page ∷ []

-- the same of a root, which may have no tree
abbrev pub leaves_left_at : Units → ℕ → Option PageNo → List ℕ
leaves_left_at units height None = []
leaves_left_at units height (Some page) = leaves_left units height page.0

abbrev pub nodes_left_at : Units → ℕ → Option PageNo → List ℕ
nodes_left_at units height None = []
nodes_left_at units height (Some page) = nodes_left units height page.0

abbrev pub root_leaves : Units → Root → List ℕ
root_leaves units root = leaves_left_at units root.height root.page

abbrev pub root_nodes : Units → Root → List ℕ
root_nodes units root = nodes_left_at units root.height root.page

-- ---- each once

-- one more, where it isn't among them
abbrev pub added : List ℕ → ℕ → List ℕ
added seen x = if times x seen == 0 then seen ++ x ∷ [] else seen

-- those of a list one after the other
abbrev pub with_firsts : List ℕ → List ℕ → List ℕ
with_firsts seen [] = seen
with_firsts seen (x ∷ xs) = with_firsts (added seen x) xs

-- each where it stands first
abbrev pub firsts : List ℕ → List ℕ
firsts xs = with_firsts [] xs

-- ---- how many bytes are named of leaves

-- what is named by the children of a node one after the other, each with its bytes
abbrev pub of_children : (ℕ → ℕ → List (ℕ × ℕ)) → ℕ → List Pair → List (ℕ × ℕ)
of_children namings before [] = []
of_children namings before (pair ∷ pairs) = namings pair.page.0 (pair.count - before) ++ of_children namings pair.count pairs

-- each naming of a leaf by a tree, as often as there is one: its unit, and how many bytes of it are named
abbrev pub namings_left : Units → ℕ → ℕ → ℕ → List (ℕ × ℕ)
namings_left units zero page n = (page, n) ∷ []
namings_left units (suc l) page n = of_children (namings_left units l) 0 (pairs_on (units page))

abbrev pub namings_left_at : Units → ℕ → ℕ → Option PageNo → List (ℕ × ℕ)
namings_left_at units height size None = []
namings_left_at units height size (Some page) = namings_left units height page.0 size

abbrev pub root_namings : Units → Root → List (ℕ × ℕ)
root_namings units root = namings_left_at units root.height root.size root.page

-- one naming more: the leaf has its place from the first one on, and as many bytes as are named of it at most
abbrev pub raised : List (ℕ × ℕ) → ℕ → ℕ → List (ℕ × ℕ)
raised [] unit n = (unit, n) ∷ []
raised (leaf ∷ leaves) unit n = if unit == leaf.0 then (leaf.0, max leaf.1 n) ∷ leaves else leaf ∷ raised leaves unit n

-- those of a list one after the other
abbrev pub with_namings : List (ℕ × ℕ) → List (ℕ × ℕ) → List (ℕ × ℕ)
with_namings leaves [] = leaves
with_namings leaves (naming ∷ namings) = with_namings (raised leaves naming.0 naming.1) namings

abbrev pub unit_named : ℕ × ℕ → ℕ
unit_named leaf = leaf.0

abbrev pub bytes_named : ℕ × ℕ → ℕ
bytes_named leaf = leaf.1
