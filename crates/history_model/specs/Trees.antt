-- The trees of a history: which are well formed, what they spell, their shape, and the leaves and nodes that they have. Each is said as of a tree on a
-- volume, with numbers in place of pages.
use Rattle.std.specs.Prelude.{◌≡◌, ℕ, zero, suc, ◌≤◌, List, [], ◌∷◌, length, take, Option, Some, None}
use Rattle.std.specs.List.{flat_map, concat}
use Rattle.ex_base.specs.declared.geometry.Geometry.{Geometry}
use Rattle.ex_base.specs.declared.names.PageNo.{PageNo}
use Rattle.ex_base.specs.Sizes.{leaf_bytes, object_most}
use Rattle.object_records.specs.Record.{Content, Small, Large}
use Rattle.trees.specs.declared.Pair.{Pair}
use Rattle.trees.specs.Node.{Node, total_of}
use Rattle.trees.specs.Shape.{Subtree, IsBalanced}
use Rattle.trees.specs.Trees.{for_each_child, EachChild}
use Rattle.history_model.specs.History.{History, numbered, leaf_of, pairs_of}

-- Under this number stands a tree of this level that spells n bytes: a leaf that has so many, or a node of this level and total.
abbrev pub IsUnder : History → ℕ → ℕ → ℕ → Type 0
IsUnder h zero number n = (leaf : List ℕ) × (numbered h.leaves number ≡ Some leaf) × (1 ≤ n) × (n ≤ length leaf)
IsUnder h (suc l) number n = (node : Node) × (numbered h.nodes number ≡ Some node) × (node.level ≡ suc l) × (total_of node.pairs ≡ n) × EachChild (IsUnder h l) 0 node.pairs

abbrev pub bytes_under : History → ℕ → ℕ → ℕ → List ℕ
bytes_under h zero number n = take n (leaf_of h number)
bytes_under h (suc l) number n = concat (for_each_child (bytes_under h l) 0 (pairs_of h number))

abbrev pub shape_under : History → (l : ℕ) → ℕ → ℕ → Subtree l
shape_under h zero number n = n
shape_under h (suc l) number n = for_each_child (shape_under h l) 0 (pairs_of h number)

-- a leaf or a node, by its number
pub data Piece : Type 0 where
  LeafPiece : ℕ → Piece
  NodePiece : ℕ → Piece

-- the leaves and nodes of a tree, each as often as it is named
abbrev pub pieces_under : History → ℕ → ℕ → List Piece
pieces_under h zero number = LeafPiece number ∷ []
pieces_under h (suc l) number = NodePiece number ∷ flat_map (λ (pair : Pair). pieces_under h l pair.page.0) (pairs_of h number)

-- ---- the same of a root, which may have no tree

abbrev pub IsRooted : Geometry → History → ℕ → ℕ → Option PageNo → Type 0
IsRooted g h height size None = (size ≡ 0) × (height ≡ 0)
IsRooted g h height size (Some number) = IsUnder h height number.0 size × IsBalanced g.fan (leaf_bytes g) (Some (height, shape_under h height number.0 size)) × (size ≤ object_most)

abbrev pub bytes_rooted : History → ℕ → ℕ → Option PageNo → List ℕ
bytes_rooted h height size None = []
bytes_rooted h height size (Some number) = bytes_under h height number.0 size

abbrev pub pieces_rooted : History → ℕ → Option PageNo → List Piece
pieces_rooted h height None = []
pieces_rooted h height (Some number) = pieces_under h height number.0

-- The content gives these bytes: it holds them, or its tree is balanced and spells them.
abbrev pub Gives : Geometry → History → Content → List ℕ → Type 0
Gives g h (Small held) bytes = bytes ≡ held
Gives g h (Large root) bytes = IsRooted g h root.height root.size root.page × (bytes ≡ bytes_rooted h root.height root.size root.page)

abbrev pub pieces_of : History → Content → List Piece
pieces_of h (Small held) = []
pieces_of h (Large root) = pieces_rooted h root.height root.page
