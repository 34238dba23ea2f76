-- A history that stands on the units of a volume: each leaf and node at a place of its own, with its children's places in the place of their numbers.
use Rattle.std.specs.Prelude.{◌≡◌, ℕ, zero, suc, ◌≤◌, ◌==◌, if◌then◌else◌, List, [], ◌∷◌, length, map, take, slice_index, Option, Some, None}
use Rattle.std.specs.Option.{option_map}
use Rattle.ex_base.specs.declared.geometry.Geometry.{Geometry}
use Rattle.ex_base.specs.Area.{InPageArea, NamesLeaf}
use Rattle.ex_base.specs.Sizes.{leaf_bytes}
use Rattle.trees.specs.declared.Pair.{Pair}
use Rattle.trees.specs.Node.{Node, PairsOf}
use Rattle.trees.specs.Trees.{Units}
use Rattle.history_model.specs.History.{History, numbered}
use Rattle.history_model.specs.Trees.{Piece, LeafPiece, NodePiece}

-- ---- places of numbers

-- the place of the piece with a number, counted from 1, where the pieces stand at these
abbrev pub at_of : List ℕ → ℕ → ℕ
at_of pages zero = 0
at_of pages (suc i) = slice_index pages i

-- the number of a page that is one of a list, counted from 1
abbrev pub number_in : List ℕ → ℕ → Option ℕ
number_in [] page = None
number_in (p ∷ pages) page = if page == p then Some 1 else option_map suc (number_in pages page)

-- the place of a tree of a level: of a leaf, or of a node
abbrev pub place_of : (ℕ → ℕ) → (ℕ → ℕ) → ℕ → ℕ → ℕ
place_of leaf node zero number = leaf number
place_of leaf node (suc l) number = node number

abbrev pub piece_place : (ℕ → ℕ) → (ℕ → ℕ) → Piece → ℕ
piece_place leaf node (LeafPiece number) = leaf number
piece_place leaf node (NodePiece number) = node number

-- a pair with its child's place in the place of its number
abbrev pub placed : (ℕ → ℕ) → Pair → Pair
placed place pair = record { count = pair.count; page = record { 0 = place pair.page.0 } }

-- the pairs of a node of a level
abbrev pub paired : (ℕ → ℕ) → (ℕ → ℕ) → ℕ → List Pair → List Pair
paired leaf node zero pairs = []
paired leaf node (suc l) pairs = map (placed (place_of leaf node l)) pairs

-- ---- pieces that stand there

-- The unit begins with the leaf.
pub record IsLeafAt (g : Geometry) (units : Units) (page : ℕ) (leaf : List ℕ) : Type 0 where
  pub area : NamesLeaf g page
  pub short : length leaf ≤ leaf_bytes g
  pub front : take (length leaf) (units page) ≡ leaf

-- The page is the node, with its children at their places.
pub record IsNodeAt (g : Geometry) (units : Units) (leaf node : ℕ → ℕ) (page : ℕ) (n : Node) : Type 0 where
  pub area : InPageArea g page
  pub pairs : PairsOf g.fan (units page) n.level (paired leaf node n.level n.pairs)

-- With `leaf` and `node` the places of its leaves and nodes, the history's pieces stand on these units.
pub record AreTranscribed (g : Geometry) (h : History) (units : Units) (leaf node : ℕ → ℕ) : Type 0 where
  pub leaves : (i : ℕ) (bytes : List ℕ) → numbered h.leaves i ≡ Some bytes → IsLeafAt g units (leaf i) bytes
  pub nodes : (i : ℕ) (n : Node) → numbered h.nodes i ≡ Some n → IsNodeAt g units leaf node (node i) n
