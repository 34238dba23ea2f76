-- The leaves and nodes that a history has.
use Rattle.std.specs.Prelude.{◌≡◌, ℕ, List, Some}
use Rattle.trees.specs.Node.{Node}
use Rattle.history_model.specs.History.{History, numbered}
use Rattle.history_model.specs.Trees.{Piece, LeafPiece, NodePiece}

-- The history has a leaf, or a node, with the number.
abbrev pub IsPieceOf : History → Piece → Type 0
IsPieceOf h (LeafPiece number) = (bytes : List ℕ) × (numbered h.leaves number ≡ Some bytes)
IsPieceOf h (NodePiece number) = (n : Node) × (numbered h.nodes number ≡ Some n)
