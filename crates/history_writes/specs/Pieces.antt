-- Leaves and nodes that were written.
use Rattle.std.specs.Prelude.{◌≡◌, ℕ, suc, List, length, Some}
use Rattle.ex_base.specs.declared.geometry.Geometry.{Geometry}
use Rattle.disk_model.specs.Outside.{Outside}
use Rattle.trees.specs.Node.{Node}
use Rattle.history_fronts.specs.Fronts.{ALeaf, ANode, Front, Item, after, history_of}
use Rattle.history_volumes.specs.Transcribed.{AreTranscribed}
use Rattle.volume_model.specs.Homes.{home}
use Rattle.history_writes.specs.Places.{leaf_place, node_place}

-- The leaves and nodes of a front stand on the disk, each at its place.
abbrev pub ArePiecesOn : Geometry → List ℕ → Front → Type 0
ArePiecesOn g image f = AreTranscribed g (history_of f) (home g image) (leaf_place g) node_place

-- Where those of the front stood on the disk, those of the front with one item more stand there now.
abbrev pub PieceWritten : Geometry → Outside → Outside → Front → Item → Type 0
PieceWritten g was now f item = (image : List ℕ) → was.disk ≡ Some image → ArePiecesOn g image f → (later : List ℕ) × (now.disk ≡ Some later) × ArePiecesOn g later (after f item)

-- so it is of each front of which a leaf has the next number,
abbrev pub LeafWritten : Geometry → Outside → Outside → ℕ → List ℕ → Type 0
LeafWritten g was now number leaf = (f : Front) → number ≡ suc (length f.leaves) → PieceWritten g was now f (ALeaf leaf)

-- and of each of which a node has it.
abbrev pub NodeWritten : Geometry → Outside → Outside → ℕ → Node → Type 0
NodeWritten g was now number node = (f : Front) → number ≡ suc (length f.nodes) → PieceWritten g was now f (ANode node)
