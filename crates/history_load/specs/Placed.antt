-- A history that stands on the units of a volume, wherever its leaves and nodes lie.
use Rattle.std.specs.Prelude.{◌≡◌, ℕ, List, Contains}
use Rattle.std.specs.List.{AllZip, flat_map, zip}
use Rattle.ex_base.specs.declared.geometry.Geometry.{Geometry}
use Rattle.trees.specs.Trees.{Units, root_units}
use Rattle.volume_model.specs.Volume.{Volume, roots_in, stored_in}
use Rattle.history_model.specs.History.{History}
use Rattle.history_model.specs.Trees.{Piece}
use Rattle.history_volumes.specs.Histories.{IsFileOn}
use Rattle.history_volumes.specs.Transcribed.{AreTranscribed, piece_place}
use Rattle.history_load.specs.Pieces.{IsPieceOf}

-- No two pieces lie at one place.
abbrev pub LieApart : History → (ℕ → ℕ) → (ℕ → ℕ) → Type 0
LieApart h leaf node = (one other : Piece) → IsPieceOf h one → IsPieceOf h other → piece_place leaf node one ≡ piece_place leaf node other → one ≡ other

-- the units of the volume's trees
abbrev pub tree_units : Units → Volume → List ℕ
tree_units units v = flat_map (root_units units) (roots_in (stored_in v))

-- With `leaf` and `node` the places of its leaves and nodes, the history stands on these units as the volume: each piece is a unit of one of the volume's
-- trees, no two lie at one place, and its files and versions are the volume's.
pub record StandsAs (g : Geometry) (units : Units) (v : Volume) (h : History) (leaf node : ℕ → ℕ) : Type 0 where
  pub transcribed : AreTranscribed g h units leaf node
  pub reached : (piece : Piece) → IsPieceOf h piece → Contains (tree_units units v) (piece_place leaf node piece)
  pub apart : LieApart h leaf node
  pub files : AllZip (IsFileOn leaf node) h.files (zip v.catalog.entries v.files)
  pub next_unique : h.next_unique ≡ v.catalog.next_unique
  pub last : h.last ≡ v.catalog.last
