-- What holds of leaves and nodes that were written.
use Rattle.std.specs.Prelude.{ℕ, ◌+◌, ◌<◌, ◌≤◌, List, length}
use Rattle.disk_model.specs.Changes.{SameBut}
use Rattle.ex_base.specs.declared.geometry.Geometry.{Geometry}
use Rattle.ex_base.specs.Area.{catalog_no}
use Rattle.ex_base.specs.Sizes.{volume_bytes}
use Rattle.history_fronts.specs.Fronts.{Front}
use Rattle.history_writes.specs.Pieces.{ArePiecesOn}
use Rattle.history_writes.specs.Places.{InPagesFrom}

-- They stay where nothing is written but pages behind those of the nodes.
abbrev pub PiecesStay : Type 0
PiecesStay = (g : Geometry) (f : Front) (first : ℕ) (image later : List ℕ) → catalog_no + length f.nodes < first → volume_bytes g ≤ length image → SameBut (InPagesFrom g first) image later → ArePiecesOn g image f → ArePiecesOn g later f
