-- What a session holds of a volume.
use Rattle.std.specs.Prelude.{ℕ, Bool, List, [], ◌∷◌, Option, Some, None}
use Rattle.std.specs.List.{flat_map}
use Rattle.ex_base.specs.declared.geometry.Geometry.{Geometry}
use Rattle.ex_base.specs.declared.names.OpNote.{OpNote}
use Rattle.ex_base.specs.declared.names.Root.{Root}
use Rattle.op_log.specs.State.{LogState}
use Rattle.table_model.specs.declared.machine.BoundName.{BoundName}
use Rattle.table_model.specs.declared.machine.GroupRow.{GroupRow}

-- a page number and the bytes of the page
abbrev pub PageRow : Type 0
PageRow = ℕ × List ℕ

-- a changed logged page of the transaction: its image, or none where it was given back
abbrev pub WorkingRow : Type 0
WorkingRow = ℕ × Option (List ℕ)

-- an open scan: without a root it holds its bytes itself
pub record HeldScan : Type 0 where
  pub name : List ℕ
  pub root : Option Root
  pub small : List ℕ
  pub pos : ℕ

-- the value of a session in contracts: all that it holds, and no table
pub record Held : Type 0 where
  pub geometry : Geometry
  pub notes : List OpNote
  pub names : List BoundName
  pub working_pages : List WorkingRow
  pub scans : List HeldScan
  pub group_rows : List GroupRow
  -- the frames of `main` and of each group
  pub frames : List (List PageRow)
  pub used : ℕ → Bool
  -- how many owners each unit has
  pub refs : ℕ → ℕ
  -- the roots that the open transaction made and has still, and those of the committed state that it gave up
  pub gained : List Root
  pub lost : List Root
  -- the logged pages that the working state has, and those that the committed one has
  pub held : ℕ → Bool
  pub kept : ℕ → Bool
  -- the committed images that stand in the log
  pub overlay : List PageRow
  pub log : LogState
  -- a transaction is open
  pub opened : Bool
  pub down : Bool

-- the root that is there, and those of the open scans
abbrev pub root_here : Option Root → List Root
root_here None = []
root_here (Some root) = root ∷ []

abbrev pub roots_here : List HeldScan → List Root
roots_here scans = flat_map (λ (scan : HeldScan). root_here scan.root) scans
