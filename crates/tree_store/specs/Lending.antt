-- What a store is once the page that it lent is let go.
use Rattle.std.specs.Prelude.{◌≡◌, ℕ, [], List, Result, OnOk}
use mir.Syntax.{named}
use denote.RattleType.{RattleType}
use Rattle.disk_model.specs.Outside.{Outside}
use Rattle.disk_model.specs.Calls.{MakesCalls}
use Rattle.buffer_groups.specs.Frames.{Frames}
use Rattle.buffer_groups.specs.Groups.{HasFrame, LacksFrame}
use Rattle.tree_store.specs.contracts.store.Store.{the_row}

-- the type of a store over a disk of this type
abbrev pub store_row : RattleType → RattleType
store_row disk = the_row (record { mir = named 1; lft = [] }) disk

-- A read of a page that is in a frame makes no call of the disk, and one of another page makes one.
pub record ReadCalls {D T E : Type 0} (outside : D → Outside) (groups : List Frames) (index page : ℕ) (old new : D) (result : Result T E) : Type 0 where
  pub hit : HasFrame groups index page → new ≡ old
  pub miss : LacksFrame groups index page → OnOk result (MakesCalls 1 (outside old) (outside new))
