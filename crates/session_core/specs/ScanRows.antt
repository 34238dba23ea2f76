-- What a session has under a name, and how its groups become more and its scans move on.
use Rattle.std.specs.Prelude.{◌≡◌, ℕ, List, [], ◌∷◌, ◌++◌, Bool, ◌||◌, is_some, map, min, slice_get, Some}
use Rattle.std.specs.List.{AllByRecursion, AllZip, list_any}
use Rattle.bound_names.specs.Bindings.{is_bound}
use Rattle.ex_base.specs.declared.ground.Ground as ground
use Rattle.ex_base.specs.Bytes.{bytes_at}
use Rattle.open_scans.specs.GroupRows.{empty_group, group_index}
use Rattle.open_scans.specs.OpenScans.{OpenRow, is_named, scan_of}
use Rattle.session_views.specs.View.{View}
use Rattle.table_model.specs.declared.machine.GroupRow.{GroupRow}
use Rattle.table_model.specs.declared.machine.Machine.{Machine}
use Rattle.table_model.specs.declared.machine.ScanRow.{ScanRow}
use Rattle.table_model.specs.Steps.{rest}
use Rattle.trees.specs.Damage.{IsWhole}
use Rattle.volume_model.specs.Shown.{ScanShown, roots_here}
use Rattle.session_core.specs.Sessions.{SessionState}

-- a version is bound to the name, an open scan has it, or a group has it
abbrev pub takes_name : SessionState → List ℕ → Bool
takes_name s name = is_bound s.names name || list_any (is_named name) s.scans || is_some (group_index s.group_rows name)

-- with one group more, of this row
abbrev pub grouped : SessionState → GroupRow → SessionState
grouped s row = record s { groups = s.groups ++ empty_group row s.geometry.page_size ∷ []; group_rows = s.group_rows ++ row ∷ [] }

-- with these open scans
abbrev pub with_scans : SessionState → List OpenRow → SessionState
with_scans s scans = record s { scans = scans }

-- A fact of the scan at an index, as a machine has it.
abbrev pub AtScan : Machine → ℕ → (ScanRow → Type 0) → Type 0
AtScan m index Fact = (row : ScanRow) → slice_get m.scans index ≡ Some row → Fact row

-- what the scan of a row gives next, where so many bytes are asked
abbrev pub bytes_next : ℕ → ScanRow → List ℕ
bytes_next len row = bytes_at row.bytes row.pos (min len (rest row))

-- The port has the bytes of these open scans, as the view shows them, and the tree of each is whole.
pub record PortScans {S : Type 0} (g : ground.Ghosts S) (s : S) (rows : List OpenRow) (v : View SessionState) : Type 0 where
  pub tells : g.tells s
  pub scans : AllZip (ScanShown (g.geometry s) (g.unit s)) v.machine.scans (map scan_of rows)
  pub whole : AllByRecursion (IsWhole (g.geometry s) (g.unit s)) (roots_here (map scan_of rows))
