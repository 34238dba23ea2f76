-- A session once a scan was opened, and once one was closed.
use Rattle.std.specs.Prelude.{◌≡◌, ℕ, List, [], ◌∷◌, ◌++◌, Option}
use Rattle.std.specs.List.{remove}
use Rattle.ex_base.specs.declared.names.Area.TheVariants.{Page, Segment}
use Rattle.ex_base.specs.declared.names.Root.{Root}
use Rattle.disk_model.specs.Outside.{Outside}
use Rattle.open_scans.specs.OpenScans.{OpenRow, at_position}
use Rattle.page_alloc.specs.UnitSet.{used_at}
use Rattle.session_views.specs.View.{View, ShowsNow}
use Rattle.table_model.specs.declared.machine.Machine.{Machine}
use Rattle.table_model.specs.Machines.{IsMachine}
use Rattle.volume_model.specs.Shown.{used_in}
use Rattle.volume_port.specs.GivingUp.{CountsRoot, GivesTrees, is_logged}
use Rattle.session_core.specs.declared.session.objects.Named.{Named}
use Rattle.session_core.specs.Finding.{TellsVersion}
use Rattle.session_core.specs.Meant.{meant}
use Rattle.session_core.specs.Sessions.{SessionState}
use Rattle.session_core.specs.Steps.{OnlyFrames}

-- a scan under a name, at its first byte, that reads through the group with an index: of a root, or of bytes that it holds
abbrev pub first_row : List ℕ → Option Root → List ℕ → ℕ → OpenRow
first_row name root small group = at_position name group (record { root = root; small = small; pos = 0 })

-- A scan was opened, whose row is last. Its root has an owner more, the disk was read at most, and of the rest of the session nothing changed but frames.
pub record ScanOpened (a b : Outside) (old new : SessionState) (row : OpenRow) : Type 0 where
  pub frames : OnlyFrames a b old (record old { groups = new.groups })
  pub counts : CountsRoot row.scan.root old.units new.units
  pub same : new ≡ record old { groups = new.groups; units = new.units; scans = old.scans ++ row ∷ [] }

-- It has this name, this root and this group.
abbrev pub OpensScan : Outside → Outside → SessionState → SessionState → List ℕ → Option Root → ℕ → Type 0
OpensScan a b old new name root group = (small : List ℕ) × ScanOpened a b old new (first_row name root small group)

-- Units became free, but none that is logged, and the disk was read at most.
abbrev pub GivesUnits : Outside → Outside → SessionState → SessionState → Type 0
GivesUnits a b old new = GivesTrees (is_logged old.pages old.kept) old.geometry a b old.units new.units old.groups new.groups

-- the session without the scan at an index, with the units and the frames that another one has
abbrev pub closed_at : ℕ → SessionState → SessionState → SessionState
closed_at index old new = record old { groups = new.groups; units = new.units; scans = remove old.scans index }

-- ---- the machines that the session shows then

-- with a scan of these bytes more, at its first byte
abbrev pub with_scan : List ℕ → List ℕ → Machine → Machine
with_scan name bytes m = record m { scans = m.scans ++ record { name = name; bytes = bytes; pos = 0 } ∷ [] }

-- without the scan at an index, and with the session's counts of units in use
abbrev pub without_scan : ℕ → SessionState → Machine → Machine
without_scan index s m = record m {
  scans = remove m.scans index;
  pages_used = used_in s.geometry (used_at s.units) Page;
  segs_used = used_in s.geometry (used_at s.units) Segment;
}

-- Where the machine keeps its rules, the session shows it on the disk that the view has.
abbrev pub ShowsThen : View SessionState → Outside → SessionState → Machine → Type 0
ShowsThen before w s m = IsMachine m → ShowsNow meant w (record { machine = m; session = s; disk = before.disk })

-- what holds of the bytes of the version of which this was found
abbrev pub IfTold : View SessionState → Named → (List ℕ → Type 0) → Type 0
IfTold before version P = (told : TellsVersion before version.oid version.found) → P told.version.bytes
