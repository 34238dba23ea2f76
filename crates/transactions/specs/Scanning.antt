-- Why no scan is opened of a version that a line names, and which groups scans read through.
use Rattle.std.specs.Prelude.{⊤, ◌≡◌, ◌⊎◌, ℕ, List, [], ◌∷◌, ◌++◌, length, nat_le, is_none, true, IfOk, Option, Some, None, Result, Ok, Err, slice_set}
use Rattle.std.specs.List.{remove}
use Rattle.buffer_groups.specs.Frames.{Frames}
use Rattle.open_scans.specs.GroupRows.{group_index}
use Rattle.open_scans.specs.OpenScans.{AtRow, OpenRow, row_after, scan_index}
use Rattle.session_core.specs.declared.session.objects.Named.{Named}
use Rattle.session_core.specs.ScanRows.{takes_name}
use Rattle.session_core.specs.Sessions.{SessionState}
use Rattle.session_core.specs.Steps.{IsRefused}
use Rattle.session_views.specs.declared.stop.Stop.{Stop}
use Rattle.table_model.specs.declared.machine.GroupRow.{GroupRow}
use Rattle.table_model.specs.declared.reply.Refusal.{Refusal}
use Rattle.table_model.specs.declared.reply.Refusal.TheVariants as refusal
use Rattle.table_model.specs.declared.reply.Reply.{Reply}
use Rattle.table_model.specs.Machines.{scans_most}
use Rattle.table_model.specs.Refusals.{first, when}
use Rattle.table_model.specs.Requests.{Request}
use Rattle.table_model.specs.Requests as request
use Rattle.volume_port.specs.Reading.{OthersStay}

-- the index of the group that a line names: without a name it is `main`
abbrev pub group_asked : List GroupRow → Option (List ℕ) → Option ℕ
group_asked rows None = Some 0
group_asked rows (Some name) = group_index rows name

-- that no version is bound to the name that was looked for
abbrev pub is_unbound : Refusal → Option Refusal
is_unbound refusal.NoName = Some refusal.NoName
is_unbound why = None

abbrev pub unbound : Result Named Refusal → Option Refusal
unbound (Ok named) = None
unbound (Err why) = is_unbound why

-- why no version was found
abbrev pub missing : Result Named Refusal → Option Refusal
missing (Ok named) = None
missing (Err why) = Some why

-- why no scan of this name is opened of what was found, to read through this group
abbrev pub scan_refusal : SessionState → Result Named Refusal → List ℕ → Option (List ℕ) → Option Refusal
scan_refusal s told name group =
    first (unbound told ∷ when (takes_name s name) refusal.NameTaken ∷ missing told ∷ when (is_none (group_asked s.group_rows group)) refusal.NoGroup ∷ when (nat_le scans_most (length s.scans)) (refusal.TooMany true) ∷ [])

-- A scan may be opened of the version that was found, to read through the group with an index.
pub record MayOpen (s : SessionState) (told : Result Named Refusal) (name : List ℕ) (group : Option (List ℕ)) (version : Named) (index : ℕ) : Type 0 where
  pub none : scan_refusal s told name group ≡ None
  pub found : told ≡ Ok version
  pub asked : group_asked s.group_rows group ≡ Some index

-- ---- the groups that scans read through

-- The scan that was opened is the last one, and reads through the group that the line names.
pub record OpensThrough (old : SessionState) (scans : List OpenRow) (name : List ℕ) (group : Option (List ℕ)) : Type 0 where
  pub row : OpenRow
  pub rows : scans ≡ old.scans ++ row ∷ []
  pub name_is : row.scan.name ≡ name
  pub through : group_asked old.group_rows group ≡ Some row.group

-- Of the groups none changed but the one that the scan of the name reads through.
abbrev pub FillsItsGroup : SessionState → List Frames → List ℕ → Type 0
FillsItsGroup old groups name = (index : ℕ) → scan_index old.scans name ≡ Some index → AtRow old.scans index (λ row. OthersStay row.group old.groups groups)

-- A scan that is opened reads through the group that its line names, and what it gives next fills that group alone.
abbrev pub ReadsThrough : SessionState → List OpenRow → List Frames → Request → Result Reply Stop → Type 0
ReadsThrough old scans groups (request.Scan x name group) result = IfOk result (λ told. IsRefused told ⊎ OpensThrough old scans name group)
ReadsThrough old scans groups (request.Next name len) result = FillsItsGroup old groups name
ReadsThrough old scans groups r result = ⊤

-- ---- the scans that are open

-- One scan was put behind the others.
pub record OpensOne (old new : List OpenRow) : Type 0 where
  pub row : OpenRow
  pub rows : new ≡ old ++ row ∷ []

-- The scan of the name moved on behind what it gives next, under its name and on its group; the others are as they were.
pub record MovesOne (old new : List OpenRow) (name : List ℕ) (len : ℕ) : Type 0 where
  pub index : ℕ
  pub named : scan_index old name ≡ Some index
  pub rows : AtRow old index (λ row. new ≡ slice_set old index (row_after len row))

-- The scan of the name was taken out; the others are as they were, in their order.
pub record ClosesOne (old new : List OpenRow) (name : List ℕ) : Type 0 where
  pub index : ℕ
  pub named : scan_index old name ≡ Some index
  pub rows : new ≡ remove old index

-- A command leaves each open scan as it is, with the group that it reads through. Only the one that opens a scan puts it behind them, the one that gives what
-- a scan has next moves that one on, and the one that closes a scan takes that one out.
abbrev pub LeavesScans : List OpenRow → List OpenRow → Request → Type 0
LeavesScans old new (request.Scan x name group) = (new ≡ old) ⊎ OpensOne old new
LeavesScans old new (request.Next name len) = (new ≡ old) ⊎ MovesOne old new name len
LeavesScans old new (request.Close name) = (new ≡ old) ⊎ ClosesOne old new name
LeavesScans old new r = new ≡ old
