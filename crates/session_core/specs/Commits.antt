-- What a commit leaves in the log and of the units, where it and a checkpoint write, and what a session stops at where a transaction could not be committed.
use Rattle.std.specs.Prelude.{◌≡◌, ◌⊎◌, ◌↔◌, ℕ, ◌+◌, true, Contains, List, [], ◌∷◌, ◌++◌, Some, map}
use Rattle.std.specs.List.{flat_map}
use Rattle.ex_base.specs.Area.{catalog_no}
use Rattle.disk_model.specs.Changes.{ChangesWithin}
use Rattle.disk_model.specs.Outside.{Outside}
use Rattle.object_files.specs.Catalog.{CatalogOf}
use Rattle.object_files.specs.Reads.{with_numbers}
use Rattle.meta_pages.specs.Rows.{with_row}
use Rattle.op_log.specs.AfterLog.{logged}
use Rattle.op_log.specs.Log.{DiskSays}
use Rattle.op_log.specs.declared.record.LogRecord.{LogRecord}
use Rattle.volume_model.specs.Committed.{HasNoRoom, IsRecordOf}
use Rattle.page_alloc.specs.UnitSet.{UnitSet, used_at}
use Rattle.session_views.specs.View.{View}
use Rattle.open_scans.specs.OpenScans.{scan_of}
use Rattle.trees.specs.Trees.{root_units}
use Rattle.volume_model.specs.Held.{roots_here}
use Rattle.volume_model.specs.Homes.{home}
use Rattle.volume_model.specs.Shown.{working_units}
use Rattle.volume_model.specs.Volume.{Decoded, Volume, reach_of, units_of}
use Rattle.session_core.specs.Sessions.{SessionState}
use Rattle.commits.specs.Written.{InLogOrHomes}
use Rattle.commits.specs.declared.keep.CommitFault.{CommitFault}
use Rattle.commits.specs.declared.keep.CommitFault.TheVariants as fault
use Rattle.session_views.specs.declared.stop.Stop.{Stop}
use Rattle.session_views.specs.declared.stop.Stop.TheVariants as stop

abbrev pub stop_of : CommitFault → Stop
stop_of fault.Memory = stop.Memory
stop_of fault.Disk = stop.Disk

-- On the disk nothing changed but bytes of the log, and of the homes of the pages whose images were committed before.
abbrev pub WritesHome : Outside → Outside → SessionState → Type 0
WritesHome a b s = ChangesWithin (InLogOrHomes s.geometry.page_size s.meta.committed) a b

-- The log ends with the record of the session's transaction, by the rule over the records before it: these are the old ones, or none, which comes
-- only where the record over the old ones has no room behind them. The page of the catalog has the number of the commit.
pub record LogsCommit (d : Decoded) (working : Volume) (s : SessionState) (w : Outside) : Type 0 where
  pub catalog : List ℕ
  pub numbered : CatalogOf catalog (with_numbers working.catalog working.catalog.next_unique (working.catalog.last + 1))
  pub earlier : List LogRecord
  pub those : (earlier ≡ d.records) ⊎ (earlier ≡ [])
  pub made : LogRecord
  pub rule : IsRecordOf (λ page. logged earlier page) (working.catalog.last + 1) s.notes (with_row catalog_no (Some catalog) s.meta.working) made
  pub anew : (earlier ≡ d.records → ⊥) → HasNoRoom d (with_row catalog_no (Some catalog) s.meta.working) (working.catalog.last + 1) s.notes
  pub says : DiskSays s.geometry w (earlier ++ made ∷ [])

-- In use are exactly the units that are reached.
abbrev pub JustReached : UnitSet → List ℕ → Type 0
JustReached units reached = (unit : ℕ) → (used_at units unit ≡ true) ↔ Contains reached unit

-- what the open scans reach: the units of their trees
abbrev pub scans_reach : Decoded → View SessionState → List ℕ
scans_reach d before = flat_map (root_units (home d.geometry before.disk)) (roots_here (map scan_of before.session.scans))

-- what the committed volume and the open scans reach
abbrev pub committed_reach : Decoded → View SessionState → List ℕ
committed_reach d before = reach_of (units_of d before.disk) d.volume ++ scans_reach d before

-- what the working volume, over the working pages, and the open scans reach
abbrev pub working_reach : Decoded → View SessionState → Volume → List ℕ
working_reach d before working = reach_of (working_units d before.disk before.session.meta.working) working ++ scans_reach d before
