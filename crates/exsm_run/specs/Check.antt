-- What `check` sends and leaves.
use Rattle.std.specs.Prelude.{◌≡◌, ◌≢◌, ◌⊎◌, ◌<◌, ◌↔◌, ℕ, Bool, true, IsTrue, Some, List, [], ◌∷◌, ◌++◌, length, take, codes, decimal, Contains, ⊤}
use Rattle.disk_model.specs.Outside.{Outside, Leaves, Rose}
use Rattle.ex_base.specs.declared.names.Area.TheVariants.{Page, Segment}
use Rattle.table_model.specs.declared.table.Table.{Table}
use Rattle.table_model.specs.Tables.{objects_of, versions_of}
use Rattle.session_views.specs.declared.stop.Stop.{Stop}
use Rattle.session_views.specs.declared.stop.Stop.TheVariants as stop
use Rattle.session_views.specs.declared.opener.OpenFault.{OpenFault}
use Rattle.session_views.specs.declared.opener.OpenFault.TheVariants as open_fault
use Rattle.session_views.specs.Opening.{StandsOpening}
use Rattle.transactions.specs.declared.summary.Summary.{Summary}
use Rattle.session_core.specs.Meant.{meant}
use Rattle.volume_model.specs.Parts.{Decodes, StandsFor}
use Rattle.volume_model.specs.Shown.{used_in}
use Rattle.volume_model.specs.Volume.{Decoded, reach_of, units_of}
use Rattle.command_line.specs.declared.status.Status.{Status}
use Rattle.command_line.specs.declared.status.Status.TheVariants.{Done, Usage, ScriptFault, OutputFault, DiskFault, BadVolume, Memory, Damaged, AlreadyVolume, TooSmall, ScriptLong, NotEmpty, BadDump, Misfit, NoRoom, NoPages}
use Rattle.exsm_run.specs.Openings.{OpeningPromise, WritesAsOpening}
use Rattle.exsm_run.specs.Script.{HoldsVolume, IsOnVolume}

-- ---- the line

unfoldable pub counts_line : ℕ → ℕ → ℕ → ℕ → ℕ → ℕ → List ℕ
counts_line last files objects versions pages segs =
    codes "ok check last " ++ (decimal last ++ (codes " files " ++ (decimal files ++ (codes " objects " ++ (decimal objects ++ (codes " versions " ++ (decimal versions
    ++ (codes " pages " ++ (decimal pages ++ (codes " segs " ++ (decimal segs ++ 10 ∷ [])))))))))))

-- the numbers of a table, and how many units of each area its volume reaches
abbrev pub check_line : Table → ℕ → ℕ → List ℕ
check_line t pages segs = counts_line t.last (length t.files) (length (objects_of t)) (length (versions_of t)) pages segs

-- The volume of the image reaches so many units of the page area and of the segment area.
pub record ReachesUnits (image : List ℕ) (pages segs : ℕ) : Type 0 where
  pub decoded : Decoded
  pub parts : Decodes image decoded
  -- which units it reaches, each of them
  pub used : ℕ → Bool
  pub each : (unit : ℕ) → (used unit ≡ true) ↔ Contains (reach_of (units_of decoded image) decoded.volume) unit
  pub pages_are : pages ≡ used_in decoded.geometry used Page
  pub segs_are : segs ≡ used_in decoded.geometry used Segment

-- The disk holds a volume of the table, which reaches so many units.
pub record HoldsCounted (w : Outside) (table : Table) (pages segs : ℕ) : Type 0 where
  pub image : List ℕ
  pub holds : w.disk ≡ Some image
  pub stands : StandsFor image table
  pub reaches : ReachesUnits image pages segs

-- ---- statuses

-- the statuses of a command that sends one line, on a volume
abbrev pub IsLineStatus : Status → Type 0
IsLineStatus Done = ⊤
IsLineStatus Usage = ⊥
IsLineStatus ScriptFault = ⊥
IsLineStatus OutputFault = ⊤
IsLineStatus DiskFault = ⊤
IsLineStatus (BadVolume part) = ⊥
IsLineStatus Memory = ⊤
IsLineStatus (Damaged page want got) = ⊥
IsLineStatus AlreadyVolume = ⊥
IsLineStatus (TooSmall have need) = ⊥
IsLineStatus (ScriptLong max) = ⊥
IsLineStatus NotEmpty = ⊥
IsLineStatus BadDump = ⊥
IsLineStatus (Misfit field dump volume) = ⊥
IsLineStatus (NoRoom area need free) = ⊥
IsLineStatus (NoPages need free) = ⊥

-- the status where a volume wasn't opened
abbrev pub unopened_status : OpenFault → Status
unopened_status open_fault.Memory = Memory
unopened_status open_fault.Disk = DiskFault
unopened_status (open_fault.BadVolume part) = BadVolume part

-- The status is that of a session, up until then, that stopped so.
abbrev pub StopsAs : Stop → Status → Type 0
StopsAs stop.Memory status = status ≡ Memory
StopsAs stop.Disk status = status ≡ DiskFault
StopsAs (stop.Damaged page want got) status = status ≡ Damaged page want got
StopsAs stop.Down status = ⊥

-- why no numbers are there: a fault of the disk rose in its count, damage is of two things that differ
abbrev pub StopsCount : Status → Outside → Outside → Type 0
StopsCount Done before after = ⊥
StopsCount Usage before after = ⊥
StopsCount ScriptFault before after = ⊥
StopsCount OutputFault before after = ⊥
StopsCount DiskFault before after = Rose before.disk_faults after.disk_faults
StopsCount (BadVolume part) before after = ⊤
StopsCount Memory before after = ⊤
StopsCount (Damaged page want got) before after = want ≢ got
StopsCount AlreadyVolume before after = ⊥
StopsCount (TooSmall have need) before after = ⊥
StopsCount (ScriptLong max) before after = ⊥
StopsCount NotEmpty before after = ⊥
StopsCount BadDump before after = ⊥
StopsCount (Misfit field dump volume) before after = ⊥
StopsCount (NoRoom area need free) before after = ⊥
StopsCount (NoPages need free) before after = ⊥

-- The summary is of the table that the disk holds and of the units that it reaches, whatever a crash now leaves.
pub record IsCount (w : Outside) (table : Table) (s : Summary) : Type 0 where
  pub counted : HoldsCounted w table s.pages s.segs
  pub images : (d : List ℕ) → w.images d → StandsFor d table
  pub last : s.last ≡ table.last
  pub files : s.files ≡ length table.files
  pub objects : s.objects ≡ length (objects_of table)
  pub versions : s.versions ≡ length (versions_of table)

-- What a command that sends one line needs to send it: a volume, and no fault of the disk or of the output.
pub record MaySend (before after : Outside) : Type 0 where
  pub table : Table
  pub was : List ℕ
  pub on : HoldsVolume before table was
  pub no_output_fault : Rose before.write_faults after.write_faults → ⊥
  pub no_disk_fault : Rose before.disk_faults after.disk_faults → ⊥

-- ---- the promise

-- What `check` promises.
pub record CheckPromise (before after : Outside) (status : Status) : Type 0 where
  -- On a volume its line has the numbers of the table and of the units that are reached; a front of it is sent where the output failed, and else nothing.
  pub sends : (table : Table) (was : List ℕ) → HoldsVolume before table was → status ≡ Done
      → (pages : ℕ) × (segs : ℕ) × HoldsCounted after table pages segs × (after.sent ≡ Some (was ++ check_line table pages segs))
  pub front : (table : Table) (was : List ℕ) → HoldsVolume before table was → status ≡ OutputFault
      → (pages : ℕ) × (segs : ℕ) × HoldsCounted after table pages segs
      × ((n : ℕ) × (n < length (check_line table pages segs)) × (after.sent ≡ Some (was ++ take n (check_line table pages segs))))
  pub nothing : status ≢ Done → status ≢ OutputFault → after.sent ≡ before.sent
  pub left : after.left ≡ before.left
  -- With status 0 nothing of before is pending any more: a crash now leaves the table.
  pub settled : (table : Table) (was : List ℕ) → HoldsVolume before table was → status ≡ Done → (d : List ℕ) → after.images d → StandsFor d table
  -- A crash at any moment leaves what one in an opening may leave: where nothing is pending at entry, the table.
  pub moments : (image : List ℕ) → IsTrue before.honest → before.disk ≡ Some image → Leaves before after (StandsOpening meant before.images image)
  pub moments_settled : (table : Table) (was : List ℕ) → IsOnVolume before table was → Leaves before after (λ d. StandsFor d table)
  -- It writes as an opening does: nothing where no record of the log counts.
  pub writes : WritesAsOpening before after status
  -- On a volume nothing but a fault of the disk or of the output, or want of memory, stops it, and without those faults nothing but the latter.
  pub sound : (table : Table) (was : List ℕ) → HoldsVolume before table was → IsLineStatus status
  pub completes : MaySend before after → (status ≡ Done) ⊎ (status ≡ Memory)
  -- The disk holds a volume, or nothing is done.
  pub opening : OpeningPromise before after status
