-- How a run begins, whatever hands it its lines: with the opening of its volume.
use Rattle.std.specs.Prelude.{◌≡◌, ◌⊎◌, ℕ, List, Option, None, Some}
use Rattle.disk_model.specs.Outside.{DiskOnly, Goes, Outside, ReadsOnly}
use Rattle.table_model.specs.declared.table.Table.{Table}
use Rattle.session_views.specs.declared.OpenFault.{OpenFault}
use Rattle.talks.specs.Opening.{Opened}
use Rattle.runs.specs.Source.{NotBegun}
use Rattle.session_core.specs.Meant.{meant}
use Rattle.session_core.specs.Sessions.{SessionState}
use Rattle.command_line.specs.declared.status.Status.{Status}
use Rattle.command_line.specs.declared.status.Status.TheVariants.{Done, Memory}
use Rattle.exsm_run.specs.Check.{unopened_status}
use Rattle.exsm_run.specs.Fresh.{IsFresh}
use Rattle.exsm_run.specs.Openings.{WritesAsOpening}
use Rattle.exsm_run.specs.Script.{HoldsVolume}

-- What the opening of a volume does, given the fault that it answers, if one: where it writes, and from when on a crash leaves the volume.
abbrev pub OpensVolume : Outside → Outside → Option OpenFault → Type 0
OpensVolume before after None = WritesAsOpening before after Done
OpensVolume before after (Some fault) = WritesAsOpening before after (unopened_status fault)

-- A run begins with the opening of its volume. It was over on this host, with this status, and wrote as an opening does.
pub record Begins {H : Type 0} (outside : H → Outside) (before after : Outside) (status : Status) : Type 0 where
  pub then : H
  pub answer : Status
  pub writes : WritesAsOpening before (outside then) answer
  pub only : DiskOnly before (outside then)
  pub later : Goes (outside then) after
  -- Where a volume was opened a view shows it there, with its table at its start and nothing else.
  pub shows : answer ≡ Done → (table : Table) (was : List ℕ) → HoldsVolume before table was → (session : SessionState) × Opened meant IsFresh table session (outside then)
  -- Where none was the run ended with that status, and the disk was read at most since.
  pub ended : (answer ≡ Done) ⊎ ((status ≡ answer) × ReadsOnly (outside then) after)

-- It begins so, or no memory was there for its lines, and nothing was called.
abbrev pub BeginsOrNot : {H : Type 0} → (H → Outside) → Outside → Outside → Status → Type 0
BeginsOrNot outside before after status = Begins outside before after status ⊎ ((status ≡ Memory) × NotBegun before after)
