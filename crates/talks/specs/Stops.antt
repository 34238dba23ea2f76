-- Why a run stops, and what shows of it.
use Rattle.std.specs.Prelude.{◌≢◌, Option, Some, None, ⊤}
use Rattle.disk_model.specs.Outside.{Outside, Rose}
use Rattle.script_lines.specs.declared.shown.LineFault.{LineFault}
use Rattle.script_lines.specs.declared.shown.LineFault.TheVariants as line_fault
use Rattle.session_views.specs.declared.Stop.{Stop}
use Rattle.session_views.specs.declared.Stop.TheVariants as stop
use Rattle.session_views.specs.declared.OpenFault.{OpenFault}
use Rattle.session_views.specs.declared.OpenFault.TheVariants as open_fault
use Rattle.talks.specs.declared.stopped.Stopped.{Stopped}
use Rattle.talks.specs.declared.stopped.Stopped.TheVariants.{Script, Output, Disk, Memory, BadVolume, Damaged, ScriptLong}

-- a session's stop, as a run ends by it; none where the session was down before, which a run never meets
abbrev pub stop_as : Stop → Option Stopped
stop_as stop.Memory = Some Memory
stop_as stop.Disk = Some Disk
stop_as (stop.Damaged page want got) = Some (Damaged page want got)
stop_as stop.Down = None

-- a fault of an opening, as a run ends by it
abbrev pub unopened_as : OpenFault → Stopped
unopened_as open_fault.Memory = Memory
unopened_as open_fault.Disk = Disk
unopened_as (open_fault.BadVolume part) = BadVolume part

-- a fault of the reading of lines, as a run ends by it
abbrev pub unread_as : LineFault → Stopped
unread_as line_fault.Read = Script
unread_as line_fault.TooMuch = ScriptLong

-- A fault of the outside rose in its count, and damage is of two things that differ.
abbrev pub CausedBy : Stopped → Outside → Outside → Type 0
CausedBy Script before after = Rose before.read_faults after.read_faults
CausedBy Output before after = Rose before.write_faults after.write_faults
CausedBy Disk before after = Rose before.disk_faults after.disk_faults
CausedBy Memory before after = ⊤
CausedBy (BadVolume part) before after = ⊤
CausedBy (Damaged page want got) before after = want ≢ got
CausedBy ScriptLong before after = ⊤

-- what may stop a run on a volume: a fault of the outside, want of memory, or too long a script
abbrev pub IsSoundStop : Stopped → Type 0
IsSoundStop Script = ⊤
IsSoundStop Output = ⊤
IsSoundStop Disk = ⊤
IsSoundStop Memory = ⊤
IsSoundStop (BadVolume part) = ⊥
IsSoundStop (Damaged page want got) = ⊥
IsSoundStop ScriptLong = ⊤

-- what may stop the opening of a volume
abbrev pub IsOpeningStop : Stopped → Type 0
IsOpeningStop Script = ⊥
IsOpeningStop Output = ⊥
IsOpeningStop Disk = ⊤
IsOpeningStop Memory = ⊤
IsOpeningStop (BadVolume part) = ⊤
IsOpeningStop (Damaged page want got) = ⊥
IsOpeningStop ScriptLong = ⊥

-- what may stop a step of a session
abbrev pub IsSessionStop : Stopped → Type 0
IsSessionStop Script = ⊥
IsSessionStop Output = ⊥
IsSessionStop Disk = ⊤
IsSessionStop Memory = ⊤
IsSessionStop (BadVolume part) = ⊥
IsSessionStop (Damaged page want got) = ⊤
IsSessionStop ScriptLong = ⊥

-- what may stop the taking of a line
abbrev pub IsTakingStop : Stopped → Type 0
IsTakingStop Script = ⊤
IsTakingStop Output = ⊥
IsTakingStop Disk = ⊥
IsTakingStop Memory = ⊤
IsTakingStop (BadVolume part) = ⊥
IsTakingStop (Damaged page want got) = ⊥
IsTakingStop ScriptLong = ⊤

-- what may stop the sending of a reply
abbrev pub IsSendingStop : Stopped → Type 0
IsSendingStop Script = ⊥
IsSendingStop Output = ⊤
IsSendingStop Disk = ⊥
IsSendingStop Memory = ⊤
IsSendingStop (BadVolume part) = ⊥
IsSendingStop (Damaged page want got) = ⊥
IsSendingStop ScriptLong = ⊥

-- what may stop the stepping of lines
abbrev pub IsLinesStop : Stopped → Type 0
IsLinesStop Script = ⊤
IsLinesStop Output = ⊤
IsLinesStop Disk = ⊤
IsLinesStop Memory = ⊤
IsLinesStop (BadVolume part) = ⊥
IsLinesStop (Damaged page want got) = ⊤
IsLinesStop ScriptLong = ⊤

-- The run answered each line that it took: it reached the end of the script (None), or of what counts of it.
abbrev pub IsWhole : Option Stopped → Type 0
IsWhole None = ⊤
IsWhole (Some ScriptLong) = ⊤
IsWhole (Some Script) = ⊥
IsWhole (Some Output) = ⊥
IsWhole (Some Disk) = ⊥
IsWhole (Some Memory) = ⊥
IsWhole (Some (BadVolume part)) = ⊥
IsWhole (Some (Damaged page want got)) = ⊥

-- A stop that leaves lines unanswered.
abbrev pub IsPart : Stopped → Type 0
IsPart why = IsWhole (Some why) → ⊥
