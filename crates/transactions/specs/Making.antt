-- A version that is made under the next unique number, and the name that is bound to it, where there is one.
use Rattle.std.specs.Prelude.{◌≡◌, ◌≤◌, ℕ, ◌+◌, ◌-◌, ◌^◌, ◌==◌, List, ◌++◌, length, Bool, false, if◌then◌else◌, Option, option_map, unwrap_or, Result, Ok, Err}
use Rattle.bound_names.specs.Bindings.{is_bound}
use Rattle.disk_model.specs.Outside.{Outside}
use Rattle.ex_base.specs.declared.names.Oid.{Oid}
use Rattle.ex_base.specs.declared.notes.NoteKind.{NoteKind}
use Rattle.object_files.specs.Catalog.{Catalog}
use Rattle.table_model.specs.declared.machine.BoundName.{BoundName}
use Rattle.table_model.specs.declared.reply.Refusal.{Refusal}
use Rattle.table_model.specs.declared.reply.Refusal.TheVariants as refusal
use Rattle.table_model.specs.Machines.{bound_if, shown}
use Rattle.table_model.specs.Steps.{note}
use Rattle.session_core.specs.declared.updates.ObjectUpdate.{ObjectUpdate}
use Rattle.session_core.specs.Counts.{free_in}
use Rattle.session_core.specs.Performed.{NamesOid, charge_of}
use Rattle.session_core.specs.ScanRows.{takes_name}
use Rattle.session_core.specs.Sessions.{SessionState, volume_held}
use Rattle.volume_edits.specs.TableUpdates.{updated}
use Rattle.session_core.specs.Contents.{Shaped, pages_on}
use Rattle.session_core.specs.Updates.{HoldsTable, IfUpdated, Noted, TakesAtMost}
use Rattle.transactions.specs.declared.edits.Need.{Need}

-- what a new version may take
abbrev pub making_need : Need
making_need = record { charge = 16; pages = 16; segs = 0 }

-- the next unique number, or why there is none: the last one of its kind stays unused
abbrev pub number_in : Catalog → Result ℕ Refusal
number_in c = if c.next_unique == 2 ^ 64 - 1 then Err refusal.IdsSpent else Ok c.next_unique

-- there is a name, and something has it in the session
abbrev pub takes_if : SessionState → Option (List ℕ) → Bool
takes_if s bind = unwrap_or (option_map (takes_name s) bind) false

-- there is a name, and it is among the bound ones
abbrev pub is_bound_if : List BoundName → Option (List ℕ) → Bool
is_bound_if names bind = unwrap_or (option_map (is_bound names) bind) false

-- The update made a version, and the name, where there is one, was bound to it. In between the session had the update's note, and its parts held the updated table; the update
-- had taken no more than it may.
pub record MakesVersion (a b : Outside) (old new : SessionState) (update : ObjectUpdate) (kind : NoteKind) (bind : Option (List ℕ)) (oid : Oid) : Type 0 where
  pub named : NamesOid update oid
  pub mid : SessionState
  pub noted : Noted old mid (note kind oid 0 0)
  pub touched : length mid.meta.working ≤ length old.meta.working + charge_of update
  pub kept : IfUpdated a old update (TakesAtMost (free_in mid))
  pub holds : IfUpdated a old update (λ before u. HoldsTable before b (volume_held mid) mid.gained mid.lost (updated u oid (shown before.machine)))
  pub shaped : IfUpdated a old update (λ before u. Shaped (pages_on a old) (pages_on b mid) u oid)
  pub bound : new ≡ record mid { names = old.names ++ bound_if bind oid }
