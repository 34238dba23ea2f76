-- What an update of objects is asked for, as an update of the table, and what it does.
use Rattle.std.specs.Prelude.{◌≡◌, ◌≤◌, ◌<◌, ◌+◌, ◌^◌, ℕ, Bool, List, Result, IfOk, IfErr, ⊤}
use Rattle.ex_base.specs.declared.ground.Ground as ground
use Rattle.ex_base.specs.declared.faults.PortFault.{PortFault}
use Rattle.ex_base.specs.declared.names.Area.{Area}
use Rattle.ex_base.specs.declared.names.Oid.{Oid}
use Rattle.ex_base.specs.Ports.{IsDamage}
use Rattle.file_bodies.specs.Touches.{body_pages}
use Rattle.op_log.specs.declared.record.LogRecord.{LogRecord}
use Rattle.versions.specs.Edited.{change_of}
use Rattle.versions.specs.Versions.{AreInUse}
use Rattle.session_core.specs.declared.updates.Done.{Done}
use Rattle.session_core.specs.declared.updates.ObjectUpdate.{ObjectUpdate}
use Rattle.session_core.specs.declared.updates.ObjectUpdate.TheVariants as update
use Rattle.session_core.specs.declared.updates.copying.Copying.{Copying}
use Rattle.session_core.specs.declared.updates.copying.Copying.TheVariants as copying
use Rattle.volume_edits.specs.Ported.{IsApart, IsVolume, units_in}
use Rattle.volume_edits.specs.TableUpdates.{Asks, BecomesVolume, HasRoom, TableUpdate, Makes, Changes, Removes, Freezes, Derives, Drops, updated}
use Rattle.volume_model.specs.Volume.{Volume, table_of}
use Rattle.session_core.specs.Contents.{Shaped, pages_in}
use Rattle.session_core.specs.Damage.{no_version, version_for}
use Rattle.volume_edits.specs.Purposes.{Purpose, ToChange, ToDerive, ToDrop, ToFreeze, ToRemove, anyhow}

-- a copy of a version, as an update of the table
abbrev pub copies : Copying → Oid → ℕ → TableUpdate
copies copying.Freeze oid unique = Freezes oid unique
copies copying.Derive oid unique = Derives oid unique

-- It is this update of the table. A file's number stands for its name.
abbrev pub IsUpdate : ObjectUpdate → TableUpdate → Type 0
IsUpdate (update.Create file_no unique) u = (name : List ℕ) × (u ≡ Makes name file_no unique)
IsUpdate (update.Change oid edit) u = u ≡ Changes oid (change_of edit)
IsUpdate (update.Remove oid) u = u ≡ Removes oid
IsUpdate (update.Copy copying oid unique) u = u ≡ copies copying oid unique
IsUpdate (update.Drop oid) u = u ≡ Drops oid

-- the OID of the version that it makes, changes or removes
abbrev pub NamesOid : ObjectUpdate → Oid → Type 0
NamesOid (update.Create file_no unique) oid = oid.unique ≡ unique
NamesOid (update.Change x edit) oid = oid ≡ x
NamesOid (update.Remove x) oid = oid ≡ x
NamesOid (update.Copy copying x unique) oid = oid.unique ≡ unique
NamesOid (update.Drop x) oid = oid ≡ x

-- what a copy asks for a version for
abbrev pub to_copy : Copying → Purpose
to_copy copying.Freeze = ToFreeze
to_copy copying.Derive = ToDerive

-- the version that it is asked of, and for what, where these units are in use and so many are free; none where it is asked of none
abbrev pub asked_of : (ℕ → Bool) → (Area → ℕ) → ObjectUpdate → Oid → Purpose → Type 0
asked_of used free (update.Create file_no unique) = anyhow no_version
asked_of used free (update.Change x edit) = version_for x (ToChange (change_of edit) used free)
asked_of used free (update.Remove x) = version_for x ToRemove
asked_of used free (update.Copy copying x unique) = version_for x (to_copy copying)
asked_of used free (update.Drop x) = version_for x ToDrop

-- the most logged pages that it touches: for a change of bytes the one of its version's record
abbrev pub charge_of : ObjectUpdate → ℕ
charge_of (update.Change oid edit) = 1
charge_of _ = 16

-- it copies a version
abbrev pub IsCopying : ObjectUpdate → Type 0
IsCopying (update.Copy copying oid unique) = ⊤
IsCopying _ = ⊥

-- What an update takes for granted where so many pages are free: a new version has the pages that it may take, and a number follows its own.
abbrev pub CanPerform : ObjectUpdate → ℕ → Type 0
CanPerform (update.Create file_no unique) free = (body_pages ≤ free) × (unique + 1 < 2 ^ 64)
CanPerform (update.Copy copying oid unique) free = (body_pages ≤ free) × (unique + 1 < 2 ^ 64)
CanPerform _ free = ⊤

-- What an update does with a volume that has what it asks: the volume becomes one with the updated table, and its roots turn as is told; and where the
-- update has its room, no page of the volume is told to be damaged.
pub record Updates {S : Type 0} (g : ground.Ghosts S) (old new : S) (u : TableUpdate) (result : Result Done PortFault) : Type 0 where
  pub done : IfOk result (λ done. (records : List LogRecord) (v : Volume) → g.tells old → IsVolume g old records v → Asks u v (table_of (units_in g old) v) → IsApart g new → AreInUse g new
      → BecomesVolume g old new records v (updated u done.oid (table_of (units_in g old) v)) done.gone done.come)
  pub sound : IfErr result (λ fault. IsDamage fault → (records : List LogRecord) (v : Volume) → g.tells old → IsVolume g old records v → Asks u v (table_of (units_in g old) v) → HasRoom g old u → ⊥)

-- what an update of a volume that has what it asks leaves of the contents of versions, where the one that it makes or changes has this OID
abbrev pub LeavesShaped : {S : Type 0} → ground.Ghosts S → S → S → TableUpdate → Oid → Type 0
LeavesShaped g old new u made = (records : List LogRecord) (v : Volume) → g.tells old → IsVolume g old records v → Asks u v (table_of (units_in g old) v)
    → Shaped (pages_in g old) (pages_in g new) u made
