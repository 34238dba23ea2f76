-- What an update makes of the volume of a session.
use Rattle.std.specs.Prelude.{◌≡◌, ◌≤◌, ◌+◌, ◌++◌, ◌∷◌, [], ℕ, Bool, false, List, length, Some, Option, Result, Ok, Err, All, IsTrue, ⊤}
use Rattle.ex_base.specs.declared.geometry.Geometry.{Geometry}
use Rattle.ex_base.specs.declared.faults.PortFault.{PortFault}
use Rattle.ex_base.specs.declared.names.Area.{Area}
use Rattle.ex_base.specs.declared.names.Oid.{Oid}
use Rattle.ex_base.specs.declared.names.OpNote.{OpNote}
use Rattle.table_model.specs.Tables.{IsTable}
use Rattle.disk_model.specs.Outside.{Outside}
use Rattle.ex_base.specs.declared.names.Root.{Root}
use Rattle.disk_model.specs.Changes.{ChangesWithin}
use Rattle.buffer_groups.specs.Frames.{Frames, Lends}
use Rattle.meta_pages.specs.Overlays.{Overlays}
use Rattle.page_alloc.specs.UnitSet.{UnitSet, used_at}
use Rattle.tree_store.specs.Stored.{InRest, NoUnit, Tells}
use Rattle.ex_base.specs.declared.names.Area.TheVariants.{Page, Segment}
use Rattle.table_model.specs.declared.machine.Machine.{Machine}
use Rattle.table_model.specs.declared.table.Table.{Table}
use Rattle.table_model.specs.Machines.{IsMachine}
use Rattle.table_model.specs.Needs.{pages_need}
use Rattle.table_model.specs.Machines.{shown}
use Rattle.session_views.specs.View.{View, ShowsNow}
use Rattle.session_core.specs.declared.updates.Done.{Done}
use Rattle.session_core.specs.declared.updates.ObjectUpdate.{ObjectUpdate}
use Rattle.session_core.specs.Performed.{IsUpdate}
use Rattle.volume_edits.specs.TableUpdates.{TableUpdate, Changes, Removes, Drops, Asks}
use Rattle.versions.specs.declared.finding.Found.{Found}
use Rattle.volume_model.specs.Shown.{Shared, Shows, used_in}
use Rattle.session_core.specs.Needs.{fits_beside, size_after, units_need}
use Rattle.session_core.specs.Finding.{TellsVersion}
use Rattle.session_core.specs.Meant.{meant, held_view}
use Rattle.session_core.specs.Counts.{free_in}
use Rattle.session_core.specs.Sessions.{SessionState, IsSession, Swept, volume_held}
use Rattle.session_core.specs.Turning.{RootsTurned, TakenOut}
use Rattle.volume_model.specs.Held.{root_here}
use Rattle.volume_port.specs.GivingUp.{CountsRoot, OwnRoots}
use Rattle.volume_port.specs.Giving.{is_logged}
use Rattle.volume_port.specs.Logged.{LoggedSet}
use Rattle.volume_port.specs.declared.state.VolumeState.{VolumeState}

-- a volume with these units, frames, images and logged pages
abbrev pub with_parts : VolumeState → UnitSet → List Frames → Overlays → LoggedSet → VolumeState
with_parts v units groups meta pages = record v { units = units; groups = groups; meta = meta; pages = pages }

-- The volume is of these sizes, and has these parts.
pub record HasParts (v : VolumeState) (g : Geometry) (units : UnitSet) (groups : List Frames) (meta : Overlays) (pages : LoggedSet) : Type 0 where
  pub geometry : g ≡ v.geometry
  pub parts : with_parts v units groups meta pages ≡ v

-- Neither the working state nor the committed one has the unit as a logged page.
abbrev pub IsLoose : LoggedSet → List Bool → ℕ → Type 0
IsLoose pages kept unit = is_logged pages kept unit ≡ false

-- On the disk nothing changed but bytes of units that are not in use.
abbrev pub WritesUnused : Outside → Outside → SessionState → Type 0
WritesUnused a b s = ChangesWithin (InRest s.geometry (used_at s.units) NoUnit) a b

-- the note of an update, of the version with this OID
abbrev pub note_with : OpNote → Oid → OpNote
note_with note oid = record note { oid = oid }

-- the note of an update that was performed so: with the OID that it answered
abbrev pub note_done : OpNote → Result Done PortFault → OpNote
note_done note (Ok done) = note_with note done.oid
note_done note (Err fault) = note

-- ---- the session after it

-- The machine after the update has this table as its working one, and counts the units in use.
pub record MachineWith (old m : Machine) (new : SessionState) (table : Table) : Type 0 where
  pub rules : IsMachine m
  pub geometry : m.geometry ≡ old.geometry
  pub committed : m.committed ≡ old.committed
  pub scans : m.scans ≡ old.scans
  pub working : m.working ≡ Some table
  pub pages : m.pages_used ≡ used_in new.geometry (used_at new.units) Page
  pub segs : m.segs_used ≡ used_in new.geometry (used_at new.units) Segment
  pub touched : m.touched ≡ length new.meta.working

-- The session after the update has this volume and these roots, and its scans are as they were.
pub record KeepsRest (old new : SessionState) (p : VolumeState) (gains loses : List Root) : Type 0 where
  pub is : IsSession new
  pub volume : volume_held new ≡ p
  pub gained : new.gained ≡ gains
  pub lost : new.lost ≡ loses
  pub scans : new.scans ≡ old.scans

-- The state holds a volume with this table, which keeps the rules, and these roots were gained and lost: each session that has them shows it, on what the
-- disk holds, with a machine that has it as its working table.
pub record HoldsTable (before : View SessionState) (b : Outside) (p : VolumeState) (gained lost : List Root) (table : Table) : Type 0 where
  pub later : List ℕ
  pub holds : b.disk ≡ Some later
  pub rules : IsTable before.session.geometry table
  pub shows : (m : Machine) (new : SessionState) → KeepsRest before.session new p gained lost → MachineWith before.machine m new table
      → Shared (held_view (record { machine = m; session = new; disk = later })) → Shows b.images (held_view (record { machine = m; session = new; disk = later }))

-- The session after the update has this volume, but that its roots were turned by the one that went and the one that came, and that the pages are free which
-- the transaction gave back and which the committed state hasn't. Its frames lend what the disk has, and its scans are as they were.
pub record KeepsTurned (old new : SessionState) (b : Outside) (p : VolumeState) (gone come : Option Root) : Type 0 where
  pub is : IsSession new
  pub lends : Tells b p.groups → All (Lends b.disk) new.groups
  pub left : UnitSet
  pub turned : RootsTurned p.pages old.kept old.geometry b p.groups p.units left old.gained new.gained old.lost new.lost gone come
  pub swept : Swept p.meta.working old.kept left new.units
  pub volume : volume_held new ≡ record p { units = new.units; groups = new.groups }
  pub scans : new.scans ≡ old.scans

-- Where the root that went was gained, it owns its tree beside others, also once the one that came is counted.
abbrev pub OwnsGone : View SessionState → Outside → VolumeState → Option Root → Option Root → Type 0
OwnsGone before b p gone come = (counted : UnitSet) (rest : List Root) → CountsRoot come p.units counted → TakenOut before.session.gained rest gone
    → OwnRoots p.pages before.session.kept before.session.geometry b p.groups counted (root_here gone)

-- On an honest disk the state holds a volume with this table, which keeps the rules, also once the roots are turned and the pages are free that were given
-- back.
pub record HoldsTurned (before : View SessionState) (b : Outside) (p : VolumeState) (gone come : Option Root) (table : Table) : Type 0 where
  pub later : List ℕ
  pub holds : b.disk ≡ Some later
  pub honest : IsTrue b.honest
  pub rules : IsTable before.session.geometry table
  pub shows : (m : Machine) (new : SessionState) → KeepsTurned before.session new b p gone come → MachineWith before.machine m new table
      → Shared (held_view (record { machine = m; session = new; disk = later })) → Shows b.images (held_view (record { machine = m; session = new; disk = later }))

-- The session has these roots.
pub record HasRoots (s : SessionState) (gains loses : List Root) : Type 0 where
  pub gained : s.gained ≡ gains
  pub lost : s.lost ≡ loses

-- The session has this volume.
pub record HasVolume (s : SessionState) (p : VolumeState) : Type 0 where
  pub is : IsSession s
  pub volume : volume_held s ≡ p

-- An update was noted, and of the rest of the session nothing changed but its volume and the roots that were gained and lost.
pub record Noted (old new : SessionState) (noted : OpNote) : Type 0 where
  pub is : IsSession new
  pub same : new ≡ record old {
    units = new.units;
    groups = new.groups;
    meta = new.meta;
    pages = new.pages;
    notes = old.notes ++ noted ∷ [];
    gained = new.gained;
    lost = new.lost;
  }

-- The transaction was given up: none is open, and no page is touched.
pub record GivenUp (s : SessionState) : Type 0 where
  pub closed : s.opened ≡ false
  pub untouched : s.meta.working ≡ []

-- ---- what an update asks of the session

-- The units are free that the change of a version may take, as the machine counts them. The other updates take what they find.
abbrev pub HasRoomFor : View SessionState → TableUpdate → Type 0
HasRoomFor before (Changes oid change) = (found : Found) → TellsVersion before oid found → (area : Area)
    → units_need before.session.geometry found change (fits_beside before (record { oid = oid; found = found }) (size_after change found.size)) area ≤ free_in before.session area
HasRoomFor before _ = ⊤

-- Of each area's units that were free, as many are free after the update, as this counts them, but those that the change of a version may take, as the
-- machine counts them; but none where a version is removed; and but sixteen pages where one is made.
abbrev pub TakesAtMost : (Area → ℕ) → View SessionState → TableUpdate → Type 0
TakesAtMost free before (Changes oid change) = (found : Found) → TellsVersion before oid found → (area : Area)
    → free_in before.session area ≤ free area + units_need before.session.geometry found change (fits_beside before (record { oid = oid; found = found }) (size_after change found.size)) area
TakesAtMost free before (Removes oid) = (area : Area) → free_in before.session area ≤ free area
TakesAtMost free before (Drops oid) = (area : Area) → free_in before.session area ≤ free area
TakesAtMost free before _ = (area : Area) → free_in before.session area ≤ free area + pages_need 16 area

-- what holds of each view that shows what stands outside, of a session with this volume, and whose volume and table have what the update asks
abbrev pub IfAsked : Outside → VolumeState → ObjectUpdate → (View SessionState → TableUpdate → Type 0) → Type 0
IfAsked w p update P = (before : View SessionState) → HasVolume before.session p → (now : ShowsNow meant w before) (u : TableUpdate) → IsUpdate update u
    → Asks u now.shows.working (shown before.machine) → P before u

-- the same of a session
abbrev pub IfUpdated : Outside → SessionState → ObjectUpdate → (View SessionState → TableUpdate → Type 0) → Type 0
IfUpdated w s update P = (before : View SessionState) → before.session ≡ s → (now : ShowsNow meant w before) (u : TableUpdate) → IsUpdate update u
    → Asks u now.shows.working (shown before.machine) → P before u
