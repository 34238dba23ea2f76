-- What a session finds of the objects of its volume, and why it stops.
use Rattle.std.specs.Prelude.{true, ◌≡◌, ◌≢◌, ◌⊎◌, ◌≤◌, ◌^◌, ◌++◌, ◌↔◌, ℕ, List, [], ◌∷◌, IsPermutation, IsSome, length, take, drop, Option, Some, None, unwrap_or, slice_index_or, nat_eq, bytes_eq, find, option_map, Contains, Result, Ok, Err, ⊤}
use Rattle.std.specs.Map.{lookup}
use Rattle.ex_base.specs.Area.{InPageArea, page_at}
use Rattle.ex_base.specs.declared.ground.Ground as ground
use Rattle.ex_base.specs.declared.faults.PortFault.{PortFault}
use Rattle.ex_base.specs.declared.faults.PortFault.TheVariants as fault
use Rattle.ex_base.specs.declared.names.Oid.{Oid}
use Rattle.ex_base.specs.declared.names.Root.{Root}
use Rattle.disk_model.specs.Outside.{Outside, Rose}
use Rattle.tree_store.specs.Stored.{unit_bytes}
use Rattle.volume_port.specs.Logged.{is_held}
use Rattle.volume_port.specs.Ported.{image_over}
use Rattle.volume_port.specs.Reading.{TellsBytes}
use Rattle.meta_pages.specs.Overlays.{over}
use Rattle.slotted_pages.specs.FilePage.{body_of}
use Rattle.slotted_pages.specs.Edits.{slots_of}
use Rattle.object_files.specs.Catalog.{FileEntry}
use Rattle.object_records.specs.Record.{Content, Record}
use Rattle.object_records.specs.Reads.{record_on}
use Rattle.table_model.specs.declared.machine.BoundName.{BoundName}
use Rattle.table_model.specs.declared.machine.Machine.{Machine}
use Rattle.table_model.specs.declared.reply.Refusal.{Refusal}
use Rattle.table_model.specs.declared.reply.Refusal.TheVariants as refusal
use Rattle.version_lists.specs.declared.version.Version.{Version}
use Rattle.table_model.specs.Machines.{oid_of, shown}
use Rattle.table_model.specs.Requests.{Reference, Bound, Numbered}
use Rattle.table_model.specs.Refusals.{branches_if}
use Rattle.table_model.specs.Steps.{current_if, oids, versions_if}
use Rattle.table_model.specs.Tables.{file_at, object_at, version_at, versions_of}
use Rattle.version_lists.specs.Versions.{derived_from, listed, numbered_in, unique_of}
use Rattle.session_views.specs.declared.stop.Stop.{Stop}
use Rattle.session_views.specs.declared.stop.Stop.TheVariants as stop
use Rattle.session_views.specs.View.{View, ShowsNow}
use Rattle.versions.specs.Found.{root_of}
use Rattle.versions.specs.Found as found_words
use Rattle.versions.specs.Listed.{AreByNumber}
use Rattle.versions.specs.declared.finding.Found.{Found}
use Rattle.op_log.specs.declared.record.LogRecord.{LogRecord}
use Rattle.volume_edits.specs.Ported.{ShowsVolume, units_in}
use Rattle.volume_model.specs.Shown.{Held}
use Rattle.volume_model.specs.Volume.{Volume, is_frozen, table_of}
use Rattle.session_core.specs.declared.session.objects.Named.{Named}
use Rattle.session_core.specs.declared.session.relatives.Relation.{Relation}
use Rattle.session_core.specs.declared.session.relatives.Relation.TheVariants as relation
use Rattle.session_core.specs.Meant.{meant, held_view, units_held, content_at, lengths_of}
use Rattle.session_core.specs.Sessions.{SessionState, IsSession}

-- what holds of each view of the session that shows what stands outside
abbrev pub IfShown : Outside → SessionState → (View SessionState → Type 0) → Type 0
IfShown w s P = (before : View SessionState) → before.session ≡ s → ShowsNow meant w before → P before

-- why a call on objects stops: a fault of the disk, want of memory, or a page that isn't what it should be
abbrev pub LineStops : Outside → Outside → Stop → Type 0
LineStops a b stop.Memory = ⊤
LineStops a b stop.Disk = Rose a.disk_faults b.disk_faults
LineStops a b (stop.Damaged page want got) = want ≢ got
LineStops a b stop.Down = ⊥

-- what a session stops at where a call of its port failed
abbrev pub stop_at : PortFault → Stop
stop_at fault.Disk = stop.Disk
stop_at fault.Memory = stop.Memory
stop_at (fault.Damaged page want got) = stop.Damaged page want got

-- what a call of a port answered, with what the session stops at where it failed
abbrev pub stop_or : {T : Type 0} → Result T PortFault → Result T Stop
stop_or (Ok told) = Ok told
stop_or (Err fault) = Err (stop_at fault)

-- it is no fault of the volume
abbrev pub IsOutside : Stop → Type 0
IsOutside stop.Memory = ⊤
IsOutside stop.Disk = ⊤
IsOutside (stop.Damaged page want got) = ⊥
IsOutside stop.Down = ⊥

-- ---- ports over a session

-- a page of the page area, as the session has it
abbrev pub held_image : Held → List ℕ → ℕ → List ℕ
held_image s disk page = unwrap_or (over (lookup (nat_eq page) s.working_pages) (lookup (nat_eq page) s.overlay)) (page_at s.geometry disk page)

-- The port has the bytes, the images and the logged pages of the session, where the disk holds these bytes.
pub record IsPortOf {S : Type 0} (g : ground.Ghosts S) (s : S) (session : SessionState) (disk : Option (List ℕ)) : Type 0 where
  pub geometry : g.geometry s ≡ session.geometry
  pub unit : g.unit s ≡ unit_bytes session.geometry disk
  pub image : g.image s ≡ image_over session.geometry session.meta (unit_bytes session.geometry disk)
  pub held : g.held s ≡ is_held session.pages

-- The port is over a session: it has the session's parts, and tells them where the frames have the bytes of their pages.
pub record IsPortOver {S : Type 0} (g : ground.Ghosts S) (s : S) (w : Outside) (session : SessionState) : Type 0 where
  pub is : IsSession session
  pub port : IsPortOf g s session w.disk
  pub tells : TellsBytes w session.groups → g.tells s

-- The port has the volume that the view shows, with its table, and the images of its pages.
pub record PortShows {S : Type 0} (g : ground.Ghosts S) (s : S) (v : View SessionState) : Type 0 where
  pub geometry : g.geometry s ≡ v.session.geometry
  pub records : List LogRecord
  pub working : Volume
  pub volume : ShowsVolume g s records working
  pub table : shown v.machine ≡ table_of (units_in g s) working
  pub image : (page : ℕ) → InPageArea (g.geometry s) page → g.image s page ≡ held_image (held_view v).session v.disk page
  pub tells : g.tells s

-- ---- the versions that are found

-- the record at the place that the OID names
abbrev pub record_named : View Held → Oid → Record
record_named v oid = record_on (body_of (slice_index_or (slots_of (held_image v.session v.disk oid.page.0)) oid.slot None))

-- what it says
abbrev pub content_named : View Held → Oid → Content
content_named v oid = (record_named v oid).content

-- It is told of the version under the OID: its size, its head and its root. The head says whether the version is frozen, whether it is a first one, and of
-- a frozen one whether just one is derived from it. Its record lies on a page of the page area.
pub record TellsVersion (before : View SessionState) (oid : Oid) (found : Found) : Type 0 where
  pub version : Version
  pub is : version_at (shown before.machine) oid ≡ Some version
  pub size : found.size ≡ length version.bytes
  pub head : found.head ≡ (record_named (held_view before) oid).head
  pub frozen : is_frozen found.head.state ≡ version.frozen
  pub first : (found.head.older ≡ None) ↔ (version.older ≡ None)
  pub one : version.frozen ≡ true → IsSome found.head.newer ↔ (branches_if (versions_of (shown before.machine)) (Some version) ≡ 1)
  pub root : found.root ≡ root_of (content_named (held_view before) oid)
  pub content : found.size ≡ found_words.size_of (content_named (held_view before) oid)
  pub named : version.oid ≡ oid
  pub lies : InPageArea before.session.geometry oid.page.0

-- it is found just where the shown table has it
abbrev pub IsFound : View SessionState → Oid → Option Found → Type 0
IsFound before oid None = version_at (shown before.machine) oid ≡ None
IsFound before oid (Some found) = TellsVersion before oid found

-- what holds of the bytes of the version under the OID, where there is one
abbrev pub IfLive : View SessionState → Oid → (List ℕ → Type 0) → Type 0
IfLive before oid P = (version : Version) → version_at (shown before.machine) oid ≡ Some version → P version.bytes

-- what holds of the bytes of the version that was found, where there is one under its OID, and it has the root that was told
abbrev pub IfFound : View SessionState → Named → (List ℕ → Type 0) → Type 0
IfFound before named P = (version : Version) → version_at (shown before.machine) named.oid ≡ Some version → named.found.root ≡ root_of (content_named (held_view before) named.oid) → P version.bytes

-- ---- the relatives of a version

-- the OID as a list, if there is one
abbrev pub oids_if : Option Oid → List Oid
oids_if None = []
oids_if (Some oid) = oid ∷ []

-- These are relatives of the version: all versions of its object, as they are listed; those that are derived from it, in order of their numbers; or the one
-- that it is derived from, if it is derived from one.
abbrev pub AreRelatives : Machine → Version → Relation → List Oid → Type 0
AreRelatives m v relation.Object found = found ≡ oids (listed (versions_if (object_at (shown m) v.oid)))
AreRelatives m v relation.Derived found = IsPermutation (oids (derived_from (unique_of v) (versions_of (shown m)))) found × AreByNumber found
AreRelatives m v relation.Older found = found ≡ oids_if (option_map (λ (w : Version). w.oid) (numbered_in (versions_of (shown m)) v.older))

-- what holds of the version under the OID, where there is one
abbrev pub IfVersion : View SessionState → Oid → (Version → Type 0) → Type 0
IfVersion before oid P = (version : Version) → version_at (shown before.machine) oid ≡ Some version → P version

-- ---- the shape of a version

-- the lengths of the leaves of the version's tree, from left to right, as the volume of the view has it: none of a small one
abbrev pub lengths_named : View SessionState → Oid → List ℕ
lengths_named before oid = lengths_of (units_held (held_view before)) (content_at (held_view before) oid)

-- what holds of the OID of each version of the shown table that is large, with this root
abbrev pub IfRoot : View SessionState → Root → (Oid → Type 0) → Type 0
IfRoot before root P = (oid : Oid) (version : Version) → version_at (shown before.machine) oid ≡ Some version → root_of (content_named (held_view before) oid) ≡ Some root → P oid

-- It is told how many leaves the version's tree has. The front of the room has the lengths of the first ones, as many as there are or as it holds.
pub record TellsShape (before : View SessionState) (oid : Oid) (leaves : ℕ) (room first : List ℕ) : Type 0 where
  pub count : leaves ≡ length (lengths_named before oid)
  pub lengths : first ≡ take (length room) (lengths_named before oid) ++ drop (length (lengths_named before oid)) room

-- ---- the objects of a file

-- the OIDs of the current versions of a file, as the shown table has them
abbrev pub oids_listed : Machine → List ℕ → List Oid
oids_listed m name = oids (current_if (file_at (shown m) name))

-- what holds of the name of each file of the port's volume that has this number
abbrev pub IfPortFile : {S : Type 0} → ground.Ghosts S → S → ℕ → (View SessionState → List ℕ → Type 0) → Type 0
IfPortFile g s file_no P = (before : View SessionState) (shows : PortShows g s before) (e : FileEntry) → Contains shows.working.catalog.entries e → e.file_no ≡ file_no → P before e.name

-- what holds of the name of each file of the shown volume that has this number
abbrev pub IfFile : Outside → SessionState → ℕ → (View SessionState → List ℕ → Type 0) → Type 0
IfFile w s file_no P = (before : View SessionState) → before.session ≡ s → (now : ShowsNow meant w before) (e : FileEntry) → Contains now.shows.working.catalog.entries e → e.file_no ≡ file_no → P before e.name

-- ---- how a line names a version

abbrev pub oid_among : List BoundName → Reference → Option Oid
oid_among names (Bound name) = option_map (λ b. b.oid) (find (λ b. bytes_eq b.name name) names)
oid_among names (Numbered page slot unique) = Some (record { page = record { 0 = page }; slot = slot; unique = unique })

-- a number of the OID is out of the range of its field
abbrev pub IsOutOfRange : Oid → Type 0
IsOutOfRange oid = (2 ^ 32 ≤ oid.page.0) ⊎ (2 ^ 16 ≤ oid.slot)

-- why a line names no version before any is looked for
abbrev pub IsUnnamed : List BoundName → Reference → Refusal → Type 0
IsUnnamed names x why = ((why ≡ refusal.NoName) × (oid_among names x ≡ None)) ⊎ ((why ≡ refusal.NoObject) × ((oid : Oid) × (oid_among names x ≡ Some oid) × IsOutOfRange oid))

-- why the reference names no version of the shown table
abbrev pub IsMissing : Machine → Reference → Refusal → Type 0
IsMissing m x why = ((why ≡ refusal.NoName) × (oid_of m x ≡ None)) ⊎ ((why ≡ refusal.NoObject) × ((oid : Oid) × (oid_of m x ≡ Some oid) × (version_at (shown m) oid ≡ None)))

-- The reference names this version, of which this is told.
pub record NamesVersion (before : View SessionState) (x : Reference) (named : Named) : Type 0 where
  pub named_by : oid_of before.machine x ≡ Some named.oid
  pub told : TellsVersion before named.oid named.found

abbrev pub IsNamed : View SessionState → Reference → Result Named Refusal → Type 0
IsNamed before x (Ok named) = NamesVersion before x named
IsNamed before x (Err why) = IsMissing before.machine x why
