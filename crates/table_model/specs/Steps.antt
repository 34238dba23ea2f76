-- What a command does: its reply and the machine after it, given what the volume decides.
use Rattle.std.specs.Prelude.{ℕ, ◌+◌, ◌-◌, ◌≤◌, ◌≡◌, min, List, [], ◌∷◌, ◌++◌, length, map, filter, not, bytes_eq, if◌then◌else◌, Option, Some, None, IsTrue, All, take, ⊤}
use Rattle.sha2.specs.Sha256.{sha256}
use Rattle.ex_base.specs.Bytes.{bytes_at}
use Rattle.ex_base.specs.Edits.{inserted, deleted, replaced, appended}
use Rattle.ex_base.specs.declared.names.Area.TheVariants.{Page, Segment}
use Rattle.ex_base.specs.declared.names.Oid.{Oid}
use Rattle.ex_base.specs.declared.names.OpNote.{OpNote}
use Rattle.ex_base.specs.declared.notes.NoteKind.{NoteKind}
use Rattle.ex_base.specs.declared.notes.NoteKind.TheVariants as note_kind
use Rattle.table_model.specs.declared.table.Table.{Table}
use Rattle.table_model.specs.declared.table.TableFile.{TableFile}
use Rattle.version_lists.specs.declared.version.Version.{Version}
use Rattle.version_lists.specs.declared.version.Object.{Object}
use Rattle.version_lists.specs.Versions.{listed}
use Rattle.version_lists.specs.Changes.{new_version}
use Rattle.table_model.specs.declared.machine.Machine.{Machine}
use Rattle.table_model.specs.declared.machine.ScanRow.{ScanRow}
use Rattle.table_model.specs.declared.machine.Pick.{Pick}
use Rattle.table_model.specs.declared.reply.Refusal.{Refusal}
use Rattle.table_model.specs.declared.reply.Reply.{Reply}
use Rattle.table_model.specs.declared.reply.Reply.TheVariants as reply
use Rattle.table_model.specs.Tables.{current_in, file_at, object_at, versions_of, SamePlace, with_file, without_file, numbered, with_object, with_bytes, with_derived, with_frozen, without_version}
use Rattle.table_model.specs.Requests.{Request, Reference, given_bytes, given_count}
use Rattle.table_model.specs.Requests as request
use Rattle.table_model.specs.Machines.{shown, the_oid, bytes_of, size_of, scan_at, bound, unmarked, kept, no_oid}
use Rattle.table_model.specs.Needs.{need, charge, is_update}
use Rattle.table_model.specs.Refusals.{refusal_of}

-- ---- what an update leaves in the log

abbrev pub note : NoteKind → Oid → ℕ → ℕ → OpNote
note kind oid first second = record { kind = kind; oid = oid; first = first; second = second }

-- the identifier of the version that `create`, `freeze` and `derive` make
abbrev pub new_oid : Machine → Pick → Oid
new_oid m q = record { page = q.place.page; slot = q.place.slot; unique = (shown m).next_unique }

abbrev pub notes_of : Machine → Request → Pick → List OpNote
notes_of m (request.File name) q = note note_kind.FileMade no_oid 0 0 ∷ []
notes_of m (request.Unfile name) q = note note_kind.FileRemoved no_oid 0 0 ∷ []
notes_of m (request.Create file bind) q = note note_kind.ObjectMade (new_oid m q) 0 0 ∷ []
notes_of m (request.Destroy x) q = note note_kind.ObjectRemoved (the_oid m x) 0 0 ∷ []
notes_of m (request.Insert x pos given) q = note note_kind.Inserted (the_oid m x) pos (given_count given) ∷ []
notes_of m (request.Append x given) q = note note_kind.Appended (the_oid m x) (size_of m x) (given_count given) ∷ []
notes_of m (request.Replace x pos given) q = note note_kind.Replaced (the_oid m x) pos (given_count given) ∷ []
notes_of m (request.Delete x pos len) q = note note_kind.Deleted (the_oid m x) pos len ∷ []
notes_of m (request.Freeze x bind) q = note note_kind.Frozen (new_oid m q) 0 0 ∷ []
notes_of m (request.Derive x bind) q = note note_kind.Derived (new_oid m q) 0 0 ∷ []
notes_of m (request.DropVersion x) q = note note_kind.Dropped (the_oid m x) 0 0 ∷ []
notes_of m _ q = []

-- ---- the table that an update leaves

abbrev pub table_after : Machine → Request → Pick → Table
table_after m (request.File name) q = with_file name (shown m)
table_after m (request.Unfile name) q = without_file name (shown m)
table_after m (request.Create file bind) q = numbered (with_object (new_oid m q) file (shown m))
table_after m (request.Destroy x) q = without_version (the_oid m x) (shown m)
table_after m (request.Insert x pos given) q = with_bytes (the_oid m x) (λ bytes. inserted bytes pos (given_bytes given)) (shown m)
table_after m (request.Append x given) q = with_bytes (the_oid m x) (λ bytes. appended bytes (given_bytes given)) (shown m)
table_after m (request.Replace x pos given) q = with_bytes (the_oid m x) (λ bytes. replaced bytes pos (given_bytes given)) (shown m)
table_after m (request.Delete x pos len) q = with_bytes (the_oid m x) (λ bytes. deleted bytes pos len) (shown m)
table_after m (request.Freeze x bind) q = numbered (with_frozen (the_oid m x) (new_oid m q) (shown m))
table_after m (request.Derive x bind) q = numbered (with_derived (the_oid m x) (new_oid m q) (shown m))
table_after m (request.DropVersion x) q = without_version (the_oid m x) (shown m)
table_after m _ q = shown m

-- ---- the machine that an accepted command leaves

-- with the volume's counts of units in use
abbrev pub counted : Pick → Machine → Machine
counted q m = record m { pages_used = q.pages; segs_used = q.segs }

-- an update: the table changed, one note more
abbrev pub updated : Machine → Request → Pick → Machine
updated m r q = counted q (record m { working = Some (table_after m r q); notes = m.notes ++ notes_of m r q; touched = q.touched })

-- no transaction is open
abbrev pub closed : Machine → Machine
closed m = record m { working = None; notes = []; touched = 0 }

-- what a commit makes of the working table
abbrev pub table_committed : Machine → Table
table_committed m = record (shown m) { last = (shown m).last + 1 }

abbrev pub rest : ScanRow → ℕ
rest s = length s.bytes - s.pos

abbrev pub moved : List ℕ → ℕ → ScanRow → ScanRow
moved name len s = if bytes_eq s.name name then record s { pos = s.pos + min len (rest s) } else s

-- with the name bound that the update binds, where it binds one
abbrev pub binds : Request → Oid → Machine → Machine
binds (request.Create file bind) oid m = bound bind oid m
binds (request.Freeze x bind) oid m = bound bind oid m
binds (request.Derive x bind) oid m = bound bind oid m
binds _ oid m = m

-- of the commands that are no updates
abbrev pub moved_by : Machine → Request → Pick → Machine
moved_by m request.Begin q = record m { working = Some m.committed; notes = []; touched = 1 }
moved_by m request.Commit q = counted q (closed (record m { committed = table_committed m; names = unmarked m.names }))
moved_by m request.Abort q = counted q (closed (record m { names = kept m.names }))
moved_by m (request.Group name frames mru) q = record m { groups = m.groups ++ record { name = name; frames = frames; mru = mru } ∷ [] }
moved_by m (request.Scan x name group) q = record m { scans = m.scans ++ record { name = name; bytes = bytes_of m x; pos = 0 } ∷ [] }
moved_by m (request.Next name len) q = record m { scans = map (moved name len) m.scans }
moved_by m (request.Close name) q = counted q (record m { scans = filter (λ s. not (bytes_eq s.name name)) m.scans })
moved_by m _ q = m

abbrev pub machine_after : Machine → Request → Pick → Machine
machine_after m r q = if is_update r then binds r (new_oid m q) (updated m r q) else moved_by m r q

-- ---- the reply to an accepted command

abbrev pub oids : List Version → List Oid
oids vs = map (λ v. v.oid) vs

-- the current versions of a file
abbrev pub current_if : Option TableFile → List Version
current_if None = []
current_if (Some f) = current_in f

abbrev pub versions_if : Option Object → List Version
versions_if None = []
versions_if (Some o) = o.versions

abbrev pub stat_reply : ℕ → Pick → Reply
stat_reply size q = if q.small then reply.StatSmall size else reply.StatLarge size q.height (length q.leaves) (take 16 q.leaves)

-- the next bytes of a scan
abbrev pub next_bytes : Option ScanRow → ℕ → List ℕ
next_bytes None len = []
next_bytes (Some s) len = bytes_at s.bytes s.pos (min len (rest s))

abbrev pub reply_to : Machine → Request → Pick → Reply
reply_to m request.Begin q = reply.Begin (m.committed.last + 1)
reply_to m request.Commit q = reply.Commit ((shown m).last + 1)
reply_to m request.Abort q = reply.Abort
reply_to m request.Checkpoint q = reply.Checkpoint
reply_to m request.Log q = reply.Log q.records
reply_to m request.Files q = reply.Files (map (λ f. f.name) (shown m).files)
reply_to m request.Space q = reply.Space m.pages_used m.geometry.pages m.segs_used m.geometry.segs
reply_to m (request.File name) q = reply.File name
reply_to m (request.Unfile name) q = reply.Unfile name
reply_to m (request.ListFile name) q = reply.List (oids (current_if (file_at (shown m) name)))
reply_to m (request.Create file bind) q = reply.Create (new_oid m q)
reply_to m (request.Destroy x) q = reply.Destroy (the_oid m x)
reply_to m (request.Size x) q = reply.Size (size_of m x)
reply_to m (request.Stat x) q = stat_reply (size_of m x) q
reply_to m (request.Digest x) q = reply.Digest (sha256 (bytes_of m x))
reply_to m (request.Versions x) q = reply.Versions (oids (listed (versions_if (object_at (shown m) (the_oid m x)))))
reply_to m (request.DropVersion x) q = reply.DropVersion (the_oid m x)
reply_to m (request.Read x pos len) q = reply.Read (bytes_at (bytes_of m x) pos len)
reply_to m (request.Insert x pos given) q = reply.Insert (size_of m x + given_count given)
reply_to m (request.Append x given) q = reply.Append (size_of m x + given_count given)
reply_to m (request.Replace x pos given) q = reply.Replace (size_of m x)
reply_to m (request.Delete x pos len) q = reply.Delete (size_of m x - len)
reply_to m (request.Freeze x bind) q = reply.Freeze (new_oid m q)
reply_to m (request.Derive x bind) q = reply.Derive (new_oid m q)
reply_to m (request.Group name frames mru) q = reply.Group name
reply_to m (request.Scan x name group) q = reply.Scan name (size_of m x)
reply_to m (request.Next name len) q = reply.Next (next_bytes (scan_at m name) len)
reply_to m (request.Close name) q = reply.Close name

-- ---- what the volume may decide

-- a new version is put where none is
abbrev pub IsVacant : Machine → Pick → Type 0
IsVacant m q = All (λ v. SamePlace v (new_version (new_oid m q)) → ⊥) (versions_of (shown m))

-- an update takes at most its need and touches at most its charge
pub record WithinNeed (m : Machine) (r : Request) (q : Pick) : Type 0 where
  pub pages : q.pages ≤ m.pages_used + need m.geometry r q Page
  pub segs : q.segs ≤ m.segs_used + need m.geometry r q Segment
  pub touched : q.touched ≤ m.touched + charge r

-- no unit is taken
pub record TakesNone (m : Machine) (q : Pick) : Type 0 where
  pub pages : q.pages ≤ m.pages_used
  pub segs : q.segs ≤ m.segs_used

-- what else is asked of some commands
abbrev pub Asks : Machine → Request → Pick → Type 0
Asks m request.Commit q = TakesNone m q
Asks m request.Abort q = TakesNone m q
Asks m (request.Close name) q = TakesNone m q
Asks m (request.Create file bind) q = IsVacant m q
Asks m (request.Freeze x bind) q = IsVacant m q
Asks m (request.Derive x bind) q = IsVacant m q
Asks m _ q = ⊤

abbrev pub IsAllowed : Machine → Request → Pick → Type 0
IsAllowed m r q = Asks m r q × (IsTrue (is_update r) → WithinNeed m r q)

-- ---- one step

abbrev pub answer_of : Option Refusal → Reply → Reply
answer_of None told = told
answer_of (Some why) told = reply.No why

abbrev pub answer : Machine → Request → Pick → Reply
answer m r q = answer_of (refusal_of m r q) (reply_to m r q)

-- a refusal leaves the machine
abbrev pub next_of : Option Refusal → Machine → Machine → Machine
next_of None old new = new
next_of (Some why) old new = old

abbrev pub next : Machine → Request → Pick → Machine
next m r q = next_of (refusal_of m r q) m (machine_after m r q)

-- nothing is asked of a refusal's pick
abbrev pub IfAccepted : Option Refusal → Type 0 → Type 0
IfAccepted None P = P
IfAccepted (Some why) P = ⊤

abbrev pub Allows : Machine → Request → Pick → Type 0
Allows m r q = IfAccepted (refusal_of m r q) (IsAllowed m r q)

-- The machine steps on the command, with what the volume decides, to the reply and the machine after.
pub record Step (before : Machine) (r : Request) (q : Pick) (told : Reply) (after : Machine) : Type 0 where
  pub reply : told ≡ answer before r q
  pub machine : after ≡ next before r q
  pub allowed : Allows before r q
