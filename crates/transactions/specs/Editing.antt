-- What a line that edits a version asks for, why it is refused, and what it leaves.
use Rattle.std.specs.Prelude.{◌≡◌, ◌≤◌, ◌^◌, ℕ, ◌+◌, List, [], ◌∷◌, length, Bool, false, nat_lt, Option, Some, None, Result, Ok, Err}
use Rattle.std.specs.Option.{option_or}
use Rattle.object_files.specs.Catalog.{Catalog, FileEntry}
use Rattle.transactions.specs.declared.creation.NewObject.{NewObject}
use Rattle.ex_base.specs.Sizes.{object_most}
use Rattle.ex_base.specs.declared.geometry.Geometry.{Geometry}
use Rattle.ex_base.specs.declared.names.Area.TheVariants.{Page, Segment}
use Rattle.ex_base.specs.declared.names.Oid.{Oid}
use Rattle.ex_base.specs.declared.names.OpNote.{OpNote}
use Rattle.ex_base.specs.declared.notes.NoteKind.TheVariants as note_kind
use Rattle.table_model.specs.declared.reply.Reply.{Reply}
use Rattle.table_model.specs.declared.reply.Reply.TheVariants as reply
use Rattle.table_model.specs.declared.reply.Refusal.{Refusal}
use Rattle.table_model.specs.declared.reply.Refusal.TheVariants as refusal
use Rattle.table_model.specs.Machines.{touched_most}
use Rattle.table_model.specs.Refusals.{when, first, refusal_of}
use Rattle.table_model.specs.Requests.{Request, Reference, given_bytes}
use Rattle.table_model.specs.Requests as request
use Rattle.table_model.specs.Steps.{note}
use Rattle.versions.specs.declared.finding.Found.{Found}
use Rattle.session_views.specs.View.{View}
use Rattle.versions.specs.Versions.{Change, Inserts, Appends, Replaces, Deletes, count_of}
use Rattle.transactions.specs.declared.edits.Need.{Need}
use Rattle.volume_model.specs.Shown.{Held}
use Rattle.volume_model.specs.Volume.{is_frozen}
use Rattle.transactions.specs.declared.edits.Admitted.{Admitted}
use Rattle.session_core.specs.Finding.{NamesVersion}
use Rattle.session_core.specs.Needs.{fits_beside, size_after, units_need}
use Rattle.session_core.specs.Meant.{held_view, pick_of}
use Rattle.transactions.specs.Making.{number_in}
use Rattle.transactions.specs.Refused.{entry_named, full_in, long_txn}
use Rattle.session_core.specs.Sessions.{SessionState}

-- the line asks for this change of the version that the reference names
abbrev pub AsksFor : Request → Reference → Change → Type 0
AsksFor (request.Insert y pos given) x change = (y ≡ x) × (change ≡ Inserts pos (given_bytes given))
AsksFor (request.Append y given) x change = (y ≡ x) × (change ≡ Appends (given_bytes given))
AsksFor (request.Replace y pos given) x change = (y ≡ x) × (change ≡ Replaces pos (given_bytes given))
AsksFor (request.Delete y pos len) x change = (y ≡ x) × (change ≡ Deletes pos len)
AsksFor _ x change = ⊥

-- the change names bytes past the end of an object of this size
abbrev pub is_outside : Change → ℕ → Bool
is_outside (Inserts pos given) size = nat_lt size pos
is_outside (Appends given) size = false
is_outside (Replaces pos given) size = nat_lt size (pos + length given)
is_outside (Deletes pos len) size = nat_lt size (pos + len)

-- the note that it leaves, of an object of this size before
abbrev pub edit_note : Change → Oid → ℕ → OpNote
edit_note (Inserts pos given) oid size = note note_kind.Inserted oid pos (length given)
edit_note (Appends given) oid size = note note_kind.Appended oid size (length given)
edit_note (Replaces pos given) oid size = note note_kind.Replaced oid pos (length given)
edit_note (Deletes pos len) oid size = note note_kind.Deleted oid pos len

-- what it is answered, with the size after
abbrev pub edit_reply : Change → ℕ → Reply
edit_reply (Inserts pos given) size = reply.Insert size
edit_reply (Appends given) size = reply.Append size
edit_reply (Replaces pos given) size = reply.Replace size
edit_reply (Deletes pos len) size = reply.Delete size

-- why the bytes of a version, of which this was found, are not changed so
abbrev pub bytes_refusal : Found → Change → Option Refusal
bytes_refusal found change =
    first (when (is_frozen found.head.state) refusal.Frozen ∷ when (is_outside change found.size) refusal.Range ∷ when (nat_lt object_most (size_after change found.size)) refusal.TooLarge ∷ [])

-- what the change of a version may take: one logged page is touched, that of its record
abbrev pub edit_need : Geometry → Found → Change → Bool → Need
edit_need g found change small = record { charge = 1; pages = units_need g found change small Page; segs = units_need g found change small Segment }

-- what an update may take is small enough to be counted with
pub record IsNeed (need : Need) : Type 0 where
  pub charge : need.charge ≤ touched_most
  pub pages : need.pages ≤ 2 ^ 40
  pub segs : need.segs ≤ 2 ^ 40

-- the open transaction has no room for an update: of touched pages, of pages, of units of the segment area
abbrev pub room_refusal : SessionState → Need → Option Refusal
room_refusal s need = first (long_txn s need.charge ∷ full_in s Page need.pages ∷ full_in s Segment need.segs ∷ [])

-- The machine answers a line that asks for the change of the version so: by this refusal, or by none where it accepts the line, whatever the view after.
abbrev pub IsAnswered : View SessionState → Reference → Change → Option Refusal → Type 0
IsAnswered before x change why = (r : Request) (after : View Held) → AsksFor r x change → refusal_of before.machine r (pick_of (held_view before) r after) ≡ why

-- why the change of a version, of which this was found, is refused, in an open transaction
abbrev pub edit_refusal : SessionState → Found → Change → Bool → Option Refusal
edit_refusal s found change small = option_or (bytes_refusal found change) (room_refusal s (edit_need s.geometry found change small))

-- The machine accepts the line. It names this version, and its change may take so much.
pub record IsAdmitted (before : View SessionState) (x : Reference) (change : Change) (given : Admitted) : Type 0 where
  pub named : NamesVersion before x given.version
  pub accepted : IsAnswered before x change None
  pub need : given.need ≡ edit_need before.session.geometry given.version.found change (fits_beside before given.version (size_after change given.version.found.size))

-- The change lies inside the version that was found, and there is room for it.
pub record IsWithin (s : SessionState) (change : Change) (given : Admitted) : Type 0 where
  pub size : given.version.found.size ≤ object_most
  pub bytes : bytes_refusal given.version.found change ≡ None
  pub count : count_of change ≤ object_most
  pub room : room_refusal s given.need ≡ None
  pub charge : given.need.charge ≡ 1

-- ---- a new object

-- what a new object of the file is named by: the file's number, and the object's unique number, if there is one
abbrev pub numbered_at : FileEntry → Result ℕ Refusal → Result NewObject Refusal
numbered_at e (Err why) = Err why
numbered_at e (Ok unique) = Ok (record { file_no = e.file_no; unique = unique })

-- the same of a file that may be missing
abbrev pub place_if : Option FileEntry → Catalog → Result NewObject Refusal
place_if None catalog = Err refusal.NoFile
place_if (Some e) catalog = numbered_at e (number_in catalog)

abbrev pub new_object_in : Catalog → List ℕ → Result NewObject Refusal
new_object_in catalog file = place_if (entry_named catalog file) catalog
