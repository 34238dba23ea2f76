-- What a session means, and what its volume decides in a step.
use Rattle.std.specs.Prelude.{ℕ, ◌+◌, ◌-◌, max, Bool, false, nat_le, nat_eq, List, [], ◌∷◌, length, None, unwrap_or, slice_index_or}
use Rattle.std.specs.Map.{lookup}
use Rattle.ex_base.specs.Area.{page_at}
use Rattle.ex_base.specs.declared.names.Oid.{Oid}
use Rattle.ex_base.specs.declared.names.OpNote.{OpNote}
use Rattle.ex_base.specs.declared.names.Place.{Place}
use Rattle.slotted_pages.specs.FilePage.{Slot, room_of}
use Rattle.slotted_pages.specs.Edits.{slots_of}
use Rattle.object_records.specs.Record.{Content, Small, Large}
use Rattle.object_records.specs.Reads.{record_on}
use Rattle.trees.specs.Shape.{leaves_of}
use Rattle.trees.specs.Trees.{Units, units_from, root_shape}
use Rattle.table_model.specs.declared.machine.Pick.{Pick}
use Rattle.table_model.specs.Machines.{the_oid, size_of, no_oid}
use Rattle.table_model.specs.Requests.{Request, given_count}
use Rattle.table_model.specs.Requests as request
use Rattle.session_views.specs.View.{View, Meaning}
use Rattle.volume_model.specs.Shown.{Held, laid_over}
use Rattle.volume_model.specs.Meaning.{volume_meaning}
use Rattle.session_core.specs.Sessions.{SessionState, held}

-- ---- what a view tells of a version

-- the bytes of each unit in the working state, as the session holds it over its disk
abbrev pub units_held : View Held → Units
units_held v =
    units_from v.session.geometry
    (laid_over v.session.geometry v.disk (λ page. unwrap_or (lookup (nat_eq page) v.session.overlay) (page_at v.session.geometry v.disk page)) v.session.working_pages) v.disk

-- the slots of the page that a version's record lies on
abbrev pub slots_at : View Held → Oid → List Slot
slots_at v oid = slots_of (units_held v oid.page.0)

-- its bytes, or the root of its tree
abbrev pub content_at : View Held → Oid → Content
content_at v oid = (record_on (unwrap_or (slice_index_or (slots_at v oid) oid.slot None) [])).content

-- the version that a request asks of, and its size after it
abbrev pub oid_asked : View Held → Request → Oid
oid_asked v (request.Stat x) = the_oid v.machine x
oid_asked v (request.Insert x pos given) = the_oid v.machine x
oid_asked v (request.Append x given) = the_oid v.machine x
oid_asked v (request.Replace x pos given) = the_oid v.machine x
oid_asked v (request.Delete x pos len) = the_oid v.machine x
oid_asked v r = no_oid

abbrev pub size_asked : View Held → Request → ℕ
size_asked v (request.Stat x) = size_of v.machine x
size_asked v (request.Insert x pos given) = size_of v.machine x + given_count given
size_asked v (request.Append x given) = size_of v.machine x + given_count given
size_asked v (request.Replace x pos given) = size_of v.machine x
size_asked v (request.Delete x pos len) = size_of v.machine x - len
size_asked v r = 0

-- the bytes of the record of a small version of so many bytes
abbrev pub small_len : ℕ → ℕ
small_len n = 24 + max 12 n

-- It is small, and the record of so many bytes fits its page.
abbrev pub fits_small : ℕ → List Slot → ℕ → Content → Bool
fits_small size slots n (Small bytes) = nat_le (small_len n) (small_len (length bytes) + room_of size slots)
fits_small size slots n (Large root) = false

abbrev pub height_of : Content → ℕ
height_of (Small bytes) = 0
height_of (Large root) = root.height

abbrev pub lengths_of : Units → Content → List ℕ
lengths_of units (Small bytes) = []
lengths_of units (Large root) = leaves_of (root_shape units root)

-- the place of the version that the last update names
abbrev pub place_noted : List OpNote → Place
place_noted [] = record { page = no_oid.page; slot = no_oid.slot }
place_noted (n ∷ []) = record { page = n.oid.page; slot = n.oid.slot }
place_noted (n ∷ m ∷ notes) = place_noted (m ∷ notes)

-- ---- what the volume decides

-- A new version lies where the note says that its update left. The counts are those of the machine after, and the records those of the log before. The
-- version that the request names is small where its record, of its size after the request, is that of a small one and fits its page; its tree is that
-- before.
abbrev pub pick_of : View Held → Request → View Held → Pick
pick_of before r after = record {
  place = place_noted after.machine.notes;
  pages = after.machine.pages_used;
  segs = after.machine.segs_used;
  touched = after.machine.touched;
  small = fits_small before.session.geometry.page_size (slots_at before (oid_asked before r)) (size_asked before r) (content_at before (oid_asked before r));
  height = height_of (content_at before (oid_asked before r));
  leaves = lengths_of (units_held before) (content_at before (oid_asked before r));
  records = before.session.log.count;
}

-- the view of what the session holds
abbrev pub held_view : View SessionState → View Held
held_view v = record { machine = v.machine; session = held v.session; disk = v.disk }

-- A session means what that means which it holds.
abbrev pub meant_by : Meaning Held → Meaning SessionState
meant_by M = record {
  Shows = λ may_leave v. M.Shows may_leave (held_view v);
  StandsFor = M.StandsFor;
  FirstBad = M.FirstBad;
  pick = λ before r after. M.pick (held_view before) r (held_view after);
  no_table = M.no_table;
  narrower = λ may_leave fewer v inside shows. M.narrower may_leave fewer (held_view v) inside shows;
  stands = λ may_leave v d shows left. M.stands may_leave (held_view v) d shows left;
  rules = λ may_leave v shows. M.rules may_leave (held_view v) shows;
}

abbrev pub meant : Meaning SessionState
meant = meant_by (volume_meaning pick_of)
