-- What a change of a version may need of units, and of the room on the page of its record.
use Rattle.std.specs.Prelude.{ℕ, ◌+◌, ◌-◌, ◌==◌, ◌||◌, length, Bool, if◌then◌else◌, Option, Some, None, is_none, nat_le, ◌&&◌}
use Rattle.ex_base.specs.declared.geometry.Geometry.{Geometry}
use Rattle.ex_base.specs.declared.names.Area.{Area}
use Rattle.ex_base.specs.declared.names.Oid.{Oid}
use Rattle.ex_base.specs.declared.names.Root.{Root}
use Rattle.versions.specs.declared.finding.Found.{Found}
use Rattle.slotted_pages.specs.FilePage.{room_of}
use Rattle.slotted_pages.specs.Edits.{slots_of}
use Rattle.session_views.specs.View.{View}
use Rattle.versions.specs.Versions.{record_len, Change, Inserts, Appends, Replaces, Deletes, count_of}
use Rattle.versions.specs.Needs.{most_need}
use Rattle.session_core.specs.declared.session.objects.Named.{Named}
use Rattle.session_core.specs.Finding.{held_image}
use Rattle.session_core.specs.Meant.{held_view}
use Rattle.session_core.specs.Sessions.{SessionState}

-- the size of an object of this size after the change
abbrev pub size_after : Change → ℕ → ℕ
size_after (Inserts pos given) size = size + length given
size_after (Appends given) size = size + length given
size_after (Replaces pos given) size = size
size_after (Deletes pos len) size = size - len

-- the height of a tree, 0 where there is none
abbrev pub root_height : Option Root → ℕ
root_height None = 0
root_height (Some root) = root.height

-- the units of an area that the change may take: none where it names no bytes or the version stays small
abbrev pub units_need : Geometry → Found → Change → Bool → Area → ℕ
units_need g found change small area = if count_of change == 0 || small then 0 else most_need g change (root_height found.root) area

-- the bytes that more bodies may take on the page where an OID leads
abbrev pub room_beside : View SessionState → Oid → ℕ
room_beside before oid = room_of before.session.geometry.page_size (slots_of (held_image (held_view before).session before.disk oid.page.0))

-- the version is small, and its record would fit its page with so many bytes
abbrev pub fits_beside : View SessionState → Named → ℕ → Bool
fits_beside before version n = is_none version.found.root && nat_le (record_len n) (record_len version.found.size + room_beside before version.oid)
