-- What is remembered of the room of files.
use Rattle.std.specs.Prelude.{◌≡◌, ◌≢◌, ◌⊎◌, ◌↔◌, ℕ, ◌≤◌, Bool, true, false, ◌&&◌, nat_eq, nat_le, nat_lt, if◌then◌else◌, List, [], Option, Some, None, Contains, IsTrue, slice_index_or}
use Rattle.std.specs.Map.{lookup}
use Rattle.indexmap.specs.IndexMap.{insert_entry}
use Rattle.ex_base.specs.Area.{InPageArea}
use Rattle.ex_base.specs.declared.ground.Ground as ground
use Rattle.ex_base.specs.declared.names.PageNo.{PageNo}
use Rattle.slotted_pages.specs.FilePage.{room_of as room_on}
use Rattle.slotted_pages.specs.Edits.{slots_of, need_of}
use Rattle.slotted_pages.specs.Reads.{page_on, IsPage}
use Rattle.file_bodies.specs.declared.placing.Room.{Room}
use Rattle.file_bodies.specs.Placing.{lowered_to}
use Rattle.file_rooms.specs.declared.rooms.FilePage.{FilePage}

-- a room of this file, with what is known of every file where nothing is remembered
abbrev pub room_for : ℕ → Option Room → Room
room_for file_no None = record { file_no = file_no; from = record { 0 = 0 }; len = 0 }
room_for file_no (Some room) = record room { file_no = file_no }

-- the room that is remembered of a file
abbrev pub room_of : List (ℕ × Room) → ℕ → Room
room_of rooms file_no = room_for file_no (lookup (nat_eq file_no) rooms)

-- Of each file at most one room for the records of new objects, and one for records as long as that of its last copy, with the file's number, in the order
-- in which the files were first met; the pages that may have room for the record of a new object, and those that the open transaction changed.
pub record Remembered : Type 0 where
  pub rooms : List (ℕ × Room)
  pub copies : List (ℕ × Room)
  pub roomy : List FilePage
  pub changed : List FilePage

abbrev pub nothing : Remembered
nothing = record { rooms = []; copies = []; roomy = []; changed = [] }

-- a page of a file, by their numbers
abbrev pub page_of : ℕ → ℕ → FilePage
page_of file_no page = record { file_no = file_no; page = record { 0 = page } }

-- the bytes of the record of a new object
abbrev pub new_len : ℕ
new_len = 36

-- whether a page of a size has room for the record of a new object
abbrev pub has_room : ℕ → List ℕ → Bool
has_room size page = nat_le (need_of (slots_of page) new_len) (room_on size (slots_of page))

-- ---- where a place is looked for

-- the lowest roomy page of a file, none exactly where it has none
abbrev pub IsLowestOf : List FilePage → ℕ → Option PageNo → Type 0
IsLowestOf roomy file_no None = (page : ℕ) → ¬ Contains roomy (page_of file_no page)
IsLowestOf roomy file_no (Some lowest) = Contains roomy (page_of file_no lowest.0)
    × ((page : ℕ) → Contains roomy (page_of file_no page) → lowest.0 ≤ page)

-- A record of a new object is looked a place for from the lowest of the file's roomy pages on and the place that is remembered.
pub record IsLookedFrom (known : Remembered) (file_no : ℕ) (room : Room) : Type 0 where
  pub file : room.file_no ≡ file_no
  pub len : room.len ≡ (room_of known.rooms file_no).len
  pub from : room.from.0 ≤ (room_of known.rooms file_no).from.0
  pub roomy : (page : ℕ) → Contains known.roomy (page_of file_no page) → room.from.0 ≤ page
  pub reached : (room.from.0 ≡ (room_of known.rooms file_no).from.0)
      ⊎ Contains known.roomy (page_of file_no room.from.0)

-- A copy is looked a place for as for the last copy in the file, and as a new object where none was made.
abbrev pub IsCopyLookedFrom : Remembered → ℕ → Option Room → Room → Type 0
IsCopyLookedFrom known file_no None room = IsLookedFrom known file_no room
IsCopyLookedFrom known file_no (Some last) room = room ≡ record last { file_no = file_no }

-- ---- where a record was put

-- behind all pages
abbrev pub behind_all : ℕ
behind_all = 4294967295

-- the rooms once no page of a file below a place has room for the record of a new object, but for roomy ones
abbrev pub with_place : List (ℕ × Room) → ℕ → ℕ → List (ℕ × Room)
with_place rooms file_no from =
    if nat_lt (room_of rooms file_no).from.0 from then
    insert_entry nat_eq rooms file_no (record { file_no = file_no; from = record { 0 = from }; len = new_len })
    else rooms

-- a list of rooms becomes another, or stays where it had none of the file and memory was refused
abbrev pub GetsRoom : List (ℕ × Room) → List (ℕ × Room) → ℕ → List (ℕ × Room) → Type 0
GetsRoom old wanted file_no new = (new ≡ wanted) ⊎ ((lookup (nat_eq file_no) old ≡ None) × (new ≡ old))

-- a place was looked for from a page of a file on, and the page wasn't taken
abbrev pub IsPassed : Room → ℕ → FilePage → Type 0
IsPassed asked taken page = (asked.from.0 ≢ taken) × (page ≡ page_of asked.file_no asked.from.0)

-- The record of a new object was put onto a page, that was looked a place for from another on, or from it on.
pub record IsKept (old : Remembered) (asked : Room) (page : ℕ) (grew : Bool) (new : Remembered) : Type 0 where
  pub rooms : GetsRoom old.rooms (with_place old.rooms asked.file_no (if grew then behind_all else page)) asked.file_no new.rooms
  pub roomy : (p : FilePage) → Contains new.roomy p ↔ (Contains old.roomy p × ¬ IsPassed asked page p)
  pub copies : new.copies ≡ old.copies
  pub changed : new.changed ≡ old.changed

-- ---- a page that is looked at

-- a room for copies, lowered to a roomy page of its file
abbrev pub lowered_by : List (ℕ × Room) → FilePage → Option Room → List (ℕ × Room)
lowered_by copies page None = copies
lowered_by copies page (Some room) =
    if nat_lt page.page.0 room.from.0 then insert_entry nat_eq copies page.file_no (lowered_to room page.page.0) else copies

abbrev pub lowered_copies : List (ℕ × Room) → FilePage → List (ℕ × Room)
lowered_copies copies page = lowered_by copies page (lookup (nat_eq page.file_no) copies)

-- the pages, of which one becomes one of them or none
pub record Marks (old new : List FilePage) (page : FilePage) (is : Bool) : Type 0 where
  pub others : (other : FilePage) → other ≢ page → Contains new other ↔ Contains old other
  pub marked : Contains new page ↔ IsTrue is

-- memory was refused for a page that is to be one of them and wasn't
pub record IsRefused (old new : List FilePage) (page : FilePage) (is : Bool) : Type 0 where
  pub stays : new ≡ old
  pub wanted : IsTrue is
  pub absent : ¬ Contains old page

-- A changed page is noted, and whether it is roomy. Copies are looked a place for from a roomy page on.
pub record IsNoted (page : FilePage) (fits : Bool) (old new : Remembered) : Type 0 where
  pub rooms : new.rooms ≡ old.rooms
  pub copies : new.copies ≡ (if fits then lowered_copies old.copies page else old.copies)
  pub changed : Marks old.changed new.changed page true
  pub roomy : Marks old.roomy new.roomy page fits

-- memory was refused for a changed page, or for that it is roomy
pub record IsUnnoted (page : ℕ) (old new : Remembered) : Type 0 where
  pub rooms : new.rooms ≡ old.rooms
  pub copies : new.copies ≡ old.copies
  pub roomy : new.roomy ≡ old.roomy
  pub changed : (other : FilePage) → other.page.0 ≢ page → Contains new.changed other ↔ Contains old.changed other

-- A page of a volume is looked at. It is noted where it is in the grammar of a file's pages, as roomy where it is held and has room for the record of a new
-- object. Of any other page nothing is remembered.
abbrev pub IsLookedAt : {S : Type 0} → ground.Ghosts S → S → ℕ → Remembered → Remembered → Type 0
IsLookedAt g s page old new = ((new ≡ old) × (InPageArea (g.geometry s) page → IsPage (g.image s page) → ⊥))
    ⊎ (InPageArea (g.geometry s) page × IsPage (g.image s page)
    × IsNoted (page_of (page_on (g.image s page)).file_no page) (g.held s page && has_room (g.geometry s).page_size (g.image s page)) old new)

-- ---- a transaction ends

-- the committed state has a page
abbrev pub is_in : List Bool → ℕ → Bool
is_in kept page = slice_index_or kept page false

-- Each page that the transaction changed is roomy where the committed state has it, and none of the others changes.
pub record GoesBack (kept : List Bool) (old new : Remembered) : Type 0 where
  pub rooms : new.rooms ≡ old.rooms
  pub copies : new.copies ≡ []
  pub changed : new.changed ≡ []
  pub touched : (page : FilePage) → Contains old.changed page → Contains new.roomy page ↔ IsTrue (is_in kept page.page.0)
  pub others : (page : FilePage) → ¬ Contains old.changed page → Contains new.roomy page ↔ Contains old.roomy page

-- nothing is remembered, since memory was refused for a changed page that wasn't roomy
pub record IsLost (kept : List Bool) (old new : Remembered) : Type 0 where
  pub lost : new ≡ nothing
  pub page : FilePage
  pub changed : Contains old.changed page
  pub held : IsTrue (is_in kept page.page.0)
  pub refused : ¬ Contains old.roomy page

-- The rooms of all files but one stay.
abbrev pub ChangesOne : List (ℕ × Room) → List (ℕ × Room) → Type 0
ChangesOne old new = (new ≡ old) ⊎ ((file_no : ℕ) × (room : Room) × (new ≡ insert_entry nat_eq old file_no room))
