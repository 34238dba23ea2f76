-- What is remembered of the room of files is true of a volume.
use Rattle.std.specs.Prelude.{◌≡◌, ◌≢◌, ◌⊎◌, ℕ, ◌≤◌, List, Bool, Some, None, Contains, IsTrue, nat_eq}
use Rattle.std.specs.Map.{lookup}
use Rattle.ex_base.specs.declared.ground.Ground as ground
use Rattle.ex_base.specs.declared.names.Index.{Index}
use Rattle.ex_base.specs.Ports.{times}
use Rattle.file_bodies.specs.declared.placing.Room.{Room}
use Rattle.file_bodies.specs.Bodies.{pages_in}
use Rattle.file_bodies.specs.Files.{HasFile, HasFiles, all_pages}
use Rattle.file_bodies.specs.Places.{slot_for}
use Rattle.file_rooms.specs.Rooms.{Remembered, new_len, page_of, room_of, is_in}

-- a page of a file has no room for the record of a new object, or it is roomy, or stands from the place on that is remembered of the file
abbrev pub IsKnown : {S : Type 0} → ground.Ghosts S → S → Remembered → ℕ → ℕ → Type 0
IsKnown g s known file_no page = (slot_for g s page new_len ≡ None)
    ⊎ (Contains known.roomy (page_of file_no page) ⊎ ((room_of known.rooms file_no).from.0 ≤ page))

-- What is remembered is true of a volume, but for some of its files' pages: each room is one for the records of new objects, and each page of a whole file
-- is known.
pub record AreTrueBut {S : Type 0} (g : ground.Ghosts S) (s : S) (but : ℕ → ℕ → Type 0) (known : Remembered) : Type 0 where
  pub sized : (file_no : ℕ) (room : Room) → lookup (nat_eq file_no) known.rooms ≡ Some room → room.len ≡ new_len
  pub each : (index : Index) → HasFile g s index → (page : ℕ) → Contains (pages_in (g.image s) index) page → ¬ but index.file_no page → IsKnown g s known index.file_no page

-- What is remembered is true of a volume.
abbrev pub AreTrue : {S : Type 0} → ground.Ghosts S → S → Remembered → Type 0
AreTrue g s known = AreTrueBut g s (λ file_no page. ⊥) known

-- this page, of whatever file
abbrev pub at_page : ℕ → ℕ → ℕ → Type 0
at_page page = λ file_no p. p ≡ page

-- the pages that the open transaction changed
abbrev pub are_changed : Remembered → ℕ → ℕ → Type 0
are_changed known = λ file_no page. Contains known.changed (page_of file_no page)

-- A page of a whole file was one of the same file in an earlier state, with as much room.
pub record IsAsBefore {S : Type 0} (g : ground.Ghosts S) (old new : S) (file_no page : ℕ) : Type 0 where
  pub index : Index
  pub file : HasFile g old index
  pub same_file : index.file_no ≡ file_no
  pub named : Contains (pages_in (g.image old) index) page
  pub room : slot_for g new page new_len ≡ slot_for g old page new_len

-- Each page of a file but some is as it was.
abbrev pub AreAsBefore : {S : Type 0} → ground.Ghosts S → S → S → (ℕ → ℕ → Type 0) → Type 0
AreAsBefore g old new but = (index : Index) → HasFile g new index → (page : ℕ) → Contains (pages_in (g.image new) index) page → ¬ but index.file_no page
    → IsAsBefore g old new index.file_no page

-- The catalog and every file in it are whole, and no page is one of two files.
pub record AreWhole {S : Type 0} (g : ground.Ghosts S) (s : S) : Type 0 where
  pub files : HasFiles g s
  pub apart : (a b : Index) → HasFile g s a → HasFile g s b → a.file_no ≢ b.file_no → (page : ℕ) → 1 ≤ times page (all_pages (g.image s) a) → times page (all_pages (g.image s) b) ≡ 0

-- the committed state has each page of its files
abbrev pub AreIn : {S : Type 0} → ground.Ghosts S → S → List Bool → Type 0
AreIn g s kept = (index : Index) → HasFile g s index → (page : ℕ) → Contains (pages_in (g.image s) index) page → IsTrue (is_in kept page)
