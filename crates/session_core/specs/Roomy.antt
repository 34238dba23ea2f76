-- Where new objects come in their files, by what a session remembers of these.
use Rattle.std.specs.Prelude.{◌≡◌, ℕ, List, ⊤}
use Rattle.ex_base.specs.declared.ground.Ground as ground
use Rattle.ex_base.specs.declared.names.Index.{Index}
use Rattle.ex_base.specs.declared.names.Oid.{Oid}
use Rattle.file_bodies.specs.Files.{HasFile}
use Rattle.file_bodies.specs.Places.{IsChosen}
use Rattle.file_rooms.specs.Rooms.{Remembered, new_len}
use Rattle.file_rooms.specs.Truth.{AreTrue, AreWhole}
use Rattle.object_records.specs.Record.{Content}
use Rattle.object_records.specs.declared.Head.{Head}
use Rattle.versions.specs.Versions.{AreInUse, HasVersion, place_of}
use Rattle.session_core.specs.declared.updates.ObjectUpdate.{ObjectUpdate}
use Rattle.session_core.specs.declared.updates.ObjectUpdate.TheVariants as update

-- Where what is remembered is true of a volume, a new object of this file comes onto the lowest page of the file with room, in its lowest vacant slot, and
-- onto a new page where none has room.
abbrev pub IsPutLowest : {S : Type 0} → ground.Ghosts S → S → Remembered → ℕ → Oid → Type 0
IsPutLowest g s known file_no oid = (index : Index) → HasFile g s index → index.file_no ≡ file_no → AreTrue g s known → IsChosen g s index new_len (place_of oid)

-- an update that makes an object puts it so
abbrev pub ComesLowest : {S : Type 0} → ground.Ghosts S → S → Remembered → ObjectUpdate → Oid → Type 0
ComesLowest g s known (update.Create file_no unique) oid = IsPutLowest g s known file_no oid
ComesLowest g s known _ oid = ⊤

-- Where all files of a volume are whole and what is remembered is true of it, what is remembered then is true of it then.
abbrev pub StaysTrue : {S : Type 0} → ground.Ghosts S → S → S → Remembered → Remembered → Type 0
StaysTrue g old new known after = AreWhole g old → AreTrue g old known → AreTrue g new after

-- So it is once an object was made in a whole file, and once a version was changed.
abbrev pub LeavesTrue : {S : Type 0} → ground.Ghosts S → S → S → Remembered → Remembered → ObjectUpdate → Type 0
LeavesTrue g old new known after (update.Create file_no unique) = (index : Index) → HasFile g old index → index.file_no ≡ file_no → StaysTrue g old new known after
LeavesTrue g old new known after (update.Change oid edit) = AreInUse g old → (index : Index) (head : Head) (content : Content) (bytes : List ℕ) → HasVersion g old index oid head content bytes → StaysTrue g old new known after
LeavesTrue g old new known after _ = ⊤
