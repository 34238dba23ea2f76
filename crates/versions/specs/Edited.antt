-- What an edit means.
use Rattle.std.specs.Prelude.{◌≡◌, ℕ, ◌≤◌, List, [], length, Option}
use Rattle.ex_base.specs.declared.ground.Ground as ground
use Rattle.ex_base.specs.declared.names.Area.{Area}
use Rattle.ex_base.specs.declared.names.Oid.{Oid}
use Rattle.ex_base.specs.declared.names.Place.{Place}
use Rattle.ex_base.specs.declared.names.Root.{Root}
use Rattle.ex_base.specs.declared.names.Index.{Index}
use Rattle.object_records.specs.Record.{Content, Small, Large, Record}
use Rattle.object_records.specs.declared.Head.{Head}
use Rattle.object_records.specs.declared.State.TheVariants.{Current}
use Rattle.versions.specs.declared.editing.Edit.{Edit}
use Rattle.versions.specs.declared.editing.Edit.TheVariants.{Insert, Append, Replace, Delete}
use Rattle.versions.specs.Versions.{Change, Inserts, Appends, Replaces, Deletes, HasRecord, AreInUse, InRange, EditsVersion, StaysSmall, changed, place_of, root_of}
use Rattle.versions.specs.Found.{size_of}
use Rattle.versions.specs.Needs.{edit_need}

abbrev pub change_of : Edit → Change
change_of (Insert pos bytes) = Inserts pos bytes.now
change_of (Append bytes) = Appends bytes.now
change_of (Replace pos bytes) = Replaces pos bytes.now
change_of (Delete pos len) = Deletes pos len

-- Where the version, of so many bytes after the edit, doesn't stay small, the units that the edit asks for are free.
abbrev pub HasNeed : {S : Type 0} → ground.Ghosts S → S → Place → Content → Change → ℕ → Type 0
HasNeed g s place content change n = (StaysSmall g s place content n → ⊥) → (area : Area) → edit_need (g.geometry s) change content area ≤ g.free s area

-- the bytes that a content has itself, none of a large one
abbrev pub held_in : Content → List ℕ
held_in (Small bytes) = bytes
held_in (Large root) = []

-- A version may be changed so: a whole file has its record, which is a current one, the range lies inside it, and the units that the change asks for are free.
-- Each logged page that the working state has is in use.
pub record IsEditable {S : Type 0} (g : ground.Ghosts S) (s : S) (oid : Oid) (change : Change) : Type 0 where
  pub index : Index
  pub is : Record
  pub has : HasRecord g s index oid is
  pub in_use : AreInUse g s
  pub current : is.head.state ≡ Current
  pub range : InRange change (size_of is.content)
  pub need : HasNeed g s (place_of oid) is.content change (length (changed change (held_in is.content)))

-- The version becomes one of other bytes, and these are the root of its tree that goes and the one that comes.
pub record TurnsVersion {S : Type 0} (g : ground.Ghosts S) (old new : S) (index : Index) (oid : Oid) (head : Head) (content : Content) (change : Change) (bytes : List ℕ) (gone come : Option Root) : Type 0 where
  pub edit : EditsVersion g old new index oid head content change bytes
  pub went : gone ≡ root_of content
  pub came : come ≡ root_of edit.now
