-- What an update of objects asks of a volume's table, and the table that it leaves.
use Rattle.std.specs.Prelude.{◌≡◌, ◌≤◌, ◌+◌, ◌⊎◌, ℕ, Bool, true, false, List, length, Option, Some, Contains, ⊤}
use Rattle.ex_base.specs.declared.ground.Ground as ground
use Rattle.ex_base.specs.declared.names.Area.{Area}
use Rattle.ex_base.specs.declared.names.Oid.{Oid}
use Rattle.ex_base.specs.declared.names.Root.{Root}
use Rattle.op_log.specs.declared.record.LogRecord.{LogRecord}
use Rattle.ex_base.specs.declared.names.Index.{Index}
use Rattle.object_files.specs.Catalog.{FileEntry}
use Rattle.object_records.specs.Record.{Content}
use Rattle.object_records.specs.declared.Head.{Head}
use Rattle.table_model.specs.declared.table.Table.{Table}
use Rattle.version_lists.specs.declared.version.Version.{Version}
use Rattle.table_model.specs.Needs.{pages_need}
use Rattle.table_model.specs.Refusals.{branches_if, is_only_one}
use Rattle.table_model.specs.Tables.{version_at, versions_of, numbered, with_object, with_bytes, with_derived, with_frozen, without_version}
use Rattle.versions.specs.Edited.{HasNeed}
use Rattle.versions.specs.Needs.{edit_need}
use Rattle.versions.specs.Versions.{Change, HasVersion, InRange, StaysSmall, changed, place_of}
use Rattle.volume_edits.specs.Edits.{TurnsRoots, trees_of}
use Rattle.volume_edits.specs.Ported.{IsVolume, units_in}
use Rattle.volume_model.specs.Volume.{Volume, file_pages, table_of}

-- An object without bytes is made in the file of this name and number, under this unique number; a current version is changed, or removed; a frozen copy of
-- a current version is made under a unique number, or a current copy of a frozen one; a frozen version is dropped.
pub data TableUpdate : Type 0 where
  Makes : List ℕ → ℕ → ℕ → TableUpdate
  Changes : Oid → Change → TableUpdate
  Removes : Oid → TableUpdate
  Freezes : Oid → ℕ → TableUpdate
  Derives : Oid → ℕ → TableUpdate
  Drops : Oid → TableUpdate

-- the table after it, where the version that is made, changed or removed has this OID
abbrev pub updated : TableUpdate → Oid → Table → Table
updated (Makes name file_no unique) oid t = numbered (with_object oid name t)
updated (Changes x change) oid t = with_bytes x (changed change) t
updated (Removes x) oid t = without_version x t
updated (Freezes x unique) oid t = numbered (with_frozen x oid t)
updated (Derives x unique) oid t = numbered (with_derived x oid t)
updated (Drops x) oid t = without_version x t

-- the catalog has the file, and the next unique number is this one
pub record AsksFile (v : Volume) (name : List ℕ) (file_no unique : ℕ) : Type 0 where
  pub entry : FileEntry
  pub there : Contains v.catalog.entries entry
  pub name_is : entry.name ≡ name
  pub number : entry.file_no ≡ file_no
  pub next : v.catalog.next_unique ≡ unique

-- the table has the version, a current one, and what is changed of it lies inside its bytes
pub record AsksChange (t : Table) (oid : Oid) (change : Change) : Type 0 where
  pub version : Version
  pub is : version_at t oid ≡ Some version
  pub current : version.frozen ≡ false
  pub inside : InRange change (length version.bytes)

-- the table has the version, a current one, and it is not the only one that is derived from its older one
pub record AsksRemoval (t : Table) (oid : Oid) : Type 0 where
  pub version : Version
  pub is : version_at t oid ≡ Some version
  pub current : version.frozen ≡ false
  pub others : is_only_one (versions_of t) (Some version) ≡ false

-- the table has the version, a frozen one, and just one is derived from it
pub record AsksDrop (t : Table) (oid : Oid) : Type 0 where
  pub version : Version
  pub is : version_at t oid ≡ Some version
  pub frozen : version.frozen ≡ true
  pub one : branches_if (versions_of t) (Some version) ≡ 1

-- the table has the version, which is frozen or not, and the next unique number is this one
pub record AsksCopy (v : Volume) (t : Table) (oid : Oid) (frozen : Bool) (unique : ℕ) : Type 0 where
  pub version : Version
  pub is : version_at t oid ≡ Some version
  pub flag : version.frozen ≡ frozen
  pub next : v.catalog.next_unique ≡ unique

-- what the update asks of the volume and of its table
abbrev pub Asks : TableUpdate → Volume → Table → Type 0
Asks (Makes name file_no unique) v t = AsksFile v name file_no unique
Asks (Changes oid change) v t = AsksChange t oid change
Asks (Removes oid) v t = AsksRemoval t oid
Asks (Freezes oid unique) v t = AsksCopy v t oid false unique
Asks (Derives oid unique) v t = AsksCopy v t oid true unique
Asks (Drops oid) v t = AsksDrop t oid

-- The units are free that the change of a version may take. The other updates take what they find.
abbrev pub HasRoom : {S : Type 0} → ground.Ghosts S → S → TableUpdate → Type 0
HasRoom g s (Changes oid change) = (index : Index) (head : Head) (content : Content) (bytes : List ℕ) → HasVersion g s index oid head content bytes
    → HasNeed g s (place_of oid) content change (length (changed change bytes))
HasRoom g s _ = ⊤

-- Of each area's free units at most so many are not free any more.
abbrev pub TakesWithin : {S : Type 0} → ground.Ghosts S → S → S → (Area → ℕ) → Type 0
TakesWithin g old new most = (area : Area) → g.free old area ≤ g.free new area + most area

-- The change took at most the units that it may need, and none where the version, of so many bytes after it, stays small.
pub record TakesForChange {S : Type 0} (g : ground.Ghosts S) (old new : S) (oid : Oid) (content : Content) (change : Change) (n : ℕ) : Type 0 where
  pub most : TakesWithin g old new (edit_need (g.geometry old) change content)
  pub small : StaysSmall g old (place_of oid) content n → TakesWithin g old new (λ area. 0)

-- The update took no more units than it may need: a change those of the version that stands there, what removes a version none, and what makes one at
-- most sixteen pages.
abbrev pub TakesNeed : {S : Type 0} → ground.Ghosts S → S → S → TableUpdate → Type 0
TakesNeed g old new (Changes oid change) = g.tells old → (index : Index) (head : Head) (content : Content) (bytes : List ℕ) → HasVersion g old index oid head content bytes
    → TakesForChange g old new oid content change (length (changed change bytes))
TakesNeed g old new (Removes oid) = TakesWithin g old new (λ area. 0)
TakesNeed g old new (Drops oid) = TakesWithin g old new (λ area. 0)
TakesNeed g old new _ = TakesWithin g old new (pages_need 16)

-- The port's working state becomes a volume with this table. Each of its pages and each unit of its trees is one of before or was free, and of its roots
-- one went and one came.
pub record BecomesVolume {S : Type 0} (g : ground.Ghosts S) (old new : S) (records : List LogRecord) (v : Volume) (table : Table) (gone come : Option Root) : Type 0 where
  pub now : Volume
  pub volume : IsVolume g new records now
  pub shows : table_of (units_in g new) now ≡ table
  pub pages : (page : ℕ) → Contains (file_pages now) page → Contains (file_pages v) page ⊎ (g.used old page ≡ false)
  pub units : (u : ℕ) → Contains (trees_of (units_in g new) now) u → Contains (trees_of (units_in g old) v) u ⊎ (g.used old u ≡ false)
  pub turned : TurnsRoots g old new v now gone come
