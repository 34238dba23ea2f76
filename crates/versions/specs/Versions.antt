-- A version of an object as a record in a file, with the bytes that it spells; and what an edit makes of it.
use Rattle.std.specs.Prelude.{◌≡◌, ◌≢◌, ◌≤◌, ◌+◌, ◌↔◌, ℕ, max, true, false, List, [], length, Option, Some, None}
use Rattle.std.specs.List.{AllByRecursion}
use Rattle.ex_base.specs.declared.ground.Ground as ground
use Rattle.ex_base.specs.declared.geometry.Geometry.{Geometry}
use Rattle.ex_base.specs.declared.names.Oid.{Oid}
use Rattle.ex_base.specs.declared.names.Place.{Place}
use Rattle.ex_base.specs.declared.names.Root.{Root}
use Rattle.ex_base.specs.Sizes.{object_most, leaf_bytes}
use Rattle.ex_base.specs.Edits.{inserted, deleted, replaced, appended}
use Rattle.object_records.specs.Record.{Content, Small, Large, Record, BodyOf}
use Rattle.object_records.specs.declared.Head.{Head}
use Rattle.object_records.specs.declared.State.TheVariants.{Current}
use Rattle.slotted_pages.specs.FilePage.{room_of}
use Rattle.slotted_pages.specs.Edits.{slots_of}
use Rattle.ex_base.specs.declared.names.Index.{Index}
use Rattle.trees.specs.Shape.{Shape, ins_shape, app_shape}
use Rattle.trees.specs.Trees.{Units, RootSpells, root_shape, root_units}
use Rattle.trees.specs.Grown.{Turned}
use Rattle.file_bodies.specs.Bodies.{EditsRow, bodies_of, pages_in}
use Rattle.file_bodies.specs.Files.{HasFile, HasBody}
use Rattle.file_bodies.specs.Places.{PlacesBody, PutsBody}

-- ---- a version

abbrev pub place_of : Oid → Place
place_of oid = record { page = oid.page; slot = oid.slot }

-- the head of a current version without older ones
abbrev pub lone_head : ℕ → Head
lone_head unique = record { state = Current; unique = unique; older = None; newer = None }

-- the record of a new object: small and without bytes
abbrev pub new_record : ℕ → Record
new_record unique = record { head = lone_head unique; content = Small [] }

-- the content spells these bytes: a small one has them, a large one has the root of a balanced tree of them
abbrev pub Spells : Geometry → Units → Content → List ℕ → Type 0
Spells g units (Small held) bytes = bytes ≡ held
Spells g units (Large root) bytes = RootSpells g units root bytes × (root.size ≤ object_most)

-- the units of its tree
abbrev pub content_units : Units → Content → List ℕ
content_units units (Small bytes) = []
content_units units (Large root) = root_units units root

-- the root of its tree, none for a small version
abbrev pub root_of : Content → Option Root
root_of (Small bytes) = None
root_of (Large root) = Some root

-- the unit is in use, and is no logged page
abbrev pub IsTreeUnit : {S : Type 0} → ground.Ghosts S → S → ℕ → Type 0
IsTreeUnit g s unit = (g.used s unit ≡ true) × (g.held s unit ≡ false)

-- A file has this record, with the unique number of the OID, where the OID leads.
pub record HasRecord {S : Type 0} (g : ground.Ghosts S) (s : S) (index : Index) (oid : Oid) (r : Record) : Type 0 where
  pub body : List ℕ
  pub stands : HasBody g s index (place_of oid) body
  pub spelled : BodyOf body r
  pub number : r.head.unique ≡ oid.unique

-- Some file has a record with the unique number of the OID where the OID leads.
pub record Stands {S : Type 0} (g : ground.Ghosts S) (s : S) (oid : Oid) : Type 0 where
  pub index : Index
  pub is : Record
  pub has : HasRecord g s index oid is

-- A file has the record of a version, with this head, that spells these bytes over units in use.
pub record HasVersion {S : Type 0} (g : ground.Ghosts S) (s : S) (index : Index) (oid : Oid) (head : Head) (content : Content) (bytes : List ℕ) : Type 0 where
  pub stored : HasRecord g s index oid (record { head = head; content = content })
  pub spells : Spells (g.geometry s) (g.unit s) content bytes
  pub units : AllByRecursion (IsTreeUnit g s) (content_units (g.unit s) content)

-- The record of a version, with this head, spells these bytes, and no unit of its tree is a logged page.
pub record HoldsVersion {S : Type 0} (g : ground.Ghosts S) (s : S) (index : Index) (oid : Oid) (head : Head) (content : Content) (bytes : List ℕ) : Type 0 where
  pub stored : HasRecord g s index oid (record { head = head; content = content })
  pub spells : Spells (g.geometry s) (g.unit s) content bytes
  pub apart : AllByRecursion (λ unit. g.held s unit ≡ false) (content_units (g.unit s) content)

-- A new object without bytes is put into a file, at the place that the rule for bodies gives.
pub record CreatesVersion {S : Type 0} (g : ground.Ghosts S) (old new : S) (index : Index) (oid : Oid) : Type 0 where
  pub body : List ℕ
  pub spelled : BodyOf body (new_record oid.unique)
  pub places : PlacesBody g old new index (place_of oid) body

-- A new object without bytes is put into a file at a place that it hadn't: on some page of the file with room, or on a new one.
pub record PutsVersion {S : Type 0} (g : ground.Ghosts S) (old new : S) (index : Index) (oid : Oid) : Type 0 where
  pub body : List ℕ
  pub spelled : BodyOf body (new_record oid.unique)
  pub puts : PutsBody g old new index (place_of oid) body

-- ---- an edit

-- what is done to the bytes of a version
pub data Change : Type 0 where
  Inserts : ℕ → List ℕ → Change
  Appends : List ℕ → Change
  Replaces : ℕ → List ℕ → Change
  Deletes : ℕ → ℕ → Change

abbrev pub changed : Change → List ℕ → List ℕ
changed (Inserts pos given) bytes = inserted bytes pos given
changed (Appends given) bytes = appended bytes given
changed (Replaces pos given) bytes = replaced bytes pos given
changed (Deletes pos len) bytes = deleted bytes pos len

-- how many bytes the command names
abbrev pub count_of : Change → ℕ
count_of (Inserts pos given) = length given
count_of (Appends given) = length given
count_of (Replaces pos given) = length given
count_of (Deletes pos len) = len

-- the range lies inside an object of this size, and the new size is in the limit
abbrev pub InRange : Change → ℕ → Type 0
InRange (Inserts pos given) size = (pos ≤ size) × (size + length given ≤ object_most)
InRange (Appends given) size = size + length given ≤ object_most
InRange (Replaces pos given) size = pos + length given ≤ size
InRange (Deletes pos len) size = pos + len ≤ size

-- the bytes of the record of a small version of so many bytes
abbrev pub record_len : ℕ → ℕ
record_len n = 24 + max 12 n

-- The record of a small version of n bytes fits in the place of a body of a length on its page.
abbrev pub FitsIn : {S : Type 0} → ground.Ghosts S → S → ℕ → ℕ → ℕ → Type 0
FitsIn g s page old n = record_len n ≤ old + room_of (g.geometry s).page_size (slots_of (g.image s page))

-- the content is small
abbrev pub IsSmall : Content → Type 0
IsSmall (Small bytes) = Unit {0}
IsSmall (Large root) = ⊥

-- It was small, and the record of so many bytes fits its page. Then the version stays small, and else it is large from now on.
abbrev pub StaysSmall : {S : Type 0} → ground.Ghosts S → S → Place → Content → ℕ → Type 0
StaysSmall g s place (Small held) n = FitsIn g s place.page.0 (record_len (length held)) n
StaysSmall g s place (Large root) n = ⊥

-- each logged page that the working state has is in use
abbrev pub AreInUse : {S : Type 0} → ground.Ghosts S → S → Type 0
AreInUse g s = (page : ℕ) → g.held s page ≡ true → g.used s page ≡ true

-- the shape of a tree after an edit of its bytes; what a delete leaves is free
abbrev pub IsTreeShape : Geometry → Change → Shape → Shape → Type 0
IsTreeShape g (Inserts pos given) before after = after ≡ ins_shape g.fan (leaf_bytes g) before pos (length given)
IsTreeShape g (Appends given) before after = after ≡ app_shape g.fan (leaf_bytes g) before (length given)
IsTreeShape g (Replaces pos given) before after = after ≡ before
IsTreeShape g (Deletes pos len) before after = Unit {0}

-- The shape of the tree of a version after an edit, where it has one: a version that becomes large gets that of one append of its n bytes to no tree.
abbrev pub HasShape : Geometry → Change → Units → Units → Content → ℕ → Content → Type 0
HasShape g change old new (Small held) n (Small bytes) = Unit {0}
HasShape g change old new (Large before) n (Small bytes) = Unit {0}
HasShape g change old new (Small held) n (Large root) = root_shape new root ≡ app_shape g.fan (leaf_bytes g) None n
HasShape g change old new (Large before) n (Large root) = IsTreeShape g change (root_shape old before) (root_shape new root)

-- The version at a place becomes one of other bytes by a change: in its file one record changes, in its place and with its head; in its tree each unit is one
-- of before or was free. No other logged page changes, none is taken or given back, and every unit in use keeps its bytes.
pub record EditsVersion {S : Type 0} (g : ground.Ghosts S) (old new : S) (index : Index) (oid : Oid) (head : Head) (content : Content) (change : Change) (bytes : List ℕ) : Type 0 where
  pub now : Content
  pub version : HasVersion g new index oid head now bytes
  pub small : IsSmall now ↔ StaysSmall g old (place_of oid) content (length bytes)
  pub was : List ℕ
  pub is : List ℕ
  pub rows : EditsRow (bodies_of (g.image old) index) (bodies_of (g.image new) index) (place_of oid) (Some was) (Some is)
  pub file : HasFile g new index
  pub pages : pages_in (g.image new) index ≡ pages_in (g.image old) index
  pub images : (page : ℕ) → g.held old page ≡ true → page ≢ oid.page.0 → g.image new page ≡ g.image old page
  pub held : g.held new ≡ g.held old
  pub used : (unit : ℕ) → g.used old unit ≡ true → g.used new unit ≡ true
  pub kept : (unit : ℕ) → g.used old unit ≡ true → g.held old unit ≡ false → g.unit new unit ≡ g.unit old unit
  pub units : Turned g old new (content_units (g.unit old) content) (content_units (g.unit new) now)
  pub shape : HasShape (g.geometry old) change (g.unit old) (g.unit new) content (length bytes) now
