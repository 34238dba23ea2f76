-- What stands in the record of a version.
use Rattle.std.specs.Prelude.{◌≡◌, ℕ, ◌<◌, ◌≤◌, ◌^◌, List, [], ◌∷◌, ◌++◌, length, Option, None, IsSome}
use Rattle.ex_base.specs.declared.names.Place.{Place}
use Rattle.ex_base.specs.declared.names.Root.{Root}
use Rattle.ex_base.specs.Fields.{two_bytes, eight_bytes, padded, page_field, place_field, IsPageField, IsPlaceField}
use Rattle.object_records.specs.declared.State.{State}
use Rattle.object_records.specs.declared.State.TheVariants.{Current, Frozen}
use Rattle.object_records.specs.declared.Head.{Head}

-- the bytes of a small version, or the root of a large one
pub data Content : Type 0 where
  Small : List ℕ → Content
  Large : Root → Content

pub record Record : Type 0 where
  pub head : Head
  pub content : Content

abbrev pub form_of : Content → ℕ
form_of (Small bytes) = 1
form_of (Large root) = 2

abbrev pub state_byte : State → ℕ
state_byte Current = 1
state_byte Frozen = 2

-- a small version's length and bytes, filled up to 12 bytes; a large one's height, size and page
abbrev pub content_bytes : Content → List ℕ
content_bytes (Small bytes) = two_bytes (length bytes) ++ padded 12 bytes
content_bytes (Large root) = two_bytes root.height ++ eight_bytes root.size ++ page_field root.page

-- form, state, unique number, older, newer, content
unfoldable pub record_bytes : Record → List ℕ
record_bytes r = (form_of r.content ∷ state_byte r.head.state ∷ []) ++ eight_bytes r.head.unique ++ place_field r.head.older ++ place_field r.head.newer ++ content_bytes r.content

-- A current version has no newer one. A frozen one, from which others are derived, has one where they are not many.
abbrev pub NewerFits : State → Option Place → Type 0
NewerFits Current newer = newer ≡ None
NewerFits Frozen newer = Unit {0}

-- what has the fields of a root: of size 0 it has no height and no page, above that it has a page
pub record IsRootField (root : Root) : Type 0 where
  pub height : root.height ≤ 255
  pub size : root.size < 2 ^ 64
  pub page : IsPageField root.page
  pub empty : root.size ≡ 0 → (root.height ≡ 0) × (root.page ≡ None)
  pub named : 0 < root.size → IsSome root.page

abbrev pub IsContent : Content → Type 0
IsContent (Small bytes) = length bytes < 2 ^ 16
IsContent (Large root) = IsRootField root

-- what has a spelling
pub record IsRecord (r : Record) : Type 0 where
  pub unique : r.head.unique < 2 ^ 64
  pub older : IsPlaceField r.head.older
  pub newer : IsPlaceField r.head.newer
  pub newer_fits : NewerFits r.head.state r.head.newer
  pub content : IsContent r.content

-- the bytes of a record's body are this record
pub record BodyOf (bytes : List ℕ) (r : Record) : Type 0 where
  pub fits : IsRecord r
  pub spelled : bytes ≡ record_bytes r
