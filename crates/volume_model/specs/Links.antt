-- Records that name each other's places, and the objects that they form.
use Rattle.std.specs.Prelude.{ℕ, ◌≡◌, ◌<◌, ◌≤◌, Bool, List, [], ◌∷◌, length, map, filter, Option, Some, None, IfSome, Contains}
use Rattle.std.specs.List.{AllByRecursion, flat_map}
use Rattle.ex_base.specs.Order.{AllDiffer}
use Rattle.ex_base.specs.Places.{is_place}
use Rattle.ex_base.specs.declared.names.Place.{Place}
use Rattle.object_records.specs.declared.State.{State}
use Rattle.object_records.specs.declared.State.TheVariants.{Current, Frozen}
use Rattle.trees.specs.Trees.{Units, root_units}
use Rattle.volume_model.specs.Volume.{Stored, root_in, unique_of}

-- ---- places and numbers

abbrev pub place_in : Stored → Place
place_in s = s.place

-- no two stand at one place
abbrev pub PlacesDiffer : List Stored → Type 0
PlacesDiffer stored = AllDiffer (map place_in stored)

-- no two have one number
abbrev pub NumbersDiffer : List Stored → Type 0
NumbersDiffer stored = AllDiffer (map unique_of stored)

-- ---- links

-- its older place is this one
abbrev pub names_older : Place → Stored → Bool
names_older place s = is_place place s.body.head.older

-- the records that name a place as their older one
abbrev pub stored_from : Place → List Stored → List Stored
stored_from place stored = filter (names_older place) stored

-- At the place is a frozen record, whose number is lower where the one that names it is frozen.
pub record IsOlder (stored : List Stored) (s : Stored) (place : Place) : Type 0 where
  pub older : Stored
  pub there : Contains stored older
  pub place_is : older.place ≡ place
  pub frozen : older.body.head.state ≡ Frozen
  pub lower : s.body.head.state ≡ Frozen → unique_of older < unique_of s

-- the place of the only one of these
abbrev pub only_place : List Stored → Option Place
only_place [] = None
only_place (s ∷ []) = Some s.place
only_place (s ∷ next ∷ rest) = None

-- A current record has no newer place. From a frozen one some are derived; its newer place is that of the only one, and none where there are more.
abbrev pub NewerIs : State → List Stored → Option Place → Type 0
NewerIs Current derived newer = newer ≡ None
NewerIs Frozen derived newer = (1 ≤ length derived) × (newer ≡ only_place derived)

pub record IsLinked (stored : List Stored) (s : Stored) : Type 0 where
  pub older : IfSome s.body.head.older (IsOlder stored s)
  pub newer : NewerIs s.body.head.state (stored_from s.place stored) s.body.head.newer

-- Each names records of these as its older and its newer one.
abbrev pub AreLinked : List Stored → Type 0
AreLinked stored = AllByRecursion (IsLinked stored) stored

-- each names a record of these as its older one, or none
abbrev pub HaveOlders : List Stored → Type 0
HaveOlders stored = AllByRecursion (λ (s : Stored). IfSome s.body.head.older (IsOlder stored s)) stored

-- ---- objects

-- no unit of the one stands in the other
abbrev pub Apart : List ℕ → List ℕ → Type 0
Apart xs ys = AllByRecursion (λ x. ¬ Contains ys x) xs

-- the units of a record's tree
abbrev pub stored_units : Units → Stored → List ℕ
stored_units units s = flat_map (root_units units) (root_in s.body.content)

-- An object is what records are of that older places join; just one of them has no older place. Trees of two objects share no unit.
pub record HasObjects (units : Units) (stored : List Stored) : Type 0 where
  pub object : Place → ℕ
  pub joined : (s older : Stored) → Contains stored s → Contains stored older → s.body.head.older ≡ Some older.place → object s.place ≡ object older.place
  pub one_first : (s t : Stored) → Contains stored s → Contains stored t → s.body.head.older ≡ None → t.body.head.older ≡ None → object s.place ≡ object t.place → s.place ≡ t.place
  pub apart : (s t : Stored) → Contains stored s → Contains stored t → (object s.place ≡ object t.place → ⊥) → Apart (stored_units units s) (stored_units units t)
