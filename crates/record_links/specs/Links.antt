-- Records that name each other's places, each told by its place and its head.
use Rattle.std.specs.Prelude.{◌≡◌, ◌<◌, ◌≤◌, ◌⊎◌, Bool, false, ◌==◌, ◌&&◌, List, [], ◌∷◌, length, filter, Option, Some, None, IfSome, Contains}
use Rattle.std.specs.List.{AllByRecursion}
use Rattle.ex_base.specs.declared.names.Place.{Place}
use Rattle.ex_base.specs.Order.{InOrder}
pub use Rattle.ex_base.specs.Places.{is_place, same_place}
use Rattle.object_records.specs.declared.State.{State}
use Rattle.object_records.specs.declared.State.TheVariants.{Current, Frozen}
use Rattle.record_links.specs.declared.Linked.{Linked}

-- ---- places

-- a place stands before another
abbrev pub IsBefore : Place → Place → Type 0
IsBefore a b = (a.page.0 < b.page.0) ⊎ ((a.page.0 ≡ b.page.0) × (a.slot < b.slot))

-- in rising order of their places
abbrev pub InPlaceOrder : List Linked → Type 0
InPlaceOrder records = InOrder (λ (r s : Linked). IsBefore r.place s.place) records

-- its older place is this one
abbrev pub names_older : Place → Linked → Bool
names_older place r = is_place place r.head.older

-- the records that name a place as their older one
abbrev pub derived_from : Place → List Linked → List Linked
derived_from place records = filter (names_older place) records

-- ---- links

-- At the place is a frozen record, whose number is lower where the one that names it is frozen.
pub record IsOlder (records : List Linked) (r : Linked) (place : Place) : Type 0 where
  pub older : Linked
  pub there : Contains records older
  pub place_is : older.place ≡ place
  pub frozen : older.head.state ≡ Frozen
  pub lower : r.head.state ≡ Frozen → older.head.unique < r.head.unique

-- the place of the only one of these
abbrev pub only_place : List Linked → Option Place
only_place [] = None
only_place (r ∷ []) = Some r.place
only_place (r ∷ next ∷ rest) = None

-- A current record has no newer place. From a frozen one some are derived; its newer place is that of the only one, and none where there are more.
abbrev pub NewerIs : State → List Linked → Option Place → Type 0
NewerIs Current derived newer = newer ≡ None
NewerIs Frozen derived newer = (1 ≤ length derived) × (newer ≡ only_place derived)

pub record IsLinked (records : List Linked) (r : Linked) : Type 0 where
  pub older : IfSome r.head.older (IsOlder records r)
  pub newer : NewerIs r.head.state (derived_from r.place records) r.head.newer

-- each names a record of these as its older one, or none
abbrev pub HaveOlders : List Linked → Type 0
HaveOlders records = AllByRecursion (λ (r : Linked). IfSome r.head.older (IsOlder records r)) records

-- Each names records of these as its older and its newer one.
abbrev pub AreLinked : List Linked → Type 0
AreLinked records = AllByRecursion (IsLinked records) records
