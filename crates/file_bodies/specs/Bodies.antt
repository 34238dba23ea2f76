-- A file as the list of its bodies, in order of place.
use Rattle.std.specs.Prelude.{◌≡◌, ◌<◌, ◌⊎◌, ℕ, suc, List, [], ◌∷◌, ◌++◌, Some, None}
use Rattle.std.specs.List.{flat_map}
use Rattle.ex_base.specs.declared.names.Place.{Place}
use Rattle.ex_base.specs.Order.{InOrder}
use Rattle.slotted_pages.specs.FilePage.{Slot}
use Rattle.slotted_pages.specs.Edits.{slots_of}
use Rattle.ex_base.specs.declared.names.Index.{Index}
use Rattle.file_index.specs.Index.{keys_of}

-- a body and the place that it stands at
abbrev pub Row : Type 0
Row = Place × List ℕ

abbrev pub place_at : ℕ → ℕ → Place
place_at page slot = record { page = record { 0 = page }; slot = slot }

-- what stands at a place, as a list: nothing in a vacant slot
abbrev pub row_of : Place → Slot → List Row
row_of place None = []
row_of place (Some body) = (place, body) ∷ []

-- the bodies in slots, of which the first has a number
abbrev pub bodies_from : ℕ → ℕ → List Slot → List Row
bodies_from page slot [] = []
bodies_from page slot (s ∷ slots) = row_of (place_at page slot) s ++ bodies_from page (suc slot) slots

-- the bodies on a page
abbrev pub bodies_on : (ℕ → List ℕ) → ℕ → List Row
bodies_on image page = bodies_from page 0 (slots_of (image page))

-- the pages that a file has bodies on, in order
abbrev pub pages_in : (ℕ → List ℕ) → Index → List ℕ
pages_in image index = keys_of image index.level index.root

-- the bodies of a file: those on the pages that its index names, page by page
abbrev pub bodies_of : (ℕ → List ℕ) → Index → List Row
bodies_of image index = flat_map (bodies_on image) (pages_in image index)

-- a place stands before another
abbrev pub IsBefore : Place → Place → Type 0
IsBefore a b = (a.page.0 < b.page.0) ⊎ ((a.page.0 ≡ b.page.0) × (a.slot < b.slot))

-- the rows stand in order of their places
abbrev pub InPlaceOrder : List Row → Type 0
InPlaceOrder rows = InOrder (λ (x y : Row). IsBefore x.0 y.0) rows

-- What stands at a place becomes something else. All other bodies stay, in their order.
pub record EditsRow (old new : List Row) (place : Place) (was is : Slot) : Type 0 where
  pub front : List Row
  pub back : List Row
  pub before : old ≡ front ++ (row_of place was ++ back)
  pub after : new ≡ front ++ (row_of place is ++ back)
