-- What a page has to show to be a file page, field by field, and its slots as they are read.
use Rattle.std.specs.Prelude.{◌≡◌, ℕ, zero, suc, ◌+◌, ◌-◌, ◌*◌, ◌<◌, ◌≤◌, ◌==◌, ◌&&◌, nat_le, if◌then◌else◌, List, [], ◌∷◌, length, slice_index, Option, Some, None}
use Rattle.ex_base.specs.Bytes.{bytes_at}
use Rattle.ex_base.specs.Fields.{number_at, AreZero}
use Rattle.ex_base.specs.Even.{sum_of}
use Rattle.slotted_pages.specs.FilePage.{Slot, FilePage, SlotsOf}

-- a field's body, from its length and where it begins; of length 0 it is vacant
abbrev pub slot_read : ℕ → ℕ → List ℕ → Slot
slot_read zero at page = None
slot_read (suc len) at page = Some (bytes_at page at (suc len))

-- the slot whose field begins at a position
abbrev pub slot_in : List ℕ → ℕ → Slot
slot_in page at = slot_read (number_at 2 page (at + 2)) (number_at 2 page at) page

-- so many slots, where the field of the first one ends at a position
abbrev pub read_slots : List ℕ → ℕ → ℕ → List Slot
read_slots page zero end = []
read_slots page (suc n) end = slot_in page (end - 4) ∷ read_slots page n (end - 4)

-- the lengths in so many fields
abbrev pub read_lens : List ℕ → ℕ → ℕ → List ℕ
read_lens page zero end = []
read_lens page (suc n) end = number_at 2 page (end - 4 + 2) ∷ read_lens page n (end - 4)

abbrev pub added : List ℕ → ℕ
added lens = sum_of (λ len. len) lens

-- the number of slots that a page names
abbrev pub count_on : List ℕ → ℕ
count_on page = number_at 2 page 2

unfoldable pub page_on : List ℕ → FilePage
page_on page = record { file_no = number_at 4 page 8; slots = read_slots page (count_on page) (length page) }

-- where the bodies end behind a field, if they end at a position before it and it fits
abbrev pub step_to : ℕ → ℕ → ℕ → ℕ → Option ℕ
step_to limit at offset len =
    if len == 0 then
    (if offset == 0 then Some at else None)
    else
    (if (offset == at) && nat_le (at + len) limit then Some (at + len) else None)

abbrev pub from_there : Option ℕ → (ℕ → Option ℕ) → Option ℕ
from_there None f = None
from_there (Some at) f = f at

-- where the bodies of so many fields end, one behind the other up to the limit
abbrev pub end_of : ℕ → List ℕ → ℕ → ℕ → ℕ → Option ℕ
end_of limit page zero end at = Some at
end_of limit page (suc n) end at = from_there (step_to limit at (number_at 2 page (end - 4)) (number_at 2 page (end - 4 + 2))) (λ next. end_of limit page n (end - 4) next)

-- the bodies end somewhere, and zeros stand behind them
abbrev pub IsPacked : ℕ → List ℕ → ℕ → Type 0
IsPacked limit page n = (end : ℕ) × (end_of limit page n (length page) 16 ≡ Some end) × AreZero (bytes_at page end (limit - end))

pub record PageReads (page : List ℕ) : Type 0 where
  pub long : 16 ≤ length page
  pub size : length page ≤ 8192
  pub kind : slice_index page 0 ≡ 3
  pub second : slice_index page 1 ≡ 0
  pub gap : AreZero (bytes_at page 4 4)
  pub second_gap : AreZero (bytes_at page 12 4)
  pub room : 16 + 4 * count_on page ≤ length page
  pub last : 0 < count_on page → 0 < number_at 2 page (length page - 4 * count_on page + 2)
  pub packed : IsPacked (length page - 4 * count_on page) page (count_on page)

-- the page is a file page, of what is read on it
abbrev pub IsPage : List ℕ → Type 0
IsPage page = SlotsOf page (page_on page)

-- what callers see of a page
pub record Viewed : Type 0 where
  pub size : ℕ
  pub page : FilePage

abbrev pub viewed_on : List ℕ → Viewed
viewed_on page = record { size = length page; page = page_on page }
