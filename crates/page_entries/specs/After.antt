-- What a page is after an entry, and when the entry applies.
use Rattle.std.specs.Prelude.{◌≡◌, ℕ, List, length, Option, Some, None}
use Rattle.ex_base.specs.Area.{catalog_no}
use Rattle.slotted_pages.specs.FilePage.{file_page}
use Rattle.object_files.specs.Catalog.{catalog_page}
use Rattle.page_entries.specs.Said.{Said, Whole, Slots, Files}
use Rattle.page_entries.specs.Applying.{page_after_slots, SlotsApply}
use Rattle.page_entries.specs.FilesAfter.{catalog_after_files, FilesApply}

-- an old page after what is said of it
abbrev pub page_with : Said → List ℕ → List ℕ
page_with (Whole image) old = image
page_with (Slots changes) old = file_page (length old) (page_after_slots changes old)
page_with (Files next_unique last removed put) old = catalog_page (length old) (catalog_after_files next_unique last removed put old)

-- the page so far after it: an image sets it, a change asks for one
abbrev pub said_after : Said → Option (List ℕ) → Option (List ℕ)
said_after (Whole image) so_far = Some image
said_after (Slots changes) None = None
said_after (Slots changes) (Some old) = Some (page_with (Slots changes) old)
said_after (Files next_unique last removed put) None = None
said_after (Files next_unique last removed put) (Some old) = Some (page_with (Files next_unique last removed put) old)

-- it applies to the page with a number, where that is this one so far
abbrev pub Applies : ℕ → Said → Option (List ℕ) → Type 0
Applies page (Whole image) so_far = Unit {0}
Applies page (Slots changes) None = ⊥
Applies page (Slots changes) (Some old) = SlotsApply old changes
Applies page (Files next_unique last removed put) None = ⊥
Applies page (Files next_unique last removed put) (Some old) = (page ≡ catalog_no) × FilesApply old next_unique last removed put
