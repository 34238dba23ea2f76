-- What a commit says of a page.
use Rattle.std.specs.Prelude.{◌≡◌, ◌↔◌, ℕ, ◌<◌, ◌≤◌, not, Bool, bytes_eq, List, length, map, filter, Option, Some, Contains}
use Rattle.std.specs.List.{list_any}
use Rattle.ex_base.specs.Area.{catalog_no}
use Rattle.ex_base.specs.Order.{Rising}
use Rattle.slotted_pages.specs.Reads.{page_on, IsPage}
use Rattle.slotted_pages.specs.Edits.{slots_of}
use Rattle.object_files.specs.Catalog.{FileEntry, entry_bytes, number_of}
use Rattle.object_files.specs.Edits.{IsCatalogPage, entries_on}
use Rattle.object_files.specs.Reads.{catalog_on}
use Rattle.page_entries.specs.Said.{Said, Whole, Slots, Files, said_bytes}
use Rattle.page_entries.specs.Changed.{slots_changed}

-- of two pages of one file the slots that differ
pub record SlotsDiffer (old new : List ℕ) (said : Said) : Type 0 where
  pub was : IsPage old
  pub is : IsPage new
  pub file : (page_on new).file_no ≡ (page_on old).file_no
  pub says : said ≡ Slots (slots_changed (slots_of old) (slots_of new))

-- the numbers, in rising order, of the old files that no new one has
pub record AreGone (old new : List FileEntry) (gone : List ℕ) : Type 0 where
  pub rising : Rising gone
  pub those : (n : ℕ) → Contains gone n ↔ (Contains (map number_of old) n × ¬ Contains (map number_of new) n)

-- a file stands in the list just as this one is
abbrev pub has_same : List FileEntry → List ℕ → Bool
has_same files spelled = list_any (λ f. bytes_eq (entry_bytes f) spelled) files

-- the new files that the old ones don't have just as they are
abbrev pub files_changed : List FileEntry → List FileEntry → List FileEntry
files_changed old new = filter (λ e. not (has_same old (entry_bytes e))) new

-- of two catalogs the numbers of the new one and the files that differ
pub record FilesDiffer (page : ℕ) (old new : List ℕ) (said : Said) : Type 0 where
  pub catalog : page ≡ catalog_no
  pub was : IsCatalogPage old
  pub is : IsCatalogPage new
  pub removed : List ℕ
  pub gone : AreGone (entries_on old) (entries_on new) removed
  pub says : said ≡ Files (catalog_on new).next_unique (catalog_on new).last removed (files_changed (entries_on old) (entries_on new))

-- what differs on the page with a number between an old image and a new one
pub data Differs (page : ℕ) (old new : List ℕ) (said : Said) : Type 0 where
  slots : SlotsDiffer old new said → Differs page old new said
  files : FilesDiffer page old new said → Differs page old new said

-- What differs, where that takes fewer bytes than the page, and else all of it.
pub data ByRule (page : ℕ) (old : Option (List ℕ)) (new : List ℕ) (said : Said) : Type 0 where
  changed : (before : List ℕ) → old ≡ Some before → Differs page before new said → length (said_bytes said) < length new → ByRule page old new said
  whole : said ≡ Whole new → ((before : List ℕ) (other : Said) → old ≡ Some before → Differs page before new other → length new ≤ length (said_bytes other)) → ByRule page old new said
