-- How many pages the files so far need.
use Rattle.std.specs.Prelude.{ℕ, suc, ◌+◌, ◌-◌, ◌/◌, nat_le, if◌then◌else◌, List, [], ◌∷◌}
use Rattle.history_model.specs.FilePages.{record_size}
use Rattle.history_model.specs.History.{HistoryFile, HistoryVersion}
use Rattle.history_counts.specs.declared.page_needs.PageNeeds.{PageNeeds}

abbrev pub no_needs : PageNeeds
no_needs = record { others = 0; filled = 0; room = 0 }

-- the pages that are needed, with the last file's and those of its index
abbrev pub pages_by : PageNeeds → ℕ
pages_by needs = needs.others + (needs.filled + needs.filled / 16)

abbrev pub needs_with_file : PageNeeds → PageNeeds
needs_with_file needs = record { others = pages_by needs + 4; filled = 0; room = 0 }

-- a record of so many bytes goes to the last page where it fits with its slot, and else to a new one
abbrev pub needs_with_record : ℕ → PageNeeds → ℕ → PageNeeds
needs_with_record page_size needs n =
    if nat_le (n + 4) needs.room then record { others = needs.others; filled = needs.filled; room = needs.room - (n + 4) }
    else record { others = needs.others; filled = suc needs.filled; room = page_size - 16 - (n + 4) }

-- the records of versions, one after the other
abbrev pub needs_with_versions : ℕ → PageNeeds → List HistoryVersion → PageNeeds
needs_with_versions page_size needs [] = needs
needs_with_versions page_size needs (v ∷ vs) = needs_with_versions page_size (needs_with_record page_size needs (record_size v.content)) vs

-- files, one after the other
abbrev pub needs_with_files : ℕ → PageNeeds → List HistoryFile → PageNeeds
needs_with_files page_size needs [] = needs
needs_with_files page_size needs (f ∷ fs) = needs_with_files page_size (needs_with_versions page_size (needs_with_file needs) f.versions) fs
