-- The pages that are needed, counted record by record.
use Rattle.std.proofs.Common.{◌≡◌, ℕ, suc, ◌+◌, ◌-◌, ◌/◌, Bool, true, false, nat_le, List, [], ◌∷◌, ◌++◌, map, refl, ap, ◌∙◌, arith}
use Rattle.std.specs.Prelude.{if◌then◌else◌}
use Rattle.ex_base.specs.Even.{sum_of}
use Rattle.history_model.specs.FilePages.{file_pages_of, pages_filled, pages_for, pages_needed, record_size}
use Rattle.history_model.specs.History.{History, HistoryFile, HistoryVersion}
use Rattle.history_counts.specs.declared.page_needs.PageNeeds.{PageNeeds}
use Rattle.history_counts.specs.Pages.{needs_with_file, needs_with_files, needs_with_record, needs_with_versions, no_needs, pages_by}

-- what more records fill
record Fills (page_size : ℕ) (was now : PageNeeds) (vs : List HistoryVersion) : Type 0 where
  others : now.others ≡ was.others
  filled : now.filled ≡ was.filled + pages_filled page_size was.room (map (λ (v : HistoryVersion). record_size v.content) vs)

abbrev sizes : List HistoryVersion → List ℕ
sizes vs = map (λ (v : HistoryVersion). record_size v.content) vs

-- with one record more, which fits the last page or doesn't
abbrev with_one : ℕ → PageNeeds → ℕ → Bool → PageNeeds
with_one page_size needs n fits =
    if fits then record { others = needs.others; filled = needs.filled; room = needs.room - (n + 4) }
    else record { others = needs.others; filled = suc needs.filled; room = page_size - 16 - (n + 4) }

abbrev filled_by : ℕ → PageNeeds → ℕ → List ℕ → Bool → ℕ
filled_by page_size needs n ns fits = if fits then pages_filled page_size (needs.room - (n + 4)) ns else suc (pages_filled page_size (page_size - 16 - (n + 4)) ns)

by_fit : (page_size : ℕ) (needs : PageNeeds) (n : ℕ) (vs : List HistoryVersion) (fits : Bool)
    → Fills page_size (with_one page_size needs n true) (needs_with_versions page_size (with_one page_size needs n true) vs) vs
    → Fills page_size (with_one page_size needs n false) (needs_with_versions page_size (with_one page_size needs n false) vs) vs
    → ((needs_with_versions page_size (with_one page_size needs n fits) vs).others ≡ needs.others) × ((needs_with_versions page_size (with_one page_size needs n fits) vs).filled ≡ needs.filled + filled_by page_size needs n (sizes vs) fits)
by_fit page_size needs n vs true here there = (here.others, here.filled)
by_fit page_size needs n vs false here there = (there.others, omega (arith, there.filled))

fills : (page_size : ℕ) (needs : PageNeeds) (vs : List HistoryVersion) → Fills page_size needs (needs_with_versions page_size needs vs) vs
fills page_size needs [] = record { others = refl; filled = omega arith }
fills page_size needs (v ∷ vs) =
    let both = by_fit page_size needs (record_size v.content) vs (nat_le (record_size v.content + 4) needs.room) (fills page_size (with_one page_size needs (record_size v.content) true) vs) (fills page_size (with_one page_size needs (record_size v.content) false) vs) in
    record { others = both.0; filled = both.1 }

counted : (page_size : ℕ) (needs : PageNeeds) (fs : List HistoryFile) → pages_by (needs_with_files page_size needs fs) ≡ pages_by needs + sum_of (pages_for page_size) fs
counted page_size needs [] = omega arith
counted page_size needs (f ∷ fs) =
    let file = fills page_size (needs_with_file needs) f.versions in
    let rest = counted page_size (needs_with_versions page_size (needs_with_file needs) f.versions) fs in
    let filled : (needs_with_versions page_size (needs_with_file needs) f.versions).filled ≡ file_pages_of page_size f = omega (arith, file.filled) in
    let index : (needs_with_versions page_size (needs_with_file needs) f.versions).filled / 16 ≡ file_pages_of page_size f / 16 = ap (λ (n : ℕ). n / 16) filled in
    omega (arith, rest, file.others, filled, index)

pub pages_counted : (page_size : ℕ) (h : History) → pages_by (needs_with_files page_size no_needs h.files) ≡ pages_needed page_size h
pages_counted page_size h = omega (arith, counted page_size no_needs h.files)

-- ---- one more at the end

pub needs_with_versions-append : (page_size : ℕ) (needs : PageNeeds) (vs ws : List HistoryVersion) → needs_with_versions page_size needs (vs ++ ws) ≡ needs_with_versions page_size (needs_with_versions page_size needs vs) ws
needs_with_versions-append page_size needs [] ws = refl
needs_with_versions-append page_size needs (v ∷ vs) ws = needs_with_versions-append page_size (needs_with_record page_size needs (record_size v.content)) vs ws

pub needs_with_files-append : (page_size : ℕ) (needs : PageNeeds) (fs gs : List HistoryFile) → needs_with_files page_size needs (fs ++ gs) ≡ needs_with_files page_size (needs_with_files page_size needs fs) gs
needs_with_files-append page_size needs [] gs = refl
needs_with_files-append page_size needs (f ∷ fs) gs = needs_with_files-append page_size (needs_with_versions page_size (needs_with_file needs) f.versions) fs gs
