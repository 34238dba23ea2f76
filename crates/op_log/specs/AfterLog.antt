-- Each page after the log.
use Rattle.std.specs.Prelude.{ℕ, List, [], ◌∷◌, Option, Some, None, unwrap_or, ◌==◌, if◌then◌else◌}
use Rattle.std.specs.List.{list_any}
use Rattle.ex_base.specs.declared.geometry.Geometry.{Geometry}
use Rattle.ex_base.specs.Area.{page_at}
use Rattle.op_log.specs.declared.record.LogRecord.{LogRecord}
use Rattle.op_log.specs.Records.{page_of, number_of}
use Rattle.page_entries.specs.declared.entry.PageEntry.{PageEntry}
use Rattle.page_entries.specs.Said.{said_on}
use Rattle.page_entries.specs.After.{Applies, said_after}

-- an entry acts on its page as it is so far, and leaves each other page
abbrev pub after_entry : PageEntry → ℕ → Option (List ℕ) → Option (List ℕ)
after_entry entry page so_far = if page_of entry == page then said_after (said_on entry.form entry.fields) so_far else so_far

-- entries act one after the other
abbrev pub after_entries : List PageEntry → ℕ → Option (List ℕ) → Option (List ℕ)
after_entries [] page so_far = so_far
after_entries (entry ∷ entries) page so_far = after_entries entries page (after_entry entry page so_far)

-- A record acts by its entries; freed, a page is nothing again.
abbrev pub page_after : LogRecord → ℕ → Option (List ℕ) → Option (List ℕ)
page_after r page so_far = if list_any (λ freed. number_of freed == page) r.freed then None else after_entries r.pages page so_far

-- what the log has of a page, from this on: each record acts on the page so far
abbrev pub logged_from : Option (List ℕ) → List LogRecord → ℕ → Option (List ℕ)
logged_from so_far [] page = so_far
logged_from so_far (r ∷ rs) page = logged_from (page_after r page so_far) rs page

-- what the log has of a page
abbrev pub logged : List LogRecord → ℕ → Option (List ℕ)
logged records page = logged_from None records page

-- Each page after the log: what the log has of it, or else what stands at its home.
abbrev pub after_log : Geometry → List LogRecord → List ℕ → ℕ → List ℕ
after_log g records disk page = unwrap_or (logged records page) (page_at g disk page)

-- ---- entries that apply

-- each entry applies to its page, where the pages are these so far
abbrev pub EntriesApply : (ℕ → Option (List ℕ)) → List PageEntry → Type 0
EntriesApply so_far [] = Unit {0}
EntriesApply so_far (entry ∷ entries) = Applies entry.page.0 (said_on entry.form entry.fields) (so_far entry.page.0)
    × EntriesApply (λ page. after_entry entry page (so_far page)) entries

-- and so does each entry of these records
abbrev pub RecordsApply : (ℕ → Option (List ℕ)) → List LogRecord → Type 0
RecordsApply so_far [] = Unit {0}
RecordsApply so_far (r ∷ rs) = EntriesApply so_far r.pages × RecordsApply (λ page. page_after r page (so_far page)) rs

-- each entry of the log applies to what the entries before it made of its page
abbrev pub AllApply : List LogRecord → Type 0
AllApply records = RecordsApply (λ page. None) records
