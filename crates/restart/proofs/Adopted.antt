-- The overlay of the records, as it is built.
use Rattle.std.proofs.Common.{◌≡◌, ◌<◌, ◌+◌, ℕ, List, [], ◌∷◌, ◌++◌, length, take, get_or, nat_eq, Option, None, sym, ap, subst, ◌∙◌}
use Rattle.std.specs.Prelude.{if◌then◌else◌}
use Rattle.std.proofs.lemmas.List.{take_more}
use Rattle.ex_base.specs.declared.names.PageNo.{PageNo}
use Rattle.commits.proofs.LoggedPages.{logged_from-push}
use Rattle.op_log.specs.AfterLog.{after_entry, after_entries, page_after, logged, AllApply, EntriesApply}
use Rattle.op_log.specs.declared.record.LogRecord.{LogRecord}
use Rattle.op_log.proofs.Applied.{Pages, after_entries-push, entries_apply-push, entries_apply-as, records_apply-push, record_applies, entry_applies}
use Rattle.page_entries.specs.declared.entry.PageEntry.{PageEntry}
use Rattle.page_entries.specs.Said.{said_on}
use Rattle.page_entries.specs.After.{Applies, said_after}
use Rattle.restart.specs.Adopting.{freed_over}

-- ---- entries

-- the first entries apply, and each page has what they make of it
pub record AreOver (entries : List PageEntry) (count : ℕ) (before now : Pages) : Type 0 where
  pub apply : EntriesApply before (take count entries)
  pub over : (page : ℕ) → now page ≡ after_entries (take count entries) page (before page)

pub next_over : (entries : List PageEntry) (count : ℕ) (e : PageEntry) (before was now : Pages) → count < length entries → e ≡ get_or entries count e → AreOver entries count before was
    → Applies e.page.0 (said_on e.form e.fields) (was e.page.0) → ((page : ℕ) → now page ≡ (if nat_eq e.page.0 page then said_after (said_on e.form e.fields) (was page) else was page)) → AreOver entries (count + 1) before now
next_over entries count e before was now inside is so_far applies after =
    let more : take (count + 1) entries ≡ take count entries ++ e ∷ [] = take_more entries count e inside ∙ ap (λ (x : PageEntry). take count entries ++ x ∷ []) (sym is) in
    record {
      apply = subst (EntriesApply before) (sym more) (entries_apply-push before (take count entries) e so_far.apply (subst (Applies e.page.0 (said_on e.form e.fields)) (so_far.over e.page.0) applies));
      over = λ page. after page
          ∙ ap (after_entry e page) (so_far.over page)
          ∙ sym (after_entries-push (take count entries) e page (before page))
          ∙ ap (λ (xs : List PageEntry). after_entries xs page (before page)) (sym more);
    }

-- an entry that doesn't apply
pub not_over : (entries : List PageEntry) (count : ℕ) (e : PageEntry) (before was : Pages) → count < length entries → e ≡ get_or entries count e → AreOver entries count before was
    → (Applies e.page.0 (said_on e.form e.fields) (was e.page.0) → ⊥) → EntriesApply before entries → ⊥
not_over entries count e before was inside is so_far refused all =
    refused (subst (Applies e.page.0 (said_on e.form e.fields)) (sym (so_far.over e.page.0)) (entry_applies before entries count e inside is all))

-- ---- pages that were given back

-- each page has what the first of the pages that were given back leave it
abbrev pub AreFreed : List PageNo → ℕ → Pages → Pages → Type 0
AreFreed pages count before now = (page : ℕ) → now page ≡ freed_over (take count pages) page (before page)

-- ---- records

-- the entries of the first records apply, and each page has what these say of it
pub record AreLogged (records : List LogRecord) (count : ℕ) (now : Pages) : Type 0 where
  pub apply : AllApply (take count records)
  pub just : (page : ℕ) → now page ≡ logged (take count records) page

pub logged_next : (records : List LogRecord) (count : ℕ) (r : LogRecord) (was now : Pages) → count < length records → r ≡ get_or records count r → AreLogged records count was
    → EntriesApply was r.pages → ((page : ℕ) → now page ≡ page_after r page (was page)) → AreLogged records (count + 1) now
logged_next records count r was now inside is so_far apply after =
    let more : take (count + 1) records ≡ take count records ++ r ∷ [] = take_more records count r inside ∙ ap (λ (x : LogRecord). take count records ++ x ∷ []) (sym is) in
    record {
      apply = subst AllApply (sym more) (records_apply-push (λ page. None) (take count records) r so_far.apply (entries_apply-as was (λ page. logged (take count records) page) r.pages so_far.just apply));
      just = λ page. after page
          ∙ ap (λ (o : Option (List ℕ)). page_after r page o) (so_far.just page)
          ∙ sym (logged_from-push None (take count records) r page)
          ∙ ap (λ (rs : List LogRecord). logged rs page) (sym more);
    }

-- a record of which an entry doesn't apply
pub not_logged : (records : List LogRecord) (count : ℕ) (r : LogRecord) (was : Pages) → count < length records → r ≡ get_or records count r → AreLogged records count was → (EntriesApply was r.pages → ⊥) → AllApply records → ⊥
not_logged records count r was inside is so_far refused all =
    refused (entries_apply-as (λ page. logged (take count records) page) was r.pages (λ page. sym (so_far.just page)) (record_applies (λ page. None) records count r inside is all))
