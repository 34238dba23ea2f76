-- Entries and records that apply, one after the other.
use Rattle.std.proofs.Common.{◌≡◌, ℕ, zero, suc, ◌<◌, List, [], ◌∷◌, ◌++◌, length, take, get_or, Option, Some, None, refl, sym, ap, subst, ◌∙◌, arith}
use Rattle.op_log.specs.AfterLog.{after_entry, after_entries, page_after, logged_from, EntriesApply, RecordsApply}
use Rattle.op_log.specs.declared.record.LogRecord.{LogRecord}
use Rattle.page_entries.specs.declared.entry.PageEntry.{PageEntry}
use Rattle.page_entries.specs.Said.{said_on}
use Rattle.page_entries.specs.After.{Applies}

abbrev pub Pages : Type 0
Pages = ℕ → Option (List ℕ)

-- ---- entries

pub after_entries-push : (xs : List PageEntry) (e : PageEntry) (page : ℕ) (so_far : Option (List ℕ)) → after_entries (xs ++ e ∷ []) page so_far ≡ after_entry e page (after_entries xs page so_far)
after_entries-push [] e page so_far = refl
after_entries-push (x ∷ xs) e page so_far = after_entries-push xs e page (after_entry x page so_far)

pub entries_apply-push : (f : Pages) (xs : List PageEntry) (e : PageEntry) → EntriesApply f xs → Applies e.page.0 (said_on e.form e.fields) (after_entries xs e.page.0 (f e.page.0)) → EntriesApply f (xs ++ e ∷ [])
entries_apply-push f [] e all one = (one, tt)
entries_apply-push f (x ∷ xs) e all one = (all.0, entries_apply-push (λ page. after_entry x page (f page)) xs e all.1 one)

pub entry_applies : (f : Pages) (xs : List PageEntry) (i : ℕ) (e : PageEntry) → i < length xs → e ≡ get_or xs i e → EntriesApply f xs → Applies e.page.0 (said_on e.form e.fields) (after_entries (take i xs) e.page.0 (f e.page.0))
entry_applies f [] i e within is all = absurd (omega (arith, within))
entry_applies f (x ∷ xs) zero e within is all = subst (λ (y : PageEntry). Applies y.page.0 (said_on y.form y.fields) (f y.page.0)) (sym is) all.0
entry_applies f (x ∷ xs) (suc i) e within is all = entry_applies (λ page. after_entry x page (f page)) xs i e (omega (arith, within)) is all.1

pub entries_apply-as : (f g : Pages) (xs : List PageEntry) → ((page : ℕ) → f page ≡ g page) → EntriesApply f xs → EntriesApply g xs
entries_apply-as f g [] same all = tt
entries_apply-as f g (x ∷ xs) same all = (
  subst (Applies x.page.0 (said_on x.form x.fields)) (same x.page.0) all.0,
  entries_apply-as (λ page. after_entry x page (f page)) (λ page. after_entry x page (g page)) xs (λ page. ap (after_entry x page) (same page)) all.1,
)

-- ---- records

pub records_apply-push : (f : Pages) (rs : List LogRecord) (r : LogRecord) → RecordsApply f rs → EntriesApply (λ page. logged_from (f page) rs page) r.pages → RecordsApply f (rs ++ r ∷ [])
records_apply-push f [] r all one = (one, tt)
records_apply-push f (x ∷ rs) r all one = (all.0, records_apply-push (λ page. page_after x page (f page)) rs r all.1 one)

pub record_applies : (f : Pages) (rs : List LogRecord) (i : ℕ) (r : LogRecord) → i < length rs → r ≡ get_or rs i r → RecordsApply f rs → EntriesApply (λ page. logged_from (f page) (take i rs) page) r.pages
record_applies f [] i r within is all = absurd (omega (arith, within))
record_applies f (x ∷ rs) zero r within is all = subst (λ (y : LogRecord). EntriesApply f y.pages) (sym is) all.0
record_applies f (x ∷ rs) (suc i) r within is all = record_applies (λ page. page_after x page (f page)) rs i r (omega (arith, within)) is all.1
