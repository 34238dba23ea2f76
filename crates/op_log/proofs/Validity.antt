-- What a record keeps beside its shape.
use Rattle.std.proofs.Common.{◌≡◌, ◌⊎◌, inl, inr, ⊎_elim, ◌↔◌, ℕ, zero, suc, ◌+◌, ◌<◌, ◌≤◌, List, [], ◌∷◌, ◌++◌, length, map, drop, get_or, refl, sym, ap, subst, arith, Contains, Some, slice_index_or}
use Rattle.std.specs.List.{AllByRecursion}
use Rattle.ex_base.specs.declared.geometry.Geometry.{Geometry}
use Rattle.ex_base.specs.Area.{area_end, catalog_no}
use Rattle.ex_base.specs.Order.{Rising}
use Rattle.ex_base.proofs.Each.{each_as, each_mapped, each_unmapped, each_with}
use Rattle.ex_base.proofs.Members.{contains_cases, contains_later}
use Rattle.ex_base.proofs.Lists.{drop_item}
use Rattle.op_log.specs.declared.record.LogRecord.{LogRecord}
use Rattle.page_entries.specs.declared.entry.PageEntry.{PageEntry}
use Rattle.op_log.specs.Records.{IsEntry, IsFreed, IsLogRecord, page_of, number_of}
use Rattle.op_log.specs.Log.{Follow}
use Rattle.op_log.specs.Decoding.{RisesIn, IsApart, Shaped, FitsEntry, FitsNumber, NumberFollows, last_number}

-- ---- numbers in order

abbrev Within : ℕ → ℕ → Type 0
Within end x = (257 ≤ x) × (x < end)

rises-within : (before end : ℕ) (xs : List ℕ) → 256 ≤ before → RisesIn before end xs → AllByRecursion (Within end) xs
rises-within before end [] low p = tt
rises-within before end (x ∷ xs) low p = ((omega (arith, low, p.0), p.1), rises-within x end xs (omega (arith, low, p.0)) p.2)

rises-rising : (before end : ℕ) (xs : List ℕ) → RisesIn before end xs → Rising xs
rises-rising before end [] p = tt
rises-rising before end (x ∷ []) p = tt
rises-rising before end (x ∷ y ∷ xs) p = (p.2.0, rises-rising x end (y ∷ xs) p.2)

rises-on : (before end x : ℕ) (xs : List ℕ) → before < x → Rising (x ∷ xs) → AllByRecursion (Within end) (x ∷ xs) → RisesIn before end (x ∷ xs)
rises-on before end x [] lt rising all = (lt, all.0.1, tt)
rises-on before end x (y ∷ xs) lt rising all = (lt, all.0.1, rises-on x end y xs rising.0 rising.1 all.1)

rises-from : (end : ℕ) (xs : List ℕ) → Rising xs → AllByRecursion (Within end) xs → RisesIn 256 end xs
rises-from end [] rising all = tt
rises-from end (x ∷ xs) rising all = rises-on 256 end x xs (omega (arith, all.0.0)) rising all

-- ---- all of a record

pub entries_rise_of : (g : Geometry) (r : LogRecord) → IsLogRecord g r → RisesIn 256 (area_end g) (map page_of r.pages)
entries_rise_of g r is = rises-from (area_end g) (map page_of r.pages) is.rising (each_mapped (Within (area_end g)) page_of r.pages (each_as (IsEntry g r.kind) (λ e. Within (area_end g) (page_of e)) r.pages (λ e p. p.area) is.entries))

pub numbers_rise_of : (g : Geometry) (r : LogRecord) → IsLogRecord g r → RisesIn 256 (area_end g) (map number_of r.freed)
numbers_rise_of g r is = rises-from (area_end g) (map number_of r.freed) is.freed_rising (each_mapped (Within (area_end g)) number_of r.freed is.freed)

pub valid_of : (g : Geometry) (r : LogRecord) → Shaped g r → RisesIn 256 (area_end g) (map page_of r.pages) → RisesIn 256 (area_end g) (map number_of r.freed)
    → AllByRecursion (IsApart r.pages) r.freed → Contains (map page_of r.pages) catalog_no → IsLogRecord g r
valid_of g r shaped pages freed apart catalog = record {
  txn = shaped.txn;
  few_notes = shaped.few_notes;
  few_pages = shaped.few_pages;
  notes = shaped.notes;
  entries = each_with (λ e. Within (area_end g) (page_of e)) (FitsEntry g.page_size r.kind) (IsEntry g r.kind) r.pages (λ e w f. record { area = w; form = f.form; fields = f.fields }) (each_unmapped (Within (area_end g)) page_of r.pages (rises-within 256 (area_end g) (map page_of r.pages) (omega arith) pages)) shaped.entries;
  freed = each_unmapped (Within (area_end g)) number_of r.freed (rises-within 256 (area_end g) (map number_of r.freed) (omega arith) freed);
  rising = rises-rising 256 (area_end g) (map page_of r.pages) pages;
  freed_rising = rises-rising 256 (area_end g) (map number_of r.freed) freed;
  apart = apart;
  catalog = catalog;
  short = shaped.short;
}

pub shaped_of : (g : Geometry) (r : LogRecord) → IsLogRecord g r → Shaped g r
shaped_of g r is = record {
  txn = is.txn;
  few_notes = is.few_notes;
  few_pages = is.few_pages;
  notes = is.notes;
  entries = each_as (IsEntry g r.kind) (FitsEntry g.page_size r.kind) r.pages (λ e p. record { page = omega (arith, p.area.1, g.few_pages); form = p.form; fields = p.fields }) is.entries;
  freed = each_as (IsFreed g) FitsNumber r.freed (λ e p. omega (arith, p.1, g.few_pages)) is.freed;
  short = is.short;
}

-- ---- a page among others

contains_at : (y x : ℕ) (ys : List ℕ) (k : ℕ) → k < length (y ∷ ys) → slice_index_or (y ∷ ys) k x ≡ x → (y ≡ x) ⊎ Contains ys x
contains_at y x ys zero lt is = inl is
contains_at y x ys (suc k) lt is = inr (k, omega (arith, lt), is)

pub contains_next : (xs : List PageEntry) (i : ℕ) (x : PageEntry) (n : ℕ) → i < length xs → x ≡ get_or xs i x → (x.page.0 ≡ n → ⊥)
    → (Contains (map page_of xs) n ↔ Contains (map page_of (drop i xs)) n) → (Contains (map page_of xs) n ↔ Contains (map page_of (drop (i + 1) xs)) n)
contains_next xs i x n within is other so_far =
    let e = ap (map page_of) (drop_item xs i x within is) in (
      λ c. ⊎_elim (λ same. absurd (other same)) (λ later. later) (contains_cases x.page.0 n (map page_of (drop (i + 1) xs)) (subst (λ (l : List ℕ). Contains l n) e (so_far.0 c))),
      λ c. so_far.1 (subst (λ (l : List ℕ). Contains l n) (sym e) (contains_later x.page.0 n (map page_of (drop (i + 1) xs)) c)),
    )

-- ---- numbers that follow

pub follow-push : (rs : List LogRecord) (r : LogRecord) → Follow rs → NumberFollows (last_number rs) r.txn → Follow (rs ++ r ∷ [])
follow-push [] r follow next = tt
follow-push (x ∷ []) r follow next = (next, tt)
follow-push (x ∷ y ∷ rs) r follow next = (follow.0, follow-push (y ∷ rs) r follow.1 next)

pub follow-last : (rs : List LogRecord) (r : LogRecord) → Follow (rs ++ r ∷ []) → NumberFollows (last_number rs) r.txn
follow-last [] r follow = tt
follow-last (x ∷ []) r follow = follow.0
follow-last (x ∷ y ∷ rs) r follow = follow-last (y ∷ rs) r follow.1

pub last_number-push : (rs : List LogRecord) (r : LogRecord) → last_number (rs ++ r ∷ []) ≡ Some r.txn
last_number-push [] r = refl
last_number-push (x ∷ []) r = refl
last_number-push (x ∷ y ∷ rs) r = last_number-push (y ∷ rs) r
