-- What the log has of each page once the record of the working pages is added.
use Rattle.std.proofs.Common.{◌≡◌, ◌≢◌, ◌≤◌, ◌||◌, ℕ, Bool, true, false, cond, ⊎_elim, List, [], ◌∷◌, ◌++◌, length, All, Option, Some, None, nat_eq, refl, sym, ap, subst, ◌∙◌, arith}
use Rattle.std.specs.Prelude.{◌==◌, IfSome}
use Rattle.std.specs.List.{list_any, AllByRecursion}
use Rattle.std.specs.Map.{lookup}
use Rattle.std.proofs.lemmas.Bool.{eq-eqb, ne_eqb}
use Rattle.std.proofs.lemmas.Bool.Decides.{eqb_tells}
use Rattle.std.proofs.lemmas.List.Elements.{All-head, All-tail}
use Rattle.ex_base.specs.declared.geometry.Geometry.{Geometry}
use Rattle.ex_base.specs.declared.names.OpNote.{OpNote}
use Rattle.ex_base.specs.declared.names.PageNo.{PageNo}
use Rattle.meta_pages.specs.Overlays.{Overlays, AreRows, IsPageRow, IsWorkingRow, over}
use Rattle.meta_pages.specs.Rows.{IsAbove, IsRising}
use Rattle.op_log.specs.AfterLog.{after_entry, after_entries, page_after, logged_from, logged, EntriesApply}
use Rattle.op_log.specs.Records.{number_of, page_of}
use Rattle.page_entries.specs.After.{Applies, said_after}
use Rattle.page_entries.specs.EntryOf.{IsEntryOf}
use Rattle.page_entries.specs.declared.entry.PageEntry.{PageEntry}
use Rattle.page_entries.specs.Said.{said_on}
use Rattle.page_entries.proofs.RuleLaws.{rule_gives}
use Rattle.op_log.specs.declared.record.LogRecord.{LogRecord}
use Rattle.op_log.proofs.Applied.{Pages}
use Rattle.volume_model.specs.Committed.{AreEntries, IsRecordOf, given_back}
use Rattle.volume_model.specs.Shown.{PageRow, WorkingRow}

pub logged_from-push : (so_far : Option (List ℕ)) (rs : List LogRecord) (r : LogRecord) (page : ℕ) → logged_from so_far (rs ++ r ∷ []) page ≡ page_after r page (logged_from so_far rs page)
logged_from-push so_far [] r page = refl
logged_from-push so_far (x ∷ rs) r page = logged_from-push (page_after x page so_far) rs r page

-- ---- pages of one size

-- each image is as long as the page so far, where there is one
abbrev pub AreSized : Pages → List WorkingRow → Type 0
AreSized f rows = AllByRecursion (λ (row : WorkingRow). IfSome row.1 (λ image. IfSome (f row.0) (λ before. length before ≡ length image))) rows

page_long : (g : Geometry) (c : List PageRow) (page : ℕ) (before : List ℕ) → AllByRecursion (λ (row : PageRow). length row.1 ≡ g.page_size) c → lookup (nat_eq page) c ≡ Some before → length before ≡ g.page_size
page_long g [] page before all found = absurd (cc)
page_long g (row ∷ rows) page before all found = (elim (nat_eq page row.0) as (λ b. cond b (Some row.1) (lookup (nat_eq page) rows) ≡ Some before → length before ≡ g.page_size) [
  | true ↦ λ is. let same : row.1 ≡ before = cc in ap length (sym same) ∙ all.0
  | false ↦ λ is. page_long g rows page before all.1 is
]) found

each_long : (g : Geometry) (c : List PageRow) → All (IsPageRow g) c → AllByRecursion (λ (row : PageRow). length row.1 ≡ g.page_size) c
each_long g [] all = tt
each_long g (row ∷ rows) all = ((All-head (IsPageRow g) row rows all).1, each_long g rows (All-tail (IsPageRow g) row rows all))

as_long : (g : Geometry) (c : List PageRow) (page : ℕ) (image : List ℕ) (o : Option (List ℕ)) → AllByRecursion (λ (row : PageRow). length row.1 ≡ g.page_size) c → lookup (nat_eq page) c ≡ o → length image ≡ g.page_size → IfSome o (λ before. length before ≡ length image)
as_long g c page image None all is long = tt
as_long g c page image (Some before) all is long = page_long g c page before all is ∙ sym long

sized_over : (g : Geometry) (c : List PageRow) (f : Pages) (rows : List WorkingRow) → AllByRecursion (λ (row : PageRow). length row.1 ≡ g.page_size) c → ((page : ℕ) → lookup (nat_eq page) c ≡ f page) → All (IsWorkingRow g) rows → AreSized f rows
sized_over g c f [] all same working = tt
sized_over g c f ((page, None) ∷ rows) all same working = (tt, sized_over g c f rows all same (All-tail (IsWorkingRow g) (page, None) rows working))
sized_over g c f ((page, Some image) ∷ rows) all same working =
    (as_long g c page image (f page) all (same page) (All-head (IsWorkingRow g) (page, Some image) rows working).1, sized_over g c f rows all same (All-tail (IsWorkingRow g) (page, Some image) rows working))

pub sized : (o : Overlays) (f : Pages) → AreRows o → ((page : ℕ) → lookup (nat_eq page) o.committed ≡ f page) → AreSized f o.working
sized o f are same = sized_over o.geometry o.committed f o.working (each_long o.geometry o.committed are.pages) same are.working_pages

-- ---- entries over the same pages

pub entries_as : (f g : Pages) (rows : List WorkingRow) (entries : List PageEntry) → ((page : ℕ) → f page ≡ g page) → AreEntries f rows entries → AreEntries g rows entries
entries_as f g [] entries same are = are
entries_as f g ((page, None) ∷ rows) entries same are = entries_as f g rows entries same are
entries_as f g ((page, Some image) ∷ rows) [] same are = absurd are
entries_as f g ((page, Some image) ∷ rows) (e ∷ entries) same are = (subst (λ (o : Option (List ℕ)). IsEntryOf (record { 0 = page }) o image e) (same page) are.0, entries_as f g rows entries same are.1)

pub record_as : (f g : Pages) (txn : ℕ) (notes : List OpNote) (rows : List WorkingRow) (r : LogRecord) → ((page : ℕ) → f page ≡ g page) → IsRecordOf f txn notes rows r → IsRecordOf g txn notes rows r
record_as f g txn notes rows r same is = record { kind = is.kind; txn_is = is.txn_is; notes_are = is.notes_are; entries = entries_as f g rows r.pages same is.entries; freed = is.freed }

-- ---- one page among the rows

abbrev is_given : ℕ → List WorkingRow → Bool
is_given page rows = list_any (λ freed. number_of freed == page) (given_back rows)

abbrev gives : Option (Option (List ℕ)) → Bool
gives None = false
gives (Some None) = true
gives (Some (Some image)) = false

-- what a row makes of the page so far
abbrev set_by : Option (Option (List ℕ)) → Option (List ℕ) → Option (List ℕ)
set_by None so_far = so_far
set_by (Some None) so_far = so_far
set_by (Some (Some image)) so_far = Some image

-- what the record says of the page is its row
record IsTold (f : Pages) (page : ℕ) (rows : List WorkingRow) (entries : List PageEntry) (row : Option (Option (List ℕ))) : Type 0 where
  given : is_given page rows ≡ gives row
  after : after_entries entries page (f page) ≡ set_by row (f page)

-- the entry of a page gives its image, and applies
entry_gives : (f : Pages) (page : ℕ) (image : List ℕ) (e : PageEntry) → IfSome (f page) (λ before. length before ≡ length image) → IsEntryOf (record { 0 = page }) (f page) image e
    → Applies page (said_on e.form e.fields) (f page) × (said_after (said_on e.form e.fields) (f page) ≡ Some image)
entry_gives f page image e long is = rule_gives page (f page) image (said_on e.form e.fields) long is.rule

entry_here : (page : ℕ) (e : PageEntry) (so_far : Option (List ℕ)) → page_of e ≡ page → after_entry e page so_far ≡ said_after (said_on e.form e.fields) so_far
entry_here page e so_far is = ap (λ (t : Bool). cond t (said_after (said_on e.form e.fields) so_far) so_far) (eq-eqb (page_of e) page is)

entry_other : (page : ℕ) (e : PageEntry) (so_far : Option (List ℕ)) → (page_of e ≡ page → ⊥) → after_entry e page so_far ≡ so_far
entry_other page e so_far differ = ap (λ (t : Bool). cond t (said_after (said_on e.form e.fields) so_far) so_far) (ne_eqb (page_of e) page differ)

-- entries of later pages leave a page
entries_leave : (f : Pages) (page low : ℕ) (rows : List WorkingRow) (entries : List PageEntry) (so_far : Option (List ℕ)) → page ≤ low → IsAbove low rows → AreEntries f rows entries → after_entries entries page so_far ≡ so_far
entries_leave f page low [] entries so_far le above are = ap (λ (l : List PageEntry). after_entries l page so_far) are
entries_leave f page low ((p, None) ∷ rows) entries so_far le above are = entries_leave f page low rows entries so_far le above.1 are
entries_leave f page low ((p, Some image) ∷ rows) [] so_far le above are = absurd are
entries_leave f page low ((p, Some image) ∷ rows) (e ∷ entries) so_far le above are =
    ap (after_entries entries page) (entry_other page e so_far (λ same. omega (arith, same, ap (λ (n : PageNo). n.0) are.0.page_is, le, above.0))) ∙ entries_leave f page low rows entries so_far le above.1 are.1

told_here : (f : Pages) (page : ℕ) (value : Option (List ℕ)) (rows : List WorkingRow) (entries : List PageEntry) → IsAbove page rows → AreSized f ((page, value) ∷ rows) → AreEntries f ((page, value) ∷ rows) entries
    → is_given page rows ≡ false → IsTold f page ((page, value) ∷ rows) entries (Some value)
told_here f page None rows entries above long are none = record { given = ap (λ (t : Bool). t || is_given page rows) (eq-eqb page page refl); after = entries_leave f page page rows entries (f page) (omega arith) above are }
told_here f page (Some image) rows [] above long are none = absurd are
told_here f page (Some image) rows (e ∷ entries) above long are none = record {
  given = none;
  after = entries_leave f page page rows entries (after_entry e page (f page)) (omega arith) above are.1 ∙ entry_here page e (f page) (ap (λ (n : PageNo). n.0) are.0.page_is) ∙ (entry_gives f page image e long.0 are.0).1;
}

told_later : (f : Pages) (page other : ℕ) (value : Option (List ℕ)) (rows : List WorkingRow) (entries : List PageEntry) (row : Option (Option (List ℕ))) → (other ≡ page → ⊥) → AreEntries f ((other, value) ∷ rows) entries
    → ((rest : List PageEntry) → AreEntries f rows rest → IsTold f page rows rest row) → IsTold f page ((other, value) ∷ rows) entries row
told_later f page other None rows entries row differ are rest =
    let told = rest entries are in record { given = ap (λ (t : Bool). t || is_given page rows) (ne_eqb other page differ) ∙ told.given; after = told.after }
told_later f page other (Some image) rows [] row differ are rest = absurd are
told_later f page other (Some image) rows (e ∷ entries) row differ are rest =
    let told = rest entries are.1 in
    record { given = told.given; after = ap (after_entries entries page) (entry_other page e (f page) (λ same. differ (sym (ap (λ (n : PageNo). n.0) are.0.page_is) ∙ same))) ∙ told.after }

given_above : (page low : ℕ) (rows : List WorkingRow) → page ≤ low → IsAbove low rows → is_given page rows ≡ false
given_above page low [] le above = refl
given_above page low ((p, None) ∷ rows) le above = ap (λ (t : Bool). t || is_given page rows) (ne_eqb p page (λ same. omega (arith, same, le, above.0))) ∙ given_above page low rows le above.1
given_above page low ((p, Some image) ∷ rows) le above = given_above page low rows le above.1

told : (f : Pages) (page : ℕ) (rows : List WorkingRow) (entries : List PageEntry) → IsRising rows → AreSized f rows → AreEntries f rows entries → IsTold f page rows entries (lookup (nat_eq page) rows)
told f page [] entries rising long are = record { given = refl; after = ap (λ (l : List PageEntry). after_entries l page (f page)) are }
told f page ((other, value) ∷ rows) entries rising long are = ⊎_elim
    (λ (same : (nat_eq page other ≡ true) × (page ≡ other)).
    subst (λ (o : Option (Option (List ℕ))). IsTold f page ((other, value) ∷ rows) entries o) (sym (ap (λ (t : Bool). cond t (Some value) (lookup (nat_eq page) rows)) same.0))
    (subst (λ (n : ℕ). IsTold f n ((other, value) ∷ rows) entries (Some value)) (sym same.1) (told_here f other value rows entries rising.0 long are (given_above other other rows (omega arith) rising.0))))
    (λ (differ : (nat_eq page other ≡ false) × (page ≢ other)).
    subst (λ (o : Option (Option (List ℕ))). IsTold f page ((other, value) ∷ rows) entries o) (sym (ap (λ (t : Bool). cond t (Some value) (lookup (nat_eq page) rows)) differ.0))
    (told_later f page other value rows entries (lookup (nat_eq page) rows) (λ is. differ.1 (sym is)) are (λ rest those. told f page rows rest rising.1 long.1 those)))
    (eqb_tells page other)

told_after : (f : Pages) (page : ℕ) (rows : List WorkingRow) (entries : List PageEntry) (row : Option (Option (List ℕ))) → IsTold f page rows entries row → cond (is_given page rows) None (after_entries entries page (f page)) ≡ over row (f page)
told_after f page rows entries None is = ap (λ (t : Bool). cond t None (after_entries entries page (f page))) is.given ∙ is.after
told_after f page rows entries (Some None) is = ap (λ (t : Bool). cond t None (after_entries entries page (f page))) is.given
told_after f page rows entries (Some (Some image)) is = ap (λ (t : Bool). cond t None (after_entries entries page (f page))) is.given ∙ is.after

-- ---- each entry applies

-- pages behind that of an entry are what they were
each_past : (f g : Pages) (e : PageEntry) (rows : List WorkingRow) → IsAbove (page_of e) rows → AllByRecursion (λ (row : WorkingRow). g row.0 ≡ f row.0) rows → AllByRecursion (λ (row : WorkingRow). after_entry e row.0 (g row.0) ≡ f row.0) rows
each_past f g e [] above same = tt
each_past f g e (row ∷ rows) above same = (entry_other row.0 e (g row.0) (λ is. omega (arith, is, above.0)) ∙ same.0, each_past f g e rows above.1 same.1)

entries_apply : (f g : Pages) (rows : List WorkingRow) (entries : List PageEntry) → IsRising rows → AreSized f rows → AllByRecursion (λ (row : WorkingRow). g row.0 ≡ f row.0) rows → AreEntries f rows entries → EntriesApply g entries
entries_apply f g [] entries rising long same are = subst (EntriesApply g) (sym are) tt
entries_apply f g ((page, None) ∷ rows) entries rising long same are = entries_apply f g rows entries rising.1 long.1 same.1 are
entries_apply f g ((page, Some image) ∷ rows) [] rising long same are = absurd are
entries_apply f g ((page, Some image) ∷ rows) (e ∷ entries) rising long same are =
    let here : page_of e ≡ page = ap (λ (n : PageNo). n.0) are.0.page_is in (
      subst (λ (n : ℕ). Applies n (said_on e.form e.fields) (g n)) (sym here) (subst (Applies page (said_on e.form e.fields)) (sym same.0) (entry_gives f page image e long.0 are.0).0),
      entries_apply f (λ p. after_entry e p (g p)) rows entries rising.1 long.1 (each_past f g e rows (subst (λ (n : ℕ). IsAbove n rows) (sym here) rising.0) same.1) are.1,
    )

each_same : (f : Pages) (rows : List WorkingRow) → AllByRecursion (λ (row : WorkingRow). f row.0 ≡ f row.0) rows
each_same f [] = tt
each_same f (row ∷ rows) = (refl, each_same f rows)

pub record_applies : (f : Pages) (txn : ℕ) (notes : List OpNote) (rows : List WorkingRow) (r : LogRecord) → IsRising rows → AreSized f rows → IsRecordOf f txn notes rows r → EntriesApply f r.pages
record_applies f txn notes rows r rising long is = entries_apply f f rows r.pages rising long (each_same f rows) is.entries

-- After the transaction's record the log has a page as the transaction left it, and any other as before.
pub logged_more : (records : List LogRecord) (txn : ℕ) (notes : List OpNote) (rows : List WorkingRow) (r : LogRecord) (page : ℕ) → IsRising rows → AreSized (λ p. logged records p) rows → IsRecordOf (λ p. logged records p) txn notes rows r
    → logged (records ++ r ∷ []) page ≡ over (lookup (nat_eq page) rows) (logged records page)
logged_more records txn notes rows r page rising long is =
    logged_from-push None records r page
    ∙ ap (λ (freed : List PageNo). cond (list_any (λ free. number_of free == page) freed) None (after_entries r.pages page (logged records page))) is.freed
    ∙ told_after (λ p. logged records p) page rows r.pages (lookup (nat_eq page) rows) (told (λ p. logged records p) page rows r.pages rising long is.entries)
