-- The units of a disk that decodes are whole.
use Rattle.std.proofs.Common.{◌≡◌, ℕ, ◌+◌, ◌*◌, ◌<◌, ◌≤◌, suc, suc-mul, List, [], ◌∷◌, length, Option, Some, None, refl, subst, eqb-true, arith}
use Rattle.std.specs.Prelude.{IfSome, unwrap_or, ◌==◌}
use Rattle.std.specs.List.{AllByRecursion, list_any}
use Rattle.std.proofs.lemmas.Bool.{lt-ltb, le-ltb, cond_both}
use Rattle.std.proofs.Math.Nat.{mul-le-mul_right, add-mul}
use Rattle.ex_base.specs.declared.geometry.Geometry.{Geometry}
use Rattle.ex_base.specs.Area.{catalog_no, area_end, page_at}
use Rattle.ex_base.specs.Bytes.{length-part}
use Rattle.ex_base.specs.Sizes.{leaf_bytes, volume_bytes}
use Rattle.op_log.specs.declared.record.LogRecord.{LogRecord}
use Rattle.op_log.specs.declared.kind.RecordKind.{RecordKind}
use Rattle.op_log.specs.AfterLog.{after_entry, after_entries, logged, logged_from, page_after, EntriesApply, RecordsApply}
use Rattle.op_log.proofs.Applied.{Pages}
use Rattle.op_log.specs.Records.{IsEntry, IsLogRecord, number_of, page_of}
use Rattle.page_entries.specs.declared.entry.PageEntry.{PageEntry}
use Rattle.page_entries.specs.Said.{AreFields, said_on}
use Rattle.page_entries.specs.After.{Applies, said_after}
use Rattle.page_entries.proofs.AfterLen.{fields_len}
use Rattle.trees.proofs.TreeLaws.{AreWhole}
use Rattle.volume_model.specs.Parts.{Decodes}
use Rattle.volume_model.specs.Volume.{Decoded, units_of}

-- ---- the catalog's page

abbrev IsSized : Geometry → Option (List ℕ) → Type 0
IsSized g None = Unit {0}
IsSized g (Some image) = length image ≡ g.page_size

said_sized : (g : Geometry) (entry : PageEntry) (page : ℕ) (so_far after : Option (List ℕ)) → AreFields g.page_size entry.form entry.fields → Applies page (said_on entry.form entry.fields) so_far → IsSized g so_far
    → said_after (said_on entry.form entry.fields) so_far ≡ after → IsSized g after
said_sized g entry page so_far None fields applies sized is = tt
said_sized g entry page so_far (Some after) fields applies sized is = fields_len g.page_size page entry.form entry.fields so_far after fields (as_some g so_far sized) applies is
  where
    as_some : (g : Geometry) (o : Option (List ℕ)) → IsSized g o → IfSome o (λ old. length old ≡ g.page_size)
    as_some g None sized = tt
    as_some g (Some old) sized = sized

entry_sized : (g : Geometry) (kind : RecordKind) (entry : PageEntry) (page : ℕ) (so_far : Pages) → IsEntry g kind entry → Applies entry.page.0 (said_on entry.form entry.fields) (so_far entry.page.0) → IsSized g (so_far page)
    → IsSized g (after_entry entry page (so_far page))
entry_sized g kind entry page so_far is applies sized =
    cond_both (page_of entry == page) (said_after (said_on entry.form entry.fields) (so_far page)) (so_far page) (IsSized g)
    (λ t. let same : entry.page.0 ≡ page = eqb-true entry.page.0 page t in
    said_sized g entry entry.page.0 (so_far page) (said_after (said_on entry.form entry.fields) (so_far page)) is.fields (subst (λ (p : ℕ). Applies entry.page.0 (said_on entry.form entry.fields) (so_far p)) same applies) sized refl)
    (λ _. sized)

entries_sized : (g : Geometry) (kind : RecordKind) (entries : List PageEntry) (page : ℕ) (so_far : Pages) → AllByRecursion (IsEntry g kind) entries → EntriesApply so_far entries → IsSized g (so_far page)
    → IsSized g (after_entries entries page (so_far page))
entries_sized g kind [] page so_far is apply sized = sized
entries_sized g kind (entry ∷ entries) page so_far is apply sized = entries_sized g kind entries page (λ p. after_entry entry p (so_far p)) is.1 apply.1 (entry_sized g kind entry page so_far is.0 apply.0 sized)

after_sized : (g : Geometry) (r : LogRecord) (page : ℕ) (so_far : Pages) → IsLogRecord g r → EntriesApply so_far r.pages → IsSized g (so_far page) → IsSized g (page_after r page (so_far page))
after_sized g r page so_far is apply sized =
    cond_both (list_any (λ freed. number_of freed == page) r.freed) None (after_entries r.pages page (so_far page)) (IsSized g) (λ _. tt) (λ _. entries_sized g r.kind r.pages page so_far is.entries apply sized)

logged_sized : (g : Geometry) (so_far : Pages) (records : List LogRecord) (page : ℕ) → AllByRecursion (IsLogRecord g) records → RecordsApply so_far records → IsSized g (so_far page) → IsSized g (logged_from (so_far page) records page)
logged_sized g so_far [] page is apply sized = sized
logged_sized g so_far (r ∷ records) page is apply sized = logged_sized g (λ p. page_after r p (so_far p)) records page is.1 apply.1 (after_sized g r page so_far is.0 apply.0 sized)

or_home : (g : Geometry) (image : Option (List ℕ)) (home : List ℕ) → IsSized g image → length home ≡ g.page_size → length (unwrap_or image home) ≡ g.page_size
or_home g None home sized is = is
or_home g (Some image) home sized is = sized

pub catalog_len : (d : Decoded) (disk : List ℕ) → Decodes disk d → length (units_of d disk catalog_no) ≡ d.geometry.page_size
catalog_len d disk (super, (log, rest)) =
    let g = d.geometry in
    let some = g.some_pages in
    let is_page = lt-ltb catalog_no (area_end g) (omega (arith, some)) in
    let inside : 257 * g.page_size + g.page_size ≤ length disk = omega (arith, super.large, mul-le-mul_right {m = 258} {n = 257 + g.pages + g.segs * g.seg_len} g.page_size (omega (arith, some))) in
    rw is_page (or_home g (logged d.records catalog_no) (page_at g disk catalog_no) (logged_sized g (λ p. None) d.records catalog_no log.says.each log.apply tt) (length-part disk (257 * g.page_size) g.page_size inside))

-- ---- leaves

leaf_inside : (g : Geometry) (disk : List ℕ) (page j : ℕ) → volume_bytes g ≤ length disk → j < g.segs → page ≡ area_end g + j * g.seg_len → page * g.page_size + leaf_bytes g ≤ length disk
leaf_inside g disk page j large lt is =
    let last : page + g.seg_len ≤ 257 + g.pages + g.segs * g.seg_len = omega (arith, is, suc-mul j g.seg_len, mul-le-mul_right {m = suc j} {n = g.segs} g.seg_len lt) in
    omega (arith, large, add-mul page g.seg_len g.page_size, mul-le-mul_right {m = page + g.seg_len} {n = 257 + g.pages + g.segs * g.seg_len} g.page_size last)

pub are_whole : (d : Decoded) (disk : List ℕ) → Decodes disk d → AreWhole d.geometry (units_of d disk)
are_whole d disk (super, rest) page (j, lt, is) =
    let g = d.geometry in
    let is_leaf = le-ltb page (area_end g) (omega (arith, is)) in
    rw is_leaf (omega (arith, length-part disk (page * g.page_size) (leaf_bytes g) (leaf_inside g disk page j super.large lt is)))
