-- The catalog after changes of files.
use Rattle.std.proofs.Common.{◌≡◌, ℕ, ◌+◌, ◌-◌, ◌*◌, ◌/◌, ◌^◌, ◌<◌, ◌≤◌, Bool, true, false, List, [], ◌∷◌, ◌++◌, length, map, filter, sym, ap, subst, ◌∙◌, arith}
use Rattle.std.specs.Prelude.{Contains, if◌then◌else◌}
use Rattle.std.specs.List.{flat_map, AllByRecursion}
use Rattle.std.specs.Ordering.{nat_cmp, is_lt}
use Rattle.std.specs.Cmp.Lexicographic.{slice_cmp}
use Rattle.std.proofs.lemmas.List.{append-nil}
use Rattle.ex_base.specs.Fields.{zeros, number_at}
use Rattle.ex_base.proofs.Filters.{each_kept}
use Rattle.object_files.specs.Catalog.{FileEntry, Catalog, IsEntry, IsCatalog, CatalogOf, entry_bytes, headed, catalog_page, number_of}
use Rattle.object_files.specs.Edits.{IsCatalogPage, numbers_on, entry_inserted}
use Rattle.object_files.proofs.CatalogLaws.{catalog_read, length-spelled}
use Rattle.page_entries.specs.declared.form.EntryForm.TheVariants.{FileChanges}
use Rattle.page_entries.specs.Said.{Said, Whole, Slots, Files, said_bytes, form_of, IsSaid, AreFields, put_catalog, put_count, put_begin}
use Rattle.page_entries.specs.Fronts.{ArePut, removed_read, put_read}
use Rattle.page_entries.specs.FilesAfter.{stays, files_put, files_after, FilesReadApply, catalog_after_read}
use Rattle.page_entries.proofs.Files.{FilesGiven, files_given, same_put, written_is, made_is}

-- ---- the fields

pub record FilesHere (size : ℕ) (fields : List ℕ) : Type 0 where
  pub begin : put_begin fields ≤ length fields
  pub end : put_begin fields + 48 * put_count fields ≤ length fields
  pub room : 32 + 48 * put_count fields ≤ size
  pub are_put : ArePut size fields (put_read fields)

here_of : (size : ℕ) (fields : List ℕ) (said : Said) → IsSaid size said → form_of said ≡ FileChanges → fields ≡ said_bytes said → FilesHere size fields
here_of size fields (Whole image) fits is e = absurd cc
here_of size fields (Slots cs) fits is e = absurd cc
here_of size fields (Files next last removed put) fits is e =
    let g : FilesGiven size fields next last removed put [] = files_given size fields [] next last removed put fits (e ∙ sym (append-nil (said_bytes (Files next last removed put)))) in
    record {
      begin = g.begin;
      end = g.end;
      room = omega (arith, g.put_is, fits.put_fits.room);
      are_put = subst (ArePut size fields) (sym g.read) g.are_put;
    }

pub files_here : (size : ℕ) (fields : List ℕ) → AreFields size FileChanges fields → FilesHere size fields
files_here size fields h = here_of size fields h.0 h.1 h.2 h.3

-- ---- each file is in its grammar

each_inserted : (e : FileEntry) (es : List FileEntry) → IsEntry e → AllByRecursion IsEntry es → AllByRecursion IsEntry (entry_inserted e es)
each_inserted e [] one each = (one, tt)
each_inserted e (f ∷ fs) one each = by_test (each_inserted e fs one each.1) (is_lt (slice_cmp nat_cmp e.name f.name))
  where
    by_test : AllByRecursion IsEntry (entry_inserted e fs) → (b : Bool) → AllByRecursion IsEntry (if b then e ∷ f ∷ fs else f ∷ entry_inserted e fs)
    by_test rest true = (one, each)
    by_test rest false = (each.0, rest)

each_put : (put es : List FileEntry) → AllByRecursion IsEntry put → AllByRecursion IsEntry es → AllByRecursion IsEntry (files_put put es)
each_put [] es new each = each
each_put (e ∷ put) es new each = each_inserted e (files_put put es) new.0 (each_put put es new.1 each)

-- ---- the call

-- the old catalog, and the files that are put
pub record Merging (old fields : List ℕ) (c : Catalog) (put : List FileEntry) : Type 0 where
  pub page : CatalogOf old c
  pub are_put : ArePut (length old) fields put
  pub same : put ≡ put_read fields

pub merging : (old fields : List ℕ) (c : Catalog) (put : List FileEntry) → AreFields (length old) FileChanges fields → CatalogOf old c → ArePut (length old) fields put → Merging old fields c put
merging old fields c put h page are = record { page = page; are_put = are; same = same_put (length old) fields put (put_read fields) are (files_here (length old) fields h).are_put }

pub merged_each : (old fields : List ℕ) (c : Catalog) (put : List FileEntry) → Merging old fields c put → AllByRecursion IsEntry (files_after (removed_read fields) put c.entries)
merged_each old fields c put m =
    each_put put (filter (stays (removed_read fields) put) c.entries) m.are_put.fits.entries (each_kept IsEntry (stays (removed_read fields) put) c.entries m.page.fits.entries)

pub merged_is : (old fields : List ℕ) (c : Catalog) (put : List FileEntry) → Merging old fields c put → put_catalog (number_at 8 fields 0) (number_at 8 fields 8) (files_after (removed_read fields) put c.entries) ≡ catalog_after_read old fields
merged_is old fields c put m =
    ap (λ (es : List FileEntry). put_catalog (number_at 8 fields 0) (number_at 8 fields 8) (files_after (removed_read fields) es c.entries)) m.same
    ∙ ap (λ (d : Catalog). put_catalog (number_at 8 fields 0) (number_at 8 fields 8) (files_after (removed_read fields) (put_read fields) d.entries)) (sym (catalog_read old c m.page))

pub is_catalog : (old : List ℕ) (c : Catalog) → CatalogOf old c → IsCatalogPage old
is_catalog old c h = subst (CatalogOf old) (sym (catalog_read old c h)) h

pub there_on : (old : List ℕ) (c : Catalog) (removed : List ℕ) → CatalogOf old c → AllByRecursion (λ n. Contains (map number_of c.entries) n) removed → AllByRecursion (λ n. Contains (numbers_on old) n) removed
there_on old c removed h each = subst (λ (d : Catalog). AllByRecursion (λ n. Contains (map number_of d.entries) n) removed) (sym (catalog_read old c h)) each

pub there_in : (old : List ℕ) (c : Catalog) (removed : List ℕ) → CatalogOf old c → AllByRecursion (λ n. Contains (numbers_on old) n) removed → AllByRecursion (λ n. Contains (map number_of c.entries) n) removed
there_in old c removed h each = subst (λ (d : Catalog). AllByRecursion (λ n. Contains (map number_of d.entries) n) removed) (catalog_read old c h) each

pub they_apply : (old fields : List ℕ) (c : Catalog) (put : List FileEntry) → Merging old fields c put → AllByRecursion (λ n. Contains (map number_of c.entries) n) (removed_read fields)
    → IsCatalog (length old) (put_catalog (number_at 8 fields 0) (number_at 8 fields 8) (files_after (removed_read fields) put c.entries)) → FilesReadApply old fields
they_apply old fields c put m there fits = record {
  page = is_catalog old c m.page;
  there = there_on old c (removed_read fields) m.page there;
  fits = subst (IsCatalog (length old)) (merged_is old fields c put m) fits;
}

pub applied_fits : (old fields : List ℕ) (c : Catalog) (put : List FileEntry) → Merging old fields c put → FilesReadApply old fields → IsCatalog (length old) (put_catalog (number_at 8 fields 0) (number_at 8 fields 8) (files_after (removed_read fields) put c.entries))
applied_fits old fields c put m a = subst (IsCatalog (length old)) (sym (merged_is old fields c put m)) a.fits

-- ---- the page

-- a page that is written of two numbers and the entries of these files
pub record WrittenOf (page entries : List ℕ) (size next last : ℕ) (es : List FileEntry) : Type 0 where
  pub long : length page ≡ size
  pub small : size ≤ 8192
  pub room : 32 + length entries ≤ size
  pub next_fits : next < 2 ^ 64
  pub last_fits : last < 2 ^ 64
  pub each : AllByRecursion IsEntry es
  pub entries_are : entries ≡ flat_map entry_bytes es
  pub spelled : page ≡ headed (length entries / 48) next last (entries ++ zeros (size - (32 + length entries)))

page_is : (page entries : List ℕ) (size next last : ℕ) (es : List FileEntry) → WrittenOf page entries size next last es → page ≡ catalog_page (length page) (put_catalog next last es)
page_is page entries size next last es w = written_is page entries size next last es w.long w.each w.entries_are w.spelled

pub found_page : (page entries : List ℕ) (size next last : ℕ) (es : List FileEntry) (c : Catalog) → WrittenOf page entries size next last es → CatalogOf page c → IsCatalog size (put_catalog next last es) × (page ≡ catalog_page size (put_catalog next last es))
found_page page entries size next last es c w h =
    let few : length es < 2 ^ 16 = omega (arith, ap length w.entries_are, length-spelled es w.each, w.room, w.small) in
    let same : c ≡ put_catalog next last es = made_is page next last es c w.next_fits w.last_fits few w.each (page_is page entries size next last es w) h in (
      subst (λ (n : ℕ). IsCatalog n (put_catalog next last es)) w.long (subst (IsCatalog (length page)) same h.fits),
      page_is page entries size next last es w ∙ ap (λ (n : ℕ). catalog_page n (put_catalog next last es)) w.long,
    )

pub no_page : (page entries : List ℕ) (size next last : ℕ) (es : List FileEntry) → WrittenOf page entries size next last es → ((c : Catalog) → CatalogOf page c → ⊥) → IsCatalog size (put_catalog next last es) → ⊥
no_page page entries size next last es w none fits =
    none (put_catalog next last es) (record { fits = subst (λ (n : ℕ). IsCatalog n (put_catalog next last es)) (sym w.long) fits; spelled = page_is page entries size next last es w })

-- ---- the answer

pub after_applied : (old fields : List ℕ) (c : Catalog) (put : List FileEntry) (n l : ℕ) (image : List ℕ) → Merging old fields c put → AllByRecursion (λ n. Contains (map number_of c.entries) n) (removed_read fields) → n ≡ number_at 8 fields 0 → l ≡ number_at 8 fields 8
    → IsCatalog (length old) (put_catalog n l (files_after (removed_read fields) put c.entries)) × (image ≡ catalog_page (length old) (put_catalog n l (files_after (removed_read fields) put c.entries)))
    → FilesReadApply old fields × (image ≡ catalog_page (length old) (catalog_after_read old fields))
after_applied old fields c put n l image m there n_is l_is made =
    let es : List FileEntry = files_after (removed_read fields) put c.entries in
    let same : put_catalog n l (files_after (removed_read fields) put c.entries) ≡ put_catalog (number_at 8 fields 0) (number_at 8 fields 8) (files_after (removed_read fields) put c.entries) =
    ap (λ (k : ℕ). put_catalog k l (files_after (removed_read fields) put c.entries)) n_is ∙ ap (λ (k : ℕ). put_catalog (number_at 8 fields 0) k (files_after (removed_read fields) put c.entries)) l_is in (
      they_apply old fields c put m there (subst (IsCatalog (length old)) same made.0),
      made.1 ∙ ap (catalog_page (length old)) (same ∙ merged_is old fields c put m),
    )

pub after_refused : (old fields : List ℕ) (c : Catalog) (put : List FileEntry) (n l : ℕ) → Merging old fields c put → n ≡ number_at 8 fields 0 → l ≡ number_at 8 fields 8
    → (IsCatalog (length old) (put_catalog n l (files_after (removed_read fields) put c.entries)) → ⊥) → FilesReadApply old fields → ⊥
after_refused old fields c put n l m n_is l_is none a =
    none (subst (λ (k : ℕ). IsCatalog (length old) (put_catalog k l (files_after (removed_read fields) put c.entries))) (sym n_is)
    (subst (λ (k : ℕ). IsCatalog (length old) (put_catalog (number_at 8 fields 0) k (files_after (removed_read fields) put c.entries))) (sym l_is) (applied_fits old fields c put m a)))
