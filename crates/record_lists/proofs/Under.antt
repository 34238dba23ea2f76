-- What stands under an index page, entry by entry.
use Rattle.std.proofs.Common.{◌≡◌, ◌≢◌, ◌-◌, ℕ, zero, suc, List, [], ◌∷◌, ◌++◌, Some, refl, ap, subst, ◌∙◌, arith, sub-one}
use Rattle.std.specs.List.{AllByRecursion, flat_map}
use Rattle.std.proofs.lemmas.List.{append-nil}
use Rattle.std.proofs.lemmas.List.Concat.{flat_map-append}
use Rattle.ex_base.specs.declared.geometry.Geometry.{Geometry}
use Rattle.file_index.specs.declared.Entry.{Entry}
use Rattle.file_index.specs.declared.named.Named.{Named}
use Rattle.file_index.specs.IndexPage.{entries_on}
use Rattle.file_index.specs.Index.{IsFilesPage, IsUnder, keys_under}
use Rattle.file_index.proofs.Under.{under_open}
use Rattle.file_bodies.specs.Bodies.{Row, bodies_on}
use Rattle.file_bodies.specs.Files.{IsPageOf}
use Rattle.versions.specs.Listed.{AreReadable}
use Rattle.record_lists.specs.Under.{IsReadable, rows_under}
use Rattle.record_lists.proofs.Rows.{IsReadableRow, each_back, each_front}

-- what an entry names
abbrev pub child_of : Named → Entry → Named
child_of named e = record { page = e.page; level = named.level - 1; least = Some e.key; file_no = named.file_no }

-- the bodies under these entries, which name a level
abbrev pub rows_among : (ℕ → List ℕ) → ℕ → List Entry → List Row
rows_among image level [] = []
rows_among image level (e ∷ entries) = rows_under image level e.page.0 ++ rows_among image level entries

rows_split : (image : ℕ → List ℕ) (level : ℕ) (entries : List Entry) → flat_map (bodies_on image) (flat_map (λ (e : Entry). keys_under image level e.page.0) entries) ≡ rows_among image level entries
rows_split image level [] = refl
rows_split image level (e ∷ entries) =
    flat_map-append (bodies_on image) (keys_under image level e.page.0) (flat_map (λ (x : Entry). keys_under image level x.page.0) entries)
    ∙ ap (λ (t : List Row). rows_under image level e.page.0 ++ t) (rows_split image level entries)

-- at level 0 those of the page itself, and above those under its entries
pub rows_here : (image : ℕ → List ℕ) (level page : ℕ) → level ≡ 0 → rows_under image level page ≡ bodies_on image page
rows_here image zero page e = append-nil (bodies_on image page)
rows_here image (suc level) page e = absurd (omega (arith, e))

pub rows_above : (image : ℕ → List ℕ) (level page : ℕ) → level ≢ 0 → rows_under image level page ≡ rows_among image (level - 1) (entries_on (image page))
rows_above image zero page nonzero = absurd (nonzero refl)
rows_above image (suc level) page nonzero = rw sub-one (rows_split image level (entries_on (image page)))

-- A page of the file, with records alone.
pub record IsReadablePage (g : Geometry) (image : ℕ → List ℕ) (file_no page : ℕ) : Type 0 where
  pub files : IsFilesPage g page
  pub of : IsPageOf file_no (image page)
  pub records : AreReadable (bodies_on image page)

module _ (g : Geometry) (image : ℕ → List ℕ) (named : Named) where
  page_at : (level : ℕ) → level ≡ 0 → IsUnder g named.file_no image level named.least named.page.0 → AllByRecursion (λ (page : ℕ). IsPageOf named.file_no (image page)) (keys_under image level named.page.0)
      → AreReadable (rows_under image level named.page.0) → IsReadablePage g image named.file_no named.page.0
  page_at zero e under pages records = record { files = under.0; of = pages.0; records = subst AreReadable (rows_here image 0 named.page.0 refl) records }
  page_at (suc level) e under pages records = absurd (omega (arith, e))

  pub readable_page : named.level ≡ 0 → IsReadable g image named → IsReadablePage g image named.file_no named.page.0
  readable_page level r = page_at named.level level r.index r.pages r.records

  -- each of some entries leads to pages of the file with records alone
  abbrev pub AreReadableEntries : List Entry → Type 0
  AreReadableEntries entries = AllByRecursion (λ (e : Entry). IsReadable g image (child_of named e)) entries

  entries_at : (entries : List Entry) → AllByRecursion (λ (e : Entry). IsUnder g named.file_no image (named.level - 1) (Some e.key) e.page.0) entries
      → AllByRecursion (λ (page : ℕ). IsPageOf named.file_no (image page)) (flat_map (λ (e : Entry). keys_under image (named.level - 1) e.page.0) entries)
      → AreReadable (rows_among image (named.level - 1) entries) → AreReadableEntries entries
  entries_at [] under pages records = tt
  entries_at (e ∷ entries) under pages records =
      let IsOf : ℕ → Type 0 = λ page. IsPageOf named.file_no (image page) in
      let keys = keys_under image (named.level - 1) e.page.0 in
      let more = flat_map (λ (x : Entry). keys_under image (named.level - 1) x.page.0) entries in (
        record {
          index = under.0;
          pages = each_front IsOf keys more pages;
          records = each_front IsReadableRow (rows_under image (named.level - 1) e.page.0) (rows_among image (named.level - 1) entries) records;
        },
        entries_at entries under.1 (each_back IsOf keys more pages) (each_back IsReadableRow (rows_under image (named.level - 1) e.page.0) (rows_among image (named.level - 1) entries) records),
      )

  pub readable_entries : named.level ≢ 0 → IsReadable g image named → AreReadableEntries (entries_on (image named.page.0))
  readable_entries nonzero r =
      let o = under_open g named.file_no image named.level named.least named.page.0 nonzero r.index in
      entries_at (entries_on (image named.page.0)) o.each (subst (AllByRecursion (λ (page : ℕ). IsPageOf named.file_no (image page))) o.keys r.pages)
      (subst AreReadable (rows_above image named.level named.page.0 nonzero) r.records)
