-- What an index is at level 0 and above.
use Rattle.std.proofs.Common.{◌≡◌, ◌≢◌, ◌≤◌, ◌+◌, ◌-◌, ℕ, zero, suc, List, [], ◌∷◌, Option, Some, refl, arith, sub-one, true, Bool}
use Rattle.std.specs.List.{AllByRecursion}
use Rattle.ex_base.specs.declared.geometry.Geometry.{Geometry}
use Rattle.ex_base.specs.Ports.{times}
use Rattle.ex_base.proofs.Rows.{each-append}
use Rattle.ex_base.proofs.Counts.{times_here}
use Rattle.file_index.specs.declared.Entry.{Entry}
use Rattle.file_index.specs.IndexPage.{entries_on}
use Rattle.file_index.specs.Edits.{keys_among, pages_among}
use Rattle.file_index.specs.Index.{IsFilesPage, IsNamed, HasKey, IsUnder, keys_under, pages_under}
use Rattle.file_index.proofs.Counts.{count_is}
use Rattle.file_index.specs.declared.named.Named.{Named}
use Rattle.file_walk.specs.Indexes.{IsFreeIndex}

module _ (g : Geometry) (file_no : ℕ) (images : ℕ → List ℕ) where
  -- the entry names an index of a level
  abbrev pub IsChild : ℕ → Entry → Type 0
  IsChild level entry = IsUnder g file_no images level (Some entry.key) entry.page.0

  pub record AtLeaf (level page : ℕ) : Type 0 where
    pub keys : keys_under images level page ≡ page ∷ []
    pub pages : pages_under images level page ≡ []
    pub closed : (least : Option ℕ) → IsFilesPage g page → HasKey least page → IsUnder g file_no images level least page
    pub opened : (least : Option ℕ) → IsUnder g file_no images level least page → HasKey least page

  pub at_leaf : (level page : ℕ) → level ≡ 0 → AtLeaf level page
  at_leaf zero page e = record { keys = refl; pages = refl; closed = λ least files key. (files, key); opened = λ least h. h.1 }
  at_leaf (suc m) page e = absurd (omega (arith, e))

  pub record AboveLeaf (level page : ℕ) : Type 0 where
    pub keys : keys_under images level page ≡ keys_among images (level - 1) (entries_on (images page))
    pub pages : pages_under images level page ≡ page ∷ pages_among images (level - 1) (entries_on (images page))
    pub closed : (least : Option ℕ) → IsFilesPage g page → IsNamed g.page_size (images page) level file_no least → AllByRecursion (IsChild (level - 1)) (entries_on (images page)) → IsUnder g file_no images level least page
    pub named : (least : Option ℕ) → IsUnder g file_no images level least page → IsNamed g.page_size (images page) level file_no least
    pub each : (least : Option ℕ) → IsUnder g file_no images level least page → AllByRecursion (IsChild (level - 1)) (entries_on (images page))

  pub above_leaf : (level page : ℕ) → level ≢ 0 → AboveLeaf level page
  above_leaf zero page nonzero = absurd (nonzero refl)
  above_leaf (suc m) page nonzero = record {
    keys = rw sub-one refl;
    pages = rw sub-one refl;
    closed = λ least files named each. (files, named, rw sub-one at each);
    named = λ least h. h.1;
    each = λ least h. rw sub-one h.2;
  }

  pub under_files : (level : ℕ) (least : Option ℕ) (page : ℕ) → IsUnder g file_no images level least page → IsFilesPage g page
  under_files zero least page h = h.0
  under_files (suc m) least page h = h.0

  -- all pages of an index may be a file's
  abbrev AllMay : ℕ → ℕ → Type 0
  AllMay level page = AllByRecursion (IsFilesPage g) (keys_under images level page) × AllByRecursion (IsFilesPage g) (pages_under images level page)

  row_may : (level : ℕ) → ((least : Option ℕ) (page : ℕ) → IsUnder g file_no images level least page → AllMay level page) → (entries : List Entry) → AllByRecursion (IsChild level) entries
      → AllByRecursion (IsFilesPage g) (keys_among images level entries) × AllByRecursion (IsFilesPage g) (pages_among images level entries)
  row_may level one [] each = (tt, tt)
  row_may level one (e ∷ entries) each =
      let here = one (Some e.key) e.page.0 each.0 in
      let rest = row_may level one entries each.1 in (
        each-append (IsFilesPage g) (keys_under images level e.page.0) (keys_among images level entries) here.0 rest.0,
        each-append (IsFilesPage g) (pages_under images level e.page.0) (pages_among images level entries) here.1 rest.1,
      )

  pub under_may : (level : ℕ) (least : Option ℕ) (page : ℕ) → IsUnder g file_no images level least page → AllMay level page
  under_may zero least page h = ((h.0, tt), tt)
  under_may (suc m) least page h = let row = row_may m (under_may m) (entries_on (images page)) h.2 in (row.0, (h.0, row.1))

-- an index names its own root
own_once : (images : ℕ → List ℕ) (level page : ℕ) → 1 ≤ times page (keys_under images level page) + times page (pages_under images level page)
own_once images zero page = omega (arith, times_here page page [] refl)
own_once images (suc m) page = omega (arith, times_here page page (pages_among images m (entries_on (images page))) refl)

-- what names a page that is in use, or can be no file's, is no free index
pub refused : (g : Geometry) (images : ℕ → List ℕ) (used : ℕ → Bool) (named : Named) → (IsFilesPage g named.page.0 → used named.page.0 ≡ true) → IsFreeIndex g images used named → ⊥
refused g images used named in_use free =
    let here : used named.page.0 ≡ true = in_use (under_files g named.file_no images named.level named.least named.page.0 free.whole) in
    absurd (omega (arith, own_once images named.level named.page.0, free.once named.page.0, count_is (used named.page.0) here))
