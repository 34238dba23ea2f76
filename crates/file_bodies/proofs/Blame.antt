-- Which fault tells what is read of a page of a file, and such faults over calls that keep the pages.
use Rattle.std.proofs.Common.{◌≡◌, ◌≢◌, ◌≤◌, ◌⊎◌, inl, inr, ◌+◌, ℕ, Bool, false, List, Option, Some, None, refl, sym, subst, ◌∙◌, arith}
use Rattle.ex_base.specs.declared.faults.Seen.{Seen}
use Rattle.ex_base.specs.declared.faults.PortFault.{PortFault}
use Rattle.ex_base.specs.declared.faults.PortFault.TheVariants.{Damaged}
use Rattle.ex_base.specs.declared.geometry.Geometry.{Geometry}
use Rattle.ex_base.specs.declared.ground.Ground as ground
use Rattle.ex_base.specs.declared.names.PageNo.{PageNo}
use Rattle.ex_base.specs.declared.names.Place.{Place}
use Rattle.ex_base.specs.Area.{catalog_no}
use Rattle.ex_base.specs.Ports.{Keeps}
use Rattle.slotted_pages.specs.Reads.{page_on, IsPage}
use Rattle.ex_base.specs.declared.names.Index.{Index}
use Rattle.file_index.specs.Index.{IsFilesPage}
use Rattle.ex_base.specs.Seen.{file_page_seen, nothing_seen, record_seen, catalog_seen}
use Rattle.file_index.specs.Damage.{every_page, HasWay, IsIndexFault, found_in}
use Rattle.object_files.specs.Edits.{IsCatalogPage, entries_on}
use Rattle.file_bodies.specs.Files.{index_at, IsPageOf, index_in}
use Rattle.file_bodies.specs.Damage.{misplaced, not_held, misspelled, foreign, on_the_way, lost_way, found_page, ends, here, goes_on, HasRecords, HasRecordAt, IsFilePageFault, IsPlaceFault, ListsFile, IsBelonging, IsBelongingFault, IsLook, IsLookFault, IsFileFault}
use Rattle.ex_base.proofs.Options.{some_apart}

-- ---- one page

pub blames_page : (g : Geometry) (held : ℕ → Bool) (bytes : List ℕ) (file_no : ℕ) (page : PageNo) (fault : PortFault) → IsFilesPage g page.0 → (HasRecords bytes → ⊥) → fault ≡ Damaged page (file_page_seen file_no) nothing_seen → IsFilePageFault g held bytes file_no page.0 fault
blames_page g held bytes file_no page fault area never is = subst (IsFilePageFault g held bytes file_no page.0) (sym is) (refl, refl, misspelled area never refl)

pub blames_lacking : (g : Geometry) (held : ℕ → Bool) (bytes : List ℕ) (file_no : ℕ) (page : PageNo) (fault : PortFault) → (IsFilesPage g page.0 → ⊥) ⊎ (IsFilesPage g page.0 × (held page.0 ≡ false))
    → fault ≡ Damaged page (file_page_seen file_no) nothing_seen → IsFilePageFault g held bytes file_no page.0 fault
blames_lacking g held bytes file_no page fault (inl never) is = subst (IsFilePageFault g held bytes file_no page.0) (sym is) (refl, refl, misplaced never refl)
blames_lacking g held bytes file_no page fault (inr lacks) is = subst (IsFilePageFault g held bytes file_no page.0) (sym is) (refl, refl, not_held lacks.0 lacks.1 refl)

pub blames_foreign : (g : Geometry) (held : ℕ → Bool) (bytes : List ℕ) (file_no : ℕ) (page : PageNo) (want got : Seen) → IsFilesPage g page.0 → HasRecords bytes → (page_on bytes).file_no ≢ file_no → want ≡ file_page_seen file_no → got ≡ file_page_seen (page_on bytes).file_no
    → IsFilePageFault g held bytes file_no page.0 (Damaged page want got)
blames_foreign g held bytes file_no page want got area has differ want_is got_is = (refl, want_is, foreign area has differ got_is)

pub blames_place : (g : Geometry) (held : ℕ → Bool) (bytes : List ℕ) (place : Place) (fault : PortFault) → (HasRecordAt g held bytes place → ⊥) → fault ≡ Damaged place.page (record_seen place.slot) nothing_seen → IsPlaceFault g held bytes place fault
blames_place g held bytes place fault never is = subst (IsPlaceFault g held bytes place) (sym is) (refl, refl, refl, never)

pub blames_lists : (bytes : List ℕ) (file_no : ℕ) (fault : PortFault) → (IsCatalogPage bytes → index_in file_no (entries_on bytes) ≡ None)
    → fault ≡ Damaged (record { 0 = catalog_no }) catalog_seen nothing_seen → IsFileFault bytes file_no fault
blames_lists bytes file_no fault none is =
    subst (IsFileFault bytes file_no) (sym is) (refl, refl, refl, λ index lists. some_apart index (sym lists.entry ∙ none lists.whole))

-- ---- what a later state that keeps the pages tells

pub carried : {S : Type 0} (g : ground.Ghosts S) (a b : S) (P : Geometry → (ℕ → List ℕ) → Type 0) → Keeps g a b → (g.tells b → P (g.geometry b) (g.image b)) → g.tells a → P (g.geometry a) (g.image a)
carried g a b P kept h told =
    subst (λ (u : ℕ → List ℕ). P (g.geometry a) u) kept.images (subst (λ (y : Geometry). P y (g.image b)) (g.leads_geometry a b kept.leads) (h (g.leads_told a b kept.leads told)))

pub carried_held : {S : Type 0} (g : ground.Ghosts S) (a b : S) (P : Geometry → (ℕ → Bool) → (ℕ → List ℕ) → Type 0) → Keeps g a b → (g.tells b → P (g.geometry b) (g.held b) (g.image b)) → g.tells a → P (g.geometry a) (g.held a) (g.image a)
carried_held g a b P kept h told =
    subst (λ (k : ℕ → Bool). P (g.geometry a) k (g.image a)) kept.held (carried g a b (λ y u. P y (g.held b) u) kept h told)

-- ---- a look at the pages of a file

pub moved_on : {S : Type 0} (g : ground.Ghosts S) (a b : S) (index : Index) (key : ℕ) (end : Option PageNo) → Keeps g a b → IsLook (g.geometry a) (g.image a) index key end → IsLook (g.geometry b) (g.image b) index key end
moved_on g a b index key end kept h =
    subst (λ (u : ℕ → List ℕ). IsLook (g.geometry b) u index key end) (sym kept.images) (subst (λ (y : Geometry). IsLook y (g.image a) index key end) (sym (g.leads_geometry a b kept.leads)) h)

pub look_from : (g : Geometry) (held : ℕ → Bool) (image : ℕ → List ℕ) (index : Index) (from key : ℕ) (fault : PortFault) → from ≤ key → IsLookFault g held image index key fault → IsLookFault g held image index from fault
look_from g held image index from key fault le (lost_way k low h) = lost_way k (omega (arith, low, le)) h
look_from g held image index from key fault le (found_page k p low way found h) = found_page k p (omega (arith, low, le)) way found h

module _ {S : Type 0} (g : ground.Ghosts S) (a b : S) (index : Index) (key : ℕ) (o : Option PageNo) (kept : Keeps g a b) (way : g.tells a → HasWay (g.geometry a) (g.image a) index key) (found : g.tells a → o ≡ found_in (g.image a) index key) where
  pub look_ends : o ≡ None → g.tells a → IsLook (g.geometry a) (g.image a) index key None
  look_ends none told = ends key (way told) (sym (found told) ∙ none)

  module _ (page : PageNo) (some : o ≡ Some page) where
    lies : IsFilesPage (g.geometry b) page.0 → IsFilesPage (g.geometry a) page.0
    lies area = subst (λ (y : Geometry). IsFilesPage y page.0) (g.leads_geometry a b kept.leads) area

    pub look_here : IsFilesPage (g.geometry b) page.0 → (g.tells b → IsPageOf index.file_no (g.image b page.0)) → g.tells a → IsLook (g.geometry a) (g.image a) index key (Some page)
    look_here area of told = here key page (way told) (sym (found told) ∙ some) (lies area) (carried g a b (λ y u. IsPageOf index.file_no (u page.0)) kept of told)

    pub look_on : IsFilesPage (g.geometry b) page.0 → (g.tells b → IsPageOf index.file_no (g.image b page.0)) → (end : Option PageNo) → IsLook (g.geometry a) (g.image a) index (page.0 + 1) end → g.tells a → IsLook (g.geometry a) (g.image a) index key end
    look_on area of end rest told = goes_on key page end (way told) (sym (found told) ∙ some) (lies area) (carried g a b (λ y u. IsPageOf index.file_no (u page.0)) kept of told) rest

    pub look_blames : (held : ℕ → Bool) (fault : PortFault) → (g.tells b → IsFilePageFault (g.geometry b) held (g.image b page.0) index.file_no page.0 fault) → g.tells a → IsLookFault (g.geometry a) held (g.image a) index key fault
    look_blames held fault h told = found_page key page (omega arith) (way told) (sym (found told) ∙ some) (carried g a b (λ y u. IsFilePageFault y held (u page.0) index.file_no page.0 fault) kept h told)

-- ---- the file of a page

pub belonging_fault : {S : Type 0} (g : ground.Ghosts S) (a b c : S) (page file_no : ℕ) (index : Index) (o : Option Index) (fault : PortFault) → Keeps g a b → Keeps g b c → (g.tells a → (page_on (g.image a page)).file_no ≡ file_no)
    → o ≡ Some index → (g.tells b → o ≡ index_at (g.image b) file_no) → (g.tells b → IsCatalogPage (g.image b catalog_no)) → (g.tells c → IsIndexFault (g.geometry c) every_page (g.image c) index page fault) → g.tells a → IsPage (g.image a page) → IsBelongingFault (g.geometry a) (g.image a) page fault
belonging_fault g a b c page file_no index o fault kept then_kept of some found whole h told spelled =
    let lists : ListsFile (g.image a catalog_no) file_no index =
    carried g a b (λ y u. ListsFile (u catalog_no) file_no index) kept (λ t. record { whole = whole t; entry = sym (found t) ∙ some }) told in
    on_the_way index spelled (subst (λ (n : ℕ). ListsFile (g.image a catalog_no) n index) (sym (of told)) lists)
    (carried g a b (λ y u. IsIndexFault y every_page u index page fault) kept (carried g b c (λ y u. IsIndexFault y every_page u index page fault) then_kept h) told)

-- the way to a page that is named, and the file that the catalog lacks
pub belonging_way : {S : Type 0} (g : ground.Ghosts S) (a b c : S) (page file_no : ℕ) (index : Index) (o : Option Index) → Keeps g a b → Keeps g b c
    → (g.tells a → (page_on (g.image a page)).file_no ≡ file_no)
    → o ≡ Some index → (g.tells b → o ≡ index_at (g.image b) file_no) → (g.tells b → IsCatalogPage (g.image b catalog_no))
    → (g.tells c → HasWay (g.geometry c) (g.image c) index page) → g.tells a → IsBelonging (g.geometry a) (g.image a) page
belonging_way g a b c page file_no index o kept then_kept of some found whole way told = λ area spelled.
    let at : index_at (g.image a) file_no ≡ Some index = carried g a b (λ y u. index_at u file_no ≡ Some index) kept (λ t. sym (found t) ∙ some) told in
    let here : HasWay (g.geometry a) (g.image a) index page = carried g a b (λ y u. HasWay y u index page) kept
    (carried g b c (λ y u. HasWay y u index page) then_kept way) told in (
      carried g a b (λ y u. IsCatalogPage (u catalog_no)) kept whole told,
      λ other lists.
          let e : Some index ≡ Some other = sym at ∙ subst (λ (n : ℕ). index_at (g.image a) n ≡ Some other) (of told) lists.entry in
          let same : index ≡ other = cc in
          subst (λ (i : Index). HasWay (g.geometry a) (g.image a) i page) same here,
    )

pub belonging_lacks : {S : Type 0} (g : ground.Ghosts S) (a b : S) (page file_no : ℕ) (o : Option Index) → Keeps g a b
    → (g.tells a → (page_on (g.image a page)).file_no ≡ file_no)
    → o ≡ None → (g.tells b → o ≡ index_at (g.image b) file_no) → (g.tells b → IsCatalogPage (g.image b catalog_no)) → g.tells a
    → IsBelonging (g.geometry a) (g.image a) page
belonging_lacks g a b page file_no o kept of none found whole told = λ area spelled.
    let at : index_at (g.image a) file_no ≡ None = carried g a b (λ y u. index_at u file_no ≡ None) kept (λ t. sym (found t) ∙ none) told in (
      carried g a b (λ y u. IsCatalogPage (u catalog_no)) kept whole told,
      λ other lists.
          absurd (let e : None ≡ Some other = sym at ∙ subst (λ (n : ℕ). index_at (g.image a) n ≡ Some other) (of told) lists.entry in cc),
    )
