-- An index above level 0, opened.
use Rattle.std.proofs.Common.{◌≡◌, ◌≢◌, ◌-◌, ℕ, zero, suc, List, [], ◌∷◌, ◌++◌, Option, Some, refl, ap, ◌∙◌, sub-one}
use Rattle.std.specs.List.{flat_map, AllByRecursion}
use Rattle.ex_base.specs.declared.geometry.Geometry.{Geometry}
use Rattle.file_index.specs.declared.Entry.{Entry}
use Rattle.file_index.specs.IndexPage.{entries_on}
use Rattle.file_index.specs.Index.{IsFilesPage, IsNamed, HasLeast, IsUnder, keys_under}

-- the list begins with this number
pub record Begins (key : ℕ) (keys : List ℕ) : Type 0 where
  pub rest : List ℕ
  pub is : keys ≡ key ∷ rest

pub each_map : {P Q : Entry → Type 0} (entries : List Entry) → ((entry : Entry) → P entry → Q entry) → AllByRecursion P entries → AllByRecursion Q entries
each_map [] f h = tt
each_map (entry ∷ entries) f h = (f entry h.0, each_map entries f h.1)

begins_all : (K : Entry → List ℕ) (key : ℕ) (entries : List Entry) → HasLeast (Some key) entries → AllByRecursion (λ (e : Entry). Begins e.key (K e)) entries → Begins key (flat_map K entries)
begins_all K key [] least each = absurd least
begins_all K key (entry ∷ entries) least each = record {
  rest = each.0.rest ++ flat_map K entries;
  is = ap (λ (xs : List ℕ). xs ++ flat_map K entries) each.0.is ∙ ap (λ (k : ℕ). k ∷ (each.0.rest ++ flat_map K entries)) least;
}

module _ (g : Geometry) (file_no : ℕ) (image : ℕ → List ℕ) where
  -- an index begins with the key that names it
  pub begins : (level key page : ℕ) → IsUnder g file_no image level (Some key) page → Begins key (keys_under image level page)
  begins zero key page h = record { rest = []; is = ap (λ (k : ℕ). k ∷ []) h.1 }
  begins (suc level) key page h =
      begins_all (λ (e : Entry). keys_under image level e.page.0) key (entries_on (image page)) h.1.least_is
      (each_map (entries_on (image page)) (λ (e : Entry) under. begins level e.key e.page.0 under) h.2)

  -- what stands under a page above level 0
  pub record Opened (level : ℕ) (least : Option ℕ) (page : ℕ) : Type 0 where
    pub files : IsFilesPage g page
    pub named : IsNamed g.page_size (image page) level file_no least
    pub each : AllByRecursion (λ (e : Entry). IsUnder g file_no image (level - 1) (Some e.key) e.page.0) (entries_on (image page))
    pub keys : keys_under image level page ≡ flat_map (λ (e : Entry). keys_under image (level - 1) e.page.0) (entries_on (image page))

  pub under_open : (level : ℕ) (least : Option ℕ) (page : ℕ) → level ≢ 0 → IsUnder g file_no image level least page → Opened level least page
  under_open zero least page nonzero h = absurd (nonzero refl)
  under_open (suc level) least page nonzero h = record {
    files = h.0;
    named = h.1;
    each = rw sub-one h.2;
    keys = rw sub-one refl;
  }
