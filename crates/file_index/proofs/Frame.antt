-- An index whose pages keep their images stays as it is.
use Rattle.std.proofs.Common.{◌≡◌, ◌≤◌, ℕ, zero, suc, List, [], ◌∷◌, ◌++◌, Option, Some, refl, sym, ap, subst, ◌∙◌, arith}
use Rattle.std.specs.List.{AllByRecursion}
use Rattle.ex_base.specs.declared.geometry.Geometry.{Geometry}
use Rattle.ex_base.specs.Ports.{times}
use Rattle.ex_base.proofs.Counts.{times-append, times_here}
use Rattle.file_index.specs.declared.Entry.{Entry}
use Rattle.file_index.specs.IndexPage.{entries_on}
use Rattle.file_index.specs.Index.{IsNamed, IsUnder, keys_under, pages_under}
use Rattle.file_index.specs.Edits.{keys_among, pages_among}

module _ (g : Geometry) (file_no : ℕ) (i j : ℕ → List ℕ) where
  pub record SameUnder (level page : ℕ) : Type 0 where
    pub keys : keys_under j level page ≡ keys_under i level page
    pub pages : pages_under j level page ≡ pages_under i level page
    pub under : (least : Option ℕ) → IsUnder g file_no i level least page → IsUnder g file_no j level least page

  pub record SameRow (level : ℕ) (entries : List Entry) : Type 0 where
    pub keys : keys_among j level entries ≡ keys_among i level entries
    pub pages : pages_among j level entries ≡ pages_among i level entries
    pub under : AllByRecursion (λ (e : Entry). IsUnder g file_no i level (Some e.key) e.page.0) entries → AllByRecursion (λ (e : Entry). IsUnder g file_no j level (Some e.key) e.page.0) entries

  row_of : (level : ℕ) → ((page : ℕ) → ((p : ℕ) → 1 ≤ times p (pages_under i level page) → j p ≡ i p) → SameUnder level page)
      → (entries : List Entry) → ((p : ℕ) → 1 ≤ times p (pages_among i level entries) → j p ≡ i p) → SameRow level entries
  row_of level one [] same = record { keys = refl; pages = refl; under = λ h. tt }
  row_of level one (e ∷ entries) same =
      let here = one e.page.0 (λ p c. same p (omega (arith, times-append p (pages_under i level e.page.0) (pages_among i level entries)))) in
      let rest = row_of level one entries (λ p c. same p (omega (arith, times-append p (pages_under i level e.page.0) (pages_among i level entries)))) in
      record {
        keys = ap (λ (t : List ℕ). t ++ keys_among j level entries) here.keys ∙ ap (λ (t : List ℕ). keys_under i level e.page.0 ++ t) rest.keys;
        pages = ap (λ (t : List ℕ). t ++ pages_among j level entries) here.pages ∙ ap (λ (t : List ℕ). pages_under i level e.page.0 ++ t) rest.pages;
        under = λ h. (here.under (Some e.key) h.0, rest.under h.1);
      }

  pub same_under : (level page : ℕ) → ((p : ℕ) → 1 ≤ times p (pages_under i level page) → j p ≡ i p) → SameUnder level page
  same_under zero page same = record { keys = refl; pages = refl; under = λ least h. h }
  same_under (suc level) page same =
      let e : j page ≡ i page = same page (omega (arith, times_here page page (pages_among i level (entries_on (i page))) refl)) in
      let row = row_of level (same_under level) (entries_on (i page)) (λ p c. same p (omega (arith, c))) in
      record {
        keys = ap (λ (t : List ℕ). keys_among j level (entries_on t)) e ∙ row.keys;
        pages = ap (λ (t : List ℕ). page ∷ pages_among j level (entries_on t)) e ∙ ap (λ (t : List ℕ). page ∷ t) row.pages;
        under = λ least h. (
          h.0,
          subst (λ (t : List ℕ). IsNamed g.page_size t (suc level) file_no least) (sym e) h.1,
          subst (λ (t : List ℕ). AllByRecursion (λ (x : Entry). IsUnder g file_no j level (Some x.key) x.page.0) (entries_on t)) (sym e) (row.under h.2),
        );
      }

  pub same_row : (level : ℕ) (entries : List Entry) → ((p : ℕ) → 1 ≤ times p (pages_among i level entries) → j p ≡ i p) → SameRow level entries
  same_row level entries same = row_of level (same_under level) entries same
