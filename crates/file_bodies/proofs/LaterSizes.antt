-- What the geometry of a state tells of sizes and pages, told of a later state or an earlier one.
use Rattle.std.proofs.Common.{◌≡◌, ◌≤◌, ◌∙◌, ℕ, sym, ap, subst}
use Rattle.ex_base.specs.declared.ground.Ground as ground
use Rattle.ex_base.specs.declared.geometry.Geometry.{Geometry}
use Rattle.file_index.specs.Index.{IsFilesPage}

module _ {S : Type 0} (g : ground.Ghosts S) (a b : S) (leads : g.leads a b) where
  -- so many bytes are a page
  pub size_after : (n : ℕ) → n ≡ (g.geometry a).page_size → n ≡ (g.geometry b).page_size
  size_after n is = is ∙ ap (λ (y : Geometry). y.page_size) (sym (g.leads_geometry a b leads))

  pub size_before : (n : ℕ) → n ≡ (g.geometry b).page_size → n ≡ (g.geometry a).page_size
  size_before n is = is ∙ ap (λ (y : Geometry). y.page_size) (g.leads_geometry a b leads)

  -- so many bytes fit a page
  pub fits_after : (n : ℕ) → n ≤ (g.geometry a).page_size → n ≤ (g.geometry b).page_size
  fits_after n fits = subst (λ (y : Geometry). n ≤ y.page_size) (sym (g.leads_geometry a b leads)) fits

  pub lies_before : (page : ℕ) → IsFilesPage (g.geometry b) page → IsFilesPage (g.geometry a) page
  lies_before page files = subst (λ (y : Geometry). IsFilesPage y page) (g.leads_geometry a b leads) files
