-- What the geometry of a state tells of pages and entries, told of a later state.
use Rattle.std.proofs.Common.{◌≡◌, ◌≤◌, ◌<◌, ◌+◌, ◌*◌, ℕ, sym, subst}
use Rattle.ex_base.specs.declared.ground.Ground as ground
use Rattle.ex_base.specs.declared.geometry.Geometry.{Geometry}
use Rattle.file_index.specs.IndexPage.{most_entries}
use Rattle.file_index.specs.Index.{IsFilesPage}

module _ {S : Type 0} (g : ground.Ghosts S) (a b : S) (leads : g.leads a b) where
  pub page_after : (page : ℕ) → IsFilesPage (g.geometry a) page → IsFilesPage (g.geometry b) page
  page_after page files = subst (λ (y : Geometry). IsFilesPage y page) (sym (g.leads_geometry a b leads)) files

  pub room_after : (n : ℕ) → n ≤ most_entries (g.geometry a).page_size → n ≤ most_entries (g.geometry b).page_size
  room_after n room = subst (λ (y : Geometry). n ≤ most_entries y.page_size) (sym (g.leads_geometry a b leads)) room

  pub size_after : (n : ℕ) → n ≡ (g.geometry a).page_size → n ≡ (g.geometry b).page_size
  size_after n size = subst (λ (y : Geometry). n ≡ y.page_size) (sym (g.leads_geometry a b leads)) size

  pub one_more_after : (n : ℕ) → n ≤ most_entries (g.geometry a).page_size + 1 → n ≤ most_entries (g.geometry b).page_size + 1
  one_more_after n room = subst (λ (y : Geometry). n ≤ most_entries y.page_size + 1) (sym (g.leads_geometry a b leads)) room

  pub two_pages_after : (n : ℕ) → n ≤ 2 * most_entries (g.geometry a).page_size → n ≤ 2 * most_entries (g.geometry b).page_size
  two_pages_after n room = subst (λ (y : Geometry). n ≤ 2 * most_entries y.page_size) (sym (g.leads_geometry a b leads)) room

  pub more_entries_after : (n : ℕ) → most_entries (g.geometry a).page_size < n → most_entries (g.geometry b).page_size < n
  more_entries_after n more = subst (λ (y : Geometry). most_entries y.page_size < n) (sym (g.leads_geometry a b leads)) more
