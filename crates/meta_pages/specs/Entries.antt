-- The entries of a commit.
use Rattle.std.specs.Prelude.{◌≡◌, ℕ, List, [], ◌∷◌, Option, Some, None, slice_get}
use Rattle.meta_pages.specs.Overlays.{Overlays, committed_image}
use Rattle.page_entries.specs.declared.entry.PageEntry.{PageEntry}
use Rattle.page_entries.specs.EntryOf.{IsEntryOf}

-- the working pages that weren't given back, each with its image
abbrev pub imaged : List (ℕ × Option (List ℕ)) → List (ℕ × List ℕ)
imaged [] = []
imaged ((page, None) ∷ rows) = imaged rows
imaged ((page, Some image) ∷ rows) = (page, image) ∷ imaged rows

-- By the rule the entry is that of the page at an index among those that weren't given back, over the committed images.
pub record IsEntryAt (o : Overlays) (index : ℕ) (entry : PageEntry) : Type 0 where
  pub image : List ℕ
  pub row : slice_get (imaged o.working) index ≡ Some (entry.page.0, image)
  pub is : IsEntryOf entry.page (committed_image o entry.page.0) image entry
