-- What a contract sees of the logged pages.
use Rattle.std.specs.Prelude.{◌≡◌, ◌≤◌, ℕ, List, length, All, IfSome, nat_eq, Option, Some, None}
use Rattle.std.specs.Map.{lookup}
use Rattle.ex_base.specs.declared.geometry.Geometry.{Geometry}
use Rattle.ex_base.specs.Area.{InPageArea}
use Rattle.ex_base.specs.Limits.{log_pages}
use Rattle.meta_pages.specs.Rows.{IsRising}

-- the images over the pages' homes: those of the committed pages, and those of the working ones, where None stands for a page that was
-- given back; each in rising order
pub record Overlays : Type 0 where
  pub committed : List (ℕ × List ℕ)
  pub working : List (ℕ × Option (List ℕ))
  pub geometry : Geometry

-- The most committed images that there is room for: each has its place in the log.
abbrev pub images_most : ℕ
images_most = log_pages

-- the image of a page, or None where it is what the disk holds
abbrev pub over : Option (Option (List ℕ)) → Option (List ℕ) → Option (List ℕ)
over None committed = committed
over (Some image) committed = image

abbrev pub committed_image : Overlays → ℕ → Option (List ℕ)
committed_image o page = lookup (nat_eq page) o.committed

abbrev pub image_at : Overlays → ℕ → Option (List ℕ)
image_at o page = over (lookup (nat_eq page) o.working) (committed_image o page)

-- how many pages the open transaction touched
abbrev pub touched : Overlays → ℕ
touched o = length o.working

-- each image is one page of the page area
abbrev pub IsPageRow : Geometry → ℕ × List ℕ → Type 0
IsPageRow g row = InPageArea g row.0 × (length row.1 ≡ g.page_size)

abbrev pub IsWorkingRow : Geometry → ℕ × Option (List ℕ) → Type 0
IsWorkingRow g row = InPageArea g row.0 × IfSome row.1 (λ (b : List ℕ). length b ≡ g.page_size)

-- what holds of all logged pages; there is room for the most committed images
pub record AreKept (g : Geometry) (committed : List (ℕ × List ℕ)) (working : List (ℕ × Option (List ℕ))) (capacity : ℕ) : Type 0 where
  pub rising : IsRising committed
  pub working_rising : IsRising working
  pub pages : All (IsPageRow g) committed
  pub working_pages : All (IsWorkingRow g) working
  pub room : images_most ≤ capacity

-- What holds of the rows of logged pages: they rise, and each image is one page of the page area.
pub record AreRows (o : Overlays) : Type 0 where
  pub rising : IsRising o.committed
  pub working_rising : IsRising o.working
  pub pages : All (IsPageRow o.geometry) o.committed
  pub working_pages : All (IsWorkingRow o.geometry) o.working

pub are_rows : {g : Geometry} {committed : List (ℕ × List ℕ)} {working : List (ℕ × Option (List ℕ))} (capacity : ℕ) → AreKept g committed working capacity
    → AreRows (record { committed = committed; working = working; geometry = g })
are_rows capacity kept = record { rising = kept.rising; working_rising = kept.working_rising; pages = kept.pages; working_pages = kept.working_pages }
