-- Where a commit and a checkpoint write.
use Rattle.std.specs.Prelude.{◌≤◌, ◌⊎◌, ℕ, List}
use Rattle.meta_pages.specs.Homes.{InHomes}
use Rattle.commits.specs.Room.{BeforeCatalog}

-- the bytes of the log, behind the superblock's page and before the catalog's
abbrev pub InLog : ℕ → ℕ → Type 0
InLog size i = (size ≤ i) × BeforeCatalog size i

-- the log, and the homes of the pages that have these images
abbrev pub InLogOrHomes : ℕ → List (ℕ × List ℕ) → ℕ → Type 0
InLogOrHomes size rows i = InLog size i ⊎ InHomes size rows i
