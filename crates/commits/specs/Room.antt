-- What a session keeps of its log, its overlay and its frames.
use Rattle.std.specs.Prelude.{◌≡◌, ◌≤◌, ◌<◌, ℕ, ◌+◌, ◌*◌, List, length, Some, nat_eq}
use Rattle.std.specs.Map.{lookup}
use Rattle.ex_base.specs.Area.{catalog_no}
use Rattle.buffer_groups.specs.Frames.{Frames}
use Rattle.meta_pages.specs.Homes.{AreFrom}
use Rattle.meta_pages.specs.Overlays.{Overlays}
use Rattle.op_log.specs.State.{LogState}
use Rattle.volume_model.specs.Shown.{WorkingRow}

-- Each committed image has its place in the log: it takes there a page and the four bytes of its number. A log in which no record counts ends
-- where it begins.
pub record IsLogged (log : LogState) (meta : Overlays) : Type 0 where
  pub images : length meta.committed * (meta.geometry.page_size + 4) ≤ log.end
  pub none : log.count ≡ 0 → log.end ≡ 0

-- The transaction has an image of the catalog's page.
abbrev pub HasCatalog : List WorkingRow → Type 0
HasCatalog rows = (image : List ℕ) × (lookup (nat_eq catalog_no) rows ≡ Some (Some image))

-- No frame is of a page of the log.
abbrev pub AreBehindLog : List Frames → Type 0
AreBehindLog groups = AreFrom catalog_no groups

-- the bytes before the catalog's page: the superblock and the log
abbrev pub BeforeCatalog : ℕ → ℕ → Type 0
BeforeCatalog size i = i < catalog_no * size
