-- Which page numbers name what, and their bytes on a disk.
use Rattle.std.specs.Prelude.{◌≡◌, ◌⊎◌, ℕ, ◌+◌, ◌*◌, ◌<◌, ◌≤◌, List}
use Rattle.ex_base.specs.declared.geometry.Geometry.{Geometry}
use Rattle.ex_base.specs.declared.names.Area.{Area}
use Rattle.ex_base.specs.declared.names.Area.TheVariants.{Page, Segment}
use Rattle.ex_base.specs.Bytes.{part}
use Rattle.ex_base.specs.Limits.{log_pages}
use Rattle.ex_base.specs.Sizes.{leaf_bytes}

-- the number of the catalog page
abbrev pub catalog_no : ℕ
catalog_no = 257

-- the page behind the page area, where the segment area begins
abbrev pub area_end : Geometry → ℕ
area_end g = 257 + g.pages

abbrev pub InPageArea : Geometry → ℕ → Type 0
InPageArea g page = (257 ≤ page) × (page < area_end g)

-- the first page of a unit of the segment area
abbrev pub NamesLeaf : Geometry → ℕ → Type 0
NamesLeaf g page = (j : ℕ) × (j < g.segs) × (page ≡ area_end g + j * g.seg_len)

-- the page names a unit of this area
abbrev pub InArea : Geometry → Area → ℕ → Type 0
InArea g Page page = InPageArea g page
InArea g Segment page = NamesLeaf g page

-- a page of the page area, or the first page of a segment unit
abbrev pub IsUnit : Geometry → ℕ → Type 0
IsUnit g page = InPageArea g page ⊎ NamesLeaf g page

-- the number that names the i-th unit of an area
abbrev pub unit_at : Geometry → Area → ℕ → ℕ
unit_at g Page i = 257 + i
unit_at g Segment i = area_end g + i * g.seg_len

-- the bytes at a page's home on a disk
abbrev pub page_at : Geometry → List ℕ → ℕ → List ℕ
page_at g disk page = part disk (page * g.page_size) g.page_size

-- the bytes of the leaf that a page names
abbrev pub leaf_at : Geometry → List ℕ → ℕ → List ℕ
leaf_at g disk page = part disk (page * g.page_size) (leaf_bytes g)

-- the bytes of the log
abbrev pub log_size : Geometry → ℕ
log_size g = log_pages * g.page_size

-- the string of the log
abbrev pub log_at : Geometry → List ℕ → List ℕ
log_at g disk = part disk g.page_size (log_size g)
