-- The sizes of a volume, and what they bound.
use Rattle.std.specs.Prelude.{ℕ, ◌+◌, ◌-◌, ◌*◌, ◌/◌, ◌≤◌, IsTrue}
use Rattle.std.proofs.Common.{arith}
use Rattle.std.proofs.lemmas.Nat.{mul-le}
use Rattle.ex_base.specs.declared.geometry.Geometry.{Geometry}
use Rattle.ex_base.specs.declared.names.Area.{Area}
use Rattle.ex_base.specs.declared.names.Area.TheVariants.{Page, Segment}
use Rattle.ex_base.specs.Limits.{is_page_size, fan_most, volume_size, page_size_least, page_size_most}

-- the limits of a geometry
pub record IsGeometry (g : Geometry) : Type 0 where
  pub page_size : IsTrue (is_page_size g.page_size)
  pub some_pages : 1 ≤ g.pages
  pub pages : g.pages ≤ 4000000
  pub segs : g.segs ≤ 4000000
  pub some_len : 1 ≤ g.seg_len
  pub seg_len : g.seg_len ≤ 16
  pub least_fan : 2 ≤ g.fan
  pub fan : g.fan ≤ fan_most g.page_size

-- each geometry that there is keeps its limits
pub geometry_is : (g : Geometry) → IsGeometry g
geometry_is g = record {
  page_size = g.a_page_size;
  some_pages = g.some_pages;
  pages = g.few_pages;
  segs = g.few_segs;
  some_len = g.some_length;
  seg_len = g.short;
  least_fan = g.two;
  fan = g.narrow;
}

-- the bytes of a leaf that is full
abbrev pub leaf_bytes : Geometry → ℕ
leaf_bytes g = g.seg_len * g.page_size

-- the bytes of the volume: the superblock, the log's 256 pages, the page area and the segment area
abbrev pub volume_bytes : Geometry → ℕ
volume_bytes g = volume_size g.page_size g.pages g.segs g.seg_len

-- the units of an area
abbrev pub units : Geometry → Area → ℕ
units g Page = g.pages
units g Segment = g.segs

-- the files that a catalog page has room for: entries of 48 bytes behind a head of 32
abbrev pub files_most : Geometry → ℕ
files_most g = (g.page_size - 32) / 48

-- the bytes of the largest object
abbrev pub object_most : ℕ
object_most = 1099511627775

pub least_page : (g : Geometry) → 512 ≤ g.page_size
least_page g = page_size_least g.page_size g.a_page_size

pub most_page : (g : Geometry) → g.page_size ≤ 8192
most_page g = page_size_most g.page_size g.a_page_size

-- the catalog's page is there
pub least_volume : (g : Geometry) → 258 * g.page_size ≤ volume_bytes g
least_volume g = mul-le 258 g.page_size (257 + g.pages + g.segs * g.seg_len) g.page_size (omega (arith, g.some_pages)) (omega arith)
