-- A geometry is its numbers, and what they are at least.
use Rattle.std.proofs.Common.{◌≡◌, ◌≤◌, IsTrue, arith}
use Rattle.std.proofs.Math.Nat.{mul-le-mul}
use Rattle.std.proofs.Props.{props}
use mathlib.Core.HLevel.{is_prop→PathP}
use native.Mathlib.Bridge.{le_prop}
use Rattle.ex_base.specs.declared.geometry.Geometry.{Geometry}
use Rattle.ex_base.specs.declared.names.Area.{Area}
use Rattle.ex_base.specs.declared.names.Area.TheVariants.{Page, Segment}
use Rattle.ex_base.specs.Limits.{is_page_size, fan_most}
use Rattle.ex_base.specs.Sizes.{leaf_bytes, least_page, most_page}

-- two geometries of the same numbers are one
pub same_numbers : (g h : Geometry) → g.page_size ≡ h.page_size → g.pages ≡ h.pages → g.segs ≡ h.segs → g.seg_len ≡ h.seg_len → g.fan ≡ h.fan → g ≡ h
same_numbers g h a b c d e = λ i. record {
  page_size = a i;
  pages = b i;
  segs = c i;
  seg_len = d i;
  fan = e i;
  a_page_size = is_prop→PathP (λ j. IsTrue (is_page_size (a j))) (λ j. hlevel props) g.a_page_size h.a_page_size i;
  some_pages = is_prop→PathP (λ j. 1 ≤ b j) (λ j. le_prop) g.some_pages h.some_pages i;
  few_pages = is_prop→PathP (λ j. b j ≤ 4000000) (λ j. le_prop) g.few_pages h.few_pages i;
  few_segs = is_prop→PathP (λ j. c j ≤ 4000000) (λ j. le_prop) g.few_segs h.few_segs i;
  some_length = is_prop→PathP (λ j. 1 ≤ d j) (λ j. le_prop) g.some_length h.some_length i;
  short = is_prop→PathP (λ j. d j ≤ 16) (λ j. le_prop) g.short h.short i;
  two = is_prop→PathP (λ j. 2 ≤ e j) (λ j. le_prop) g.two h.two i;
  narrow = is_prop→PathP (λ j. e j ≤ fan_most (a j)) (λ j. le_prop) g.narrow h.narrow i;
}

-- a leaf has room for 512 bytes at least
pub leaf_some : (geo : Geometry) → 512 ≤ leaf_bytes geo
leaf_some geo = omega (arith, mul-le-mul {n₁ = 1} {m₁ = 512} {n₂ = geo.seg_len} {m₂ = geo.page_size} (omega (arith, geo.some_length)) (least_page geo))

-- and for 16 pages of 8192 bytes at most
pub leaf_most : (geo : Geometry) → leaf_bytes geo ≤ 131072
leaf_most geo = omega (arith, mul-le-mul {n₁ = geo.seg_len} {m₁ = geo.page_size} {n₂ = 16} {m₂ = 8192} geo.short (most_page geo))

-- a page fits a leaf
pub page_le : (geo : Geometry) → geo.page_size ≤ leaf_bytes geo
page_le geo = omega (arith, mul-le-mul {n₁ = 1} {m₁ = geo.page_size} {n₂ = geo.seg_len} {m₂ = geo.page_size} (omega (arith, geo.some_length)) (omega arith))

-- what holds of both areas holds of each
pub each_area : (P : Area → Type 0) → P Page → P Segment → (area : Area) → P area
each_area P page segment Page = page
each_area P page segment Segment = segment
