-- The units of a volume by the numbers that name them: which are used, how many references each has, and how often each was given back.
use Rattle.std.specs.Prelude.{◌≡◌, ℕ, zero, suc, ◌+◌, ◌-◌, ◌/◌, ◌%◌, Bool, false, if◌then◌else◌, ltb, eqb, List, length, slice_index_or, count_by}
use Rattle.ex_base.specs.declared.geometry.Geometry.{Geometry}
use Rattle.ex_base.specs.declared.names.Area.{Area}
use Rattle.ex_base.specs.declared.names.Area.TheVariants.{Page, Segment}
use Rattle.ex_base.specs.Area.{area_end, unit_at}
use Rattle.ex_base.specs.Sizes.{units}
use Rattle.page_alloc.specs.Flags.{UnitFlags}

-- The units of both areas, and the numbers of the units that were given back so far, the last one first.
pub record UnitSet : Type 0 where
  pub geometry : Geometry
  pub pages : UnitFlags
  pub segs : UnitFlags
  pub given : List ℕ

-- what two lists, of the units of each area, have at the unit that a page names; d at a page that names none
unfoldable pub at_unit : {A : Type 0} → Geometry → List A → List A → A → ℕ → A
at_unit g pages segs d page =
    if ltb page 257 then d else
    if ltb page (area_end g) then slice_index_or pages (page - 257) d else
    if eqb ((page - area_end g) % g.seg_len) 0 then slice_index_or segs ((page - area_end g) / g.seg_len) d else d

-- whether the unit that a page names is used
abbrev pub used_at : UnitSet → ℕ → Bool
used_at u page = at_unit u.geometry u.pages.used u.segs.used false page

-- how many references the unit that a page names has
abbrev pub refs_at : UnitSet → ℕ → ℕ
refs_at u page = at_unit u.geometry u.pages.refs u.segs.refs 0 page

-- how often the unit that a page names was given back
abbrev pub given_at : UnitSet → ℕ → ℕ
given_at u page = count_by (λ given. eqb given page) u.given

-- f, with v at one page
abbrev pub updated : {A : Type 0} → (ℕ → A) → ℕ → A → ℕ → A
updated f page v q = if eqb q page then v else f q

-- how many of the first n units are free
unfoldable pub free_below : (ℕ → Bool) → (ℕ → ℕ) → ℕ → ℕ
free_below used at zero = 0
free_below used at (suc n) = free_below used at n + (if used (at n) then 0 else 1)

-- the size of the area less the number of its used units
abbrev pub free_count : Geometry → (ℕ → Bool) → Area → ℕ
free_count g used area = free_below used (unit_at g area) (units g area)

-- the lists have the lengths of the geometry
pub record IsFitting (u : UnitSet) : Type 0 where
  pub pages : length u.pages.used ≡ u.geometry.pages
  pub page_refs : length u.pages.refs ≡ u.geometry.pages
  pub segs : length u.segs.used ≡ u.geometry.segs
  pub seg_refs : length u.segs.refs ≡ u.geometry.segs

abbrev pub flags_of : UnitSet → Area → UnitFlags
flags_of u Page = u.pages
flags_of u Segment = u.segs

abbrev pub with_flags : UnitSet → Area → UnitFlags → UnitSet
with_flags u Page flags = record u { pages = flags }
with_flags u Segment flags = record u { segs = flags }
