-- The first number of a geometry that breaks its limit.
use Rattle.std.specs.Prelude.{ℕ, not, ◌&&◌, nat_le, Option, Some, None, if◌then◌else◌}
use Rattle.ex_base.specs.declared.geometry.GeometryFault.{GeometryFault}
use Rattle.ex_base.specs.declared.geometry.GeometryFault.TheVariants.{PageSize, Pages, Segs, SegLen, Fan}
use Rattle.ex_base.specs.Limits.{is_page_size, fan_most}

abbrev pub first_fault : ℕ → ℕ → ℕ → ℕ → ℕ → Option GeometryFault
first_fault page_size pages segs seg_len fan =
    if not (is_page_size page_size) then Some PageSize
    else if not (nat_le 1 pages && nat_le pages 4000000) then Some Pages
    else if not (nat_le segs 4000000) then Some Segs
    else if not (nat_le 1 seg_len && nat_le seg_len 16) then Some SegLen
    else if not (nat_le 2 fan && nat_le fan (fan_most page_size)) then Some Fan
    else None
