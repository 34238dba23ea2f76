-- Where the first pages of leaves stand.
use Rattle.std.specs.Prelude.{◌≡◌, ◌<◌, ◌+◌, ◌-◌, ◌*◌, ◌/◌, ◌%◌, ℕ, ◌≤◌}
use Rattle.std.proofs.Common.{arith, ap, ◌∙◌}
use Rattle.std.proofs.Math.Nat.{mul-div_cancel, mul-mod_left}
use Rattle.ex_base.specs.declared.geometry.Geometry.{Geometry}
use Rattle.ex_base.specs.Area.{NamesLeaf}

-- a leaf's first page stands at a multiple of a unit's pages
pub leaf_there : (geo : Geometry) (page : ℕ) → NamesLeaf geo page → ((page - (257 + geo.pages)) % geo.seg_len ≡ 0) × ((page - (257 + geo.pages)) / geo.seg_len < geo.segs)
leaf_there geo page named =
    let offset : page - (257 + geo.pages) ≡ named.0 * geo.seg_len = omega (arith, named.2) in
    let some : 0 < geo.seg_len = omega (arith, geo.some_length) in
    let index : (page - (257 + geo.pages)) / geo.seg_len ≡ named.0 = ap (λ k. k / geo.seg_len) offset ∙ mul-div_cancel named.0 some in
    (ap (λ k. k % geo.seg_len) offset ∙ mul-mod_left named.0 geo.seg_len, omega (arith, named.1))

-- where a unit has one page, each page of the segment area is the first one of a leaf
pub single_there : (geo : Geometry) (page : ℕ) → geo.seg_len ≡ 1 → 257 + geo.pages ≤ page → page - (257 + geo.pages) < geo.segs → NamesLeaf geo page
single_there geo page one above below = (page - (257 + geo.pages), below, rw one (omega (arith, above)))

pub single_below : (geo : Geometry) (page : ℕ) → geo.seg_len ≡ 1 → NamesLeaf geo page → page - (257 + geo.pages) < geo.segs
single_below geo page one named =
    let place : page ≡ 257 + geo.pages + named.0 * 1 = rw one at named.2 in
    omega (arith, place, named.1)
