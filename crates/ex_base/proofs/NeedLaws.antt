-- The need of units: more bytes need no fewer, and no object needs many.
use Rattle.std.proofs.Common.{ℕ, zero, suc, ◌+◌, ◌*◌, ◌/◌, ◌<◌, ◌≤◌, ◌^◌, arith, inl, inr}
use Rattle.std.proofs.lemmas.Bool.{cases_lt}
use Rattle.std.proofs.lemmas.Nat.{le-div}
use Rattle.std.proofs.Math.Nat.{div-mul-le_self, mul-le-mul}
use Rattle.ex_base.specs.declared.geometry.Geometry.{Geometry}
use Rattle.ex_base.specs.declared.names.Area.{Area}
use Rattle.ex_base.specs.declared.names.Area.TheVariants.{Page, Segment}
use Rattle.ex_base.specs.Even.{least_parts}
use Rattle.ex_base.specs.Needs.{growth_leaves, growth_need}
use Rattle.ex_base.specs.Sizes.{leaf_bytes, object_most}
use Rattle.ex_base.proofs.Geometries.{leaf_some}
use Rattle.ex_base.proofs.Spread.{least_parts_is}

pub div_up : (a b k : ℕ) → 0 < k → a ≤ b → a / k ≤ b / k
div_up a b k some le = le-div (a / k) b k some (omega (arith, div-mul-le_self a k))

-- ---- more bytes need no fewer units

pub growth_leaves_up : (geo : Geometry) (m n : ℕ) → m ≤ n → growth_leaves geo m ≤ growth_leaves geo n
growth_leaves_up geo m n le = omega (arith, div_up m n (leaf_bytes geo) (omega (arith, leaf_some geo)) le)

pub growth_need_up : (geo : Geometry) (m n height : ℕ) (area : Area) → m ≤ n → growth_need geo m height area ≤ growth_need geo n height area
growth_need_up geo m n height Segment le = growth_leaves_up geo m n le
growth_need_up geo m n height Page le =
    omega (arith, div_up (growth_leaves geo m) (growth_leaves geo n) geo.fan (omega (arith, geo.two)) (growth_leaves_up geo m n le))

-- ---- the leaves of an object are counted by 32 bits

few_of : (full n q : ℕ) → 512 ≤ full → q * full ≤ n → n ≤ object_most → q < 2 ^ 31
few_of full n q room le most = elim (cases_lt q (2 ^ 31)) [
  | inl lt ↦ lt
  | inr many ↦ absurd (omega (arith, mul-le-mul {n₁ = 2 ^ 31} {m₁ = 512} {n₂ = q} {m₂ = full} many room))
]

-- as few leaves as hold the bytes of an object
pub least_few : (full total : ℕ) → 512 ≤ full → total ≤ object_most → least_parts full total ≤ 2 ^ 31
least_few full total room most =
    go (least_parts full total) (least_parts_is full total (omega arith)).least
  where
    go : (m : ℕ) → m * full < total + full → m ≤ 2 ^ 31
    go zero lt = omega arith
    go (suc m) lt = omega (arith, few_of full total m room (omega (arith, lt)) most)

-- the leaves that an insert or append takes
pub growth_few : (geo : Geometry) (n : ℕ) → n ≤ object_most → growth_leaves geo n < 2 ^ 31 + 5
growth_few geo n most = omega (arith, few_of (leaf_bytes geo) n (n / leaf_bytes geo) (leaf_some geo) (div-mul-le_self n (leaf_bytes geo)) most)
