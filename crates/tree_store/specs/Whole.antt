-- The leaves lie inside the volume.
use Rattle.std.specs.Prelude.{◌≡◌, ◌≤◌, ◌+◌, ◌*◌, ℕ, suc, List, length, Option, IsSome, refl}
use Rattle.std.proofs.Common.{ap, ◌∙◌, arith, le-ltb}
use Rattle.std.proofs.Math.Nat.{mul-le-mul_right, suc-mul, add-mul}
use Rattle.ex_base.specs.declared.geometry.Geometry.{Geometry}
use Rattle.ex_base.specs.Area.{NamesLeaf, area_end}
use Rattle.ex_base.specs.Bytes.{part, length-part}
use Rattle.ex_base.specs.Sizes.{leaf_bytes, volume_bytes}
use Rattle.disk_model.specs.Outside.{Outside, IsWorld}
use Rattle.disk_model.specs.Runs.{told_value}
use Rattle.tree_store.specs.Stored.{unit_len, unit_bytes}

-- a leaf ends within the volume
pub leaf_end : (g : Geometry) (p : ℕ) → NamesLeaf g p → p + g.seg_len ≤ 257 + g.pages + g.segs * g.seg_len
leaf_end g p leaf = omega (arith, leaf.2, suc-mul leaf.0 g.seg_len, mul-le-mul_right {m = suc leaf.0} {n = g.segs} g.seg_len leaf.1)

pub leaf_range : (g : Geometry) (p from n size : ℕ) → NamesLeaf g p → from + n ≤ leaf_bytes g → volume_bytes g ≤ size → p * g.page_size + from + n ≤ size
leaf_range g p from n size leaf inside fits =
    let end : (p + g.seg_len) * g.page_size ≤ (257 + g.pages + g.segs * g.seg_len) * g.page_size = mul-le-mul_right g.page_size (leaf_end g p leaf) in
    omega (arith, add-mul p g.seg_len g.page_size, end)

pub leaf_len : (g : Geometry) (p : ℕ) → NamesLeaf g p → unit_len g p ≡ leaf_bytes g
leaf_len g p leaf = rw (le-ltb p (area_end g) (omega (arith, leaf.2))) refl

-- the disk has each leaf whole
pub leaf_whole : (o : Outside) (g : Geometry) (p : ℕ) → IsWorld o → volume_bytes g ≤ o.size → IsSome o.disk → NamesLeaf g p → leaf_bytes g ≤ length (unit_bytes g o.disk p)
leaf_whole o g p world fits told leaf =
    let d = told_value o.disk told in
    let long : length d.0 ≡ o.size = world.whole d.0 (world.held_may_stay d.0 d.1) in
    let inside : p * g.page_size + leaf_bytes g ≤ length d.0 = omega (arith, long, leaf_range g p 0 (leaf_bytes g) o.size leaf (omega arith) fits) in
    let len : length (part d.0 (p * g.page_size) (leaf_bytes g)) ≡ leaf_bytes g = length-part d.0 (p * g.page_size) (leaf_bytes g) inside in
    let is : length (unit_bytes g o.disk p) ≡ leaf_bytes g =
    ap (λ (x : Option (List ℕ)). length (unit_bytes g x p)) d.1 ∙ ap (λ n. length (part d.0 (p * g.page_size) n)) (leaf_len g p leaf) ∙ len in
    omega (arith, is)
