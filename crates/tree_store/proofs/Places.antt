-- Where units lie.
use Rattle.std.proofs.Common.{◌≡◌, ◌≢◌, ◌≤◌, ◌<◌, ◌+◌, ◌-◌, ◌*◌, ℕ, suc, Bool, List, take, drop, Option, Some, None, IsSome, refl, sym, ap, ◌∙◌, arith, lt-ltb, inl, inr, ⊎_elim}
use Rattle.std.proofs.Math.Nat.{mul-le-mul_right, suc-mul, add-mul}
use Rattle.std.proofs.lemmas.Bool.{cases_lt}
use Rattle.std.proofs.lemmas.List.{drop-take, take-take, drop-drop}
use Rattle.ex_base.specs.declared.geometry.Geometry.{Geometry}
use Rattle.ex_base.specs.declared.names.Area.{Area}
use Rattle.ex_base.specs.declared.names.Area.TheVariants.{Page, Segment}
use Rattle.ex_base.specs.Area.{IsUnit, InArea, InPageArea, NamesLeaf, area_end}
use Rattle.ex_base.specs.Bytes.{Apart, bytes_at, part}
use Rattle.ex_base.specs.Ports.{IsLowest}
use Rattle.ex_base.specs.Sizes.{leaf_bytes, volume_bytes}
use Rattle.tree_store.specs.Stored.{unit_len, unit_bytes}
use Rattle.tree_store.specs.Whole.{leaf_len}

pub page_len : (g : Geometry) (p : ℕ) → InPageArea g p → unit_len g p ≡ g.page_size
page_len g p area = rw (lt-ltb p (area_end g) area.1) refl

-- a part of a part
pub part_of_part : (xs : List ℕ) (at from n len : ℕ) → from + n ≤ len → bytes_at (part xs at len) from n ≡ part xs (at + from) n
unfolding part
part_of_part xs at from n len h =
    ap (λ k. take n (drop from (take k (drop at xs)))) {x = len} {y = from + (len - from)} (omega arith)
    ∙ ap (take n) (drop-take from (len - from) (drop at xs))
    ∙ take-take n (len - from) (drop from (drop at xs)) (omega arith)
    ∙ ap (take n) (drop-drop from at xs)

none_apart : IsSome {T = List ℕ} None → ⊥
none_apart e = cc

pub leaf_part : (g : Geometry) (held : Option (List ℕ)) (p from n : ℕ) (out : List ℕ) → NamesLeaf g p → from + n ≤ leaf_bytes g → IsSome held
    → ((d : List ℕ) → held ≡ Some d → out ≡ part d (p * g.page_size + from) n)
    → out ≡ bytes_at (unit_bytes g held p) from n
leaf_part g None p from n out leaf inside some read = absurd (none_apart some)
leaf_part g (Some bytes) p from n out leaf inside some read =
    read bytes refl ∙ sym (part_of_part bytes (p * g.page_size) from n (leaf_bytes g) inside)
    ∙ ap (λ k. bytes_at (part bytes (p * g.page_size) k) from n) (sym (leaf_len g p leaf))

pub node_fits : (g : Geometry) (p n size : ℕ) → InPageArea g p → n ≡ g.page_size → volume_bytes g ≤ size → p * g.page_size + n ≤ size
node_fits g p n size area is fits =
    let h : suc p * g.page_size ≤ (257 + g.pages + g.segs * g.seg_len) * g.page_size = mul-le-mul_right g.page_size (omega (arith, area.1)) in
    omega (arith, is, suc-mul p g.page_size, h, fits)

-- ---- units lie apart

pub lowest_area : (g : Geometry) (used : ℕ → Bool) (area : Area) (p : ℕ) → IsLowest g used area p → InArea g area p
lowest_area g used Page p low = (omega (arith, low.named), omega (arith, low.named, low.below))
lowest_area g used Segment p low = (low.index, low.below, low.named)

pub area_unit : (g : Geometry) (area : Area) (p : ℕ) → InArea g area p → IsUnit g p
area_unit g Page p area = inl area
area_unit g Segment p leaf = inr leaf

pub units_apart : (g : Geometry) (p q n : ℕ) → IsUnit g p → IsUnit g q → q ≢ p → n ≤ unit_len g p → Apart (q * g.page_size) (unit_len g q) (p * g.page_size) n
units_apart g p q n (inl x) (inl y) differ room =
    ⊎_elim
    (λ (lt : q < p). inl (omega (arith, page_len g q y, suc-mul q g.page_size, mul-le-mul_right {m = suc q} {n = p} g.page_size lt)))
    (λ (le : p ≤ q). let lt : suc p ≤ q = omega (arith, le, differ) in inr (omega (arith, room, page_len g p x, suc-mul p g.page_size, mul-le-mul_right {m = suc p} {n = q} g.page_size lt)))
    (cases_lt q p)
units_apart g p q n (inl x) (inr y) differ room =
    let lt : suc p ≤ q = omega (arith, x.1, y.2) in
    inr (omega (arith, room, page_len g p x, suc-mul p g.page_size, mul-le-mul_right {m = suc p} {n = q} g.page_size lt))
units_apart g p q n (inr x) (inl y) differ room =
    let lt : suc q ≤ p = omega (arith, y.1, x.2) in
    inl (omega (arith, page_len g q y, suc-mul q g.page_size, mul-le-mul_right {m = suc q} {n = p} g.page_size lt))
units_apart g p q n (inr x) (inr y) differ room =
    ⊎_elim
    (λ (lt : y.0 < x.0). inl (before y.0 x.0 q p y.2 x.2 lt (unit_len g q) (leaf_len g q y)))
    (λ (le : x.0 ≤ y.0). inr (behind (before x.0 y.0 p q x.2 y.2 (index_lt le) (unit_len g p) (leaf_len g p x))))
    (cases_lt y.0 x.0)
  where
    before : (i j r s : ℕ) → r ≡ area_end g + i * g.seg_len → s ≡ area_end g + j * g.seg_len → i < j → (m : ℕ) → m ≡ g.seg_len * g.page_size → r * g.page_size + m ≤ s * g.page_size
    before i j r s is js lt m long =
        let h : r + g.seg_len ≤ s = omega (arith, is, js, suc-mul i g.seg_len, mul-le-mul_right {m = suc i} {n = j} g.seg_len lt) in
        omega (arith, long, add-mul r g.seg_len g.page_size, mul-le-mul_right {m = r + g.seg_len} {n = s} g.page_size h)

    behind : p * g.page_size + unit_len g p ≤ q * g.page_size → p * g.page_size + n ≤ q * g.page_size
    behind h = omega (arith, h, room)

    index_lt : x.0 ≤ y.0 → x.0 < y.0
    index_lt le = ⊎_elim (λ (lt : x.0 < y.0). lt) (λ (ge : y.0 ≤ x.0). absurd (differ (same (omega (arith, le, ge))))) (cases_lt x.0 y.0)
      where
        same : y.0 ≡ x.0 → q ≡ p
        same is = y.2 ∙ ap (λ i. area_end g + i * g.seg_len) is ∙ sym x.2
