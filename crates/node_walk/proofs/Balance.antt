-- What has its least is balanced, with counts that agree.
use Rattle.std.proofs.Common.{◌≡◌, ◌≤◌, ◌-◌, ◌*◌, ◌/◌, ℕ, zero, suc, List, [], ◌∷◌, length, arith, refl, ap}
use Rattle.std.proofs.lemmas.Nat.{mul-le}
use Rattle.std.specs.List.{AllByRecursion}
use Rattle.ex_base.specs.declared.geometry.Geometry.{Geometry}
use Rattle.ex_base.specs.Sizes.{leaf_bytes, least_page}
use Rattle.trees.specs.declared.Pair.{Pair}
use Rattle.trees.specs.Node.{pairs_on}
use Rattle.trees.specs.Shape.{IsHalfFull, IsRoot}
use Rattle.trees.specs.Trees.{Units, IsNamed, HasSize, EachChild, for_each_child, shape_on}
use Rattle.trees.specs.declared.rows.Part.{Part}
use Rattle.trees.specs.Rows.{parts_of}
use Rattle.node_walk.specs.Walk.{IsFull, below_least, root_least}

-- a leaf has some bytes
half_some : (g : Geometry) → 1 ≤ leaf_bytes g / 2
half_some g =
    let large : 1 * 512 ≤ g.seg_len * g.page_size = mul-le 1 512 g.seg_len g.page_size g.some_length (least_page g) in
    let all : 512 ≤ leaf_bytes g = omega (arith, large) in
    omega (arith, all)

length-children : {A : Type 0} (make : ℕ → ℕ → A) (before : ℕ) (pairs : List Pair) → length (for_each_child make before pairs) ≡ length pairs
length-children make before [] = refl
length-children make before (pair ∷ pairs) = ap suc (length-children make pair.count pairs)

module _ (g : Geometry) (u : Units) where
  -- sized and half full, as a tree below a node
  abbrev Half : ℕ → ℕ → ℕ → Type 0
  Half l page n = HasSize g u l page n × IsHalfFull g.fan (leaf_bytes g) l (shape_on u l page n)

  -- the same of each child
  split_half : (l before : ℕ) (pairs : List Pair) → EachChild (Half l) before pairs
      → EachChild (HasSize g u l) before pairs × AllByRecursion (IsHalfFull g.fan (leaf_bytes g) l) (for_each_child (shape_on u l) before pairs)
  split_half l before [] each = (tt, tt)
  split_half l before (pair ∷ pairs) each = let rest = split_half l pair.count pairs each.1 in ((each.0.0, rest.0), (each.0.1, rest.1))

  join_half : (l before : ℕ) (pairs : List Pair) → EachChild (HasSize g u l) before pairs → AllByRecursion (IsHalfFull g.fan (leaf_bytes g) l) (for_each_child (shape_on u l) before pairs)
      → EachChild (Half l) before pairs
  join_half l before [] sized full = tt
  join_half l before (pair ∷ pairs) sized full = ((sized.0, full.0), join_half l pair.count pairs sized.1 full.1)

  child_half : (l before : ℕ) (pairs : List Pair) → ((part : Part) → IsNamed g u l part.page.0 → IsFull g u (below_least g) l part → Half l part.page.0 part.size)
      → AllByRecursion (λ (pair : Pair). IsNamed g u l pair.page.0) pairs → AllByRecursion (IsFull g u (below_least g) l) (parts_of before pairs) → EachChild (Half l) before pairs
  child_half l before [] f named full = tt
  child_half l before (pair ∷ pairs) f named full = (f (record { size = pair.count - before; page = pair.page }) named.0 full.0, child_half l pair.count pairs f named.1 full.1)

  child_full : (l before : ℕ) (pairs : List Pair) → ((part : Part) → Half l part.page.0 part.size → IsFull g u (below_least g) l part)
      → EachChild (Half l) before pairs → AllByRecursion (IsFull g u (below_least g) l) (parts_of before pairs)
  child_full l before [] f each = tt
  child_full l before (pair ∷ pairs) f each = (f (record { size = pair.count - before; page = pair.page }) each.0, child_full l pair.count pairs f each.1)

  full_half : (l : ℕ) (part : Part) → IsNamed g u l part.page.0 → IsFull g u (below_least g) l part → Half l part.page.0 part.size
  full_half zero part named full = ((omega (arith, full.0, half_some g), full.1), (full.0, full.1))
  full_half (suc l) part named full =
      let below = split_half l 0 (pairs_on (u part.page.0)) (child_half l 0 _ (λ child is own. full_half l child is own) named.2 full.1) in
      let len = length-children (shape_on u l) 0 (pairs_on (u part.page.0)) in
      ((full.0.0, below.0), (omega (arith, len, full.0.1), omega (arith, len, named.1.fits.few), below.1))

  half_full : (l : ℕ) (part : Part) → Half l part.page.0 part.size → IsFull g u (below_least g) l part
  half_full zero part half = half.1
  half_full (suc l) part half =
      let len = length-children (shape_on u l) 0 (pairs_on (u part.page.0)) in
      ((half.0.0, omega (arith, len, half.1.0)), child_full l 0 _ (λ child own. half_full l child own) (join_half l 0 _ half.0.1 half.1.2))

  -- ---- a root

  pub full_root : (l : ℕ) (part : Part) → IsNamed g u l part.page.0 → IsFull g u root_least l part → HasSize g u l part.page.0 part.size × IsRoot g.fan (leaf_bytes g) l (shape_on u l part.page.0 part.size)
  full_root zero part named full = (full, full)
  full_root (suc l) part named full =
      let below = split_half l 0 (pairs_on (u part.page.0)) (child_half l 0 _ (λ child is own. full_half l child is own) named.2 full.1) in
      let len = length-children (shape_on u l) 0 (pairs_on (u part.page.0)) in
      ((full.0.0, below.0), (omega (arith, len, full.0.1), omega (arith, len, named.1.fits.few), below.1))

  pub root_full : (l : ℕ) (part : Part) → HasSize g u l part.page.0 part.size → IsRoot g.fan (leaf_bytes g) l (shape_on u l part.page.0 part.size) → IsFull g u root_least l part
  root_full zero part sized root = sized
  root_full (suc l) part sized root =
      let len = length-children (shape_on u l) 0 (pairs_on (u part.page.0)) in
      ((sized.0, omega (arith, len, root.0)), child_full l 0 _ (λ child own. half_full l child own) (join_half l 0 _ sized.1 root.2))
