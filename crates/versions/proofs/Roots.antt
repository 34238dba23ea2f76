-- What a root that spells bytes keeps.
use Rattle.std.proofs.Common.{◌≡◌, ℕ, zero, suc, ◌+◌, ◌-◌, ◌*◌, ◌^◌, ◌<◌, ◌≤◌, List, [], ◌∷◌, length, Option, Some, None, refl, sym, ap, ◌∙◌, arith, inl, inr}
use Rattle.std.specs.List.{AllByRecursion}
use Rattle.std.proofs.lemmas.Bool.{cases_lt}
use Rattle.std.proofs.Math.Nat.{pow-le-pow_right, suc-mul, pow-suc}
use Rattle.std.proofs.lemmas.Nat.{pow_pos}
use Rattle.ex_base.specs.declared.geometry.Geometry.{Geometry}
use Rattle.ex_base.specs.declared.names.PageNo.{PageNo}
use Rattle.ex_base.specs.declared.names.Root.{Root}
use Rattle.ex_base.specs.Even.{sum_of}
use Rattle.ex_base.specs.Sizes.{leaf_bytes, object_most}
use Rattle.ex_base.proofs.Geometries.{leaf_some}
use Rattle.std.proofs.lemmas.Nat.{mul-le}
use Rattle.trees.specs.Shape.{Subtree, total, IsHalfFull, IsRoot, IsBalanced}
use Rattle.trees.specs.Trees.{Units, RootSpells, RootNamed, RootSized, IsNamed, HasSize, EachChild, for_each_child, root_bytes_at, root_shape_at, shape_on}
use Rattle.trees.proofs.TreeLaws.{AreWhole, length-bytes_on}
use Rattle.trees.specs.declared.Pair.{Pair}
use Rattle.trees.specs.Node.{RiseFrom, pairs_on, total_of}
use Rattle.trees.specs.Roots.{IsRootFor}
use Rattle.versions.specs.Put.{IsPlaced}

-- ---- as many bytes as the root says

length_at : (g : Geometry) (units : Units) (height size : ℕ) (page : Option PageNo) → AreWhole g units → RootNamed g units height page → RootSized g units height size page → length (root_bytes_at units height size page) ≡ size
length_at g units height size None whole named sized = sym sized.0
length_at g units height size (Some page) whole named sized = length-bytes_on g units height page.0 size whole named sized

pub root_length : (g : Geometry) (units : Units) (root : Root) (bytes : List ℕ) → AreWhole g units → RootSpells g units root bytes → length bytes ≡ root.size
root_length g units root bytes whole spells = ap length spells.spelled ∙ length_at g units root.height root.size root.page whole spells.named spells.sized

-- ---- a balanced tree is low

children_total : (u : Units) (l before : ℕ) (pairs : List Pair) → RiseFrom before pairs → EachChild (λ page n. total l (shape_on u l page n) ≡ n) before pairs → 1 ≤ length pairs → before + sum_of (total l) (for_each_child (shape_on u l) before pairs) ≡ total_of pairs
children_total u l before [] rise each some = absurd (omega arith)
children_total u l before (pair ∷ []) rise each some = omega (arith, each.0, rise.0)
children_total u l before (pair ∷ next ∷ pairs) rise each some = omega (arith, each.0, rise.0, children_total u l pair.count (next ∷ pairs) rise.1 each.1 (omega arith))

each_total : (geo : Geometry) (u : Units) (l before : ℕ) (pairs : List Pair) → ((page n : ℕ) → IsNamed geo u l page → HasSize geo u l page n → total l (shape_on u l page n) ≡ n) → AllByRecursion (λ (pair : Pair). IsNamed geo u l pair.page.0) pairs
    → EachChild (HasSize geo u l) before pairs → EachChild (λ page n. total l (shape_on u l page n) ≡ n) before pairs
each_total geo u l before [] below named sized = tt
each_total geo u l before (pair ∷ pairs) below named sized = (below pair.page.0 (pair.count - before) named.0 sized.0, each_total geo u l pair.count pairs below named.1 sized.1)

total-shape : (geo : Geometry) (u : Units) (l page n : ℕ) → IsNamed geo u l page → HasSize geo u l page n → total l (shape_on u l page n) ≡ n
total-shape geo u zero page n named sized = refl
total-shape geo u (suc l) page n named sized =
    let each = each_total geo u l 0 (pairs_on (u page)) (λ p m a b. total-shape geo u l p m a b) named.2 sized.1 in
    omega (arith, children_total u l 0 (pairs_on (u page)) named.1.fits.rising each named.1.fits.some, sized.0)

sum_least : {A : Type 0} (size : A → ℕ) (k : ℕ) (xs : List A) → AllByRecursion (λ x. k ≤ size x) xs → length xs * k ≤ sum_of size xs
sum_least size k [] each = omega arith
sum_least size k (x ∷ xs) each =
    omega (arith, sum_least size k xs each.1, each.0, suc-mul (length xs) k)

each_least : {A : Type 0} (P : A → Type 0) (size : A → ℕ) (k : ℕ) (xs : List A) → ((x : A) → P x → k ≤ size x) → AllByRecursion P xs → AllByRecursion (λ x. k ≤ size x) xs
each_least P size k [] f each = tt
each_least P size k (x ∷ xs) f each = (f x each.0, each_least P size k xs f each.1)

tall_total : (fan full h : ℕ) (tree : Subtree h) → 2 ≤ fan → 2 ≤ full → IsHalfFull fan full h tree → 2 ^ h ≤ total h tree
tall_total fan full zero leaf wide roomy half = omega (arith, half.0, roomy)
tall_total fan full (suc h) trees wide roomy half =
    let least = sum_least (total h) (2 ^ h) trees (each_least (IsHalfFull fan full h) (total h) (2 ^ h) trees (λ t e. tall_total fan full h t wide roomy e) half.2) in
    let two : 2 * 2 ^ h ≤ length trees * 2 ^ h = mul-le 2 (2 ^ h) (length trees) (2 ^ h) (omega (arith, half.0, wide)) (omega arith) in
    omega (arith, least, two, pow-suc 2 h)

root_tall : (fan full h : ℕ) (tree : Subtree (suc h)) → 2 ≤ fan → 2 ≤ full → IsRoot fan full (suc h) tree → 2 ^ h ≤ total (suc h) tree
root_tall fan full h trees wide roomy root =
    let least = sum_least (total h) (2 ^ h) trees (each_least (IsHalfFull fan full h) (total h) (2 ^ h) trees (λ t e. tall_total fan full h t wide roomy e) root.2) in
    let two : 1 * 2 ^ h ≤ length trees * 2 ^ h = mul-le 1 (2 ^ h) (length trees) (2 ^ h) (omega (arith, root.0)) (omega arith) in
    omega (arith, least, two)

low_of : (fan full h size : ℕ) (tree : Subtree h) → 2 ≤ fan → 2 ≤ full → IsRoot fan full h tree → total h tree ≡ size → size ≤ object_most → h ≤ 64
low_of fan full zero size tree wide roomy root is few = omega arith
low_of fan full (suc h) size tree wide roomy root is few = elim (cases_lt h 64) [
  | inl lt ↦ omega (arith, lt)
  | inr le ↦
      let high : 2 ^ 64 ≤ 2 ^ h = pow-le-pow_right {n = 2} (omega arith) {i = 64} {j = h} le in
      absurd (omega (arith, high, root_tall fan full h tree wide roomy root, is, few))
]

-- ---- the numbers of the root are in their limits

some_at : (g : Geometry) (units : Units) (l page n : ℕ) → IsNamed g units l page → HasSize g units l page n → IsBalanced g.fan (leaf_bytes g) (Some (l, shape_on units l page n)) → 1 ≤ n
some_at g units zero page n named sized balanced = sized.0
some_at g units (suc l) page n named sized balanced =
    let tall = root_tall g.fan (leaf_bytes g) l (shape_on units (suc l) page n) g.two (omega (arith, leaf_some g)) balanced in
    omega (arith, tall, total-shape g units (suc l) page n named sized, pow_pos l)

leaf_at_most : (g : Geometry) (units : Units) (l page n : ℕ) → HasSize g units l page n → l ≡ 0 → n ≤ leaf_bytes g
leaf_at_most g units zero page n sized low = sized.1
leaf_at_most g units (suc l) page n sized low = absurd (omega arith)

limits_at : (g : Geometry) (units : Units) (height size : ℕ) (page : Option PageNo) → RootNamed g units height page → RootSized g units height size page → IsBalanced g.fan (leaf_bytes g) (root_shape_at units height size page) → size ≤ object_most
    → IsRootFor g (record { height = height; page = page; size = size })
limits_at g units height size None named sized balanced few = record {
  none = λ is. sized;
  some = λ is. refl;
  low = omega (arith, sized.1);
  small = few;
  leaf = λ is. omega (arith, sized.0);
}
limits_at g units height size (Some page) named sized balanced few =
    let some : 1 ≤ size = some_at g units height page.0 size named sized balanced in
    record {
      none = λ is. absurd (let e : Some page ≡ None = is in cc);
      some = λ is. absurd (omega (arith, is, some));
      low = low_of g.fan (leaf_bytes g) height size (shape_on units height page.0 size) g.two (omega (arith, leaf_some g)) balanced (total-shape g units height page.0 size named sized) few;
      small = few;
      leaf = leaf_at_most g units height page.0 size sized;
    }

pub root_is_for : (g : Geometry) (units : Units) (root : Root) (bytes : List ℕ) → RootSpells g units root bytes → root.size ≤ object_most → IsRootFor g root
root_is_for g units root bytes spells few = limits_at g units root.height root.size root.page spells.named spells.sized spells.balanced few

-- ---- its page has a spelling

page_above : (g : Geometry) (units : Units) (l page : ℕ) → IsNamed g units l page → 0 < page
page_above g units zero page named = omega (arith, named.2)
page_above g units (suc l) page named = omega (arith, named.0.0)

pub root_placed : (g : Geometry) (units : Units) (height : ℕ) (page : Option PageNo) → RootNamed g units height page → IsPlaced page
root_placed g units height None named = tt
root_placed g units height (Some page) named = page_above g units height page.0 named
