-- A tree spells as many bytes as its size says, and its shape has as many.
use Rattle.std.proofs.Common.{◌≡◌, ℕ, zero, suc, ◌+◌, ◌-◌, ◌≤◌, List, [], ◌∷◌, length, refl, arith}
use Rattle.std.specs.List.{concat, AllByRecursion}
use Rattle.std.proofs.lemmas.List.{length-append, length-take}
use Rattle.ex_base.specs.declared.geometry.Geometry.{Geometry}
use Rattle.ex_base.specs.Area.{NamesLeaf}
use Rattle.ex_base.specs.Even.{sum_of}
use Rattle.ex_base.specs.Sizes.{leaf_bytes}
use Rattle.trees.specs.declared.Pair.{Pair}
use Rattle.trees.specs.Node.{pairs_on, total_of, RiseFrom}
use Rattle.trees.specs.Shape.{total}
use Rattle.trees.specs.Trees.{Units, for_each_child, EachChild, IsNamed, HasSize, bytes_on, shape_on}

-- the units that leaves name are whole
abbrev pub AreWhole : Geometry → Units → Type 0
AreWhole g units = (page : ℕ) → NamesLeaf g page → leaf_bytes g ≤ length (units page)

-- what is known of each child
abbrev Known : (ℕ → ℕ → List ℕ) → ℕ → List Pair → Type 0
Known make before pairs = EachChild (λ page n. length (make page n) ≡ n) before pairs

children_length : (make : ℕ → ℕ → List ℕ) (before : ℕ) (pairs : List Pair) → RiseFrom before pairs → Known make before pairs → 1 ≤ length pairs → length (concat (for_each_child make before pairs)) + before ≡ total_of pairs
children_length make before [] rise known some = absurd (omega arith)
children_length make before (pair ∷ []) rise known some = omega (arith, known.0, rise.0, length-append (make pair.page.0 (pair.count - before)) [])
children_length make before (pair ∷ next ∷ pairs) rise known some =
    omega (arith, known.0, rise.0, children_length make pair.count (next ∷ pairs) rise.1 known.1 (omega arith), length-append (make pair.page.0 (pair.count - before)) (concat (for_each_child make pair.count (next ∷ pairs))))

known_from : (g : Geometry) (units : Units) (l before : ℕ) (pairs : List Pair) → ((page n : ℕ) → IsNamed g units l page → HasSize g units l page n → length (bytes_on units l page n) ≡ n) → AllByRecursion (λ pair. IsNamed g units l pair.page.0) pairs → EachChild (HasSize g units l) before pairs → Known (bytes_on units l) before pairs
known_from g units l before [] below named sized = tt
known_from g units l before (pair ∷ pairs) below named sized = (below pair.page.0 (pair.count - before) named.0 sized.0, known_from g units l pair.count pairs below named.1 sized.1)

pub length-bytes_on : (g : Geometry) (units : Units) (l page n : ℕ) → AreWhole g units → IsNamed g units l page → HasSize g units l page n → length (bytes_on units l page n) ≡ n
length-bytes_on g units zero page n whole named sized = omega (arith, length-take n (units page), whole page named, sized.1)
length-bytes_on g units (suc l) page n whole named sized =
    let known = known_from g units l 0 (pairs_on (units page)) (λ p m a b. length-bytes_on g units l p m whole a b) named.2 sized.1 in
    omega (arith, children_length (bytes_on units l) 0 (pairs_on (units page)) named.1.fits.rising known named.1.fits.some, sized.0)

-- ---- the size of a shape

children_total : (u : Units) (l before : ℕ) (pairs : List Pair) → RiseFrom before pairs → EachChild (λ page n. total l (shape_on u l page n) ≡ n) before pairs → 1 ≤ length pairs → before + sum_of (total l) (for_each_child (shape_on u l) before pairs) ≡ total_of pairs
children_total u l before [] rise each some = absurd (omega arith)
children_total u l before (pair ∷ []) rise each some = omega (arith, each.0, rise.0)
children_total u l before (pair ∷ next ∷ pairs) rise each some = omega (arith, each.0, rise.0, children_total u l pair.count (next ∷ pairs) rise.1 each.1 (omega arith))

each_total : (geo : Geometry) (u : Units) (l before : ℕ) (pairs : List Pair) → ((page n : ℕ) → IsNamed geo u l page → HasSize geo u l page n → total l (shape_on u l page n) ≡ n) → AllByRecursion (λ (pair : Pair). IsNamed geo u l pair.page.0) pairs
    → EachChild (HasSize geo u l) before pairs → EachChild (λ page n. total l (shape_on u l page n) ≡ n) before pairs
each_total geo u l before [] below named sized = tt
each_total geo u l before (pair ∷ pairs) below named sized = (below pair.page.0 (pair.count - before) named.0 sized.0, each_total geo u l pair.count pairs below named.1 sized.1)

pub total-shape : (geo : Geometry) (u : Units) (l page n : ℕ) → IsNamed geo u l page → HasSize geo u l page n → total l (shape_on u l page n) ≡ n
total-shape geo u zero page n named sized = refl
total-shape geo u (suc l) page n named sized =
    let each = each_total geo u l 0 (pairs_on (u page)) (λ p m a b. total-shape geo u l p m a b) named.2 sized.1 in
    omega (arith, children_total u l 0 (pairs_on (u page)) named.1.fits.rising each named.1.fits.some, sized.0)
