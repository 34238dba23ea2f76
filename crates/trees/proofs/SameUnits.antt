-- What is read of a tree depends on its own units alone.
use Rattle.std.proofs.Common.{◌≡◌, ℕ, zero, suc, ◌-◌, List, [], ◌∷◌, take, refl, sym, ap, subst, ◌∙◌}
use Rattle.std.specs.List.{flat_map, concat, AllByRecursion}
use Rattle.ex_base.specs.declared.geometry.Geometry.{Geometry}
use Rattle.ex_base.proofs.Each.{split_each}
use Rattle.trees.specs.declared.Pair.{Pair}
use Rattle.trees.specs.Node.{PairsOf, pairs_on, total_of}
use Rattle.trees.specs.Trees.{Units, for_each_child, EachChild, IsNamed, HasSize, bytes_on, shape_on, units_on}

-- these units are as they were
abbrev pub Kept : Units → Units → List ℕ → Type 0
Kept old new units = AllByRecursion (λ u. new u ≡ old u) units

-- each child keeps its units
abbrev EachKept : Units → Units → ℕ → List Pair → Type 0
EachKept old new l pairs = AllByRecursion (λ (pair : Pair). Kept old new (units_on old l pair.page.0)) pairs

each_kept : (old new : Units) (l : ℕ) (pairs : List Pair) → Kept old new (flat_map (λ pair. units_on old l pair.page.0) pairs) → EachKept old new l pairs
each_kept old new l [] h = tt
each_kept old new l (pair ∷ pairs) h =
    let parts = split_each (λ u. new u ≡ old u) (units_on old l pair.page.0) (flat_map (λ p. units_on old l p.page.0) pairs) h in
    (parts.0, each_kept old new l pairs parts.1)

-- what is made of each child is the same, where it is the same for a child that keeps its units
children_same : {A : Type 0} (old new : Units) (l before : ℕ) (make other : ℕ → ℕ → A) (pairs : List Pair) → ((page n : ℕ) → Kept old new (units_on old l page) → other page n ≡ make page n) → EachKept old new l pairs → for_each_child other before pairs ≡ for_each_child make before pairs
children_same old new l before make other [] same kept = refl
children_same old new l before make other (pair ∷ pairs) same kept =
    let here = same pair.page.0 (pair.count - before) kept.0 in
    let rest = children_same old new l pair.count make other pairs same kept.1 in
    cc (here, rest)

each_child_same : (old new : Units) (l before : ℕ) (P Q : ℕ → ℕ → Type 0) (pairs : List Pair) → ((page n : ℕ) → Kept old new (units_on old l page) → P page n → Q page n) → EachKept old new l pairs → EachChild P before pairs → EachChild Q before pairs
each_child_same old new l before P Q [] same kept each = tt
each_child_same old new l before P Q (pair ∷ pairs) same kept each = (same pair.page.0 (pair.count - before) kept.0 each.0, each_child_same old new l pair.count P Q pairs same kept.1 each.1)

each_pair_same : (old new : Units) (l : ℕ) (P Q : ℕ → Type 0) (pairs : List Pair) → ((page : ℕ) → Kept old new (units_on old l page) → P page → Q page) → EachKept old new l pairs → AllByRecursion (λ (pair : Pair). P pair.page.0) pairs → AllByRecursion (λ (pair : Pair). Q pair.page.0) pairs
each_pair_same old new l P Q [] same kept each = tt
each_pair_same old new l P Q (pair ∷ pairs) same kept each = (same pair.page.0 kept.0 each.0, each_pair_same old new l P Q pairs same kept.1 each.1)

units_map_same : (old new : Units) (l : ℕ) (pairs : List Pair) → ((page : ℕ) → Kept old new (units_on old l page) → units_on new l page ≡ units_on old l page) → EachKept old new l pairs → flat_map (λ (pair : Pair). units_on new l pair.page.0) pairs ≡ flat_map (λ (pair : Pair). units_on old l pair.page.0) pairs
units_map_same old new l [] same kept = refl
units_map_same old new l (pair ∷ pairs) same kept =
    let here = same pair.page.0 kept.0 in
    let rest = units_map_same old new l pairs same kept.1 in
    cc (here, rest)

-- ---- the laws

pub units_same : (old new : Units) (l page : ℕ) → Kept old new (units_on old l page) → units_on new l page ≡ units_on old l page
units_same old new zero page kept = refl
units_same old new (suc l) page kept =
    let pairs : pairs_on (new page) ≡ pairs_on (old page) = ap pairs_on kept.0 in
    let below = units_map_same old new l (pairs_on (old page)) (λ p k. units_same old new l p k) (each_kept old new l (pairs_on (old page)) kept.1) in
    ap (λ (ps : List Pair). page ∷ flat_map (λ pair. units_on new l pair.page.0) ps) pairs ∙ ap (λ (us : List ℕ). page ∷ us) below

pub bytes_same : (old new : Units) (l page n : ℕ) → Kept old new (units_on old l page) → bytes_on new l page n ≡ bytes_on old l page n
bytes_same old new zero page n kept = ap (take n) kept.0
bytes_same old new (suc l) page n kept =
    let pairs : pairs_on (new page) ≡ pairs_on (old page) = ap pairs_on kept.0 in
    let below = children_same old new l 0 (bytes_on old l) (bytes_on new l) (pairs_on (old page)) (λ p m k. bytes_same old new l p m k) (each_kept old new l (pairs_on (old page)) kept.1) in
    ap (λ (ps : List Pair). concat (for_each_child (bytes_on new l) 0 ps)) pairs ∙ ap concat below

pub shape_same : (old new : Units) (l page n : ℕ) → Kept old new (units_on old l page) → shape_on new l page n ≡ shape_on old l page n
shape_same old new zero page n kept = refl
shape_same old new (suc l) page n kept =
    let pairs : pairs_on (new page) ≡ pairs_on (old page) = ap pairs_on kept.0 in
    let below = children_same old new l 0 (shape_on old l) (shape_on new l) (pairs_on (old page)) (λ p m k. shape_same old new l p m k) (each_kept old new l (pairs_on (old page)) kept.1) in
    ap (λ (ps : List Pair). for_each_child (shape_on new l) 0 ps) pairs ∙ below

pub named_same : (g : Geometry) (old new : Units) (l page : ℕ) → Kept old new (units_on old l page) → IsNamed g old l page → IsNamed g new l page
named_same g old new zero page kept named = named
named_same g old new (suc l) page kept named =
    let below = each_pair_same old new l (IsNamed g old l) (IsNamed g new l) (pairs_on (old page)) (λ p k h. named_same g old new l p k h) (each_kept old new l (pairs_on (old page)) kept.1) named.2 in
    let both = subst (λ (bytes : List ℕ). PairsOf g.fan bytes (suc l) (pairs_on bytes) × AllByRecursion (λ (pair : Pair). IsNamed g new l pair.page.0) (pairs_on bytes)) (sym kept.0) (named.1, below) in
    (named.0, both.0, both.1)

pub sized_same : (g : Geometry) (old new : Units) (l page n : ℕ) → Kept old new (units_on old l page) → HasSize g old l page n → HasSize g new l page n
sized_same g old new zero page n kept sized = sized
sized_same g old new (suc l) page n kept sized =
    let below = each_child_same old new l 0 (HasSize g old l) (HasSize g new l) (pairs_on (old page)) (λ p m k h. sized_same g old new l p m k h) (each_kept old new l (pairs_on (old page)) kept.1) sized.1 in
    subst (λ (bytes : List ℕ). (total_of (pairs_on bytes) ≡ n) × EachChild (HasSize g new l) 0 (pairs_on bytes)) (sym kept.0) (sized.0, below)
