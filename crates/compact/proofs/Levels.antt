-- The trees in a tree: their levels, and that what is read of them depends on their own units alone.
use Rattle.std.proofs.Common.{◌≡◌, inl, inr, ℕ, zero, suc, ◌≤◌, Bool, true, false, List, [], ◌∷◌, ◌++◌, map, refl, ap, subst, ◌∙◌, arith}
use Rattle.std.specs.Prelude.{if◌then◌else◌, ◌||◌, ⊤}
use Rattle.std.specs.List.{AllByRecursion, flat_map}
use Rattle.ex_base.specs.declared.geometry.Geometry.{Geometry}
use Rattle.ex_base.specs.Area.{NamesLeaf}
use Rattle.ex_base.proofs.Each.{split_each, each_as, each_mapped, each_parted, flat_same}
use Rattle.ex_base.proofs.Rows.{each-append}
use Rattle.trees.specs.declared.Pair.{Pair}
use Rattle.trees.specs.Made.{Has}
use Rattle.trees.specs.Names.{page_of_pair}
use Rattle.trees.specs.Node.{pairs_on}
use Rattle.trees.specs.Owners.{named_on, StandsAt}
use Rattle.trees.specs.Rows.{parts_of, row_units}
use Rattle.trees.specs.Trees.{Units, IsNamed, units_on}
use Rattle.trees.specs.declared.rows.Part.{Part}
use Rattle.trees.proofs.Laid.{has_left, has_right}
use Rattle.trees.proofs.Over.{has_split}
use Rattle.trees.proofs.Owned.{one_level}
use Rattle.trees.proofs.Parts.{narrow}
use Rattle.trees.proofs.SameUnits.{Kept}
use Rattle.compact.specs.High.{any_of, has_high, is_high, nodes_above, high_leaves, low_leaves}

-- ---- levels

pub stands : (g : Geometry) (u : Units) (l page : ℕ) → IsNamed g u l page → StandsAt g u l page
stands g u zero page named = named
stands g u (suc l) page named = (named.0, named.1)

pub same_level : (g : Geometry) (u : Units) (k l page : ℕ) → IsNamed g u k page → IsNamed g u l page → k ≡ l
same_level g u k l page one two = one_level g u k l page (narrow g) (stands g u k page one) (stands g u l page two)

-- a tree of at most a level stands at a unit, and P holds of its units
pub record SubTree (g : Geometry) (u : Units) (l : ℕ) (P : ℕ → Type 0) (unit : ℕ) : Type 0 where
  pub level : ℕ
  pub fits : level ≤ l
  pub named : IsNamed g u level unit
  pub all : AllByRecursion P (units_on u level unit)

in_list : {A : Type 0} (g : Geometry) (u : Units) (l : ℕ) (P : ℕ → Type 0) (page_of : A → ℕ) (xs : List A) (unit : ℕ) → ((page : ℕ) → IsNamed g u l page → AllByRecursion P (units_on u l page) → Has (units_on u l page) unit → SubTree g u l P unit)
    → AllByRecursion (λ x. IsNamed g u l (page_of x)) xs → AllByRecursion P (flat_map (λ x. units_on u l (page_of x)) xs) → Has (flat_map (λ x. units_on u l (page_of x)) xs) unit → SubTree g u l P unit
in_list g u l P page_of [] unit one named all has = absurd has
in_list g u l P page_of (x ∷ xs) unit one named all has =
    let both = split_each P (units_on u l (page_of x)) (flat_map (λ x. units_on u l (page_of x)) xs) all in
    elim (has_split (units_on u l (page_of x)) (flat_map (λ x. units_on u l (page_of x)) xs) unit has) [
      | inl here ↦ one (page_of x) named.0 both.0 here
      | inr rest ↦ in_list g u l P page_of xs unit one named.1 both.1 rest
    ]

one_higher : (g : Geometry) (u : Units) (l : ℕ) (P : ℕ → Type 0) (unit : ℕ) → SubTree g u l P unit → SubTree g u (suc l) P unit
one_higher g u l P unit t = record { level = t.level; fits = omega (arith, t.fits); named = t.named; all = t.all }

-- each unit of a tree is the root of a tree in it
pub sub_tree : (g : Geometry) (u : Units) (P : ℕ → Type 0) (l page unit : ℕ) → IsNamed g u l page → AllByRecursion P (units_on u l page) → Has (units_on u l page) unit → SubTree g u l P unit
sub_tree g u P zero page unit named all (inl same) = subst (SubTree g u zero P) same (record { level = 0; fits = omega arith; named = named; all = all })
sub_tree g u P zero page unit named all (inr none) = absurd none
sub_tree g u P (suc l) page unit named all (inl same) = subst (SubTree g u (suc l) P) same (record { level = suc l; fits = omega arith; named = named; all = all })
sub_tree g u P (suc l) page unit named all (inr below) =
    one_higher g u l P unit (in_list g u l P (λ (pair : Pair). pair.page.0) (pairs_on (u page)) unit (λ p n a h. sub_tree g u P l p unit n a h) named.2 all.1 below)

true_of_each : (xs : List ℕ) → AllByRecursion (λ p. ⊤) xs
true_of_each [] = tt
true_of_each (x ∷ xs) = (tt, true_of_each xs)

-- a node is none of the units below it
pub not_below : (g : Geometry) (u : Units) (l page : ℕ) (row : List Part) → IsNamed g u (suc l) page → AllByRecursion (λ (part : Part). IsNamed g u l part.page.0) row → Has (row_units u l row) page → ⊥
not_below g u l page row named below has =
    let t = in_list g u l (λ p. ⊤) (λ (part : Part). part.page.0) row page (λ p n a h. sub_tree g u (λ p. ⊤) l p page n a h) below (true_of_each (row_units u l row)) has in
    omega (arith, t.fits, same_level g u (suc l) t.level page named t.named)

-- ---- what is read of a tree

any_same : (f h : ℕ → Bool) (K : ℕ → Type 0) (xs : List ℕ) → ((x : ℕ) → K x → h x ≡ f x) → AllByRecursion K xs → any_of h xs ≡ any_of f xs
any_same f h K [] same all = refl
any_same f h K (x ∷ xs) same all = ap (λ (b : Bool). b || any_of h xs) (same x all.0) ∙ ap (λ (b : Bool). f x || b) (any_same f h K xs same all.1)

pub record SameHigh (g : Geometry) (dense : ℕ) (u v : Units) (l page : ℕ) : Type 0 where
  pub high : has_high g dense v l page ≡ has_high g dense u l page
  pub nodes : nodes_above g dense v l page ≡ nodes_above g dense u l page
  pub leaves : high_leaves g dense v l page ≡ high_leaves g dense u l page
  pub low : low_leaves g dense v l page ≡ low_leaves g dense u l page

pub high_same : (g : Geometry) (dense : ℕ) (u v : Units) (l page : ℕ) → Kept u v (units_on u l page) → SameHigh g dense u v l page
high_same g dense u v zero page kept = record { high = refl; nodes = refl; leaves = refl; low = refl }
high_same g dense u v (suc l) page kept =
    let names : named_on v page ≡ named_on u page = ap (λ (b : List ℕ). map page_of_pair (pairs_on b)) kept.0 in
    let each : AllByRecursion (λ q. Kept u v (units_on u l q)) (named_on u page) =
    each_mapped (λ q. Kept u v (units_on u l q)) page_of_pair (pairs_on (u page)) (each_parted (λ p. v p ≡ u p) (λ (pair : Pair). units_on u l pair.page.0) (pairs_on (u page)) kept.1) in
    let high : has_high g dense v (suc l) page ≡ has_high g dense u (suc l) page =
    ap (any_of (has_high g dense v l)) names ∙ any_same (has_high g dense u l) (has_high g dense v l) (λ q. Kept u v (units_on u l q)) (named_on u page) (λ q k. (high_same g dense u v l q k).high) each in
    let below : flat_map (nodes_above g dense v l) (named_on v page) ≡ flat_map (nodes_above g dense u l) (named_on u page) =
    ap (flat_map (nodes_above g dense v l)) names ∙ flat_same (nodes_above g dense u l) (nodes_above g dense v l) (λ q. Kept u v (units_on u l q)) (named_on u page) (λ q k. (high_same g dense u v l q k).nodes) each in
    record {
      high = high;
      nodes = ap (λ (b : Bool). (if b then page ∷ [] else []) ++ flat_map (nodes_above g dense v l) (named_on v page)) high ∙ ap (λ (xs : List ℕ). (if has_high g dense u (suc l) page then page ∷ [] else []) ++ xs) below;
      leaves = ap (flat_map (high_leaves g dense v l)) names ∙ flat_same (high_leaves g dense u l) (high_leaves g dense v l) (λ q. Kept u v (units_on u l q)) (named_on u page) (λ q k. (high_same g dense u v l q k).leaves) each;
      low = ap (flat_map (low_leaves g dense v l)) names ∙ flat_same (low_leaves g dense u l) (low_leaves g dense v l) (λ q. Kept u v (units_on u l q)) (named_on u page) (λ q k. (high_same g dense u v l q k).low) each;
    }

-- ---- leaves

-- the leaves of a tree that aren't high are units of it
low_pairs : (g : Geometry) (dense : ℕ) (u : Units) (l : ℕ) (pairs : List Pair) → ((page : ℕ) → AllByRecursion (Has (units_on u l page)) (low_leaves g dense u l page))
    → AllByRecursion (Has (flat_map (λ (pair : Pair). units_on u l pair.page.0) pairs)) (flat_map (low_leaves g dense u l) (map page_of_pair pairs))
low_pairs g dense u l [] one = tt
low_pairs g dense u l (pair ∷ pairs) one =
    let here = units_on u l pair.page.0 in
    let rest = flat_map (λ (p : Pair). units_on u l p.page.0) pairs in
    each-append (Has (here ++ rest)) (low_leaves g dense u l pair.page.0) (flat_map (low_leaves g dense u l) (map page_of_pair pairs))
    (each_as (Has here) (Has (here ++ rest)) (low_leaves g dense u l pair.page.0) (λ p has. has_left here rest p has) (one pair.page.0))
    (each_as (Has rest) (Has (here ++ rest)) (flat_map (low_leaves g dense u l) (map page_of_pair pairs)) (λ p has. has_right here rest p has) (low_pairs g dense u l pairs one))

pub low_inside : (g : Geometry) (dense : ℕ) (u : Units) (l page : ℕ) → AllByRecursion (Has (units_on u l page)) (low_leaves g dense u l page)
low_inside g dense u zero page = by_test (is_high g dense page)
  where
    by_test : (b : Bool) → AllByRecursion (Has (page ∷ [])) (if b then [] else page ∷ [])
    by_test true = tt
    by_test false = (inl refl, tt)
low_inside g dense u (suc l) page =
    let below = flat_map (λ (pair : Pair). units_on u l pair.page.0) (pairs_on (u page)) in
    each_as (Has below) (Has (page ∷ below)) (flat_map (low_leaves g dense u l) (named_on u page)) (λ p has. inr has) (low_pairs g dense u l (pairs_on (u page)) (λ q. low_inside g dense u l q))

-- and the high ones are named as leaves
high_pairs : (g : Geometry) (dense : ℕ) (u : Units) (l : ℕ) (pairs : List Pair) → ((page : ℕ) → IsNamed g u l page → AllByRecursion (NamesLeaf g) (high_leaves g dense u l page)) → AllByRecursion (λ (pair : Pair). IsNamed g u l pair.page.0) pairs
    → AllByRecursion (NamesLeaf g) (flat_map (high_leaves g dense u l) (map page_of_pair pairs))
high_pairs g dense u l [] one named = tt
high_pairs g dense u l (pair ∷ pairs) one named =
    each-append (NamesLeaf g) (high_leaves g dense u l pair.page.0) (flat_map (high_leaves g dense u l) (map page_of_pair pairs)) (one pair.page.0 named.0) (high_pairs g dense u l pairs one named.1)

pub high_named : (g : Geometry) (dense : ℕ) (u : Units) (l page : ℕ) → IsNamed g u l page → AllByRecursion (NamesLeaf g) (high_leaves g dense u l page)
high_named g dense u zero page named = by_test (is_high g dense page)
  where
    by_test : (b : Bool) → AllByRecursion (NamesLeaf g) (if b then page ∷ [] else [])
    by_test true = (named, tt)
    by_test false = tt
high_named g dense u (suc l) page named = high_pairs g dense u l (pairs_on (u page)) (λ q n. high_named g dense u l q n) named.2

-- the leaves below the trees of a node's row are those below its pairs
pub low_row : (f : ℕ → List ℕ) (before : ℕ) (pairs : List Pair) → flat_map (λ (part : Part). f part.page.0) (parts_of before pairs) ≡ flat_map f (map page_of_pair pairs)
low_row f before [] = refl
low_row f before (pair ∷ pairs) = ap (λ (xs : List ℕ). f pair.page.0 ++ xs) (low_row f pair.count pairs)
