-- The units in use are exactly those that are reached.
use Rattle.std.proofs.Common.{◌≡◌, ◌↔◌, ◌⊎◌, inl, inr, ℕ, zero, suc, ◌+◌, ◌<◌, ◌≤◌, Bool, true, List, [], ◌∷◌, ◌++◌, Option, Some, None, refl, sym, subst, ◌∙◌, arith}
use Rattle.std.specs.Prelude.{map}
use Rattle.std.specs.List.{flat_map, AllByRecursion}
use Rattle.std.proofs.lemmas.Bool.{cases_eq}
use Rattle.ex_base.specs.declared.geometry.Geometry.{Geometry}
use Rattle.ex_base.specs.declared.names.PageNo.{PageNo}
use Rattle.ex_base.specs.declared.names.Root.{Root}
use Rattle.ex_base.specs.Area.{InPageArea, NamesLeaf}
use Rattle.ex_base.specs.Ports.{times}
use Rattle.ex_base.proofs.Counts.{times-append, times_apart, times_here}
use Rattle.trees.specs.declared.Pair.{Pair}
use Rattle.trees.specs.Node.{PairsOf, pairs_on, level_on}
use Rattle.trees.proofs.NodeLaws.{spelled_reads}
use Rattle.trees.specs.Trees.{Units, IsNamed, RootNamed, units_on, root_units, root_units_at}
use Rattle.trees.specs.Owners.{named_on, all_named, StandsAt, IsInner, IsOwned}
use Rattle.trees.proofs.Released.{named_owned}
pub use Rattle.trees.proofs.Released.{some_of}

-- ---- counts

-- an item of a list has what holds of each
pub at_one : (P : ℕ → Type 0) (xs : List ℕ) (p : ℕ) → AllByRecursion P xs → 1 ≤ times p xs → P p
at_one P [] p all some = absurd (omega (arith, some))
at_one P (x ∷ xs) p all some = elim (cases_eq p x) [
  | inl same ↦ subst P (sym same) all.0
  | inr differ ↦ at_one P xs p all.1 (omega (arith, some, times_apart p x xs differ))
]

-- what stands in joined lists stands in one of them
in_one : {A : Type 0} (f : A → List ℕ) (p : ℕ) (xs : List A) (P : A → Type 0) → AllByRecursion P xs → 1 ≤ times p (flat_map f xs) → (x : A) × P x × (1 ≤ times p (f x))
in_one f p [] P all some = absurd (omega (arith, some))
in_one f p (x ∷ xs) P all some = elim (some_or p (f x)) [
  | inl here ↦ (x, all.0, here)
  | inr none ↦ in_one f p xs P all.1 (omega (arith, some, times-append p (f x) (flat_map f xs), none))
]
  where
    some_or : (p : ℕ) (ys : List ℕ) → (1 ≤ times p ys) ⊎ (times p ys ≡ 0)
    some_or p ys = by (times p ys) refl
      where
        by : (n : ℕ) → times p ys ≡ n → (1 ≤ times p ys) ⊎ (times p ys ≡ 0)
        by zero e = inr e
        by (suc n) e = inl (omega (arith, e))

-- ---- levels

pub page_no_leaf : (g : Geometry) (u : ℕ) → InPageArea g u → NamesLeaf g u → ⊥
page_no_leaf g u page leaf = absurd (omega (arith, page.1, leaf.2))

byte_level : (fan : ℕ) (page : List ℕ) (level : ℕ) → fan ≤ 340 → PairsOf fan page level (pairs_on page) → level_on page ≡ level
byte_level fan page level small is = (spelled_reads fan page level (pairs_on page) small is).same_level

-- a unit stands at one level
pub one_level : (g : Geometry) (units : Units) (k l u : ℕ) → g.fan ≤ 340 → StandsAt g units k u → StandsAt g units l u → k ≡ l
one_level g units zero zero u small a b = refl
one_level g units zero (suc l) u small a b = absurd (page_no_leaf g u b.0 a)
one_level g units (suc k) zero u small a b = absurd (page_no_leaf g u a.0 b)
one_level g units (suc k) (suc l) u small a b = sym (byte_level g.fan (units u) (suc k) small a.1) ∙ byte_level g.fan (units u) (suc l) small b.1

level_byte : (g : Geometry) (units : Units) (l u : ℕ) → StandsAt g units l u → l < 256
level_byte g units zero u at = omega arith
level_byte g units (suc l) u at = at.1.fits.byte

-- ---- a tree has what its units name

stands_named : (g : Geometry) (units : Units) (l page : ℕ) → IsNamed g units l page → StandsAt g units l page
stands_named g units zero page named = named
stands_named g units (suc l) page named = (named.0, named.1)

root_first : (units : Units) (l page : ℕ) → 1 ≤ times page (units_on units l page)
root_first units zero page = omega (arith, times_here page page [] refl)
root_first units (suc l) page = omega (arith, times_here page page (flat_map (λ (pair : Pair). units_on units l pair.page.0) (pairs_on (units page))) refl)

-- the child of a node is a unit of the node's tree
child_in : (units : Units) (l u : ℕ) (pairs : List Pair) → 1 ≤ times u (map (λ (pair : Pair). pair.page.0) pairs) → 1 ≤ times u (flat_map (λ (pair : Pair). units_on units l pair.page.0) pairs)
child_in units l u [] some = absurd (omega (arith, some))
child_in units l u (pair ∷ pairs) some = elim (cases_eq u pair.page.0) [
  | inl same ↦
      let first : 1 ≤ times u (units_on units l pair.page.0) = subst (λ v. 1 ≤ times v (units_on units l pair.page.0)) (sym same) (root_first units l pair.page.0) in
      omega (arith, times-append u (units_on units l pair.page.0) (flat_map (λ (p : Pair). units_on units l p.page.0) pairs), first)
  | inr differ ↦
      let rest = child_in units l u pairs (omega (arith, some, times_apart u pair.page.0 (map (λ (p : Pair). p.page.0) pairs) differ)) in
      omega (arith, times-append u (units_on units l pair.page.0) (flat_map (λ (p : Pair). units_on units l p.page.0) pairs), rest)
]

closed_below : (g : Geometry) (units : Units) (p u : ℕ) → (l : ℕ) → (pairs : List Pair)
    → ((page : ℕ) → IsNamed g units l page → 1 ≤ times p (units_on units l page) → 1 ≤ times u (units_on units l page))
    → AllByRecursion (λ (pair : Pair). IsNamed g units l pair.page.0) pairs → 1 ≤ times p (flat_map (λ (pair : Pair). units_on units l pair.page.0) pairs)
    → 1 ≤ times u (flat_map (λ (pair : Pair). units_on units l pair.page.0) pairs)
closed_below g units p u l [] each named has = has
closed_below g units p u l (pair ∷ pairs) each named has = elim (some_of (times p (units_on units l pair.page.0))) [
  | inl here ↦ omega (arith, times-append u (units_on units l pair.page.0) (flat_map (λ (q : Pair). units_on units l q.page.0) pairs), each pair.page.0 named.0 here)
  | inr none ↦
      let rest = closed_below g units p u l pairs each named.1 (omega (arith, has, none, times-append p (units_on units l pair.page.0) (flat_map (λ (q : Pair). units_on units l q.page.0) pairs))) in
      omega (arith, times-append u (units_on units l pair.page.0) (flat_map (λ (q : Pair). units_on units l q.page.0) pairs), rest)
]

-- what a node of a tree names is a unit of the tree
closed : (g : Geometry) (units : Units) (p u : ℕ) → InPageArea g p → 1 ≤ times u (named_on units p) → (l page : ℕ) → IsNamed g units l page → 1 ≤ times p (units_on units l page) → 1 ≤ times u (units_on units l page)
closed g units p u area names zero page named has = elim (cases_eq p page) [
  | inl same ↦ absurd (page_no_leaf g p area (subst (NamesLeaf g) (sym same) named))
  | inr differ ↦ absurd (omega (arith, has, times_apart p page [] differ))
]
closed g units p u area names (suc l) page named has = elim (cases_eq p page) [
  | inl same ↦
      let below = child_in units l u (pairs_on (units page)) (subst (λ q. 1 ≤ times u (named_on units q)) same names) in
      omega (arith, below)
  | inr differ ↦
      let below = closed_below g units p u l (pairs_on (units page)) (λ q k h. closed g units p u area names l q k h) named.2 (omega (arith, has, times_apart p page (flat_map (λ (pair : Pair). units_on units l pair.page.0) (pairs_on (units page))) differ)) in
      omega (arith, below)
]

-- ---- roots

abbrev pub page_list : Option PageNo → List ℕ
page_list None = []
page_list (Some page) = page.0 ∷ []

abbrev pub root_pages : List Root → List ℕ
root_pages roots = flat_map (λ (root : Root). page_list root.page) roots

abbrev pub AreNamed : Geometry → Units → List Root → Type 0
AreNamed g units roots = AllByRecursion (λ (root : Root). RootNamed g units root.height root.page) roots

root_reaches : (units : Units) (u : ℕ) (root : Root) → 1 ≤ times u (page_list root.page) → 1 ≤ times u (root_units units root)
root_reaches units u root some = by root.page some
  where
    by : (page : Option PageNo) → 1 ≤ times u (page_list page) → 1 ≤ times u (root_units_at units root.height page)
    by None some = some
    by (Some page) some = elim (cases_eq u page.0) [
      | inl same ↦ subst (λ v. 1 ≤ times v (units_on units root.height page.0)) (sym same) (root_first units root.height page.0)
      | inr differ ↦ absurd (omega (arith, some, times_apart u page.0 [] differ))
    ]

-- what holds of a root's units holds of those of all roots
roots_reach : (units : Units) (u : ℕ) (roots : List Root) → 1 ≤ times u (root_pages roots) → 1 ≤ times u (flat_map (root_units units) roots)
roots_reach units u [] some = absurd (omega (arith, some))
roots_reach units u (root ∷ roots) some = elim (some_of (times u (page_list root.page))) [
  | inl here ↦ omega (arith, times-append u (root_units units root) (flat_map (root_units units) roots), root_reaches units u root here)
  | inr none ↦ omega (arith, times-append u (root_units units root) (flat_map (root_units units) roots), roots_reach units u roots (omega (arith, some, none, times-append u (page_list root.page) (root_pages roots))))
]

root_closed : (g : Geometry) (units : Units) (p u : ℕ) → InPageArea g p → 1 ≤ times u (named_on units p) → (root : Root) → RootNamed g units root.height root.page → 1 ≤ times p (root_units units root) → 1 ≤ times u (root_units units root)
root_closed g units p u area names root named has = by root.page named has
  where
    by : (page : Option PageNo) → RootNamed g units root.height page → 1 ≤ times p (root_units_at units root.height page) → 1 ≤ times u (root_units_at units root.height page)
    by None named has = absurd (omega (arith, has))
    by (Some page) named has = closed g units p u area names root.height page.0 named has

roots_closed : (g : Geometry) (units : Units) (p u : ℕ) → InPageArea g p → 1 ≤ times u (named_on units p) → (roots : List Root) → AreNamed g units roots → 1 ≤ times p (flat_map (root_units units) roots) → 1 ≤ times u (flat_map (root_units units) roots)
roots_closed g units p u area names [] named has = absurd (omega (arith, has))
roots_closed g units p u area names (root ∷ roots) named has = elim (some_of (times p (root_units units root))) [
  | inl here ↦ omega (arith, times-append u (root_units units root) (flat_map (root_units units) roots), root_closed g units p u area names root named.0 here)
  | inr none ↦ omega (arith, times-append u (root_units units root) (flat_map (root_units units) roots), roots_closed g units p u area names roots named.1 (omega (arith, has, none, times-append p (root_units units root) (flat_map (root_units units) roots))))
]

-- ---- a unit has an owner exactly where it is reached

module _ (g : Geometry) (units : Units) (used : ℕ → Bool) (refs : ℕ → ℕ) (logged : List ℕ) (roots : List Root) (small : g.fan ≤ 340)
    (is : IsOwned g units used refs logged (root_pages roots)) (named : AreNamed g units roots) where
  -- the node that names a unit stands one level higher, and is in use
  pub record IsNamer (l u : ℕ) : Type 0 where
    pub page : ℕ
    pub names : 1 ≤ times u (named_on units page)
    pub stands : StandsAt g units (suc l) page
    pub owned : 1 ≤ refs page

  inner_each : (nodes : List ℕ) → AllByRecursion (IsInner g units) nodes → ((page : ℕ) → 1 ≤ times page nodes → 1 ≤ refs page) → AllByRecursion (λ page. IsInner g units page × (1 ≤ refs page)) nodes
  inner_each [] inner owned = tt
  inner_each (n ∷ nodes) inner owned = ((inner.0, owned n (omega (arith, times_here n n nodes refl))), inner_each nodes inner.1 (λ page has. owned page (more page has)))
    where
      more : (page : ℕ) → 1 ≤ times page nodes → 1 ≤ times page (n ∷ nodes)
      more page has = omega (arith, has, times-append page (n ∷ []) nodes)

  namer : (l u : ℕ) → StandsAt g units l u → 1 ≤ times u (all_named units is.nodes) → IsNamer l u
  namer l u at some =
      let found = in_one (named_on units) u is.nodes (λ page. IsInner g units page × (1 ≤ refs page)) (inner_each is.nodes is.inner is.owned) some in
      let inner = found.1.0 in
      let below : StandsAt g units inner.level u = at_one (StandsAt g units inner.level) (named_on units found.0) u inner.below found.2 in
      let same : inner.level ≡ l = one_level g units inner.level l u small below at in
      record { page = found.0; names = found.2; stands = subst (λ k. StandsAt g units (suc k) found.0) same inner.stands; owned = found.1.1 }

  area_of : (l u : ℕ) → StandsAt g units (suc l) u → InPageArea g u
  area_of l u at = at.0

  climb : (n l u : ℕ) → 256 ≤ l + n → StandsAt g units l u → 1 ≤ refs u → 1 ≤ times u (flat_map (root_units units) roots)
  climb zero l u top at owned = absurd (omega (arith, top, level_byte g units l u at))
  climb (suc n) l u top at owned = elim (some_of (times u (root_pages roots))) [
    | inl root ↦ roots_reach units u roots root
    | inr none ↦
        let by = namer l u at (omega (arith, owned, none, is.owners u)) in
        let above = climb n (suc l) by.page (omega (arith, top)) by.stands by.owned in
        roots_closed g units by.page u (area_of l by.page by.stands) by.names roots named above
  ]

  -- ---- what is reached is owned

  pair_named : (u : ℕ) (pair : Pair) (pairs : List Pair) → 1 ≤ times pair.page.0 (map (λ (p : Pair). p.page.0) (pair ∷ pairs))
  pair_named u pair pairs = omega (arith, times_here pair.page.0 pair.page.0 (map (λ (p : Pair). p.page.0) pairs) refl)

  below_owned : (l u : ℕ) → ((page : ℕ) → IsNamed g units l page → 1 ≤ refs page → 1 ≤ times u (units_on units l page) → 1 ≤ refs u) → (pairs : List Pair) → AllByRecursion (λ (pair : Pair). IsNamed g units l pair.page.0) pairs
      → ((v : ℕ) → 1 ≤ times v (map (λ (p : Pair). p.page.0) pairs) → 1 ≤ refs v) → 1 ≤ times u (flat_map (λ (pair : Pair). units_on units l pair.page.0) pairs) → 1 ≤ refs u
  below_owned l u each [] named own has = absurd (omega (arith, has))
  below_owned l u each (pair ∷ pairs) named own has = elim (some_of (times u (units_on units l pair.page.0))) [
    | inl here ↦ each pair.page.0 named.0 (own pair.page.0 (pair_named u pair pairs)) here
    | inr none ↦ below_owned l u each pairs named.1 (λ v k. own v (omega (arith, k, times-append v (pair.page.0 ∷ []) (map (λ (p : Pair). p.page.0) pairs)))) (omega (arith, has, none, times-append u (units_on units l pair.page.0) (flat_map (λ (q : Pair). units_on units l q.page.0) pairs)))
  ]

  tree_owned : (l page u : ℕ) → IsNamed g units l page → 1 ≤ refs page → 1 ≤ times u (units_on units l page) → 1 ≤ refs u
  tree_owned zero page u named owned has = elim (cases_eq u page) [
    | inl same ↦ subst (λ v. 1 ≤ refs v) (sym same) owned
    | inr differ ↦ absurd (omega (arith, has, times_apart u page [] differ))
  ]
  tree_owned (suc l) page u named owned has = elim (cases_eq u page) [
    | inl same ↦ subst (λ v. 1 ≤ refs v) (sym same) owned
    | inr differ ↦ below_owned l u (λ q k o h. tree_owned l q u k o h) (pairs_on (units page)) named.2 (λ v k. named_owned g units used refs logged (root_pages roots) is page v (is.listed page named.0 owned) k) (omega (arith, has, times_apart u page (flat_map (λ (pair : Pair). units_on units l pair.page.0) (pairs_on (units page))) differ))
  ]

  roots_owned : (rs : List Root) → AreNamed g units rs → ((v : ℕ) → 1 ≤ times v (root_pages rs) → 1 ≤ refs v) → (u : ℕ) → 1 ≤ times u (flat_map (root_units units) rs) → 1 ≤ refs u
  roots_owned [] named own u has = absurd (omega (arith, has))
  roots_owned (root ∷ rs) named own u has = elim (some_of (times u (root_units units root))) [
    | inl here ↦ one root.page named.0 (λ v k. own v (omega (arith, k, times-append v (page_list root.page) (root_pages rs)))) here
    | inr none ↦ roots_owned rs named.1 (λ v k. own v (omega (arith, k, times-append v (page_list root.page) (root_pages rs)))) u (omega (arith, has, none, times-append u (root_units units root) (flat_map (root_units units) rs)))
  ]
    where
      one : (page : Option PageNo) → RootNamed g units root.height page → ((v : ℕ) → 1 ≤ times v (page_list page) → 1 ≤ refs v) → 1 ≤ times u (root_units_at units root.height page) → 1 ≤ refs u
      one None named own has = absurd (omega (arith, has))
      one (Some page) named own has = tree_owned root.height page.0 u named (own page.0 (omega (arith, times_here page.0 page.0 [] refl))) has

  -- each unit that has an owner is reached,
  pub owned_reached : (u : ℕ) → 1 ≤ refs u → 1 ≤ times u (flat_map (root_units units) roots)
  owned_reached u owned = elim (some_of (times u (root_pages roots))) [
    | inl root ↦ roots_reach units u roots root
    | inr none ↦
        let found = in_one (named_on units) u is.nodes (λ page. IsInner g units page × (1 ≤ refs page)) (inner_each is.nodes is.inner is.owned) (omega (arith, owned, none, is.owners u)) in
        let above = climb 256 (suc found.1.0.level) found.0 (omega arith) found.1.0.stands found.1.1 in
        roots_closed g units found.0 u found.1.0.stands.0 found.2 roots named above
  ]

  -- and the other way round
  pub reached_owned : (u : ℕ) → 1 ≤ times u (flat_map (root_units units) roots) → 1 ≤ refs u
  reached_owned u has = roots_owned roots named (λ v k. omega (arith, is.owners v, k)) u has

  -- The units in use are the logged pages and what the roots reach.
  pub exact_reach : (u : ℕ) → (used u ≡ true) ↔ (1 ≤ times u (logged ++ flat_map (root_units units) roots))
  exact_reach u = (
    λ yes. elim (some_of (refs u)) [
      | inl owned ↦ omega (arith, owned_reached u owned, times-append u logged (flat_map (root_units units) roots))
      | inr none ↦ omega (arith, (is.in_use u).0 yes, none, times-append u logged (flat_map (root_units units) roots))
    ],
    λ has. (is.in_use u).1 (elim (some_of (times u logged)) [
      | inl page ↦ omega (arith, page)
      | inr none ↦ omega (arith, reached_owned u (omega (arith, has, none, times-append u logged (flat_map (root_units units) roots))))
    ]),
  )
