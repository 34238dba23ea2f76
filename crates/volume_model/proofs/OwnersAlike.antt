-- Owners of units over other units, where logged pages leave, and with roots in another order.
use Rattle.std.proofs.Common.{◌≡◌, inl, inr, ℕ, zero, suc, ◌+◌, ◌≤◌, Bool, true, false, List, [], ◌∷◌, ◌++◌, refl, sym, ap, subst, ◌∙◌, arith, true≢false}
use Rattle.std.specs.Prelude.{map}
use Rattle.std.specs.List.{AllByRecursion}
use Rattle.std.proofs.lemmas.Bool.{cases_Bool}
use Rattle.ex_base.specs.declared.geometry.Geometry.{Geometry}
use Rattle.ex_base.specs.declared.names.Root.{Root}
use Rattle.ex_base.specs.Area.{InPageArea}
use Rattle.ex_base.specs.Ports.{times}
use Rattle.ex_base.proofs.Counts.{times-append, times_here}
use Rattle.trees.specs.declared.Pair.{Pair}
use Rattle.trees.specs.Names.{page_of_pair}
use Rattle.trees.specs.Node.{pairs_on}
use Rattle.trees.specs.Owners.{IsInner, IsOwned, StandsAt, all_named, named_on, page_here, root_pages}
use Rattle.trees.specs.Trees.{IsNamed, Units}
use Rattle.trees.proofs.Owned.{at_one, one_level, some_of}
use Rattle.trees.proofs.Released.{each_kept, named_left, stands_kept}

-- what holds of each number that stands in a list
each_there : (P Q : ℕ → Type 0) (xs : List ℕ) → ((p : ℕ) → 1 ≤ times p xs → P p → Q p) → AllByRecursion P xs → AllByRecursion Q xs
each_there P Q [] f all = tt
each_there P Q (x ∷ xs) f all =
    (f x (omega (arith, times_here x x xs refl)) all.0, each_there P Q xs (λ p some is. f p (omega (arith, some, times-append p (x ∷ []) xs)) is) all.1)

module _ (g : Geometry) (units : Units) (used : ℕ → Bool) (refs : ℕ → ℕ) (logged roots : List ℕ) (is : IsOwned g units used refs logged roots) where
  -- what a node in use names has an owner
  pub named_owned : (n u : ℕ) → 1 ≤ times n is.nodes → 1 ≤ times u (named_on units n) → 1 ≤ refs u
  named_owned n u has some = omega (arith, is.owners u, named_left units n u is.nodes has, some)

  -- ---- a whole tree is named where its root stands and has an owner

  each_named : (l : ℕ) (pairs : List Pair) → ((page : ℕ) → StandsAt g units l page → 1 ≤ refs page → IsNamed g units l page) → AllByRecursion (StandsAt g units l) (map page_of_pair pairs)
      → ((u : ℕ) → 1 ≤ times u (map page_of_pair pairs) → 1 ≤ refs u) → AllByRecursion (λ (pair : Pair). IsNamed g units l pair.page.0) pairs
  each_named l [] f below own = tt
  each_named l (pair ∷ pairs) f below own = (
    f pair.page.0 below.0 (own pair.page.0 (omega (arith, times_here pair.page.0 pair.page.0 (map page_of_pair pairs) refl))),
    each_named l pairs f below.1 (λ u has. own u (omega (arith, has, times-append u (pair.page.0 ∷ []) (map page_of_pair pairs)))),
  )

  pub stands_named : (l page : ℕ) → g.fan ≤ 340 → StandsAt g units l page → 1 ≤ refs page → IsNamed g units l page
  stands_named zero page small at owned = at
  stands_named (suc l) page small at owned =
      let has : 1 ≤ times page is.nodes = is.listed page at.0 owned in
      let inner : IsInner g units page = at_one (IsInner g units) is.nodes page is.inner has in
      let same : inner.level ≡ l = (let e = one_level g units (suc inner.level) (suc l) page small inner.stands at in omega (arith, e)) in
      let below : AllByRecursion (StandsAt g units l) (named_on units page) = subst (λ (k : ℕ). AllByRecursion (StandsAt g units k) (named_on units page)) same inner.below in
      (at.0, at.1, each_named l (pairs_on (units page)) (λ q here own. stands_named l q small here own) below (λ u some. named_owned page u has some))

  -- ---- nodes that are kept

  module _ (later : Units) (kept : (u : ℕ) → InPageArea g u → 1 ≤ refs u → later u ≡ units u) where
    node_kept : (n : ℕ) → 1 ≤ times n is.nodes → IsInner g units n → IsInner g later n
    node_kept n has inner =
        let same : later n ≡ units n = kept n inner.stands.0 (is.owned n has) in
        let named : named_on later n ≡ named_on units n = ap (λ (bytes : List ℕ). named_on (λ _. bytes) 0) same in
        record {
          level = inner.level;
          stands = stands_kept g units later (suc inner.level) n (λ area. same) inner.stands;
          below = subst (AllByRecursion (StandsAt g later inner.level)) (sym named)
              (each_there (StandsAt g units inner.level) (StandsAt g later inner.level) (named_on units n)
              (λ u some at. stands_kept g units later inner.level u (λ area. kept u area (named_owned n u has some)) at) inner.below);
        }

    pub nodes_kept : AllByRecursion (IsInner g later) is.nodes
    nodes_kept = each_there (IsInner g units) (IsInner g later) is.nodes node_kept is.inner

    pub names_kept : all_named later is.nodes ≡ all_named units is.nodes
    names_kept = each_kept units later is.nodes (each_there (IsInner g units) (λ n. later n ≡ units n) is.nodes (λ n has inner. kept n inner.stands.0 (is.owned n has)) is.inner)

  -- ---- logged pages that leave

  -- Some logged pages leave and are free from now on, and no unit that has an owner is.
  pub record PagesLeave (later : Units) (left : ℕ → Bool) (rest : List ℕ) : Type 0 where
    pub kept : (u : ℕ) → InPageArea g u → 1 ≤ refs u → later u ≡ units u
    pub fewer : (u : ℕ) → 1 ≤ times u rest → 1 ≤ times u logged
    pub still : (u : ℕ) → left u ≡ true → used u ≡ true
    pub freed : (u : ℕ) → used u ≡ true → left u ≡ false → (refs u ≡ 0) × (times u rest ≡ 0)
    pub all : (u : ℕ) → 1 ≤ times u logged → times u rest ≡ 0 → left u ≡ false

  pub pages_leave : (later : Units) (left : ℕ → Bool) (rest : List ℕ) → PagesLeave later left rest → IsOwned g later left refs rest roots
  pages_leave later left rest leave = record {
    nodes = is.nodes;
    inner = nodes_kept later leave.kept;
    once = is.once;
    owners = λ u. omega (arith, is.owners u, ap (times u) (names_kept later leave.kept));
    listed = is.listed;
    owned = is.owned;
    in_use = λ u. (
      λ used_left. in_rest u used_left,
      λ some. elim (cases_Bool (left u)) [
        | inl stays ↦ stays
        | inr free ↦
            let gone = leave.freed u (was_used u some) free in
            absurd (omega (arith, some, gone.0, gone.1))
      ],
    );
    apart = λ page has. is.apart page (leave.fewer page has);
  }
    where
      was_used : (u : ℕ) → 1 ≤ times u rest + refs u → used u ≡ true
      was_used u some = (is.in_use u).1 (elim (some_of (times u rest)) [
        | inl has ↦ omega (arith, leave.fewer u has)
        | inr none ↦ omega (arith, some, none)
      ])

      in_rest : (u : ℕ) → left u ≡ true → 1 ≤ times u rest + refs u
      in_rest u here = elim (some_of (times u rest)) [
        | inl has ↦ omega (arith, has)
        | inr none ↦ elim (some_of (times u logged)) [
          | inl page ↦ absurd (true≢false (sym here ∙ leave.all u page none))
          | inr no_page ↦ omega (arith, (is.in_use u).0 (leave.still u here), no_page)
        ]
      ]

-- ---- roots in another order

-- Each root stands in both lists as often, and each logged page in both.
pub owned_same : (g : Geometry) (units : Units) (used : ℕ → Bool) (refs : ℕ → ℕ) (logged others roots more : List ℕ) → IsOwned g units used refs logged roots
    → ((u : ℕ) → times u more ≡ times u roots) → ((u : ℕ) → 1 ≤ times u logged → 1 ≤ times u others) → ((u : ℕ) → 1 ≤ times u others → 1 ≤ times u logged)
    → IsOwned g units used refs others more
owned_same g units used refs logged others roots more is same there back = record {
  nodes = is.nodes;
  inner = is.inner;
  once = is.once;
  owners = λ u. omega (arith, is.owners u, same u);
  listed = is.listed;
  owned = is.owned;
  in_use = λ u. (
    λ yes. elim (some_of (times u logged)) [
      | inl some ↦ omega (arith, there u some)
      | inr none ↦ omega (arith, (is.in_use u).0 yes, none)
    ],
    λ some. (is.in_use u).1 (elim (some_of (times u others)) [
      | inl has ↦ omega (arith, back u has)
      | inr none ↦ omega (arith, some, none)
    ]),
  );
  apart = λ page has. is.apart page (back page has);
}

pub roots_same : (g : Geometry) (units : Units) (used : ℕ → Bool) (refs : ℕ → ℕ) (logged roots more : List ℕ) → IsOwned g units used refs logged roots
    → ((u : ℕ) → times u more ≡ times u roots) → IsOwned g units used refs logged more
roots_same g units used refs logged roots more is same = owned_same g units used refs logged logged roots more is same (λ u has. has) (λ u has. has)

-- the pages of a root and of those behind it
pub first_pages : (u : ℕ) (root : Root) (roots : List Root) → times u (root_pages (root ∷ roots)) ≡ times u (root_pages (root ∷ [])) + times u (root_pages roots)
first_pages u root roots = omega (arith, times-append u (page_here root.page) (root_pages roots), times-append u (page_here root.page) [])

-- One root stands first, so that an owner less of its tree leaves the others.
pub root_first : (g : Geometry) (units : Units) (used : ℕ → Bool) (refs : ℕ → ℕ) (logged : List ℕ) (root : Root) (roots : List Root) (more : List ℕ) → IsOwned g units used refs logged (root_pages (root ∷ roots) ++ more)
    → IsOwned g units used refs logged (root_pages (root ∷ []) ++ (root_pages roots ++ more))
root_first g units used refs logged root roots more is =
    roots_same g units used refs logged (root_pages (root ∷ roots) ++ more) (root_pages (root ∷ []) ++ (root_pages roots ++ more)) is
    (λ u. omega (
      arith,
      first_pages u root roots,
      times-append u (root_pages (root ∷ roots)) more,
      times-append u (root_pages (root ∷ [])) (root_pages roots ++ more),
      times-append u (root_pages roots) more,
    ))
