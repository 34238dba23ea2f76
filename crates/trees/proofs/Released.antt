-- An owner is taken away.
use Rattle.std.proofs.Common.{◌≡◌, ◌≢◌, ◌↔◌, ◌⊎◌, inl, inr, ℕ, zero, suc, ◌+◌, ◌≤◌, Bool, true, false, List, [], ◌∷◌, ◌++◌, refl, sym, ap, subst, ◌∙◌, arith, true≢false}
use Rattle.std.specs.List.{AllByRecursion}
use Rattle.std.proofs.lemmas.Bool.{cases_eq}
use Rattle.ex_base.specs.declared.geometry.Geometry.{Geometry}
use Rattle.ex_base.specs.Area.{InPageArea}
use Rattle.ex_base.specs.Ports.{times}
use Rattle.ex_base.proofs.Counts.{times-append, times_apart, times_here}
use Rattle.trees.specs.Node.{PairsOf, pairs_on}
use Rattle.trees.specs.Trees.{Units}
use Rattle.trees.specs.Owners.{named_on, all_named, StandsAt, IsInner, IsOwned}

-- a count is one or more, or none
pub some_of : (n : ℕ) → (1 ≤ n) ⊎ (n ≡ 0)
some_of zero = inr refl
some_of (suc n) = inl (omega arith)

-- the first of a number in a list taken out
abbrev pub without_one : ℕ → List ℕ → List ℕ
without_one p [] = []
without_one p (x ∷ xs) = elim (cases_eq p x) [ inl same ↦ xs | inr differ ↦ x ∷ without_one p xs ]

pub gone : (p q : ℕ) (xs : List ℕ) → p ≢ q → times q (without_one p xs) ≡ times q xs
gone p q [] differ = refl
gone p q (x ∷ xs) differ = (elim (cases_eq p x) as (λ c. times q (elim c [ inl same ↦ xs | inr other ↦ x ∷ without_one p xs ]) ≡ times q (x ∷ xs)) [
  | inl same ↦ sym (times_apart q x xs (λ e. differ (same ∙ sym e)))
  | inr other ↦ let rest = gone p q xs differ in cc (rest)
])

pub one_less : (p : ℕ) (xs : List ℕ) → 1 ≤ times p xs → times p (without_one p xs) + 1 ≡ times p xs
one_less p [] some = absurd (omega (arith, some))
one_less p (x ∷ xs) some = (elim (cases_eq p x) as (λ c. times p (elim c [ inl same ↦ xs | inr other ↦ x ∷ without_one p xs ]) + 1 ≡ times p (x ∷ xs)) [
  | inl same ↦ omega (arith, times_here p x xs same)
  | inr other ↦ omega (arith, one_less p xs (omega (arith, some, times_apart p x xs other)), times_apart p x xs other, times_apart p x (without_one p xs) other)
])

pub each_left : (P : ℕ → Type 0) (p : ℕ) (xs : List ℕ) → AllByRecursion P xs → AllByRecursion P (without_one p xs)
each_left P p [] all = tt
each_left P p (x ∷ xs) all = elim (cases_eq p x) as (λ c. AllByRecursion P (elim c [ inl same ↦ xs | inr other ↦ x ∷ without_one p xs ])) [
  | inl same ↦ all.1
  | inr other ↦ (all.0, each_left P p xs all.1)
]

pub named_left : (units : Units) (p u : ℕ) (nodes : List ℕ) → 1 ≤ times p nodes → times u (all_named units (without_one p nodes)) + times u (named_on units p) ≡ times u (all_named units nodes)
named_left units p u [] some = absurd (omega (arith, some))
named_left units p u (n ∷ nodes) some = elim (cases_eq p n) as (λ c. times u (all_named units (elim c [ inl same ↦ nodes | inr other ↦ n ∷ without_one p nodes ])) + times u (named_on units p) ≡ times u (all_named units (n ∷ nodes))) [
  | inl same ↦ omega (arith, times-append u (named_on units n) (all_named units nodes), ap (λ q. times u (named_on units q)) same)
  | inr other ↦ omega (arith, times-append u (named_on units n) (all_named units nodes), times-append u (named_on units n) (all_named units (without_one p nodes)), named_left units p u nodes (omega (arith, some, times_apart p n nodes other)))
]

-- what a node that stands there names has an owner
pub named_owned : (g : Geometry) (units : Units) (used : ℕ → Bool) (refs : ℕ → ℕ) (logged roots : List ℕ) (is : IsOwned g units used refs logged roots) (n u : ℕ) → 1 ≤ times n is.nodes → 1 ≤ times u (named_on units n) → 1 ≤ refs u
named_owned g units used refs logged roots is n u stands names = omega (arith, is.owners u, named_left units n u is.nodes stands, names)

-- ---- units that are kept where nodes are

pub each_kept : (units later : Units) (nodes : List ℕ) → AllByRecursion (λ n. later n ≡ units n) nodes → all_named later nodes ≡ all_named units nodes
each_kept units later [] kept = refl
each_kept units later (n ∷ nodes) kept =
    let here : named_on later n ≡ named_on units n = ap (λ (bytes : List ℕ). named_on (λ _. bytes) 0) kept.0 in
    let rest = each_kept units later nodes kept.1 in
    cc (here, rest)

pub stands_kept : (g : Geometry) (units later : Units) (l u : ℕ) → (InPageArea g u → later u ≡ units u) → StandsAt g units l u → StandsAt g later l u
stands_kept g units later zero u kept at = at
stands_kept g units later (suc l) u kept at = (at.0, subst (λ (bytes : List ℕ). PairsOf g.fan bytes (suc l) (pairs_on bytes)) (sym (kept at.0)) at.1)

-- ---- an owner less

module _ (g : Geometry) (units : Units) (used : ℕ → Bool) (refs : ℕ → ℕ) (logged roots : List ℕ) (p : ℕ) (is : IsOwned g units used refs logged (p ∷ roots)) where
  -- another one is left
  pub owner_left : (later : ℕ → ℕ) → 2 ≤ refs p → later p + 1 ≡ refs p → ((q : ℕ) → q ≢ p → later q ≡ refs q) → IsOwned g units used later logged roots
  owner_left later two less same = record {
    nodes = is.nodes;
    inner = is.inner;
    once = is.once;
    owners = λ u. elim (cases_eq u p) [
      | inl e ↦ subst (λ v. later v ≡ times v roots + times v (all_named units is.nodes)) (sym e) (omega (arith, less, is.owners p, times_here p p roots refl))
      | inr d ↦ omega (arith, same u d, is.owners u, times_apart u p roots d)
    ];
    listed = λ page area some. is.listed page area (at_least page some);
    owned = λ page has. still page (is.owned page has);
    in_use = λ u. (λ yes. alive u ((is.in_use u).0 yes), λ some. (is.in_use u).1 (before u some));
    apart = λ page has. elim (cases_eq page p) [
      | inl e ↦ absurd (omega (arith, two, subst (λ v. refs v ≡ 0) e (is.apart page has)))
      | inr d ↦ omega (arith, same page d, is.apart page has)
    ];
  }
    where
      at_least : (u : ℕ) → 1 ≤ later u → 1 ≤ refs u
      at_least u some = elim (cases_eq u p) [ inl e ↦ subst (λ v. 1 ≤ refs v) (sym e) (omega (arith, two)) | inr d ↦ omega (arith, same u d, some) ]

      still : (u : ℕ) → 1 ≤ refs u → 1 ≤ later u
      still u some = elim (cases_eq u p) [ inl e ↦ subst (λ v. 1 ≤ later v) (sym e) (omega (arith, two, less)) | inr d ↦ omega (arith, same u d, some) ]

      alive : (u : ℕ) → 1 ≤ times u logged + refs u → 1 ≤ times u logged + later u
      alive u some = elim (some_of (refs u)) [ inl one ↦ omega (arith, still u one) | inr none ↦ omega (arith, some, none) ]

      before : (u : ℕ) → 1 ≤ times u logged + later u → 1 ≤ times u logged + refs u
      before u some = elim (some_of (later u)) [ inl one ↦ omega (arith, at_least u one) | inr none ↦ omega (arith, some, none) ]

  -- It was the last one: the unit goes, and what it names has an owner less.
  pub last_owner : (after : Units) (later : ℕ → ℕ) (left : ℕ → Bool) (nodes named : List ℕ) → refs p ≡ 1 → later p ≡ 0 → ((q : ℕ) → q ≢ p → later q ≡ refs q) → left p ≡ false → ((q : ℕ) → q ≢ p → left q ≡ used q)
      → ((q : ℕ) → q ≢ p → after q ≡ units q)
      → AllByRecursion (IsInner g after) nodes → ((q : ℕ) → times q nodes ≤ times q is.nodes) → times p nodes ≡ 0 → ((q : ℕ) → q ≢ p → times q nodes ≡ times q is.nodes)
      → ((u : ℕ) → times u named + times u (all_named after nodes) ≡ times u (all_named units is.nodes)) → IsOwned g after left later logged (named ++ roots)
  last_owner after later left nodes named one none same gone_p same_used kept inner fewer out others names = record {
    nodes = nodes;
    inner = inner;
    once = λ page. omega (arith, fewer page, is.once page);
    owners = λ u. elim (cases_eq u p) [
      | inl e ↦ subst (λ v. later v ≡ times v (named ++ roots) + times v (all_named after nodes)) (sym e) (omega (arith, none, one, is.owners p, times_here p p roots refl, names p, times-append p named roots))
      | inr d ↦ omega (arith, same u d, is.owners u, times_apart u p roots d, names u, times-append u named roots)
    ];
    listed = λ page area some. elim (cases_eq page p) [
      | inl e ↦ absurd (omega (arith, some, ap later e, none))
      | inr d ↦ omega (arith, others page d, is.listed page area (omega (arith, some, same page d)))
    ];
    owned = λ page has. elim (cases_eq page p) [
      | inl e ↦ absurd (omega (arith, has, ap (λ v. times v nodes) e, out))
      | inr d ↦ omega (arith, same page d, is.owned page (omega (arith, has, fewer page)))
    ];
    in_use = λ u. elim (cases_eq u p) [
      | inl e ↦ subst (λ v. (left v ≡ true) ↔ (1 ≤ times v logged + later v)) (sym e) (λ yes. absurd (true≢false (sym yes ∙ gone_p)), λ some. absurd (omega (arith, some, none, no_page)))
      | inr d ↦ (λ yes. omega (arith, (is.in_use u).0 (sym (same_used u d) ∙ yes), same u d), λ some. same_used u d ∙ (is.in_use u).1 (omega (arith, some, same u d)))
    ];
    apart = λ page has. elim (cases_eq page p) [
      | inl e ↦ subst (λ v. later v ≡ 0) (sym e) none
      | inr d ↦ omega (arith, same page d, is.apart page has)
    ];
  }
    where
      no_page : times p logged ≡ 0
      no_page = elim (some_of (times p logged)) [ inl some ↦ absurd (omega (arith, one, is.apart p some)) | inr e ↦ e ]
