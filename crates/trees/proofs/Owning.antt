-- A page leaves the logged pages: the owners of trees stay as they are.
use Rattle.std.proofs.Common.{◌≡◌, ◌≢◌, inl, inr, ℕ, suc, ◌≤◌, Bool, false, List, [], ◌∷◌, refl, sym, ap, subst, ◌∙◌, arith, true≢false}
use Rattle.std.specs.List.{AllByRecursion}
use Rattle.std.proofs.lemmas.Bool.{cases_eq}
use Rattle.ex_base.specs.declared.geometry.Geometry.{Geometry}
use Rattle.ex_base.specs.Ports.{times}
use Rattle.ex_base.proofs.Counts.{times-append, times_here}
use Rattle.trees.specs.Trees.{Units}
use Rattle.trees.specs.Owners.{named_on, all_named, StandsAt, IsInner, IsOwned}
use Rattle.trees.proofs.Released.{each_kept, named_owned, stands_kept}

each_counted : (P Q : ℕ → Type 0) (xs : List ℕ) → ((p : ℕ) → 1 ≤ times p xs → P p → Q p) → AllByRecursion P xs → AllByRecursion Q xs
each_counted P Q [] f all = tt
each_counted P Q (x ∷ xs) f all =
    (f x (omega (arith, times_here x x xs refl)) all.0, each_counted P Q xs (λ p some is. f p (omega (arith, some, times-append p (x ∷ []) xs)) is) all.1)

each_listed : (Q : ℕ → Type 0) (xs : List ℕ) → ((p : ℕ) → 1 ≤ times p xs → Q p) → AllByRecursion Q xs
each_listed Q [] f = tt
each_listed Q (x ∷ xs) f = (f x (omega (arith, times_here x x xs refl)), each_listed Q xs (λ p some. f p (omega (arith, some, times-append p (x ∷ []) xs))))

module _ (g : Geometry) (units : Units) (used : ℕ → Bool) (refs : ℕ → ℕ) (logged roots : List ℕ) (is : IsOwned g units used refs logged roots) where
  module _ (later : Units) (kept : (q : ℕ) → 1 ≤ refs q → later q ≡ units q) where
    node_kept : (n : ℕ) → 1 ≤ times n is.nodes → IsInner g units n → IsInner g later n
    node_kept n has inner =
        let same : later n ≡ units n = kept n (is.owned n has) in
        let named : named_on later n ≡ named_on units n = ap (λ (bytes : List ℕ). named_on (λ _. bytes) 0) same in
        record {
          level = inner.level;
          stands = stands_kept g units later (suc inner.level) n (λ area. same) inner.stands;
          below = subst (AllByRecursion (StandsAt g later inner.level)) (sym named)
              (each_counted (StandsAt g units inner.level) (StandsAt g later inner.level) (named_on units n)
              (λ q some at. stands_kept g units later inner.level q (λ area. kept q (named_owned g units used refs logged roots is n q has some)) at) inner.below);
        }

    nodes_kept : AllByRecursion (IsInner g later) is.nodes
    nodes_kept = each_counted (IsInner g units) (IsInner g later) is.nodes node_kept is.inner

    names_kept : all_named later is.nodes ≡ all_named units is.nodes
    names_kept = each_kept units later is.nodes (each_listed (λ n. later n ≡ units n) is.nodes (λ n has. kept n (is.owned n has)))

  -- a logged page is given back, and is free from now on
  pub page_given : (p : ℕ) (later : Units) (left : ℕ → Bool) (rest : List ℕ) → 1 ≤ times p logged → times p rest ≡ 0 → ((q : ℕ) → q ≢ p → times q rest ≡ times q logged) → left p ≡ false → ((q : ℕ) → q ≢ p → left q ≡ used q)
      → ((q : ℕ) → q ≢ p → later q ≡ units q) → IsOwned g later left refs rest roots
  page_given p later left rest was gone others given same kept =
      let none : refs p ≡ 0 = is.apart p was in
      let owned_kept : (q : ℕ) → 1 ≤ refs q → later q ≡ units q = λ q some. kept q (λ e. absurd (omega (arith, some, ap refs e, none))) in
      record {
        nodes = is.nodes;
        inner = nodes_kept later owned_kept;
        once = is.once;
        owners = λ u. omega (arith, is.owners u, ap (times u) (names_kept later owned_kept));
        listed = is.listed;
        owned = is.owned;
        in_use = λ u. elim (cases_eq u p) [
          | inl e ↦ (λ yes. absurd (true≢false (sym yes ∙ ap left e ∙ given)), λ some. absurd (omega (arith, some, ap (λ q. times q rest) e, gone, ap refs e, none)))
          | inr d ↦ (λ yes. omega (arith, others u d, (is.in_use u).0 (sym (same u d) ∙ yes)), λ some. same u d ∙ (is.in_use u).1 (omega (arith, some, others u d)))
        ];
        apart = λ page has. elim (cases_eq page p) [
          | inl e ↦ ap refs e ∙ none
          | inr d ↦ is.apart page (omega (arith, has, others page d))
        ];
      }
