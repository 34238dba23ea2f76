-- What an edit counts: one call after the other, and one node.
use Rattle.std.proofs.Common.{◌≡◌, ◌≢◌, ◌⊎◌, inl, inr, ℕ, zero, suc, ◌+◌, ◌≤◌, Bool, true, false, List, [], ◌∷◌, ◌++◌, map, refl, sym, ap, subst, ◌∙◌, arith, true≢false}
use Rattle.std.specs.List.{AllByRecursion}
use Rattle.std.proofs.lemmas.Bool.{cases_Bool, cases_eq}
use Rattle.ex_base.specs.declared.geometry.Geometry.{Geometry}
use Rattle.ex_base.specs.declared.names.Area.TheVariants.{Page, Segment}
use Rattle.ex_base.specs.declared.ground.Ground as ground
use Rattle.ex_base.specs.Area.{InPageArea}
use Rattle.ex_base.specs.Ports.{CountsNames, Keeps, TakesUnit, times, refs_most, with_refs}
use Rattle.ex_base.proofs.Rows.{each-append}
use Rattle.ex_base.proofs.Each.{each_as}
use Rattle.ex_base.proofs.Counts.{times-append, times_apart, times_here}
use Rattle.trees.specs.declared.Pair.{Pair}
use Rattle.trees.specs.Names.{page_of_pair}
use Rattle.trees.specs.Node.{PairsOf}
use Rattle.trees.proofs.NodeLaws.{spelled_reads}
use Rattle.trees.specs.Trees.{Units}
use Rattle.trees.specs.Made.{Extends, IsTaken}
use Rattle.trees.specs.Owners.{named_on, all_named}
use Rattle.trees.specs.Counted.{Counted, NamesPairs}
use Rattle.trees.proofs.Owned.{at_one, page_no_leaf}
use Rattle.trees.proofs.Parts.{narrow}
use Rattle.trees.proofs.Released.{each_kept}

-- ---- what is named

named_both : (u : Units) (p : ℕ) (xs ys : List ℕ) → times p (all_named u (xs ++ ys)) ≡ times p (all_named u xs) + times p (all_named u ys)
named_both u p [] ys = omega arith
named_both u p (x ∷ xs) ys = omega (arith, times-append p (named_on u x) (all_named u (xs ++ ys)), times-append p (named_on u x) (all_named u xs), named_both u p xs ys)

none_of : (n : ℕ) → (1 ≤ n → ⊥) → n ≡ 0
none_of zero f = refl
none_of (suc n) f = absurd (f (omega arith))

module _ {S : Type 0} (g : ground.Ghosts S) where
  -- ---- calls that count nothing

  pub counted_nothing : (a b : S) → ((p : ℕ) → IsTaken g a b p → InPageArea (g.geometry a) p → ⊥) → g.refs b ≡ g.refs a → Counted g a b
  counted_nothing a b none same = record {
    nodes = [];
    taken = tt;
    pages = tt;
    once = λ p. omega arith;
    all = λ p is area away. absurd (none p is area);
    refs = λ p fits. omega (arith, ap (λ (f : ℕ → ℕ). f p) same);
  }

  pub counted_same : (a : S) → Counted g a a
  counted_same a = counted_nothing a a (λ p is area. true≢false (sym is.1 ∙ is.0)) refl

  pub counted_kept : (a b : S) → Keeps g a b → Counted g a b
  counted_kept a b k = counted_nothing a b (λ p is area. true≢false (sym is.1 ∙ ap (λ (f : ℕ → Bool). f p) k.used ∙ is.0)) k.refs

  only_taken : (a b : S) (p page : ℕ) → ((q : ℕ) → q ≢ page → g.used b q ≡ g.used a q) → IsTaken g a b p → p ≡ page
  only_taken a b p page others is = elim (cases_eq p page) [
    | inl same ↦ same
    | inr differ ↦ absurd (true≢false (sym is.1 ∙ others p differ ∙ is.0))
  ]

  pub counted_leaf : (a b : S) (page : ℕ) (content : List ℕ) → TakesUnit g a b Segment page content → g.refs b ≡ g.refs a → Counted g a b
  counted_leaf a b page content t same =
      counted_nothing a b (λ p is area. page_no_leaf (g.geometry a) page (subst (InPageArea (g.geometry a)) (only_taken a b p page t.used is) area) t.named) same

  -- what a later state counts, where an earlier one has the same counts
  pub counted_back : (a b d : S) → Keeps g a b → Counted g b d → Counted g a d
  counted_back a b d k x = record {
    nodes = x.nodes;
    taken = each_as (IsTaken g b d) (IsTaken g a d) x.nodes (λ p is. (sym (ap (λ (f : ℕ → Bool). f p) k.used) ∙ is.0, is.1)) x.taken;
    pages = subst (λ (h : Geometry). AllByRecursion (InPageArea h) x.nodes) (g.leads_geometry a b k.leads) x.pages;
    once = x.once;
    all = λ p is area away. x.all p (ap (λ (f : ℕ → Bool). f p) k.used ∙ is.0, is.1) (subst (λ (h : Geometry). InPageArea h p) (sym (g.leads_geometry a b k.leads)) area) away;
    refs = λ p fits.
        let same : g.refs b p ≡ g.refs a p = ap (λ (f : ℕ → ℕ). f p) k.refs in
        omega (arith, same, x.refs p (omega (arith, fits, same)));
  }

  -- what an earlier state counts, where a later one has the same units with the same counts
  pub counted_after : (a m c : S) → g.used c ≡ g.used m → g.refs c ≡ g.refs m → g.unit c ≡ g.unit m → g.held c ≡ g.held m → Counted g a m → Counted g a c
  counted_after a m c used refs units held x = record {
    nodes = x.nodes;
    taken = each_as (IsTaken g a m) (IsTaken g a c) x.nodes (λ p is. (is.0, ap (λ (f : ℕ → Bool). f p) used ∙ is.1)) x.taken;
    pages = x.pages;
    once = x.once;
    all = λ p is area away. x.all p (is.0, ap (λ (f : ℕ → Bool). f p) (sym used) ∙ is.1) area (ap (λ (f : ℕ → Bool). f p) (sym held) ∙ away);
    refs = λ p fits.
        let same : g.refs c p ≡ g.refs m p = ap (λ (f : ℕ → ℕ). f p) refs in
        let named : times p (all_named (g.unit c) x.nodes) ≡ times p (all_named (g.unit m) x.nodes) = ap (λ (u : Units). times p (all_named u x.nodes)) units in
        omega (arith, same, named, x.refs p (omega (arith, fits, named)));
  }

  -- ---- a node

  -- what a node names, as the port counts it
  pub node_names : NamesPairs g → (geo : Geometry) (u : Units) (page level : ℕ) (pairs : List Pair) → PairsOf geo.fan (u page) level pairs → g.names geo (u page) ≡ named_on u page
  node_names names geo u page level pairs is =
      names geo (u page) level pairs is ∙ sym (ap (map page_of_pair) (spelled_reads geo.fan (u page) level pairs (narrow geo) is).same_pairs)

  -- one reference more for each time that a used unit is named
  named_count : (used : Bool) (count more now : ℕ) → now ≡ with_refs used count more → (used ≡ false → more ≡ 0) → count + more ≤ refs_most → now ≡ count + more
  named_count true count more now is free fits = omega (arith, is, fits)
  named_count false count more now is free fits = omega (arith, is, free refl)

  pub counted_node : (a b : S) (page level : ℕ) (pairs : List Pair) (content : List ℕ) → TakesUnit g a b Page page content → PairsOf (g.geometry a).fan (g.unit b page) level pairs
      → AllByRecursion (λ (q : ℕ). g.used a q ≡ true) (named_on (g.unit b) page) → CountsNames g a b (g.names (g.geometry a) (g.unit b page)) → NamesPairs g → Counted g a b
  counted_node a b page level pairs content t is used counts names = record {
    nodes = page ∷ [];
    taken = ((t.was_free, t.now_used), tt);
    pages = (t.named, tt);
    once = λ p. elim (cases_eq p page) [
      | inl same ↦ omega (arith, times_here p page [] same)
      | inr differ ↦ omega (arith, times_apart p page [] differ)
    ];
    all = λ p taken area away. omega (arith, times_here p page [] (only_taken a b p page t.used taken));
    refs = λ p fits.
        let here : times p (all_named (g.unit b) (page ∷ [])) ≡ times p (named_on (g.unit b) page) = omega (arith, times-append p (named_on (g.unit b) page) []) in
        let same = node_names names (g.geometry a) (g.unit b) page level pairs is in
        let now : g.refs b p ≡ with_refs (g.used a p) (g.refs a p) (times p (named_on (g.unit b) page)) = counts p ∙ ap (λ (ns : List ℕ). with_refs (g.used a p) (g.refs a p) (times p ns)) same in
        named_count (g.used a p) (g.refs a p) (times p (named_on (g.unit b) page)) (g.refs b p) now
        (λ free. none_of (times p (named_on (g.unit b) page)) (λ some. true≢false (sym (at_one (λ q. g.used a q ≡ true) (named_on (g.unit b) page) p used some) ∙ free)))
        (omega (arith, fits, here)) ∙ ap (λ n. g.refs a p + n) (sym here);
  }

  -- ---- one call after the other

  pub counted_on : (a b c : S) → Extends g a b → Extends g b c → Counted g a b → Counted g b c → Counted g a c
  counted_on a b c one two x y = record {
    nodes = y.nodes ++ x.nodes;
    taken = each-append (IsTaken g a c) y.nodes x.nodes (each_as (IsTaken g b c) (IsTaken g a c) y.nodes (λ p is. (free_before p is.0, is.1)) y.taken)
        (each_as (IsTaken g a b) (IsTaken g a c) x.nodes (λ p is. (is.0, two.used p is.1)) x.taken);
    pages = each-append (InPageArea (g.geometry a)) y.nodes x.nodes (subst (λ (h : Geometry). AllByRecursion (InPageArea h) y.nodes) (g.leads_geometry a b one.leads) y.pages) x.pages;
    once = λ p. once_both p (cases_Bool (g.used b p));
    all = λ p is area away. found p is area away (cases_Bool (g.used b p));
    refs = λ p fits.
        let named = named_both (g.unit c) p y.nodes x.nodes in
        let kept : times p (all_named (g.unit c) x.nodes) ≡ times p (all_named (g.unit b) x.nodes) =
        ap (times p) (each_kept (g.unit b) (g.unit c) x.nodes (each_as (IsTaken g a b) (λ q. g.unit c q ≡ g.unit b q) x.nodes (λ q is. two.units q is.1) x.taken)) in
        let first : g.refs b p ≡ g.refs a p + times p (all_named (g.unit b) x.nodes) = x.refs p (omega (arith, fits, named, kept)) in
        let second : g.refs c p ≡ g.refs b p + times p (all_named (g.unit c) y.nodes) = y.refs p (omega (arith, fits, named, kept, first)) in
        omega (arith, first, second, named, kept);
  }
    where
      free_before : (p : ℕ) → g.used b p ≡ false → g.used a p ≡ false
      free_before p free = elim (cases_Bool (g.used a p)) [
        | inl is ↦ absurd (true≢false (sym (one.used p is) ∙ free))
        | inr not ↦ not
      ]

      once_both : (p : ℕ) → (g.used b p ≡ true) ⊎ (g.used b p ≡ false) → times p (y.nodes ++ x.nodes) ≤ 1
      once_both p (inl is) =
          let out : times p y.nodes ≡ 0 = none_of (times p y.nodes) (λ some. true≢false (sym is ∙ (at_one (IsTaken g b c) y.nodes p y.taken some).0)) in
          omega (arith, times-append p y.nodes x.nodes, out, x.once p)
      once_both p (inr not) =
          let out : times p x.nodes ≡ 0 = none_of (times p x.nodes) (λ some. true≢false (sym (at_one (IsTaken g a b) x.nodes p x.taken some).1 ∙ not)) in
          omega (arith, times-append p y.nodes x.nodes, out, y.once p)

      found : (p : ℕ) → IsTaken g a c p → InPageArea (g.geometry a) p → g.held c p ≡ false → (g.used b p ≡ true) ⊎ (g.used b p ≡ false) → 1 ≤ times p (y.nodes ++ x.nodes)
      found p is area away (inl used) = omega (arith, times-append p y.nodes x.nodes, x.all p (is.0, used) area (sym (ap (λ (f : ℕ → Bool). f p) two.held) ∙ away))
      found p is area away (inr free) =
          omega (arith, times-append p y.nodes x.nodes, y.all p (free, is.1) (subst (λ (h : Geometry). InPageArea h p) (sym (g.leads_geometry a b one.leads)) area) away)
