-- An owner less of a tree, and of several trees one after the other.
use Rattle.std.proofs.Common.{◌≡◌, ◌≢◌, inl, inr, ℕ, zero, suc, ◌+◌, ◌-◌, ◌<◌, ◌≤◌, Bool, true, false, List, [], ◌∷◌, ◌++◌, length, take, get_or, refl, sym, ap, subst, ◌∙◌, arith, append_assoc, true≢false}
use Rattle.std.specs.Prelude.{map}
use Rattle.std.specs.List.{AllByRecursion}
use Rattle.std.proofs.lemmas.Bool.{cases_Bool, cases_eq}
use Rattle.std.proofs.lemmas.List.{take_more, take_all, map-append}
use Rattle.ex_base.specs.declared.geometry.Geometry.{Geometry}
use Rattle.ex_base.specs.declared.ground.Ground as ground
use Rattle.ex_base.specs.declared.names.Area.TheVariants.{Page}
use Rattle.ex_base.specs.Area.{InPageArea, NamesLeaf, IsUnit}
use Rattle.ex_base.specs.Ports.{times, Keeps, CountsRefs, GivesUnit, without_ref}
use Rattle.ex_base.specs.Sizes.{most_page}
use Rattle.ex_base.proofs.Counts.{times-append, times_apart, times_here}
use Rattle.ex_base.proofs.Each.{split_each}
use Rattle.trees.specs.declared.Pair.{Pair}
use Rattle.trees.specs.Node.{pairs_on}
use Rattle.trees.specs.Trees.{Units}
use Rattle.trees.specs.Owners.{named_on, all_named, StandsAt, IsInner, IsOwned}
use Rattle.trees.proofs.Owned.{at_one, page_no_leaf, one_level}
use Rattle.trees.proofs.Released.{without_one, gone, one_less, each_left, named_left, owner_left, last_owner, stands_kept}
use Rattle.trees.specs.declared.rows.Part.{Part}
use Rattle.trees.specs.Rows.{parts_of}
use Rattle.trees.proofs.Reading.{no_part}
use Rattle.trees.specs.Counted.{HasCounts}
use Rattle.trees.specs.Made.{pages_of}
use Rattle.version_delete.specs.Released.{Owned, AreAt, AreApart, IsFreed, Gives, Released}

each_of : (P Q : ℕ → Type 0) (xs : List ℕ) → ((p : ℕ) → 1 ≤ times p xs → P p → Q p) → AllByRecursion P xs → AllByRecursion Q xs
each_of P Q [] f all = tt
each_of P Q (x ∷ xs) f all = (f x (omega (arith, times_here x x xs refl)) all.0, each_of P Q xs (λ p some is. f p (omega (arith, some, times-append p (x ∷ []) xs)) is) all.1)

parts_pages : (before : ℕ) (pairs : List Pair) → pages_of (parts_of before pairs) ≡ map (λ (pair : Pair). pair.page.0) pairs
parts_pages before [] = refl
parts_pages before (pair ∷ pairs) = ap (λ ps. pair.page.0 ∷ ps) (parts_pages pair.count pairs)

suc_same : (k l : ℕ) → suc k ≡ suc l → k ≡ l
suc_same k l e = omega (arith, e)

-- owners in another order are the same owners
pub owned_same : (g : Geometry) (units : Units) (used : ℕ → Bool) (refs : ℕ → ℕ) (logged xs ys : List ℕ) → ((p : ℕ) → times p xs ≡ times p ys) → IsOwned g units used refs logged xs → IsOwned g units used refs logged ys
owned_same g units used refs logged xs ys same is = record {
  nodes = is.nodes;
  inner = is.inner;
  once = is.once;
  owners = λ u. omega (arith, is.owners u, same u);
  listed = is.listed;
  owned = is.owned;
  in_use = is.in_use;
  apart = is.apart;
}

module _ {S : Type 0} (g : ground.Ghosts S) where
  pub gives_geometry : (a b : S) → Gives g a b → g.geometry b ≡ g.geometry a
  gives_geometry a b x = g.frees_geometry (IsFreed g a b) a b x.frees

  pub gives_none : (a : S) → Gives g a a
  gives_none a = record {
    fewer = λ p h. h;
    units = λ p h. refl;
    images = refl;
    held = refl;
    touched = refl;
    counts = λ h. h;
    apart = λ h. h;
    frees = g.frees_leads (IsFreed g a a) a a (g.leads_refl a);
  }

  unused : (a : S) (p : ℕ) → (g.used a p ≡ true → ⊥) → g.used a p ≡ false
  unused a p not = elim (cases_Bool (g.used a p)) [
    | inl h ↦ absurd (not h)
    | inr h ↦ h
  ]

  pub gives_on : (a b c : S) → Gives g a b → Gives g b c → Gives g a c
  gives_on a b c x y = record {
    fewer = λ p h. x.fewer p (y.fewer p h);
    units = λ p h. y.units p h ∙ x.units p (y.fewer p h);
    images = y.images ∙ x.images;
    held = y.held ∙ x.held;
    touched = y.touched ∙ x.touched;
    counts = λ h. y.counts (x.counts h);
    apart = λ h. y.apart (x.apart h);
    frees = g.frees_trans (IsFreed g a c) a b c (g.frees_more (IsFreed g a b) (IsFreed g a c) (λ p h. (h.0, unused c p (λ is. true≢false (sym (y.fewer p is) ∙ h.1)))) a b x.frees)
        (g.frees_more (IsFreed g b c) (IsFreed g a c) (λ p h. (x.fewer p h.0, h.1)) b c y.frees);
  }

  pub released_none : (a : S) (level : ℕ) → Released g a a level []
  released_none a level = λ told logged roots at is. is

  -- what still has an owner has its bytes
  pub still_at : (a b : S) (level : ℕ) (xs ys logged roots : List ℕ) → ((p : ℕ) → g.used b p ≡ true → g.unit b p ≡ g.unit a p) → g.geometry b ≡ g.geometry a → Owned g b logged (ys ++ roots) → AreAt g a level ys → AreAt g b level ys
  still_at a b level xs ys logged roots same geo is at =
      each_of (StandsAt (g.geometry a) (g.unit a) level) (StandsAt (g.geometry b) (g.unit b) level) ys
      (λ p some stands. subst (λ (h : Geometry). StandsAt h (g.unit b) level p) (sym geo)
      (stands_kept (g.geometry a) (g.unit a) (g.unit b) level p (λ area. same p ((is.in_use p).1 (omega (arith, is.owners p, some, times-append p ys roots)))) stands)) at

  pub released_on : (a b c : S) (level : ℕ) (xs ys : List ℕ) → Gives g a b → Released g a b level xs → Released g b c level ys → Released g a c level (xs ++ ys)
  released_on a b c level xs ys gives x y = λ told logged roots at is.
      let both = split_each (StandsAt (g.geometry a) (g.unit a) level) xs ys at in
      let first = x told logged (ys ++ roots) both.0 (subst (λ t. Owned g a logged t) (append_assoc xs ys roots) is) in
      y (g.frees_told (IsFreed g a b) a b gives.frees told) logged roots (still_at a b level xs ys logged roots gives.units (gives_geometry a b gives) first both.1) first

  -- ---- one unit

  -- A unit has this many references, and nothing else changes but the count of faults.
  pub record Drops (a b : S) (page count : ℕ) : Type 0 where
    pub units : g.unit b ≡ g.unit a
    pub images : g.image b ≡ g.image a
    pub used : g.used b ≡ g.used a
    pub counted : g.refs b page ≡ count
    pub others : (p : ℕ) → p ≢ page → g.refs b p ≡ g.refs a p
    pub held : g.held b ≡ g.held a
    pub free : g.free b ≡ g.free a
    pub touched : g.touched b ≡ g.touched a
    pub leads : g.leads a b

  pub drops_of : (a b : S) (page count : ℕ) → CountsRefs g a b page count → Drops a b page count
  drops_of a b page count c = record { units = c.units; images = c.images; used = c.used; counted = c.counted; others = c.others; held = c.held; free = c.free; touched = c.touched; leads = c.leads }

  pub drops_kept : (a b d : S) (page count : ℕ) → Drops a b page count → Keeps g b d → Drops a d page count
  drops_kept a b d page count c k = record {
    units = k.units ∙ c.units;
    images = k.images ∙ c.images;
    used = k.used ∙ c.used;
    counted = ap (λ (f : ℕ → ℕ). f page) k.refs ∙ c.counted;
    others = λ p d. ap (λ (f : ℕ → ℕ). f p) k.refs ∙ c.others p d;
    held = k.held ∙ c.held;
    free = k.free ∙ c.free;
    touched = k.touched ∙ c.touched;
    leads = g.leads_trans a b d c.leads k.leads;
  }

  pub counts_on : (a b : S) (page : ℕ) → Drops a b page (without_ref (g.refs a page)) → HasCounts g a → HasCounts g b
  counts_on a b page c h = record {
    used = λ p some. ap (λ (f : ℕ → Bool). f p) c.used ∙ h.used p (before p some);
    named = λ p some. subst (λ (k : Geometry). IsUnit k p) (sym (g.leads_geometry a b c.leads)) (h.named p (before p some));
  }
    where
      before : (p : ℕ) → 1 ≤ g.refs b p → 1 ≤ g.refs a p
      before p some = elim (cases_eq p page) [
        | inl e ↦ subst (λ q. 1 ≤ g.refs a q) (sym e) (omega (arith, c.counted, subst (λ q. 1 ≤ g.refs b q) e some))
        | inr d ↦ omega (arith, c.others p d, some)
      ]

  apart_on : (a b : S) (page : ℕ) → Drops a b page (without_ref (g.refs a page)) → AreApart g a → AreApart g b
  apart_on a b page c h p some = ap (λ (f : ℕ → Bool). f p) c.held ∙ h p (elim (cases_eq p page) [
    | inl e ↦ subst (λ q. 1 ≤ g.refs a q) (sym e) (omega (arith, c.counted, subst (λ q. 1 ≤ g.refs b q) e some))
    | inr d ↦ omega (arith, c.others p d, some)
  ])

  pub gives_less : (a b : S) (page : ℕ) → Drops a b page (without_ref (g.refs a page)) → Gives g a b
  gives_less a b page c = record {
    fewer = λ p h. sym (ap (λ (f : ℕ → Bool). f p) c.used) ∙ h;
    units = λ p h. ap (λ (us : Units). us p) c.units;
    images = c.images;
    held = c.held;
    touched = c.touched;
    counts = counts_on a b page c;
    apart = apart_on a b page c;
    frees = g.frees_leads (IsFreed g a b) a b c.leads;
  }

  -- a unit without an owner is given back
  pub gives_unowned : (a b d : S) (page : ℕ) → Keeps g a b → GivesUnit g b d page → g.used a page ≡ true → g.refs a page ≡ 0 → Gives g a d
  gives_unowned a b d page k gives was_used unowned = record {
    fewer = λ p h. sym (used_same p (still p h)) ∙ h;
    units = λ p h. gives.units p (still p h) ∙ ap (λ (us : Units). us p) k.units;
    images = gives.images ∙ k.images;
    held = gives.held ∙ k.held;
    touched = gives.touched ∙ k.touched;
    counts = λ h. record {
      used = λ p some. used_same p (owned p some) ∙ h.used p (omega (arith, some, refs_same p));
      named = λ p some. subst (λ (x : Geometry). IsUnit x p) (sym geometry_same) (h.named p (omega (arith, some, refs_same p)));
    };
    apart = λ h p some. ap (λ (f : ℕ → Bool). f p) (gives.held ∙ k.held) ∙ h p (omega (arith, some, refs_same p));
    frees = g.frees_trans (IsFreed g a d) a b d (g.frees_leads (IsFreed g a d) a b k.leads)
        (g.frees_more (λ p. p ≡ page) (IsFreed g a d) (λ p same. (ap (g.used a) same ∙ was_used, ap (g.used d) same ∙ gives.gone)) b d gives.frees);
  }
    where
      refs_same : (p : ℕ) → g.refs d p ≡ g.refs a p
      refs_same p = ap (λ (f : ℕ → ℕ). f p) (gives.refs ∙ k.refs)

      used_same : (p : ℕ) → p ≢ page → g.used d p ≡ g.used a p
      used_same p differ = gives.used p differ ∙ ap (λ (f : ℕ → Bool). f p) k.used

      still : (p : ℕ) → g.used d p ≡ true → p ≢ page
      still p h same = true≢false (sym h ∙ ap (g.used d) same ∙ gives.gone)

      owned : (p : ℕ) → 1 ≤ g.refs d p → p ≢ page
      owned p some same = absurd (omega (arith, some, ap (g.refs d) same, refs_same page, unowned))

      geometry_same : g.geometry d ≡ g.geometry a
      geometry_same = g.frees_geometry (λ p. p ≡ page) b d gives.frees ∙ g.leads_geometry a b k.leads

  -- an owner less, where another one is left
  pub not_last : (a b : S) (level page : ℕ) → Drops a b page (without_ref (g.refs a page)) → (g.refs a page ≡ 1 → ⊥) → Released g a b level (page ∷ [])
  not_last a b level page c more = λ told logged roots at is.
      let one : 1 ≤ g.refs a page = omega (arith, is.owners page, times_here page page roots refl) in
      let two : 2 ≤ g.refs a page = two_of (g.refs a page) one more in
      let less = owner_left (g.geometry a) (g.unit a) (g.used a) (g.refs a) logged roots page is (g.refs b) two (omega (arith, c.counted, two)) (λ q d. c.others q d) in
      subst (λ (h : Geometry). IsOwned h (g.unit b) (g.used b) (g.refs b) logged roots) (sym (g.leads_geometry a b c.leads))
      (subst (λ (us : Units). IsOwned (g.geometry a) us (g.used b) (g.refs b) logged roots) (sym c.units)
      (subst (λ (f : ℕ → Bool). IsOwned (g.geometry a) (g.unit a) f (g.refs b) logged roots) (sym c.used) less))
    where
      two_of : (n : ℕ) → 1 ≤ n → (n ≡ 1 → ⊥) → 2 ≤ n
      two_of zero some other = absurd (omega (arith, some))
      two_of (suc zero) some other = absurd (other (omega arith))
      two_of (suc (suc n)) some other = omega arith

  -- ---- the last owner of a leaf and of a node

  -- the state between: the unit has no reference, and is given back
  module _ (a b d : S) (page : ℕ) (c : Drops a b page (without_ref (g.refs a page))) (gives : GivesUnit g b d page) (last : g.refs a page ≡ 1) (was_used : g.used a page ≡ true) where
    refs_gone : g.refs d page ≡ 0
    refs_gone = omega (arith, ap (λ (f : ℕ → ℕ). f page) gives.refs, c.counted, last)

    refs_same : (q : ℕ) → q ≢ page → g.refs d q ≡ g.refs a q
    refs_same q differ = ap (λ (f : ℕ → ℕ). f q) gives.refs ∙ c.others q differ

    used_same : (q : ℕ) → q ≢ page → g.used d q ≡ g.used a q
    used_same q differ = gives.used q differ ∙ ap (λ (f : ℕ → Bool). f q) c.used

    units_same : (q : ℕ) → q ≢ page → g.unit d q ≡ g.unit a q
    units_same q differ = gives.units q differ ∙ ap (λ (us : Units). us q) c.units

    geometry_same : g.geometry d ≡ g.geometry a
    geometry_same = g.frees_geometry (λ p. p ≡ page) b d gives.frees ∙ g.leads_geometry a b c.leads

    still : (p : ℕ) → g.used d p ≡ true → p ≢ page
    still p h same = true≢false (sym h ∙ ap (g.used d) same ∙ gives.gone)

    pub counts_given : HasCounts g a → HasCounts g d
    counts_given h = record {
      used = λ p some. let other = apart_from p some in used_same p other ∙ h.used p (omega (arith, some, refs_same p other));
      named = λ p some. let other = apart_from p some in subst (λ (k : Geometry). IsUnit k p) (sym geometry_same) (h.named p (omega (arith, some, refs_same p other)));
    }
      where
        apart_from : (p : ℕ) → 1 ≤ g.refs d p → p ≢ page
        apart_from p some same = absurd (omega (arith, some, ap (g.refs d) same, refs_gone))

    -- the rest of what is promised
    pub gives_last : Gives g a d
    gives_last = record {
      fewer = λ p h. sym (used_same p (still p h)) ∙ h;
      units = λ p h. units_same p (still p h);
      images = gives.images ∙ c.images;
      touched = gives.touched ∙ c.touched;
      held = gives.held ∙ c.held;
      counts = counts_given;
      apart = λ h p some. ap (λ (f : ℕ → Bool). f p) (gives.held ∙ c.held) ∙ h p (omega (arith, some, refs_same p (λ same. absurd (omega (arith, some, ap (g.refs d) same, refs_gone)))));
      frees = g.frees_trans (IsFreed g a d) a b d (g.frees_leads (IsFreed g a d) a b c.leads)
          (g.frees_more (λ p. p ≡ page) (IsFreed g a d) (λ p same. (ap (g.used a) same ∙ was_used, ap (g.used d) same ∙ gives.gone)) b d gives.frees);
    }

    -- the nodes that are left
    module _ (logged roots : List ℕ) (is : Owned g a logged (page ∷ roots)) where
      not_named : times page (all_named (g.unit a) is.nodes) ≡ 0
      not_named = omega (arith, is.owners page, last, times_here page page roots refl)

      inner_kept : (nodes : List ℕ) → ((n : ℕ) → 1 ≤ times n nodes → (n ≢ page) × (times page (named_on (g.unit a) n) ≡ 0)) → AllByRecursion (IsInner (g.geometry a) (g.unit a)) nodes → AllByRecursion (IsInner (g.geometry a) (g.unit d)) nodes
      inner_kept nodes apart all = each_of (IsInner (g.geometry a) (g.unit a)) (IsInner (g.geometry a) (g.unit d)) nodes
          (λ n some inner.
          let free = apart n some in
          let bytes : g.unit d n ≡ g.unit a n = units_same n free.0 in
          record {
            level = inner.level;
            stands = stands_kept (g.geometry a) (g.unit a) (g.unit d) (suc inner.level) n (λ area. bytes) inner.stands;
            below = subst (λ (names : List ℕ). AllByRecursion (StandsAt (g.geometry a) (g.unit d) inner.level) names) (sym (ap (λ (bs : List ℕ). named_on (λ _. bs) 0) bytes))
                (each_of (StandsAt (g.geometry a) (g.unit a) inner.level) (StandsAt (g.geometry a) (g.unit d) inner.level) (named_on (g.unit a) n)
                (λ q has at. stands_kept (g.geometry a) (g.unit a) (g.unit d) inner.level q (λ area. units_same q (λ same. absurd (omega (arith, subst (λ r. 1 ≤ times r (named_on (g.unit a) n)) same has, free.1)))) at) inner.below);
          }) all

      -- the names of other nodes
      names_kept : (nodes : List ℕ) → ((n : ℕ) → 1 ≤ times n nodes → n ≢ page) → all_named (g.unit d) nodes ≡ all_named (g.unit a) nodes
      names_kept [] apart = refl
      names_kept (n ∷ nodes) apart =
          let here : named_on (g.unit d) n ≡ named_on (g.unit a) n = ap (λ (bs : List ℕ). named_on (λ _. bs) 0) (units_same n (apart n (omega (arith, times_here n n nodes refl)))) in
          let rest = names_kept nodes (λ m some. apart m (omega (arith, some, times-append m (n ∷ []) nodes))) in
          cc (here, rest)

      names_none : (nodes : List ℕ) → times page (all_named (g.unit a) nodes) ≡ 0 → (n : ℕ) → 1 ≤ times n nodes → times page (named_on (g.unit a) n) ≡ 0
      names_none [] none n some = absurd (omega (arith, some))
      names_none (m ∷ nodes) none n some = elim (cases_eq n m) [
        | inl same ↦ subst (λ q. times page (named_on (g.unit a) q) ≡ 0) (sym same) (omega (arith, none, times-append page (named_on (g.unit a) m) (all_named (g.unit a) nodes)))
        | inr differ ↦ names_none nodes (omega (arith, none, times-append page (named_on (g.unit a) m) (all_named (g.unit a) nodes))) n (omega (arith, some, times_apart n m nodes differ))
      ]

      moved_over : IsOwned (g.geometry a) (g.unit d) (g.used d) (g.refs d) logged roots → Owned g d logged roots
      moved_over owned = subst (λ (h : Geometry). IsOwned h (g.unit d) (g.used d) (g.refs d) logged roots) (sym geometry_same) owned

      leaf_given : NamesLeaf (g.geometry a) page → Owned g d logged roots
      leaf_given leaf =
          let out : times page is.nodes ≡ 0 = none_of (times page is.nodes) (λ some. page_no_leaf (g.geometry a) page (at_one (IsInner (g.geometry a) (g.unit a)) is.nodes page is.inner some).stands.0 leaf) in
          let apart : (n : ℕ) → 1 ≤ times n is.nodes → n ≢ page = λ n some same. absurd (omega (arith, some, ap (λ q. times q is.nodes) same, out)) in
          moved_over (last_owner (g.geometry a) (g.unit a) (g.used a) (g.refs a) logged roots page is (g.unit d) (g.refs d) (g.used d) is.nodes [] last refs_gone refs_same gives.gone used_same units_same
          (inner_kept is.nodes (λ n some. (apart n some, names_none is.nodes not_named n some)) is.inner) (λ q. omega arith) out (λ q d. refl)
          (λ u. omega (arith, ap (λ us. times u us) (names_kept is.nodes apart))))
        where
          none_of : (n : ℕ) → (1 ≤ n → ⊥) → n ≡ 0
          none_of zero f = refl
          none_of (suc n) f = absurd (f (omega arith))

      node_given : InPageArea (g.geometry a) page → Owned g d logged (named_on (g.unit a) page ++ roots)
      node_given area =
          let here : 1 ≤ times page is.nodes = is.listed page area (omega (arith, last)) in
          let nodes = without_one page is.nodes in
          let out : times page nodes ≡ 0 = omega (arith, one_less page is.nodes here, is.once page) in
          let apart : (n : ℕ) → 1 ≤ times n nodes → n ≢ page = λ n some same. absurd (omega (arith, some, ap (λ q. times q nodes) same, out)) in
          let was : (n : ℕ) → 1 ≤ times n nodes → 1 ≤ times n is.nodes = λ n some. omega (arith, some, gone page n is.nodes (λ e. apart n some (sym e))) in
          subst (λ (h : Geometry). IsOwned h (g.unit d) (g.used d) (g.refs d) logged (named_on (g.unit a) page ++ roots)) (sym geometry_same)
          (last_owner (g.geometry a) (g.unit a) (g.used a) (g.refs a) logged roots page is (g.unit d) (g.refs d) (g.used d) nodes (named_on (g.unit a) page) last refs_gone refs_same gives.gone used_same units_same
          (inner_kept nodes (λ n some. (apart n some, names_none is.nodes not_named n (was n some))) (each_left (IsInner (g.geometry a) (g.unit a)) page is.nodes is.inner)) (λ q. fewer q here) out (λ q d. gone page q is.nodes (λ e. d (sym e)))
          (λ u. omega (arith, ap (λ us. times u us) (names_kept nodes apart), named_left (g.unit a) page u is.nodes here)))
        where
          fewer : (q : ℕ) → 1 ≤ times page is.nodes → times q (without_one page is.nodes) ≤ times q is.nodes
          fewer q here = elim (cases_eq q page) [
            | inl e ↦ subst (λ r. times r (without_one page is.nodes) ≤ times r is.nodes) (sym e) (omega (arith, one_less page is.nodes here))
            | inr d ↦ omega (arith, gone page q is.nodes (λ e. d (sym e)))
          ]

    told_given : g.tells a → g.tells d
    told_given h = g.frees_told (λ p. p ≡ page) b d gives.frees (g.leads_told a b c.leads h)

    below_at : (level : ℕ) (logged roots : List ℕ) → InPageArea (g.geometry a) page → Owned g a logged (page ∷ roots) → StandsAt (g.geometry a) (g.unit a) (suc level) page → AllByRecursion (StandsAt (g.geometry a) (g.unit a) level) (named_on (g.unit a) page)
    below_at level logged roots area is at =
        let inner = at_one (IsInner (g.geometry a) (g.unit a)) is.nodes page is.inner (is.listed page area (omega (arith, last))) in
        let same : inner.level ≡ level = suc_same inner.level level (one_level (g.geometry a) (g.unit a) (suc inner.level) (suc level) page (omega (arith, most_page (g.geometry a), (g.geometry a).narrow)) inner.stands at) in
        subst (λ k. AllByRecursion (StandsAt (g.geometry a) (g.unit a) k) (named_on (g.unit a) page)) same inner.below

    -- what the node named is owned instead, where it stood
    pub node_left : (level : ℕ) (row : List Part) (logged roots : List ℕ) → InPageArea (g.geometry a) page → row ≡ parts_of 0 (pairs_on (g.unit a page)) → Owned g a logged (page ∷ roots) → StandsAt (g.geometry a) (g.unit a) (suc level) page
        → Owned g d logged (pages_of row ++ roots) × AreAt g d level (pages_of row)
    node_left level row logged roots area is_row is at =
        let pages : pages_of row ≡ named_on (g.unit a) page = ap pages_of is_row ∙ parts_pages 0 (pairs_on (g.unit a page)) in
        let now = subst (λ (ps : List ℕ). Owned g d logged (ps ++ roots)) (sym pages) (node_given logged roots is area) in
        let below = subst (AllByRecursion (StandsAt (g.geometry a) (g.unit a) level)) (sym pages) (below_at level logged roots area is at) in
        (now, still_at a d level [] (pages_of row) logged roots (λ p h. units_same p (still p h)) geometry_same now below)

    -- the tree of a node, where the trees below it are given up next
    pub node_released : (e : S) (level : ℕ) (row : List Part) → InPageArea (g.geometry a) page → (g.tells a → row ≡ parts_of 0 (pairs_on (g.unit a page)))
        → Released g d e level (pages_of row) → Released g a e (suc level) (page ∷ [])
    node_released e level row area is_row rest = λ told logged roots at is.
        let left = node_left level row logged roots area (is_row told) is at.0 in
        rest (told_given told) logged roots left.1 left.0

    pub leaf_released : NamesLeaf (g.geometry a) page → Released g a d 0 (page ∷ [])
    leaf_released leaf = λ told logged roots at is. leaf_given logged roots is leaf

  -- ---- the trees below a node, one after the other

  pub record SoFar (old now : S) (level : ℕ) (row : List Part) (i before steps : ℕ) : Type 0 where
    pub released : Released g old now (level - 1) (pages_of (take i row))
    pub gives : Gives g old now
    pub cost : steps + g.free old Page ≡ before + g.free now Page
    pub rises : before ≤ steps

  pub so_far_start : (old : S) (level : ℕ) (row : List Part) (steps : ℕ) → SoFar old old level row 0 steps steps
  so_far_start old level row steps = record { released = released_none old (level - 1); gives = gives_none old; cost = refl; rises = omega arith }

  pub so_far_more : (old now next : S) (level : ℕ) (row : List Part) (i before mid steps : ℕ) → i < length row → SoFar old now level row i before mid
      → Released g now next (level - 1) ((get_or row i no_part).page.0 ∷ []) → Gives g now next → steps + g.free now Page ≡ mid + g.free next Page → mid ≤ steps → SoFar old next level row (i + 1) before steps
  so_far_more old now next level row i before mid steps lt h more gives cost rises = record {
    released = subst (λ (ps : List ℕ). Released g old next (level - 1) ps) (sym (ap pages_of (take_more row i no_part lt) ∙ map-append (λ (part : Part). part.page.0) (take i row) (get_or row i no_part ∷ [])))
        (released_on old now next (level - 1) (pages_of (take i row)) ((get_or row i no_part).page.0 ∷ []) h.gives h.released more);
    gives = gives_on old now next h.gives gives;
    cost = omega (arith, h.cost, cost);
    rises = omega (arith, h.rises, rises);
  }

  -- all of them
  pub all_of : (old now : S) (level : ℕ) (row : List Part) (i before steps : ℕ) → length row ≤ i → SoFar old now level row i before steps → Released g old now (level - 1) (pages_of row)
  all_of old now level row i before steps end h = subst (λ (r : List Part). Released g old now (level - 1) (pages_of r)) (take_all i row end) h.released

pub some_level : (n : ℕ) → (n ≡ 0 → ⊥) → 1 ≤ n
some_level zero not = absurd (not refl)
some_level (suc n) not = omega arith

pub suc_less : (n : ℕ) → 1 ≤ n → suc (n - 1) ≡ n
suc_less n some = omega (arith, some)
