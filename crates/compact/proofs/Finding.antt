-- Counting the nodes that lead to high leaves.
use Rattle.std.proofs.Common.{◌≡◌, ◌≢◌, inl, inr, ℕ, zero, suc, ◌+◌, ◌-◌, ◌<◌, ◌≤◌, Bool, true, false, List, [], ◌∷◌, ◌++◌, map, take, take_all, length, get_or, Option, Some, None, refl, sym, ap, subst, ◌∙◌, arith}
use Rattle.std.specs.Prelude.{if◌then◌else◌, ◌||◌}
use Rattle.std.specs.List.{AllByRecursion, flat_map}
use Rattle.std.proofs.lemmas.Bool.{cases_eq}
use Rattle.std.proofs.lemmas.Grind.{flat_map-append}
use Rattle.std.proofs.lemmas.List.{append-nil, map-append, take_more}
use Rattle.ex_base.specs.declared.geometry.Geometry.{Geometry}
use Rattle.ex_base.specs.declared.ground.Ground as ground
use Rattle.ex_base.specs.Ports.{Keeps, times}
use Rattle.ex_base.proofs.Counts.{none_or_some, times-append, times_apart, times_here}
use Rattle.ex_base.proofs.Each.{each_as, each_at, each_mapped, each_parted, each_unmapped, split_each}
use Rattle.ex_base.proofs.Keeping.{keeps_on}
use Rattle.ex_base.proofs.Options.{some_apart}
use Rattle.ex_base.proofs.Rows.{each-append}
use Rattle.trees.specs.declared.Pair.{Pair}
use Rattle.trees.specs.Made.{Has, pages_of}
use Rattle.trees.specs.Names.{page_of_pair}
use Rattle.trees.specs.Node.{pairs_on}
use Rattle.trees.specs.Owners.{named_on}
use Rattle.trees.specs.Rows.{parts_of}
use Rattle.trees.specs.Trees.{Units, IsNamed}
use Rattle.trees.specs.declared.rows.Part.{Part}
use Rattle.trees.proofs.Laid.{has_left, has_right}
use Rattle.trees.proofs.Owned.{at_one}
use Rattle.trees.proofs.Reading.{no_part}
use Rattle.compact.specs.High.{any_of, has_high, is_high, nodes_above}
use Rattle.compact.specs.Found.{AreFound, CanCount, IsFound, StayListed, with_node}
use Rattle.compact.proofs.Levels.{same_level}

or_false : (b : Bool) → (b || false) ≡ b
or_false true = refl
or_false false = refl

or_both : (a b c : Bool) → (a || (b || c)) ≡ ((a || b) || c)
or_both true b c = refl
or_both false b c = refl

any_joined : (test : ℕ → Bool) (xs ys : List ℕ) → any_of test (xs ++ ys) ≡ (any_of test xs || any_of test ys)
any_joined test [] ys = refl
any_joined test (x ∷ xs) ys = ap (λ (b : Bool). test x || b) (any_joined test xs ys) ∙ or_both (test x) (any_of test xs) (any_of test ys)

pages_parts : (before : ℕ) (pairs : List Pair) → pages_of (parts_of before pairs) ≡ map page_of_pair pairs
pages_parts before [] = refl
pages_parts before (pair ∷ pairs) = ap (λ (xs : List ℕ). pair.page.0 ∷ xs) (pages_parts pair.count pairs)

module _ (g : Geometry) (dense : ℕ) (u : Units) where
  pub none_found : (l : ℕ) (seen : ℕ → Option Bool) (above nodes : List ℕ) → IsFound g dense u seen above nodes → AreFound g dense u l [] false seen above nodes
  none_found l seen above nodes found = record { is = refl; listed = tt; found = found }

  -- a leaf
  pub leaf_found : (page : ℕ) (seen : ℕ → Option Bool) (above nodes : List ℕ) → IsFound g dense u seen above nodes → AreFound g dense u 0 (page ∷ []) (is_high g dense page) seen above nodes
  leaf_found page seen above nodes found = record { is = sym (or_false (is_high g dense page)); listed = tt; found = found }

  -- a node that was seen
  pub known_found : (l page : ℕ) (high : Bool) (seen : ℕ → Option Bool) (above nodes : List ℕ) → seen page ≡ Some high → CanCount g dense u l (page ∷ []) seen above nodes → AreFound g dense u l (page ∷ []) high seen above nodes
  known_found l page high seen above nodes sent can =
      let r = can.found.right l page high sent can.named.0 in
      record {
        is = r.0 ∙ sym (or_false (has_high g dense u l page));
        listed = subst (AllByRecursion (Has above)) (sym (append-nil (nodes_above g dense u l page))) r.1;
        found = can.found;
      }

  -- one tree more
  more_found : (l page : ℕ) (pages : List ℕ) (high other : Bool) (seen after : ℕ → Option Bool) (above later nodes : List ℕ) → AreFound g dense u l pages high seen above nodes → StayListed above later → AreFound g dense u l (page ∷ []) other after later nodes
      → AreFound g dense u l (pages ++ (page ∷ [])) (high || other) after later nodes
  more_found l page pages high other seen after above later nodes x stay y = record {
    is = ap (λ (b : Bool). b || other) x.is ∙ ap (λ (b : Bool). any_of (has_high g dense u l) pages || b) y.is ∙ sym (any_joined (has_high g dense u l) pages (page ∷ []));
    listed = subst (AllByRecursion (Has later)) (sym (flat_map-append (nodes_above g dense u l) pages (page ∷ [])))
        (each-append (Has later) (flat_map (nodes_above g dense u l) pages) (flat_map (nodes_above g dense u l) (page ∷ [])) (each_as (Has above) (Has later) (flat_map (nodes_above g dense u l) pages) stay x.listed) y.listed);
    found = y.found;
  }

  -- ---- a node

  pub below_count : (l page : ℕ) (below : List Part) (seen : ℕ → Option Bool) (above nodes : List ℕ) → below ≡ parts_of 0 (pairs_on (u page)) → CanCount g dense u (suc l) (page ∷ []) seen above nodes → CanCount g dense u l (pages_of below) seen above nodes
  below_count l page below seen above nodes is can =
      let pages : pages_of below ≡ named_on u page = ap pages_of is ∙ pages_parts 0 (pairs_on (u page)) in
      let first = (split_each (Has nodes) (nodes_above g dense u (suc l) page) [] can.nodes_in).0 in
      let rest = (split_each (Has nodes) (if has_high g dense u (suc l) page then page ∷ [] else []) (flat_map (nodes_above g dense u l) (named_on u page)) first).1 in
      record {
        named = subst (AllByRecursion (IsNamed g u l)) (sym pages) (each_mapped (IsNamed g u l) page_of_pair (pairs_on (u page)) can.named.0.2);
        nodes_in = subst (λ (ps : List ℕ). AllByRecursion (Has nodes) (flat_map (nodes_above g dense u l) ps)) (sym pages) rest;
        found = can.found;
      }

  -- what is listed with a node
  stay_with : (high : Bool) (above : List ℕ) (page p : ℕ) → Has above p → Has (with_node high above page) p
  stay_with true above page p has = has_left above (page ∷ []) p has
  stay_with false above page p has = has

  each_with_node : (P : ℕ → Type 0) (high : Bool) (above : List ℕ) (page : ℕ) → AllByRecursion P above → (high ≡ true → P page) → AllByRecursion P (with_node high above page)
  each_with_node P true above page all here = each-append P above (page ∷ []) all (here refl, tt)
  each_with_node P false above page all here = all

  once_with : (high : Bool) (above : List ℕ) (page : ℕ) → times page above ≡ 0 → ((p : ℕ) → times p above ≤ 1) → (p : ℕ) → times p (with_node high above page) ≤ 1
  once_with true above page none once p = elim (cases_eq p page) [
    | inl same ↦ omega (arith, times-append p above (page ∷ []), times_here p page [] same, subst (λ q. times q above ≡ 0) (sym same) none)
    | inr differ ↦ omega (arith, times-append p above (page ∷ []), times_apart p page [] differ, once p)
  ]
  once_with false above page none once p = once p

  -- the nodes above of a node are listed with it
  all_with : (high : Bool) (l page : ℕ) (above : List ℕ) → high ≡ has_high g dense u (suc l) page → AllByRecursion (Has above) (flat_map (nodes_above g dense u l) (named_on u page)) → AllByRecursion (Has (with_node high above page)) (nodes_above g dense u (suc l) page)
  all_with high l page above is rest =
      each-append (Has (with_node high above page)) (if has_high g dense u (suc l) page then page ∷ [] else []) (flat_map (nodes_above g dense u l) (named_on u page))
      (subst (λ (b : Bool). AllByRecursion (Has (with_node high above page)) (if b then page ∷ [] else [])) is (own high))
      (each_as (Has above) (Has (with_node high above page)) (flat_map (nodes_above g dense u l) (named_on u page)) (stay_with high above page) rest)
    where
      own : (b : Bool) → AllByRecursion (Has (with_node b above page)) (if b then page ∷ [] else [])
      own true = (has_right above (page ∷ []) page (inl refl), tt)
      own false = tt

  -- a node that wasn't seen
  new_found : (l page : ℕ) (high : Bool) (seen after : ℕ → Option Bool) (above nodes : List ℕ) → IsNamed g u (suc l) page → (high ≡ true → Has nodes page) → high ≡ has_high g dense u (suc l) page
      → AllByRecursion (Has above) (flat_map (nodes_above g dense u l) (named_on u page)) → IsFound g dense u seen above nodes → seen page ≡ None → after page ≡ Some high → ((q : ℕ) → q ≢ page → after q ≡ seen q)
      → AreFound g dense u (suc l) (page ∷ []) high after (with_node high above page) nodes
  new_found l page high seen after above nodes named in_nodes is rest found none here others =
      let listed = all_with high l page above is rest in
      let apart = λ (p : ℕ) (sent : seen p ≡ Some true) (same : p ≡ page). some_apart true (sym sent ∙ ap seen same ∙ none) in
      let never : times page above ≡ 0 = elim (none_or_some (times page above)) [
        | inl zero_times ↦ zero_times
        | inr some ↦ absurd (apart page (at_one (λ p. seen p ≡ Some true) above page found.marked some) refl)
      ] in
      record {
        is = is ∙ sym (or_false (has_high g dense u (suc l) page));
        listed = subst (AllByRecursion (Has (with_node high above page))) (sym (append-nil (nodes_above g dense u (suc l) page))) listed;
        found = record {
          once = once_with high above page never found.once;
          marked = each_with_node (λ p. after p ≡ Some true) high above page (each_as (λ p. seen p ≡ Some true) (λ p. after p ≡ Some true) above (λ p sent. others p (apart p sent) ∙ sent) found.marked)
              (λ e. here ∙ ap (λ (b : Bool). Some b) e);
          right = λ k p h sent there. elim (cases_eq p page) [
            | inl same ↦
                let which : Some high ≡ Some h = sym here ∙ ap after (sym same) ∙ sent in
                let value : high ≡ h = cc in
                let at : suc l ≡ k = same_level g u (suc l) k page named (subst (IsNamed g u k) same there) in
                let both : (high ≡ has_high g dense u (suc l) page) × AllByRecursion (Has (with_node high above page)) (nodes_above g dense u (suc l) page) = (is, listed) in
                subst (λ q. (h ≡ has_high g dense u k q) × AllByRecursion (Has (with_node high above page)) (nodes_above g dense u k q)) (sym same)
                (subst (λ m. (h ≡ has_high g dense u m page) × AllByRecursion (Has (with_node high above page)) (nodes_above g dense u m page)) at (sym value ∙ both.0, both.1))
            | inr differ ↦
                let r = found.right k p h (sym (others p differ) ∙ sent) there in
                (r.0, each_as (Has above) (Has (with_node high above page)) (nodes_above g dense u k p) (stay_with high above page) r.1)
          ];
          inside = each_with_node (Has nodes) high above page found.inside in_nodes;
        };
      }

  -- a node whose trees were counted
  pub node_found : (l page : ℕ) (below : List Part) (high : Bool) (first seen after : ℕ → Option Bool) (before above later nodes : List ℕ) → below ≡ parts_of 0 (pairs_on (u page)) → CanCount g dense u (suc l) (page ∷ []) first before nodes → AreFound g dense u l (pages_of below) high seen above nodes
      → ((h : Bool) → seen page ≡ Some h → (after ≡ seen) × (later ≡ above)) → (seen page ≡ None → after page ≡ Some high) → ((q : ℕ) → q ≢ page → after q ≡ seen q) → (seen page ≡ None → later ≡ with_node high above page)
      → AreFound g dense u (suc l) (page ∷ []) high after later nodes
  node_found l page below high first seen after before above later nodes is can rows known here others list = by_note (seen page) refl
    where
      pages : pages_of below ≡ named_on u page
      pages = ap pages_of is ∙ pages_parts 0 (pairs_on (u page))

      high_is : high ≡ has_high g dense u (suc l) page
      high_is = rows.is ∙ ap (any_of (has_high g dense u l)) pages

      in_nodes : high ≡ true → Has nodes page
      in_nodes turned =
          let first = (split_each (Has nodes) (nodes_above g dense u (suc l) page) [] can.nodes_in).0 in
          let own = (split_each (Has nodes) (if has_high g dense u (suc l) page then page ∷ [] else []) (flat_map (nodes_above g dense u l) (named_on u page)) first).0 in
          (subst (λ (b : Bool). AllByRecursion (Has nodes) (if b then page ∷ [] else [])) (sym high_is ∙ turned) own).0

      by_note : (o : Option Bool) → seen page ≡ o → AreFound g dense u (suc l) (page ∷ []) high after later nodes
      by_note (Some h) sent =
          let same = known h sent in
          let r = rows.found.right (suc l) page h sent can.named.0 in
          subst (λ (s : ℕ → Option Bool). AreFound g dense u (suc l) (page ∷ []) high s later nodes) (sym same.0) (subst (λ (xs : List ℕ). AreFound g dense u (suc l) (page ∷ []) high seen xs nodes) (sym same.1) (record {
            is = high_is ∙ sym (or_false (has_high g dense u (suc l) page));
            listed = subst (AllByRecursion (Has above)) (sym (append-nil (nodes_above g dense u (suc l) page))) r.1;
            found = rows.found;
          }))
      by_note None none =
          subst (λ (xs : List ℕ). AreFound g dense u (suc l) (page ∷ []) high after xs nodes) (sym (list none))
          (new_found l page high seen after above nodes can.named.0 in_nodes high_is (subst (λ (ps : List ℕ). AllByRecursion (Has above) (flat_map (nodes_above g dense u l) ps)) pages rows.listed) rows.found none (here none) others)

-- ---- the trees below a node, one after the other

pub record CountSoFar {S : Type 0} (g : ground.Ghosts S) (old now : S) (dense level : ℕ) (first seen : ℕ → Option Bool) (before above : List ℕ) (row : List Part) (i : ℕ) (high : Bool) : Type 0 where
  pub kept : Keeps g old now
  pub grows : StayListed before above
  pub found : g.tells old → (l : ℕ) → level - 1 ≡ l → (nodes : List ℕ) → CanCount (g.geometry old) dense (g.unit old) l (pages_of row) first before nodes → AreFound (g.geometry old) dense (g.unit old) l (pages_of (take i row)) high seen above nodes

module _ {S : Type 0} (g : ground.Ghosts S) where
  pub start_count : (old now : S) (dense level : ℕ) (first : ℕ → Option Bool) (before : List ℕ) (row : List Part) → Keeps g old now → CountSoFar g old now dense level first first before before row 0 false
  start_count old now dense level first before row k = record {
    kept = k;
    grows = λ p has. has;
    found = λ told l same nodes can. none_found (g.geometry old) dense (g.unit old) l first before nodes can.found;
  }

  pub next_count : (old now new : S) (dense level : ℕ) (first seen after : ℕ → Option Bool) (before above later : List ℕ) (row : List Part) (i : ℕ) (high other : Bool) → i < length row → CountSoFar g old now dense level first seen before above row i high → Keeps g now new → StayListed above later
      → (g.tells now → (l : ℕ) → level - 1 ≡ l → (nodes : List ℕ) → CanCount (g.geometry now) dense (g.unit now) l ((get_or row i no_part).page.0 ∷ []) seen above nodes → AreFound (g.geometry now) dense (g.unit now) l ((get_or row i no_part).page.0 ∷ []) other after later nodes)
      → CountSoFar g old new dense level first after before later row (i + 1) (high || other)
  next_count old now new dense level first seen after before above later row i high other lt x k stay one =
      let part : Part = get_or row i no_part in
      let geo : g.geometry now ≡ g.geometry old = g.leads_geometry old now x.kept.leads in
      record {
        kept = keeps_on g old now new x.kept k;
        grows = λ p has. stay p (x.grows p has);
        found = λ told l same nodes can.
            let rows = x.found told l same nodes can in
            let there : CanCount (g.geometry old) dense (g.unit old) l (part.page.0 ∷ []) seen above nodes = record {
              named = (each_at (λ (p : Part). IsNamed (g.geometry old) (g.unit old) l p.page.0) row i no_part lt (each_unmapped (IsNamed (g.geometry old) (g.unit old) l) (λ (p : Part). p.page.0) row can.named), tt);
              nodes_in = subst (AllByRecursion (Has nodes)) (sym (append-nil (nodes_above (g.geometry old) dense (g.unit old) l part.page.0)))
                  (each_at (λ (p : Part). AllByRecursion (Has nodes) (nodes_above (g.geometry old) dense (g.unit old) l p.page.0)) row i no_part lt
                  (each_unmapped (λ p. AllByRecursion (Has nodes) (nodes_above (g.geometry old) dense (g.unit old) l p)) (λ (p : Part). p.page.0) row (each_parted (Has nodes) (nodes_above (g.geometry old) dense (g.unit old) l) (pages_of row) can.nodes_in)));
              found = rows.found;
            } in
            let was = subst (λ (v : Units). CanCount (g.geometry now) dense v l (part.page.0 ∷ []) seen above nodes) (sym x.kept.units) (subst (λ (h : Geometry). CanCount h dense (g.unit old) l (part.page.0 ∷ []) seen above nodes) (sym geo) there) in
            let got = one (g.leads_told old now x.kept.leads told) l same nodes was in
            let is = subst (λ (h : Geometry). AreFound h dense (g.unit old) l (part.page.0 ∷ []) other after later nodes) geo (subst (λ (v : Units). AreFound (g.geometry now) dense v l (part.page.0 ∷ []) other after later nodes) x.kept.units got) in
            subst (λ (ps : List ℕ). AreFound (g.geometry old) dense (g.unit old) l ps (high || other) after later nodes) (sym (ap pages_of (take_more row i no_part lt) ∙ map-append (λ (p : Part). p.page.0) (take i row) (part ∷ [])))
            (more_found (g.geometry old) dense (g.unit old) l part.page.0 (pages_of (take i row)) high other seen after above later nodes rows stay is);
      }

  -- ---- whole trees

  -- a node, whose trees were counted and that was noted then
  pub node_counted : (old now : S) (dense level l page i : ℕ) (below lent : List Part) (high : Bool) (first seen after : ℕ → Option Bool) (before above later nodes : List ℕ) → level ≢ 0 → level ≡ l → below ≡ parts_of 0 (pairs_on (g.unit old page)) → lent ≡ below → g.tells old
      → CountSoFar g old now dense level first seen before above lent i high → length lent ≤ i → CanCount (g.geometry old) dense (g.unit old) l (page ∷ []) first before nodes
      → ((h : Bool) → seen page ≡ Some h → (after ≡ seen) × (later ≡ above)) → (seen page ≡ None → after page ≡ Some high) → ((q : ℕ) → q ≢ page → after q ≡ seen q) → (seen page ≡ None → later ≡ with_node high above page)
      → AreFound (g.geometry old) dense (g.unit old) l (page ∷ []) high after later nodes
  node_counted old now dense level zero page i below lent high first seen after before above later nodes inner same is lent_is told x end can known here others list = absurd (inner same)
  node_counted old now dense level (suc l) page i below lent high first seen after before above later nodes inner same is lent_is told x end can known here others list =
      let row : lent ≡ parts_of 0 (pairs_on (g.unit old page)) = lent_is ∙ is in
      let rows = x.found told l (omega (arith, same)) nodes (below_count (g.geometry old) dense (g.unit old) l page lent first before nodes row can) in
      node_found (g.geometry old) dense (g.unit old) l page lent high first seen after before above later nodes row can (subst (λ (r : List Part). AreFound (g.geometry old) dense (g.unit old) l (pages_of r) high seen above nodes) (take_all i lent end) rows) known here others list
