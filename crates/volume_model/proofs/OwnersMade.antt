-- What an update makes has owners: each node that was taken is a unit of the tree that came, which the update's new root owns.
use Rattle.std.proofs.Common.{◌≡◌, ◌⊎◌, inl, inr, ℕ, zero, suc, ◌+◌, ◌≤◌, ◌<◌, Bool, true, false, List, [], ◌∷◌, ◌++◌, length, Option, Some, None, refl, sym, ap, subst, ◌∙◌, arith, true≢false}
use Rattle.std.specs.Prelude.{map}
use Rattle.std.specs.List.{flat_map, AllByRecursion}
use Rattle.std.proofs.lemmas.Bool.{cases_Bool, cases_eq}
use Rattle.ex_base.specs.declared.geometry.Geometry.{Geometry}
use Rattle.ex_base.specs.declared.names.PageNo.{PageNo}
use Rattle.ex_base.specs.declared.names.Root.{Root}
use Rattle.ex_base.specs.Area.{InPageArea, NamesLeaf}
use Rattle.ex_base.specs.Ports.{times, refs_most}
use Rattle.ex_base.proofs.Counts.{times-append, times_apart, times_here}
use Rattle.ex_base.proofs.Rows.{each-append}
use Rattle.trees.specs.declared.Pair.{Pair}
use Rattle.trees.specs.Names.{page_of_pair}
use Rattle.trees.specs.Node.{pairs_on}
use Rattle.trees.specs.Owners.{IsInner, IsOwned, StandsAt, all_named, named_on, page_here, root_pages}
use Rattle.trees.specs.Trees.{IsNamed, RootNamed, Units, root_units_at, root_units, units_on}
use Rattle.trees.proofs.FewOwners.{references_below_end}
use Rattle.trees.proofs.Owned.{at_one, page_no_leaf, some_of}
use Rattle.trees.proofs.Released.{named_left}
use Rattle.volume_model.specs.Shown.{root_here}
use Rattle.volume_model.specs.OwnersMoved.{IsNamedRoot, UnitsMade, roots_most, units_under}
use Rattle.volume_model.proofs.OwnersAlike.{names_kept, nodes_kept, named_owned}

-- ---- the units of a tree

first_unit : (units : Units) (l page : ℕ) → 1 ≤ times page (units_on units l page)
first_unit units zero page = omega (arith, times_here page page [] refl)
first_unit units (suc l) page = omega (arith, times_here page page (flat_map (λ (pair : Pair). units_on units l pair.page.0) (pairs_on (units page))) refl)

module _ (g : Geometry) (units : Units) where
  -- the child of a node among whose units a unit is
  pub record IsBelow (l : ℕ) (pairs : List Pair) (u : ℕ) : Type 0 where
    pub child : ℕ
    pub named : IsNamed g units l child
    pub there : 1 ≤ times child (map page_of_pair pairs)
    pub has : 1 ≤ times u (units_on units l child)
    pub inside : (p : ℕ) → times p (units_on units l child) ≤ times p (flat_map (λ (pair : Pair). units_on units l pair.page.0) pairs)

  below : (l u : ℕ) (pairs : List Pair) → AllByRecursion (λ (pair : Pair). IsNamed g units l pair.page.0) pairs → 1 ≤ times u (flat_map (λ (pair : Pair). units_on units l pair.page.0) pairs) → IsBelow l pairs u
  below l u [] named has = absurd (omega (arith, has))
  below l u (pair ∷ pairs) named has = elim (some_of (times u (units_on units l pair.page.0))) [
    | inl here ↦ record {
      child = pair.page.0;
      named = named.0;
      there = omega (arith, times_here pair.page.0 pair.page.0 (map page_of_pair pairs) refl);
      has = here;
      inside = λ p. omega (arith, times-append p (units_on units l pair.page.0) (flat_map (λ (q : Pair). units_on units l q.page.0) pairs));
    }
    | inr none ↦
        let rest = below l u pairs named.1 (omega (arith, has, none, times-append u (units_on units l pair.page.0) (flat_map (λ (q : Pair). units_on units l q.page.0) pairs))) in
        record {
          child = rest.child;
          named = rest.named;
          there = omega (arith, rest.there, times-append rest.child (pair.page.0 ∷ []) (map page_of_pair pairs));
          has = rest.has;
          inside = λ p. omega (arith, rest.inside p, times-append p (units_on units l pair.page.0) (flat_map (λ (q : Pair). units_on units l q.page.0) pairs));
        }
  ]

  -- the units of a node's tree behind its root
  behind : (u page l : ℕ) → (u ≡ page → ⊥) → 1 ≤ times u (units_on units (suc l) page) → 1 ≤ times u (flat_map (λ (pair : Pair). units_on units l pair.page.0) (pairs_on (units page)))
  behind u page l differ has = omega (arith, has, times_apart u page (flat_map (λ (pair : Pair). units_on units l pair.page.0) (pairs_on (units page))) differ)

  in_front : (p page l : ℕ) (n : ℕ) → n ≤ times p (flat_map (λ (pair : Pair). units_on units l pair.page.0) (pairs_on (units page))) → n ≤ times p (units_on units (suc l) page)
  in_front p page l n few = omega (arith, few, times-append p (page ∷ []) (flat_map (λ (pair : Pair). units_on units l pair.page.0) (pairs_on (units page))))

  not_a_leaf : (u page : ℕ) → InPageArea g u → NamesLeaf g page → 1 ≤ times u (page ∷ []) → ⊥
  not_a_leaf u page area leaf has = elim (cases_eq u page) [
    | inl same ↦ page_no_leaf g u area (subst (NamesLeaf g) (sym same) leaf)
    | inr differ ↦ absurd (omega (arith, has, times_apart u page [] differ))
  ]

  pub named_stands : (l page : ℕ) → IsNamed g units l page → StandsAt g units l page
  named_stands zero page named = named
  named_stands (suc l) page named = (named.0, named.1)

  each_stands : (l : ℕ) (pairs : List Pair) → AllByRecursion (λ (pair : Pair). IsNamed g units l pair.page.0) pairs → AllByRecursion (StandsAt g units l) (map page_of_pair pairs)
  each_stands l [] named = tt
  each_stands l (pair ∷ pairs) named = (named_stands l pair.page.0 named.0, each_stands l pairs named.1)

  -- a page of the page area in a tree is a node
  pub node_of_tree : (u : ℕ) → InPageArea g u → (l page : ℕ) → IsNamed g units l page → 1 ≤ times u (units_on units l page) → IsInner g units u
  node_of_tree u area zero page named has = absurd (not_a_leaf u page area named has)
  node_of_tree u area (suc l) page named has = elim (cases_eq u page) [
    | inl same ↦ subst (IsInner g units) (sym same) (record { level = l; stands = (named.0, named.1); below = each_stands l (pairs_on (units page)) named.2 })
    | inr differ ↦
        let b = below l u (pairs_on (units page)) named.2 (behind u page l differ has) in
        node_of_tree u area l b.child b.named b.has
  ]

  -- what a node of a tree names is a unit of the tree
  pub names_in_tree : (p u : ℕ) → InPageArea g p → 1 ≤ times u (named_on units p) → (l page : ℕ) → IsNamed g units l page → 1 ≤ times p (units_on units l page) → 1 ≤ times u (units_on units l page)
  names_in_tree p u area names zero page named has = absurd (not_a_leaf p page area named has)
  names_in_tree p u area names (suc l) page named has = elim (cases_eq p page) [
    | inl same ↦ in_front u page l 1 (child_there (pairs_on (units page)) (subst (λ q. 1 ≤ times u (named_on units q)) same names))
    | inr differ ↦
        let b = below l p (pairs_on (units page)) named.2 (behind p page l differ has) in
        let here = names_in_tree p u area names l b.child b.named b.has in
        in_front u page l 1 (omega (arith, here, b.inside u))
  ]
    where
      child_there : (pairs : List Pair) → 1 ≤ times u (map page_of_pair pairs) → 1 ≤ times u (flat_map (λ (pair : Pair). units_on units l pair.page.0) pairs)
      child_there [] some = absurd (omega (arith, some))
      child_there (pair ∷ pairs) some = elim (cases_eq u pair.page.0) [
        | inl same ↦
            let first : 1 ≤ times u (units_on units l pair.page.0) = subst (λ v. 1 ≤ times v (units_on units l pair.page.0)) (sym same) (first_unit units l pair.page.0) in
            omega (arith, times-append u (units_on units l pair.page.0) (flat_map (λ (q : Pair). units_on units l q.page.0) pairs), first)
        | inr differ ↦
            let rest = child_there pairs (omega (arith, some, times_apart u pair.page.0 (map page_of_pair pairs) differ)) in
            omega (arith, times-append u (units_on units l pair.page.0) (flat_map (λ (q : Pair). units_on units l q.page.0) pairs), rest)
      ]

  -- a unit of the tree that is not its root is named by a node of the tree
  pub record IsParent (u l page : ℕ) : Type 0 where
    pub node : ℕ
    pub area : InPageArea g node
    pub there : 1 ≤ times node (units_on units l page)
    pub names : 1 ≤ times u (named_on units node)

  pub parent_of : (u l page : ℕ) → IsNamed g units l page → 1 ≤ times u (units_on units l page) → (u ≡ page) ⊎ IsParent u l page
  parent_of u zero page named has = elim (cases_eq u page) [
    | inl same ↦ inl same
    | inr differ ↦ absurd (omega (arith, has, times_apart u page [] differ))
  ]
  parent_of u (suc l) page named has = elim (cases_eq u page) [
    | inl same ↦ inl same
    | inr differ ↦
        let b = below l u (pairs_on (units page)) named.2 (behind u page l differ has) in
        elim (parent_of u l b.child b.named b.has) [
          | inl same ↦ inr (record { node = page; area = named.0; there = first_unit units (suc l) page; names = subst (λ v. 1 ≤ times v (named_on units page)) (sym same) b.there })
          | inr above ↦ inr (record { node = above.node; area = above.area; there = in_front above.node page l 1 (omega (arith, above.there, b.inside above.node)); names = above.names })
        ]
  ]

-- ---- of a root, which may have no tree

-- What holds of each named tree with its page, for the tree of a root.
of_tree : (g : Geometry) (units : Units) (root : Option Root) (u : ℕ) (P : Type 0) → IsNamedRoot g units root → 1 ≤ times u (units_under units root)
    → ((l page : ℕ) → IsNamed g units l page → 1 ≤ times u (units_on units l page) → ((p : ℕ) → times p (units_under units root) ≡ times p (units_on units l page)) → 1 ≤ times page (root_pages (root_here root)) → P) → P
of_tree g units None u P named has f = absurd (omega (arith, has))
of_tree g units (Some root) u P named has f = by root.page named.0 (omega (arith, has, times-append u (root_units units root) [])) (λ p. times-append p (root_units units root) [])
    (λ p. times-append p (page_here root.page) [])
  where
    by : (page : Option PageNo) → RootNamed g units root.height page → 1 ≤ times u (root_units_at units root.height page)
        → ((p : ℕ) → times p (units_under units (Some root)) ≡ times p (root_units_at units root.height page) + 0)
        → ((p : ℕ) → times p (root_pages (root_here (Some root))) ≡ times p (page_here page) + 0) → P
    by None named has same own = absurd (omega (arith, has))
    by (Some page) named has same own = f root.height page.0 named has (λ p. omega (arith, same p)) (omega (arith, own page.0, times_here page.0 page.0 [] refl))

module _ (g : Geometry) (units : Units) (root : Option Root) (named : IsNamedRoot g units root) where
  pub node_in : (u : ℕ) → InPageArea g u → 1 ≤ times u (units_under units root) → IsInner g units u
  node_in u area has = of_tree g units root u (IsInner g units u) named has (λ l page is here same own. node_of_tree g units u area l page is here)

  pub names_in : (p u : ℕ) → InPageArea g p → 1 ≤ times u (named_on units p) → 1 ≤ times p (units_under units root) → 1 ≤ times u (units_under units root)
  names_in p u area names has =
      of_tree g units root p (1 ≤ times u (units_under units root)) named has (λ l page is here same own. omega (arith, same u, names_in_tree g units p u area names l page is here))

  -- A unit of the tree is its root, or is named by a node of the tree.
  pub record IsNode (u : ℕ) : Type 0 where
    pub node : ℕ
    pub area : InPageArea g node
    pub there : 1 ≤ times node (units_under units root)
    pub names : 1 ≤ times u (named_on units node)

  pub owner_in : (u : ℕ) → 1 ≤ times u (units_under units root) → (1 ≤ times u (root_pages (root_here root))) ⊎ IsNode u
  owner_in u has = of_tree g units root u ((1 ≤ times u (root_pages (root_here root))) ⊎ IsNode u) named has
      (λ l page is here same own. elim (parent_of g units u l page is here) [
        | inl first ↦ inl (subst (λ v. 1 ≤ times v (root_pages (root_here root))) (sym first) own)
        | inr above ↦ inr (record { node = above.node; area = above.area; there = omega (arith, same above.node, above.there); names = above.names })
      ])

-- the root's page is a unit of its tree
pub page_in_tree : (units : Units) (root : Option Root) (u : ℕ) → 1 ≤ times u (root_pages (root_here root)) → 1 ≤ times u (units_under units root)
page_in_tree units None u has = absurd (omega (arith, has))
page_in_tree units (Some root) u has =
    omega (arith, times-append u (root_units units root) [], by root.page (omega (arith, has, times-append u (page_here root.page) [])))
  where
    by : (page : Option PageNo) → 1 ≤ times u (page_here page) → 1 ≤ times u (root_units_at units root.height page)
    by None has = absurd (omega (arith, has))
    by (Some page) has = elim (cases_eq u page.0) [
      | inl same ↦ subst (λ v. 1 ≤ times v (units_on units root.height page.0)) (sym same) (first_unit units root.height page.0)
      | inr differ ↦ absurd (omega (arith, has, times_apart u page.0 [] differ))
    ]

-- ---- each unit of a tree whose root has an owner has one

module _ (g : Geometry) (units : Units) (used : ℕ → Bool) (refs : ℕ → ℕ) (logged roots : List ℕ) (is : IsOwned g units used refs logged roots) where
  pub unit_owned : (l page u : ℕ) → IsNamed g units l page → 1 ≤ refs page → 1 ≤ times u (units_on units l page) → 1 ≤ refs u
  unit_owned zero page u named owned has = elim (cases_eq u page) [
    | inl same ↦ subst (λ v. 1 ≤ refs v) (sym same) owned
    | inr differ ↦ absurd (omega (arith, has, times_apart u page [] differ))
  ]
  unit_owned (suc l) page u named owned has = elim (cases_eq u page) [
    | inl same ↦ subst (λ v. 1 ≤ refs v) (sym same) owned
    | inr differ ↦
        let b = below g units l u (pairs_on (units page)) named.2 (behind g units u page l differ has) in
        unit_owned l b.child u b.named (named_owned g units used refs logged roots is page b.child (is.listed page named.0 owned) b.there) b.has
  ]

  pub tree_owned : (root : Option Root) → IsNamedRoot g units root → ((p : ℕ) → 1 ≤ times p (root_pages (root_here root)) → 1 ≤ refs p) → (u : ℕ) → 1 ≤ times u (units_under units root) → 1 ≤ refs u
  tree_owned root named own u has = of_tree g units root u (1 ≤ refs u) named has (λ l page n here same first. unit_owned l page u n (own page first) here)

-- ---- an update

module _ (g : Geometry) (units : Units) (used : ℕ → Bool) (refs : ℕ → ℕ) (logged roots : List ℕ) (is : IsOwned g units used refs logged roots)
    (later : Units) (now : ℕ → Bool) (pages nodes : List ℕ) (come : Option Root) (made : UnitsMade g units later used now refs logged pages nodes come) where
  -- a unit without an owner was free, or is a logged page
  no_owner : (u : ℕ) → used u ≡ false → refs u ≡ 0
  no_owner u free = elim (some_of (refs u)) [
    | inl some ↦ absurd (true≢false (sym ((is.in_use u).1 (omega (arith, some))) ∙ free))
    | inr none ↦ none
  ]

  used_of : (u : ℕ) → 1 ≤ refs u → used u ≡ true
  used_of u some = (is.in_use u).1 (omega (arith, some))

  new_node : (u : ℕ) → 1 ≤ times u nodes → (used u ≡ false) × (now u ≡ true) × InPageArea g u × (times u pages ≡ 0)
  new_node u has = at_one (λ v. (used v ≡ false) × (now v ≡ true) × InPageArea g v × (times v pages ≡ 0)) nodes u made.taken has

  node_of_come : (u : ℕ) → 1 ≤ times u nodes → 1 ≤ times u (units_under later come)
  node_of_come u has = let t = new_node u has in made.tree u t.0 t.1 t.3

  -- what the new nodes name is of the tree
  named_by_new : (u : ℕ) → 1 ≤ times u (all_named later nodes) → 1 ≤ times u (units_under later come)
  named_by_new u has = by nodes (λ n some. some) has
    where
      by : (ns : List ℕ) → ((n : ℕ) → 1 ≤ times n ns → 1 ≤ times n nodes) → 1 ≤ times u (all_named later ns) → 1 ≤ times u (units_under later come)
      by [] inside some = absurd (omega (arith, some))
      by (n ∷ ns) inside some = elim (some_of (times u (named_on later n))) [
        | inl here ↦
            let own : 1 ≤ times n nodes = inside n (omega (arith, times_here n n ns refl)) in
            names_in g later come made.named n u (new_node n own).2 here (node_of_come n own)
        | inr none ↦ by ns (λ m has. inside m (omega (arith, has, times-append m (n ∷ []) ns))) (omega (arith, some, none, times-append u (named_on later n) (all_named later ns)))
      ]

  -- what a listed node names is named
  named_listed : (units : Units) (n u : ℕ) (ns : List ℕ) → 1 ≤ times n ns → 1 ≤ times u (named_on units n) → 1 ≤ times u (all_named units ns)
  named_listed units n u ns has names = omega (arith, named_left units n u ns has, names)

  module _ (after : ℕ → ℕ) (count_of : (u : ℕ) → after u ≡ refs u + times u (all_named later nodes) + times u (root_pages (root_here come))) where
    -- what has a new owner is of the tree that came
    newly_owned : (u : ℕ) → 1 ≤ after u → refs u ≡ 0 → 1 ≤ times u (units_under later come)
    newly_owned u some none = elim (some_of (times u (all_named later nodes))) [
      | inl named ↦ named_by_new u named
      | inr no_node ↦ page_in_tree later come u (omega (arith, some, none, no_node, count_of u))
    ]

    -- each unit of it has an owner
    tree_has_owners : (u : ℕ) → 1 ≤ times u (units_under later come) → 1 ≤ after u
    tree_has_owners u has = elim (owner_in g later come made.named u has) [
      | inl root ↦ omega (arith, root, count_of u)
      | inr above ↦ of_node above.node above.area above.there above.names
    ]
      where
        of_node : (n : ℕ) → InPageArea g n → 1 ≤ times n (units_under later come) → 1 ≤ times u (named_on later n) → 1 ≤ after u
        of_node n area there names =
            let own = made.own n there in
            elim own.2 [
              | inl had ↦
                  let bytes : later n ≡ units n = made.kept n (used_of n had) in
                  let before : 1 ≤ times u (named_on units n) = subst (λ (content : List ℕ). 1 ≤ times u (named_on (λ _. content) 0)) bytes names in
                  omega (arith, named_owned g units used refs logged roots is n u (is.listed n area had) before, count_of u)
              | inr free ↦ omega (arith, named_listed later n u nodes (made.all n free own.0 area own.1) names, count_of u)
            ]

    paged_none : (page : ℕ) → 1 ≤ times page pages → after page ≡ 0
    paged_none page has =
        let before : refs page ≡ 0 = elim (made.paged page has).1 [ inl was ↦ is.apart page was | inr free ↦ no_owner page free ] in
        elim (some_of (after page)) [
          | inl some ↦
              let out = (made.own page (newly_owned page some before)).1 in
              absurd (omega (arith, has, out))
          | inr none ↦ none
        ]

    -- So the root that came and those of before own what is in use afterwards.
    pub nodes_made : IsOwned g later now after pages (root_pages (root_here come) ++ roots)
    nodes_made =
        let kept : (u : ℕ) → InPageArea g u → 1 ≤ refs u → later u ≡ units u = λ u area some. made.kept u (used_of u some) in
        record {
          nodes = nodes ++ is.nodes;
          inner = each-append (IsInner g later) nodes is.nodes (each_new nodes (λ n has. has)) (nodes_kept g units used refs logged roots is later kept);
          once = λ page. elim (some_of (times page nodes)) [
            | inl new ↦ omega (arith, times-append page nodes is.nodes, made.once page, none_before page new)
            | inr old ↦ omega (arith, times-append page nodes is.nodes, old, is.once page)
          ];
          owners = λ u. omega (
            arith,
            count_of u,
            is.owners u,
            ap (times u) (names_kept g units used refs logged roots is later kept),
            named_both later u nodes is.nodes,
            times-append u (root_pages (root_here come)) roots,
          );
          listed = λ page area some. elim (some_of (refs page)) [
            | inl had ↦ omega (arith, times-append page nodes is.nodes, is.listed page area had)
            | inr none ↦
                let own = made.own page (newly_owned page some none) in
                elim own.2 [
                  | inl had ↦ omega (arith, had, none)
                  | inr free ↦ omega (arith, times-append page nodes is.nodes, made.all page free own.0 area own.1)
                ]
          ];
          owned = λ page has. elim (some_of (times page nodes)) [
            | inl new ↦ tree_has_owners page (node_of_come page new)
            | inr old ↦ omega (arith, is.owned page (omega (arith, has, old, times-append page nodes is.nodes)), count_of page)
          ];
          in_use = λ u. (λ there. used_owned u there, λ some. owned_used u some);
          apart = paged_none;
        }
      where
        each_new : (ns : List ℕ) → ((n : ℕ) → 1 ≤ times n ns → 1 ≤ times n nodes) → AllByRecursion (IsInner g later) ns
        each_new [] inside = tt
        each_new (n ∷ ns) inside =
            let own : 1 ≤ times n nodes = inside n (omega (arith, times_here n n ns refl)) in (
              node_in g later come made.named n (new_node n own).2 (node_of_come n own),
              each_new ns (λ m has. inside m (omega (arith, has, times-append m (n ∷ []) ns))),
            )

        none_before : (page : ℕ) → 1 ≤ times page nodes → times page is.nodes ≡ 0
        none_before page new = elim (some_of (times page is.nodes)) [
          | inl old ↦ absurd (omega (arith, is.owned page old, no_owner page (new_node page new).0))
          | inr none ↦ none
        ]

        named_both : (units : Units) (u : ℕ) (xs ys : List ℕ) → times u (all_named units (xs ++ ys)) ≡ times u (all_named units xs) + times u (all_named units ys)
        named_both units u [] ys = omega arith
        named_both units u (x ∷ xs) ys = omega (arith, times-append u (named_on units x) (all_named units (xs ++ ys)), times-append u (named_on units x) (all_named units xs), named_both units u xs ys)

        used_owned : (u : ℕ) → now u ≡ true → 1 ≤ times u pages + after u
        used_owned u there = elim (cases_Bool (used u)) [
          | inl was ↦ elim (some_of (times u logged)) [
            | inl page ↦ omega (arith, made.logs u page)
            | inr no_page ↦ omega (arith, (is.in_use u).0 was, no_page, count_of u)
          ]
          | inr free ↦ elim (some_of (times u pages)) [
            | inl page ↦ omega (arith, page)
            | inr no_page ↦ omega (arith, tree_has_owners u (made.tree u free there no_page))
          ]
        ]

        owned_used : (u : ℕ) → 1 ≤ times u pages + after u → now u ≡ true
        owned_used u some = elim (some_of (times u pages)) [
          | inl page ↦ (made.paged u page).0
          | inr no_page ↦ elim (some_of (refs u)) [
            | inl had ↦ made.stays u (used_of u had)
            | inr none ↦ (made.own u (newly_owned u (omega (arith, some, no_page)) none)).0
          ]
        ]

  -- No count of references reaches its end, where roots are few.
  pub few_counted : length (root_pages (root_here come) ++ roots) ≤ roots_most → (u : ℕ) → refs u + times u (all_named later nodes) + times u (root_pages (root_here come)) < refs_most
  few_counted few u =
      let after : ℕ → ℕ = λ v. refs v + times v (all_named later nodes) + times v (root_pages (root_here come)) in
      references_below_end g later now after pages (root_pages (root_here come) ++ roots) u (nodes_made after (λ v. refl)) few
