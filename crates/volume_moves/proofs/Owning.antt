-- Who owns the units of a port after one root gave way to another one.
use Rattle.std.proofs.Common.{◌≡◌, ◌⊎◌, ◌↔◌, inl, inr, ℕ, ◌+◌, ◌<◌, ◌≤◌, true, false, true≢false, List, [], ◌∷◌, ◌++◌, length, Some, sym, ap, subst, ◌∙◌, arith}
use Rattle.std.specs.Prelude.{Contains}
use Rattle.std.specs.List.{AllByRecursion}
use Rattle.std.proofs.lemmas.Bool.{cases_Bool}
use Rattle.std.proofs.lemmas.List.{append-nil}
use Rattle.ex_base.specs.declared.ground.Ground as ground
use Rattle.ex_base.specs.declared.geometry.Geometry.{Geometry}
use Rattle.ex_base.specs.declared.names.Root.{Root}
use Rattle.ex_base.specs.Area.{InPageArea, catalog_no}
use Rattle.ex_base.specs.Ports.{refs_most, times}
use Rattle.ex_base.proofs.Counts.{contains_times, times-append, times_apart, times_contains}
use Rattle.ex_base.proofs.Each.{each_with}
use Rattle.ex_base.proofs.Members.{contains_in, in_contains, in_left}
use Rattle.trees.specs.Counted.{Counted, NamesPairs}
use Rattle.trees.specs.Made.{IsTaken}
use Rattle.trees.specs.Owners.{IsOwned, root_pages}
use Rattle.trees.specs.Trees.{RootNamed, root_units}
use Rattle.trees.proofs.Owned.{some_of}
use Rattle.volume_model.specs.OwnersMoved.{UnitsMade, roots_most}
use Rattle.volume_model.specs.Volume.{Volume, file_pages}
use Rattle.volume_model.proofs.OwnersMade.{few_counted, nodes_made}
use Rattle.volume_moves.specs.Moves.{ReplacesRoot}

module _ {S : Type 0} (g : ground.Ghosts S) (old new : S) (v now : Volume) (gone come : Root) (replaced : ReplacesRoot g old new v now gone come) (names : NamesPairs g) (logged roots : List ℕ)
    (is : IsOwned (g.geometry old) (g.unit old) (g.used old) (g.refs old) logged roots) (same : g.geometry new ≡ g.geometry old)
    (kept : (u : ℕ) → g.used old u ≡ true → g.unit new u ≡ g.unit old u) (stays : (u : ℕ) → g.used old u ≡ true → g.used new u ≡ true)
    (held : (page : ℕ) → (g.held new page ≡ true) ↔ Contains (catalog_no ∷ file_pages now) page) (in_use : (page : ℕ) → g.held new page ≡ true → g.used new page ≡ true)
    (catalog : 1 ≤ times catalog_no logged) (filed : (page : ℕ) → Contains (file_pages now) page → (1 ≤ times page logged) ⊎ (g.used old page ≡ false))
    (apart : (u : ℕ) → g.held new u ≡ false → times u logged ≡ 0) where
  -- the logged pages of before, and those of the new volume
  abbrev pub logged_now : List ℕ
  logged_now = logged ++ file_pages now

  logged_used : (u : ℕ) → 1 ≤ times u logged → g.used old u ≡ true
  logged_used u has = (is.in_use u).1 (omega (arith, has))

  -- what was free and is no page of the new volume is no logged page
  free_out : (u : ℕ) → g.used old u ≡ false → g.held new u ≡ false → times u logged_now ≡ 0
  free_out u free away = elim (some_of (times u logged)) [
    | inl was ↦ absurd (true≢false (sym (logged_used u was) ∙ free))
    | inr none ↦ elim (some_of (times u (file_pages now))) [
      | inl page ↦ absurd (true≢false (sym ((held u).1 (times_contains u (catalog_no ∷ file_pages now) (omega (arith, page, times-append u (catalog_no ∷ []) (file_pages now))))) ∙ away))
      | inr no_page ↦ omega (arith, none, no_page, times-append u logged (file_pages now))
    ]
  ]

  away_of : (u : ℕ) → times u logged_now ≡ 0 → g.held new u ≡ false
  away_of u none = elim (cases_Bool (g.held new u)) [
    | inr away ↦ away
    | inl there ↦
        let some : 1 ≤ times u (catalog_no ∷ file_pages now) = contains_times u (catalog_no ∷ file_pages now) ((held u).0 there) in
        elim (some_of (times u (file_pages now))) [
          | inl page ↦ absurd (omega (arith, none, page, times-append u logged (file_pages now)))
          | inr no_page ↦ absurd (omega (arith, none, times-append u logged (file_pages now), is_catalog u (omega (arith, some, no_page, times-append u (catalog_no ∷ []) (file_pages now)))))
        ]
  ]
    where
      is_catalog : (u : ℕ) → 1 ≤ times u (catalog_no ∷ []) → 1 ≤ times u logged
      is_catalog u some = elim (some_of (times u logged)) [
        | inl here ↦ here
        | inr none ↦ absurd (omega (arith, some, times_apart u catalog_no [] (λ e. absurd (omega (arith, none, ap (λ n. times n logged) e, catalog)))))
      ]

  -- what was in use and is no logged page had an owner
  tree_of : (u : ℕ) → g.used old u ≡ true → g.held new u ≡ false → 1 ≤ g.refs old u
  tree_of u was away = omega (arith, (is.in_use u).0 was, apart u away)

  owned_out : (u : ℕ) → 1 ≤ g.refs old u → g.held new u ≡ false → times u logged_now ≡ 0
  owned_out u some away = elim (some_of (times u logged)) [
    | inl was ↦ absurd (omega (arith, some, is.apart u was))
    | inr none ↦ elim (some_of (times u (file_pages now))) [
      | inl page ↦ absurd (true≢false (sym ((held u).1 (times_contains u (catalog_no ∷ file_pages now) (omega (arith, page, times-append u (catalog_no ∷ []) (file_pages now))))) ∙ away))
      | inr no_page ↦ omega (arith, none, no_page, times-append u logged (file_pages now))
    ]
  ]

  owned : (u : ℕ) → g.used new u ≡ true → g.held new u ≡ false → 1 ≤ g.refs old u → (g.used new u ≡ true) × (times u logged_now ≡ 0) × ((1 ≤ g.refs old u) ⊎ (g.used old u ≡ false))
  owned u used away some = (used, owned_out u some away, inl some)

  abbrev pub counted : Counted g old new
  counted = replaced.counts names

  -- What the update made.
  pub made : UnitsMade (g.geometry old) (g.unit old) (g.unit new) (g.used old) (g.used new) (g.refs old) logged logged_now counted.nodes (Some come)
  made = record {
    kept = kept;
    stays = stays;
    logs = λ u has. omega (arith, has, times-append u logged (file_pages now));
    paged = λ u has. elim (some_of (times u logged)) [
      | inl was ↦ (stays u (logged_used u was), inl was)
      | inr none ↦
          let page : Contains (file_pages now) u = times_contains u (file_pages now) (omega (arith, has, none, times-append u logged (file_pages now))) in
          let there : Contains (catalog_no ∷ file_pages now) u = times_contains u (catalog_no ∷ file_pages now) (omega (arith, contains_times u (file_pages now) page, times-append u (catalog_no ∷ []) (file_pages now))) in
          (in_use u ((held u).1 there), filed u page)
    ];
    taken = each_with (λ p. IsTaken g old new p × InPageArea (g.geometry old) p) (λ p. g.held new p ≡ false)
        (λ p. (g.used old p ≡ false) × (g.used new p ≡ true) × InPageArea (g.geometry old) p × (times p logged_now ≡ 0)) counted.nodes
        (λ p taken away. (taken.0.0, taken.0.1, taken.1, free_out p taken.0.0 away))
        (each_with (IsTaken g old new) (InPageArea (g.geometry old)) (λ p. IsTaken g old new p × InPageArea (g.geometry old) p) counted.nodes (λ p taken area. (taken, area)) counted.taken counted.pages)
        (replaced.apart names);
    once = counted.once;
    all = λ u free there area none. counted.all u (free, there) area (away_of u none);
    named = subst (λ (h : Geometry). AllByRecursion (λ (r : Root). RootNamed h (g.unit new) r.height r.page) (come ∷ [])) same (replaced.came.spells.named, tt);
    tree = λ u free there none. contains_times u (root_units (g.unit new) come ++ []) (contains_in u (root_units (g.unit new) come ++ []) (in_left u (root_units (g.unit new) come) [] (in_contains u (root_units (g.unit new) come) (replaced.tree u (free, there) (away_of u none)))));
    own = λ u has.
        let is_own = replaced.own u (subst (λ (us : List ℕ). Contains us u) (append-nil (root_units (g.unit new) come)) (times_contains u (root_units (g.unit new) come ++ []) has)) in
        elim (cases_Bool (g.used old u)) [
          | inl was ↦ owned u is_own.0 is_own.1 (tree_of u was is_own.1)
          | inr free ↦ (is_own.0, free_out u free is_own.1, inr free)
        ];
  }

  -- With the root that came counted, it and those of before own what is in use, and no count reaches its end.
  pub owned_made : length (root_pages (come ∷ []) ++ roots) ≤ roots_most → (after : ℕ → ℕ) → ((u : ℕ) → after u ≡ g.refs new u + times u (root_pages (come ∷ [])))
      → IsOwned (g.geometry old) (g.unit new) (g.used new) after logged_now (root_pages (come ∷ []) ++ roots)
  owned_made few after counts =
      nodes_made (g.geometry old) (g.unit old) (g.used old) (g.refs old) logged roots is (g.unit new) (g.used new) logged_now counted.nodes (Some come) made after
      (λ u. (let below = few_counted (g.geometry old) (g.unit old) (g.used old) (g.refs old) logged roots is (g.unit new) (g.used new) logged_now counted.nodes (Some come) made few u in
      omega (arith, counts u, counted.refs u (omega (arith, below)))))

  -- and none reaches it with the root that came
  pub few_made : length (root_pages (come ∷ []) ++ roots) ≤ roots_most → (u : ℕ) → g.refs new u + times u (root_pages (come ∷ [])) < refs_most
  few_made few u =
      let below = few_counted (g.geometry old) (g.unit old) (g.used old) (g.refs old) logged roots is (g.unit new) (g.used new) logged_now counted.nodes (Some come) made few u in
      omega (arith, below, counted.refs u (omega (arith, below)))
