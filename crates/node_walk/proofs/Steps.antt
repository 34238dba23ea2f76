-- How walks of trees follow on one another.
use Rattle.std.proofs.Common.{◌≡◌, ◌⊎◌, ◌≤◌, ◌<◌, ℕ, zero, suc, Bool, true, false, List, [], ◌∷◌, ◌++◌, length, Some, None, get_or, nat_eq, inl, inr, arith, refl, sym, ap, subst, ◌∙◌, true≢false}
use Rattle.std.proofs.lemmas.Bool.{cases_Bool}
use Rattle.std.proofs.lemmas.Bool.Decides.{nat_tests}
use Rattle.std.proofs.lemmas.Grind.{flat_map-append}
use Rattle.std.proofs.lemmas.List.{append-nil}
use Rattle.std.proofs.lemmas.List.Elements.{Contains-append_left, Contains-append_right}
use Rattle.std.specs.Prelude.{Contains}
use Rattle.std.specs.List.{AllByRecursion}
use Rattle.ex_base.proofs.Rows.{each-append}
use Rattle.ex_base.proofs.Each.{split_each, each_as, each_at}
use Rattle.ex_base.proofs.Members.{contains_none}
use Rattle.ex_base.specs.declared.geometry.Geometry.{Geometry}
use Rattle.trees.specs.Trees.{Units, IsNamed, units_on}
use Rattle.trees.specs.declared.rows.Part.{Part}
use Rattle.trees.specs.Rows.{row_units}
use Rattle.node_walk.specs.declared.nodes.Met.{Met}
use Rattle.node_walk.specs.declared.least.Least.{Least}
use Rattle.node_walk.specs.Walk.{Notes, AreNoted, IsNoted, IsKnown, IsMet, IsNew, IsAsked, HasLeast, IsFull, Walked, CanWalk, MetFirst, Meets, level_below, row_at, below_least}
use Rattle.node_walk.proofs.Lists.{in_item}
use Rattle.node_walk.proofs.Levels.{named_below, root_inside, below_inside}

both : (x y : Bool) → x ≡ true → x ≡ false → ⊥
both x y a b = true≢false (sym a ∙ b)

module _ (g : Geometry) (u : Units) where
  pub walked_none : (level : ℕ) (least : Least) (used : ℕ → Bool) (known : Notes) → AreNoted g u known → Walked g u level least [] used known used known true
  walked_none level least used known noted = record {
    notes = noted;
    kept = λ p met h. h;
    fresh = λ p met h. inl h;
    used_then = λ p h. inl h;
    still_used = λ p h. h;
    met = tt;
    asked = λ h. tt;
    thin = λ h. absurd (true≢false h);
  }

  -- a unit that a first walk met is one that both met
  new_first : (level : ℕ) (xs ys : List Part) (used after end : ℕ → Bool) (noted final : Notes) (b r : Bool) (p : ℕ) (met : Met)
      → ((q : ℕ) (m : Met) → noted q ≡ Some m → final q ≡ Some m) → (after p ≡ true → end p ≡ true) → (r ≡ true → b ≡ true)
      → IsNew g u level xs used after noted b p met → IsNew g u level (xs ++ ys) used end final r p met
  new_first level xs ys used after end noted final b r p met kept still holds new = record {
    free = new.free;
    taken = still new.taken;
    inside = subst (λ zs. Contains zs p) (sym (flat_map-append (λ (part : Part). units_on u level part.page.0) xs ys)) (Contains-append_left (row_units u level xs) (row_units u level ys) p new.inside);
    below = each_as _ _ (row_at u met.level p) (λ part m. (m.0, kept part.page.0 m.0 m.1, m.2)) new.below;
    asked = λ t. new.asked (holds t);
  }

  new_second : (level : ℕ) (xs ys : List Part) (used after end : ℕ → Bool) (final : Notes) (c r : Bool) (p : ℕ) (met : Met)
      → (used p ≡ true → after p ≡ true) → (r ≡ true → c ≡ true)
      → IsNew g u level ys after end final c p met → IsNew g u level (xs ++ ys) used end final r p met
  new_second level xs ys used after end final c r p met still holds new = record {
    free = elim (cases_Bool (used p)) [
      | inl was ↦ absurd (true≢false (sym (still was) ∙ new.free))
      | inr free ↦ free
    ];
    taken = new.taken;
    inside = subst (λ zs. Contains zs p) (sym (flat_map-append (λ (part : Part). units_on u level part.page.0) xs ys)) (Contains-append_right (row_units u level xs) (row_units u level ys) p new.inside);
    below = new.below;
    asked = λ t. new.asked (holds t);
  }

  -- walks of trees side by side
  pub walked_more : (level : ℕ) (least : Least) (xs ys : List Part) (used after end : ℕ → Bool) (known noted final : Notes) (b c r : Bool)
      → (r ≡ true → (b ≡ true) × (c ≡ true)) → (r ≡ false → (b ≡ false) ⊎ (c ≡ false))
      → Walked g u level least xs used known after noted b → Walked g u level least ys after noted end final c → Walked g u level least (xs ++ ys) used known end final r
  walked_more level least xs ys used after end known noted final b c r holds fails one two = record {
    notes = two.notes;
    kept = λ p met h. two.kept p met (one.kept p met h);
    fresh = λ p met h. elim (two.fresh p met h) [
      | inl then ↦ elim (one.fresh p met then) [
        | inl first ↦ inl first
        | inr new ↦ inr (new_first level xs ys used after end noted final b r p met two.kept (two.still_used p) (λ t. (holds t).0) new)
      ]
      | inr new ↦ inr (new_second level xs ys used after end final c r p met (one.still_used p) (λ t. (holds t).1) new)
    ];
    used_then = λ p h. elim (two.used_then p h) [
      | inl then ↦ elim (one.used_then p then) [
        | inl first ↦ inl first
        | inr is ↦ inr (is.0, two.kept p is.0 is.1)
      ]
      | inr is ↦ inr is
    ];
    still_used = λ p h. two.still_used p (one.still_used p h);
    met = each-append _ xs ys (each_as _ _ xs (λ part m. (m.0, two.kept part.page.0 m.0 m.1, m.2)) one.met) two.met;
    asked = λ t. each-append _ xs ys (one.asked (holds t).0) (two.asked (holds t).1);
    thin = λ f full. let parts = split_each (IsFull g u least level) xs ys full in elim (fails f) [
      | inl first ↦ one.thin first parts.0
      | inr second ↦ two.thin second parts.1
    ];
  }

  -- ---- a root and what is below it

  pub asked_least : (least : Least) (l : ℕ) (part : Part) (met : Met) → met.level ≡ l → IsNoted g u part.page.0 met → IsAsked g least met part.size → HasLeast g u least l part
  asked_least least zero part met is note asked = asked.leaf is
  asked_least least (suc l) part met is note asked =
      let some : 1 ≤ met.level = omega arith in
      let facts = asked.node some in
      (sym (note.total some) ∙ facts.0, subst (λ n. least.pairs ≤ n) (note.pairs some) facts.1)

  pub least_asked : (least : Least) (l : ℕ) (part : Part) (met : Met) → met.level ≡ l → IsNoted g u part.page.0 met → HasLeast g u least l part → IsAsked g least met part.size
  least_asked least zero part met is note has = record { leaf = λ none. has; node = λ some. absurd (omega arith) }
  least_asked least (suc l) part met is note has = record {
    leaf = λ none. absurd (omega arith);
    node = λ some. (note.total some ∙ has.0, subst (λ n. least.pairs ≤ n) (sym (note.pairs some)) has.1);
  }

  full_least : (least : Least) (l : ℕ) (part : Part) → IsFull g u least l part → HasLeast g u least l part
  full_least least zero part full = full
  full_least least (suc l) part full = full.0

  full_below : (least : Least) (l : ℕ) (part : Part) → IsFull g u least l part → AllByRecursion (IsFull g u (below_least g) (level_below l)) (row_at u l part.page.0)
  full_below least zero part full = tt
  full_below least (suc l) part full = full.1

  -- ---- a unit that is met, and the walk below it

  again_then : (level : ℕ) (least : Least) (part : Part) (met : Met) (used after : ℕ → Bool) (known noted : Notes) (b c r : Bool)
      → (r ≡ true → (b ≡ true) × (c ≡ true)) → (r ≡ false → (b ≡ false) ⊎ (c ≡ false))
      → (c ≡ true → IsAsked g least met part.size) → (c ≡ false → IsAsked g least met part.size → ⊥)
      → known part.page.0 ≡ Some met → met.level ≡ level → AreNoted g u known
      → Walked g u (level_below level) (below_least g) [] used known after noted b → Walked g u level least (part ∷ []) used known after noted r
  again_then level least part met used after known noted b c r holds fails is_asked not_asked known_as level_is notes below = record {
    notes = below.notes;
    kept = below.kept;
    fresh = λ p m h. elim (below.fresh p m h) [
      | inl first ↦ inl first
      | inr new ↦ absurd (contains_none p new.inside)
    ];
    used_then = below.used_then;
    still_used = below.still_used;
    met = ((met, below.kept part.page.0 met known_as, level_is), tt);
    asked = λ t. (asked_least least level part met level_is (notes part.page.0 met known_as) (is_asked (holds t).1), tt);
    thin = λ f full. elim (fails f) [
      | inl first ↦ below.thin first tt
      | inr second ↦ not_asked second (least_asked least level part met level_is (notes part.page.0 met known_as) (full_least least level part full.0))
    ];
  }

  -- at the page that is met, and elsewhere
  here_or_else : (page q : ℕ) → (page ≡ q) ⊎ (nat_eq page q ≡ false)
  here_or_else page q = elim (cases_Bool (nat_eq page q)) [
    | inl taken ↦ inl (let same : page ≡ q = grind (arith, nat_tests) in same)
    | inr apart ↦ inr apart
  ]

  same_met : (noted : Notes) (page q : ℕ) (m n : Met) → page ≡ q → noted page ≡ Some m → noted q ≡ Some n → m ≡ n
  same_met noted page q m n same at there =
      let both : Some m ≡ Some n = sym at ∙ ap noted same ∙ there in
      cc

  module _ (level : ℕ) (page : ℕ) (met : Met) (row : List Part) (used mid : ℕ → Bool) (known start : Notes) (h : MetFirst g u level page met row used known mid start) where
    first_kept : (q : ℕ) (m : Met) → known q ≡ Some m → start q ≡ Some m
    first_kept q m is = elim (here_or_else page q) [
      | inl same ↦ let none : Some m ≡ None = sym is ∙ ap known (sym same) ∙ h.unknown in absurd cc
      | inr apart ↦ h.other_notes q apart ∙ is
    ]

    first_cases : (q : ℕ) (m : Met) → start q ≡ Some m → ((page ≡ q) × (met ≡ m)) ⊎ (known q ≡ Some m)
    first_cases q m is = elim (here_or_else page q) [
      | inl same ↦ inl (same, same_met start page q met m same h.noted_as is)
      | inr apart ↦ inr (sym (h.other_notes q apart) ∙ is)
    ]

    first_used : (q : ℕ) → mid q ≡ true → (page ≡ q) ⊎ (used q ≡ true)
    first_used q is = elim (here_or_else page q) [
      | inl same ↦ inl same
      | inr apart ↦ inr (sym (h.other_units q apart) ∙ is)
    ]

    first_still : (q : ℕ) → used q ≡ true → mid q ≡ true
    first_still q is = elim (here_or_else page q) [
      | inl same ↦ ap mid (sym same) ∙ h.taken
      | inr apart ↦ h.other_units q apart ∙ is
    ]

    first_free : (q : ℕ) → mid q ≡ false → used q ≡ false
    first_free q is = elim (cases_Bool (used q)) [
      | inl was ↦ absurd (true≢false (sym (first_still q was) ∙ is))
      | inr free ↦ free
    ]

    pub first_notes : AreNoted g u known → AreNoted g u start
    first_notes notes q m is = elim (first_cases q m is) [
      | inl here ↦ subst (λ k. IsNoted g u k m) here.0 (subst (IsNoted g u page) here.1 h.first.note)
      | inr was ↦ notes q m was
    ]

    -- the notes of the walk below, as the walk of the whole tree sees them
    first_new : (least : Least) (part : Part) (after : ℕ → Bool) (noted : Notes) (b r : Bool) → page ≡ part.page.0 → (r ≡ true → b ≡ true)
        → Walked g u (level_below level) (below_least g) row mid start after noted b → IsNew g u level (part ∷ []) used after noted r page met
    first_new least part after noted b r same holds below = record {
      free = h.first.free;
      taken = below.still_used page h.taken;
      inside = subst (λ (q : ℕ). Contains (units_on u level q ++ []) page) same (Contains-append_left (units_on u level page) [] page (root_inside u level page));
      below = subst (λ l. AllByRecursion (λ (child : Part). IsMet noted (level_below l) child.page.0) (row_at u l page)) (sym h.first.level_is)
          (subst (AllByRecursion (λ (child : Part). IsMet noted (level_below level) child.page.0)) h.first.below_is below.met);
      asked = λ t. subst (λ l. AllByRecursion (HasLeast g u (below_least g) (level_below l)) (row_at u l page)) (sym h.first.level_is)
          (subst (AllByRecursion (HasLeast g u (below_least g) (level_below level))) h.first.below_is (below.asked (holds t)));
    }

    later_new : (part : Part) (after : ℕ → Bool) (noted : Notes) (b r : Bool) (p : ℕ) (m : Met) → page ≡ part.page.0 → (r ≡ true → b ≡ true)
        → IsNew g u (level_below level) row mid after noted b p m → IsNew g u level (part ∷ []) used after noted r p m
    later_new part after noted b r p m same holds new = record {
      free = first_free p new.free;
      taken = new.taken;
      inside = subst (λ (q : ℕ). Contains (units_on u level q ++ []) p) same
          (Contains-append_left (units_on u level page) [] p (below_inside u level page p (subst (λ xs. Contains (row_units u (level_below level) xs) p) h.first.below_is new.inside)));
      below = new.below;
      asked = λ t. new.asked (holds t);
    }

    pub first_then : (least : Least) (part : Part) (after : ℕ → Bool) (noted : Notes) (b c r : Bool) → page ≡ part.page.0
        → (r ≡ true → (b ≡ true) × (c ≡ true)) → (r ≡ false → (b ≡ false) ⊎ (c ≡ false))
        → (c ≡ true → IsAsked g least met part.size) → (c ≡ false → IsAsked g least met part.size → ⊥)
        → Walked g u (level_below level) (below_least g) row mid start after noted b → Walked g u level least (part ∷ []) used known after noted r
    first_then least part after noted b c r same holds fails is_asked not_asked below =
        let note : IsNoted g u part.page.0 met = subst (λ (q : ℕ). IsNoted g u q met) same h.first.note in
        let below_is : row ≡ row_at u level part.page.0 = subst (λ (q : ℕ). row ≡ row_at u level q) same h.first.below_is in
        record {
          notes = below.notes;
          kept = λ p m is. below.kept p m (first_kept p m is);
          fresh = λ p m is. elim (below.fresh p m is) [
            | inl then ↦ elim (first_cases p m then) [
              | inl here ↦ inr (subst (λ (q : ℕ). IsNew g u level (part ∷ []) used after noted r q m) here.0
                  (subst (IsNew g u level (part ∷ []) used after noted r page) here.1 (first_new least part after noted b r same (λ t. (holds t).0) below)))
              | inr was ↦ inl was
            ]
            | inr new ↦ inr (later_new part after noted b r p m same (λ t. (holds t).0) new)
          ];
          used_then = λ p is. elim (below.used_then p is) [
            | inl then ↦ elim (first_used p then) [
              | inl here ↦ inr (met, below.kept p met (ap start (sym here) ∙ h.noted_as))
              | inr was ↦ inl was
            ]
            | inr known_now ↦ inr known_now
          ];
          still_used = λ p is. below.still_used p (first_still p is);
          met = ((met, below.kept part.page.0 met (ap start (sym same) ∙ h.noted_as), h.first.level_is), tt);
          asked = λ t. (asked_least least level part met h.first.level_is note (is_asked (holds t).1), tt);
          thin = λ f full. elim (fails f) [
            | inl first ↦ below.thin first (subst (AllByRecursion (IsFull g u (below_least g) (level_below level))) (sym below_is) (full_below least level part full.0))
            | inr second ↦ not_asked second (least_asked least level part met h.first.level_is note (full_least least level part full.0))
          ];
        }

    first_can : (part : Part) → page ≡ part.page.0 → CanWalk g u used known level (part ∷ []) → CanWalk g u mid start (level_below level) row
    first_can part same can = record {
      named = subst (AllByRecursion (λ (child : Part). IsNamed g u (level_below level) child.page.0)) (sym h.first.below_is)
          (named_below g u level page (subst (λ (q : ℕ). IsNamed g u level q) (sym same) can.named.0));
      own = λ p inside taken. elim (first_used p taken) [
        | inl here ↦ (met, ap start (sym here) ∙ h.noted_as)
        | inr was ↦
            let there : Contains (units_on u level page ++ []) p = Contains-append_left (units_on u level page) [] p (below_inside u level page p (subst (λ xs. Contains (row_units u (level_below level) xs) p) h.first.below_is inside)) in
            let is = can.own p (subst (λ (q : ℕ). Contains (units_on u level q ++ []) p) same there) was in
            (is.0, first_kept p is.0 is.1)
      ];
    }

  -- ---- both ways to meet a unit

  pub met_notes : (level page : ℕ) (met : Met) (row : List Part) (used mid : ℕ → Bool) (known start : Notes) → Meets g u level page met row used known mid start → AreNoted g u known → AreNoted g u start
  met_notes level page met row used mid known start meets notes = elim meets [
    | inl again ↦ subst (AreNoted g u) (sym again.same_notes) notes
    | inr first ↦ first_notes level page met row used mid known start first notes
  ]

  pub met_then : (level : ℕ) (least : Least) (part : Part) (met : Met) (row : List Part) (used mid after : ℕ → Bool) (known start noted : Notes) (b c r : Bool)
      → (r ≡ true → (b ≡ true) × (c ≡ true)) → (r ≡ false → (b ≡ false) ⊎ (c ≡ false))
      → (c ≡ true → IsAsked g least met part.size) → (c ≡ false → IsAsked g least met part.size → ⊥)
      → Meets g u level part.page.0 met row used known mid start → AreNoted g u known
      → Walked g u (level_below level) (below_least g) row mid start after noted b → Walked g u level least (part ∷ []) used known after noted r
  met_then level least part met row used mid after known start noted b c r holds fails is_asked not_asked meets notes below = elim meets [
    | inl again ↦ again_then level least part met used after known noted b c r holds fails is_asked not_asked again.known_as again.level_is notes
        (subst (λ (xs : List Part). Walked g u (level_below level) (below_least g) xs used known after noted b) again.nothing
        (subst (λ (k : Notes). Walked g u (level_below level) (below_least g) row used k after noted b) again.same_notes
        (subst (λ (f : ℕ → Bool). Walked g u (level_below level) (below_least g) row f start after noted b) again.same_units below)))
    | inr first ↦ first_then level part.page.0 met row used mid known start first least part after noted b c r refl holds fails is_asked not_asked below
  ]

  pub can_below : (level : ℕ) (part : Part) (met : Met) (row : List Part) (used mid : ℕ → Bool) (known start : Notes)
      → Meets g u level part.page.0 met row used known mid start → CanWalk g u used known level (part ∷ []) → CanWalk g u mid start (level_below level) row
  can_below level part met row used mid known start meets can = elim meets [
    | inl again ↦ subst (CanWalk g u mid start (level_below level)) (sym again.nothing) (record { named = tt; own = λ p inside taken. absurd (contains_none p inside) })
    | inr first ↦ first_can level part.page.0 met row used mid known start first part refl can
  ]

  pub can_on : (level : ℕ) (least : Least) (l : ℕ) (done row : List Part) (used after : ℕ → Bool) (known noted : Notes) (b : Bool)
      → Walked g u l least done used known after noted b → CanWalk g u used known level row → CanWalk g u after noted level row
  can_on level least l done row used after known noted b walked can = record {
    named = can.named;
    own = λ p inside taken. elim (walked.used_then p taken) [
      | inl was ↦ let is = can.own p inside was in (is.0, walked.kept p is.0 is.1)
      | inr is ↦ is
    ];
  }

  pub can_at : (level : ℕ) (row : List Part) (i : ℕ) (d : Part) (used : ℕ → Bool) (known : Notes) → i < length row → CanWalk g u used known level row → CanWalk g u used known level (get_or row i d ∷ [])
  can_at level row i d used known lt can = record {
    named = (each_at _ row i d lt can.named, tt);
    own = λ p inside taken. can.own p (in_item (λ (part : Part). units_on u level part.page.0) row i d p lt (subst (λ xs. Contains xs p) (append-nil (units_on u level (get_or row i d).page.0)) inside)) taken;
  }

  -- a tree that can't be met at its root can't be walked
  pub cant_meet : (level : ℕ) (part : Part) (used : ℕ → Bool) (known : Notes)
      → (IsNamed g u level part.page.0 → (used part.page.0 ≡ true → IsKnown known part.page.0) → ⊥) → CanWalk g u used known level (part ∷ []) → ⊥
  cant_meet level part used known cant can =
      cant can.named.0 (λ taken. can.own part.page.0 (Contains-append_left (units_on u level part.page.0) [] part.page.0 (root_inside u level part.page.0)) taken)
