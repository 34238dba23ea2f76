-- The trees of one object after those of the other: which roots are left to be walked, and what is known of all by what is left.
use Rattle.std.proofs.Common.{◌≡◌, ◌≢◌, ◌⊎◌, ◌↔◌, ◌≤◌, ℕ, Bool, true, false, List, [], ◌∷◌, ◌++◌, Some, None, inl, inr, arith, refl, sym, ap, subst, ◌∙◌, true≢false}
use Rattle.std.proofs.lemmas.Bool.{cases_Bool}
use Rattle.std.proofs.lemmas.List.{append-nil}
use Rattle.std.proofs.lemmas.List.Elements.{Contains-append_left, Contains-append_right, Contains-append_cases}
use Rattle.std.specs.Prelude.{Contains}
use Rattle.std.specs.List.{flat_map, AllByRecursion}
use Rattle.ex_base.specs.declared.geometry.Geometry.{Geometry}
use Rattle.ex_base.specs.declared.names.Root.{Root}
use Rattle.ex_base.specs.Sizes.{object_most}
use Rattle.ex_base.proofs.Counts.{same_or_not}
use Rattle.ex_base.proofs.Each.{each_from, each_of}
use Rattle.ex_base.proofs.Members.{contains_cases, contains_later, contains_none}
use Rattle.object_records.specs.Record.{IsRootField}
use Rattle.trees.specs.Trees.{Units, RootNamed, root_units, units_on}
use Rattle.trees.specs.Rows.{row_units}
use Rattle.volume_model.specs.Links.{Apart}
use Rattle.volume_model.specs.Parts.{HasBalance}
use Rattle.node_walk.specs.declared.ObjectRoot.{ObjectRoot}
use Rattle.node_walk.specs.TreesNamed.{AreBalanced, AreFree, AreNamed, UsesTrees, trees_in}
use Rattle.node_walk.specs.Walk.{CanWalk, IsFull, IsKnown, Notes, RootWalked, TurnsTo, root_least, root_row}
use Rattle.node_walk.proofs.Lists.{in_first}
use Rattle.node_walk.proofs.Trees.{balance_full, full_balance, named_row, root_row_units, row_named as named_of_row}
use Rattle.node_walk.proofs.Whole.{NotesHold, known_of, none_hold, none_noted, notes_more, row_full, row_known, row_named}

pub false_by : (b : Bool) → (b ≡ true → ⊥) → b ≡ false
false_by b never = elim (cases_Bool b) [
  | inl is ↦ absurd (never is)
  | inr isnt ↦ isnt
]

-- Trees are well formed. A unit of them that is in use has a note, and stands in trees of the object whose notes these are. No unit is of two objects.
pub record CanWalkRoots (g : Geometry) (u : Units) (used : ℕ → Bool) (known : Notes) (object : ℕ) (rest : List ObjectRoot) : Type 0 where
  pub named : AllByRecursion (λ (r : ObjectRoot). RootNamed g u r.root.height r.root.page) rest
  pub own : (r : ObjectRoot) → Contains rest r → (p : ℕ) → Contains (root_units u r.root) p → used p ≡ true → (r.object ≡ object) × IsKnown known p
  pub apart : (r s : ObjectRoot) → Contains rest r → Contains rest s → (r.object ≡ s.object → ⊥) → Apart (root_units u r.root) (root_units u s.root)

-- the roots that are left are of this object or of later ones
abbrev pub StartAt : ℕ → List ObjectRoot → Type 0
StartAt object rest = (r : ObjectRoot) → Contains rest r → object ≤ r.object

module _ (g : Geometry) (u : Units) where
  -- ---- at first nothing is known

  pub can_start : (used : ℕ → Bool) (known : Notes) (roots : List ObjectRoot) → AreNamed g u used roots → CanWalkRoots g u used known 0 roots
  can_start used known roots named = record {
    named = named.named;
    own = λ r there p inside is.
        let free = each_of (λ (s : ObjectRoot). AreFree used (root_units u s.root)) roots r named.free there in
        absurd (true≢false (sym is ∙ each_of (λ q. used q ≡ false) (root_units u r.root) p free inside));
    apart = named.apart;
  }

  pub start_can : (used : ℕ → Bool) (known : Notes) (roots : List ObjectRoot) → ((p : ℕ) → known p ≡ None) → CanWalkRoots g u used known 0 roots → AreNamed g u used roots
  start_can used known roots none can = record {
    named = can.named;
    free = each_from (λ (r : ObjectRoot). AreFree used (root_units u r.root)) roots (λ r there.
        each_from (λ p. used p ≡ false) (root_units u r.root) (λ p inside. false_by (used p) (λ is. let met = (can.own r there p inside is).1 in none_noted known none p met.0 met.1)));
    apart = can.apart;
  }

  -- ---- the notes turn to another object

  module _ (used : ℕ → Bool) (object : ℕ) (known : Notes) (next : ℕ) (turned : Notes) (rest : List ObjectRoot) (turns : TurnsTo object known next turned) where
    pub can_turn : object ≤ next → StartAt next rest → CanWalkRoots g u used known object rest → CanWalkRoots g u used turned next rest
    can_turn low start can = record {
      named = can.named;
      own = λ r there p inside is.
          let was = can.own r there p inside is in
          let same : object ≡ next = omega (arith, was.0, start r there, low) in
          (was.0 ∙ same, subst (λ (n : Notes). IsKnown n p) (sym (turns.same same)) was.1);
      apart = can.apart;
    }

    pub turn_can : CanWalkRoots g u used turned next rest → CanWalkRoots g u used known object rest
    turn_can can = record {
      named = can.named;
      own = λ r there p inside is.
          let now = can.own r there p inside is in
          elim (same_or_not object next) [
            | inl same ↦ (now.0 ∙ sym same, subst (λ (n : Notes). IsKnown n p) (turns.same same) now.1)
            | inr differ ↦ absurd (none_noted turned (turns.other differ) p now.1.0 now.1.1)
          ];
      apart = can.apart;
    }

    pub hold_turn : (balanced : Bool) → NotesHold g u known balanced → NotesHold g u turned balanced
    hold_turn balanced holds = elim (same_or_not object next) [
      | inl same ↦ subst (λ (n : Notes). NotesHold g u n balanced) (sym (turns.same same)) holds
      | inr differ ↦ none_hold g u turned balanced (turns.other differ)
    ]

  pub known_turn : (object : ℕ) (known : Notes) (next : ℕ) (turned : Notes) → TurnsTo object known next turned → (p : ℕ) → IsKnown turned p → IsKnown known p
  known_turn object known next turned turns p is = elim (same_or_not object next) [
    | inl same ↦ subst (λ (n : Notes). IsKnown n p) (turns.same same) is
    | inr differ ↦ absurd (none_noted turned (turns.other differ) p is.0 is.1)
  ]

  -- ---- a tree that was walked

  module _ (r : ObjectRoot) (rest : List ObjectRoot) (used after : ℕ → Bool) (known noted : Notes) (b c : Bool) (was : NotesHold g u known b) (one : RootWalked g u r.root used known after noted c)
      (known_used : (p : ℕ) → IsKnown known p → used p ≡ true) (noted_used : (p : ℕ) → IsKnown noted p → after p ≡ true) where
    -- the notes, whether all was balanced or not
    holds : NotesHold g u noted false
    holds = notes_more g u r.root.height root_least (root_row r.root) used after known noted b one.full false (λ f. absurd (true≢false (sym f))) was one.walked

    in_row : (p : ℕ) → Contains (root_units u r.root) p → Contains (row_units u r.root.height (root_row r.root)) p
    in_row p inside = subst (λ (xs : List ℕ). Contains xs p) (sym (root_row_units g u r.root)) inside

    in_root : (p : ℕ) → Contains (row_units u r.root.height (root_row r.root)) p → Contains (root_units u r.root) p
    in_root p inside = subst (λ (xs : List ℕ). Contains xs p) (root_row_units g u r.root) inside

    own_known : (p : ℕ) → Contains (root_units u r.root) p → IsKnown noted p
    own_known p inside = row_known g u noted false holds r.root.height p (root_row r.root) (λ page is here. known_of g u noted false holds r.root.height page p is here) one.walked.met (in_row p inside)

    root_is : RootNamed g u r.root.height r.root.page
    root_is = named_of_row g u r.root (row_named g u noted false holds r.root.height (root_row r.root) one.walked.met)

    pub taken : UsesTrees u (r.root ∷ []) used after
    taken p = (
      λ is. elim (one.walked.used_then p is) [
        | inl then ↦ inl then
        | inr met ↦ elim (one.walked.fresh p met.0 met.1) [
          | inl before ↦ inl (known_used p (met.0, before))
          | inr new ↦ inr (Contains-append_left (root_units u r.root) [] p (in_root p new.inside))
        ]
      ],
      λ cases. elim cases [
        | inl then ↦ one.walked.still_used p then
        | inr inside ↦ elim (Contains-append_cases (root_units u r.root) [] p inside) [
          | inl mine ↦ noted_used p (own_known p mine)
          | inr none ↦ absurd (contains_none p none)
        ]
      ],
    )

    -- where those that are left can be walked then, all could
    pub can_before : CanWalkRoots g u after noted r.object rest → CanWalkRoots g u used known r.object (r ∷ rest)
    can_before can = record { named = (root_is, can.named); own = own; apart = apart }
      where
        known_before : (p : ℕ) → IsKnown noted p → used p ≡ true → IsKnown known p
        known_before p met is = elim (one.walked.fresh p met.0 met.1) [
          | inl before ↦ (met.0, before)
          | inr new ↦ absurd (true≢false (sym is ∙ new.free))
        ]

        own : (s : ObjectRoot) → Contains (r ∷ rest) s → (p : ℕ) → Contains (root_units u s.root) p → used p ≡ true → (s.object ≡ r.object) × IsKnown known p
        own s there p inside is = elim (contains_cases r s rest there) [
          | inl same ↦ (ap (λ (t : ObjectRoot). t.object) (sym same), known_before p (own_known p (subst (λ (t : ObjectRoot). Contains (root_units u t.root) p) (sym same) inside)) is)
          | inr later ↦ let found = can.own s later p inside (one.walked.still_used p is) in (found.0, known_before p found.1 is)
        ]

        clash : (s : ObjectRoot) → Contains rest s → (s.object ≡ r.object → ⊥) → (p : ℕ) → Contains (root_units u r.root) p → Contains (root_units u s.root) p → ⊥
        clash s later differ p mine theirs = differ (can.own s later p theirs (noted_used p (own_known p mine))).0

        apart : (s t : ObjectRoot) → Contains (r ∷ rest) s → Contains (r ∷ rest) t → (s.object ≡ t.object → ⊥) → Apart (root_units u s.root) (root_units u t.root)
        apart s t there here differ = elim (contains_cases r s rest there) [
          | inl same ↦ elim (contains_cases r t rest here) [
            | inl too ↦ absurd (differ (ap (λ (x : ObjectRoot). x.object) (sym same ∙ too)))
            | inr later ↦ subst (λ (x : ObjectRoot). Apart (root_units u x.root) (root_units u t.root)) same
                (each_from (λ x. ¬ Contains (root_units u t.root) x) (root_units u r.root) (λ p mine theirs. clash t later (λ e. differ (ap (λ (x : ObjectRoot). x.object) (sym same) ∙ sym e)) p mine theirs))
          ]
          | inr before ↦ elim (contains_cases r t rest here) [
            | inl too ↦ subst (λ (x : ObjectRoot). Apart (root_units u s.root) (root_units u x.root)) too
                (each_from (λ x. ¬ Contains (root_units u r.root) x) (root_units u s.root) (λ p theirs mine. clash s before (λ e. differ (e ∙ ap (λ (x : ObjectRoot). x.object) too)) p mine theirs))
            | inr later ↦ can.apart s t before later differ
          ]
        ]

    -- where all can be walked, those that are left can then
    pub can_after : CanWalkRoots g u used known r.object (r ∷ rest) → CanWalkRoots g u after noted r.object rest
    can_after can = record {
      named = can.named.1;
      own = own;
      apart = λ s t there here. can.apart s t (contains_later r s rest there) (contains_later r t rest here);
    }
      where
        kept : (p : ℕ) → IsKnown known p → IsKnown noted p
        kept p met = (met.0, one.walked.kept p met.0 met.1)

        own : (s : ObjectRoot) → Contains rest s → (p : ℕ) → Contains (root_units u s.root) p → after p ≡ true → (s.object ≡ r.object) × IsKnown noted p
        own s there p inside is =
            let before : used p ≡ true → (s.object ≡ r.object) × IsKnown noted p = λ then. let found = can.own s (contains_later r s rest there) p inside then in (found.0, kept p found.1) in
            elim (one.walked.used_then p is) [
              | inl then ↦ before then
              | inr met ↦ elim (one.walked.fresh p met.0 met.1) [
                | inl known_then ↦ before (known_used p (met.0, known_then))
                | inr new ↦ elim (same_or_not s.object r.object) [
                  | inl same ↦ (same, met)
                  | inr differ ↦
                      let apart = can.apart s r (contains_later r s rest there) (in_first r rest) differ in
                      absurd (each_of (λ x. ¬ Contains (root_units u r.root) x) (root_units u s.root) p apart inside (in_root p new.inside))
                ]
              ]
            ]

    -- its balance
    pub root_fine : (all : Bool) → (all ≡ true → (b ≡ true) × (c ≡ true)) → IsRootField r.root → all ≡ true → HasBalance g u r.root
    root_fine all both field is =
        let parts = both is in
        let flags = one.is.0 parts.1 in
        let hold : NotesHold g u noted all = notes_more g u r.root.height root_least (root_row r.root) used after known noted b one.full all (λ t. (parts.0, flags.0)) was one.walked in
        full_balance g u r.root field root_is (row_full g u noted all hold is root_least r.root.height (root_row r.root) one.walked.met (one.walked.asked flags.0)) flags.1

    pub root_thin : c ≡ false → HasBalance g u r.root → ⊥
    root_thin isnt balance = elim (cases_Bool one.full) [
      | inl is ↦ true≢false (sym (one.is.1 (is, balance.limit)) ∙ isnt)
      | inr thin ↦ one.walked.thin thin (balance_full g u r.root balance)
    ]

    pub hold_more : (all : Bool) → (all ≡ true → (b ≡ true) × (c ≡ true)) → NotesHold g u noted all
    hold_more all both = notes_more g u r.root.height root_least (root_row r.root) used after known noted b one.full all (λ t. ((both t).0, (one.is.0 (both t).1).0)) was one.walked

  -- ---- units that are used

  pub uses_more : (root : Root) (rest : List Root) (used after last : ℕ → Bool) → UsesTrees u (root ∷ []) used after → UsesTrees u rest after last → UsesTrees u (root ∷ rest) used last
  uses_more root rest used after last taken h p = (
    λ is. elim ((h p).0 is) [
      | inl then ↦ elim ((taken p).0 then) [
        | inl was ↦ inl was
        | inr inside ↦ elim (Contains-append_cases (root_units u root) [] p inside) [
          | inl mine ↦ inr (Contains-append_left (root_units u root) (flat_map (root_units u) rest) p mine)
          | inr none ↦ absurd (contains_none p none)
        ]
      ]
      | inr behind ↦ inr (Contains-append_right (root_units u root) (flat_map (root_units u) rest) p behind)
    ],
    λ cases. elim cases [
      | inl was ↦ (h p).1 (inl ((taken p).1 (inl was)))
      | inr inside ↦ elim (Contains-append_cases (root_units u root) (flat_map (root_units u) rest) p inside) [
        | inl mine ↦ (h p).1 (inl ((taken p).1 (inr (Contains-append_left (root_units u root) [] p mine))))
        | inr behind ↦ (h p).1 (inr behind)
      ]
    ],
  )

-- ---- the trees up to some, by what is left of them

-- What was found of the trees so far: all hold where those that are left hold, and the other way round.
pub record TreesSoFar (g : Geometry) (u : Units) (roots rest : List ObjectRoot) (used after : ℕ → Bool) (known : Notes) (object : ℕ) (balanced : Bool) : Type 0 where
  pub holds : NotesHold g u known balanced
  pub named : CanWalkRoots g u after known object rest → AreNamed g u used roots
  pub still_named : AreNamed g u used roots → CanWalkRoots g u after known object rest
  pub taken : (last : ℕ → Bool) → UsesTrees u (trees_in rest) after last → UsesTrees u (trees_in roots) used last
  pub fine : balanced ≡ true → AreBalanced g u (trees_in rest) → AreBalanced g u (trees_in roots)
  pub left : AreBalanced g u (trees_in roots) → AreBalanced g u (trees_in rest)
  pub thin : balanced ≡ false → AreBalanced g u (trees_in roots) → ⊥

pub trees_start : (g : Geometry) (u : Units) (roots : List ObjectRoot) (used : ℕ → Bool) (known : Notes) → ((p : ℕ) → known p ≡ None) → TreesSoFar g u roots roots used used known 0 true
trees_start g u roots used known none = record {
  holds = none_hold g u known true none;
  named = start_can g u used known roots none;
  still_named = can_start g u used known roots;
  taken = λ last h. h;
  fine = λ t h. h;
  left = λ h. h;
  thin = λ f h. true≢false f;
}

pub trees_turn : (g : Geometry) (u : Units) (roots rest : List ObjectRoot) (used after : ℕ → Bool) (known : Notes) (object : ℕ) (turned : Notes) (next : ℕ) (balanced : Bool) → TurnsTo object known next turned → object ≤ next → StartAt next rest
    → TreesSoFar g u roots rest used after known object balanced → TreesSoFar g u roots rest used after turned next balanced
trees_turn g u roots rest used after known object turned next balanced turns low start h = record {
  holds = hold_turn g u after object known next turned rest turns balanced h.holds;
  named = λ can. h.named (turn_can g u after object known next turned rest turns can);
  still_named = λ n. can_turn g u after object known next turned rest turns low start (h.still_named n);
  taken = h.taken;
  fine = h.fine;
  left = h.left;
  thin = h.thin;
}

pub trees_more : (g : Geometry) (u : Units) (roots : List ObjectRoot) (r : ObjectRoot) (rest : List ObjectRoot) (used mid after : ℕ → Bool) (known noted : Notes) (b c all : Bool)
    → (all ≡ true → (b ≡ true) × (c ≡ true)) → (all ≡ false → (b ≡ false) ⊎ (c ≡ false)) → IsRootField r.root
    → ((p : ℕ) → IsKnown known p → mid p ≡ true) → ((p : ℕ) → IsKnown noted p → after p ≡ true)
    → TreesSoFar g u roots (r ∷ rest) used mid known r.object b → RootWalked g u r.root mid known after noted c → TreesSoFar g u roots rest used after noted r.object all
trees_more g u roots r rest used mid after known noted b c all both either field known_used noted_used h one = record {
  holds = hold_more g u r rest mid after known noted b c h.holds one known_used noted_used all both;
  named = λ can. h.named (can_before g u r rest mid after known noted b c h.holds one known_used noted_used can);
  still_named = λ n. can_after g u r rest mid after known noted b c h.holds one known_used noted_used (h.still_named n);
  taken = λ last uses. h.taken last (uses_more g u r.root (trees_in rest) mid after last (taken g u r rest mid after known noted b c h.holds one known_used noted_used) uses);
  fine = λ t rest_fine. h.fine (both t).0 (root_fine g u r rest mid after known noted b c h.holds one known_used noted_used all both field t, rest_fine);
  left = λ fine. (h.left fine).1;
  thin = λ f fine. elim (either f) [
    | inl first ↦ h.thin first fine
    | inr second ↦ root_thin g u r rest mid after known noted b c h.holds one known_used noted_used second (h.left fine).0
  ];
}

-- the first tree that is left can be walked where all are named
pub next_can : (g : Geometry) (u : Units) (used : ℕ → Bool) (known : Notes) (r : ObjectRoot) (rest : List ObjectRoot) → CanWalkRoots g u used known r.object (r ∷ rest) → CanWalk g u used known r.root.height (root_row r.root)
next_can g u used known r rest can = record {
  named = named_row g u r.root can.named.0;
  own = λ p inside is. (can.own r (in_first r rest) p (subst (λ (xs : List ℕ). Contains xs p) (root_row_units g u r.root) inside) is).1;
}

-- all trees were found
pub record TreesFound (g : Geometry) (u : Units) (roots : List ObjectRoot) (used after : ℕ → Bool) (balanced : Bool) : Type 0 where
  pub named : AreNamed g u used roots
  pub taken : UsesTrees u (trees_in roots) used after
  pub fine : balanced ≡ true → AreBalanced g u (trees_in roots)
  pub thin : balanced ≡ false → AreBalanced g u (trees_in roots) → ⊥

none_left : (g : Geometry) (u : Units) (used : ℕ → Bool) (known : Notes) (object : ℕ) → CanWalkRoots g u used known object []
none_left g u used known object = record { named = tt; own = λ r there. absurd (contains_none r there); apart = λ r s there. absurd (contains_none r there) }

pub trees_end : (g : Geometry) (u : Units) (roots rest : List ObjectRoot) (used after : ℕ → Bool) (known : Notes) (object : ℕ) (balanced : Bool) → rest ≡ [] → TreesSoFar g u roots rest used after known object balanced
    → TreesFound g u roots used after balanced
trees_end g u roots [] used after known object balanced is h = record {
  named = h.named (none_left g u after known object);
  taken = h.taken after (λ p. (
    λ t. inl t,
    λ cases. elim cases [
      | inl t ↦ t
      | inr inside ↦ absurd (contains_none p inside)
    ],
  ));
  fine = λ t. h.fine t tt;
  thin = h.thin;
}
trees_end g u roots (r ∷ rest) used after known object balanced is h = absurd cc
