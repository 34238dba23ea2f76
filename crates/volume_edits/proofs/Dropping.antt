-- A frozen record that goes, where just one other names it as its older one.
use Rattle.std.proofs.Common.{[], ◌≡◌, ◌≢◌, ◌<◌, ◌≤◌, ℕ, Bool, true, false, List, ◌∷◌, ◌++◌, length, map, Option, Some, None, IfSome, refl, sym, ap, subst, ◌∙◌, arith, inl, inr, ◌⊎◌}
use Rattle.std.specs.Prelude.{filter, not, if◌then◌else◌}
use Rattle.std.proofs.lemmas.Bool.{cond-true, cond-false}
use Rattle.std.proofs.lemmas.List.{append-nil}
use Rattle.std.proofs.lemmas.Option.{none-some, same_Some}
use Rattle.ex_base.specs.declared.names.Oid.{Oid}
use Rattle.ex_base.specs.declared.names.Place.{Place}
use Rattle.ex_base.specs.Places.{same_place}
use Rattle.ex_base.proofs.SamePlaces.{place_or_not}
use Rattle.version_lists.specs.declared.version.Version.{Version}
use Rattle.version_lists.specs.Sorted.{in_order}
use Rattle.version_lists.specs.Versions.{unique_of as number_of, has_oid, is_derived_from}
use Rattle.version_lists.specs.Changes.{left_by, older_instead, without_in}
use Rattle.version_lists.proofs.Lists.{Has, contains_has, has_contains, has_length, length_has}
use Rattle.version_lists.proofs.Links.{found_by_oid}
use Rattle.object_records.specs.Record.{Content, Record}
use Rattle.object_records.specs.declared.State.{State}
use Rattle.object_records.specs.declared.State.TheVariants.{Current, Frozen}
use Rattle.trees.specs.Trees.{Units}
use Rattle.volume_model.specs.Volume.{Stored, content_in, oid_of, unique_of, is_frozen, number_at, stands_at, version_of, versions_stored}
use Rattle.volume_model.specs.Links.{Apart, place_in, names_older, stored_from, AreLinked, HaveOlders, IsLinked, IsOlder, NumbersDiffer, only_place, HasObjects, stored_units}
use Rattle.volume_model.proofs.Places.{Sep, sep_filter, sep_from, sep_one, sep_to, stands_has, stands_none, each_has}
use Rattle.volume_model.proofs.Versions.{stored_has, stored_rises}
use Rattle.volume_model.proofs.Links.{Swapped, if_some, named, names, newer_of_current, newer_of_frozen, not_both, older_at, only_some, swapped_many, swapped_one, newer_by}
use Rattle.volume_model.proofs.Numbers.{derived_by_place, not_derived}
use Rattle.version_tree.specs.Bodies.{PlaceChange}
use Rattle.volume_edits.proofs.RecordEdits.{stored_after}
use Rattle.volume_edits.proofs.RecordUpdates.{DropsRecord, SameBytes, SameTrees, older_put, stored_as}
use Rattle.volume_edits.proofs.PlaceChanges.{body_read, if_here, if_off, oid_is, oid_off, put_here, put_off, some_place}
use Rattle.volume_edits.proofs.Turning.{Came, LeadsTo, Stays, Turn, gone_or_not, later_differ, same_number, turn_from, turned, versions_turned}
use Rattle.volume_edits.proofs.Links.{SameFrom, all_linked, later_from_apart, newer_kept, older_kept, older_stays}
use Rattle.volume_edits.proofs.Newer.{newer_by as newer_after, TurnOf, newer_off, others_at, others_off, touched_has, turn_of}
use Rattle.volume_edits.proofs.Labels.{objects_turned}

abbrev content : Stored → Content
content s = s.body.content

-- a record with other links
abbrev linked_as : Stored → Option Place → Option Place → Stored
linked_as s o n = record { place = s.place; body = record { head = record { state = s.body.head.state; unique = s.body.head.unique; older = o; newer = n }; content = s.body.content } }

either_state : (state : State) → (state ≡ Current) ⊎ (state ≡ Frozen)
either_state Current = inl refl
either_state Frozen = inr refl

module _ (stored later : List Stored) (place : Place) (is : Record) (e : DropsRecord stored later place is) (olders : HaveOlders stored) (own : IsLinked stored (stored_as place is)) where
  abbrev at : Place
  at = e.at

  abbrev x : Stored
  x = stored_as place is

  abbrev w : Stored
  w = stored_as at e.next

  apart : Sep place_in stored
  apart = sep_from place_in stored e.edit.places

  there : Has stored x
  there = (stands_has stored place x e.there).0

  next_there : Has stored w
  next_there = (stands_has stored at w e.next_there).0

  here : (s : Stored) → Has stored s → place ≡ s.place → s ≡ x
  here s h same = sep_one place_in stored s x apart h there (sym same)

  is_next : (s : Stored) → Has stored s → at ≡ s.place → s ≡ w
  is_next s h same = sep_one place_in stored s w apart h next_there (sym same)

  -- ---- the one that names it

  frozen : is.head.state ≡ Frozen
  frozen = elim (either_state is.head.state) [
    | inl c ↦ absurd (none-some at (sym (newer_of_current is.head.state (stored_from place stored) is.head.newer c own.newer) ∙ e.only))
    | inr f ↦ f
  ]

  all_at : (d : Stored) → Has stored d → d.body.head.older ≡ Some place → d.place ≡ at
  all_at d h f =
      let was = newer_of_frozen is.head.state (stored_from place stored) is.head.newer frozen own.newer in
      only_some (stored_from place stored) at (sym was.1 ∙ e.only) d (names place stored d h f)

  next_names : e.next.head.older ≡ Some place
  next_names =
      let was = newer_of_frozen is.head.state (stored_from place stored) is.head.newer frozen own.newer in
      let d = length_has (stored_from place stored) was.0 in
      let r = named place stored d.0 d.1 in
      ap (λ (y : Stored). y.body.head.older) (sym (is_next d.0 r.0 (sym (all_at d.0 r.0 r.1)))) ∙ r.1

  -- the record that another names, and which number is lower
  older_is : (s t : Stored) → Has stored s → Has stored t → s.body.head.older ≡ Some t.place → (t.body.head.state ≡ Frozen) × (s.body.head.state ≡ Frozen → unique_of t < unique_of s)
  older_is s t h k d =
      let o = older_at stored olders s h t.place d in
      let same : o.older ≡ t = sep_one place_in stored o.older t apart (contains_has stored o.older o.there) k o.place_is in
      (ap (λ (y : Stored). y.body.head.state) (sym same) ∙ o.frozen, λ f. subst (λ (y : Stored). unique_of y < unique_of s) same (o.lower f))

  not_own : is.head.older ≡ Some place → ⊥
  not_own d = let l = (older_is x x there there d).1 frozen in omega (arith, l)

  far : at ≢ place
  far same = not_own (ap (λ (y : Stored). y.body.head.older) (is_next x there same) ∙ next_names)

  not_next : is.head.older ≡ Some at → ⊥
  not_next d =
      let a = older_is x w there next_there d in
      let l = a.1 frozen in
      let m = (older_is w x next_there there next_names).1 a.0 in
      omega (arith, l, m)

  pub link : TurnOf stored place at is.head.older e.others
  link = turn_of stored place at is.head.older e.others apart e.older

  abbrev pub older : Stored → Option Place
  older s = if same_place at s.place then is.head.older else s.body.head.older

  abbrev pub newer : Stored → Option Place
  newer s = newer_after link.only s

  older_here : (s : Stored) → at ≡ s.place → older s ≡ is.head.older
  older_here s same = if_here at s.place is.head.older s.body.head.older same

  older_off : (s : Stored) → at ≢ s.place → older s ≡ s.body.head.older
  older_off s n = if_off at s.place is.head.older s.body.head.older n

  newer_here : (s : Stored) → at ≡ s.place → newer s ≡ s.body.head.newer
  newer_here s same = newer_off stored e.others link.only s (λ t. not_next (link.touched s.place t ∙ ap Some (sym same)))

  stays_off : (s : Stored) → Stays (Some place) s → place ≢ s.place
  stays_off s n same = n (ap Some same)

  off_stays : (s : Stored) → place ≢ s.place → Stays (Some place) s
  off_stays s n d = n (same_Some place s.place d)

  abbrev rest : List PlaceChange
  rest = (at, Some e.now) ∷ ((place, None) ∷ [])

  kept : (s : Stored) → Has stored s → Stays (Some place) s → stored_after (e.others ++ rest) s.place (Some s) ≡ Some (turned older newer content s)
  kept s h n = elim (place_or_not at s.place) [
    | inl same ↦
        others_off stored e.others rest link.only s.place (Some s) (λ t. not_next (link.touched s.place t ∙ ap Some (sym same)))
        ∙ put_here at (Some e.now) ((place, None) ∷ []) s.place (Some s) same ∙ body_read s.place e.now (older_put is.head.older e.next) e.moved
        ∙ ap (λ (r : Stored). Some (stored_as s.place (older_put is.head.older r.body))) (sym (is_next s h same))
        ∙ ap (λ (l : Option Place). Some (linked_as s is.head.older l)) (sym (newer_here s same))
        ∙ ap (λ (o : Option Place). Some (linked_as s o (newer s))) (sym (older_here s same))
    | inr off ↦
        others_at stored e.others rest link.only s apart h (put_off at (Some e.now) ((place, None) ∷ []) s.place (Some s) off ∙ put_off place None [] s.place (Some s) (stays_off s n))
        ∙ ap (λ (o : Option Place). Some (linked_as s o (newer s))) (sym (older_off s off))
  ]

  lost : (s : Stored) → Has stored s → Some place ≡ Some s.place → stored_after (e.others ++ rest) s.place (Some s) ≡ None
  lost s h g =
      let same = same_Some place s.place g in
      others_off stored e.others rest link.only s.place (Some s) (λ t. not_own (link.touched s.place t ∙ ap Some (sym same)))
      ∙ put_off at (Some e.now) ((place, None) ∷ []) s.place (Some s) (λ d. far (d ∙ sym same)) ∙ put_here place None [] s.place (Some s) same

  fresh : (p : Place) → stands_at p stored ≡ None → stored_after (e.others ++ rest) p None ≡ stands_at p []
  fresh p none =
      others_off stored e.others rest link.only p None (λ t. let q = touched_has stored e.others link.only p t in stands_none stored p q.0 none q.1 q.2)
      ∙ put_off at (Some e.now) ((place, None) ∷ []) p None (some_place stored at p w none e.next_there) ∙ put_off place None [] p None (some_place stored place p x none e.there)

  pub turn : Turn stored later older newer content (Some place) []
  turn = turn_from stored later older newer content (Some place) [] (e.others ++ rest) e.edit kept lost fresh (λ s t h m. absurd m) (λ s t m. absurd m) tt

  abbrev now : Stored → Stored
  now s = turned older newer content s

  pub keeps_numbers : NumbersDiffer stored → NumbersDiffer later
  keeps_numbers differ = sep_to unique_of later (later_differ stored later older newer content (Some place) [] turn (sep_from unique_of stored differ) (λ s t h m. absurd m))

  -- ---- the versions

  module _ (units after : Units) (differ : NumbersDiffer stored) (bytes : SameBytes units after stored) where
    abbrev oid : Oid
    oid = oid_of x

    abbrev v_of : Stored → Version
    v_of s = version_of units stored s

    numbers : Sep unique_of stored
    numbers = sep_from unique_of stored differ

    leads : (s : Stored) → Has stored s → (s.body.head.older ≡ Some place → ⊥) → (p : Place) → s.body.head.older ≡ Some p → LeadsTo stored later older newer content (Some place) [] turn p
    leads s h n p d =
        let o = older_at stored olders s h p d in
        record { at = o.older; there = contains_has stored o.older o.there; place_is = o.place_is; stays = λ g. n (d ∙ sym (g ∙ ap Some o.place_is)) }

    same_bytes : (s : Stored) → Has stored s → content_in after s.body.content ≡ content_in units s.body.content
    same_bytes s h = each_has (λ (y : Stored). content_in after y.body.content ≡ content_in units y.body.content) stored bytes s h

    -- a version with other links and bytes
    abbrev with : Stored → Option ℕ → List ℕ → Version
    with s o b = record { oid = oid_of s; frozen = is_frozen s.body.head.state; older = o; bytes = b }

    abbrev change : Version → Version
    change v = older_instead (v_of x) v

    changed : (s : Stored) → Has stored s → Stays (Some place) s → version_of after later (now s) ≡ change (v_of s)
    changed s h n =
        ap (λ (b : List ℕ). with s (number_at later (older s)) b) (same_bytes s h)
        ∙ elim (place_or_not at s.place) [
          | inl same ↦
              let names_x : s.body.head.older ≡ Some place = ap (λ (y : Stored). y.body.head.older) (is_next s h same) ∙ next_names in
              ap (λ (o : Option ℕ). with s o (content_in units s.body.content)) (ap (number_at later) (older_here s same) ∙ same_number stored later older newer content (Some place) [] turn is.head.older (leads x there not_own))
              ∙ sym (cond-true (is_derived_from (unique_of x) (v_of s)) (with s (number_at stored is.head.older) (content_in units s.body.content)) (v_of s) (derived_by_place units stored apart numbers olders s x h there names_x))
          | inr off ↦
              let free : s.body.head.older ≡ Some place → ⊥ = (λ d. off (sym (all_at s h d))) in
              ap (λ (o : Option ℕ). with s o (content_in units s.body.content)) (ap (number_at later) (older_off s off) ∙ same_number stored later older newer content (Some place) [] turn s.body.head.older (leads s h free))
              ∙ sym (cond-false (is_derived_from (unique_of x) (v_of s)) (with s (number_at stored is.head.older) (content_in units s.body.content)) (v_of s) (not_derived units stored apart numbers olders s x h there free))
        ]

    same_key : (v : Version) → number_of (change v) ≡ number_of v
    same_key v = by (is_derived_from (unique_of x) v)
      where
        by : (b : Bool) → number_of (if b then record v { older = (v_of x).older } else v) ≡ number_of v
        by true = refl
        by false = refl

    abbrev keep : Version → Bool
    keep v = not (has_oid oid v)

    pub is_without : versions_stored after later ≡ in_order number_of (without_in oid (versions_stored units stored))
    is_without =
        let before = versions_stored units stored in
        versions_turned stored later older newer content (Some place) [] turn numbers (λ s t h m. absurd m) units after change keep []
        changed (λ s h n. ap not (oid_off (oid_of s) oid (λ same. stays_off s n (sym same)))) (λ s h g. ap not (oid_is (oid_of s) oid (ap oid_of (here s h (same_Some place s.place g))))) same_key tt (λ t m. absurd m) (λ v m. absurd m)
        ∙ ap (in_order number_of) (append-nil (map change (filter keep before)))
        ∙ ap (λ (o : Option Version). in_order number_of (left_by o before)) (sym (found_by_oid oid before (v_of x) (stored_rises units stored numbers) (stored_has units stored x there) (oid_is oid oid refl)))

  -- ---- the links

  named_as : (s : Stored) → Has stored s → Stays (Some place) s → (is.head.older ≡ Some s.place → ⊥) → SameFrom stored later older newer content (Some place) [] turn s.place
  named_as s h n free = record {
    to = λ d k f. (
      off_stays d (λ same. free (ap (λ (y : Stored). y.body.head.older) (sym (here d k same)) ∙ f)),
      elim (place_or_not at d.place) [
        | inl same ↦ absurd (n (sym next_names ∙ ap (λ (y : Stored). y.body.head.older) (sym (is_next d k same)) ∙ f))
        | inr off ↦ older_off d off ∙ f
      ],
    );
    from = λ d k m f. elim (place_or_not at d.place) [
      | inl same ↦ absurd (free (sym (older_here d same) ∙ f))
      | inr off ↦ sym (older_off d off) ∙ f
    ];
    not_made = λ t m. absurd m;
  }

  swapped : (s : Stored) → Has stored s → Stays (Some place) s → is.head.older ≡ Some s.place → Swapped (stored_from s.place stored) (stored_from s.place later) place at
  swapped s h n led = record {
    one = (x, names s.place stored x there led, refl);
    other = (now w, names s.place later (now w) (turn.to w next_there (off_stays w (λ same. far (sym same)))) (older_here w refl ∙ led), refl);
    to = λ d k off.
        let r = named s.place stored d k in
        let not_at : at ≢ d.place = (λ same. n (sym next_names ∙ ap (λ (y : Stored). y.body.head.older) (sym (is_next d r.0 same)) ∙ r.1)) in
        (now d, names s.place later (now d) (turn.to d r.0 (off_stays d (λ same. off (sym same)))) (older_off d not_at ∙ r.1), refl);
    from = λ t k off. let r = named s.place later t k in by t r.1 off (turn.from t r.0);
    off = λ d k same. let r = named s.place stored d k in n (sym next_names ∙ ap (λ (y : Stored). y.body.head.older) (sym (is_next d r.0 (sym same))) ∙ r.1);
  }
    where
      by : (t : Stored) → t.body.head.older ≡ Some s.place → t.place ≢ at → Has [] t ⊎ Came stored older newer content (Some place) t → (d : Stored) × Has (stored_from s.place stored) d × (d.place ≡ t.place) × (d.place ≢ place)
      by t f off (inl m) = absurd m
      by t f off (inr c) =
          let not_at : at ≢ c.was.place = (λ same. off (sym (ap place_in c.is) ∙ sym same)) in
          (c.was, names s.place stored c.was c.there (sym (older_off c.was not_at) ∙ ap (λ (y : Stored). y.body.head.older) c.is ∙ f), ap place_in c.is, λ same. stays_off c.was c.stays (sym same))

  module _ (linked : AreLinked stored) where
    link_of : (s : Stored) → Has stored s → IsLinked stored s
    link_of s h = each_has (IsLinked stored) stored linked s h

    abbrev OlderTurns : Stored → Type 0
    OlderTurns s = (1 ≤ length (stored_from s.place later)) × (newer s ≡ only_place (stored_from s.place later))

    older_turns : (s : Stored) → Has stored s → Stays (Some place) s → is.head.older ≡ Some s.place → s.body.head.state ≡ Frozen → OlderTurns s
    older_turns s h n led f =
        let swap = swapped s h n led in
        let was = newer_of_frozen s.body.head.state (stored_from s.place stored) s.body.head.newer f (link_of s h).newer in (
          has_length (stored_from s.place later) swap.other.0 swap.other.1,
          elim (gone_or_not s.body.head.newer x) [
            | inl d ↦ link.turned s h led d ∙ sym (swapped_one (stored_from s.place stored) (stored_from s.place later) place at (later_from_apart stored later older newer content (Some place) [] turn s.place) swap (sym was.1 ∙ d))
            | inr m ↦
                let many = swapped_many (stored_from s.place stored) (stored_from s.place later) place at (sep_filter place_in (names_older s.place) stored apart) swap (λ d. m (was.1 ∙ d)) in
                link.stayed s h led m ∙ was.1 ∙ many.0 ∙ sym many.1
          ],
        )

    next_older : IfSome (older w) (IsOlder later (now w))
    next_older = subst (λ (l : Option Place). IfSome l (IsOlder later (now w))) (sym (older_here w refl))
        (if_some (IsOlder later (now w)) is.head.older (λ p d.
        let o = older_at stored olders x there p d in
        older_stays stored later older newer content (Some place) [] turn (now w) o.older p (contains_has stored o.older o.there) (λ g. not_own (d ∙ sym (g ∙ ap Some o.place_is))) o.place_is o.frozen
        (λ f. let l = o.lower frozen in let m = (older_is w x next_there there next_names).1 f in omega (arith, l, m))))

    came_linked : (s : Stored) → Has stored s → Stays (Some place) s → IsLinked later (now s)
    came_linked s h n = record {
      older = elim (place_or_not at s.place) [
        | inl same ↦ subst (λ (t : Stored). IfSome (older t) (IsOlder later (now t))) (sym (is_next s h same)) next_older
        | inr off ↦ older_kept stored later older newer content (Some place) [] turn s (link_of s h).older (older_off s off) (λ q k d g. off (sym (all_at s h (d ∙ sym g))))
      ];
      newer = elim (gone_or_not is.head.older s) [
        | inl led ↦
            let f = (older_is x s there h led).0 in
            newer_by s.body.head.state (stored_from s.place later) (newer s) (λ c. absurd (not_both s.body.head.state c f)) (λ g. older_turns s h n led f)
        | inr free ↦ newer_kept stored later older newer content (Some place) [] turn s (named_as s h n free) (newer_off stored e.others link.only s (λ t. free (link.touched s.place t))) (link_of s h).newer
      ];
    }

    pub keeps_links : AreLinked later
    keeps_links = all_linked stored later older newer content (Some place) [] turn came_linked (λ t m. absurd m)

  -- ---- the objects

  module _ (units after : Units) (objects : HasObjects units stored) (trees : SameTrees units after stored) where
    units_are : (s : Stored) → Has stored s → stored_units after s ≡ stored_units units s
    units_are s h = each_has (λ (y : Stored). stored_units after y ≡ stored_units units y) stored trees s h

    next_object : (s : Stored) → Has stored s → at ≡ s.place → objects.object s.place ≡ objects.object place
    next_object s h same = objects.joined s x (has_contains stored s h) (has_contains stored x there) (ap (λ (y : Stored). y.body.head.older) (is_next s h same) ∙ next_names)

    joins : (s t : Stored) → Has stored s → Has stored t → older s ≡ Some t.place → objects.object s.place ≡ objects.object t.place
    joins s t h k d = elim (place_or_not at s.place) [
      | inl same ↦ next_object s h same ∙ objects.joined x t (has_contains stored x there) (has_contains stored t k) (sym (older_here s same) ∙ d)
      | inr off ↦ objects.joined s t (has_contains stored s h) (has_contains stored t k) (sym (older_off s off) ∙ d)
    ]

    -- an other first one has another label than the one that goes
    not_first : (s t : Stored) → Has stored s → Has stored t → Stays (Some place) t → at ≡ s.place → at ≢ t.place → older s ≡ None → older t ≡ None → objects.object s.place ≡ objects.object t.place → ⊥
    not_first s t h k n same off d f alike =
        stays_off t n (objects.one_first x t (has_contains stored x there) (has_contains stored t k) (sym (older_here s same) ∙ d) (sym (older_off t off) ∙ f) (sym (next_object s h same) ∙ alike))

    firsts : (s t : Stored) → Has stored s × Stays (Some place) s → Has stored t × Stays (Some place) t → older s ≡ None → older t ≡ None → objects.object s.place ≡ objects.object t.place → s.place ≡ t.place
    firsts s t h k d f alike = elim (place_or_not at s.place) [
      | inl a ↦ elim (place_or_not at t.place) [
        | inl b ↦ sym a ∙ b
        | inr b ↦ absurd (not_first s t h.0 k.0 k.1 a b d f alike)
      ]
      | inr a ↦ elim (place_or_not at t.place) [
        | inl b ↦ absurd (not_first t s k.0 h.0 h.1 b a f d (sym alike))
        | inr b ↦ objects.one_first s t (has_contains stored s h.0) (has_contains stored t k.0) (sym (older_off s a) ∙ d) (sym (older_off t b) ∙ f) alike
      ]
    ]

    pub keeps_objects : HasObjects after later
    keeps_objects = objects_turned stored later older newer content (Some place) [] turn units after objects objects.object (record {
      same = λ s h. refl;
      joins = λ s t h k d. joins s t h.0 k.0 d;
      names_made = λ s t h m. absurd m;
      made_names = λ s t m. absurd m;
      firsts = firsts;
      first_made = λ s t h m. absurd m;
      apart = λ s t h k n.
          subst (λ (us : List ℕ). Apart us (stored_units after t)) (sym (units_are s h.0))
          (subst (λ (us : List ℕ). Apart (stored_units units s) us) (sym (units_are t k.0)) (objects.apart s t (has_contains stored s h.0) (has_contains stored t k.0) n));
      apart_made = λ s t h m. absurd m;
    })
