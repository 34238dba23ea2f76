-- A frozen copy that comes between a record and its older one.
use Rattle.std.proofs.Common.{[], ◌≡◌, ◌≢◌, ◌<◌, ◌≤◌, ℕ, Bool, true, false, List, ◌∷◌, ◌++◌, length, map, Option, Some, None, IfSome, refl, sym, ap, subst, ◌∙◌, arith, inl, inr, ◌⊎◌}
use Rattle.std.specs.Prelude.{if◌then◌else◌}
use Rattle.std.proofs.lemmas.Bool.{cond-true, cond-false}
use Rattle.std.proofs.lemmas.Option.{none-some, same_Some}
use Rattle.ex_base.specs.declared.names.Oid.{Oid}
use Rattle.ex_base.specs.declared.names.Place.{Place}
use Rattle.ex_base.specs.Places.{same_place}
use Rattle.ex_base.proofs.SamePlaces.{place_or_not}
use Rattle.version_lists.specs.declared.version.Version.{Version}
use Rattle.version_lists.specs.Sorted.{in_order}
use Rattle.version_lists.specs.Versions.{unique_of as number_of, has_oid}
use Rattle.version_lists.specs.Changes.{frozen_copy, frozen_in, moved_onto}
use Rattle.version_lists.proofs.Lists.{Has, contains_has, filter_all, has_contains, has_length}
use Rattle.version_lists.proofs.Links.{filtered_by_oid}
use Rattle.object_records.specs.Record.{Content, Record}
use Rattle.object_records.specs.declared.State.TheVariants.{Current, Frozen}
use Rattle.trees.specs.Trees.{Units}
use Rattle.volume_model.specs.Volume.{Stored, content_in, oid_of, unique_of, is_frozen, number_at, stands_at, version_of, versions_stored}
use Rattle.volume_model.specs.Links.{Apart, place_in, stored_from, AreLinked, HaveOlders, IsLinked, IsOlder, NumbersDiffer, only_place, HasObjects, stored_units, names_older}
use Rattle.volume_model.proofs.Places.{Sep, sep_from, sep_one, sep_to, stands_has, stands_none, each_has, sep_filter}
use Rattle.volume_model.proofs.Versions.{stored_has, stored_rises}
use Rattle.volume_model.proofs.Links.{Swapped, if_some, named, names, newer_of_current, newer_of_frozen, not_both, older_at, only_all, swapped_many, swapped_one, newer_by}
use Rattle.versions.specs.Versions.{place_of}
use Rattle.version_tree.specs.Bodies.{PlaceChange, frozen_head, with_head}
use Rattle.volume_edits.proofs.RecordEdits.{stored_after}
use Rattle.volume_edits.proofs.RecordUpdates.{FreezesRecord, IsAbove, SameBytes, SameTrees, older_put, stored_as}
use Rattle.volume_edits.proofs.PlaceChanges.{body_read, if_here, if_off, is_one, made_here, made_off, no_place, oid_is, oid_off, one_of, put_here, put_off, some_place}
use Rattle.volume_edits.proofs.Turning.{Came, LeadsTo, Stays, Turn, gone_or_not, later_differ, number_made, same_number, turn_from, turned, versions_turned}
use Rattle.volume_edits.proofs.Links.{SameFrom, all_linked, later_from_apart, newer_kept, older_kept, older_stays}
use Rattle.volume_edits.proofs.Newer.{newer_by as newer_after, TurnOf, newer_off, others_at, others_off, touched_has, turn_of}
use Rattle.volume_edits.proofs.Labels.{objects_turned}

abbrev content : Stored → Content
content s = s.body.content

-- a record with other links
abbrev pub linked_as : Stored → Option Place → Option Place → Stored
linked_as s o n = record { place = s.place; body = record { head = record { state = s.body.head.state; unique = s.body.head.unique; older = o; newer = n }; content = s.body.content } }

module _ (stored later : List Stored) (place : Place) (is : Record) (made : Oid) (e : FreezesRecord stored later place is made) (current : is.head.state ≡ Current) (olders : HaveOlders stored) where
  abbrev to : Place
  to = place_of made

  abbrev x : Stored
  x = stored_as place is

  abbrev copy : Record
  copy = with_head (frozen_head made.unique place is.head) is

  abbrev new : Stored
  new = stored_as to copy

  apart : Sep place_in stored
  apart = sep_from place_in stored e.edit.places

  there : Has stored x
  there = (stands_has stored place x e.there).0

  here : (s : Stored) → Has stored s → place ≡ s.place → s ≡ x
  here s h same = sep_one place_in stored s x apart h there (sym same)

  off : (s : Stored) → Has stored s → to ≢ s.place
  off s h = no_place stored to s e.vacant h

  pub link : TurnOf stored place to is.head.older e.others
  link = turn_of stored place to is.head.older e.others apart e.older

  not_own : is.head.older ≡ Some place → ⊥
  not_own d =
      let o = older_at stored olders x there place d in
      not_both is.head.state current (sym (ap (λ (s : Stored). s.body.head.state) (here o.older (contains_has stored o.older o.there) (sym o.place_is))) ∙ o.frozen)

  not_named : (s : Stored) → Has stored s → s.body.head.older ≡ Some to → ⊥
  not_named s h d =
      let o = older_at stored olders s h to d in
      off o.older (contains_has stored o.older o.there) (sym o.place_is)

  abbrev pub older : Stored → Option Place
  older s = if same_place place s.place then Some to else s.body.head.older

  abbrev pub newer : Stored → Option Place
  newer s = newer_after link.only s

  older_here : (s : Stored) → place ≡ s.place → older s ≡ Some to
  older_here s same = if_here place s.place (Some to) s.body.head.older same

  older_off : (s : Stored) → place ≢ s.place → older s ≡ s.body.head.older
  older_off s n = if_off place s.place (Some to) s.body.head.older n

  newer_here : (s : Stored) → place ≡ s.place → newer s ≡ s.body.head.newer
  newer_here s same = newer_off stored e.others link.only s (λ t. not_own (link.touched s.place t ∙ ap Some (sym same)))

  abbrev rest : List PlaceChange
  rest = (place, Some e.moved) ∷ ((to, Some e.copy) ∷ [])

  kept : (s : Stored) → Has stored s → Stays None s → stored_after (e.others ++ rest) s.place (Some s) ≡ Some (turned older newer content s)
  kept s h n = elim (place_or_not place s.place) [
    | inl same ↦
        others_off stored e.others rest link.only s.place (Some s) (λ t. not_own (link.touched s.place t ∙ ap Some (sym same)))
        ∙ put_here place (Some e.moved) ((to, Some e.copy) ∷ []) s.place (Some s) same ∙ body_read s.place e.moved (older_put (Some to) is) e.moves
        ∙ ap (λ (r : Stored). Some (stored_as s.place (older_put (Some to) r.body))) (sym (here s h same))
        ∙ ap (λ (l : Option Place). Some (linked_as s (Some to) l)) (sym (newer_here s same))
        ∙ ap (λ (o : Option Place). Some (linked_as s o (newer s))) (sym (older_here s same))
    | inr far ↦
        others_at stored e.others rest link.only s apart h (put_off place (Some e.moved) ((to, Some e.copy) ∷ []) s.place (Some s) far ∙ put_off to (Some e.copy) [] s.place (Some s) (off s h))
        ∙ ap (λ (o : Option Place). Some (linked_as s o (newer s))) (sym (older_off s far))
  ]

  fresh : (at : Place) → stands_at at stored ≡ None → stored_after (e.others ++ rest) at None ≡ stands_at at (new ∷ [])
  fresh at none =
      others_off stored e.others rest link.only at None (λ t. let q = touched_has stored e.others link.only at t in stands_none stored at q.0 none q.1 q.2)
      ∙ put_off place (Some e.moved) ((to, Some e.copy) ∷ []) at None (some_place stored place at x none e.there)
      ∙ elim (place_or_not to at) [
        | inl same ↦ put_here to (Some e.copy) [] at None same ∙ body_read at e.copy copy e.copied ∙ sym (made_here to at copy same)
        | inr n ↦ put_off to (Some e.copy) [] at None n ∙ sym (made_off to at copy n)
      ]

  pub turn : Turn stored later older newer content None (new ∷ [])
  turn = turn_from stored later older newer content None (new ∷ []) (e.others ++ rest) e.edit kept (λ s h g. absurd (none-some s.place g)) fresh
      (λ s t h m same. off s h (ap (λ (y : Stored). y.place) (sym (is_one new t m)) ∙ sym same)) (one_of new) ((λ y m. absurd m), tt)

  never : (s : Stored) → Stays None s
  never s g = none-some s.place g

  abbrev now : Stored → Stored
  now s = turned older newer content s

  new_number : IsAbove made.unique stored → (s t : Stored) → Has stored s → Has (new ∷ []) t → unique_of s ≡ unique_of t → ⊥
  new_number above s t h m same =
      let l = each_has (λ (y : Stored). unique_of y < made.unique) stored above s h in
      let u : unique_of t ≡ made.unique = ap unique_of (is_one new t m) in
      omega (arith, l, u, same)

  pub keeps_numbers : NumbersDiffer stored → IsAbove made.unique stored → NumbersDiffer later
  keeps_numbers differ above = sep_to unique_of later (later_differ stored later older newer content None (new ∷ []) turn (sep_from unique_of stored differ) (new_number above))

  -- ---- the versions

  module _ (units after : Units) (differ : NumbersDiffer stored) (above : IsAbove made.unique stored) (bytes : SameBytes units after stored) where
    abbrev oid : Oid
    oid = oid_of x

    abbrev v_of : Stored → Version
    v_of s = version_of units stored s

    leads : (s : Stored) → Has stored s → (p : Place) → s.body.head.older ≡ Some p → LeadsTo stored later older newer content None (new ∷ []) turn p
    leads s h p d =
        let o = older_at stored olders s h p d in
        record { at = o.older; there = contains_has stored o.older o.there; place_is = o.place_is; stays = never o.older }

    same_bytes : (s : Stored) → Has stored s → content_in after s.body.content ≡ content_in units s.body.content
    same_bytes s h = each_has (λ (y : Stored). content_in after y.body.content ≡ content_in units y.body.content) stored bytes s h

    -- a version with other links and bytes
    abbrev with : Stored → Option ℕ → List ℕ → Version
    with s o b = record { oid = oid_of s; frozen = is_frozen s.body.head.state; older = o; bytes = b }

    changed : (s : Stored) → Has stored s → Stays None s → version_of after later (now s) ≡ moved_onto oid made.unique (v_of s)
    changed s h n =
        ap (λ (b : List ℕ). with s (number_at later (older s)) b) (same_bytes s h)
        ∙ elim (place_or_not place s.place) [
          | inl same ↦
              ap (λ (o : Option ℕ). with s o (content_in units s.body.content)) (ap (number_at later) (older_here s same) ∙ number_made stored later older newer content None (new ∷ []) turn new to (inl refl) refl)
              ∙ sym (cond-true (has_oid oid (v_of s)) (with s (Some made.unique) (content_in units s.body.content)) (v_of s) (oid_is (oid_of s) oid (ap oid_of (here s h same))))
          | inr far ↦
              ap (λ (o : Option ℕ). with s o (content_in units s.body.content)) (ap (number_at later) (older_off s far) ∙ same_number stored later older newer content None (new ∷ []) turn s.body.head.older (leads s h))
              ∙ sym (cond-false (has_oid oid (v_of s)) (with s (Some made.unique) (content_in units s.body.content)) (v_of s) (oid_off (oid_of s) oid (λ same. far (sym same))))
        ]

    same_key : (v : Version) → number_of (moved_onto oid made.unique v) ≡ number_of v
    same_key v = by (has_oid oid v)
      where
        by : (b : Bool) → number_of (if b then record v { older = Some made.unique } else v) ≡ number_of v
        by true = refl
        by false = refl

    copy_is : version_of after later new ≡ frozen_copy made (v_of x)
    copy_is =
        ap (λ (o : Option ℕ). let w : Version = record { oid = made; frozen = true; older = o; bytes = content_in after is.content } in w)
        (same_number stored later older newer content None (new ∷ []) turn is.head.older (leads x there))
        ∙ ap (λ (b : List ℕ). let w : Version = record { oid = made; frozen = true; older = number_at stored is.head.older; bytes = b } in w) (same_bytes x there)

    pub is_frozen_in : versions_stored after later ≡ in_order number_of (frozen_in oid made (versions_stored units stored))
    is_frozen_in =
        let before = versions_stored units stored in
        let apart_numbers = sep_from unique_of stored differ in
        versions_turned stored later older newer content None (new ∷ []) turn apart_numbers (new_number above) units after (moved_onto oid made.unique) (λ v. true) (frozen_copy made (v_of x) ∷ [])
        changed (λ s h n. refl) (λ s h g. absurd (none-some s.place g)) same_key ((λ y m. absurd m), tt)
        (λ t m. inl (sym copy_is ∙ ap (version_of after later) (sym (is_one new t m)))) (λ v m. (new, inl refl, copy_is ∙ sym (is_one (frozen_copy made (v_of x)) v m)))
        ∙ ap (λ (vs : List Version). in_order number_of (map (moved_onto oid made.unique) vs ++ frozen_copy made (v_of x) ∷ [])) (filter_all (λ v. true) before (λ v h. refl))
        ∙ ap (λ (vs : List Version). in_order number_of (map (moved_onto oid made.unique) before ++ map (frozen_copy made) vs))
        (sym (filtered_by_oid oid before (v_of x) (stored_rises units stored apart_numbers) (stored_has units stored x there) (oid_is oid oid refl)))

  -- ---- the links

  named_as : (p : Place) (s : Stored) → Has stored s → s.place ≡ p → (is.head.older ≡ Some p → ⊥) → SameFrom stored later older newer content None (new ∷ []) turn p
  named_as p s h at free = record {
    to = λ d k f. elim (place_or_not place d.place) [
      | inl same ↦ absurd (free (sym (ap (λ (y : Stored). y.body.head.older) (here d k same)) ∙ f))
      | inr far ↦ (never d, older_off d far ∙ f)
    ];
    from = λ d k n f. elim (place_or_not place d.place) [
      | inl same ↦ absurd (off s h (same_Some to p (sym (older_here d same) ∙ f) ∙ sym at))
      | inr far ↦ sym (older_off d far) ∙ f
    ];
    not_made = λ t m f. free (sym (ap (λ (y : Stored). y.body.head.older) (is_one new t m)) ∙ f);
  }

  swapped : (s : Stored) → Has stored s → is.head.older ≡ Some s.place → Swapped (stored_from s.place stored) (stored_from s.place later) place to
  swapped s h led = record {
    one = (x, names s.place stored x there led, refl);
    other = (new, names s.place later new (turn.put new (inl refl)) led, refl);
    to = λ d k far. let r = named s.place stored d k in (now d, names s.place later (now d) (turn.to d r.0 (never d)) (older_off d (λ same. far (sym same)) ∙ r.1), refl);
    from = λ t k far. let r = named s.place later t k in by t r.1 far (turn.from t r.0);
    off = λ d k same. off d (named s.place stored d k).0 (sym same);
  }
    where
      by : (t : Stored) → t.body.head.older ≡ Some s.place → t.place ≢ to → Has (new ∷ []) t ⊎ Came stored older newer content None t → (d : Stored) × Has (stored_from s.place stored) d × (d.place ≡ t.place) × (d.place ≢ place)
      by t f far (inl m) = absurd (far (ap place_in (is_one new t m)))
      by t f far (inr c) = elim (place_or_not place c.was.place) [
        | inl same ↦ absurd (off s h (same_Some to s.place (sym (older_here c.was same) ∙ ap (λ (y : Stored). y.body.head.older) c.is ∙ f)))
        | inr n ↦ (c.was, names s.place stored c.was c.there (sym (older_off c.was n) ∙ ap (λ (y : Stored). y.body.head.older) c.is ∙ f), ap place_in c.is, λ same. n (sym same))
      ]

  module _ (linked : AreLinked stored) (above : IsAbove made.unique stored) where
    link_of : (s : Stored) → Has stored s → IsLinked stored s
    link_of s h = each_has (IsLinked stored) stored linked s h

    -- the newer place of the older one
    abbrev OlderTurns : Stored → Type 0
    OlderTurns s = (1 ≤ length (stored_from s.place later)) × (newer s ≡ only_place (stored_from s.place later))

    older_turns : (s : Stored) → Has stored s → is.head.older ≡ Some s.place → s.body.head.state ≡ Frozen → OlderTurns s
    older_turns s h led frozen =
        let swap = swapped s h led in
        let was = newer_of_frozen s.body.head.state (stored_from s.place stored) s.body.head.newer frozen (link_of s h).newer in (
          has_length (stored_from s.place later) swap.other.0 swap.other.1,
          elim (gone_or_not s.body.head.newer x) [
            | inl d ↦ link.turned s h led d ∙ sym (swapped_one (stored_from s.place stored) (stored_from s.place later) place to (later_from_apart stored later older newer content None (new ∷ []) turn s.place) swap (sym was.1 ∙ d))
            | inr n ↦
                let many = swapped_many (stored_from s.place stored) (stored_from s.place later) place to (sep_filter place_in (names_older s.place) stored apart) swap (λ d. n (was.1 ∙ d)) in
                link.stayed s h led n ∙ was.1 ∙ many.0 ∙ sym many.1
          ],
        )

    own_linked : IsLinked later (now x)
    own_linked = record {
      older = subst (λ (l : Option Place). IfSome l (IsOlder later (now x))) (sym (older_here x refl)) (record {
        older = new;
        there = has_contains later new (turn.put new (inl refl));
        place_is = refl;
        frozen = refl;
        lower = λ f. absurd (not_both is.head.state current f);
      });
      newer = newer_by is.head.state (stored_from place later) (newer x) (λ c. newer_here x refl ∙ newer_of_current is.head.state (stored_from place stored) is.head.newer c (link_of x there).newer) (λ f. absurd (not_both is.head.state current f));
    }

    other_linked : (s : Stored) → Has stored s → place ≢ s.place → IsLinked later (now s)
    other_linked s h far = record {
      older = older_kept stored later older newer content None (new ∷ []) turn s (link_of s h).older (older_off s far) (λ q k d. never q);
      newer = elim (gone_or_not is.head.older s) [
        | inl led ↦
            let o = older_at stored olders x there s.place led in
            let frozen = sym (ap (λ (y : Stored). y.body.head.state) (sep_one place_in stored o.older s apart (contains_has stored o.older o.there) h o.place_is)) ∙ o.frozen in
            newer_by s.body.head.state (stored_from s.place later) (newer s) (λ c. absurd (not_both s.body.head.state c frozen)) (λ f. older_turns s h led f)
        | inr free ↦ newer_kept stored later older newer content None (new ∷ []) turn s (named_as s.place s h refl free) (newer_off stored e.others link.only s (λ t. free (link.touched s.place t))) (link_of s h).newer
      ];
    }

    at_place : (t : Stored) → t.body.head.older ≡ Some to → Has (new ∷ []) t ⊎ Came stored older newer content None t → t.place ≡ place
    at_place t f (inl m) = absurd (not_named x there (sym (ap (λ (y : Stored). y.body.head.older) (is_one new t m)) ∙ f))
    at_place t f (inr c) = elim (place_or_not place c.was.place) [
      | inl same ↦ sym (ap place_in c.is) ∙ sym same
      | inr n ↦ absurd (not_named c.was c.there (sym (older_off c.was n) ∙ ap (λ (y : Stored). y.body.head.older) c.is ∙ f))
    ]

    new_linked : IsLinked later new
    new_linked =
        let k = names to later (now x) (turn.to x there (never x)) (older_here x refl) in
        record {
          older = if_some (IsOlder later new) is.head.older (λ p d. let o = older_at stored olders x there p d in
              older_stays stored later older newer content None (new ∷ []) turn new o.older p (contains_has stored o.older o.there) (never o.older) o.place_is o.frozen
              (λ f. each_has (λ (y : Stored). unique_of y < made.unique) stored above o.older (contains_has stored o.older o.there)));
          newer = (
            has_length (stored_from to later) (now x) k,
            sym (only_all (stored_from to later) (now x) (later_from_apart stored later older newer content None (new ∷ []) turn to) k (λ t h. let r = named to later t h in at_place t r.1 (turn.from t r.0))),
          );
        }

    pub keeps_links : AreLinked later
    keeps_links = all_linked stored later older newer content None (new ∷ []) turn
        (λ s h n. elim (place_or_not place s.place) [
          | inl same ↦ subst (λ (t : Stored). IsLinked later (now t)) (sym (here s h same)) own_linked
          | inr far ↦ other_linked s h far
        ])
        (λ t m. subst (IsLinked later) (sym (is_one new t m)) new_linked)

  -- ---- the objects

  module _ (units after : Units) (objects : HasObjects units stored) (trees : SameTrees units after stored) where
    label : Place → ℕ
    label p = if same_place to p then objects.object place else objects.object p

    old_label : (s : Stored) → Has stored s → label s.place ≡ objects.object s.place
    unfolding label
    old_label s h = if_off to s.place (objects.object place) (objects.object s.place) (off s h)

    new_label : (t : Stored) → Has (new ∷ []) t → label t.place ≡ objects.object place
    unfolding label
    new_label t m = if_here to t.place (objects.object place) (objects.object t.place) (ap place_in (sym (is_one new t m)))

    units_are : (s : Stored) → Has stored s → stored_units after s ≡ stored_units units s
    units_are s h = each_has (λ (y : Stored). stored_units after y ≡ stored_units units y) stored trees s h

    new_units : (t : Stored) → Has (new ∷ []) t → stored_units after t ≡ stored_units units x
    new_units t m = ap (stored_units after) (is_one new t m) ∙ units_are x there

    apart_as : (s t : Stored) (us vs : List ℕ) → stored_units units s ≡ us → stored_units units t ≡ vs → Has stored s → Has stored t → (objects.object s.place ≡ objects.object t.place → ⊥) → Apart us vs
    apart_as s t us vs a b h k n = subst (λ (w : List ℕ). Apart w vs) a (subst (λ (w : List ℕ). Apart (stored_units units s) w) b (objects.apart s t (has_contains stored s h) (has_contains stored t k) n))

    pub keeps_objects : HasObjects after later
    keeps_objects = objects_turned stored later older newer content None (new ∷ []) turn units after objects label (record {
      same = old_label;
      joins = λ s t h k d. elim (place_or_not place s.place) [
        | inl same ↦ absurd (off t k.0 (same_Some to t.place (sym (older_here s same) ∙ d)))
        | inr far ↦ objects.joined s t (has_contains stored s h.0) (has_contains stored t k.0) (sym (older_off s far) ∙ d)
      ];
      names_made = λ s t h m d. elim (place_or_not place s.place) [
        | inl same ↦ old_label s h.0 ∙ ap objects.object (sym same) ∙ sym (new_label t m)
        | inr far ↦ absurd (not_named s h.0 (sym (older_off s far) ∙ d ∙ ap Some (ap place_in (is_one new t m))))
      ];
      made_names = λ s t m k d. new_label s m ∙ objects.joined x t (has_contains stored x there) (has_contains stored t k.0) (sym (ap (λ (y : Stored). y.body.head.older) (is_one new s m)) ∙ d) ∙ sym (old_label t k.0);
      firsts = λ s t h k d f same. elim (place_or_not place s.place) [
        | inl at ↦ absurd (none-some to (sym d ∙ older_here s at))
        | inr far ↦ elim (place_or_not place t.place) [
          | inl at ↦ absurd (none-some to (sym f ∙ older_here t at))
          | inr off_too ↦ objects.one_first s t (has_contains stored s h.0) (has_contains stored t k.0) (sym (older_off s far) ∙ d) (sym (older_off t off_too) ∙ f) same
        ]
      ];
      first_made = λ s t h m d f same. elim (place_or_not place s.place) [
        | inl at ↦ none-some to (sym d ∙ older_here s at)
        | inr far ↦ far (sym (objects.one_first s x (has_contains stored s h.0) (has_contains stored x there) (sym (older_off s far) ∙ d) (sym (ap (λ (y : Stored). y.body.head.older) (is_one new t m)) ∙ f) (sym (old_label s h.0) ∙ same ∙ new_label t m)))
      ];
      apart = λ s t h k n. apart_as s t (stored_units after s) (stored_units after t) (sym (units_are s h.0)) (sym (units_are t k.0)) h.0 k.0 n;
      apart_made = λ s t h m n.
          let differ : objects.object s.place ≡ objects.object place → ⊥ = (λ same. n (old_label s h.0 ∙ same ∙ sym (new_label t m))) in (
            apart_as s x (stored_units after s) (stored_units after t) (sym (units_are s h.0)) (sym (new_units t m)) h.0 there differ,
            apart_as x s (stored_units after t) (stored_units after s) (sym (new_units t m)) (sym (units_are s h.0)) there h.0 (λ same. differ (sym same)),
          );
    })
