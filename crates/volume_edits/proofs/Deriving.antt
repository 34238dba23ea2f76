-- A current copy that is derived from a frozen record.
use Rattle.std.proofs.Common.{[], ◌≡◌, ◌≢◌, ◌<◌, ◌≤◌, ℕ, true, false, List, ◌∷◌, ◌++◌, length, map, Option, Some, None, refl, sym, ap, subst, ◌∙◌, arith, inl, inr}
use Rattle.std.specs.Prelude.{filter, if◌then◌else◌}
use Rattle.std.proofs.lemmas.Option.{none-some, same_Some}
use Rattle.ex_base.specs.declared.names.Oid.{Oid}
use Rattle.ex_base.specs.declared.names.Place.{Place}
use Rattle.ex_base.specs.Places.{same_place}
use Rattle.ex_base.proofs.SamePlaces.{place_or_not}
use Rattle.version_lists.specs.declared.version.Version.{Version}
use Rattle.version_lists.specs.Sorted.{in_order}
use Rattle.version_lists.specs.Versions.{unique_of as number_of}
use Rattle.version_lists.specs.Changes.{derived_copy, derived_in}
use Rattle.version_lists.proofs.Lists.{Has, contains_has, filter_all, has_contains, has_length, length_has}
use Rattle.version_lists.proofs.Links.{filtered_by_oid}
use Rattle.object_records.specs.Record.{Content, Record}
use Rattle.object_records.specs.declared.State.TheVariants.{Current, Frozen}
use Rattle.trees.specs.Trees.{Units}
use Rattle.volume_model.specs.Volume.{Stored, content_in, oid_of, unique_of, is_frozen, number_at, stands_at, version_of, versions_stored}
use Rattle.volume_model.specs.Links.{Apart, place_in, stored_from, AreLinked, HaveOlders, IsLinked, NewerIs, NumbersDiffer, only_place, HasObjects, stored_units}
use Rattle.volume_model.proofs.Places.{Sep, sep_from, sep_one, sep_to, stands_has, stands_none, each_has}
use Rattle.volume_model.proofs.Versions.{stored_has, stored_rises}
use Rattle.volume_model.proofs.Links.{named, names, newer_of_frozen, not_both, older_at, only_two, newer_by}
use Rattle.versions.specs.Versions.{place_of}
use Rattle.version_tree.specs.Bodies.{PlaceChange, derived_head, with_head}
use Rattle.volume_edits.proofs.RecordEdits.{stored_after}
use Rattle.volume_edits.proofs.RecordUpdates.{DerivesRecord, IsAbove, SameBytes, SameTrees, stored_as}
use Rattle.volume_edits.proofs.PlaceChanges.{body_read, if_here, if_off, is_one, made_here, made_off, map_same, no_place, oid_is, one_of, put_here, put_off}
use Rattle.volume_edits.proofs.Turning.{LeadsTo, Stays, Turn, later_differ, number_stays, same_number, turn_from, turned, versions_turned}
use Rattle.volume_edits.proofs.Links.{SameFrom, all_linked, newer_kept, older_kept, older_stays}
use Rattle.volume_edits.proofs.Newer.{newer_by as newer_after, GoesOf, goes_of, newer_off, others_at, others_off, touched_has}
use Rattle.volume_edits.proofs.Labels.{objects_turned}

abbrev pub older : Stored → Option Place
older s = s.body.head.older

abbrev content : Stored → Content
content s = s.body.content

module _ (stored later : List Stored) (place : Place) (is : Record) (made : Oid) (e : DerivesRecord stored later place is made) where
  abbrev to : Place
  to = place_of made

  abbrev x : Stored
  x = stored_as place is

  abbrev copy : Record
  copy = with_head (derived_head made.unique place) is

  abbrev new : Stored
  new = stored_as to copy

  apart : Sep place_in stored
  apart = sep_from place_in stored e.edit.places

  there : Has stored x
  there = (stands_has stored place x e.there).0

  here : (s : Stored) → Has stored s → place ≡ s.place → s ≡ x
  here s h same = sep_one place_in stored s x apart h there (sym same)

  off : (s : Stored) → Has stored s → to ≢ s.place
  off s h = no_place stored to s e.vacant h

  pub goes : GoesOf stored place e.others
  goes = goes_of stored place is e.others apart there e.older

  abbrev pub newer : Stored → Option Place
  newer s = newer_after goes.only s

  abbrev rest : List PlaceChange
  rest = (to, Some e.copy) ∷ []

  kept : (s : Stored) → Has stored s → Stays None s → stored_after (e.others ++ rest) s.place (Some s) ≡ Some (turned older newer content s)
  kept s h n = others_at stored e.others rest goes.only s apart h (put_off to (Some e.copy) [] s.place (Some s) (off s h))

  fresh : (at : Place) → stands_at at stored ≡ None → stored_after (e.others ++ rest) at None ≡ stands_at at (new ∷ [])
  fresh at none =
      others_off stored e.others rest goes.only at None (λ t. let q = touched_has stored e.others goes.only at t in stands_none stored at q.0 none q.1 q.2)
      ∙ elim (place_or_not to at) [
        | inl same ↦ put_here to (Some e.copy) [] at None same ∙ body_read at e.copy copy e.copied ∙ sym (made_here to at copy same)
        | inr n ↦ put_off to (Some e.copy) [] at None n ∙ sym (made_off to at copy n)
      ]

  pub turn : Turn stored later older newer content None (new ∷ [])
  turn = turn_from stored later older newer content None (new ∷ []) (e.others ++ rest) e.edit kept (λ s h g. absurd (none-some s.place g)) fresh
      (λ s t h m same. off s h (ap (λ (y : Stored). y.place) (sym (is_one new t m)) ∙ sym same)) (one_of new) ((λ y m. absurd m), tt)

  never : (s : Stored) → Stays None s
  never s g = none-some s.place g

  abbrev now : Stored → Stored
  now s = turned older newer content s

  new_number : IsAbove made.unique stored → (s t : Stored) → Has stored s → Has (new ∷ []) t → unique_of s ≡ unique_of t → ⊥
  new_number above s t h m same =
      let l = each_has (λ (y : Stored). unique_of y < made.unique) stored above s h in
      let u : unique_of t ≡ made.unique = ap unique_of (is_one new t m) in
      omega (arith, l, u, same)

  pub keeps_numbers : NumbersDiffer stored → IsAbove made.unique stored → NumbersDiffer later
  keeps_numbers differ above = sep_to unique_of later (later_differ stored later older newer content None (new ∷ []) turn (sep_from unique_of stored differ) (new_number above))

  -- ---- the versions

  module _ (units after : Units) (olders : HaveOlders stored) (differ : NumbersDiffer stored) (above : IsAbove made.unique stored) (bytes : SameBytes units after stored) where
    abbrev oid : Oid
    oid = oid_of x

    abbrev v_of : Stored → Version
    v_of s = version_of units stored s

    leads : (s : Stored) → Has stored s → (p : Place) → s.body.head.older ≡ Some p → LeadsTo stored later older newer content None (new ∷ []) turn p
    leads s h p d =
        let o = older_at stored olders s h p d in
        record { at = o.older; there = contains_has stored o.older o.there; place_is = o.place_is; stays = never o.older }

    same_bytes : (s : Stored) → Has stored s → content_in after s.body.content ≡ content_in units s.body.content
    same_bytes s h = each_has (λ (y : Stored). content_in after y.body.content ≡ content_in units y.body.content) stored bytes s h

    changed : (s : Stored) → Has stored s → Stays None s → version_of after later (now s) ≡ v_of s
    changed s h n =
        ap (λ (o : Option ℕ). let w : Version = record { oid = oid_of s; frozen = is_frozen s.body.head.state; older = o; bytes = content_in after s.body.content } in w)
        (same_number stored later older newer content None (new ∷ []) turn (older s) (leads s h))
        ∙ ap (λ (b : List ℕ). let w : Version = record { oid = oid_of s; frozen = is_frozen s.body.head.state; older = number_at stored (older s); bytes = b } in w) (same_bytes s h)

    copy_is : version_of after later new ≡ derived_copy made (v_of x)
    copy_is =
        ap (λ (o : Option ℕ). let w : Version = record { oid = made; frozen = false; older = o; bytes = content_in after is.content } in w)
        (number_stays stored later older newer content None (new ∷ []) turn x place there (never x) refl)
        ∙ ap (λ (b : List ℕ). let w : Version = record { oid = made; frozen = false; older = Some is.head.unique; bytes = b } in w) (same_bytes x there)

    pub is_derived_in : versions_stored after later ≡ in_order number_of (derived_in oid made (versions_stored units stored))
    is_derived_in =
        let before = versions_stored units stored in
        let apart_numbers = sep_from unique_of stored differ in
        versions_turned stored later older newer content None (new ∷ []) turn apart_numbers (new_number above) units after (λ v. v) (λ v. true) (derived_copy made (v_of x) ∷ [])
        changed (λ s h n. refl) (λ s h g. absurd (none-some s.place g)) (λ v. refl) ((λ y m. absurd m), tt)
        (λ t m. inl (sym copy_is ∙ ap (version_of after later) (sym (is_one new t m)))) (λ v m. (new, inl refl, copy_is ∙ sym (is_one (derived_copy made (v_of x)) v m)))
        ∙ ap (λ (vs : List Version). in_order number_of (vs ++ derived_copy made (v_of x) ∷ []))
        (map_same (λ (v : Version). v) (filter (λ v. true) before) (λ v. refl) ∙ filter_all (λ v. true) before (λ v h. refl))
        ∙ ap (λ (vs : List Version). in_order number_of (before ++ map (derived_copy made) vs))
        (sym (filtered_by_oid oid before (v_of x) (stored_rises units stored apart_numbers) (stored_has units stored x there) (oid_is oid oid refl)))

  -- ---- the links

  module _ (frozen : is.head.state ≡ Frozen) (linked : AreLinked stored) where
    link_of : (s : Stored) → Has stored s → IsLinked stored s
    link_of s h = each_has (IsLinked stored) stored linked s h

    own_newer : (1 ≤ length (stored_from place later)) × (newer x ≡ only_place (stored_from place later))
    own_newer =
        let was = newer_of_frozen is.head.state (stored_from place stored) is.head.newer frozen (link_of x there).newer in
        let d = length_has (stored_from place stored) was.0 in
        let r = named place stored d.0 d.1 in
        let a = names place later (now d.0) (turn.to d.0 r.0 (never d.0)) r.1 in
        let b = names place later new (turn.put new (inl refl)) refl in (
          has_length (stored_from place later) new b,
          goes.none x there refl ∙ sym (only_two (stored_from place later) new (now d.0) b a (off d.0 r.0)),
        )

    same_from : (s : Stored) → place ≢ s.place → SameFrom stored later older newer content None (new ∷ []) turn s.place
    same_from s far = record {
      to = λ d h f. (never d, f);
      from = λ d h n f. f;
      not_made = λ t m f. far (same_Some place s.place (sym (ap older (is_one new t m)) ∙ f));
    }

    came_linked : (s : Stored) → Has stored s → IsLinked later (now s)
    came_linked s h = record {
      older = older_kept stored later older newer content None (new ∷ []) turn s (link_of s h).older refl (λ q k d. never q);
      newer = elim (place_or_not place s.place) [
        | inl same ↦ subst (λ (t : Stored). NewerIs t.body.head.state (stored_from t.place later) (newer t)) (sym (here s h same))
            (newer_by is.head.state (stored_from place later) (newer x) (λ c. absurd (not_both is.head.state c frozen)) (λ f. own_newer))
        | inr far ↦ newer_kept stored later older newer content None (new ∷ []) turn s (same_from s far) (newer_off stored e.others goes.only s (λ t. far (goes.touched s.place t))) (link_of s h).newer
      ];
    }

    new_linked : IsLinked later new
    new_linked = record {
      older = older_stays stored later older newer content None (new ∷ []) turn new x place there (never x) refl frozen (λ f. absurd (not_both Current refl f));
      newer = refl;
    }

    pub keeps_links : AreLinked later
    keeps_links = all_linked stored later older newer content None (new ∷ []) turn (λ s h n. came_linked s h) (λ t m. subst (IsLinked later) (sym (is_one new t m)) new_linked)

  -- ---- the objects

  module _ (units after : Units) (olders : HaveOlders stored) (objects : HasObjects units stored) (trees : SameTrees units after stored) where
    not_named : (s : Stored) → Has stored s → s.body.head.older ≡ Some to → ⊥
    not_named s h d =
        let o = older_at stored olders s h to d in
        off o.older (contains_has stored o.older o.there) (sym o.place_is)

    label : Place → ℕ
    label p = if same_place to p then objects.object place else objects.object p

    old_label : (s : Stored) → Has stored s → label s.place ≡ objects.object s.place
    unfolding label
    old_label s h = if_off to s.place (objects.object place) (objects.object s.place) (off s h)

    new_label : (t : Stored) → Has (new ∷ []) t → label t.place ≡ objects.object place
    unfolding label
    new_label t m = if_here to t.place (objects.object place) (objects.object t.place) (ap place_in (sym (is_one new t m)))

    units_are : (s : Stored) → Has stored s → stored_units after s ≡ stored_units units s
    units_are s h = each_has (λ (y : Stored). stored_units after y ≡ stored_units units y) stored trees s h

    new_units : (t : Stored) → Has (new ∷ []) t → stored_units after t ≡ stored_units units x
    new_units t m = ap (stored_units after) (is_one new t m) ∙ units_are x there

    apart_as : (s t : Stored) (us vs : List ℕ) → stored_units units s ≡ us → stored_units units t ≡ vs → Has stored s → Has stored t → (objects.object s.place ≡ objects.object t.place → ⊥) → Apart us vs
    apart_as s t us vs a b h k n = subst (λ (w : List ℕ). Apart w vs) a (subst (λ (w : List ℕ). Apart (stored_units units s) w) b (objects.apart s t (has_contains stored s h) (has_contains stored t k) n))

    new_older : (t : Stored) → Has (new ∷ []) t → Some place ≡ t.body.head.older
    new_older t m = ap older (sym (is_one new t m))

    pub keeps_objects : HasObjects after later
    keeps_objects = objects_turned stored later older newer content None (new ∷ []) turn units after objects label (record {
      same = old_label;
      joins = λ s t h k d. objects.joined s t (has_contains stored s h.0) (has_contains stored t k.0) d;
      names_made = λ s t h m d. absurd (not_named s h.0 (d ∙ ap Some (ap place_in (is_one new t m))));
      made_names = λ s t m k d. new_label s m ∙ ap objects.object (same_Some place t.place (new_older s m ∙ d)) ∙ sym (old_label t k.0);
      firsts = λ s t h k d f same. objects.one_first s t (has_contains stored s h.0) (has_contains stored t k.0) d f same;
      first_made = λ s t h m d f same. none-some place (sym f ∙ sym (new_older t m));
      apart = λ s t h k n. apart_as s t (stored_units after s) (stored_units after t) (sym (units_are s h.0)) (sym (units_are t k.0)) h.0 k.0 n;
      apart_made = λ s t h m n.
          let differ : objects.object s.place ≡ objects.object place → ⊥ = (λ same. n (old_label s h.0 ∙ same ∙ sym (new_label t m))) in (
            apart_as s x (stored_units after s) (stored_units after t) (sym (units_are s h.0)) (sym (new_units t m)) h.0 there differ,
            apart_as x s (stored_units after t) (stored_units after s) (sym (new_units t m)) (sym (units_are s h.0)) there h.0 (λ same. differ (sym same)),
          );
    })
