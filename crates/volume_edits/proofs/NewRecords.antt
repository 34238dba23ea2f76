-- The record of a new object that comes to a vacant place.
use Rattle.std.proofs.Common.{[], ◌≡◌, ◌≢◌, ◌<◌, ◌+◌, ℕ, suc, true, List, ◌∷◌, ◌++◌, Option, Some, None, IfSome, refl, sym, ap, subst, ◌∙◌, arith, inl, inr}
use Rattle.std.specs.Prelude.{filter, if◌then◌else◌}
use Rattle.std.proofs.lemmas.Option.{none-some}
use Rattle.ex_base.specs.declared.names.Oid.{Oid}
use Rattle.ex_base.specs.declared.names.Place.{Place}
use Rattle.ex_base.specs.Places.{same_place}
use Rattle.ex_base.proofs.SamePlaces.{place_or_not}
use Rattle.version_lists.specs.declared.version.Version.{Version}
use Rattle.version_lists.specs.Sorted.{in_order}
use Rattle.version_lists.specs.Versions.{unique_of as number_of}
use Rattle.version_lists.specs.Changes.{created_in, new_version}
use Rattle.version_lists.proofs.Lists.{Has, contains_has, filter_all, has_contains}
use Rattle.object_records.specs.Record.{Content}
use Rattle.trees.specs.Trees.{Units}
use Rattle.volume_model.specs.Volume.{Stored, content_in, oid_of, unique_of, is_frozen, number_at, stands_at, version_of, versions_stored}
use Rattle.volume_model.specs.Links.{Apart, AreLinked, HaveOlders, IsLinked, IsOlder, NumbersDiffer, HasObjects, stored_units}
use Rattle.volume_model.proofs.Places.{sep_from, sep_to, each_has}
use Rattle.volume_model.proofs.Links.{some_if}
use Rattle.versions.specs.Versions.{new_record, place_of}
use Rattle.version_tree.specs.Bodies.{PlaceChange}
use Rattle.volume_edits.proofs.RecordEdits.{stored_after}
use Rattle.volume_edits.proofs.RecordUpdates.{CreatesRecord, IsAbove, SameBytes, SameTrees, stored_as}
use Rattle.volume_edits.proofs.PlaceChanges.{body_read, if_here, if_off, is_one, made_here, made_off, map_same, no_place, one_of, put_here, put_off}
use Rattle.volume_edits.proofs.Turning.{LeadsTo, Stays, Turn, later_differ, same_number, turn_from, turned, versions_turned}
use Rattle.volume_edits.proofs.Links.{SameFrom, all_linked, newer_kept, older_kept}
use Rattle.volume_edits.proofs.Labels.{objects_turned}

abbrev pub older : Stored → Option Place
older s = s.body.head.older

abbrev pub newer : Stored → Option Place
newer s = s.body.head.newer

abbrev content : Stored → Content
content s = s.body.content

-- a number above those that places of these are labelled with
top_of : (Place → ℕ) → List Stored → ℕ
top_of label [] = 0
top_of label (s ∷ stored) = suc (label s.place) + top_of label stored

below_top : (label : Place → ℕ) (stored : List Stored) (s : Stored) → Has stored s → label s.place < top_of label stored
unfolding top_of
below_top label [] s h = absurd h
below_top label (x ∷ stored) s (inl e) = let d : label x.place ≡ label s.place = ap (λ (t : Stored). label t.place) e in omega (arith, d)
below_top label (x ∷ stored) s (inr m) = let l = below_top label stored s m in omega (arith, l)

pub none_apart : (xs : List ℕ) → Apart xs []
none_apart [] = tt
none_apart (x ∷ xs) = (λ c. contains_has [] x c, none_apart xs)

module _ (stored later : List Stored) (made : Oid) (e : CreatesRecord stored later made) where
  abbrev place : Place
  place = place_of made

  abbrev new : Stored
  new = stored_as place (new_record made.unique)

  abbrev changes : List PlaceChange
  changes = (place, Some e.body) ∷ []

  off : (s : Stored) → Has stored s → place ≢ s.place
  off s h = no_place stored place s e.vacant h

  kept : (s : Stored) → Has stored s → Stays None s → stored_after changes s.place (Some s) ≡ Some (turned older newer content s)
  kept s h n = put_off place (Some e.body) [] s.place (Some s) (off s h)

  fresh : (at : Place) → stands_at at stored ≡ None → stored_after changes at None ≡ stands_at at (new ∷ [])
  fresh at none = elim (place_or_not place at) [
    | inl same ↦ put_here place (Some e.body) [] at None same ∙ body_read at e.body (new_record made.unique) e.spelled ∙ sym (made_here place at (new_record made.unique) same)
    | inr n ↦ put_off place (Some e.body) [] at None n ∙ sym (made_off place at (new_record made.unique) n)
  ]

  pub turn : Turn stored later older newer content None (new ∷ [])
  turn = turn_from stored later older newer content None (new ∷ []) changes e.edit kept (λ s h g. absurd (none-some s.place g)) fresh
      (λ s t h m same. off s h (ap (λ (x : Stored). x.place) (sym (is_one new t m)) ∙ sym same)) (one_of new) ((λ y m. absurd m), tt)

  never : (s : Stored) → Stays None s
  never s g = none-some s.place g

  new_number : IsAbove made.unique stored → (s t : Stored) → Has stored s → Has (new ∷ []) t → unique_of s ≡ unique_of t → ⊥
  new_number above s t h m same =
      let l = each_has (λ (x : Stored). unique_of x < made.unique) stored above s h in
      let u : unique_of t ≡ made.unique = ap unique_of (is_one new t m) in
      omega (arith, l, u, same)

  pub keeps_numbers : NumbersDiffer stored → IsAbove made.unique stored → NumbersDiffer later
  keeps_numbers differ above = sep_to unique_of later (later_differ stored later older newer content None (new ∷ []) turn (sep_from unique_of stored differ) (new_number above))

  module _ (units after : Units) (olders : HaveOlders stored) (differ : NumbersDiffer stored) (above : IsAbove made.unique stored) (bytes : SameBytes units after stored) where
    leads : (s : Stored) → Has stored s → (p : Place) → older s ≡ Some p → LeadsTo stored later older newer content None (new ∷ []) turn p
    leads s h p is =
        let o = some_if (IsOlder stored s) (older s) p (each_has (λ (x : Stored). IfSome x.body.head.older (IsOlder stored x)) stored olders s h) is in
        record { at = o.older; there = contains_has stored o.older o.there; place_is = o.place_is; stays = never o.older }

    changed : (s : Stored) → Has stored s → Stays None s → version_of after later (turned older newer content s) ≡ version_of units stored s
    changed s h n =
        ap (λ (o : Option ℕ). let w : Version = record { oid = oid_of s; frozen = is_frozen s.body.head.state; older = o; bytes = content_in after s.body.content } in w)
        (same_number stored later older newer content None (new ∷ []) turn (older s) (leads s h))
        ∙ ap (λ (b : List ℕ). let w : Version = record { oid = oid_of s; frozen = is_frozen s.body.head.state; older = number_at stored (older s); bytes = b } in w)
        (each_has (λ (x : Stored). content_in after x.body.content ≡ content_in units x.body.content) stored bytes s h)

    pub is_created : versions_stored after later ≡ in_order number_of (created_in made (versions_stored units stored))
    is_created =
        let before = versions_stored units stored in
        versions_turned stored later older newer content None (new ∷ []) turn (sep_from unique_of stored differ) (new_number above) units after (λ v. v) (λ v. true) (new_version made ∷ [])
        changed (λ s h n. refl) (λ s h g. absurd (none-some s.place g)) (λ v. refl) ((λ y m. absurd m), tt)
        (λ t m. inl (ap (version_of after later) (sym (is_one new t m)))) (λ v m. (new, inl refl, sym (is_one (new_version made) v m)))
        ∙ ap (λ (vs : List Version). in_order number_of (vs ++ new_version made ∷ []))
        (map_same (λ (v : Version). v) (filter (λ v. true) before) (λ v. refl) ∙ filter_all (λ v. true) before (λ v h. refl))

  same_from : (p : Place) → SameFrom stored later older newer content None (new ∷ []) turn p
  same_from p = record { to = λ d h is. (never d, is); from = λ d h n is. is; not_made = λ t m is. none-some p (sym (ap older (is_one new t m)) ∙ is) }

  pub keeps_links : AreLinked stored → AreLinked later
  keeps_links linked = all_linked stored later older newer content None (new ∷ []) turn (λ s h n. let l = each_has (IsLinked stored) stored linked s h in record {
    older = older_kept stored later older newer content None (new ∷ []) turn s l.older refl (λ q k is. never q);
    newer = newer_kept stored later older newer content None (new ∷ []) turn s (same_from s.place) refl l.newer;
  }) (λ t m. subst (IsLinked later) (sym (is_one new t m)) (record { older = tt; newer = refl }))

  module _ (units after : Units) (olders : HaveOlders stored) (objects : HasObjects units stored) (trees : SameTrees units after stored) where
    top : ℕ
    top = top_of objects.object stored

    label : Place → ℕ
    label p = if same_place place p then top else objects.object p

    old_label : (s : Stored) → Has stored s → label s.place ≡ objects.object s.place
    unfolding label
    old_label s h = if_off place s.place top (objects.object s.place) (off s h)

    new_label : (t : Stored) → Has (new ∷ []) t → label t.place ≡ top
    unfolding label
    new_label t m = if_here place t.place top (objects.object t.place) (ap (λ (x : Stored). x.place) (sym (is_one new t m)))

    units_are : (s : Stored) → Has stored s → stored_units after s ≡ stored_units units s
    units_are s h = each_has (λ (x : Stored). stored_units after x ≡ stored_units units x) stored trees s h

    no_units : (t : Stored) → Has (new ∷ []) t → stored_units after t ≡ []
    no_units t m = ap (stored_units after) (is_one new t m)

    not_named : (s t : Stored) → Has stored s → Has (new ∷ []) t → older s ≡ Some t.place → ⊥
    not_named s t h m is =
        let o = some_if (IsOlder stored s) (older s) t.place (each_has (λ (x : Stored). IfSome x.body.head.older (IsOlder stored x)) stored olders s h) is in
        off o.older (contains_has stored o.older o.there) (ap (λ (x : Stored). x.place) (sym (is_one new t m)) ∙ sym o.place_is)

    pub keeps_objects : HasObjects after later
    unfolding top
    keeps_objects = objects_turned stored later older newer content None (new ∷ []) turn units after objects label (record {
      same = old_label;
      joins = λ s t h k is. objects.joined s t (has_contains stored s h.0) (has_contains stored t k.0) is;
      names_made = λ s t h m is. absurd (not_named s t h.0 m is);
      made_names = λ s t m k is. absurd (none-some t.place (sym (ap older (is_one new s m)) ∙ is));
      firsts = λ s t h k is too same. objects.one_first s t (has_contains stored s h.0) (has_contains stored t k.0) is too same;
      first_made = λ s t h m is too same. let l = below_top objects.object stored s h.0 in let d = old_label s h.0 in let u = new_label t m in omega (arith, l, d, u, same);
      apart = λ s t h k n.
          subst (λ (us : List ℕ). Apart us (stored_units after t)) (sym (units_are s h.0))
          (subst (λ (us : List ℕ). Apart (stored_units units s) us) (sym (units_are t k.0)) (objects.apart s t (has_contains stored s h.0) (has_contains stored t k.0) n));
      apart_made = λ s t h m n. (
        subst (λ (us : List ℕ). Apart (stored_units after s) us) (sym (no_units t m)) (none_apart (stored_units after s)),
        subst (λ (us : List ℕ). Apart us (stored_units after s)) (sym (no_units t m)) tt,
      );
    })
