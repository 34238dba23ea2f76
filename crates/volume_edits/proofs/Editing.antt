-- A record whose content changes.
use Rattle.std.proofs.Common.{[], ◌≡◌, ◌≢◌, ℕ, Bool, true, false, List, ◌∷◌, map, Option, Some, None, IfSome, Contains, refl, sym, ap, subst, ◌∙◌, inl, inr, ◌⊎◌}
use Rattle.std.specs.Prelude.{filter, if◌then◌else◌}
use Rattle.std.proofs.lemmas.Bool.{cond-true, cond-false}
use Rattle.std.proofs.lemmas.List.{append-nil}
use Rattle.std.proofs.lemmas.Option.{none-some}
use Rattle.ex_base.specs.declared.names.Oid.{Oid}
use Rattle.ex_base.specs.declared.names.Place.{Place}
use Rattle.ex_base.specs.Places.{same_place}
use Rattle.ex_base.proofs.SamePlaces.{place_or_not}
use Rattle.version_lists.specs.declared.version.Version.{Version}
use Rattle.version_lists.specs.Sorted.{in_order}
use Rattle.version_lists.specs.Versions.{unique_of as number_of, has_oid}
use Rattle.version_lists.specs.Changes.{bytes_changed, edited_in}
use Rattle.version_lists.proofs.Lists.{Has, contains_has, filter_all, has_contains}
use Rattle.object_records.specs.Record.{Content, Record}
use Rattle.object_records.specs.declared.Head.{Head}
use Rattle.trees.specs.Trees.{Units}
use Rattle.volume_model.specs.Volume.{Stored, content_in, oid_of, unique_of, is_frozen, number_at, stands_at, version_of, versions_stored}
use Rattle.volume_model.specs.Links.{Apart, place_in, AreLinked, HaveOlders, IsLinked, IsOlder, NumbersDiffer, HasObjects, stored_units}
use Rattle.volume_model.proofs.Places.{sep_from, sep_one, sep_to, stands_has, each_has}
use Rattle.volume_model.proofs.Links.{some_if}
use Rattle.version_tree.specs.Bodies.{PlaceChange}
use Rattle.volume_edits.proofs.RecordEdits.{stored_after}
use Rattle.volume_edits.proofs.RecordUpdates.{EditsRecord, OthersSameBytes, OthersSameTrees, stored_as}
use Rattle.volume_edits.proofs.PlaceChanges.{body_read, if_here, if_off, oid_is, oid_off, put_here, put_off}
use Rattle.volume_edits.proofs.Turning.{LeadsTo, Stays, Turn, later_differ, same_number, turn_from, turned, versions_turned}
use Rattle.volume_edits.proofs.Links.{SameFrom, all_linked, newer_kept, older_kept}
use Rattle.volume_edits.proofs.Labels.{objects_turned}

abbrev older : Stored → Option Place
older s = s.body.head.older

abbrev newer : Stored → Option Place
newer s = s.body.head.newer

module _ (stored later : List Stored) (place : Place) (was is : Record) (e : EditsRecord stored later place was is) where
  abbrev content : Stored → Content
  content s = if same_place place s.place then is.content else s.body.content

  there : Has stored (stored_as place was)
  there = (stands_has stored place (stored_as place was) e.there).0

  one : (s : Stored) → Has stored s → place ≡ s.place → s ≡ stored_as place was
  one s h same = sep_one place_in stored s (stored_as place was) (sep_from place_in stored e.edit.places) h there (sym same)

  abbrev changes : List PlaceChange
  changes = (place, Some e.body) ∷ []

  kept : (s : Stored) → Has stored s → Stays None s → stored_after changes s.place (Some s) ≡ Some (turned older newer content s)
  kept s h n = elim (place_or_not place s.place) [
    | inl same ↦
        put_here place (Some e.body) [] s.place (Some s) same ∙ body_read s.place e.body is e.spelled
        ∙ ap (λ (t : Head). Some (stored_as s.place (record { head = t; content = is.content }))) (e.head ∙ sym (ap (λ (t : Stored). t.body.head) (one s h same)))
        ∙ ap (λ (c : Content). Some (stored_as s.place (record { head = s.body.head; content = c }))) (sym (if_here place s.place is.content s.body.content same))
    | inr off ↦
        put_off place (Some e.body) [] s.place (Some s) off
        ∙ ap (λ (c : Content). Some (stored_as s.place (record { head = s.body.head; content = c }))) (sym (if_off place s.place is.content s.body.content off))
  ]

  fresh : (at : Place) → stands_at at stored ≡ None → stored_after changes at None ≡ stands_at at []
  fresh at none = elim (place_or_not place at) [
    | inl same ↦ absurd (none-some (stored_as place was) (sym (ap (λ (p : Place). stands_at p stored) same ∙ none) ∙ e.there))
    | inr off ↦ put_off place (Some e.body) [] at None off
  ]

  pub turn : Turn stored later older newer content None []
  turn = turn_from stored later older newer content None [] changes e.edit kept (λ s h g. absurd (none-some s.place g)) fresh (λ s t h m. absurd m) (λ s t m. absurd m) tt

  never : (s : Stored) → Stays None s
  never s e = none-some s.place e

  pub keeps_numbers : NumbersDiffer stored → NumbersDiffer later
  keeps_numbers differ = sep_to unique_of later (later_differ stored later older newer content None [] turn (sep_from unique_of stored differ) (λ s t h m. absurd m))

  -- ---- the version

  module _ (units after : Units) (change : List ℕ → List ℕ) (olders : HaveOlders stored) (differ : NumbersDiffer stored) (others : OthersSameBytes units after place stored)
      (bytes : content_in after is.content ≡ change (content_in units was.content)) where
    abbrev oid : Oid
    oid = oid_of (stored_as place was)

    leads : (s : Stored) → Has stored s → (p : Place) → older s ≡ Some p → LeadsTo stored later older newer content None [] turn p
    leads s h p is =
        let o = some_if (IsOlder stored s) (older s) p (each_has (λ (x : Stored). IfSome x.body.head.older (IsOlder stored x)) stored olders s h) is in
        record { at = o.older; there = contains_has stored o.older o.there; place_is = o.place_is; stays = never o.older }

    -- its bytes by a content, over the links of before
    abbrev with : Stored → Content → Version
    with s c = record { oid = oid_of s; frozen = is_frozen s.body.head.state; older = number_at stored (older s); bytes = content_in after c }

    changed : (s : Stored) → Has stored s → Stays None s → version_of after later (turned older newer content s) ≡ bytes_changed oid change (version_of units stored s)
    changed s h n =
        let v = version_of units stored s in
        ap (λ (o : Option ℕ). let w : Version = record { oid = oid_of s; frozen = is_frozen s.body.head.state; older = o; bytes = content_in after (content s) } in w)
        (same_number stored later older newer content None [] turn (older s) (leads s h))
        ∙ elim (place_or_not place s.place) [
          | inl same ↦
              let w = one s h same in
              ap (with s) (if_here place s.place is.content s.body.content same)
              ∙ ap (λ (b : List ℕ). let x : Version = record v { bytes = b } in x) (bytes ∙ ap (λ (t : Stored). change (content_in units t.body.content)) (sym w))
              ∙ sym (cond-true (has_oid oid v) (record v { bytes = change v.bytes }) v (oid_is (oid_of s) oid (ap oid_of w)))
          | inr off ↦
              ap (with s) (if_off place s.place is.content s.body.content off)
              ∙ ap (λ (b : List ℕ). let x : Version = record v { bytes = b } in x) (each_has (λ (x : Stored). x.place ≢ place → content_in after x.body.content ≡ content_in units x.body.content) stored others s h (λ same. off (sym same)))
              ∙ sym (cond-false (has_oid oid v) (record v { bytes = change v.bytes }) v (oid_off (oid_of s) oid (λ same. off (sym same))))
        ]

    same_key : (v : Version) → number_of (bytes_changed oid change v) ≡ number_of v
    same_key v = by (has_oid oid v)
      where
        by : (b : Bool) → number_of (if b then record v { bytes = change v.bytes } else v) ≡ number_of v
        by true = refl
        by false = refl

    pub is_edited : versions_stored after later ≡ in_order number_of (edited_in oid change (versions_stored units stored))
    is_edited =
        let before = versions_stored units stored in
        versions_turned stored later older newer content None [] turn (sep_from unique_of stored differ) (λ s t h m. absurd m) units after (bytes_changed oid change) (λ v. true) []
        changed (λ s h n. refl) (λ s h g. absurd (none-some s.place g)) same_key tt (λ t m. absurd m) (λ v m. absurd m)
        ∙ ap (in_order number_of) (append-nil (map (bytes_changed oid change) (filter (λ v. true) before)) ∙ ap (map (bytes_changed oid change)) (filter_all (λ v. true) before (λ v h. refl)))

  -- ---- its links

  same_from : (p : Place) → SameFrom stored later older newer content None [] turn p
  same_from p = record { to = λ d h e. (never d, e); from = λ d h n e. e; not_made = λ t m. absurd m }

  pub keeps_links : AreLinked stored → AreLinked later
  keeps_links linked = all_linked stored later older newer content None [] turn (λ s h n. let l = each_has (IsLinked stored) stored linked s h in record {
    older = older_kept stored later older newer content None [] turn s l.older refl (λ q k is. never q);
    newer = newer_kept stored later older newer content None [] turn s (same_from s.place) refl l.newer;
  }) (λ t m. absurd m)

  -- ---- the objects

  module _ (units after : Units) (objects : HasObjects units stored) (others : OthersSameTrees units after place stored)
      (own : (s : Stored) → Contains stored s → (objects.object s.place ≡ objects.object place → ⊥) → Apart (stored_units after (stored_as place is)) (stored_units units s) × Apart (stored_units units s) (stored_units after (stored_as place is))) where
    abbrev now : Stored → Stored
    now s = turned older newer content s

    units_here : (s : Stored) → place ≡ s.place → stored_units after (now s) ≡ stored_units after (stored_as place is)
    units_here s same = ap (λ (c : Content). stored_units after (stored_as place (record { head = is.head; content = c }))) (if_here place s.place is.content s.body.content same)

    units_off : (s : Stored) → Has stored s → place ≢ s.place → stored_units after (now s) ≡ stored_units units s
    units_off s h off =
        ap (λ (c : Content). stored_units after (stored_as place (record { head = is.head; content = c }))) (if_off place s.place is.content s.body.content off)
        ∙ each_has (λ (x : Stored). x.place ≢ place → stored_units after x ≡ stored_units units x) stored others s h (λ same. off (sym same))

    apart : (s t : Stored) → Has stored s → Has stored t → (objects.object s.place ≡ objects.object t.place → ⊥) → Apart (stored_units after (now s)) (stored_units after (now t))
    apart s t h k n = by (place_or_not place s.place) (place_or_not place t.place)
      where
        by : (place ≡ s.place) ⊎ (place ≢ s.place) → (place ≡ t.place) ⊎ (place ≢ t.place) → Apart (stored_units after (now s)) (stored_units after (now t))
        by (inl a) (inl b) = absurd (n (ap objects.object (sym a ∙ b)))
        by (inl a) (inr b) =
            subst (λ (us : List ℕ). Apart us (stored_units after (now t))) (sym (units_here s a))
            (subst (λ (us : List ℕ). Apart (stored_units after (stored_as place is)) us) (sym (units_off t k b)) (own t (has_contains stored t k) (λ e. n (ap objects.object (sym a) ∙ sym e))).0)
        by (inr a) (inl b) =
            subst (λ (us : List ℕ). Apart us (stored_units after (now t))) (sym (units_off s h a))
            (subst (λ (us : List ℕ). Apart (stored_units units s) us) (sym (units_here t b)) (own s (has_contains stored s h) (λ e. n (e ∙ ap objects.object b))).1)
        by (inr a) (inr b) =
            subst (λ (us : List ℕ). Apart us (stored_units after (now t))) (sym (units_off s h a))
            (subst (λ (us : List ℕ). Apart (stored_units units s) us) (sym (units_off t k b)) (objects.apart s t (has_contains stored s h) (has_contains stored t k) n))

    pub keeps_objects : HasObjects after later
    keeps_objects = objects_turned stored later older newer content None [] turn units after objects objects.object (record {
      same = λ s h. refl;
      joins = λ s t h k e. objects.joined s t (has_contains stored s h.0) (has_contains stored t k.0) e;
      names_made = λ s t h m. absurd m;
      made_names = λ s t m. absurd m;
      firsts = λ s t h k e f same. objects.one_first s t (has_contains stored s h.0) (has_contains stored t k.0) e f same;
      first_made = λ s t h m. absurd m;
      apart = λ s t h k n. apart s t h.0 k.0 n;
      apart_made = λ s t h m. absurd m;
    })
