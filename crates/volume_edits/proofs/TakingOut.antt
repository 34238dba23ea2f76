-- A current record that goes.
use Rattle.std.proofs.Common.{[], ◌≡◌, ◌≢◌, ◌≤◌, ℕ, Bool, true, false, List, ◌∷◌, ◌++◌, length, map, Option, Some, None, refl, sym, ap, subst, ◌∙◌, inl, inr, ◌⊎◌}
use Rattle.std.specs.Prelude.{filter, not, if◌then◌else◌}
use Rattle.std.proofs.lemmas.Bool.{cond-false, false≢true}
use Rattle.std.proofs.lemmas.List.{append-nil}
use Rattle.std.proofs.lemmas.Option.{same_Some}
use Rattle.ex_base.specs.declared.names.Oid.{Oid}
use Rattle.ex_base.specs.declared.names.Place.{Place}
use Rattle.ex_base.proofs.SamePlaces.{at_itself, at_others}
use Rattle.version_lists.specs.declared.version.Version.{Version}
use Rattle.version_lists.specs.Sorted.{in_order}
use Rattle.version_lists.specs.Versions.{unique_of as number_of, has_oid, is_derived_from}
use Rattle.version_lists.specs.Changes.{left_by, older_instead, without_in}
use Rattle.version_lists.proofs.Lists.{Has, contains_has, has_contains, has_filter, has_filter_from, has_length}
use Rattle.version_lists.proofs.Links.{found_by_oid}
use Rattle.object_records.specs.Record.{Content, Record}
use Rattle.object_records.specs.declared.State.TheVariants.{Current, Frozen}
use Rattle.trees.specs.Trees.{Units}
use Rattle.volume_model.specs.Volume.{Stored, content_in, oid_of, unique_of, is_frozen, number_at, stands_at, version_of, versions_stored}
use Rattle.volume_model.specs.Links.{Apart, place_in, names_older, stored_from, AreLinked, HaveOlders, IsLinked, NumbersDiffer, only_place, HasObjects, stored_units}
use Rattle.volume_model.proofs.Places.{Sep, sep_filter, sep_from, sep_one, sep_to, stands_has, stands_none, each_has}
use Rattle.volume_model.proofs.Versions.{stored_has, stored_rises}
use Rattle.volume_model.proofs.Links.{SamePlaces, named, names, newer_of_frozen, not_both, older_at, only_none, only_same, newer_by}
use Rattle.volume_model.proofs.Numbers.{not_derived}
use Rattle.version_tree.specs.Bodies.{PlaceChange}
use Rattle.volume_edits.proofs.RecordEdits.{stored_after}
use Rattle.volume_edits.proofs.RecordUpdates.{LeavesOne, SameBytes, SameTrees, TakesRecord, only_other, stands_elsewhere, stored_as}
use Rattle.volume_edits.proofs.PlaceChanges.{oid_is, oid_off, put_here, put_off, some_place}
use Rattle.volume_edits.proofs.Turning.{Came, LeadsTo, Stays, Turn, gone_or_not, later_differ, same_number, turn_from, turned, versions_turned}
use Rattle.volume_edits.proofs.Links.{SameFrom, all_linked, later_from_apart, newer_kept, older_kept}
use Rattle.volume_edits.proofs.Newer.{newer_by as newer_after, ComesOf, comes_of, newer_off, others_at, others_off, touched_has}
use Rattle.volume_edits.proofs.Labels.{objects_turned}

abbrev pub older : Stored → Option Place
older s = s.body.head.older

abbrev content : Stored → Content
content s = s.body.content

elsewhere : (gone : Place) (s : Stored) → s.place ≢ gone → stands_elsewhere gone s ≡ true
elsewhere gone s n = ap not (at_others s.place gone n)

not_there : (gone : Place) (s : Stored) → stands_elsewhere gone s ≡ true → s.place ≢ gone
not_there gone s is same = false≢true (sym (ap not (at_itself s.place gone same)) ∙ is)

module _ (stored later : List Stored) (place : Place) (is : Record) (e : TakesRecord stored later place is) (current : is.head.state ≡ Current) (olders : HaveOlders stored) where
  abbrev x : Stored
  x = stored_as place is

  apart : Sep place_in stored
  apart = sep_from place_in stored e.edit.places

  there : Has stored x
  there = (stands_has stored place x e.there).0

  here : (s : Stored) → Has stored s → place ≡ s.place → s ≡ x
  here s h same = sep_one place_in stored s x apart h there (sym same)

  not_named : (s : Stored) → Has stored s → s.body.head.older ≡ Some place → ⊥
  not_named s h d =
      let o = older_at stored olders s h place d in
      not_both is.head.state current (ap (λ (y : Stored). y.body.head.state) (sym (here o.older (contains_has stored o.older o.there) (sym o.place_is))) ∙ o.frozen)

  pub link : ComesOf stored place is.head.older e.others
  link = comes_of stored place is.head.older e.others apart e.older

  abbrev pub newer : Stored → Option Place
  newer s = newer_after link.only s

  stays_off : (s : Stored) → Stays (Some place) s → place ≢ s.place
  stays_off s n same = n (ap Some same)

  off_stays : (s : Stored) → place ≢ s.place → Stays (Some place) s
  off_stays s n d = n (same_Some place s.place d)

  abbrev rest : List PlaceChange
  rest = (place, None) ∷ []

  kept : (s : Stored) → Has stored s → Stays (Some place) s → stored_after (e.others ++ rest) s.place (Some s) ≡ Some (turned older newer content s)
  kept s h n = others_at stored e.others rest link.only s apart h (put_off place None [] s.place (Some s) (stays_off s n))

  lost : (s : Stored) → Has stored s → Some place ≡ Some s.place → stored_after (e.others ++ rest) s.place (Some s) ≡ None
  lost s h g =
      let same = same_Some place s.place g in
      others_off stored e.others rest link.only s.place (Some s) (λ t. not_named x there (link.touched s.place t ∙ ap Some (sym same)))
      ∙ put_here place None [] s.place (Some s) same

  fresh : (p : Place) → stands_at p stored ≡ None → stored_after (e.others ++ rest) p None ≡ stands_at p []
  fresh p none =
      others_off stored e.others rest link.only p None (λ t. let q = touched_has stored e.others link.only p t in stands_none stored p q.0 none q.1 q.2)
      ∙ put_off place None [] p None (some_place stored place p x none e.there)

  pub turn : Turn stored later older newer content (Some place) []
  turn = turn_from stored later older newer content (Some place) [] (e.others ++ rest) e.edit kept lost fresh (λ s t h m. absurd m) (λ s t m. absurd m) tt

  abbrev now : Stored → Stored
  now s = turned older newer content s

  pub keeps_numbers : NumbersDiffer stored → NumbersDiffer later
  keeps_numbers differ = sep_to unique_of later (later_differ stored later older newer content (Some place) [] turn (sep_from unique_of stored differ) (λ s t h m. absurd m))

  -- ---- the versions

  module _ (units after : Units) (differ : NumbersDiffer stored) (bytes : SameBytes units after stored) where
    abbrev oid : Oid
    oid = oid_of x

    abbrev v_of : Stored → Version
    v_of s = version_of units stored s

    numbers : Sep unique_of stored
    numbers = sep_from unique_of stored differ

    leads : (s : Stored) → Has stored s → (p : Place) → s.body.head.older ≡ Some p → LeadsTo stored later older newer content (Some place) [] turn p
    leads s h p d =
        let o = older_at stored olders s h p d in
        record { at = o.older; there = contains_has stored o.older o.there; place_is = o.place_is; stays = λ g. not_named s h (d ∙ sym (g ∙ ap Some o.place_is)) }

    same_bytes : (s : Stored) → Has stored s → content_in after s.body.content ≡ content_in units s.body.content
    same_bytes s h = each_has (λ (y : Stored). content_in after y.body.content ≡ content_in units y.body.content) stored bytes s h

    -- a version with other links and bytes
    abbrev with : Stored → Option ℕ → List ℕ → Version
    with s o b = record { oid = oid_of s; frozen = is_frozen s.body.head.state; older = o; bytes = b }

    abbrev change : Version → Version
    change v = older_instead (v_of x) v

    changed : (s : Stored) → Has stored s → Stays (Some place) s → version_of after later (now s) ≡ change (v_of s)
    changed s h n =
        ap (λ (b : List ℕ). with s (number_at later (older s)) b) (same_bytes s h)
        ∙ ap (λ (o : Option ℕ). with s o (content_in units s.body.content)) (same_number stored later older newer content (Some place) [] turn s.body.head.older (leads s h))
        ∙ sym (cond-false (is_derived_from (unique_of x) (v_of s)) (with s (number_at stored is.head.older) (content_in units s.body.content)) (v_of s) (not_derived units stored apart numbers olders s x h there (not_named s h)))

    same_key : (v : Version) → number_of (change v) ≡ number_of v
    same_key v = by (is_derived_from (unique_of x) v)
      where
        by : (b : Bool) → number_of (if b then record v { older = (v_of x).older } else v) ≡ number_of v
        by true = refl
        by false = refl

    abbrev keep : Version → Bool
    keep v = not (has_oid oid v)

    pub is_without : versions_stored after later ≡ in_order number_of (without_in oid (versions_stored units stored))
    is_without =
        let before = versions_stored units stored in
        versions_turned stored later older newer content (Some place) [] turn numbers (λ s t h m. absurd m) units after change keep []
        changed (λ s h n. ap not (oid_off (oid_of s) oid (λ same. stays_off s n (sym same)))) (λ s h g. ap not (oid_is (oid_of s) oid (ap oid_of (here s h (same_Some place s.place g))))) same_key tt (λ t m. absurd m) (λ v m. absurd m)
        ∙ ap (in_order number_of) (append-nil (map change (filter keep before)))
        ∙ ap (λ (o : Option Version). in_order number_of (left_by o before)) (sym (found_by_oid oid before (v_of x) (stored_rises units stored numbers) (stored_has units stored x there) (oid_is oid oid refl)))

  -- ---- the links

  named_as : (s : Stored) → Has stored s → (is.head.older ≡ Some s.place → ⊥) → SameFrom stored later older newer content (Some place) [] turn s.place
  named_as s h free = record {
    to = λ d k f. (off_stays d (λ same. free (ap (λ (y : Stored). y.body.head.older) (sym (here d k same)) ∙ f)), f);
    from = λ d k m f. f;
    not_made = λ t m. absurd m;
  }

  -- those that are left of the records that name a place
  left : (p : Place) → SamePlaces (filter (stands_elsewhere place) (stored_from p stored)) (stored_from p later)
  left p = record {
    to = λ d k.
        let f = has_filter_from (stands_elsewhere place) (stored_from p stored) d k in
        let r = named p stored d f.0 in
        (now d, names p later (now d) (turn.to d r.0 (off_stays d (λ same. not_there place d f.1 (sym same)))) r.1, refl);
    from = λ t k. let r = named p later t k in by t r.1 (turn.from t r.0);
  }
    where
      by : (t : Stored) → t.body.head.older ≡ Some p → Has [] t ⊎ Came stored older newer content (Some place) t → (d : Stored) × Has (filter (stands_elsewhere place) (stored_from p stored)) d × (d.place ≡ t.place)
      by t f (inl m) = absurd m
      by t f (inr c) =
          let d = names p stored c.was c.there (ap (λ (y : Stored). y.body.head.older) c.is ∙ f) in
          (c.was, has_filter (stands_elsewhere place) (stored_from p stored) c.was d (elsewhere place c.was (λ same. stays_off c.was c.stays (sym same))), ap place_in c.is)

  module _ (linked : AreLinked stored) (others : LeavesOne stored is.head.older) where
    link_of : (s : Stored) → Has stored s → IsLinked stored s
    link_of s h = each_has (IsLinked stored) stored linked s h

    abbrev OlderTurns : Stored → Type 0
    OlderTurns s = (1 ≤ length (stored_from s.place later)) × (newer s ≡ only_place (stored_from s.place later))

    comes : (s : Stored) → Has stored s → is.head.older ≡ Some s.place → s.body.head.newer ≡ None → (o : Option Place) → only_other place (stored_from s.place stored) ≡ o → newer s ≡ only_other place (stored_from s.place stored)
    comes s h led none (Some q) d = link.comes s h led q d ∙ sym d
    comes s h led none None d = link.stayed s h led d ∙ none ∙ sym d

    older_turns : (s : Stored) → Has stored s → is.head.older ≡ Some s.place → s.body.head.state ≡ Frozen → OlderTurns s
    older_turns s h led f =
        let was = newer_of_frozen s.body.head.state (stored_from s.place stored) s.body.head.newer f (link_of s h).newer in
        let none = others s (has_contains stored s h) led in
        let from_apart = sep_filter place_in (names_older s.place) stored apart in
        let d = only_none (stored_from s.place stored) x from_apart (names s.place stored x there led) (sym was.1 ∙ none) in
        let r = named s.place stored d.0 d.1 in (
          has_length (stored_from s.place later) (now d.0) (names s.place later (now d.0) (turn.to d.0 r.0 (off_stays d.0 (λ same. d.2 (sym same)))) r.1),
          comes s h led none (only_other place (stored_from s.place stored)) refl
              ∙ only_same (filter (stands_elsewhere place) (stored_from s.place stored)) (stored_from s.place later) (sep_filter place_in (stands_elsewhere place) (stored_from s.place stored) from_apart)
              (later_from_apart stored later older newer content (Some place) [] turn s.place) (left s.place),
        )

    came_linked : (s : Stored) → Has stored s → Stays (Some place) s → IsLinked later (now s)
    came_linked s h n = record {
      older = older_kept stored later older newer content (Some place) [] turn s (link_of s h).older refl (λ q k d g. not_named s h (d ∙ sym g));
      newer = elim (gone_or_not is.head.older s) [
        | inl led ↦
            let o = older_at stored olders x there s.place led in
            let f = sym (ap (λ (y : Stored). y.body.head.state) (sep_one place_in stored o.older s apart (contains_has stored o.older o.there) h o.place_is)) ∙ o.frozen in
            newer_by s.body.head.state (stored_from s.place later) (newer s) (λ c. absurd (not_both s.body.head.state c f)) (λ g. older_turns s h led f)
        | inr free ↦ newer_kept stored later older newer content (Some place) [] turn s (named_as s h free) (newer_off stored e.others link.only s (λ t. free (link.touched s.place t))) (link_of s h).newer
      ];
    }

    pub keeps_links : AreLinked later
    keeps_links = all_linked stored later older newer content (Some place) [] turn came_linked (λ t m. absurd m)

  -- ---- the objects

  module _ (units after : Units) (objects : HasObjects units stored) (trees : SameTrees units after stored) where
    units_are : (s : Stored) → Has stored s → stored_units after s ≡ stored_units units s
    units_are s h = each_has (λ (y : Stored). stored_units after y ≡ stored_units units y) stored trees s h

    pub keeps_objects : HasObjects after later
    keeps_objects = objects_turned stored later older newer content (Some place) [] turn units after objects objects.object (record {
      same = λ s h. refl;
      joins = λ s t h k d. objects.joined s t (has_contains stored s h.0) (has_contains stored t k.0) d;
      names_made = λ s t h m. absurd m;
      made_names = λ s t m. absurd m;
      firsts = λ s t h k d f same. objects.one_first s t (has_contains stored s h.0) (has_contains stored t k.0) d f same;
      first_made = λ s t h m. absurd m;
      apart = λ s t h k n.
          subst (λ (us : List ℕ). Apart us (stored_units after t)) (sym (units_are s h.0))
          (subst (λ (us : List ℕ). Apart (stored_units units s) us) (sym (units_are t k.0)) (objects.apart s t (has_contains stored s h.0) (has_contains stored t k.0) n));
      apart_made = λ s t h m. absurd m;
    })
