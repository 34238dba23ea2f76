-- Records of a file are linked exactly where what is kept of them is, and have the same objects.
use Rattle.std.proofs.Common.{◌≡◌, ◌≤◌, ℕ, Bool, true, false, List, [], ◌∷◌, length, map, Option, Some, None, IfSome, refl, sym, ap, subst, ◌∙◌, arith, inl, inr}
use Rattle.std.specs.Prelude.{Contains, filter}
use Rattle.std.specs.List.{AllByRecursion}
use Rattle.std.proofs.lemmas.Bool.{cases_Bool}
use Rattle.std.proofs.lemmas.List.{length-map}
use Rattle.ex_base.specs.declared.names.Place.{Place}
use Rattle.ex_base.proofs.Each.{each_as, each_mapped, each_unmapped}
use Rattle.ex_base.proofs.Options.{if_some_both}
use Rattle.object_records.specs.declared.State.{State}
use Rattle.object_records.specs.declared.State.TheVariants.{Current, Frozen}
use Rattle.record_links.specs.declared.Linked.{Linked}
use Rattle.record_links.specs.Links as kept
use Rattle.record_links.specs.Labels.{LabelsObjects}
use Rattle.version_lists.proofs.Lists.{Has, contains_has, filter_false, filter_true, has_contains, has_map_from}
use Rattle.volume_model.specs.Volume.{Stored}
use Rattle.volume_model.specs.Links.{AreLinked, IsLinked, IsOlder, NewerIs, names_older, only_place, stored_from}
use Rattle.file_walk.specs.Objects.{AreObjects, linked_of}
use Rattle.file_walk.proofs.Lists.{contains_map}

abbrev pub linked_all : List Stored → List Linked
linked_all stored = map linked_of stored

unmapped : (stored : List Stored) (l : Linked) → Contains (linked_all stored) l → (s : Stored) × Contains stored s × (linked_of s ≡ l)
unmapped stored l there = let r = has_map_from linked_of stored l (contains_has (linked_all stored) l there) in (r.0, has_contains stored r.0 r.1, r.2)

-- ---- older ones

older_kept : (stored : List Stored) (s : Stored) (place : Place) → IsOlder stored s place → kept.IsOlder (linked_all stored) (linked_of s) place
older_kept stored s place o = record { older = linked_of o.older; there = contains_map linked_of stored o.older o.there; place_is = o.place_is; frozen = o.frozen; lower = o.lower }

kept_older : (stored : List Stored) (s : Stored) (place : Place) → kept.IsOlder (linked_all stored) (linked_of s) place → IsOlder stored s place
kept_older stored s place o =
    let t = unmapped stored o.older o.there in
    record {
      older = t.0;
      there = t.1;
      place_is = ap (λ (l : Linked). l.place) t.2 ∙ o.place_is;
      frozen = ap (λ (l : Linked). l.head.state) t.2 ∙ o.frozen;
      lower = λ frozen. omega (arith, o.lower frozen, ap (λ (l : Linked). l.head.unique) t.2);
    }

-- ---- newer ones

derived_kept : (place : Place) (stored : List Stored) → kept.derived_from place (linked_all stored) ≡ linked_all (stored_from place stored)
derived_kept place [] = refl
derived_kept place (s ∷ stored) = elim (cases_Bool (names_older place s)) [
  | inl is ↦
      filter_true (kept.names_older place) (linked_of s) (linked_all stored) is ∙ ap (λ (t : List Linked). linked_of s ∷ t) (derived_kept place stored)
      ∙ ap linked_all (sym (filter_true (names_older place) s stored is))
  | inr isnt ↦
      filter_false (kept.names_older place) (linked_of s) (linked_all stored) isnt ∙ derived_kept place stored ∙ ap linked_all (sym (filter_false (names_older place) s stored isnt))
]

only_kept : (xs : List Stored) → kept.only_place (linked_all xs) ≡ only_place xs
only_kept [] = refl
only_kept (s ∷ []) = refl
only_kept (s ∷ t ∷ xs) = refl

newer_kept : (state : State) (derived : List Stored) (newer : Option Place) → NewerIs state derived newer → kept.NewerIs state (linked_all derived) newer
newer_kept Current derived newer is = is
newer_kept Frozen derived newer is = (omega (arith, is.0, length-map derived linked_of), is.1 ∙ sym (only_kept derived))

kept_newer : (state : State) (derived : List Stored) (newer : Option Place) → kept.NewerIs state (linked_all derived) newer → NewerIs state derived newer
kept_newer Current derived newer is = is
kept_newer Frozen derived newer is = (omega (arith, is.0, length-map derived linked_of), is.1 ∙ only_kept derived)

-- ---- all links

pub links_kept : (stored : List Stored) → AreLinked stored → kept.AreLinked (linked_all stored)
links_kept stored are = each_mapped (kept.IsLinked (linked_all stored)) linked_of stored (each_as (IsLinked stored) (λ (s : Stored). kept.IsLinked (linked_all stored) (linked_of s)) stored one are)
  where
    one : (s : Stored) → IsLinked stored s → kept.IsLinked (linked_all stored) (linked_of s)
    one s is = record {
      older = if_some_both s.body.head.older (IsOlder stored s) (kept.IsOlder (linked_all stored) (linked_of s)) (older_kept stored s) is.older;
      newer = subst (λ (derived : List Linked). kept.NewerIs s.body.head.state derived s.body.head.newer) (sym (derived_kept s.place stored)) (newer_kept s.body.head.state (stored_from s.place stored) s.body.head.newer is.newer);
    }

pub kept_links : (stored : List Stored) → kept.AreLinked (linked_all stored) → AreLinked stored
kept_links stored are = each_as (λ (s : Stored). kept.IsLinked (linked_all stored) (linked_of s)) (IsLinked stored) stored one (each_unmapped (kept.IsLinked (linked_all stored)) linked_of stored are)
  where
    one : (s : Stored) → kept.IsLinked (linked_all stored) (linked_of s) → IsLinked stored s
    one s is = record {
      older = if_some_both s.body.head.older (kept.IsOlder (linked_all stored) (linked_of s)) (IsOlder stored s) (kept_older stored s) is.older;
      newer = kept_newer s.body.head.state (stored_from s.place stored) s.body.head.newer (subst (λ (derived : List Linked). kept.NewerIs s.body.head.state derived s.body.head.newer) (derived_kept s.place stored) is.newer);
    }

-- ---- objects

pub kept_objects : (stored : List Stored) (object : Place → ℕ) → LabelsObjects (linked_all stored) object → AreObjects stored object
kept_objects stored object labels = record {
  joined = λ s older there from named. labels.joined (linked_of s) (linked_of older) (contains_map linked_of stored s there) (contains_map linked_of stored older from) named;
  one_first = λ s t there here none too. labels.one_first (linked_of s) (linked_of t) (contains_map linked_of stored s there) (contains_map linked_of stored t here) none too;
}

pub objects_kept : (stored : List Stored) (object : Place → ℕ) → AreObjects stored object → LabelsObjects (linked_all stored) object
objects_kept stored object objects = record {
  joined = λ r older there from named.
      let s = unmapped stored r there in
      let o = unmapped stored older from in
      ap (λ (l : Linked). object l.place) (sym s.2)
      ∙ objects.joined s.0 o.0 s.1 o.1 (ap (λ (l : Linked). l.head.older) s.2 ∙ named ∙ ap (λ (l : Linked). Some l.place) (sym o.2))
      ∙ ap (λ (l : Linked). object l.place) o.2;
  one_first = λ r q there here none too same.
      let s = unmapped stored r there in
      let t = unmapped stored q here in
      ap (λ (l : Linked). l.place) (sym s.2)
      ∙ objects.one_first s.0 t.0 s.1 t.1 (ap (λ (l : Linked). l.head.older) s.2 ∙ none) (ap (λ (l : Linked). l.head.older) t.2 ∙ too)
      (ap (λ (l : Linked). object l.place) s.2 ∙ same ∙ ap (λ (l : Linked). object l.place) (sym t.2))
      ∙ ap (λ (l : Linked). l.place) t.2;
}
