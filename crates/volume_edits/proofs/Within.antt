-- Records that change as a part of a longer list.
use Rattle.std.proofs.Common.{[], ◌≡◌, ◌≢◌, Bool, true, false, List, ◌∷◌, ◌++◌, Option, Some, None, refl, sym, ap, subst, ◌∙◌, inl, inr, ◌⊎◌}
use Rattle.std.specs.Prelude.{if◌then◌else◌}
use Rattle.std.specs.List.{AllByRecursion}
use Rattle.std.proofs.lemmas.List.{append-nil}
use Rattle.std.proofs.lemmas.List.Elements.{filter-append}
use Rattle.ex_base.specs.declared.names.Place.{Place}
use Rattle.version_lists.proofs.Lists.{Has, contains_has, filter_none, has_back, has_contains, has_either, has_front}
use Rattle.volume_model.specs.Volume.{Stored, lies_at, stands_at}
use Rattle.volume_model.specs.Links.{names_older, place_in, stored_from, AreLinked, IsLinked, IsOlder, NewerIs, PlacesDiffer}
use Rattle.volume_model.proofs.Places.{Sep, stands_has, each_has, has_each}
use Rattle.volume_model.proofs.Links.{if_some, some_if}
use Rattle.version_tree.specs.Bodies.{PlaceChange}
use Rattle.version_tree.proofs.Linking.{named_place}
use Rattle.volume_edits.proofs.RecordEdits.{EditsStored, stored_after}
use Rattle.volume_edits.proofs.Places.{nothing_after}

-- the first, if there is one, else the other
abbrev or_else : Option Stored → Option Stored → Option Stored
or_else None other = other
or_else (Some s) other = Some s

stands_app : (place : Place) (xs ys : List Stored) → stands_at place (xs ++ ys) ≡ or_else (stands_at place xs) (stands_at place ys)
stands_app place [] ys = refl
stands_app place (x ∷ xs) ys = by (lies_at place x) (stands_app place xs ys)
  where
    by : (b : Bool) → stands_at place (xs ++ ys) ≡ or_else (stands_at place xs) (stands_at place ys) → (if b then Some x else stands_at place (xs ++ ys)) ≡ or_else (if b then Some x else stands_at place xs) (stands_at place ys)
    by true rest = refl
    by false rest = rest

or_none : (o : Option Stored) → or_else o None ≡ o
or_none None = refl
or_none (Some s) = refl

-- none of the changes is at the place of a record
abbrev Spares : List PlaceChange → Stored → Type 0
Spares changes s = AllByRecursion (λ (change : PlaceChange). change.0 ≢ s.place) changes

module _ (front stored later back : List Stored) (changes : List PlaceChange) (e : EditsStored stored later changes)
    (spared : AllByRecursion (λ (s : Stored). AllByRecursion (λ (change : PlaceChange). change.0 ≢ s.place) changes) (front ++ back)) where
  nothing_at : (place : Place) (s : Stored) → Has (front ++ back) s → s.place ≡ place → (was : Option Stored) → stored_after changes place was ≡ was
  nothing_at place s h is was = nothing_after changes place was (subst (λ (p : Place). AllByRecursion (λ (change : PlaceChange). change.0 ≢ p) changes) is (each_has (Spares changes) (front ++ back) spared s h))

  middle : (place : Place) (o : Option Stored) → stands_at place back ≡ o → or_else (stands_at place later) (stands_at place back) ≡ stored_after changes place (or_else (stands_at place stored) (stands_at place back))
  middle place None is =
      ap (or_else (stands_at place later)) is ∙ or_none (stands_at place later) ∙ e.at place
      ∙ ap (stored_after changes place) (sym (ap (or_else (stands_at place stored)) is ∙ or_none (stands_at place stored)))
  middle place (Some s) is =
      let r = stands_has back place s is in
      let none = nothing_at place s (has_back front back s r.0) r.1 in
      ap (λ (o : Option Stored). or_else o (stands_at place back)) (e.at place ∙ none (stands_at place stored)) ∙ sym (none (or_else (stands_at place stored) (stands_at place back)))

  whole : (place : Place) (o : Option Stored) → stands_at place front ≡ o
      → or_else (stands_at place front) (or_else (stands_at place later) (stands_at place back)) ≡ stored_after changes place (or_else (stands_at place front) (or_else (stands_at place stored) (stands_at place back)))
  whole place None is =
      ap (λ (o : Option Stored). or_else o (or_else (stands_at place later) (stands_at place back))) is ∙ middle place (stands_at place back) refl
      ∙ ap (λ (o : Option Stored). stored_after changes place (or_else o (or_else (stands_at place stored) (stands_at place back)))) (sym is)
  whole place (Some s) is =
      let r = stands_has front place s is in
      ap (λ (o : Option Stored). or_else o (or_else (stands_at place later) (stands_at place back))) is
      ∙ sym (nothing_at place s (has_front front back s r.0) r.1 (Some s))
      ∙ ap (λ (o : Option Stored). stored_after changes place (or_else o (or_else (stands_at place stored) (stands_at place back)))) (sym is)

  pub edits_within : PlacesDiffer (front ++ (stored ++ back)) → PlacesDiffer (front ++ (later ++ back)) → EditsStored (front ++ (stored ++ back)) (front ++ (later ++ back)) changes
  edits_within before after = record {
    places = before;
    later_places = after;
    at = λ place.
        stands_app place front (later ++ back) ∙ ap (or_else (stands_at place front)) (stands_app place later back)
        ∙ whole place (stands_at place front) refl
        ∙ ap (stored_after changes place) (sym (stands_app place front (stored ++ back) ∙ ap (or_else (stands_at place front)) (stands_app place stored back)));
  }

-- ---- records of two files

across : (xs ys : List Stored) (x y : Stored) → Sep place_in (xs ++ ys) → Has xs x → Has ys y → x.place ≡ y.place → ⊥
across [] ys x y apart h k e = absurd h
across (z ∷ xs) ys x y apart (inl is) k e = apart.0 y (has_back xs ys y k) (ap place_in is ∙ e)
across (z ∷ xs) ys x y apart (inr h) k e = across xs ys x y apart.1 h k e

module _ (xs ys : List Stored) (apart : Sep place_in (xs ++ ys)) (front : AreLinked xs) (back : AreLinked ys) where
  link_front : (s : Stored) → Has xs s → IsLinked xs s
  link_front s h = each_has (IsLinked xs) xs front s h

  link_back : (s : Stored) → Has ys s → IsLinked ys s
  link_back s h = each_has (IsLinked ys) ys back s h

  older_front : (s : Stored) → Has xs s → (p : Place) → s.body.head.older ≡ Some p → IsOlder xs s p
  older_front s h p d = some_if (IsOlder xs s) s.body.head.older p (link_front s h).older d

  older_back : (s : Stored) → Has ys s → (p : Place) → s.body.head.older ≡ Some p → IsOlder ys s p
  older_back s h p d = some_if (IsOlder ys s) s.body.head.older p (link_back s h).older d

  not_back : (s t : Stored) → Has xs s → Has ys t → names_older s.place t ≡ false
  not_back s t h k = by (names_older s.place t) refl
    where
      by : (b : Bool) → names_older s.place t ≡ b → names_older s.place t ≡ false
      by true is =
          let o = older_back t k s.place (named_place s.place t.body.head.older is) in
          absurd (across xs ys s o.older apart h (contains_has ys o.older o.there) (sym o.place_is))
      by false is = is

  not_front : (s t : Stored) → Has ys s → Has xs t → names_older s.place t ≡ false
  not_front s t h k = by (names_older s.place t) refl
    where
      by : (b : Bool) → names_older s.place t ≡ b → names_older s.place t ≡ false
      by true is =
          let o = older_front t k s.place (named_place s.place t.body.head.older is) in
          absurd (across xs ys o.older s apart (contains_has xs o.older o.there) h o.place_is)
      by false is = is

  pub from_front : (s : Stored) → Has xs s → stored_from s.place (xs ++ ys) ≡ stored_from s.place xs
  from_front s h =
      filter-append (names_older s.place) xs ys ∙ ap (λ (l : List Stored). stored_from s.place xs ++ l) (filter_none (names_older s.place) ys (λ t k. not_back s t h k)) ∙ append-nil (stored_from s.place xs)

  pub from_back : (s : Stored) → Has ys s → stored_from s.place (xs ++ ys) ≡ stored_from s.place ys
  from_back s h =
      filter-append (names_older s.place) xs ys ∙ ap (λ (l : List Stored). l ++ stored_from s.place ys) (filter_none (names_older s.place) xs (λ t k. not_front s t h k))

  linked_either : (s : Stored) → Has xs s ⊎ Has ys s → IsLinked (xs ++ ys) s
  linked_either s (inl h) = record {
    older = if_some (IsOlder (xs ++ ys) s) s.body.head.older (λ p d. let o = older_front s h p d in record {
      older = o.older;
      there = has_contains (xs ++ ys) o.older (has_front xs ys o.older (contains_has xs o.older o.there));
      place_is = o.place_is;
      frozen = o.frozen;
      lower = o.lower;
    });
    newer = subst (λ (l : List Stored). NewerIs s.body.head.state l s.body.head.newer) (sym (from_front s h)) (link_front s h).newer;
  }
  linked_either s (inr h) = record {
    older = if_some (IsOlder (xs ++ ys) s) s.body.head.older (λ p d. let o = older_back s h p d in record {
      older = o.older;
      there = has_contains (xs ++ ys) o.older (has_back xs ys o.older (contains_has ys o.older o.there));
      place_is = o.place_is;
      frozen = o.frozen;
      lower = o.lower;
    });
    newer = subst (λ (l : List Stored). NewerIs s.body.head.state l s.body.head.newer) (sym (from_back s h)) (link_back s h).newer;
  }

  pub linked_both : AreLinked (xs ++ ys)
  linked_both = has_each (IsLinked (xs ++ ys)) (xs ++ ys) (λ s h. linked_either s (has_either xs ys s h))
