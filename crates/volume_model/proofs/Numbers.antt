-- Links by place as links by number.
use Rattle.std.proofs.Common.{◌≡◌, ◌<◌, ℕ, Bool, true, false, List, Option, Some, None, refl, sym, ap, subst, ◌∙◌}
use Rattle.std.proofs.lemmas.Bool.{eq-eqb, eqb-true, false≢true}
use Rattle.std.proofs.lemmas.Option.{none-some, same_Some}
use Rattle.ex_base.specs.declared.names.Place.{Place}
use Rattle.object_records.specs.declared.State.{State}
use Rattle.object_records.specs.declared.State.TheVariants.{Current, Frozen}
use Rattle.trees.specs.Trees.{Units}
use Rattle.version_lists.specs.declared.version.Version.{Version}
use Rattle.version_lists.specs.Versions.{unique_of as number_of, is_derived_from, is_number, AreLinked as VersionsAreLinked, IsLinked as IsLinkedVersion, IsOlder as IsOlderVersion}
use Rattle.version_lists.proofs.Lists.{Has, contains_has, has_all, has_contains, length_has, rises_to}
use Rattle.version_lists.proofs.Links.{linked_from}
use Rattle.volume_model.specs.Volume.{Stored, is_frozen, number_at, number_if, stands_at, unique_of, version_of, versions_stored}
use Rattle.volume_model.specs.Links.{AreLinked, HaveOlders, IsLinked, place_in, stored_from}
use Rattle.volume_model.proofs.Places.{Sep, each_has, has_stands, sep_one}
use Rattle.volume_model.proofs.Links.{named, newer_of_frozen, older_at}
use Rattle.volume_model.proofs.Versions.{has_stored, stored_has, stored_rises}

frozen_is : (state : State) → state ≡ Frozen → is_frozen state ≡ true
frozen_is Current e = absurd cc
frozen_is Frozen e = refl

is_frozen_state : (state : State) → is_frozen state ≡ true → state ≡ Frozen
is_frozen_state Current e = absurd (false≢true e)
is_frozen_state Frozen e = refl

is_that_number : (number : ℕ) (o : Option ℕ) → is_number number o ≡ true → o ≡ Some number
is_that_number number None is = absurd (false≢true is)
is_that_number number (Some n) is = ap Some (eqb-true n number is)

not_true : (b : Bool) → (b ≡ true → ⊥) → b ≡ false
not_true true n = absurd (n refl)
not_true false n = refl

module _ (units : Units) (stored : List Stored) (apart : Sep place_in stored) (differ : Sep unique_of stored) (olders : HaveOlders stored) where
  abbrev v_of : Stored → Version
  v_of s = version_of units stored s

  pub number_there : (s : Stored) (place : Place) → Has stored s → s.place ≡ place → number_at stored (Some place) ≡ Some (unique_of s)
  number_there s place h is = ap number_if (has_stands stored place s apart h is)

  -- the record with a number at a link
  pub record Numbered (link : Option Place) (number : ℕ) : Type 0 where
    pub place : Place
    pub is : link ≡ Some place
    pub at : Stored
    pub found : stands_at place stored ≡ Some at
    pub number_is : unique_of at ≡ number

  numbered : (link : Option Place) (number : ℕ) → number_at stored link ≡ Some number → Numbered link number
  numbered None number e = absurd (none-some number e)
  numbered (Some place) number e = by (stands_at place stored) refl e
    where
      by : (o : Option Stored) → stands_at place stored ≡ o → number_if o ≡ Some number → Numbered (Some place) number
      by None is d = absurd (none-some number d)
      by (Some s) is d = record { place = place; is = refl; at = s; found = is; number_is = same_Some (unique_of s) number d }

  -- what names a place is derived from the version there
  pub derived_by_place : (s x : Stored) → Has stored s → Has stored x → s.body.head.older ≡ Some x.place → is_derived_from (unique_of x) (v_of s) ≡ true
  derived_by_place s x h k e = ap (λ (l : Option Place). is_number (unique_of x) (number_at stored l)) e ∙ ap (is_number (unique_of x)) (number_there x x.place k refl) ∙ eq-eqb (unique_of x) (unique_of x) refl

  -- and nothing else is
  pub place_by_derived : (s x : Stored) → Has stored s → Has stored x → is_derived_from (unique_of x) (v_of s) ≡ true → s.body.head.older ≡ Some x.place
  place_by_derived s x h k d =
      let n = numbered s.body.head.older (unique_of x) (is_that_number (unique_of x) (number_at stored s.body.head.older) d) in
      let o = older_at stored olders s h n.place n.is in
      let there = contains_has stored o.older o.there in
      let same : n.at ≡ o.older = same_Some n.at o.older (sym n.found ∙ has_stands stored n.place o.older apart there o.place_is) in
      let x_is : o.older ≡ x = sep_one unique_of stored o.older x differ there k (sym (ap unique_of same) ∙ n.number_is) in
      n.is ∙ ap Some (sym o.place_is ∙ ap place_in x_is)

  pub not_derived : (s x : Stored) → Has stored s → Has stored x → (s.body.head.older ≡ Some x.place → ⊥) → is_derived_from (unique_of x) (v_of s) ≡ false
  not_derived s x h k n = not_true (is_derived_from (unique_of x) (v_of s)) (λ d. n (place_by_derived s x h k d))

  -- ---- linked records are linked versions

  abbrev vs : List Version
  vs = versions_stored units stored

  older_version : (s : Stored) → Has stored s → (number : ℕ) → (v_of s).older ≡ Some number → IsOlderVersion vs (v_of s) number
  older_version s h number e =
      let n = numbered s.body.head.older number e in
      let o = older_at stored olders s h n.place n.is in
      let there = contains_has stored o.older o.there in
      let same : n.at ≡ o.older = same_Some n.at o.older (sym n.found ∙ has_stands stored n.place o.older apart there o.place_is) in
      let is : unique_of o.older ≡ number = sym (ap unique_of same) ∙ n.number_is in
      record {
        older = v_of o.older;
        there = has_contains vs (v_of o.older) (stored_has units stored o.older there);
        number_is = is;
        frozen = frozen_is o.older.body.head.state o.frozen;
        lower = λ f. subst (λ (m : ℕ). m < unique_of s) is (o.lower (is_frozen_state s.body.head.state f));
      }

  linked_version : AreLinked stored → (s : Stored) → Has stored s → IsLinkedVersion vs (v_of s)
  linked_version linked s h = linked_from vs (v_of s) (older_version s h) (λ f.
      let l = each_has (IsLinked stored) stored linked s h in
      let d = length_has (stored_from s.place stored) (newer_of_frozen s.body.head.state (stored_from s.place stored) s.body.head.newer (is_frozen_state s.body.head.state f) l.newer).0 in
      let r = named s.place stored d.0 d.1 in
      (v_of d.0, stored_has units stored d.0 r.0, ap (number_at stored) r.1 ∙ number_there s s.place h refl))

  pub versions_linked : AreLinked stored → VersionsAreLinked vs
  versions_linked linked = record {
    rise = rises_to number_of vs (stored_rises units stored differ);
    each = has_all (IsLinkedVersion vs) vs (λ v h. let s = has_stored units stored v h in subst (IsLinkedVersion vs) s.2 (linked_version linked s.0 s.1));
  }
