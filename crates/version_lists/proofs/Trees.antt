-- Objects that are trees: their versions are linked, and form just these objects.
use Rattle.std.proofs.Common.{◌≡◌, ℕ, suc, ◌≤◌, List, [], ◌∷◌, length, map, length-append, All, AllPairs, refl, ap, sym, subst, ◌∙◌, arith, true, None, inl, inr}
use Rattle.std.specs.Prelude.{filter, flat_map, ◌==◌}
use Rattle.std.proofs.lemmas.Bool.{eqb-true, eq-eqb}
use Rattle.std.proofs.lemmas.List.Sorted.{length_permutation}
use Rattle.version_lists.specs.declared.version.Version.{Version}
use Rattle.version_lists.specs.declared.version.Object.{Object}
use Rattle.version_lists.specs.Sorted.{Rise}
use Rattle.version_lists.specs.Versions.{unique_of, is_first, numbered_in, first_number, IsLinked, Differ}
use Rattle.version_lists.specs.Objects.{object_from, least_of, objects_formed, versions_of_all, IsTree}
use Rattle.version_lists.proofs.Lists.{Has, all_has, has_map, has_map_from, has_flat, has_flat_from, has_filter, has_filter_from, rises_from, rises_filter, rising_agree, find_key}
use Rattle.version_lists.proofs.Sorted.{Unlike, unlike_from, unlike_back, unlike_cross, order_has, order_has_from, order_permutation, order_rises}
use Rattle.version_lists.proofs.Links.{Linked, linked_in_more}
use Rattle.version_lists.proofs.Climbing.{Parent, first_here, first_up, all_climb}
use Rattle.version_lists.proofs.Forming.{formed_rise, is_first_from}

pub single : {A : Type 0} (xs : List A) → length xs ≡ 1 → (x : A) × (xs ≡ x ∷ [])
single [] e = absurd (omega (arith, e))
single (x ∷ []) e = (x, refl)
single (x ∷ (y ∷ ys)) e = absurd (omega (arith, e))

pub tree_linked : (vs : List Version) → IsTree vs → Linked vs
tree_linked vs tree = (rises_from unique_of vs tree.rise, all_has (IsLinked vs) vs tree.each)

pub trees_linked : (os : List Object) → All (λ (o : Object). IsTree o.versions) os → AllPairs Differ (flat_map (λ (o : Object). o.versions) os)
    → Linked (versions_of_all os)
trees_linked os trees differ =
    (order_rises unique_of (flat_map (λ (o : Object). o.versions) os) (unlike_from unique_of (flat_map (λ (o : Object). o.versions) os) differ), each)
  where
    each : (v : Version) → Has (versions_of_all os) v → IsLinked (versions_of_all os) v
    each v m =
        let r = has_flat_from (λ (o : Object). o.versions) os v (order_has_from unique_of (flat_map (λ (o : Object). o.versions) os) v m) in
        linked_in_more r.0.versions (versions_of_all os) v
        (λ x k. order_has unique_of (flat_map (λ (o : Object). o.versions) os) x (has_flat (λ (o : Object). o.versions) os r.0 x r.1 k))
        (all_has (IsLinked r.0.versions) r.0.versions (all_has (λ (o : Object). IsTree o.versions) os trees r.0 r.1).each v r.2)

-- the first version of a tree
pub record Root (versions : List Version) : Type 0 where
  pub first : Version
  pub there : Has versions first
  pub is : is_first first ≡ true
  pub only : (v : Version) → Has versions v → is_first v ≡ true → v ≡ first

pub root_of : (versions : List Version) → IsTree versions → Root versions
root_of versions tree =
    let one = single (filter is_first versions) tree.one in
    let m = has_filter_from is_first versions one.0 (subst (λ l. Has l one.0) (sym one.1) (inl refl)) in
    record { first = one.0; there = m.0; is = m.1; only = λ v k first. alone v one.0 (subst (λ l. Has l v) one.1 (has_filter is_first versions v k first)) }
  where
    alone : (v w : Version) → Has (w ∷ []) v → v ≡ w
    alone v w (inl e) = sym e
    alone v w (inr m) = absurd m

flat_length : {A B : Type 0} (f : A → List B) (xs : List A) (x : A) → Has xs x → length (f x) ≤ length (flat_map f xs)
flat_length f [] x m = absurd m
flat_length f (y ∷ ys) x (inl e) = let d = ap (λ z. length (f z)) e in let l = length-append (f y) (flat_map f ys) in omega (arith, d, l)
flat_length f (y ∷ ys) x (inr m) = let r = flat_length f ys x m in let l = length-append (f y) (flat_map f ys) in omega (arith, r, l)

-- one version is in one object alone
same_object : (os : List Object) (o p : Object) (v w : Version) → Unlike unique_of (flat_map (λ (o : Object). o.versions) os)
    → Has os o → Has os p → Has o.versions v → Has p.versions w → unique_of v ≡ unique_of w → o ≡ p
same_object [] o p v w apart m k a b e = absurd m
same_object (q ∷ os) o p v w apart (inl m) (inl k) a b e = sym m ∙ k
same_object (q ∷ os) o p v w apart (inl m) (inr k) a b e =
    absurd (unlike_cross unique_of q.versions (flat_map (λ (o : Object). o.versions) os) apart v w (subst (λ (x : Object). Has x.versions v) (sym m) a) (has_flat (λ (o : Object). o.versions) os p w k b) e)
same_object (q ∷ os) o p v w apart (inr m) (inl k) a b e =
    absurd (unlike_cross unique_of q.versions (flat_map (λ (o : Object). o.versions) os) apart w v (subst (λ (x : Object). Has x.versions w) (sym k) b) (has_flat (λ (o : Object). o.versions) os o v m a) (sym e))
same_object (q ∷ os) o p v w apart (inr m) (inr k) a b e =
    same_object os o p v w (unlike_back unique_of q.versions (flat_map (λ (o : Object). o.versions) os) apart) m k a b e

module _ (os : List Object) (trees : All (λ (o : Object). IsTree o.versions) os) (differ : AllPairs Differ (flat_map (λ (o : Object). o.versions) os)) where
  abbrev together : List Version
  together = flat_map (λ (o : Object). o.versions) os

  abbrev vs : List Version
  vs = versions_of_all os

  linked : Linked vs
  linked = trees_linked os trees differ

  tree_of : (o : Object) → Has os o → IsTree o.versions
  tree_of o m = all_has (λ (o : Object). IsTree o.versions) os trees o m

  root : (o : Object) → Has os o → Root o.versions
  root o m = root_of o.versions (tree_of o m)

  in_all : (o : Object) (v : Version) → Has os o → Has o.versions v → Has vs v
  in_all o v m k = order_has unique_of together v (has_flat (λ (o : Object). o.versions) os o v m k)

  in_one : (v : Version) → Has vs v → (o : Object) × Has os o × Has o.versions v
  in_one v m = has_flat_from (λ (o : Object). o.versions) os v (order_has_from unique_of together v m)

  shorter : (o : Object) → Has os o → length o.versions ≤ length vs
  shorter o m = let a = flat_length (λ (o : Object). o.versions) os o m in let b = length_permutation together vs (order_permutation unique_of together) in omega (arith, a, b)

  -- a climb from a version of a tree ends at the first one of that
  tree_top : (o : Object) → (m : Has os o) → (v : Version) → Has o.versions v → first_number (length vs) vs v ≡ unique_of (root o m).first
  tree_top o m v k =
      all_climb o.versions (tree_linked o.versions (tree_of o m)) (λ n w. first_number n vs w ≡ unique_of (root o m).first) at_first one_up v k (length vs) (shorter o m)
    where
      at_first : (n : ℕ) (w : Version) → Has o.versions w → w.older ≡ None → first_number n vs w ≡ unique_of (root o m).first
      at_first n w h e = first_here n vs w e ∙ ap unique_of ((root o m).only w h (is_first_from w e))

      one_up : (n : ℕ) (w : Version) → Has o.versions w → (p : Parent o.versions w) → first_number n vs p.parent ≡ unique_of (root o m).first
          → first_number (suc n) vs w ≡ unique_of (root o m).first
      one_up n w h p holds =
          first_up n vs w p.parent (ap (numbered_in vs) p.is ∙ find_key unique_of vs p.parent (unique_of p.parent) linked.0 (in_all o p.parent m p.there) refl) ∙ holds

  object_is : (o : Object) → (m : Has os o) → object_from vs (root o m).first ≡ o
  object_is o m = ap with_versions (rising_agree unique_of (filter (λ v. first_number (length vs) vs v == unique_of (root o m).first) vs) o.versions
      (rises_filter unique_of (λ v. first_number (length vs) vs v == unique_of (root o m).first) vs linked.0) (rises_from unique_of o.versions (tree_of o m).rise) to from)
    where
      with_versions : List Version → Object
      with_versions l = record { versions = l }

      to : (v : Version) → Has (filter (λ v. first_number (length vs) vs v == unique_of (root o m).first) vs) v → Has o.versions v
      to v k =
          let r = has_filter_from (λ v. first_number (length vs) vs v == unique_of (root o m).first) vs v k in
          let q = in_one v r.0 in
          let e = sym (eqb-true (first_number (length vs) vs v) (unique_of (root o m).first) r.1) ∙ tree_top q.0 q.1 v q.2 in
          let same = same_object os o q.0 (root o m).first (root q.0 q.1).first (unlike_from unique_of together differ) m q.1 (root o m).there (root q.0 q.1).there e in
          subst (λ (x : Object). Has x.versions v) (sym same) q.2

      from : (v : Version) → Has o.versions v → Has (filter (λ v. first_number (length vs) vs v == unique_of (root o m).first) vs) v
      from v k = has_filter (λ v. first_number (length vs) vs v == unique_of (root o m).first) vs v (in_all o v m k) (eq-eqb (first_number (length vs) vs v) (unique_of (root o m).first) (tree_top o m v k))

  pub trees_formed : Rise (map least_of os) → objects_formed vs ≡ os
  trees_formed rise = rising_agree least_of (objects_formed vs) os (rises_from least_of (objects_formed vs) (formed_rise vs linked)) (rises_from least_of os rise) to from
    where
      to : (o : Object) → Has (objects_formed vs) o → Has os o
      to o m =
          let r = has_map_from (object_from vs) (filter is_first vs) o (order_has_from least_of (map (object_from vs) (filter is_first vs)) o m) in
          let f = has_filter_from is_first vs r.0 r.1 in
          let q = in_one r.0 f.0 in
          let same = (root q.0 q.1).only r.0 q.2 f.1 in
          subst (Has os) (sym (object_is q.0 q.1) ∙ ap (object_from vs) (sym same) ∙ r.2) q.1

      from : (o : Object) → Has os o → Has (objects_formed vs) o
      from o m =
          let f = has_filter is_first vs (root o m).first (in_all o (root o m).first m (root o m).there) (root o m).is in
          subst (Has (objects_formed vs)) (object_is o m)
          (order_has least_of (map (object_from vs) (filter is_first vs)) (object_from vs (root o m).first) (has_map (object_from vs) (filter is_first vs) (root o m).first f))
