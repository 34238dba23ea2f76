-- The objects that versions form: they have all the versions, each is a tree, and their numbers rise.
use Rattle.std.proofs.Common.{◌≡◌, ℕ, List, [], ◌∷◌, ◌++◌, length, map, All, refl, ap, sym, subst, ◌∙◌, arith, true, is_none, Option, Some, None, inl, inr}
use Rattle.std.specs.Prelude.{filter, flat_map, ◌==◌}
use Rattle.std.specs.List.Sorted.{IsPermutation}
use Rattle.std.proofs.lemmas.List.Sorted.{IsPermutation-sym, length_permutation}
use Rattle.std.proofs.lemmas.List.{length-map}
use Rattle.std.proofs.lemmas.Bool.{eqb-true, eq-eqb, false≢true}
use Rattle.std.proofs.lemmas.Option.{same_Some}
use Rattle.version_lists.specs.declared.version.Version.{Version}
use Rattle.version_lists.specs.declared.version.Object.{Object}
use Rattle.version_lists.specs.Sorted.{in_order, Rise}
use Rattle.version_lists.specs.Versions.{unique_of, is_first, first_number, IsOlder, IsLinked}
use Rattle.version_lists.specs.Objects.{object_from, least_in, least_of, objects_formed, IsTree}
use Rattle.version_lists.proofs.Lists.{Has, has_contains, has_all, has_map_from, has_filter, has_filter_from, has_flat, has_flat_from, Rises, rises_to, rises_filter, rises_one, rising_agree}
use Rattle.version_lists.proofs.Sorted.{order_permutation, Unlike, unlike_rises, unlike_append, unlike_order, unlike_by, unlike_map, order_has, order_has_from, order_is, order_map, order_rises}
use Rattle.version_lists.proofs.Links.{Linked, linked_from, older_of, one_derived}
use Rattle.version_lists.proofs.Climbing.{parent_of, version_ends, same_first, first_here}

flat_map_of_map : {A B C : Type 0} (g : B → List C) (f : A → B) (xs : List A) → flat_map g (map f xs) ≡ flat_map (λ x. g (f x)) xs
flat_map_of_map g f [] = refl
flat_map_of_map g f (x ∷ xs) = ap (λ rest. g (f x) ++ rest) (flat_map_of_map g f xs)

pub is_first_from : (v : Version) → v.older ≡ None → is_first v ≡ true
is_first_from v e = ap is_none e

pub none_from : (o : Option ℕ) → is_none o ≡ true → o ≡ None
none_from None e = refl
none_from (Some n) e = absurd (false≢true e)

least_has : (vs : List Version) (v : Version) → Has vs v → (w : Version) × Has vs w × (unique_of w ≡ least_in vs)
least_has [] v m = absurd m
least_has (w ∷ vs) v m = (w, inl refl, refl)

-- ---- a list parted by a number of each item

abbrev part : (Version → ℕ) → List Version → Version → List Version
part label vs f = filter (λ v. label v == unique_of f) vs

-- each version is in the part of one label alone
parts_unlike : (label : Version → ℕ) (vs fs : List Version) → Rises unique_of vs → Unlike unique_of fs
    → Unlike unique_of (flat_map (part label vs) fs)
parts_unlike label vs [] up apart = tt
parts_unlike label vs (f ∷ fs) up apart =
    unlike_append unique_of (part label vs f) (flat_map (part label vs) fs) (unlike_rises unique_of (part label vs f) (rises_filter unique_of (λ v. label v == unique_of f) vs up))
    (parts_unlike label vs fs up apart.1) cross
  where
    cross : (x y : Version) → Has (part label vs f) x → Has (flat_map (part label vs) fs) y → unique_of x ≡ unique_of y → ⊥
    cross x y h k e =
        let a = has_filter_from (λ v. label v == unique_of f) vs x h in
        let r = has_flat_from (part label vs) fs y k in
        let b = has_filter_from (λ v. label v == unique_of r.0) vs y r.2 in
        let same = rises_one unique_of vs x y up a.0 b.0 e in
        apart.0 r.0 r.1 (sym (eqb-true (label x) (unique_of f) a.1) ∙ ap label same ∙ eqb-true (label y) (unique_of r.0) b.1)

pub as_many_objects : (vs : List Version) → length (objects_formed vs) ≡ length (filter is_first vs)
as_many_objects vs =
    length_permutation (map (object_from vs) (filter is_first vs)) (objects_formed vs) (order_permutation least_of (map (object_from vs) (filter is_first vs)))
    ∙ length-map (filter is_first vs) (object_from vs)

module _ (vs : List Version) (linked : Linked vs) where
  abbrev firsts : List Version
  firsts = filter is_first vs

  -- the number of the first version that one is reached from
  abbrev top : Version → ℕ
  top v = first_number (length vs) vs v

  abbrev members : Version → List Version
  members f = filter (λ v. top v == unique_of f) vs

  abbrev firsts_in_order : List Version
  firsts_in_order = in_order (λ f. least_of (object_from vs f)) firsts

  formed_is : objects_formed vs ≡ map (object_from vs) firsts_in_order
  formed_is = order_map (λ f. least_of (object_from vs f)) least_of (object_from vs) firsts (λ f. refl)

  -- each version is in the part of a first one
  has_first : (v : Version) → Has vs v → (f : Version) × Has firsts f × (top v ≡ unique_of f)
  has_first v m = let e = version_ends vs linked v m in
      (e.first, has_filter is_first vs e.first e.there (is_first_from e.first e.is), e.number (length vs) (omega arith))

  pub all_versions : in_order unique_of (flat_map (λ (o : Object). o.versions) (objects_formed vs)) ≡ vs
  all_versions =
      ap (λ os. in_order unique_of (flat_map (λ (o : Object). o.versions) os)) formed_is
      ∙ ap (in_order unique_of) (flat_map_of_map (λ (o : Object). o.versions) (object_from vs) firsts_in_order)
      ∙ order_is unique_of (flat_map members firsts_in_order) vs
      (parts_unlike top vs firsts_in_order linked.0 (unlike_order (λ f. least_of (object_from vs f)) unique_of firsts (unlike_rises unique_of firsts (rises_filter unique_of is_first vs linked.0))))
      linked.0 to from
    where
      to : (v : Version) → Has (flat_map members firsts_in_order) v → Has vs v
      to v m = let r = has_flat_from members firsts_in_order v m in (has_filter_from (λ w. top w == unique_of r.0) vs v r.2).0

      from : (v : Version) → Has vs v → Has (flat_map members firsts_in_order) v
      from v m = let f = has_first v m in
          has_flat members firsts_in_order f.0 v (order_has (λ g. least_of (object_from vs g)) firsts f.0 f.1)
          (has_filter (λ w. top w == unique_of f.0) vs v m (eq-eqb (top v) (unique_of f.0) f.2))

  pub formed_permutation : IsPermutation vs (flat_map (λ (o : Object). o.versions) (objects_formed vs))
  formed_permutation =
      IsPermutation-sym (flat_map (λ (o : Object). o.versions) (objects_formed vs)) vs
      (subst (IsPermutation (flat_map (λ (o : Object). o.versions) (objects_formed vs))) all_versions (order_permutation unique_of (flat_map (λ (o : Object). o.versions) (objects_formed vs))))

  -- ---- each object is a tree

  top_of_first : (f : Version) → Has firsts f → top f ≡ unique_of f
  top_of_first f m = first_here (length vs) vs f (none_from f.older (has_filter_from is_first vs f m).1)

  has_itself : (f : Version) → Has firsts f → Has (members f) f
  has_itself f m = has_filter (λ v. top v == unique_of f) vs f (has_filter_from is_first vs f m).0 (eq-eqb (top f) (unique_of f) (top_of_first f m))

  members_linked : (f v : Version) → Has firsts f → Has (members f) v → IsLinked (members f) v
  members_linked f v first m = linked_from (members f) v below above
    where
      in_all : Has vs v
      in_all = (has_filter_from (λ w. top w == unique_of f) vs v m).0

      top_is : top v ≡ unique_of f
      top_is = eqb-true (top v) (unique_of f) (has_filter_from (λ w. top w == unique_of f) vs v m).1

      below : (number : ℕ) → v.older ≡ Some number → IsOlder (members f) v number
      below number e =
          let p = parent_of vs linked v in_all number e in
          let o = older_of vs v number (linked.1 v in_all) e in
          let same = sym (same_first vs linked v in_all p) ∙ top_is in
          record {
            older = p.parent;
            there = has_contains (members f) p.parent (has_filter (λ w. top w == unique_of f) vs p.parent p.there (eq-eqb (top p.parent) (unique_of f) same));
            number_is = same_Some (unique_of p.parent) number (sym p.is ∙ e);
            frozen = p.frozen;
            lower = o.lower;
          }

      above : v.frozen ≡ true → (d : Version) × Has (members f) d × (d.older ≡ Some (unique_of v))
      above frozen =
          let d = one_derived vs v (linked.1 v in_all) frozen in
          let p = parent_of vs linked d.0 d.1 (unique_of v) d.2 in
          let same = rises_one unique_of vs p.parent v linked.0 p.there in_all (same_Some (unique_of p.parent) (unique_of v) (sym p.is ∙ d.2)) in
          (d.0, has_filter (λ w. top w == unique_of f) vs d.0 d.1 (eq-eqb (top d.0) (unique_of f) (same_first vs linked d.0 d.1 p ∙ ap top same ∙ top_is)), d.2)

  tree : (f : Version) → Has firsts f → IsTree (members f)
  tree f m = record {
    rise = rises_to unique_of (members f) (rises_filter unique_of (λ v. top v == unique_of f) vs linked.0);
    one = ap length (rising_agree unique_of (filter is_first (members f)) (f ∷ []) (rises_filter unique_of is_first (members f) up) ((λ v k. absurd k), tt) to from);
    each = has_all (IsLinked (members f)) (members f) (λ v k. members_linked f v m k);
  }
    where
      up : Rises unique_of (members f)
      up = rises_filter unique_of (λ v. top v == unique_of f) vs linked.0

      to : (v : Version) → Has (filter is_first (members f)) v → Has (f ∷ []) v
      to v k =
          let a = has_filter_from is_first (members f) v k in
          let b = has_filter_from (λ w. top w == unique_of f) vs v a.0 in
          let first = has_filter is_first vs v b.0 a.1 in
          inl (rises_one unique_of vs f v linked.0 (has_filter_from is_first vs f m).0 b.0 (sym (eqb-true (top v) (unique_of f) b.1) ∙ top_of_first v first))

      from : (v : Version) → Has (f ∷ []) v → Has (filter is_first (members f)) v
      from v (inl e) = subst (Has (filter is_first (members f))) e (has_filter is_first (members f) f (has_itself f m) (has_filter_from is_first vs f m).1)
      from v (inr k) = absurd k

  pub formed_trees : All (λ (o : Object). IsTree o.versions) (objects_formed vs)
  formed_trees = has_all (λ (o : Object). IsTree o.versions) (objects_formed vs) each
    where
      each : (o : Object) → Has (objects_formed vs) o → IsTree o.versions
      each o m =
          let r = has_map_from (object_from vs) firsts o (order_has_from least_of (map (object_from vs) firsts) o m) in
          subst (λ (o : Object). IsTree o.versions) r.2 (tree r.0 r.1)

  -- ---- objects rise by their least numbers

  -- since these are numbers of their own versions
  least_tells : (f g : Version) → Has firsts f → Has firsts g → least_in (members f) ≡ least_in (members g) → unique_of f ≡ unique_of g
  least_tells f g m k e =
      let a = least_has (members f) f (has_itself f m) in
      let b = least_has (members g) g (has_itself g k) in
      let c = has_filter_from (λ v. top v == unique_of f) vs a.0 a.1 in
      let d = has_filter_from (λ v. top v == unique_of g) vs b.0 b.1 in
      let same = rises_one unique_of vs a.0 b.0 linked.0 c.0 d.0 (a.2 ∙ e ∙ sym b.2) in
      sym (eqb-true (top a.0) (unique_of f) c.1) ∙ ap top same ∙ eqb-true (top b.0) (unique_of g) d.1

  pub formed_rise : Rise (map least_of (objects_formed vs))
  formed_rise =
      rises_to least_of (objects_formed vs) (order_rises least_of (map (object_from vs) firsts) (unlike_map least_of (object_from vs) firsts
      (unlike_by unique_of (λ f. least_of (object_from vs f)) firsts (unlike_rises unique_of firsts (rises_filter unique_of is_first vs linked.0)) least_tells)))
