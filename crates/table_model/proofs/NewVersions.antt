-- Versions of a table that are changed, left out, or come to it.
use Rattle.std.proofs.Common.{◌≡◌, ◌⊎◌, inl, inr, ℕ, ◌+◌, ◌<◌, ◌≤◌, List, [], ◌∷◌, ◌++◌, length, map, All, AllPairs, refl, sym, ap, subst, ◌∙◌, arith, true, false, cond, not, append-nil, Option, Some, None}
use Rattle.std.specs.Prelude.{filter, find}
use Rattle.std.proofs.lemmas.List.{map-append}
use Rattle.std.proofs.lemmas.List.Elements.{All-head, All-map, All-weaker}
use Rattle.ex_base.specs.declared.names.Oid.{Oid}
use Rattle.ex_base.specs.Sizes.{object_most}
use Rattle.version_lists.specs.declared.version.Version.{Version}
use Rattle.version_lists.specs.Versions.{Differ, unique_of, has_oid, is_derived_from}
use Rattle.version_lists.specs.Changes.{new_version, bytes_changed, edited_in, moved_onto, frozen_copy, frozen_in, derived_copy, derived_in, older_instead, left_by, without_in}
use Rattle.version_lists.proofs.Lists.{Has, all_has, has_filter_from}
use Rattle.version_lists.proofs.Links.{number_from_oid}
use Rattle.table_model.specs.Tables.{LieApart}
use Rattle.table_model.proofs.Lists.{Part, More, more_all, more_end, more_pairs, part_all, part_filter, part_map, part_pairs, part_same, pairs_head, pairs_map, pairs_unmapped, pairs_weaker, all_unmapped, map_map, maps_agree}
use Rattle.table_model.proofs.TableRules.{AreVersions}

-- ---- versions left out

pub part_versions : (next : ℕ) (xs ys : List Version) → Part xs ys → AreVersions next ys → AreVersions next xs
part_versions next xs ys part vs = record {
  numbers = part_all (λ (v : Version). (1 ≤ unique_of v) × (unique_of v < next)) part vs.numbers;
  distinct = part_pairs Differ part vs.distinct;
  apart = part_pairs LieApart part vs.apart;
  sizes = part_all (λ (v : Version). length v.bytes ≤ object_most) part vs.sizes;
}

-- ---- versions that differ in their links alone

-- without what the rules of a table don't ask of one version
abbrev pub plain : Version → Version
plain v = record v { frozen = false; older = None }

pub plain_versions : (next : ℕ) (vs : List Version) → AreVersions next vs → AreVersions next (map plain vs)
plain_versions next vs are = record {
  numbers = All-map (λ (v : Version). (1 ≤ unique_of v) × (unique_of v < next)) plain vs are.numbers;
  distinct = pairs_map Differ plain vs are.distinct;
  apart = pairs_map LieApart plain vs are.apart;
  sizes = All-map (λ (v : Version). length v.bytes ≤ object_most) plain vs are.sizes;
}

pub versions_plain : (next : ℕ) (vs : List Version) → AreVersions next (map plain vs) → AreVersions next vs
versions_plain next vs are = record {
  numbers = all_unmapped (λ (v : Version). (1 ≤ unique_of v) × (unique_of v < next)) plain vs are.numbers;
  distinct = pairs_unmapped Differ plain vs are.distinct;
  apart = pairs_unmapped LieApart plain vs are.apart;
  sizes = all_unmapped (λ (v : Version). length v.bytes ≤ object_most) plain vs are.sizes;
}

alike_versions : (next : ℕ) (vs ws : List Version) → map plain vs ≡ map plain ws → AreVersions next ws → AreVersions next vs
alike_versions next vs ws alike are = versions_plain next vs (subst (AreVersions next) (sym alike) (plain_versions next ws are))

moved_alike : (oid : Oid) (number : ℕ) (vs : List Version) → map plain (map (moved_onto oid number) vs) ≡ map plain vs
moved_alike oid number vs = map_map plain (moved_onto oid number) vs ∙ maps_agree (λ v. plain (moved_onto oid number v)) plain vs (λ k d h. one _)
  where
    one : (v : Version) → plain (moved_onto oid number v) ≡ plain v
    one v = elim (has_oid oid v) as (λ b. plain (cond b (record v { older = Some number }) v) ≡ plain v) [ true ↦ refl | false ↦ refl ]

instead_alike : (gone : Version) (vs : List Version) → map plain (map (older_instead gone) vs) ≡ map plain vs
instead_alike gone vs = map_map plain (older_instead gone) vs ∙ maps_agree (λ v. plain (older_instead gone v)) plain vs (λ k d h. one _)
  where
    one : (v : Version) → plain (older_instead gone v) ≡ plain v
    one v = elim (is_derived_from (unique_of gone) v) as (λ b. plain (cond b (record v { older = gone.older }) v) ≡ plain v) [ true ↦ refl | false ↦ refl ]

pub without_part : (oid : Oid) (vs : List Version) → Part (map plain (without_in oid vs)) (map plain vs)
without_part oid vs = left (find (has_oid oid) vs)
  where
    left : (o : Option Version) → Part (map plain (left_by o vs)) (map plain vs)
    left None = part_same (map plain vs)
    left (Some gone) =
        subst (λ ws. Part ws (map plain vs)) (sym (instead_alike gone (filter (λ v. not (has_oid gone.oid v)) vs)))
        (part_map plain (part_filter (λ v. not (has_oid gone.oid v)) vs))

-- ---- the bytes of a version change

module _ (oid : Oid) (change : List ℕ → List ℕ) where
  same_oid_after : (v : Version) → (bytes_changed oid change v).oid ≡ v.oid
  same_oid_after v = elim (has_oid oid v) as (λ b. (cond b (record v { bytes = change v.bytes }) v).oid ≡ v.oid) [ true ↦ refl | false ↦ refl ]

  same_unique : (v : Version) → unique_of (bytes_changed oid change v) ≡ unique_of v
  same_unique v = ap (λ (o : Oid). o.unique) (same_oid_after v)

  pub edited_versions : (next : ℕ) (vs : List Version) → AreVersions next vs → All (λ (v : Version). length (bytes_changed oid change v).bytes ≤ object_most) vs
      → AreVersions next (edited_in oid change vs)
  edited_versions next vs are sizes = record {
    numbers = All-map (λ (v : Version). (1 ≤ unique_of v) × (unique_of v < next)) (bytes_changed oid change) vs
        (All-weaker (λ (v : Version). (1 ≤ unique_of v) × (unique_of v < next)) (λ (v : Version). (1 ≤ unique_of (bytes_changed oid change v)) × (unique_of (bytes_changed oid change v) < next))
        (λ v n. subst (λ (u : ℕ). (1 ≤ u) × (u < next)) (sym (same_unique v)) n) vs are.numbers);
    distinct = pairs_map Differ (bytes_changed oid change) vs
        (pairs_weaker Differ (λ x y. Differ (bytes_changed oid change x) (bytes_changed oid change y)) vs (λ x y differ e. differ (sym (same_unique x) ∙ e ∙ same_unique y)) are.distinct);
    apart = pairs_map LieApart (bytes_changed oid change) vs
        (pairs_weaker LieApart (λ x y. LieApart (bytes_changed oid change x) (bytes_changed oid change y)) vs
        (λ x y apart same. apart (
          sym (ap (λ (o : Oid). o.page.0) (same_oid_after x)) ∙ same.0 ∙ ap (λ (o : Oid). o.page.0) (same_oid_after y),
          sym (ap (λ (o : Oid). o.slot) (same_oid_after x)) ∙ same.1 ∙ ap (λ (o : Oid). o.slot) (same_oid_after y),
        )) are.apart);
    sizes = All-map (λ (v : Version). length v.bytes ≤ object_most) (bytes_changed oid change) vs sizes;
  }

-- ---- a version more

-- the new version has the next number, and a place where none is
pub record IsNew (next : ℕ) (v : Version) (vs : List Version) : Type 0 where
  pub number : unique_of v ≡ next
  pub some : 1 ≤ next
  pub apart : All (λ (w : Version). LieApart w v) vs
  pub size : length v.bytes ≤ object_most

-- a number that is used up takes nothing from the versions
pub wider_versions : (next : ℕ) (vs : List Version) → AreVersions next vs → AreVersions (next + 1) vs
wider_versions next vs are = record {
  numbers = All-weaker (λ (w : Version). (1 ≤ unique_of w) × (unique_of w < next)) (λ (w : Version). (1 ≤ unique_of w) × (unique_of w < next + 1)) (λ w n. (n.0, let low : unique_of w < next = n.1 in omega arith)) vs are.numbers;
  distinct = are.distinct;
  apart = are.apart;
  sizes = are.sizes;
}

more_versions : (next : ℕ) (v : Version) (vs ws : List Version) → More v vs ws → IsNew next v vs → AreVersions next vs → AreVersions (next + 1) ws
more_versions next v vs ws more new are = record {
  numbers = more_all (λ (w : Version). (1 ≤ unique_of w) × (unique_of w < next + 1)) more
      (rw (new.number) (new.some, omega arith))
      (All-weaker (λ (w : Version). (1 ≤ unique_of w) × (unique_of w < next)) (λ (w : Version). (1 ≤ unique_of w) × (unique_of w < next + 1)) (λ w n. (n.0, let below : unique_of w < next = n.1 in omega arith)) vs are.numbers);
  distinct = more_pairs Differ more
      (All-weaker (λ (w : Version). (1 ≤ unique_of w) × (unique_of w < next)) (λ (w : Version). Differ v w) (λ w n e. let below : unique_of w < next = n.1 in let same : unique_of w ≡ next = sym e ∙ new.number in absurd (omega arith)) vs are.numbers)
      (All-weaker (λ (w : Version). (1 ≤ unique_of w) × (unique_of w < next)) (λ (w : Version). Differ w v) (λ w n e. let below : unique_of w < next = n.1 in let same : unique_of w ≡ next = e ∙ new.number in absurd (omega arith)) vs are.numbers)
      are.distinct;
  apart = more_pairs LieApart more
      (All-weaker (λ (w : Version). LieApart w v) (λ (w : Version). LieApart v w) (λ w apart same. apart (sym same.0, sym same.1)) vs new.apart)
      new.apart are.apart;
  sizes = more_all (λ (w : Version). length w.bytes ≤ object_most) more new.size are.sizes;
}

-- at most one comes to them
pub grown_versions : (next : ℕ) (vs new : List Version) → AreVersions next vs → (new ≡ []) ⊎ ((v : Version) × (new ≡ v ∷ []) × IsNew next v vs)
    → AreVersions (next + 1) (vs ++ new)
grown_versions next vs new are (inl none) =
    subst (AreVersions (next + 1)) (sym (ap (λ l. vs ++ l) none ∙ append-nil vs)) (wider_versions next vs are)
grown_versions next vs new are (inr one) =
    subst (AreVersions (next + 1)) (sym (ap (λ l. vs ++ l) one.1)) (more_versions next one.0 vs (vs ++ one.0 ∷ []) (more_end vs) one.2 are)

-- at most one version has the identifier
named : (oid : Oid) (vs : List Version) → AllPairs Differ vs → (filter (has_oid oid) vs ≡ []) ⊎ ((v : Version) × (filter (has_oid oid) vs ≡ v ∷ []) × Has vs v)
named oid vs differ = of_filter (filter (has_oid oid) vs) refl
  where
    of_filter : (l : List Version) → filter (has_oid oid) vs ≡ l → (filter (has_oid oid) vs ≡ []) ⊎ ((v : Version) × (filter (has_oid oid) vs ≡ v ∷ []) × Has vs v)
    of_filter [] e = inl e
    of_filter (v ∷ []) e = inr (v, e, (has_filter_from (has_oid oid) vs v (subst (λ l. Has l v) (sym e) (inl refl))).0)
    of_filter (v ∷ (w ∷ l)) e = absurd (
        All-head (Differ v) w l (pairs_head Differ v (w ∷ l) (subst (AllPairs Differ) e (part_pairs Differ (part_filter (has_oid oid) vs) differ)))
        (number v (inl refl) ∙ sym (number w (inr (inl refl))))
        )
      where
        number : (x : Version) → Has (v ∷ (w ∷ l)) x → unique_of x ≡ oid.unique
        number x m = number_from_oid oid x (has_filter_from (has_oid oid) vs x (subst (λ k. Has k x) (sym e) m)).1

module _ (next : ℕ) (oid copy : Oid) (vs : List Version) (are : AreVersions next vs) (number : copy.unique ≡ next) (some : 1 ≤ next)
    (vacant : All (λ (v : Version). LieApart v (new_version copy)) vs) where
  copied_versions : (made : Version → Version) → ((v : Version) → (made v).oid ≡ copy) → ((v : Version) → (made v).bytes ≡ v.bytes)
      → AreVersions (next + 1) (vs ++ map made (filter (has_oid oid) vs))
  copied_versions made same bytes = grown_versions next vs (map made (filter (has_oid oid) vs)) are (elim (named oid vs are.distinct) [
    | inl none ↦ inl (ap (map made) none)
    | inr one ↦ inr (
      made one.0,
      ap (map made) one.1,
      record {
        number = ap (λ (o : Oid). o.unique) (same one.0) ∙ number;
        some = some;
        apart = subst (λ (o : Oid). All (λ (v : Version). LieApart v (new_version o)) vs) (sym (same one.0)) vacant;
        size = subst (λ (l : List ℕ). length l ≤ object_most) (sym (bytes one.0)) (all_has (λ (v : Version). length v.bytes ≤ object_most) vs are.sizes one.0 one.2);
      },
    )
  ])

  pub derived_versions : AreVersions (next + 1) (derived_in oid copy vs)
  derived_versions = copied_versions (derived_copy copy) (λ v. refl) (λ v. refl)

  pub frozen_versions : AreVersions (next + 1) (frozen_in oid copy vs)
  frozen_versions =
      alike_versions (next + 1) (frozen_in oid copy vs) (vs ++ copies)
      (map-append plain (map (moved_onto oid copy.unique) vs) copies ∙ ap (λ l. l ++ map plain copies) (moved_alike oid copy.unique vs) ∙ sym (map-append plain vs copies))
      (copied_versions (frozen_copy copy) (λ v. refl) (λ v. refl))
    where
      copies : List Version
      copies = map (frozen_copy copy) (filter (has_oid oid) vs)
