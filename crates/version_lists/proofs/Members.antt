-- What holds of the identifier and the bytes of each version, after an update.
use Rattle.std.proofs.Common.{◌≡◌, ℕ, List, [], ◌∷◌, ◌++◌, map, refl, sym, subst, Bool, true, false, cond, not, Option, Some, None, find, filter, inl, inr}
use Rattle.ex_base.specs.declared.names.Oid.{Oid}
use Rattle.version_lists.specs.declared.version.Version.{Version}
use Rattle.version_lists.specs.Versions.{has_oid, unique_of, is_derived_from}
use Rattle.version_lists.specs.Changes.{new_version, created_in, bytes_changed, edited_in, moved_onto, frozen_copy, frozen_in, derived_copy, derived_in, older_instead, left_by, without_in}
use Rattle.version_lists.proofs.Lists.{Has, has_map_from, has_either, has_filter_from}

module _ (P : Oid → List ℕ → Type 0) where
  abbrev Each : List Version → Type 0
  Each vs = (v : Version) → Has vs v → P v.oid v.bytes

  mapped : (f : Version → Version) (vs : List Version) → ((v : Version) → Has vs v → P (f v).oid (f v).bytes) → Each (map f vs)
  mapped f vs each v m = let r = has_map_from f vs v m in subst (λ (w : Version). P w.oid w.bytes) r.2 (each r.0 r.1)

  joined : (vs ws : List Version) → Each vs → Each ws → Each (vs ++ ws)
  joined vs ws front back v m = elim (has_either vs ws v m) [ inl a ↦ front v a | inr b ↦ back v b ]

  pub created_each : (oid : Oid) (vs : List Version) → P oid [] → Each vs → Each (created_in oid vs)
  created_each oid vs new each = joined vs (new_version oid ∷ []) each one
    where
      one : (v : Version) → Has (new_version oid ∷ []) v → P v.oid v.bytes
      one v (inl e) = subst (λ (w : Version). P w.oid w.bytes) e new
      one v (inr m) = absurd m

  pub edited_each : (oid : Oid) (change : List ℕ → List ℕ) (vs : List Version) → ((v : Version) → Has vs v → has_oid oid v ≡ true → P v.oid (change v.bytes)) → Each vs
      → Each (edited_in oid change vs)
  edited_each oid change vs changed each = mapped (bytes_changed oid change) vs (λ v m. by_oid v (has_oid oid v) (changed v m) (each v m))
    where
      by_oid : (v : Version) (b : Bool) → (b ≡ true → P v.oid (change v.bytes)) → P v.oid v.bytes
          → P (cond b (record v { bytes = change v.bytes }) v).oid (cond b (record v { bytes = change v.bytes }) v).bytes
      by_oid v true new old = new refl
      by_oid v false new old = old

  copies_each : (oid copy : Oid) (f : Version → Version) (vs : List Version) → ((v : Version) → (f v).oid ≡ copy) → ((v : Version) → (f v).bytes ≡ v.bytes)
      → ((v : Version) → Has vs v → has_oid oid v ≡ true → P copy v.bytes) → Each (map f (filter (has_oid oid) vs))
  copies_each oid copy f vs same bytes new =
      mapped f (filter (has_oid oid) vs)
      (λ v m. let r = has_filter_from (has_oid oid) vs v m in subst (λ o. P o (f v).bytes) (sym (same v)) (subst (P copy) (sym (bytes v)) (new v r.0 r.1)))

  pub frozen_each : (oid copy : Oid) (vs : List Version) → ((v : Version) → Has vs v → has_oid oid v ≡ true → P copy v.bytes) → Each vs → Each (frozen_in oid copy vs)
  frozen_each oid copy vs new each =
      joined (map (moved_onto oid copy.unique) vs) (map (frozen_copy copy) (filter (has_oid oid) vs))
      (mapped (moved_onto oid copy.unique) vs (λ v m. by_oid v (has_oid oid v) (each v m)))
      (copies_each oid copy (frozen_copy copy) vs (λ v. refl) (λ v. refl) new)
    where
      by_oid : (v : Version) (b : Bool) → P v.oid v.bytes
          → P (cond b (record v { older = Some copy.unique }) v).oid (cond b (record v { older = Some copy.unique }) v).bytes
      by_oid v true old = old
      by_oid v false old = old

  pub derived_each : (oid copy : Oid) (vs : List Version) → ((v : Version) → Has vs v → has_oid oid v ≡ true → P copy v.bytes) → Each vs → Each (derived_in oid copy vs)
  derived_each oid copy vs new each =
      joined vs (map (derived_copy copy) (filter (has_oid oid) vs)) each (copies_each oid copy (derived_copy copy) vs (λ v. refl) (λ v. refl) new)

  pub without_each : (oid : Oid) (vs : List Version) → Each vs → Each (without_in oid vs)
  without_each oid vs each = left (find (has_oid oid) vs)
    where
      by_older : (g v : Version) (b : Bool) → P v.oid v.bytes → P (cond b (record v { older = g.older }) v).oid (cond b (record v { older = g.older }) v).bytes
      by_older g v true old = old
      by_older g v false old = old

      left : (o : Option Version) → Each (left_by o vs)
      left None = each
      left (Some g) = mapped (older_instead g) (filter (λ v. not (has_oid g.oid v)) vs)
          (λ v m. by_older g v (is_derived_from (unique_of g) v) (each v (has_filter_from (λ w. not (has_oid g.oid w)) vs v m).0))
