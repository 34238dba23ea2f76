-- A table with a version more keeps the rules, so no other version lies where the new one does.
use Rattle.std.proofs.Common.{◌≡◌, ◌∙◌, ◌<◌, ◌+◌, ℕ, arith, Bool, true, false, cond, List, [], ◌∷◌, map, All, AllPairs, Option, Some, None, refl, sym, ap, subst, inl, inr}
use Rattle.std.specs.Prelude.{filter, find, flat_map, is_none}
use Rattle.std.proofs.lemmas.List.Sorted.{Contains-permutation}
use Rattle.ex_base.specs.declared.geometry.Geometry.{Geometry}
use Rattle.ex_base.specs.declared.names.Oid.{Oid}
use Rattle.version_lists.specs.declared.version.Version.{Version}
use Rattle.version_lists.specs.Changes.{NoneCurrent, NoneFrozen, derived_copy, derived_in, frozen_copy, frozen_in, moved_onto, new_version}
use Rattle.version_lists.specs.Versions.{has_oid}
use Rattle.version_lists.proofs.Changes.{derived_linked, frozen_linked}
use Rattle.version_lists.proofs.Links.{Linked}
use Rattle.version_lists.proofs.Lists.{Has, all_has, contains_has, find_has, has_all, has_back, has_contains, has_filter, has_flat, has_front, has_map, pairs_head, pairs_tail}
use Rattle.table_model.specs.declared.table.Table.{Table}
use Rattle.table_model.specs.declared.table.TableFile.{TableFile}
use Rattle.table_model.specs.Tables.{IsTable, LieApart, SamePlace, all_in, has_name, numbered, version_at, versions_in, versions_of, with_derived, with_frozen, with_object}
use Rattle.table_model.proofs.Found.{none_current, none_frozen}
use Rattle.table_model.proofs.TableRules.{changed, changed_permutation, file_below, file_linked, in_file}
use Rattle.table_model.proofs.Updates.{added_files, new_in, new_linked, with_new}

-- two of a list in which any two are so
two_of : {A : Type 0} (R : A → A → Type 0) → ((x y : A) → R x y → R y x) → (xs : List A) → AllPairs R xs → (x y : A) → Has xs x → Has xs y → (x ≡ y → ⊥) → R x y
two_of R turn [] pairs x y h k differ = absurd h
two_of R turn (z ∷ zs) pairs x y (inl h) (inl k) differ = absurd (differ (sym h ∙ k))
two_of R turn (z ∷ zs) pairs x y (inl h) (inr k) differ = subst (λ w. R w y) h (all_has (R z) zs (pairs_head R z zs pairs) y k)
two_of R turn (z ∷ zs) pairs x y (inr h) (inl k) differ = turn y x (subst (λ w. R w x) k (all_has (R z) zs (pairs_head R z zs pairs) x h))
two_of R turn (z ∷ zs) pairs x y (inr h) (inr k) differ = two_of R turn zs (pairs_tail R z zs pairs) x y h k differ

abbrev IsVacantIn : Table → Oid → Type 0
IsVacantIn t oid = All (λ (v : Version). SamePlace v (new_version oid) → ⊥) (versions_of t)

-- a version with another's identifier
abbrev AsIn : List Version → Oid → Type 0
AsIn vs oid = (w : Version) × Has vs w × (w.oid ≡ oid)

module _ (g : Geometry) (t : Table) (is : IsTable g t) (oid : Oid) (number : oid.unique ≡ t.next_unique) where
  module _ (change : TableFile → List Version → List Version) (next : ℕ) (linked : (f : TableFile) → Has t.files f → Linked (change f (all_in f)))
      (keeps : (f : TableFile) → Has t.files f → (v : Version) → Has (all_in f) v → AsIn (change f (all_in f)) v.oid)
      (here : TableFile) (there : Has t.files here) (new : AsIn (change here (all_in here)) oid) (apart : AllPairs LieApart (versions_of (changed change next t))) where
    abbrev later : List Version
    later = versions_of (changed change next t)

    into : (f : TableFile) → Has t.files f → (w : Version) → Has (change f (all_in f)) w → Has later w
    into f m w h =
        let all = flat_map (λ (f : TableFile). change f (all_in f)) t.files in
        contains_has later w (Contains-permutation all later w (changed_permutation t change next linked) (has_contains all w (has_flat (λ (f : TableFile). change f (all_in f)) t.files f w m h)))

    vacant_in : IsVacantIn t oid
    vacant_in = has_all (λ (v : Version). SamePlace v (new_version oid) → ⊥) (versions_of t) (λ v h same.
        let at = in_file t v h in
        let kept = keeps at.0 at.1 v at.2 in
        let below = file_below g t is at.0 at.1 v at.2 in
        two_of LieApart (λ x y apart same. apart (sym same.0, sym same.1)) later apart kept.0 new.0 (into at.0 at.1 kept.0 kept.1) (into here there new.0 new.1)
        (λ both.
        let one : v.oid.unique ≡ oid.unique = ap (λ (o : Oid). o.unique) (sym kept.2) ∙ ap (λ (w : Version). w.oid.unique) both ∙ ap (λ (o : Oid). o.unique) new.2 in
        absurd (omega (arith, below, one, number)))
        (ap (λ (o : Oid). o.page.0) kept.2 ∙ same.0 ∙ sym (ap (λ (o : Oid). o.page.0) new.2), ap (λ (o : Oid). o.slot) kept.2 ∙ same.1 ∙ sym (ap (λ (o : Oid). o.slot) new.2)))

  -- ---- a new object

  file_named : (name : List ℕ) → is_none (find (has_name name) t.files) ≡ false → (f : TableFile) × Has t.files f × (has_name name f ≡ true)
  file_named name some = by (find (has_name name) t.files) refl some
    where
      by : (o : Option TableFile) → find (has_name name) t.files ≡ o → is_none o ≡ false → (f : TableFile) × Has t.files f × (has_name name f ≡ true)
      by None is some = absurd (cc)
      by (Some f) is some = let r = find_has (has_name name) t.files f is in (f, r.0, r.1)

  pub create_vacant : (name : List ℕ) → is_none (find (has_name name) t.files) ≡ false → AllPairs LieApart (versions_of (numbered (with_object oid name t))) → IsVacantIn t oid
  create_vacant name some apart =
      let file = file_named name some in
      vacant_in (with_new oid name) (t.next_unique + 1) (new_linked oid name g t is number)
      (λ f m v h. (v, has_front (all_in f) (new_in oid name f) v h, refl))
      file.0 file.1
      (new_version oid, has_back (all_in file.0) (new_in oid name file.0) (new_version oid) (subst (λ (b : Bool). Has (cond b (new_version oid ∷ []) []) (new_version oid)) (sym file.2) (inl refl)), refl)
      (subst (λ (fs : List TableFile). AllPairs LieApart (flat_map versions_in fs)) (sym (added_files oid name g t is)) apart)

  -- ---- a copy

  module _ (x : Oid) (version : Version) (found : version_at t x ≡ Some version) (named : version.oid ≡ x) where
    abbrev is_there : Has (versions_of t) version × (has_oid x version ≡ true)
    is_there = find_has (has_oid x) (versions_of t) version found

    below_copy : (f : TableFile) → Has t.files f → (v : Version) → Has (all_in f) v → v.oid.unique < oid.unique
    below_copy f m v h = let low = file_below g t is f m v h in omega (arith, low, number)

    -- the copies of the version among those of its file
    copied : (made : Version → Version) (vs : List Version) → Has vs version → Has (map made (filter (has_oid x) vs)) (made version)
    copied made vs h = has_map made (filter (has_oid x) vs) version (has_filter (has_oid x) vs version h is_there.1)

    moved_oid : (v : Version) → (moved_onto x oid.unique v).oid ≡ v.oid
    moved_oid v = elim (has_oid x v) as (λ b. (cond b (record v { older = Some oid.unique }) v).oid ≡ v.oid) [ true ↦ refl | false ↦ refl ]

    pub freeze_vacant : version.frozen ≡ false → AllPairs LieApart (versions_of (numbered (with_frozen x oid t))) → IsVacantIn t oid
    freeze_vacant current apart =
        let at = in_file t version is_there.0 in
        vacant_in (λ f. frozen_in x oid) (t.next_unique + 1)
        (λ f m. frozen_linked x oid (all_in f) (file_linked g t is f m) (subst (λ (o : Oid). NoneFrozen o (all_in f)) named (none_frozen g t is version is_there.0 current f m)) (below_copy f m))
        (λ f m v h. (moved_onto x oid.unique v, has_front (map (moved_onto x oid.unique) (all_in f)) (map (frozen_copy oid) (filter (has_oid x) (all_in f))) (moved_onto x oid.unique v) (has_map (moved_onto x oid.unique) (all_in f) v h), moved_oid v))
        at.0 at.1
        (frozen_copy oid version, has_back (map (moved_onto x oid.unique) (all_in at.0)) (map (frozen_copy oid) (filter (has_oid x) (all_in at.0))) (frozen_copy oid version) (copied (frozen_copy oid) (all_in at.0) at.2), refl)
        apart

    pub derive_vacant : version.frozen ≡ true → AllPairs LieApart (versions_of (numbered (with_derived x oid t))) → IsVacantIn t oid
    derive_vacant frozen apart =
        let at = in_file t version is_there.0 in
        vacant_in (λ f. derived_in x oid) (t.next_unique + 1)
        (λ f m. derived_linked x oid (all_in f) (file_linked g t is f m) (subst (λ (o : Oid). NoneCurrent o (all_in f)) named (none_current g t is version is_there.0 frozen f m)) (below_copy f m))
        (λ f m v h. (v, has_front (all_in f) (map (derived_copy oid) (filter (has_oid x) (all_in f))) v h, refl))
        at.0 at.1
        (derived_copy oid version, has_back (all_in at.0) (map (derived_copy oid) (filter (has_oid x) (all_in at.0))) (derived_copy oid version) (copied (derived_copy oid) (all_in at.0) at.2), refl)
        apart
