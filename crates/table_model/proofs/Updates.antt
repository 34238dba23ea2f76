-- Each update of the versions of a table keeps the rules of tables.
use Rattle.std.proofs.Common.{◌≡◌, ◌⊎◌, inl, inr, ℕ, ◌+◌, ◌^◌, ◌<◌, ◌≤◌, List, [], ◌∷◌, ◌++◌, length, map, All, AllPairs, refl, sym, ap, subst, ◌∙◌, arith, Bool, true, false, cond, append-nil}
use Rattle.std.specs.Prelude.{flat_map, filter}
use Rattle.std.specs.List.Sorted.{IsPermutation}
use Rattle.std.proofs.lemmas.Bool.{cases_Bool}
use Rattle.std.proofs.lemmas.List.Sorted.{All-permutation, IsPermutation-sym}
use Rattle.ex_base.specs.declared.geometry.Geometry.{Geometry}
use Rattle.ex_base.specs.declared.names.Oid.{Oid}
use Rattle.ex_base.specs.Sizes.{object_most}
use Rattle.version_lists.specs.declared.version.Version.{Version}
use Rattle.version_lists.specs.Objects.{objects_formed}
use Rattle.version_lists.specs.Versions.{has_oid}
use Rattle.version_lists.specs.Changes.{new_version, bytes_changed, edited_in, moved_onto, frozen_copy, frozen_in, derived_copy, derived_in, without_in, created_in, NoneFrozen, NoneCurrent, LeavesOne}
use Rattle.version_lists.proofs.Lists.{Has, all_has, has_all}
use Rattle.version_lists.proofs.Links.{Linked}
use Rattle.version_lists.proofs.Changes.{created_linked, derived_linked, edited_linked, frozen_linked}
use Rattle.version_lists.proofs.Removal.{without_linked}
use Rattle.table_model.specs.declared.table.Table.{Table}
use Rattle.table_model.specs.declared.table.TableFile.{TableFile}
use Rattle.table_model.specs.Tables.{IsTable, ComesBefore, LieApart, all_in, has_name, numbered, object_added, versions_of, with_bytes, with_derived, with_frozen, with_object, with_versions, without_version}
use Rattle.table_model.proofs.Lists.{filter_of_flat_map, flat_parted, map_of_flat_map, maps_agree, pairs_head, pairs_tail, part_joined}
use Rattle.table_model.proofs.TableRules.{AreVersions, all_of, changed_file, file_below, file_formed, file_linked, ordered_of_table, permuted_versions, table_changes, versions_ordered}
use Rattle.table_model.proofs.NewVersions.{IsNew, derived_versions, edited_versions, frozen_versions, grown_versions, part_versions, plain, plain_versions, versions_plain, without_part}
use Rattle.table_model.proofs.Files.{other_name}

-- ---- an edit

pub bytes_keep : (oid : Oid) (change : List ℕ → List ℕ) (g : Geometry) (t : Table) → IsTable g t
    → All (λ (v : Version). length (bytes_changed oid change v).bytes ≤ object_most) (versions_of t) → IsTable g (with_bytes oid change t)
bytes_keep oid change g t is sizes =
    table_changes t (λ f. edited_in oid change) t.next_unique (λ f m. edited_linked oid change (all_in f) (file_linked g t is f m)) g is is.some is.next
    (subst (AreVersions t.next_unique) (map_of_flat_map (bytes_changed oid change) all_in t.files)
    (edited_versions oid change t.next_unique (all_of t) (ordered_of_table g t is)
    (All-permutation (λ (v : Version). length (bytes_changed oid change v).bytes ≤ object_most) (versions_of t) (all_of t) (versions_ordered t) sizes)))

-- ---- a removal

pub without_keeps : (oid : Oid) (g : Geometry) (t : Table) → IsTable g t → ((f : TableFile) → Has t.files f → LeavesOne oid (all_in f)) → IsTable g (without_version oid t)
without_keeps oid g t is leaves =
    table_changes t (λ f. without_in oid) t.next_unique (λ f m. without_linked oid (all_in f) (file_linked g t is f m) (leaves f m)) g is is.some is.next
    (versions_plain t.next_unique (flat_map (λ f. without_in oid (all_in f)) t.files)
    (subst (AreVersions t.next_unique) (sym (map_of_flat_map plain (λ f. without_in oid (all_in f)) t.files))
    (part_versions t.next_unique (flat_map (λ f. map plain (without_in oid (all_in f))) t.files) (flat_map (λ f. map plain (all_in f)) t.files)
    (part_joined (λ f. map plain (without_in oid (all_in f))) (λ f. map plain (all_in f)) t.files (λ f. without_part oid (all_in f)))
    (subst (AreVersions t.next_unique) (map_of_flat_map plain all_in t.files) (plain_versions t.next_unique (all_of t) (ordered_of_table g t is))))))

-- ---- copies

module _ (oid copy : Oid) where
  copies_joined : (made : Version → Version) (fs : List TableFile)
      → flat_map (λ f. map made (filter (has_oid oid) (all_in f))) fs ≡ map made (filter (has_oid oid) (flat_map all_in fs))
  copies_joined made fs =
      sym (ap (map made) (filter_of_flat_map (has_oid oid) all_in fs) ∙ map_of_flat_map made (λ f. filter (has_oid oid) (all_in f)) fs)

  -- what becomes of the versions of each file becomes of all of them
  derived_joined : (fs : List TableFile) → IsPermutation (flat_map (λ f. derived_in oid copy (all_in f)) fs) (derived_in oid copy (flat_map all_in fs))
  derived_joined fs =
      subst (λ l. IsPermutation (flat_map (λ f. derived_in oid copy (all_in f)) fs) (flat_map all_in fs ++ l)) (copies_joined (derived_copy copy) fs)
      (flat_parted all_in (λ f. map (derived_copy copy) (filter (has_oid oid) (all_in f))) fs)

  frozen_joined : (fs : List TableFile) → IsPermutation (flat_map (λ f. frozen_in oid copy (all_in f)) fs) (frozen_in oid copy (flat_map all_in fs))
  frozen_joined fs =
      subst (λ l. IsPermutation (flat_map (λ f. frozen_in oid copy (all_in f)) fs) (l ++ map (frozen_copy copy) (filter (has_oid oid) (flat_map all_in fs))))
      (sym (map_of_flat_map (moved_onto oid copy.unique) all_in fs))
      (subst (λ l. IsPermutation (flat_map (λ f. frozen_in oid copy (all_in f)) fs) (flat_map (λ f. map (moved_onto oid copy.unique) (all_in f)) fs ++ l))
      (copies_joined (frozen_copy copy) fs)
      (flat_parted (λ f. map (moved_onto oid copy.unique) (all_in f)) (λ f. map (frozen_copy copy) (filter (has_oid oid) (all_in f))) fs))

  module _ (g : Geometry) (t : Table) (is : IsTable g t) (room : t.next_unique + 1 < 2 ^ 64) (number : copy.unique ≡ t.next_unique)
      (vacant : All (λ (v : Version). LieApart v (new_version copy)) (versions_of t)) where
    all_vacant : All (λ (v : Version). LieApart v (new_version copy)) (all_of t)
    all_vacant = All-permutation (λ (v : Version). LieApart v (new_version copy)) (versions_of t) (all_of t) (versions_ordered t) vacant

    below : (f : TableFile) → Has t.files f → (v : Version) → Has (all_in f) v → v.oid.unique < copy.unique
    below f m v h = let low = file_below g t is f m v h in omega (arith, low, number)

    pub freeze_keeps : ((f : TableFile) → Has t.files f → NoneFrozen oid (all_in f)) → IsTable g (numbered (with_frozen oid copy t))
    freeze_keeps none =
        table_changes t (λ f. frozen_in oid copy) (t.next_unique + 1) (λ f m. frozen_linked oid copy (all_in f) (file_linked g t is f m) (none f m) (below f m)) g is (omega arith) room
        (permuted_versions (t.next_unique + 1) (frozen_in oid copy (all_of t)) (flat_map (λ f. frozen_in oid copy (all_in f)) t.files)
        (IsPermutation-sym (flat_map (λ f. frozen_in oid copy (all_in f)) t.files) (frozen_in oid copy (all_of t)) (frozen_joined t.files))
        (frozen_versions t.next_unique oid copy (all_of t) (ordered_of_table g t is) number is.some all_vacant))

    pub derive_keeps : ((f : TableFile) → Has t.files f → NoneCurrent oid (all_in f)) → IsTable g (numbered (with_derived oid copy t))
    derive_keeps none =
        table_changes t (λ f. derived_in oid copy) (t.next_unique + 1) (λ f m. derived_linked oid copy (all_in f) (file_linked g t is f m) (none f m) (below f m)) g is (omega arith) room
        (permuted_versions (t.next_unique + 1) (derived_in oid copy (all_of t)) (flat_map (λ f. derived_in oid copy (all_in f)) t.files)
        (IsPermutation-sym (flat_map (λ f. derived_in oid copy (all_in f)) t.files) (derived_in oid copy (all_of t)) (derived_joined t.files))
        (derived_versions t.next_unique oid copy (all_of t) (ordered_of_table g t is) number is.some all_vacant))

-- ---- a new object

module _ (oid : Oid) (name : List ℕ) where
  -- what comes to a file
  abbrev pub new_in : TableFile → List Version
  new_in f = cond (has_name name f) (new_version oid ∷ []) []

  abbrev pub with_new : TableFile → List Version → List Version
  with_new f vs = vs ++ new_in f

  -- one file gets it, or none
  one_file : (fs : List TableFile) → AllPairs ComesBefore fs → (flat_map new_in fs ≡ []) ⊎ (flat_map new_in fs ≡ new_version oid ∷ [])
  one_file [] sorted = inl refl
  one_file (f ∷ fs) sorted = elim (cases_Bool (has_name name f)) [
    | inl has ↦
        inr (ap (λ (b : Bool). cond b (new_version oid ∷ []) [] ++ flat_map new_in fs) has
        ∙ ap (λ l. new_version oid ∷ l) (no_file fs (λ h m. other_name name f h (all_before h m) has)))
    | inr hasnt ↦
        let rest = one_file fs (pairs_tail ComesBefore f fs sorted) in
        let same : new_in f ++ flat_map new_in fs ≡ flat_map new_in fs = ap (λ (b : Bool). cond b (new_version oid ∷ []) [] ++ flat_map new_in fs) hasnt in
        elim rest [ inl none ↦ inl (same ∙ none) | inr one ↦ inr (same ∙ one) ]
  ]
    where
      all_before : (h : TableFile) → Has fs h → ComesBefore f h
      all_before = all_has (ComesBefore f) fs (pairs_head ComesBefore f fs sorted)

      no_file : (hs : List TableFile) → ((h : TableFile) → Has hs h → has_name name h ≡ false) → flat_map new_in hs ≡ []
      no_file [] none = refl
      no_file (h ∷ hs) none =
          ap (λ (b : Bool). cond b (new_version oid ∷ []) [] ++ flat_map new_in hs) (none h (inl refl)) ∙ no_file hs (λ k m. none k (inr m))

  module _ (g : Geometry) (t : Table) (is : IsTable g t) where
    added_file : (f : TableFile) → Has t.files f → changed_file with_new f ≡ object_added oid name f
    added_file f m = either (has_name name f)
      where
        either : (b : Bool) → with_versions (λ vs. vs ++ cond b (new_version oid ∷ []) []) f ≡ cond b (with_versions (created_in oid) f) f
        either true = refl
        either false = ap (λ os. record f { objects = os }) (ap objects_formed (append-nil (all_in f)) ∙ file_formed g t is f m)

    pub added_files : map (changed_file with_new) t.files ≡ map (object_added oid name) t.files
    added_files =
        maps_agree (changed_file with_new) (object_added oid name) t.files
        (has_all (λ (f : TableFile). changed_file with_new f ≡ object_added oid name f) t.files added_file)

    pub new_linked : oid.unique ≡ t.next_unique → (f : TableFile) → Has t.files f → Linked (with_new f (all_in f))
    new_linked number f m = either (has_name name f)
      where
        either : (b : Bool) → Linked (all_in f ++ cond b (new_version oid ∷ []) [])
        either true = created_linked oid (all_in f) (file_linked g t is f m) (λ v h. let low = file_below g t is f m v h in omega (arith, low, number))
        either false = subst Linked (sym (append-nil (all_in f))) (file_linked g t is f m)

    pub create_keeps : t.next_unique + 1 < 2 ^ 64 → oid.unique ≡ t.next_unique → All (λ (v : Version). LieApart v (new_version oid)) (versions_of t)
        → IsTable g (numbered (with_object oid name t))
    create_keeps room number vacant =
        subst (λ fs. IsTable g (record t { next_unique = t.next_unique + 1; files = fs })) added_files
        (table_changes t with_new (t.next_unique + 1) (new_linked number) g is (omega arith) room
        (permuted_versions (t.next_unique + 1) (all_of t ++ flat_map new_in t.files) (flat_map (λ f. with_new f (all_in f)) t.files)
        (IsPermutation-sym (flat_map (λ f. with_new f (all_in f)) t.files) (all_of t ++ flat_map new_in t.files) (flat_parted all_in new_in t.files))
        (grown_versions t.next_unique (all_of t) (flat_map new_in t.files) (ordered_of_table g t is) at_most_one)))
      where
        at_most_one : (flat_map new_in t.files ≡ []) ⊎ ((v : Version) × (flat_map new_in t.files ≡ v ∷ []) × IsNew t.next_unique v (all_of t))
        at_most_one = elim (one_file t.files is.sorted) [
          | inl none ↦ inl none
          | inr one ↦ inr (
            new_version oid,
            one,
            record {
              number = number;
              some = is.some;
              apart = All-permutation (λ (v : Version). LieApart v (new_version oid)) (versions_of t) (all_of t) (versions_ordered t) vacant;
              size = omega arith;
            },
          )
        ]
