-- An edit that isn't refused leaves no version longer than a version may be.
use Rattle.std.proofs.Common.{◌≡◌, ℕ, ◌+◌, ◌≤◌, List, [], ◌++◌, length, take, drop, refl, sym, subst, arith, Option, Some, None, Bool, true, false, cond, inl, inr}
use Rattle.std.specs.Prelude.{is_none}
use Rattle.std.proofs.lemmas.Bool.{cases_Bool}
use Rattle.std.proofs.lemmas.List.{length-append, length-take, length-drop}
use Rattle.ex_base.specs.declared.geometry.Geometry.{Geometry}
use Rattle.ex_base.specs.declared.names.Oid.{Oid}
use Rattle.ex_base.specs.Sizes.{object_most}
use Rattle.ex_base.specs.Edits.{inserted, deleted, replaced}
use Rattle.version_lists.specs.declared.version.Version.{Version}
use Rattle.version_lists.specs.Versions.{has_oid, unique_of}
use Rattle.version_lists.specs.Changes.{bytes_changed}
use Rattle.version_lists.proofs.Lists.{all_has, has_all}
use Rattle.version_lists.proofs.Links.{number_from_oid}
use Rattle.table_model.specs.declared.machine.Machine.{Machine}
use Rattle.table_model.specs.Requests.{Reference}
use Rattle.table_model.specs.Machines.{shown, version_of, the_oid, bytes_of, bytes_if}
use Rattle.table_model.specs.Tables.{IsTable, versions_of, with_bytes}
use Rattle.table_model.proofs.Found.{finds, only}
use Rattle.table_model.proofs.Updates.{bytes_keep}

pub bytes_fit : (g : Geometry) (m : Machine) (x : Reference) → IsTable g (shown m) → length (bytes_of m x) ≤ object_most
bytes_fit g m x is = elim (cases_Bool (is_none (version_of m x))) [
  | inl none ↦ subst (λ (bytes : List ℕ). length bytes ≤ object_most) (sym (no_bytes (version_of m x) none)) (omega arith)
  | inr live ↦
      let found = finds m x live in
      subst (λ (o : Option Version). length (bytes_if o) ≤ object_most) (sym found.is)
      (all_has (λ (v : Version). length v.bytes ≤ object_most) (versions_of (shown m)) is.sizes found.version found.there)
]
  where
    no_bytes : (o : Option Version) → is_none o ≡ true → bytes_if o ≡ []
    no_bytes None e = refl
    no_bytes (Some v) e = cc

-- the version that is named, with other bytes that fit
pub edit_keeps : (g : Geometry) (m : Machine) (x : Reference) (change : List ℕ → List ℕ) → IsTable g (shown m) → is_none (version_of m x) ≡ false
    → length (change (bytes_of m x)) ≤ object_most → IsTable g (with_bytes (the_oid m x) change (shown m))
edit_keeps g m x change is live fits =
    let found = finds m x live in
    let size : length (change found.version.bytes) ≤ object_most = subst (λ (o : Option Version). length (change (bytes_if o)) ≤ object_most) found.is fits in
    let kept : IsTable g (with_bytes found.version.oid change (shown m)) = bytes_keep found.version.oid change g (shown m) is
    (has_all (λ (v : Version). length (bytes_changed found.version.oid change v).bytes ≤ object_most) (versions_of (shown m))
    (λ w h. either found.version size w (λ e. only g (shown m) is w found.version h found.there e)
    (all_has (λ (v : Version). length v.bytes ≤ object_most) (versions_of (shown m)) is.sizes w h))) in
    subst (λ (o : Oid). IsTable g (with_bytes o change (shown m))) (sym found.oid_is) kept
  where
    either : (v : Version) → length (change v.bytes) ≤ object_most → (w : Version) → (unique_of w ≡ unique_of v → w ≡ v) → length w.bytes ≤ object_most → length (bytes_changed v.oid change w).bytes ≤ object_most
    either v size w alone old = elim (cases_Bool (has_oid v.oid w)) [
      | inl has ↦
          let same : w ≡ v = alone (number_from_oid v.oid w has) in
          let new : length (change w.bytes) ≤ object_most = subst (λ (u : Version). length (change u.bytes) ≤ object_most) (sym same) size in
          subst (λ (b : Bool). length (cond b (record w { bytes = change w.bytes }) w).bytes ≤ object_most) (sym has) new
      | inr hasnt ↦ subst (λ (b : Bool). length (cond b (record w { bytes = change w.bytes }) w).bytes ≤ object_most) (sym hasnt) old
    ]

-- ---- the lengths that edits leave

pub length-inserted : (bytes : List ℕ) (p : ℕ) (more : List ℕ) → length (inserted bytes p more) ≡ length bytes + length more
length-inserted bytes p more = omega (arith, length-append (take p bytes ++ more) (drop p bytes), length-append (take p bytes) more, length-take p bytes, length-drop p bytes)

pub length-replaced : (bytes : List ℕ) (p : ℕ) (others : List ℕ) → p + length others ≤ length bytes → length (replaced bytes p others) ≡ length bytes
length-replaced bytes p others h = omega (arith, length-append (take p bytes ++ others) (drop (p + length others) bytes), length-append (take p bytes) others, length-take p bytes, length-drop (p + length others) bytes)

pub length-deleted : (bytes : List ℕ) (p n : ℕ) → length (deleted bytes p n) ≤ length bytes
length-deleted bytes p n = omega (arith, length-append (take p bytes) (drop (p + n) bytes), length-take p bytes, length-drop (p + n) bytes)
