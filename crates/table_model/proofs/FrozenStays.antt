-- A frozen version stays as it is, whatever a step does to the others.
use Rattle.std.proofs.Common.{◌≡◌, ◌⊎◌, inl, inr, ℕ, ◌+◌, ◌<◌, List, [], ◌∷◌, ◌++◌, map, refl, sym, ap, subst, ◌∙◌, Option, Some, None, Bool, true, false, cond, option_map, append-nil, arith, true≢false}
use Rattle.std.specs.Prelude.{find, flat_map, is_none, is_some, unwrap_or}
use Rattle.std.specs.Option.{option_or}
use Rattle.std.proofs.lemmas.Bool.{cases_Bool, false≢true}
use Rattle.std.proofs.lemmas.Option.{none-some, some_pair_parts}
use Rattle.std.proofs.lemmas.List.Sorted.{Contains-permutation}
use Rattle.ex_base.specs.Edits.{inserted, deleted, replaced, appended}
use Rattle.ex_base.specs.declared.geometry.Geometry.{Geometry}
use Rattle.ex_base.specs.declared.names.Oid.{Oid}
use Rattle.version_lists.specs.declared.version.Version.{Version}
use Rattle.version_lists.specs.Versions.{has_oid, unique_of}
use Rattle.version_lists.specs.Changes.{content_at, content_of, derived_in, edited_in, frozen_in, without_in, new_version, LeavesOne, NoneCurrent, NoneFrozen}
use Rattle.version_lists.proofs.Lists.{Has, contains_has, has_contains, has_flat, find_has, find_none}
use Rattle.version_lists.proofs.Links.{Linked, number_from_oid}
use Rattle.version_lists.proofs.Removal.{has_own_oid, without_linked}
use Rattle.version_lists.proofs.Changes.{derived_linked, edited_linked, frozen_linked}
use Rattle.version_lists.proofs.Contents.{oid_is, created_others, edited_others, frozen_others, derived_others, without_others, still_frozen, newer_differs, current_differs}
use Rattle.table_model.specs.declared.machine.Machine.{Machine}
use Rattle.table_model.specs.declared.machine.Pick.{Pick}
use Rattle.table_model.specs.declared.reply.Reply.{Reply}
use Rattle.table_model.specs.declared.reply.Refusal.{Refusal}
use Rattle.table_model.specs.declared.reply.Refusal.TheVariants as refusal
use Rattle.table_model.specs.declared.table.Table.{Table}
use Rattle.table_model.specs.declared.table.TableFile.{TableFile}
use Rattle.table_model.specs.Requests.{Data, Request, Reference, given_bytes}
use Rattle.table_model.specs.Requests as request
use Rattle.table_model.specs.Machines.{IsMachine, shown, the_oid, version_of}
use Rattle.table_model.specs.Tables.{IsTable, all_in, has_name, numbered, object_added, versions_of, with_bytes, with_derived, with_file, with_frozen, with_object, without_file, without_version}
use Rattle.table_model.specs.Refusals.{current_if, frozen_if, is_only_one, refusal_of, when}
use Rattle.table_model.specs.Steps.{Step, IsAllowed, IfAccepted, new_oid, next_of, machine_after, table_after, table_committed}
use Rattle.table_model.specs.Laws.{HasFrozen, KeepsFrozen, Spares, FrozenVersionStays, FrozenVersionIsCommitted, FrozenVersionIsBack}
use Rattle.table_model.proofs.TableRules.{changed, changed_file, changed_permutation, file_below, file_linked, in_file}
use Rattle.table_model.proofs.Updates.{added_files, new_linked, with_new}
use Rattle.table_model.proofs.Files.{file_versions, unfile_versions}
use Rattle.table_model.proofs.Stepping.{passes_update, passes_other, unmet}
use Rattle.table_model.proofs.Found.{finds, frozen_leaves, none_current, none_frozen, not_current, not_frozen, only, other_leaves}
use Rattle.table_model.proofs.Keeping.{shown_is}
use Rattle.table_model.proofs.StepsKeep.{accepted_keeps, none_found}

-- ---- a frozen version of a table

-- a version among others, that is frozen and has an identifier and bytes
record Frozen (vs : List Version) (oid : Oid) (bytes : List ℕ) : Type 0 where
  version : Version
  there : Has vs version
  own : version.oid ≡ oid
  frozen : version.frozen ≡ true
  bytes_are : version.bytes ≡ bytes

frozen_in_table : (t : Table) (oid : Oid) (bytes : List ℕ) → HasFrozen t oid bytes → Frozen (versions_of t) oid bytes
frozen_in_table t oid bytes has =
    let r = find_has (has_oid oid) (versions_of t) has.version has.is in
    record { version = has.version; there = r.0; own = oid_is has.version.oid oid r.1; frozen = has.frozen; bytes_are = has.bytes_are }

-- it is the one that the table has under its identifier
shown_in_table : (g : Geometry) (t : Table) → IsTable g t → (oid : Oid) (bytes : List ℕ) → Frozen (versions_of t) oid bytes → HasFrozen t oid bytes
shown_in_table g t is oid bytes f = record { version = f.version; is = found (find (has_oid oid) (versions_of t)) refl; frozen = f.frozen; bytes_are = f.bytes_are }
  where
    found : (o : Option Version) → find (has_oid oid) (versions_of t) ≡ o → find (has_oid oid) (versions_of t) ≡ Some f.version
    found None none = absurd (false≢true (sym (find_none (has_oid oid) (versions_of t) none f.version f.there) ∙ ap (λ o. has_oid o f.version) (sym f.own) ∙ has_own_oid f.version))
    found (Some w) some =
        let r = find_has (has_oid oid) (versions_of t) w some in
        some ∙ ap Some (only g t is w f.version r.0 f.there (number_from_oid oid w r.1 ∙ sym (ap (λ (o : Oid). o.unique) f.own)))

-- a list that shows it has it
content_has : (vs : List Version) (oid : Oid) (bytes : List ℕ) → content_at oid vs ≡ Some (true, bytes) → Frozen vs oid bytes
content_has vs oid bytes shows = found (find (has_oid oid) vs) refl shows
  where
    found : (o : Option Version) → find (has_oid oid) vs ≡ o → option_map content_of o ≡ Some (true, bytes) → Frozen vs oid bytes
    found None none e = absurd (none-some (true, bytes) e)
    found (Some v) some e =
        let r = find_has (has_oid oid) vs v some in
        let parts = some_pair_parts v.frozen true v.bytes bytes e in
        record { version = v; there = r.0; own = oid_is v.oid oid r.1; frozen = parts.0; bytes_are = parts.1 }

same_versions : (oid : Oid) (before after : Table) → versions_of after ≡ versions_of before → KeepsFrozen oid before after
same_versions oid before after same bytes has =
    record { version = has.version; is = ap (find (has_oid oid)) same ∙ has.is; frozen = has.frozen; bytes_are = has.bytes_are }

committed_keeps : (oid : Oid) (m : Machine) → KeepsFrozen oid (shown m) (table_committed m)
committed_keeps oid m = same_versions oid (shown m) (table_committed m) refl

-- ---- the versions of each file change

module _ (g : Geometry) (t : Table) (is : IsTable g t) (oid : Oid) where
  -- the file that has it shows it afterwards
  abbrev Stays : (TableFile → List Version → List Version) → Type 0
  Stays change = (f : TableFile) → Has t.files f → (v : Version) → Has (all_in f) v → v.oid ≡ oid → v.frozen ≡ true → content_at v.oid (change f (all_in f)) ≡ content_at v.oid (all_in f)

  changes_keep : (change : TableFile → List Version → List Version) (next : ℕ) → ((f : TableFile) → Has t.files f → Linked (change f (all_in f)))
      → IsTable g (changed change next t) → Stays change → KeepsFrozen oid t (changed change next t)
  changes_keep change next linked after stays bytes has =
      let was = frozen_in_table t oid bytes has in
      let f = in_file t was.version was.there in
      let shows = still_frozen (all_in f.0) (change f.0 (all_in f.0)) was.version (file_linked g t is f.0 f.1).0 f.2 was.frozen (stays f.0 f.1 was.version f.2 was.own was.frozen) in
      let now = content_has (change f.0 (all_in f.0)) was.version.oid was.version.bytes shows in
      let all = has_flat (λ h. change h (all_in h)) t.files f.0 now.version f.1 now.there in
      let moved = Contains-permutation (flat_map (λ h. change h (all_in h)) t.files) (versions_of (changed change next t)) now.version (changed_permutation t change next linked) (has_contains (flat_map (λ h. change h (all_in h)) t.files) now.version all) in
      shown_in_table g (changed change next t) after oid bytes (record {
        version = now.version;
        there = contains_has (versions_of (changed change next t)) now.version moved;
        own = now.own ∙ was.own;
        frozen = now.frozen;
        bytes_are = now.bytes_are ∙ was.bytes_are;
      })

  -- an edit names another one
  edit_keeps_frozen : (named : Oid) (change : List ℕ → List ℕ) → ((f : TableFile) → Has t.files f → NoneFrozen named (all_in f))
      → IsTable g (with_bytes named change t) → KeepsFrozen oid t (with_bytes named change t)
  edit_keeps_frozen named change none after =
      changes_keep (λ f. edited_in named change) t.next_unique (λ f m. edited_linked named change (all_in f) (file_linked g t is f m)) after
      (λ f m v h own frozen. edited_others named v.oid change (all_in f) (current_differs (all_in f) named v (file_linked g t is f m).0 (none f m) h frozen))

  remove_keeps_frozen : (named : Oid) → ((f : TableFile) → Has t.files f → LeavesOne named (all_in f))
      → ((f : TableFile) → Has t.files f → (v : Version) → Has (all_in f) v → v.oid ≡ oid → v.frozen ≡ true → v.oid ≡ named → ⊥)
      → IsTable g (without_version named t) → KeepsFrozen oid t (without_version named t)
  remove_keeps_frozen named leaves differs after =
      changes_keep (λ f. without_in named) t.next_unique (λ f m. without_linked named (all_in f) (file_linked g t is f m) (leaves f m)) after
      (λ f m v h own frozen. without_others named v.oid (all_in f) (differs f m v h own frozen))

  -- a version that is made has another number
  module _ (copy : Oid) (number : copy.unique ≡ t.next_unique) where
    below : (f : TableFile) → Has t.files f → (v : Version) → Has (all_in f) v → unique_of v < copy.unique
    below f m v h = let low = file_below g t is f m v h in omega (arith, low, number)

    freeze_keeps_frozen : (named : Oid) → ((f : TableFile) → Has t.files f → NoneFrozen named (all_in f))
        → IsTable g (numbered (with_frozen named copy t)) → KeepsFrozen oid t (numbered (with_frozen named copy t))
    freeze_keeps_frozen named none after =
        changes_keep (λ f. frozen_in named copy) (t.next_unique + 1) (λ f m. frozen_linked named copy (all_in f) (file_linked g t is f m) (none f m) (below f m)) after
        (λ f m v h own frozen. frozen_others named copy v.oid (all_in f) (newer_differs (all_in f) copy v (below f m) h))

    derive_keeps_frozen : (named : Oid) → ((f : TableFile) → Has t.files f → NoneCurrent named (all_in f))
        → IsTable g (numbered (with_derived named copy t)) → KeepsFrozen oid t (numbered (with_derived named copy t))
    derive_keeps_frozen named none after =
        changes_keep (λ f. derived_in named copy) (t.next_unique + 1) (λ f m. derived_linked named copy (all_in f) (file_linked g t is f m) (none f m) (below f m)) after
        (λ f m v h own frozen. derived_others named copy v.oid (all_in f) (newer_differs (all_in f) copy v (below f m) h))

    create_keeps_frozen : (name : List ℕ) → IsTable g (numbered (with_object copy name t)) → KeepsFrozen oid t (numbered (with_object copy name t))
    create_keeps_frozen name after =
        subst (λ fs. KeepsFrozen oid t (record t { next_unique = t.next_unique + 1; files = fs })) files
        (changes_keep (with_new copy name) (t.next_unique + 1) (new_linked copy name g t is number)
        (subst (λ fs. IsTable g (record t { next_unique = t.next_unique + 1; files = fs })) (sym files) after) stays)
      where
        files : map (changed_file (with_new copy name)) t.files ≡ map (object_added copy name) t.files
        files = added_files copy name g t is

        stays : Stays (with_new copy name)
        stays f m v h own frozen = either (has_name name f)
          where
            either : (b : Bool) → content_at v.oid (all_in f ++ cond b (new_version copy ∷ []) []) ≡ content_at v.oid (all_in f)
            either true = created_others copy v.oid (all_in f) (newer_differs (all_in f) copy v (below f m) h)
            either false = ap (content_at v.oid) (append-nil (all_in f))

-- ---- each command that is accepted

module _ (m : Machine) (q : Pick) (is : IsMachine m) (oid : Oid) where
  abbrev table : IsTable m.geometry (shown m)
  table = shown_is m is

  -- what is named is a current version
  named_current : (x : Reference) → is_none (version_of m x) ≡ false → frozen_if (version_of m x) ≡ false → (f : TableFile) → Has (shown m).files f → NoneFrozen (the_oid m x) (all_in f)
  named_current x live current f h =
      let found = finds m x live in
      subst (λ (o : Oid). NoneFrozen o (all_in f)) (sym found.oid_is)
      (none_frozen m.geometry (shown m) table found.version found.there (not_frozen found.version (version_of m x) found.is current) f h)

  named_frozen : (x : Reference) → is_none (version_of m x) ≡ false → current_if (version_of m x) ≡ false → (f : TableFile) → Has (shown m).files f → NoneCurrent (the_oid m x) (all_in f)
  named_frozen x live frozen f h =
      let found = finds m x live in
      subst (λ (o : Oid). NoneCurrent o (all_in f)) (sym found.oid_is)
      (none_current m.geometry (shown m) table found.version found.there (not_current found.version (version_of m x) found.is frozen) f h)

  begin_step : None ≡ refusal_of m request.Begin q → KeepsFrozen oid (shown m) m.committed
  begin_step none = idle m.working (unmet _ _ (passes_other m request.Begin q refl none).0)
    where
      idle : (o : Option Table) → is_some o ≡ false → KeepsFrozen oid (unwrap_or o m.committed) m.committed
      idle None e = λ bytes has. has
      idle (Some t) e = absurd (true≢false e)

  file_step : (name : List ℕ) → None ≡ refusal_of m (request.File name) q → KeepsFrozen oid (shown m) (with_file name (shown m))
  file_step name none =
      let own = (passes_update m (request.File name) q refl none).own in
      same_versions oid (shown m) (with_file name (shown m)) (file_versions (shown m) name table.sorted (none_found (has_name name) (shown m).files (unmet _ _ own.0)))

  unfile_step : (name : List ℕ) → None ≡ refusal_of m (request.Unfile name) q → KeepsFrozen oid (shown m) (without_file name (shown m))
  unfile_step name none =
      let own = (passes_update m (request.Unfile name) q refl none).own in
      same_versions oid (shown m) (without_file name (shown m)) (unfile_versions (shown m) name table.sorted (unmet _ _ own.1.0))

  destroy_step : (x : Reference) → None ≡ refusal_of m (request.Destroy x) q → IsTable m.geometry (without_version (the_oid m x) (shown m))
      → KeepsFrozen oid (shown m) (without_version (the_oid m x) (shown m))
  destroy_step x none after =
      let own = (passes_update m (request.Destroy x) q refl none).own in
      let found = finds m x (unmet _ _ own.1.0) in
      let others = ap (is_only_one (versions_of (shown m))) (sym found.is) ∙ unmet _ _ own.1.1.1.0 in
      remove_keeps_frozen m.geometry (shown m) table oid (the_oid m x)
      (λ f h. subst (λ (o : Oid). LeavesOne o (all_in f)) (sym found.oid_is) (other_leaves m.geometry (shown m) table found.version found.there others f h))
      (λ f h v k is_this frozen. current_differs (all_in f) (the_oid m x) v (file_linked m.geometry (shown m) table f h).0 (named_current x (unmet _ _ own.1.0) (unmet _ _ own.1.1.0) f h) k frozen) after

  drop_step : (x : Reference) → None ≡ refusal_of m (request.DropVersion x) q → (the_oid m x ≡ oid → ⊥) → IsTable m.geometry (without_version (the_oid m x) (shown m))
      → KeepsFrozen oid (shown m) (without_version (the_oid m x) (shown m))
  drop_step x none spares after =
      let own = (passes_update m (request.DropVersion x) q refl none).own in
      let found = finds m x (unmet _ _ own.1.0) in
      let frozen = not_current found.version (version_of m x) found.is (unmet _ _ own.1.1.0) in
      remove_keeps_frozen m.geometry (shown m) table oid (the_oid m x)
      (λ f h. subst (λ (o : Oid). LeavesOne o (all_in f)) (sym found.oid_is) (frozen_leaves m.geometry (shown m) table found.version found.there frozen f h))
      (λ f h v k is_this frozen same. spares (sym same ∙ is_this)) after

  edit_step : (x : Reference) (change : List ℕ → List ℕ) → is_none (version_of m x) ≡ false → frozen_if (version_of m x) ≡ false
      → IsTable m.geometry (with_bytes (the_oid m x) change (shown m)) → KeepsFrozen oid (shown m) (with_bytes (the_oid m x) change (shown m))
  edit_step x change live current after = edit_keeps_frozen m.geometry (shown m) table oid (the_oid m x) change (named_current x live current) after

  freeze_step : (x : Reference) (bind : Option (List ℕ)) → None ≡ refusal_of m (request.Freeze x bind) q → IsTable m.geometry (numbered (with_frozen (the_oid m x) (new_oid m q) (shown m)))
      → KeepsFrozen oid (shown m) (numbered (with_frozen (the_oid m x) (new_oid m q) (shown m)))
  freeze_step x bind none after =
      let own = (passes_update m (request.Freeze x bind) q refl none).own in
      freeze_keeps_frozen m.geometry (shown m) table oid (new_oid m q) refl (the_oid m x) (named_current x (unmet _ _ own.1.1.0) (unmet _ _ own.1.1.1.0)) after

  derive_step : (x : Reference) (bind : Option (List ℕ)) → None ≡ refusal_of m (request.Derive x bind) q → IsTable m.geometry (numbered (with_derived (the_oid m x) (new_oid m q) (shown m)))
      → KeepsFrozen oid (shown m) (numbered (with_derived (the_oid m x) (new_oid m q) (shown m)))
  derive_step x bind none after =
      let own = (passes_update m (request.Derive x bind) q refl none).own in
      derive_keeps_frozen m.geometry (shown m) table oid (new_oid m q) refl (the_oid m x) (named_frozen x (unmet _ _ own.1.1.0) (unmet _ _ own.1.1.1.0)) after

  insert_step : (x : Reference) (pos : ℕ) (given : Data) → None ≡ refusal_of m (request.Insert x pos given) q → IsTable m.geometry (table_after m (request.Insert x pos given) q)
      → KeepsFrozen oid (shown m) (table_after m (request.Insert x pos given) q)
  insert_step x pos given none after =
      let own = (passes_update m (request.Insert x pos given) q refl none).own in
      edit_step x (λ bytes. inserted bytes pos (given_bytes given)) (unmet _ _ own.1.0) (unmet _ _ own.1.1.0) after

  append_step : (x : Reference) (given : Data) → None ≡ refusal_of m (request.Append x given) q → IsTable m.geometry (table_after m (request.Append x given) q)
      → KeepsFrozen oid (shown m) (table_after m (request.Append x given) q)
  append_step x given none after =
      let own = (passes_update m (request.Append x given) q refl none).own in
      edit_step x (λ bytes. appended bytes (given_bytes given)) (unmet _ _ own.1.0) (unmet _ _ own.1.1.0) after

  replace_step : (x : Reference) (pos : ℕ) (given : Data) → None ≡ refusal_of m (request.Replace x pos given) q → IsTable m.geometry (table_after m (request.Replace x pos given) q)
      → KeepsFrozen oid (shown m) (table_after m (request.Replace x pos given) q)
  replace_step x pos given none after =
      let own = (passes_update m (request.Replace x pos given) q refl none).own in
      edit_step x (λ bytes. replaced bytes pos (given_bytes given)) (unmet _ _ own.1.0) (unmet _ _ own.1.1.0) after

  delete_step : (x : Reference) (pos len : ℕ) → None ≡ refusal_of m (request.Delete x pos len) q → IsTable m.geometry (table_after m (request.Delete x pos len) q)
      → KeepsFrozen oid (shown m) (table_after m (request.Delete x pos len) q)
  delete_step x pos len none after =
      let own = (passes_update m (request.Delete x pos len) q refl none).own in
      edit_step x (λ bytes. deleted bytes pos len) (unmet _ _ own.1.0) (unmet _ _ own.1.1.0) after

  accepted_keeps_frozen : (r : Request) → None ≡ refusal_of m r q → Spares r m oid → IsTable (machine_after m r q).geometry (shown (machine_after m r q)) → KeepsFrozen oid (shown m) (shown (machine_after m r q))
  accepted_keeps_frozen request.Begin none spares after = begin_step none
  accepted_keeps_frozen request.Commit none spares after = committed_keeps oid m
  accepted_keeps_frozen request.Abort none spares after = absurd spares
  accepted_keeps_frozen (request.File name) none spares after = file_step name none
  accepted_keeps_frozen (request.Unfile name) none spares after = unfile_step name none
  accepted_keeps_frozen (request.Create file bind) none spares after = create_keeps_frozen m.geometry (shown m) table oid (new_oid m q) refl file after
  accepted_keeps_frozen (request.Destroy x) none spares after = destroy_step x none after
  accepted_keeps_frozen (request.DropVersion x) none spares after = drop_step x none spares after
  accepted_keeps_frozen (request.Insert x pos given) none spares after = insert_step x pos given none after
  accepted_keeps_frozen (request.Append x given) none spares after = append_step x given none after
  accepted_keeps_frozen (request.Replace x pos given) none spares after = replace_step x pos given none after
  accepted_keeps_frozen (request.Delete x pos len) none spares after = delete_step x pos len none after
  accepted_keeps_frozen (request.Freeze x bind) none spares after = freeze_step x bind none after
  accepted_keeps_frozen (request.Derive x bind) none spares after = derive_step x bind none after
  accepted_keeps_frozen _ none spares after = λ bytes has. has

-- ---- each step

either_keeps_frozen : (o : Option Refusal) (m n : Machine) (A : Type 0) (oid : Oid) → (None ≡ o → A → KeepsFrozen oid (shown m) (shown n)) → IfAccepted o A → KeepsFrozen oid (shown m) (shown (next_of o m n))
either_keeps_frozen None m n A oid accepted allowed = accepted refl allowed
either_keeps_frozen (Some why) m n A oid accepted allowed = λ bytes has. has

pub steps_keep_frozen : FrozenVersionStays
steps_keep_frozen before r q told after oid is form step spares =
    subst (λ (m : Machine). KeepsFrozen oid (shown before) (shown m)) (sym step.machine)
    (either_keeps_frozen (refusal_of before r q) before (machine_after before r q) (IsAllowed before r q) oid
    (λ none allowed. accepted_keeps_frozen before q is oid r none spares (kept none allowed)) step.allowed)
  where
    kept : None ≡ refusal_of before r q → IsAllowed before r q → IsTable (machine_after before r q).geometry (shown (machine_after before r q))
    kept none allowed = shown_is (machine_after before r q) (accepted_keeps before r q is form none allowed)

-- ---- commit and abort ask for a transaction alone

ended : (m : Machine) (r : Request) (q : Pick) (told : Reply) (after : Machine) → refusal_of m r q ≡ option_or (when (is_none m.working) refusal.NoTxn) None → Step m r q told after
    → ((is_none m.working ≡ true) × (after ≡ m)) ⊎ (after ≡ machine_after m r q)
ended m r q told after asks step = elim (cases_Bool (is_none m.working)) [
  | inl idle ↦ inl (idle, step.machine ∙ ap (λ o. next_of o m (machine_after m r q)) (asks ∙ ap (λ b. option_or (when b refusal.NoTxn) None) idle))
  | inr begun ↦ inr (step.machine ∙ ap (λ o. next_of o m (machine_after m r q)) (asks ∙ ap (λ b. option_or (when b refusal.NoTxn) None) begun))
]

idle_shows : (m : Machine) → is_none m.working ≡ true → shown m ≡ m.committed
idle_shows m idle = of_working m.working idle
  where
    of_working : (o : Option Table) → is_none o ≡ true → unwrap_or o m.committed ≡ m.committed
    of_working None e = refl
    of_working (Some t) e = cc

pub commit_keeps_frozen : FrozenVersionIsCommitted
commit_keeps_frozen before q told after oid step = elim (ended before request.Commit q told after refl step) [
  | inl refused ↦
      subst (λ (m : Machine). KeepsFrozen oid (shown before) m.committed) (sym refused.1)
      (subst (KeepsFrozen oid (shown before)) (idle_shows before refused.0) (λ bytes has. has))
  | inr done ↦ subst (λ (m : Machine). KeepsFrozen oid (shown before) m.committed) (sym done) (committed_keeps oid before)
]

pub abort_shows_frozen : FrozenVersionIsBack
abort_shows_frozen before q told after oid step = elim (ended before request.Abort q told after refl step) [
  | inl refused ↦
      subst (λ (m : Machine). KeepsFrozen oid before.committed (shown m)) (sym refused.1)
      (subst (KeepsFrozen oid before.committed) (sym (idle_shows before refused.0)) (λ bytes has. has))
  | inr done ↦ subst (λ (m : Machine). KeepsFrozen oid before.committed (shown m)) (sym done) (λ bytes has. has)
]
