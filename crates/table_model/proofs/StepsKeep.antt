-- Each command that is accepted keeps the rules of machines, and so does each step.
use Rattle.std.proofs.Common.{◌≡◌, ℕ, ◌+◌, ◌-◌, ◌^◌, ◌<◌, ◌≤◌, List, [], ◌∷◌, length, min, All, refl, sym, ap, subst, ◌∙◌, arith, Option, Some, None, IsTrue, Bool, true, false, cond, not, ◌&&◌, inl, inr}
use Rattle.std.specs.Prelude.{find, bytes_eq, is_some, nat_le, ◌==◌}
use Rattle.std.proofs.lemmas.Bool.{cases_Bool, and_parts, ltb-false, leb-false, leb-true, eqb-false, not-true}
use Rattle.std.proofs.lemmas.List.{length-append, length-map}
use Rattle.std.proofs.lemmas.List.Elements.{All-nil, All-cons, All-map, All-weaker, All-push, All-filter, filter_passes}
use Rattle.std.proofs.lemmas.List.Sums.{count_by-le-length, length-filter}
use Rattle.ex_base.specs.declared.names.Oid.{Oid}
use Rattle.ex_base.specs.Sizes.{object_most, files_most}
use Rattle.ex_base.specs.Edits.{inserted, deleted, replaced, appended}
use Rattle.table_model.specs.declared.machine.Machine.{Machine}
use Rattle.table_model.specs.declared.machine.Pick.{Pick}
use Rattle.table_model.specs.declared.machine.BoundName.{BoundName}
use Rattle.table_model.specs.declared.machine.ScanRow.{ScanRow}
use Rattle.table_model.specs.declared.machine.GroupRow.{GroupRow}
use Rattle.table_model.specs.declared.reply.Refusal.{Refusal}
use Rattle.table_model.specs.Words.{is_name, is_kept_name}
use Rattle.table_model.specs.Tables.{IsTable, has_name, numbered, versions_of, with_derived, with_frozen, without_version}
use Rattle.table_model.specs.Requests.{Data, Request, Reference, given_bytes, given_count, is_kept_name_if, is_request, is_reference, frames_most}
use Rattle.table_model.specs.Requests as request
use Rattle.table_model.specs.Machines.{IsMachine, IsScan, IsGroup, shown, version_of, bytes_of, kept, scans_most, groups_most}
use Rattle.table_model.specs.Refusals.{refusal_of, is_only_one}
use Rattle.table_model.specs.Laws.{StepsKeepTheRules}
use Rattle.table_model.specs.Steps.{IsAllowed, IfAccepted, next_of, machine_after, updated, moved, rest, new_oid, TakesNone}
use Rattle.table_model.proofs.Stepping.{passes_update, passes_other, unmet}
use Rattle.table_model.proofs.Files.{file_keeps, unfile_keeps}
use Rattle.table_model.proofs.Updates.{create_keeps, derive_keeps, freeze_keeps, without_keeps}
use Rattle.table_model.proofs.Found.{finds, frozen_leaves, none_current, none_frozen, not_current, not_frozen, other_leaves}
use Rattle.table_model.proofs.Sizes.{edit_keeps, bytes_fit, length-inserted, length-replaced, length-deleted}
use Rattle.table_model.proofs.Keeping.{updated_keeps, bound_keeps, is_working, shown_is, push_counted, map_counted, filter_counted, one_use_more}

-- ---- what tests say that don't apply

-- nothing is found
pub none_found : {A : Type 0} (p : A → Bool) (xs : List A) → is_some (find p xs) ≡ false → All (λ x. p x ≡ false) xs
none_found p [] none = All-nil (λ x. p x ≡ false)
none_found p (x ∷ xs) none = elim (cases_Bool (p x)) [
  | inl here ↦ let found : is_some (find p (x ∷ xs)) ≡ true = ap (λ (b : Bool). is_some (cond b (Some x) (find p xs))) here in cc
  | inr isnt ↦ All-cons (λ x. p x ≡ false) x xs isnt (none_found p xs (sym (ap (λ (b : Bool). is_some (cond b (Some x) (find p xs))) isnt) ∙ none))
]

-- a number below 2 ^ 64 that isn't the last one
room_for : (n : ℕ) → n < 2 ^ 64 → (n == 2 ^ 64 - 1) ≡ false → n < 2 ^ 64 - 1
room_for n small other = let differs : n ≡ 2 ^ 64 - 1 → ⊥ = eqb-false n (2 ^ 64 - 1) other in omega (arith, differs)

-- ---- commands that are no updates

begin_keeps : (m : Machine) (q : Pick) → IsMachine m → None ≡ refusal_of m request.Begin q → IsMachine (machine_after m request.Begin q)
begin_keeps m q is none =
    let passed = passes_other m request.Begin q refl none in
    record {
      committed = is.committed;
      working = record { table = is.committed; last = refl; room = room_for m.committed.last is.committed.number (unmet _ _ passed.1.0) };
      idle = tt;
      updates = omega arith;
      touched = omega arith;
      pages = is.pages;
      segs = is.segs;
      names = is.names;
      scans = is.scans;
      few_scans = is.few_scans;
      groups = is.groups;
      few_groups = is.few_groups;
      once = is.once;
    }

commit_keeps : (m : Machine) (q : Pick) → IsMachine m → None ≡ refusal_of m request.Commit q → TakesNone m q → IsMachine (machine_after m request.Commit q)
commit_keeps m q is none takes =
    let passed = passes_other m request.Commit q refl none in
    let was = is_working m is (unmet _ _ passed.0) in
    let unmark : BoundName → BoundName = λ b. record b { marked = false } in
    record {
      committed = record {
        some = was.table.some;
        next = was.table.next;
        number = omega (arith, was.room);
        files = was.table.files;
        names = was.table.names;
        sorted = was.table.sorted;
        ordered = was.table.ordered;
        trees = was.table.trees;
        numbers = was.table.numbers;
        distinct = was.table.distinct;
        apart = was.table.apart;
        sizes = was.table.sizes;
      };
      working = tt;
      idle = record { no_updates = refl; untouched = refl; unmarked = All-map (λ (b : BoundName). b.marked ≡ false) unmark m.names (λ k d h. refl) };
      updates = omega arith;
      touched = omega arith;
      pages = omega (arith, takes.pages, is.pages);
      segs = omega (arith, takes.segs, is.segs);
      names = All-map (λ (b : BoundName). IsTrue (is_kept_name b.name)) unmark m.names is.names;
      scans = is.scans;
      few_scans = is.few_scans;
      groups = is.groups;
      few_groups = is.few_groups;
      once = λ name. omega (arith, is.once name, map_counted (λ (b : BoundName). bytes_eq b.name name) unmark m.names (λ b. refl));
    }

abort_keeps : (m : Machine) (q : Pick) → IsMachine m → TakesNone m q → IsMachine (machine_after m request.Abort q)
abort_keeps m q is takes = record {
  committed = is.committed;
  working = tt;
  idle = record {
    no_updates = refl;
    untouched = refl;
    unmarked = All-weaker (λ (b : BoundName). not b.marked ≡ true) (λ (b : BoundName). b.marked ≡ false) (λ b e. not-true b.marked e) (kept m.names) (filter_passes (λ (b : BoundName). not b.marked) m.names);
  };
  updates = omega arith;
  touched = omega arith;
  pages = omega (arith, takes.pages, is.pages);
  segs = omega (arith, takes.segs, is.segs);
  names = All-filter (λ (b : BoundName). not b.marked) (λ (b : BoundName). IsTrue (is_kept_name b.name)) m.names is.names;
  scans = is.scans;
  few_scans = is.few_scans;
  groups = is.groups;
  few_groups = is.few_groups;
  once = λ name. omega (arith, is.once name, filter_counted (λ (b : BoundName). bytes_eq b.name name) (λ (b : BoundName). not b.marked) m.names);
}

group_keeps : (m : Machine) (name : List ℕ) (frames : ℕ) (mru : Bool) (q : Pick) → IsMachine m → IsTrue (is_request (request.Group name frames mru))
    → None ≡ refusal_of m (request.Group name frames mru) q → IsMachine (machine_after m (request.Group name frames mru) q)
group_keeps m name frames mru q is form none =
    let passed = passes_other m (request.Group name frames mru) q refl none in
    let few : length m.groups < groups_most = leb-false groups_most (length m.groups) (unmet _ _ passed.1.0) in
    let forms = and_parts (is_kept_name name && nat_le 1 frames) (nat_le frames frames_most) form in
    let first = and_parts (is_kept_name name) (nat_le 1 frames) forms.0 in
    let row : GroupRow = record { name = name; frames = frames; mru = mru } in
    record {
      committed = is.committed;
      working = is.working;
      idle = is.idle;
      updates = is.updates;
      touched = is.touched;
      pages = is.pages;
      segs = is.segs;
      names = is.names;
      scans = is.scans;
      few_scans = is.few_scans;
      groups = All-push IsGroup m.groups row is.groups (record { name = first.0; least = leb-true 1 frames first.1; most = leb-true frames frames_most forms.1 });
      few_groups = omega (arith, length-append m.groups (row ∷ []), few);
      once = λ other. omega (arith, one_use_more m name other (unmet _ _ passed.0) (is.once other), push_counted (λ (g : GroupRow). bytes_eq g.name other) m.groups row);
    }

scan_keeps : (m : Machine) (x : Reference) (name : List ℕ) (group : Option (List ℕ)) (q : Pick) → IsMachine m → IsTrue (is_request (request.Scan x name group))
    → None ≡ refusal_of m (request.Scan x name group) q → IsMachine (machine_after m (request.Scan x name group) q)
scan_keeps m x name group q is form none =
    let passed = passes_other m (request.Scan x name group) q refl none in
    let few : length m.scans < scans_most = leb-false scans_most (length m.scans) (unmet _ _ passed.1.1.1.1.0) in
    let forms = and_parts (is_reference x && is_kept_name name) (is_kept_name_if group) form in
    let spelled = (and_parts (is_reference x) (is_kept_name name) forms.0).1 in
    let row : ScanRow = record { name = name; bytes = bytes_of m x; pos = 0 } in
    record {
      committed = is.committed;
      working = is.working;
      idle = is.idle;
      updates = is.updates;
      touched = is.touched;
      pages = is.pages;
      segs = is.segs;
      names = is.names;
      scans = All-push IsScan m.scans row is.scans (record { name = spelled; bytes = bytes_fit m.geometry m x (shown_is m is); pos = omega arith });
      few_scans = omega (arith, length-append m.scans (row ∷ []), few);
      groups = is.groups;
      few_groups = is.few_groups;
      once = λ other. omega (arith, one_use_more m name other (unmet _ _ passed.1.0) (is.once other), push_counted (λ (s : ScanRow). bytes_eq s.name other) m.scans row);
    }

module _ (name : List ℕ) (len : ℕ) where
  moved_scan : (s : ScanRow) → IsScan s → IsScan (moved name len s)
  moved_scan s is = elim (bytes_eq s.name name) as (λ b. IsScan (cond b (record s { pos = s.pos + min len (rest s) }) s)) [
    | true ↦ record { name = is.name; bytes = is.bytes; pos = omega (arith, is.pos) }
    | false ↦ is
  ]

  moved_name : (s : ScanRow) → (moved name len s).name ≡ s.name
  moved_name s = elim (bytes_eq s.name name) as (λ b. (cond b (record s { pos = s.pos + min len (rest s) }) s).name ≡ s.name) [ true ↦ refl | false ↦ refl ]

  next_keeps : (m : Machine) (q : Pick) → IsMachine m → IsMachine (machine_after m (request.Next name len) q)
  next_keeps m q is = record {
    committed = is.committed;
    working = is.working;
    idle = is.idle;
    updates = is.updates;
    touched = is.touched;
    pages = is.pages;
    segs = is.segs;
    names = is.names;
    scans = All-map IsScan (moved name len) m.scans (All-weaker IsScan (λ (s : ScanRow). IsScan (moved name len s)) moved_scan m.scans is.scans);
    few_scans = rw (length-map m.scans (moved name len)) (is.few_scans);
    groups = is.groups;
    few_groups = is.few_groups;
    once = λ other. omega (arith, is.once other, map_counted (λ (s : ScanRow). bytes_eq s.name other) (moved name len) m.scans (λ s. ap (λ (n : List ℕ). bytes_eq n other) (moved_name s)));
  }

close_keeps : (m : Machine) (name : List ℕ) (q : Pick) → IsMachine m → TakesNone m q → IsMachine (machine_after m (request.Close name) q)
close_keeps m name q is takes =
    let others : ScanRow → Bool = λ s. not (bytes_eq s.name name) in
    record {
      committed = is.committed;
      working = is.working;
      idle = is.idle;
      updates = is.updates;
      touched = is.touched;
      pages = omega (arith, takes.pages, is.pages);
      segs = omega (arith, takes.segs, is.segs);
      names = is.names;
      scans = All-filter others IsScan m.scans is.scans;
      few_scans = omega (arith, is.few_scans, length-filter others m.scans, count_by-le-length others m.scans);
      groups = is.groups;
      few_groups = is.few_groups;
      once = λ other. omega (arith, is.once other, filter_counted (λ (s : ScanRow). bytes_eq s.name other) others m.scans);
    }

-- ---- updates

module _ (m : Machine) (q : Pick) (is : IsMachine m) where
  file_step : (name : List ℕ) → IsTrue (is_name name) → None ≡ refusal_of m (request.File name) q → IsAllowed m (request.File name) q → IsMachine (machine_after m (request.File name) q)
  file_step name spelled none allowed =
      let passed = passes_update m (request.File name) q refl none in
      let own = passed.own in
      updated_keeps m (request.File name) q is passed (allowed.1 refl)
      (file_keeps m.geometry (shown m) name (shown_is m is) (leb-false (files_most m.geometry) (length (shown m).files) (unmet _ _ own.1.0)) spelled
      (none_found (has_name name) (shown m).files (unmet _ _ own.0))) refl refl

  unfile_step : (name : List ℕ) → None ≡ refusal_of m (request.Unfile name) q → IsAllowed m (request.Unfile name) q → IsMachine (machine_after m (request.Unfile name) q)
  unfile_step name none allowed =
      let passed = passes_update m (request.Unfile name) q refl none in
      updated_keeps m (request.Unfile name) q is passed (allowed.1 refl) (unfile_keeps m.geometry (shown m) name (shown_is m is)) refl refl

  destroy_step : (x : Reference) → None ≡ refusal_of m (request.Destroy x) q → IsAllowed m (request.Destroy x) q → IsMachine (machine_after m (request.Destroy x) q)
  destroy_step x none allowed =
      let passed = passes_update m (request.Destroy x) q refl none in
      let own = passed.own in
      let found = finds m x (unmet _ _ own.1.0) in
      let others = ap (is_only_one (versions_of (shown m))) (sym found.is) ∙ unmet _ _ own.1.1.1.0 in
      let kept = without_keeps found.version.oid m.geometry (shown m) (shown_is m is) (other_leaves m.geometry (shown m) (shown_is m is) found.version found.there others) in
      updated_keeps m (request.Destroy x) q is passed (allowed.1 refl) (subst (λ (oid : Oid). IsTable m.geometry (without_version oid (shown m))) (sym found.oid_is) kept) refl refl

  drop_step : (x : Reference) → None ≡ refusal_of m (request.DropVersion x) q → IsAllowed m (request.DropVersion x) q → IsMachine (machine_after m (request.DropVersion x) q)
  drop_step x none allowed =
      let passed = passes_update m (request.DropVersion x) q refl none in
      let own = passed.own in
      let found = finds m x (unmet _ _ own.1.0) in
      let frozen = not_current found.version (version_of m x) found.is (unmet _ _ own.1.1.0) in
      let kept = without_keeps found.version.oid m.geometry (shown m) (shown_is m is) (frozen_leaves m.geometry (shown m) (shown_is m is) found.version found.there frozen) in
      updated_keeps m (request.DropVersion x) q is passed (allowed.1 refl) (subst (λ (oid : Oid). IsTable m.geometry (without_version oid (shown m))) (sym found.oid_is) kept) refl refl

  create_step : (file : List ℕ) (bind : Option (List ℕ)) → IsTrue (is_kept_name_if bind) → None ≡ refusal_of m (request.Create file bind) q → IsAllowed m (request.Create file bind) q → IsMachine (machine_after m (request.Create file bind) q)
  create_step file bind spelled none allowed =
      let passed = passes_update m (request.Create file bind) q refl none in
      let own = passed.own in
      let table = shown_is m is in
      let room : (shown m).next_unique < 2 ^ 64 - 1 = room_for (shown m).next_unique table.next (unmet _ _ own.1.1.0) in
      let made = updated_keeps m (request.Create file bind) q is passed (allowed.1 refl)
      (create_keeps (new_oid m q) file m.geometry (shown m) table (omega (arith, room)) refl allowed.0) refl refl in
      bound_keeps (updated m (request.Create file bind) q) bind (new_oid m q) made spelled (unmet _ _ own.0) refl

  freeze_step : (x : Reference) (bind : Option (List ℕ)) → IsTrue (is_kept_name_if bind) → None ≡ refusal_of m (request.Freeze x bind) q → IsAllowed m (request.Freeze x bind) q → IsMachine (machine_after m (request.Freeze x bind) q)
  freeze_step x bind spelled none allowed =
      let passed = passes_update m (request.Freeze x bind) q refl none in
      let own = passed.own in
      let table = shown_is m is in
      let found = finds m x (unmet _ _ own.1.1.0) in
      let current = not_frozen found.version (version_of m x) found.is (unmet _ _ own.1.1.1.0) in
      let room : (shown m).next_unique < 2 ^ 64 - 1 = room_for (shown m).next_unique table.next (unmet _ _ own.1.1.1.1.0) in
      let kept = freeze_keeps found.version.oid (new_oid m q) m.geometry (shown m) table (omega (arith, room)) refl allowed.0 (none_frozen m.geometry (shown m) table found.version found.there current) in
      let made = updated_keeps m (request.Freeze x bind) q is passed (allowed.1 refl)
      (subst (λ (oid : Oid). IsTable m.geometry (numbered (with_frozen oid (new_oid m q) (shown m)))) (sym found.oid_is) kept) refl refl in
      bound_keeps (updated m (request.Freeze x bind) q) bind (new_oid m q) made spelled (unmet _ _ own.1.0) refl

  derive_step : (x : Reference) (bind : Option (List ℕ)) → IsTrue (is_kept_name_if bind) → None ≡ refusal_of m (request.Derive x bind) q → IsAllowed m (request.Derive x bind) q → IsMachine (machine_after m (request.Derive x bind) q)
  derive_step x bind spelled none allowed =
      let passed = passes_update m (request.Derive x bind) q refl none in
      let own = passed.own in
      let table = shown_is m is in
      let found = finds m x (unmet _ _ own.1.1.0) in
      let frozen = not_current found.version (version_of m x) found.is (unmet _ _ own.1.1.1.0) in
      let room : (shown m).next_unique < 2 ^ 64 - 1 = room_for (shown m).next_unique table.next (unmet _ _ own.1.1.1.1.0) in
      let kept = derive_keeps found.version.oid (new_oid m q) m.geometry (shown m) table (omega (arith, room)) refl allowed.0 (none_current m.geometry (shown m) table found.version found.there frozen) in
      let made = updated_keeps m (request.Derive x bind) q is passed (allowed.1 refl)
      (subst (λ (oid : Oid). IsTable m.geometry (numbered (with_derived oid (new_oid m q) (shown m)))) (sym found.oid_is) kept) refl refl in
      bound_keeps (updated m (request.Derive x bind) q) bind (new_oid m q) made spelled (unmet _ _ own.1.0) refl

  insert_step : (x : Reference) (pos : ℕ) (given : Data) → None ≡ refusal_of m (request.Insert x pos given) q → IsAllowed m (request.Insert x pos given) q → IsMachine (machine_after m (request.Insert x pos given) q)
  insert_step x pos given none allowed =
      let passed = passes_update m (request.Insert x pos given) q refl none in
      let own = passed.own in
      let fits : length (bytes_of m x) + given_count given ≤ object_most = ltb-false object_most (length (bytes_of m x) + given_count given) (unmet _ _ own.1.1.1.1.0) in
      updated_keeps m (request.Insert x pos given) q is passed (allowed.1 refl)
      (edit_keeps m.geometry m x (λ bytes. inserted bytes pos (given_bytes given)) (shown_is m is) (unmet _ _ own.1.0) (omega (arith, length-inserted (bytes_of m x) pos (given_bytes given), fits))) refl refl

  append_step : (x : Reference) (given : Data) → None ≡ refusal_of m (request.Append x given) q → IsAllowed m (request.Append x given) q → IsMachine (machine_after m (request.Append x given) q)
  append_step x given none allowed =
      let passed = passes_update m (request.Append x given) q refl none in
      let own = passed.own in
      let fits : length (bytes_of m x) + given_count given ≤ object_most = ltb-false object_most (length (bytes_of m x) + given_count given) (unmet _ _ own.1.1.1.0) in
      updated_keeps m (request.Append x given) q is passed (allowed.1 refl)
      (edit_keeps m.geometry m x (λ bytes. appended bytes (given_bytes given)) (shown_is m is) (unmet _ _ own.1.0) (omega (arith, length-append (bytes_of m x) (given_bytes given), fits))) refl refl

  replace_step : (x : Reference) (pos : ℕ) (given : Data) → None ≡ refusal_of m (request.Replace x pos given) q → IsAllowed m (request.Replace x pos given) q → IsMachine (machine_after m (request.Replace x pos given) q)
  replace_step x pos given none allowed =
      let passed = passes_update m (request.Replace x pos given) q refl none in
      let own = passed.own in
      let inside : pos + given_count given ≤ length (bytes_of m x) = ltb-false (length (bytes_of m x)) (pos + given_count given) (unmet _ _ own.1.1.1.0) in
      let fits = bytes_fit m.geometry m x (shown_is m is) in
      updated_keeps m (request.Replace x pos given) q is passed (allowed.1 refl)
      (edit_keeps m.geometry m x (λ bytes. replaced bytes pos (given_bytes given)) (shown_is m is) (unmet _ _ own.1.0) (omega (arith, length-replaced (bytes_of m x) pos (given_bytes given) inside, fits))) refl refl

  delete_step : (x : Reference) (pos len : ℕ) → None ≡ refusal_of m (request.Delete x pos len) q → IsAllowed m (request.Delete x pos len) q → IsMachine (machine_after m (request.Delete x pos len) q)
  delete_step x pos len none allowed =
      let passed = passes_update m (request.Delete x pos len) q refl none in
      let own = passed.own in
      let fits = bytes_fit m.geometry m x (shown_is m is) in
      updated_keeps m (request.Delete x pos len) q is passed (allowed.1 refl)
      (edit_keeps m.geometry m x (λ bytes. deleted bytes pos len) (shown_is m is) (unmet _ _ own.1.0) (omega (arith, length-deleted (bytes_of m x) pos len, fits))) refl refl

-- ---- each step

pub accepted_keeps : (m : Machine) (r : Request) (q : Pick) → IsMachine m → IsTrue (is_request r) → None ≡ refusal_of m r q → IsAllowed m r q → IsMachine (machine_after m r q)
accepted_keeps m request.Begin q is form none allowed = begin_keeps m q is none
accepted_keeps m request.Commit q is form none allowed = commit_keeps m q is none allowed.0
accepted_keeps m request.Abort q is form none allowed = abort_keeps m q is allowed.0
accepted_keeps m (request.File name) q is form none allowed = file_step m q is name form none allowed
accepted_keeps m (request.Unfile name) q is form none allowed = unfile_step m q is name none allowed
accepted_keeps m (request.Create file bind) q is form none allowed = create_step m q is file bind (and_parts (is_name file) (is_kept_name_if bind) form).1 none allowed
accepted_keeps m (request.Destroy x) q is form none allowed = destroy_step m q is x none allowed
accepted_keeps m (request.DropVersion x) q is form none allowed = drop_step m q is x none allowed
accepted_keeps m (request.Insert x pos given) q is form none allowed = insert_step m q is x pos given none allowed
accepted_keeps m (request.Append x given) q is form none allowed = append_step m q is x given none allowed
accepted_keeps m (request.Replace x pos given) q is form none allowed = replace_step m q is x pos given none allowed
accepted_keeps m (request.Delete x pos len) q is form none allowed = delete_step m q is x pos len none allowed
accepted_keeps m (request.Freeze x bind) q is form none allowed = freeze_step m q is x bind (and_parts (is_reference x) (is_kept_name_if bind) form).1 none allowed
accepted_keeps m (request.Derive x bind) q is form none allowed = derive_step m q is x bind (and_parts (is_reference x) (is_kept_name_if bind) form).1 none allowed
accepted_keeps m (request.Group name frames mru) q is form none allowed = group_keeps m name frames mru q is form none
accepted_keeps m (request.Scan x name group) q is form none allowed = scan_keeps m x name group q is form none
accepted_keeps m (request.Next name len) q is form none allowed = next_keeps name len m q is
accepted_keeps m (request.Close name) q is form none allowed = close_keeps m name q is allowed.0
accepted_keeps m _ q is form none allowed = is

either_keeps : (o : Option Refusal) (m n : Machine) (A : Type 0) → IsMachine m → (None ≡ o → A → IsMachine n) → IfAccepted o A → IsMachine (next_of o m n)
either_keeps None m n A is accepted allowed = accepted refl allowed
either_keeps (Some why) m n A is accepted allowed = is

pub steps_keep : StepsKeepTheRules
steps_keep before r q told after is form step =
    subst IsMachine (sym step.machine) (either_keeps (refusal_of before r q) before (machine_after before r q) (IsAllowed before r q) is (accepted_keeps before r q is form) step.allowed)
