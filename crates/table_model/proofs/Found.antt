-- What a command finds, and what its tests say of that and of the versions beside it.
use Rattle.std.proofs.Common.{◌≡◌, inl, inr, ℕ, ◌≤◌, List, [], ◌∷◌, ◌++◌, length, refl, sym, ap, subst, ◌∙◌, arith, Option, Some, None, true, false, cond, IfSome, true≢false, length-append}
use Rattle.std.specs.Prelude.{find, flat_map, is_none}
use Rattle.std.proofs.lemmas.Bool.{false≢true, false_from_ne_true, leb-false, not-false}
use Rattle.std.proofs.lemmas.Option.{none-some}
use Rattle.std.proofs.lemmas.List.Elements.{filter-append}
use Rattle.std.proofs.lemmas.List.Sums.{length-filter}
use Rattle.std.proofs.lemmas.List.Sorted.{sum_by-IsPermutation}
use Rattle.ex_base.specs.declared.geometry.Geometry.{Geometry}
use Rattle.ex_base.specs.declared.names.Oid.{Oid}
use Rattle.version_lists.specs.declared.version.Version.{Version}
use Rattle.version_lists.specs.Versions.{derived_from, has_oid, is_derived_from, unique_of}
use Rattle.version_lists.specs.Changes.{LeavesOne, NoneCurrent, NoneFrozen}
use Rattle.version_lists.proofs.Lists.{Has, contains_has, filter_none, find_has, has_flat, has_flat_from}
use Rattle.version_lists.proofs.Sorted.{Unlike, unlike_back, unlike_cross, unlike_from}
use Rattle.version_lists.proofs.Links.{Linked, if_some_from, number_from_oid, older_of, test_number}
use Rattle.table_model.specs.declared.machine.Machine.{Machine}
use Rattle.table_model.specs.declared.table.Table.{Table}
use Rattle.table_model.specs.declared.table.TableFile.{TableFile}
use Rattle.table_model.specs.Requests.{Reference}
use Rattle.table_model.specs.Machines.{shown, oid_of, version_of, version_if, the_oid, oid_if}
use Rattle.table_model.specs.Tables.{IsTable, all_in, versions_of}
use Rattle.table_model.specs.Refusals.{current_if, frozen_if, has_one, is_only_one}
use Rattle.table_model.proofs.TableRules.{all_of, file_linked, has_file, ordered_of_table, versions_ordered}

-- ---- one version

pub unlike_one : {A : Type 0} (key : A → ℕ) (xs : List A) (x y : A) → Unlike key xs → Has xs x → Has xs y → key x ≡ key y → x ≡ y
unlike_one key [] x y apart h k e = absurd h
unlike_one key (z ∷ zs) x y apart (inl h) (inl k) e = sym h ∙ k
unlike_one key (z ∷ zs) x y apart (inl h) (inr k) e = absurd (apart.0 y k (ap key h ∙ e))
unlike_one key (z ∷ zs) x y apart (inr h) (inl k) e = absurd (apart.0 x h (ap key k ∙ sym e))
unlike_one key (z ∷ zs) x y apart (inr h) (inr k) e = unlike_one key zs x y apart.1 h k e

-- what the command names is live
pub record Finds (m : Machine) (x : Reference) : Type 0 where
  pub version : Version
  pub is : version_of m x ≡ Some version
  pub oid_is : the_oid m x ≡ version.oid
  pub there : Has (versions_of (shown m)) version

pub finds : (m : Machine) (x : Reference) → is_none (version_of m x) ≡ false → Finds m x
finds m x live = of_version (version_of m x) refl live
  where
    in_table : (o : Option Oid) (v : Version) → version_if (shown m) o ≡ Some v → Has (versions_of (shown m)) v
    in_table None v e = absurd (none-some v e)
    in_table (Some oid) v e = (find_has (has_oid oid) (versions_of (shown m)) v e).0

    of_version : (o : Option Version) → version_of m x ≡ o → is_none o ≡ false → Finds m x
    of_version None e live = absurd (true≢false live)
    of_version (Some v) e live = record { version = v; is = e; oid_is = ap oid_if e; there = in_table (oid_of m x) v e }

module _ (g : Geometry) (t : Table) (is : IsTable g t) where
  -- no other version has its number
  pub only : (v w : Version) → Has (versions_of t) v → Has (versions_of t) w → unique_of v ≡ unique_of w → v ≡ w
  only v w h k e = unlike_one unique_of (versions_of t) v w (unlike_from unique_of (versions_of t) is.distinct) h k e

  module _ (v : Version) (there : Has (versions_of t) v) where
    -- a version of a file that has its identifier is this one
    found_in : (f : TableFile) (w : Version) → Has t.files f → find (has_oid v.oid) (all_in f) ≡ Some w → v ≡ w
    found_in f w m e = let r = find_has (has_oid v.oid) (all_in f) w e in only v w there (has_file t f w m r.0) (sym (number_from_oid v.oid w r.1))

    pub none_frozen : v.frozen ≡ false → (f : TableFile) → Has t.files f → NoneFrozen v.oid (all_in f)
    none_frozen current f m =
        if_some_from (λ (w : Version). w.frozen ≡ false) (find (has_oid v.oid) (all_in f))
        (λ w e. subst (λ (x : Version). x.frozen ≡ false) (found_in f w m e) current)

    pub none_current : v.frozen ≡ true → (f : TableFile) → Has t.files f → NoneCurrent v.oid (all_in f)
    none_current frozen f m =
        if_some_from (λ (w : Version). w.frozen ≡ true) (find (has_oid v.oid) (all_in f))
        (λ w e. subst (λ (x : Version). x.frozen ≡ true) (found_in f w m e) frozen)

    -- a frozen one may go
    pub frozen_leaves : v.frozen ≡ true → (f : TableFile) → Has t.files f → LeavesOne v.oid (all_in f)
    frozen_leaves frozen f m =
        if_some_from (λ (w : Version). w.frozen ≡ false → IfSome w.older (λ number. 2 ≤ length (derived_from number (all_in f)))) (find (has_oid v.oid) (all_in f))
        (λ w e current. absurd (false≢true (sym current ∙ ap (λ (x : Version). x.frozen) (sym (found_in f w m e)) ∙ frozen)))

-- ---- what is derived from a version is in its file

module _ (number : ℕ) where
  none_derived : (vs : List Version) (o : Version) → Linked vs → unique_of o ≡ number → ((w : Version) → Has vs w → unique_of w ≡ unique_of o → ⊥)
      → (d : Version) → Has vs d → is_derived_from number d ≡ false
  none_derived vs o linked is elsewhere d m = false_from_ne_true (is_derived_from number d)
      (λ e. let older = older_of vs d number (linked.1 d m) (test_number number d.older e) in elsewhere older.older (contains_has vs older.older older.there) (older.number_is ∙ sym is))

  -- where no two numbers are one
  derived_here : (fs : List TableFile) → ((f : TableFile) → Has fs f → Linked (all_in f)) → Unlike unique_of (flat_map all_in fs)
      → (f : TableFile) → Has fs f → (o : Version) → Has (all_in f) o → unique_of o ≡ number
      → length (derived_from number (flat_map all_in fs)) ≤ length (derived_from number (all_in f))
  derived_here [] linked apart f m o h is = absurd m
  derived_here (k ∷ fs) linked apart f (inl same) o h is =
      let none = filter_none (is_derived_from number) (flat_map all_in fs) rest in
      let all = ap length (filter-append (is_derived_from number) (all_in k) (flat_map all_in fs) ∙ ap (λ l. derived_from number (all_in k) ++ l) none) in
      let lengths = length-append (derived_from number (all_in k)) [] in
      let here = ap (λ (x : TableFile). length (derived_from number (all_in x))) same in
      omega (arith, all, lengths, here)
    where
      rest : (d : Version) → Has (flat_map all_in fs) d → is_derived_from number d ≡ false
      rest d m =
          let r = has_flat_from all_in fs d m in
          none_derived (all_in r.0) o (linked r.0 (inr r.1)) is
          (λ w n e. unlike_cross unique_of (all_in k) (flat_map all_in fs) apart o w (subst (λ (x : TableFile). Has (all_in x) o) (sym same) h) (has_flat all_in fs r.0 w r.1 n) (sym e))
          d r.2
  derived_here (k ∷ fs) linked apart f (inr m) o h is =
      let none = filter_none (is_derived_from number) (all_in k) front in
      let all = ap length (filter-append (is_derived_from number) (all_in k) (flat_map all_in fs) ∙ ap (λ l. l ++ derived_from number (flat_map all_in fs)) none) in
      let deep = derived_here fs (λ x n. linked x (inr n)) (unlike_back unique_of (all_in k) (flat_map all_in fs) apart) f m o h is in
      omega (arith, all, deep)
    where
      front : (d : Version) → Has (all_in k) d → is_derived_from number d ≡ false
      front = none_derived (all_in k) o (linked k (inl refl)) is
          (λ w n e. unlike_cross unique_of (all_in k) (flat_map all_in fs) apart w o n (has_flat all_in fs f o m h) e)

module _ (g : Geometry) (t : Table) (is : IsTable g t) where
  -- as many are derived from a version in its file as in the table
  derived_in_file : (f : TableFile) → Has t.files f → (v : Version) (number : ℕ) → Has (all_in f) v → v.older ≡ Some number
      → length (derived_from number (versions_of t)) ≤ length (derived_from number (all_in f))
  derived_in_file f m v number h e =
      let linked = file_linked g t is in
      let older = older_of (all_in f) v number ((linked f m).1 v h) e in
      let apart = unlike_from unique_of (all_of t) (ordered_of_table g t is).distinct in
      let here = derived_here number t.files linked apart f m older.older (contains_has (all_in f) older.older older.there) older.number_is in
      let same = sum_by-IsPermutation (λ (d : Version). cond (is_derived_from number d) 1 0) (versions_of t) (all_of t) (versions_ordered t) in
      omega (arith, here, same, length-filter (is_derived_from number) (versions_of t), length-filter (is_derived_from number) (all_of t))

  -- one from which others are derived beside it may go
  pub other_leaves : (v : Version) → Has (versions_of t) v → is_only_one (versions_of t) (Some v) ≡ false → (f : TableFile) → Has t.files f → LeavesOne v.oid (all_in f)
  other_leaves v there others f m =
      if_some_from (λ (w : Version). w.frozen ≡ false → IfSome w.older (λ number. 2 ≤ length (derived_from number (all_in f)))) (find (has_oid v.oid) (all_in f))
      (λ w e current. if_some_from (λ number. 2 ≤ length (derived_from number (all_in f))) w.older
      (λ number older. two w number (found_in g t is v there f w m e) (find_has (has_oid v.oid) (all_in f) w e).0 older))
    where
      two : (w : Version) (number : ℕ) → v ≡ w → Has (all_in f) w → w.older ≡ Some number → 2 ≤ length (derived_from number (all_in f))
      two w number same h older =
          let one = ap (has_one (versions_of t)) (sym (ap (λ (x : Version). x.older) same ∙ older)) ∙ others in
          let many = leb-false (length (derived_from number (versions_of t))) 1 one in
          let inside = derived_in_file f m w number h older in
          omega (arith, many, inside)

-- ---- what tests say that don't apply

pub not_frozen : (v : Version) (o : Option Version) → o ≡ Some v → frozen_if o ≡ false → v.frozen ≡ false
not_frozen v o e none = ap frozen_if (sym e) ∙ none

pub not_current : (v : Version) (o : Option Version) → o ≡ Some v → current_if o ≡ false → v.frozen ≡ true
not_current v o e none = not-false v.frozen (ap current_if (sym e) ∙ none)
