-- Each step keeps the rules of machines.
use Rattle.std.proofs.Common.{◌≡◌, ℕ, suc, ◌+◌, ◌≤◌, List, [], ◌∷◌, ◌++◌, length, map, refl, sym, ap, subst, ◌∙◌, arith, Option, Some, None, IsTrue, Bool, true, false, cond, ◌||◌, inl, inr}
use Rattle.std.specs.Prelude.{filter, bytes_eq, is_none, unwrap_or, IfSome, IfNone}
use Rattle.std.specs.List.{list_any}
use Rattle.std.proofs.lemmas.Bool.{cases_Bool, or_parts}
use Rattle.std.proofs.lemmas.Slice.Eq.{bytes_eq-Decides}
use Rattle.std.proofs.lemmas.List.{append-nil, length-append}
use Rattle.std.proofs.lemmas.List.Elements.{All-push, filter-append}
use Rattle.ex_base.specs.declared.geometry.Geometry.{Geometry}
use Rattle.ex_base.specs.declared.names.Oid.{Oid}
use Rattle.table_model.specs.declared.machine.Machine.{Machine}
use Rattle.table_model.specs.declared.machine.Pick.{Pick}
use Rattle.table_model.specs.declared.machine.BoundName.{BoundName}
use Rattle.table_model.specs.declared.machine.ScanRow.{ScanRow}
use Rattle.table_model.specs.declared.machine.GroupRow.{GroupRow}
use Rattle.table_model.specs.declared.table.Table.{Table}
use Rattle.table_model.specs.Words.{is_kept_name}
use Rattle.table_model.specs.Tables.{IsTable}
use Rattle.table_model.specs.Requests.{Request, is_kept_name_if}
use Rattle.table_model.specs.Machines.{IsMachine, IsWorking, shown, uses, main, has_group, is_taken, is_taken_if, bound}
use Rattle.table_model.specs.Steps.{table_after, notes_of, updated, WithinNeed}
use Rattle.table_model.proofs.Stepping.{PassesUpdate}

-- ---- counting names

abbrev one_if : Bool → ℕ
one_if b = cond b 1 0

module _ {A : Type 0} (p : A → Bool) where
  pub none_counted : (xs : List A) → list_any p xs ≡ false → length (filter p xs) ≡ 0
  none_counted [] none = refl
  none_counted (x ∷ xs) none =
      let both = or_parts (p x) (list_any p xs) none in
      ap (λ (b : Bool). length (cond b (x ∷ filter p xs) (filter p xs))) both.0 ∙ none_counted xs both.1

  pub push_counted : (xs : List A) (x : A) → length (filter p (xs ++ x ∷ [])) ≡ length (filter p xs) + one_if (p x)
  push_counted xs x = ap length (filter-append p xs (x ∷ [])) ∙ length-append (filter p xs) (filter p (x ∷ [])) ∙ ap (λ n. length (filter p xs) + n) (one (p x))
    where
      one : (b : Bool) → length (cond b (x ∷ []) []) ≡ one_if b
      one true = refl
      one false = refl

  pub map_counted : (f : A → A) (xs : List A) → ((x : A) → p (f x) ≡ p x) → length (filter p (map f xs)) ≡ length (filter p xs)
  map_counted f [] same = refl
  map_counted f (x ∷ xs) same =
      ap (λ (b : Bool). length (cond b (f x ∷ filter p (map f xs)) (filter p (map f xs)))) (same x) ∙ step (p x) (map_counted f xs same)
    where
      step : (b : Bool) → length (filter p (map f xs)) ≡ length (filter p xs) → length (cond b (f x ∷ filter p (map f xs)) (filter p (map f xs))) ≡ length (cond b (x ∷ filter p xs) (filter p xs))
      step true e = ap suc e
      step false e = e

  pub filter_counted : (q : A → Bool) (xs : List A) → length (filter p (filter q xs)) ≤ length (filter p xs)
  filter_counted q [] = omega arith
  filter_counted q (x ∷ xs) =
      let deep = filter_counted q xs in
      step (q x) (p x) deep
    where
      inner : (b : Bool) → length (filter p xs) ≤ length (cond b (x ∷ filter p xs) (filter p xs))
      inner true = omega arith
      inner false = omega arith

      step : (b c : Bool) → length (filter p (filter q xs)) ≤ length (filter p xs) → length (filter p (cond b (x ∷ filter q xs) (filter q xs))) ≤ length (filter p (x ∷ xs))
      step true c deep = outer (p x) deep
        where
          outer : (b : Bool) → length (filter p (filter q xs)) ≤ length (filter p xs) → length (cond b (x ∷ filter p (filter q xs)) (filter p (filter q xs))) ≤ length (cond b (x ∷ filter p xs) (filter p xs))
          outer true deep = omega (arith, deep)
          outer false deep = deep
      step false c deep = omega (arith, deep, inner (p x))

-- a name that isn't taken stands for nothing
pub free_name : (m : Machine) (name : List ℕ) → is_taken m name ≡ false → uses m name ≡ 0
free_name m name free =
    let first = or_parts (list_any (λ (b : BoundName). bytes_eq b.name name) m.names || list_any (λ (s : ScanRow). bytes_eq s.name name) m.scans) (has_group m name) free in
    let second = or_parts (list_any (λ (b : BoundName). bytes_eq b.name name) m.names) (list_any (λ (s : ScanRow). bytes_eq s.name name) m.scans) first.0 in
    let third = or_parts (bytes_eq main name) (list_any (λ (g : GroupRow). bytes_eq g.name name) m.groups) first.1 in
    let names = none_counted (λ (b : BoundName). bytes_eq b.name name) m.names second.0 in
    let scans = none_counted (λ (s : ScanRow). bytes_eq s.name name) m.scans second.1 in
    let groups = none_counted (λ (g : GroupRow). bytes_eq g.name name) m.groups third.1 in
    let own : one_if (bytes_eq main name) ≡ 0 = ap one_if third.0 in
    omega (arith, names, scans, groups, own)

-- one thing more for a free name
pub one_use_more : (m : Machine) (name other : List ℕ) → is_taken m name ≡ false → uses m other ≤ 1 → uses m other + one_if (bytes_eq name other) ≤ 1
one_use_more m name other free once = elim (cases_Bool (bytes_eq name other)) [
  | inl same ↦
      let none : uses m other ≡ 0 = subst (λ (n : List ℕ). uses m n ≡ 0) ((bytes_eq-Decides name other).0 same) (free_name m name free) in
      let one : one_if (bytes_eq name other) ≡ 1 = ap one_if same in
      omega (arith, none, one)
  | inr differ ↦
      let more : one_if (bytes_eq name other) ≡ 0 = ap one_if differ in
      omega (arith, once, more)
]

-- ---- the tables

working_of : (g : Geometry) (c : Table) (o : Option Table) → IfSome o (IsWorking g c) → is_none o ≡ false → IsWorking g c (unwrap_or o c)
working_of g c None is none = cc
working_of g c (Some t) is none = is

pub is_working : (m : Machine) → IsMachine m → is_none m.working ≡ false → IsWorking m.geometry m.committed (shown m)
is_working m is begun = working_of m.geometry m.committed m.working is.working begun

shown_of : (g : Geometry) (c : Table) (o : Option Table) → IsTable g c → IfSome o (IsWorking g c) → IsTable g (unwrap_or o c)
shown_of g c None committed is = committed
shown_of g c (Some t) committed is = is.table

pub shown_is : (m : Machine) → IsMachine m → IsTable m.geometry (shown m)
shown_is m is = shown_of m.geometry m.committed m.working is.committed is.working

-- ---- an update

pub updated_keeps : (m : Machine) (r : Request) (q : Pick) → IsMachine m → PassesUpdate m r q → WithinNeed m r q
    → IsTable m.geometry (table_after m r q) → (table_after m r q).last ≡ (shown m).last → length (notes_of m r q) ≡ 1 → IsMachine (updated m r q)
updated_keeps m r q is passed within table last one =
    let was = is_working m is passed.working in
    record {
      committed = is.committed;
      working = record { table = table; last = last ∙ was.last; room = rw last (was.room) };
      idle = tt;
      updates = omega (arith, length-append m.notes (notes_of m r q), one, passed.updates);
      touched = omega (arith, within.touched, passed.touched);
      pages = omega (arith, within.pages, passed.pages, is.pages);
      segs = omega (arith, within.segs, passed.segs, is.segs);
      names = is.names;
      scans = is.scans;
      few_scans = is.few_scans;
      groups = is.groups;
      few_groups = is.few_groups;
      once = is.once;
    }

idle_none : (P : Type 0) (o : Option Table) → is_none o ≡ false → IfNone o P
idle_none P None begun = cc
idle_none P (Some t) begun = tt

pub bound_keeps : (m : Machine) (bind : Option (List ℕ)) (oid : Oid) → IsMachine m → IsTrue (is_kept_name_if bind) → is_taken_if m bind ≡ false → is_none m.working ≡ false → IsMachine (bound bind oid m)
bound_keeps m None oid is spelled free begun = subst (λ (names : List BoundName). IsMachine (record m { names = names })) (sym (append-nil m.names)) is
bound_keeps m (Some name) oid is spelled free begun = record {
  committed = is.committed;
  working = is.working;
  idle = idle_none _ m.working begun;
  updates = is.updates;
  touched = is.touched;
  pages = is.pages;
  segs = is.segs;
  names = All-push (λ (b : BoundName). IsTrue (is_kept_name b.name)) m.names (record { name = name; oid = oid; marked = true }) is.names spelled;
  scans = is.scans;
  few_scans = is.few_scans;
  groups = is.groups;
  few_groups = is.few_groups;
  once = λ other. omega (arith, one_use_more m name other free (is.once other), push_counted (λ (b : BoundName). bytes_eq b.name other) m.names (record { name = name; oid = oid; marked = true }));
}
