-- The records of an object of a volume's table: of which object a record is, and that records of one object are of one in whichever way objects are told.
use Rattle.std.proofs.Common.{◌≡◌, ◌≢◌, ℕ, Bool, true, List, [], ◌∷◌, ◌++◌, length, map, filter, Option, Some, None, AllPairs, append_assoc, refl, sym, subst, ap, ◌∙◌, inl, inr, true≢false, eqb-true, eq-eqb}
use Rattle.std.specs.Prelude.{find, ◌==◌}
use Rattle.std.specs.List.{AllByRecursion, flat_map, zip}
use Rattle.std.specs.Option.{is_some}
use Rattle.ex_base.specs.declared.geometry.Geometry.{Geometry}
use Rattle.op_log.specs.declared.record.LogRecord.{LogRecord}
use Rattle.table_model.specs.declared.table.Table.{Table}
use Rattle.table_model.specs.declared.table.TableFile.{TableFile}
use Rattle.table_model.proofs.Lists.{pairs_back}
use Rattle.table_model.specs.Tables.{objects_of, versions_of}
use Rattle.trees.specs.Trees.{Units}
use Rattle.version_lists.specs.declared.version.Object.{Object}
use Rattle.version_lists.specs.declared.version.Version.{Version}
use Rattle.version_lists.specs.Objects.{least_of, object_from}
use Rattle.version_lists.specs.Versions.{Differ, first_number, is_first, unique_of as number_of}
use Rattle.version_lists.proofs.Lists.{Has, all_has, find_has, find_none, has_back, has_either, has_filter_from, has_flat, has_flat_from, has_map_from, pairs_head, pairs_tail}
use Rattle.version_lists.proofs.Sorted.{order_has_from}
use Rattle.volume_model.specs.Links.{HasObjects}
use Rattle.volume_model.specs.Parts.{HoldsOf, content_parts}
use Rattle.volume_model.specs.Volume.{FileContent, Stored, Volume, file_of, stored_in, table_of, unique_of, version_of, versions_stored}
use Rattle.volume_model.proofs.Places.{Sep, sep_from, sep_one}
use Rattle.volume_model.proofs.Versions.{has_stored}
use Rattle.volume_moves.specs.Moves.{AreOfOneObject}
use Rattle.history_volumes.proofs.Numbers.{second_has}
use Rattle.history_volumes.proofs.OneObject.{first_record, in_object, label, object_there}
use Rattle.packing.specs.Dense.{is_of}

-- ---- whether a record is of an object

abbrev has_number : ℕ → Version → Bool
has_number n w = number_of w == n

pub of_number : (o : Object) (s : Stored) → Has (map number_of o.versions) (unique_of s) → is_of o s ≡ true
of_number o s has = by (find (has_number (unique_of s)) o.versions) refl
  where
    by : (r : Option Version) → find (has_number (unique_of s)) o.versions ≡ r → is_some (find (has_number (unique_of s)) o.versions) ≡ true
    by None none =
        let w = has_map_from number_of o.versions (unique_of s) has in
        absurd (true≢false (sym (eq-eqb (number_of w.0) (unique_of s) w.2) ∙ find_none (has_number (unique_of s)) o.versions none w.0 w.1))
    by (Some w) some = ap is_some some

pub number_of_record : (o : Object) (s : Stored) → is_of o s ≡ true → (w : Version) × Has o.versions w × (number_of w ≡ unique_of s)
number_of_record o s is = by (find (has_number (unique_of s)) o.versions) refl
  where
    by : (r : Option Version) → find (has_number (unique_of s)) o.versions ≡ r → (w : Version) × Has o.versions w × (number_of w ≡ unique_of s)
    by None none = absurd (true≢false (sym is ∙ ap is_some none))
    by (Some w) some =
        let found = find_has (has_number (unique_of s)) o.versions w some in
        (w, found.0, eqb-true (number_of w) (unique_of s) found.1)

-- a record of the same number is of the same object
pub of_same_number : (o : Object) (s t : Stored) → unique_of s ≡ unique_of t → is_of o s ≡ is_of o t
of_same_number o s t same = ap (λ (n : ℕ). is_some (find (has_number n) o.versions)) same

-- ---- two objects of one table have no number in common

across : {A : Type 0} (R : A → A → Type 0) (xs ys : List A) (x y : A) → AllPairs R (xs ++ ys) → Has xs x → Has ys y → R x y
across R [] ys x y all has later = absurd has
across {A} R (a ∷ xs) ys x y all (inl same) later = subst (λ (z : A). R z y) same (all_has (R a) (xs ++ ys) (pairs_head R a (xs ++ ys) all) y (has_back xs ys y later))
across R (a ∷ xs) ys x y all (inr rest) later = across R xs ys x y (pairs_tail R a (xs ++ ys) all) rest later

abbrev versions_at : Object → List Version
versions_at o = o.versions

flat_front : {A B : Type 0} (h : A → List B) (xs ys : List A) → flat_map h (xs ++ ys) ≡ flat_map h xs ++ flat_map h ys
flat_front h [] ys = refl
flat_front {A} {B} h (x ∷ xs) ys = ap (λ (r : List B). h x ++ r) (flat_front h xs ys) ∙ sym (append_assoc (h x) (flat_map h xs) (flat_map h ys))

joined : {A B C : Type 0} (f : A → List B) (h : B → List C) (xs : List A) → flat_map (λ (x : A). flat_map h (f x)) xs ≡ flat_map h (flat_map f xs)
joined f h [] = refl
joined {A} {B} {C} f h (x ∷ xs) = ap (λ (r : List C). flat_map h (f x) ++ r) (joined f h xs) ∙ sym (flat_front h (f x) (flat_map f xs))

-- all versions of a table, object by object
pub versions_by_object : (t : Table) → AllPairs Differ (versions_of t) → AllPairs Differ (flat_map versions_at (objects_of t))
versions_by_object t distinct = subst (AllPairs Differ) (joined (λ (f : TableFile). f.objects) versions_at t.files) distinct

pub numbers_across : (front back : List Object) (one other : Object) (s : Stored) → AllPairs Differ (flat_map versions_at (front ++ back)) → Has front one → Has back other → is_of one s ≡ true → is_of other s ≡ true → ⊥
numbers_across front back one other s differ here there is also =
    let a = number_of_record one s is in
    let b = number_of_record other s also in
    across Differ (flat_map versions_at front) (flat_map versions_at back) a.0 b.0 (subst (AllPairs Differ) (flat_front versions_at front back) differ)
    (has_flat versions_at front one a.0 here a.1) (has_flat versions_at back other b.0 there b.1) (a.2 ∙ sym b.2)

-- behind those before it
pub numbers_behind : (before later : List Object) (object other : Object) (s : Stored) → AllPairs Differ (flat_map versions_at (before ++ object ∷ later)) → Has later other → is_of object s ≡ true → is_of other s ≡ true → ⊥
numbers_behind before later object other s differ there is also =
    numbers_across (object ∷ []) later object other s
    (pairs_back Differ (flat_map versions_at before) (flat_map versions_at (object ∷ later)) (subst (AllPairs Differ) (flat_front versions_at before (object ∷ later)) differ))
    (inl refl) there is also

-- an object that has a number of another one is that
pub same_object : (before later : List Object) (object other : Object) (s : Stored) → AllPairs Differ (flat_map versions_at (before ++ object ∷ later)) → Has (before ++ object ∷ later) other → is_of object s ≡ true → is_of other s ≡ true → object ≡ other
same_object before later object other s differ there is also = elim (has_either before (object ∷ later) other there) [
  | inl front ↦ absurd (numbers_across before (object ∷ later) other object s differ front (inl refl) also is)
  | inr (inl same) ↦ same
  | inr (inr behind) ↦ absurd (numbers_behind before later object other s differ behind is also)
]

-- ---- records of one object

module _ (g : Geometry) (records : List LogRecord) (units : Units) (v : Volume) (parts : AllByRecursion (HoldsOf g records units v) content_parts) where
  differ : Sep unique_of (stored_in v)
  differ = sep_from unique_of (stored_in v) parts.1.1.1.1.1.1.0.differ

  in_volume : (f : FileContent) → Has v.files f → (s : Stored) → Has f.stored s → Has (stored_in v) s
  in_volume f there s h = has_flat (λ (x : FileContent). x.stored) v.files f s there h

  -- each record is of an object of the table
  pub of_some : (s : Stored) → Has (stored_in v) s → (o : Object) × Has (objects_of (table_of units v)) o × (is_of o s ≡ true)
  of_some s h =
      let at = has_flat_from (λ (f : FileContent). f.stored) v.files s h in
      let first = first_record g records units v parts at.0 at.1 s at.2 in
      let o = object_from (versions_stored units at.0.stored) (version_of units at.0.stored first.first) in
      (o, object_there g records units v parts at.0 at.1 first.first first.here first.none, of_number o s (in_object g records units v parts at.0 at.1 s at.2 first.first refl))

  -- the record that an object of the table is reached from
  pub record FirstOf (o : Object) : Type 0 where
    pub file : FileContent
    pub there : Has v.files file
    pub first : Stored
    pub here : Has file.stored first
    pub is : o ≡ object_from (versions_stored units file.stored) (version_of units file.stored first)

  first_of : (o : Object) → Has (objects_of (table_of units v)) o → FirstOf o
  first_of o h =
      let at = has_flat_from (λ (f : TableFile). f.objects) (table_of units v).files o h in
      let row = has_map_from (file_of units) (zip v.catalog.entries v.files) at.0 at.1 in
      let file = row.0.1 in
      let vs = versions_stored units file.stored in
      let inside : Has (file_of units row.0).objects o = subst (λ (t : TableFile). Has t.objects o) (sym row.2) at.2 in
      let made = has_map_from (object_from vs) (filter is_first vs) o (order_has_from least_of (map (object_from vs) (filter is_first vs)) o inside) in
      let version = has_filter_from is_first vs made.0 made.1 in
      let first = has_stored units file.stored made.0 version.0 in
      record {
        file = file;
        there = second_has v.catalog.entries v.files row.0 row.1;
        first = first.0;
        here = first.1;
        is = ◌∙◌ {c = object_from vs (version_of units file.stored first.0)} (sym made.2) (ap (object_from vs) {y = version_of units file.stored first.0} (sym {a = version_of units file.stored first.0} first.2));
      }

  label_is : (o : Object) (of : FirstOf o) (s : Stored) → Has (stored_in v) s → is_of o s ≡ true → label g records units v parts s.place ≡ label g records units v parts of.first.place
  label_is o of s h is =
      let vs = versions_stored units of.file.stored in
      let wf = version_of units of.file.stored of.first in
      let named = number_of_record o s is in
      let inside : Has (filter (λ (w : Version). first_number (length vs) vs w == number_of wf) vs) named.0 = subst (λ (x : Object). Has x.versions named.0) of.is named.1 in
      let both = has_filter_from (λ (w : Version). first_number (length vs) vs w == number_of wf) vs named.0 inside in
      let t = has_stored units of.file.stored named.0 both.0 in
      let same : t.0 ≡ s = sep_one unique_of (stored_in v) t.0 s differ (in_volume of.file of.there t.0 t.1) h (ap number_of t.2 ∙ named.2) in
      let mine : Has of.file.stored s = subst (Has of.file.stored) same t.1 in
      let up = first_record g records units v parts of.file of.there s mine in
      let reads : version_of units of.file.stored s ≡ named.0 = sym (ap (version_of units of.file.stored) same) ∙ t.2 in
      let number : unique_of up.first ≡ unique_of of.first = sym up.number ∙ ap (first_number (length vs) vs) reads ∙ eqb-true (first_number (length vs) vs named.0) (number_of wf) both.1 in
      let one : up.first ≡ of.first = sep_one unique_of (stored_in v) up.first of.first differ (in_volume of.file of.there up.first up.here) (in_volume of.file of.there of.first of.here) number in
      sym up.same ∙ ap (λ (x : Stored). label g records units v parts x.place) one

  pub same_label : (o : Object) → Has (objects_of (table_of units v)) o → (s t : Stored) → Has (stored_in v) s → Has (stored_in v) t → is_of o s ≡ true → is_of o t ≡ true
      → label g records units v parts s.place ≡ label g records units v parts t.place
  same_label o h s t one two is also = label_is o (first_of o h) s one is ∙ sym (label_is o (first_of o h) t two also)

-- in whichever way objects are told
module _ (g : Geometry) (records : List LogRecord) (units : Units) (v : Volume) (parts : AllByRecursion (HoldsOf g records units v) content_parts) where
  abbrev parts_told : HasObjects units (stored_in v) → AllByRecursion (HoldsOf g records units v) content_parts
  parts_told told = (parts.0, (parts.1.0, (parts.1.1.0, (parts.1.1.1.0, (record { named = parts.1.1.1.1.0.named; no_file_page = parts.1.1.1.1.0.no_file_page; objects = told }, parts.1.1.1.1.1)))))

  pub of_one : (o : Object) → Has (objects_of (table_of units v)) o → (s t : Stored) → Has (stored_in v) s → Has (stored_in v) t → is_of o s ≡ true → is_of o t ≡ true → AreOfOneObject units (stored_in v) s.place t.place
  of_one o h s t one two is also = λ told. same_label g records units v (parts_told told) o h s t one two is also
