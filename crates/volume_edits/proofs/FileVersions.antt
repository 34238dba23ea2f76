-- The versions of each file of a volume, and those of its table.
use Rattle.std.proofs.Common.{◌≡◌, ℕ, Bool, true, arith, rules, List, [], ◌∷◌, Option, Some, None, refl, sym, ap, subst, ◌∙◌, inl, inr}
use Rattle.std.specs.Prelude.{map, find, ◌==◌}
use Rattle.std.specs.List.{flat_map, AllByRecursion, AllZip, list_any, zip}
use Rattle.std.specs.List.Sorted.{IsPermutation}
use Rattle.std.proofs.lemmas.Bool.{cases_Bool, eqb-true, eq-eqb, false≢true}
use Rattle.std.proofs.lemmas.List.Sorted.{Contains-permutation, IsPermutation-map, IsPermutation-sym}
use Rattle.ex_base.specs.declared.geometry.Geometry.{Geometry}
use Rattle.ex_base.specs.declared.names.Oid.{Oid}
use Rattle.ex_base.proofs.Counts.{differ_permuted}
use Rattle.op_log.specs.declared.record.LogRecord.{LogRecord}
use Rattle.object_files.specs.Catalog.{FileEntry}
use Rattle.trees.specs.Trees.{Units}
use Rattle.version_lists.specs.declared.version.Version.{Version}
use Rattle.version_lists.specs.declared.version.Object.{Object}
use Rattle.version_lists.specs.Objects.{objects_formed}
use Rattle.version_lists.specs.Versions.{unique_of as number_of, has_oid, numbered_in}
use Rattle.version_lists.proofs.Lists.{Has, contains_has, has_contains, has_front, has_back, has_either, has_flat, has_flat_from, find_has, find_none}
use Rattle.version_lists.proofs.Sorted.{Unlike, unlike_rises}
use Rattle.version_lists.proofs.Links.{Linked, linked_all, number_from_oid}
use Rattle.version_lists.proofs.Forming.{formed_permutation}
use Rattle.table_model.specs.declared.table.TableFile.{TableFile}
use Rattle.table_model.specs.Tables.{versions_in}
use Rattle.volume_model.specs.Links.{AreLinked, place_in}
use Rattle.volume_model.specs.Parts.{HasBodies, HasPages, HoldsOf, content_parts}
use Rattle.volume_model.specs.Volume.{Stored, FileContent, Volume, file_of, stored_in, unique_of, version_of, versions_stored}
use Rattle.volume_model.proofs.Links.{linked_olders}
use Rattle.volume_model.proofs.Numbers.{versions_linked}
use Rattle.volume_model.proofs.Places.{Sep, sep_from, sep_one, sep_to}
use Rattle.volume_model.proofs.Standing.{file_at, numbers_apart}
use Rattle.volume_model.proofs.Versions.{has_stored, stored_has, stored_rises}
use Rattle.volume_edits.proofs.Lists.{Paired}
use Rattle.volume_edits.proofs.TurnCounts.{sep_back, sep_both, sep_cross, sep_front}
use Rattle.volume_edits.proofs.Finding.{same_as_oid}
use Rattle.volume_model.proofs.InOrder.{permuted_from, permuted_has}

-- ---- items that differ

unlike_sep : {A : Type 0} (key : A → ℕ) (xs : List A) → Unlike key xs → Sep key xs
unlike_sep key [] u = tt
unlike_sep key (x ∷ xs) u = (u.0, unlike_sep key xs u.1)

pub sep_permuted : {A : Type 0} (key : A → ℕ) (xs ys : List A) → IsPermutation xs ys → Sep key xs → Sep key ys
sep_permuted key xs ys moves apart = sep_from key ys (differ_permuted (map key xs) (map key ys) (IsPermutation-map key xs ys moves) (sep_to key xs apart))

-- ---- a file of a volume

pub record IsFile (f : FileContent) : Type 0 where
  pub places : Sep place_in f.stored
  pub numbers : Sep unique_of f.stored
  pub links : AreLinked f.stored

pub linked_file : (units : Units) (f : FileContent) → IsFile f → Linked (versions_stored units f.stored)
linked_file units f whole = linked_all (versions_stored units f.stored) (versions_linked units f.stored whole.places whole.numbers (linked_olders f.stored whole.links) whole.links)

module _ (units : Units) (e : FileEntry) (f : FileContent) (whole : IsFile f) where
  abbrev vs : List Version
  vs = versions_stored units f.stored

  formed : IsPermutation vs (versions_in (file_of units (e, f)))
  formed = formed_permutation vs (linked_file units f whole)

  -- the file's versions in the table are its records
  pub from_file : (w : Version) → Has (versions_in (file_of units (e, f))) w → (x : Stored) × Has f.stored x × (version_of units f.stored x ≡ w)
  from_file w h = has_stored units f.stored w (contains_has vs w (Contains-permutation (versions_in (file_of units (e, f))) vs w (IsPermutation-sym vs (versions_in (file_of units (e, f))) formed) (has_contains (versions_in (file_of units (e, f))) w h)))

  pub into_file : (x : Stored) → Has f.stored x → Has (versions_in (file_of units (e, f))) (version_of units f.stored x)
  into_file x h = contains_has (versions_in (file_of units (e, f))) (version_of units f.stored x) (Contains-permutation vs (versions_in (file_of units (e, f))) (version_of units f.stored x) formed (has_contains vs (version_of units f.stored x) (stored_has units f.stored x h)))

-- ---- the files of a volume

pub files_are : (units : Units) (entries : List FileEntry) (files : List FileContent) → AllZip (HasPages units) entries files → AllByRecursion HasBodies files → Sep unique_of (flat_map (λ (f : FileContent). f.stored) files) → AllByRecursion IsFile files
files_are units [] [] pages bodies differ = tt
files_are units [] (f ∷ files) pages bodies differ = absurd pages
files_are units (e ∷ entries) [] pages bodies differ = tt
files_are units (e ∷ entries) (f ∷ files) pages bodies differ =
    let own = sep_front unique_of f.stored (flat_map (λ (c : FileContent). c.stored) files) differ in (
      record { places = numbers_apart units f.stored (file_at units e f pages.0 bodies.0) own; numbers = own; links = bodies.0.linked },
      files_are units entries files pages.1 bodies.1 (sep_back unique_of f.stored (flat_map (λ (c : FileContent). c.stored) files) differ),
    )

-- two records of one number are one, of one file
pub one_record : (files : List FileContent) → Sep unique_of (flat_map (λ (f : FileContent). f.stored) files) → (f c : FileContent) (x y : Stored) → Has files f → Has files c → Has f.stored x → Has c.stored y → unique_of x ≡ unique_of y → f ≡ c
one_record [] differ f c x y h k a b same = absurd h
one_record (d ∷ files) differ f c x y (inl h) (inl k) a b same = sym h ∙ k
one_record (d ∷ files) differ f c x y (inl h) (inr k) a b same =
    absurd (sep_cross unique_of d.stored (flat_map (λ (f : FileContent). f.stored) files) x y differ (subst (λ (z : FileContent). Has z.stored x) (sym h) a) (has_flat (λ (f : FileContent). f.stored) files c y k b) same)
one_record (d ∷ files) differ f c x y (inr h) (inl k) a b same =
    absurd (sep_cross unique_of d.stored (flat_map (λ (f : FileContent). f.stored) files) y x differ (subst (λ (z : FileContent). Has z.stored y) (sym k) b) (has_flat (λ (f : FileContent). f.stored) files f x h a) (sym same))
one_record (d ∷ files) differ f c x y (inr h) (inr k) a b same = one_record files (sep_back unique_of d.stored (flat_map (λ (f : FileContent). f.stored) files) differ) f c x y h k a b same

-- a version of a table as a record of a file
pub record Read (units : Units) (files : List FileContent) (w : Version) : Type 0 where
  pub f : FileContent
  pub file : Has files f
  pub x : Stored
  pub stored : Has f.stored x
  pub is : version_of units f.stored x ≡ w

module _ (units : Units) where
  abbrev pub all_of : List FileEntry → List FileContent → List Version
  all_of entries files = flat_map versions_in (map (file_of units) (zip entries files))

  pub from_table : (entries : List FileEntry) (files : List FileContent) → AllByRecursion IsFile files → (w : Version) → Has (all_of entries files) w → Read units files w
  from_table [] files whole w h = absurd h
  from_table (e ∷ entries) [] whole w h = absurd h
  from_table (e ∷ entries) (f ∷ files) whole w h = elim (has_either (versions_in (file_of units (e, f))) (all_of entries files) w h) [
    | inl here ↦ let own = from_file units e f whole.0 w here in record { f = f; file = inl refl; x = own.0; stored = own.1; is = own.2 }
    | inr later ↦ let rest = from_table entries files whole.1 w later in record { f = rest.f; file = inr rest.file; x = rest.x; stored = rest.stored; is = rest.is }
  ]

  pub into_table : (entries : List FileEntry) (files : List FileContent) → Paired entries files → AllByRecursion IsFile files → (f : FileContent) (x : Stored) → Has files f → Has f.stored x → Has (all_of entries files) (version_of units f.stored x)
  into_table [] [] paired whole f x h k = absurd h
  into_table [] (c ∷ files) paired whole f x h k = absurd paired
  into_table (e ∷ entries) [] paired whole f x h k = absurd h
  into_table (e ∷ entries) (c ∷ files) paired whole f x (inl h) k =
      has_front (versions_in (file_of units (e, c))) (all_of entries files) (version_of units f.stored x)
      (subst (λ (d : FileContent). Has (versions_in (file_of units (e, c))) (version_of units d.stored x)) h (into_file units e c whole.0 x (subst (λ (d : FileContent). Has d.stored x) (sym h) k)))
  into_table (e ∷ entries) (c ∷ files) paired whole f x (inr h) k =
      has_back (versions_in (file_of units (e, c))) (all_of entries files) (version_of units f.stored x) (into_table entries files paired.1 whole.1 f x h k)

  -- no two versions have one number
  file_apart : (e : FileEntry) (f : FileContent) → IsFile f → Sep number_of (versions_in (file_of units (e, f)))
  file_apart e f whole =
      sep_permuted number_of (versions_stored units f.stored) (versions_in (file_of units (e, f))) (formed units e f whole)
      (unlike_sep number_of (versions_stored units f.stored) (unlike_rises number_of (versions_stored units f.stored) (stored_rises units f.stored whole.numbers)))

  pub table_apart : (entries : List FileEntry) (files : List FileContent) → AllByRecursion IsFile files → Sep unique_of (flat_map (λ (f : FileContent). f.stored) files) → Sep number_of (all_of entries files)
  table_apart [] files whole differ = tt
  table_apart (e ∷ entries) [] whole differ = tt
  table_apart (e ∷ entries) (f ∷ files) whole differ =
      sep_both number_of (versions_in (file_of units (e, f))) (all_of entries files) (file_apart e f whole.0) (table_apart entries files whole.1 (sep_back unique_of f.stored (flat_map (λ (c : FileContent). c.stored) files) differ))
      (λ v w h k same.
      let own = from_file units e f whole.0 v h in
      let other = from_table entries files whole.1 w k in
      sep_cross unique_of f.stored (flat_map (λ (c : FileContent). c.stored) files) own.0 other.x differ own.1 (has_flat (λ (c : FileContent). c.stored) files other.f other.x other.file other.stored) (ap number_of own.2 ∙ same ∙ sym (ap number_of other.is)))

-- ---- the objects of a table

pub any_has : {A : Type 0} (p : A → Bool) (x : A) (xs : List A) → Has xs x → p x ≡ true → list_any p xs ≡ true
any_has p x [] h t = absurd h
any_has {A = A} p x (y ∷ xs) (inl e) t = let here : p y ≡ true = subst (λ (z : A). p z ≡ true) (sym e) t in search (rules, here)
any_has p x (y ∷ xs) (inr h) t = let rest = any_has p x xs h t in grind (arith, rest)

pub has_any : {A : Type 0} (p : A → Bool) (xs : List A) → list_any p xs ≡ true → (x : A) × Has xs x × (p x ≡ true)
has_any p [] t = absurd (false≢true t)
has_any p (y ∷ xs) t = elim (cases_Bool (p y)) [
  | inl here ↦ (y, inl refl, here)
  | inr other ↦
      let rest = has_any p xs (let r : list_any p xs ≡ true = grind (arith, t, other) in r) in
      (rest.0, inr rest.1, rest.2)
]

module _ (units : Units) where
  abbrev pub objects_in : List FileEntry → List FileContent → List Object
  objects_in entries files = flat_map (λ (f : TableFile). f.objects) (map (file_of units) (zip entries files))

  pub from_objects : (entries : List FileEntry) (files : List FileContent) → (o : Object) → Has (objects_in entries files) o → (f : FileContent) × Has files f × Has (objects_formed (versions_stored units f.stored)) o
  from_objects [] files o h = absurd h
  from_objects (e ∷ entries) [] o h = absurd h
  from_objects (e ∷ entries) (f ∷ files) o h = elim (has_either (objects_formed (versions_stored units f.stored)) (objects_in entries files) o h) [
    | inl here ↦ (f, inl refl, here)
    | inr later ↦ let rest = from_objects entries files o later in (rest.0, inr rest.1, rest.2)
  ]

  pub into_objects : (entries : List FileEntry) (files : List FileContent) → Paired entries files → (f : FileContent) (o : Object) → Has files f → Has (objects_formed (versions_stored units f.stored)) o → Has (objects_in entries files) o
  into_objects [] [] paired f o h k = absurd h
  into_objects [] (c ∷ files) paired f o h k = absurd paired
  into_objects (e ∷ entries) [] paired f o h k = absurd h
  into_objects (e ∷ entries) (c ∷ files) paired f o (inl h) k =
      has_front (objects_formed (versions_stored units c.stored)) (objects_in entries files) o (subst (λ (d : FileContent). Has (objects_formed (versions_stored units d.stored)) o) (sym h) k)
  into_objects (e ∷ entries) (c ∷ files) paired f o (inr h) k = has_back (objects_formed (versions_stored units c.stored)) (objects_in entries files) o (into_objects entries files paired.1 f o h k)

  -- a version of an object of a file is one of the file's, and the other way round
  pub into_formed : (f : FileContent) → IsFile f → (o : Object) (w : Version) → Has (objects_formed (versions_stored units f.stored)) o → Has o.versions w → Has (versions_stored units f.stored) w
  into_formed f whole o w h k =
      permuted_from (versions_stored units f.stored) (flat_map (λ (x : Object). x.versions) (objects_formed (versions_stored units f.stored))) (formed_permutation (versions_stored units f.stored) (linked_file units f whole)) w
      (has_flat (λ (x : Object). x.versions) (objects_formed (versions_stored units f.stored)) o w h k)

  pub out_of_formed : (f : FileContent) → IsFile f → (w : Version) → Has (versions_stored units f.stored) w → (o : Object) × Has (objects_formed (versions_stored units f.stored)) o × Has o.versions w
  out_of_formed f whole w h =
      has_flat_from (λ (x : Object). x.versions) (objects_formed (versions_stored units f.stored)) w
      (permuted_has (versions_stored units f.stored) (flat_map (λ (x : Object). x.versions) (objects_formed (versions_stored units f.stored))) (formed_permutation (versions_stored units f.stored) (linked_file units f whole)) w h)

-- ---- a version that is sought

pub found_by_oid : (oid : Oid) (vs : List Version) (w : Version) → Sep number_of vs → Has vs w → w.oid ≡ oid → find (has_oid oid) vs ≡ Some w
found_by_oid oid vs w apart h same = by (find (has_oid oid) vs) refl
  where
    by : (o : Option Version) → find (has_oid oid) vs ≡ o → find (has_oid oid) vs ≡ Some w
    by None none = absurd (false≢true (sym (find_none (has_oid oid) vs none w h) ∙ same_as_oid w.oid oid same))
    by (Some u) some = let r = find_has (has_oid oid) vs u some in some ∙ ap Some (sep_one number_of vs u w apart r.0 h (number_from_oid oid u r.1 ∙ sym (ap (λ (o : Oid). o.unique) same)))

pub found_by_number : (vs : List Version) (w : Version) (n : ℕ) → Sep number_of vs → Has vs w → number_of w ≡ n → numbered_in vs (Some n) ≡ Some w
found_by_number vs w n apart h same = by (numbered_in vs (Some n)) refl
  where
    by : (o : Option Version) → numbered_in vs (Some n) ≡ o → numbered_in vs (Some n) ≡ Some w
    by None none = absurd (false≢true (sym (find_none (λ v. number_of v == n) vs none w h) ∙ eq-eqb (number_of w) n same))
    by (Some u) some = let r = find_has (λ v. number_of v == n) vs u some in some ∙ ap Some (sep_one number_of vs u w apart r.0 h (eqb-true (number_of u) n r.1 ∙ sym same))

-- ---- of a volume

module _ (g : Geometry) (records : List LogRecord) (units : Units) (v : Volume) (parts : AllByRecursion (HoldsOf g records units v) content_parts) where
  pub numbers_differ : Sep unique_of (stored_in v)
  numbers_differ = sep_from unique_of (stored_in v) parts.1.1.1.1.1.1.0.differ

  pub whole_files : AllByRecursion IsFile v.files
  whole_files = files_are units v.catalog.entries v.files parts.1.1.0 parts.1.1.1.0 numbers_differ
