-- Changes of a version's bytes that make the same table.
use Rattle.std.proofs.Common.{◌≡◌, ℕ, ◌+◌, Bool, true, cond, List, [], ◌∷◌, ◌++◌, map, take, drop, refl, sym, ap, ◌∙◌, arith, inl, inr}
use Rattle.std.specs.List.{AllByRecursion, zip}
use Rattle.std.proofs.lemmas.Bool.{cases_Bool}
use Rattle.std.proofs.lemmas.List.{append-nil, take-append-drop}
use Rattle.ex_base.specs.declared.geometry.Geometry.{Geometry}
use Rattle.ex_base.specs.declared.names.Oid.{Oid}
use Rattle.ex_base.proofs.Members.{In, each_in}
use Rattle.ex_base.proofs.Each.{each_from, each_of, each_parted, map_same}
use Rattle.object_files.specs.Catalog.{FileEntry}
use Rattle.op_log.specs.declared.record.LogRecord.{LogRecord}
use Rattle.table_model.specs.declared.table.Table.{Table}
use Rattle.table_model.specs.declared.table.TableFile.{TableFile}
use Rattle.table_model.specs.Tables.{all_in, versions_in, versions_of, with_bytes, with_versions}
use Rattle.trees.specs.Trees.{Units}
use Rattle.version_lists.specs.declared.version.Object.{Object}
use Rattle.version_lists.specs.declared.version.Version.{Version}
use Rattle.version_lists.specs.Changes.{bytes_changed, edited_in}
use Rattle.version_lists.specs.Objects.{objects_formed}
use Rattle.version_lists.specs.Sorted.{in_order}
use Rattle.version_lists.specs.Versions.{has_oid, unique_of}
use Rattle.version_lists.proofs.Forming.{all_versions}
use Rattle.version_lists.proofs.Lists.{contains_has, has_contains}
use Rattle.version_lists.proofs.Sorted.{order_has_from}
use Rattle.versions.specs.Versions.{Change, Inserts, Appends, Replaces, Deletes, changed, count_of}
use Rattle.volume_edits.proofs.FileVersions.{IsFile, linked_file, whole_files}
use Rattle.volume_model.specs.Parts.{HoldsOf, content_parts}
use Rattle.volume_model.specs.Volume.{FileContent, Volume, file_of, table_of, versions_stored}

-- a change of no bytes leaves the bytes as they are
pub nothing_changed : (change : Change) → count_of change ≡ 0 → (bytes : List ℕ) → changed change bytes ≡ bytes
nothing_changed (Inserts pos []) none bytes = ap (λ (front : List ℕ). front ++ drop pos bytes) (append-nil (take pos bytes)) ∙ take-append-drop pos bytes
nothing_changed (Inserts pos (x ∷ given)) none bytes = absurd (omega (arith, none))
nothing_changed (Appends []) none bytes = append-nil bytes
nothing_changed (Appends (x ∷ given)) none bytes = absurd (omega (arith, none))
nothing_changed (Replaces pos []) none bytes =
    let same : pos + 0 ≡ pos = omega arith in
    ap (λ (n : ℕ). take pos bytes ++ [] ++ drop n bytes) same ∙ ap (λ (front : List ℕ). front ++ drop pos bytes) (append-nil (take pos bytes)) ∙ take-append-drop pos bytes
nothing_changed (Replaces pos (x ∷ given)) none bytes = absurd (omega (arith, none))
nothing_changed (Deletes pos len) none bytes =
    let same : pos + len ≡ pos = omega (arith, none) in
    ap (λ (n : ℕ). take pos bytes ++ drop n bytes) same ∙ take-append-drop pos bytes

-- what holds of each item holds of each in an order of them
in_order_each : {A : Type 0} (P : A → Type 0) (key : A → ℕ) (xs : List A) → AllByRecursion P xs → AllByRecursion P (in_order key xs)
in_order_each P key xs each = each_from P (in_order key xs) (λ x c. each_of P xs x each (has_contains xs x (order_has_from key xs x (contains_has (in_order key xs) x c))))

-- ---- two changes that agree on the versions under an OID

module _ (oid : Oid) (change other : List ℕ → List ℕ) where
  abbrev Agrees : Version → Type 0
  Agrees w = bytes_changed oid change w ≡ bytes_changed oid other w

  version_agrees : (w : Version) → (has_oid oid w ≡ true → change w.bytes ≡ other w.bytes) → Agrees w
  version_agrees w same = elim (cases_Bool (has_oid oid w)) [
    | inl has ↦
        ap (λ (b : Bool). cond b (record w { bytes = change w.bytes }) w) has
        ∙ ap (λ (bs : List ℕ). record w { bytes = bs }) (same has)
        ∙ ap (λ (b : Bool). cond b (record w { bytes = other w.bytes }) w) (sym has)
    | inr lacks ↦
        ap (λ (b : Bool). cond b (record w { bytes = change w.bytes }) w) lacks
        ∙ ap (λ (b : Bool). cond b (record w { bytes = other w.bytes }) w) (sym lacks)
  ]

  file_agrees : (f : TableFile) → AllByRecursion Agrees (versions_in f) → with_versions (edited_in oid change) f ≡ with_versions (edited_in oid other) f
  file_agrees f each =
      ap (λ (vs : List Version). record f { objects = objects_formed vs })
      (map_same (bytes_changed oid other) (bytes_changed oid change) Agrees (all_in f) (λ w same. same) (in_order_each Agrees unique_of (versions_in f) each))

  pub bytes_agree : (t : Table) → ((w : Version) → In w (versions_of t) → has_oid oid w ≡ true → change w.bytes ≡ other w.bytes) → with_bytes oid change t ≡ with_bytes oid other t
  bytes_agree t same =
      ap (λ (fs : List TableFile). record t { files = fs })
      (map_same (with_versions (edited_in oid other)) (with_versions (edited_in oid change)) (λ (f : TableFile). AllByRecursion Agrees (versions_in f)) t.files file_agrees
      (each_parted Agrees versions_in t.files (each_in Agrees (versions_of t) (λ w inside. version_agrees w (same w inside)))))

-- ---- a change that leaves all bytes as they are

-- the file's objects are those that its versions form
abbrev pub IsFormed : TableFile → Type 0
IsFormed f = objects_formed (all_in f) ≡ f.objects

module _ (oid : Oid) (change : List ℕ → List ℕ) (same : (bytes : List ℕ) → change bytes ≡ bytes) where
  version_stays : (w : Version) → bytes_changed oid change w ≡ w
  version_stays w = elim (cases_Bool (has_oid oid w)) [
    | inl has ↦ ap (λ (b : Bool). cond b (record w { bytes = change w.bytes }) w) has ∙ ap (λ (bs : List ℕ). record w { bytes = bs }) (same w.bytes)
    | inr lacks ↦ ap (λ (b : Bool). cond b (record w { bytes = change w.bytes }) w) lacks
  ]

  versions_stay : (vs : List Version) → edited_in oid change vs ≡ vs
  versions_stay [] = refl
  versions_stay (w ∷ vs) = let here = version_stays w in let rest = versions_stay vs in cc (here, rest)

  file_stays : (f : TableFile) → IsFormed f → with_versions (edited_in oid change) f ≡ f
  file_stays f formed = ap (λ (vs : List Version). record f { objects = objects_formed vs }) (versions_stay (all_in f)) ∙ ap (λ (os : List Object). record f { objects = os }) formed

  files_stay : (fs : List TableFile) → AllByRecursion IsFormed fs → map (with_versions (edited_in oid change)) fs ≡ fs
  files_stay [] formed = refl
  files_stay (f ∷ fs) formed = let here = file_stays f formed.0 in let rest = files_stay fs formed.1 in cc (here, rest)

  pub bytes_stay : (t : Table) → AllByRecursion IsFormed t.files → with_bytes oid change t ≡ t
  bytes_stay t formed = ap (λ (fs : List TableFile). record t { files = fs }) (files_stay t.files formed)

-- ---- the table of a volume

files_formed : (units : Units) (entries : List FileEntry) (files : List FileContent) → AllByRecursion IsFile files → AllByRecursion IsFormed (map (file_of units) (zip entries files))
files_formed units [] files whole = tt
files_formed units (e ∷ entries) [] whole = tt
files_formed units (e ∷ entries) (f ∷ files) whole = (ap objects_formed (all_versions (versions_stored units f.stored) (linked_file units f whole.0)), files_formed units entries files whole.1)

-- the objects of each file of a volume's table are those that its versions form
pub table_formed : (g : Geometry) (records : List LogRecord) (units : Units) (v : Volume) → AllByRecursion (HoldsOf g records units v) content_parts → AllByRecursion IsFormed (table_of units v).files
table_formed g records units v parts = files_formed units v.catalog.entries v.files (whole_files g records units v parts)
