-- The versions of a volume's table are those that the records of its files are read as.
use Rattle.std.proofs.Common.{◌≡◌, List, [], ◌∷◌, ◌++◌, map, All, AllPairs, refl}
use Rattle.std.specs.List.{flat_map, AllByRecursion, AllZip, zip}
use Rattle.std.specs.List.Sorted.{IsPermutation}
use Rattle.std.proofs.lemmas.List.Elements.{All-from_recursion, recursion_from_All}
use Rattle.std.proofs.lemmas.List.Kept.{AllPairs-cons}
use Rattle.std.proofs.lemmas.List.Sorted.{All-permutation, IsPermutation-append, IsPermutation-refl, IsPermutation-trans}
use Rattle.object_files.specs.Catalog.{FileEntry}
use Rattle.table_model.specs.declared.table.TableFile.{TableFile}
use Rattle.table_model.specs.Tables.{objects_of, versions_in, versions_of}
use Rattle.table_model.proofs.Lists.{all_joined, pairs_nil}
use Rattle.trees.specs.Trees.{Units}
use Rattle.version_lists.specs.declared.version.Object.{Object}
use Rattle.version_lists.specs.declared.version.Version.{Version}
use Rattle.version_lists.specs.Objects.{IsTree, least_of, objects_formed}
use Rattle.version_lists.specs.Sorted.{Rise}
use Rattle.version_lists.specs.Versions.{unique_of as number_of, AreLinked as VersionsAreLinked}
use Rattle.version_lists.proofs.Forming.{formed_permutation, formed_rise, formed_trees}
use Rattle.version_lists.proofs.Links.{linked_all}
use Rattle.version_lists.proofs.Lists.{pairs_head, pairs_permutation, pairs_tail}
use Rattle.version_lists.proofs.Sorted.{order_permutation}
use Rattle.volume_model.specs.Parts.{HasBodies}
use Rattle.volume_model.specs.Volume.{FileContent, Stored, Volume, content_in, file_of, oid_of, stored_in, table_of, unique_of, version_of, versions_stored}
use Rattle.volume_model.proofs.Links.{linked_olders}
use Rattle.volume_model.proofs.Numbers.{versions_linked}
use Rattle.volume_model.proofs.Places.{Sep}
use Rattle.volume_model.proofs.Standing.{StoredAt, numbers_apart}

-- ---- two lists side by side

zip_joined : {A B : Type 0} (R : A → B → Type 0) (xs us : List A) (ys vs : List B) → AllZip R xs ys → AllZip R us vs → AllZip R (xs ++ us) (ys ++ vs)
zip_joined R [] us [] vs front back = back
zip_joined R [] us (y ∷ ys) vs front back = absurd front
zip_joined R (x ∷ xs) us [] vs front back = absurd front
zip_joined R (x ∷ xs) us (y ∷ ys) vs front back = (front.0, zip_joined R xs us ys vs front.1 back)

zip_each : {A B : Type 0} (R : A → B → Type 0) (P : A → Type 0) (Q : B → Type 0) → ((x : A) (y : B) → R x y → P x → Q y) → (xs : List A) (ys : List B) → AllZip R xs ys → AllByRecursion P xs → AllByRecursion Q ys
zip_each R P Q turn [] [] both each = tt
zip_each R P Q turn [] (y ∷ ys) both each = absurd both
zip_each R P Q turn (x ∷ xs) [] both each = absurd both
zip_each R P Q turn (x ∷ xs) (y ∷ ys) both each = (turn x y both.0 each.0, zip_each R P Q turn xs ys both.1 each.1)

zip_pairs : {A B : Type 0} (R : A → B → Type 0) (P : A → A → Type 0) (Q : B → B → Type 0) → ((x u : A) (y v : B) → R x y → R u v → P x u → Q y v) → (xs : List A) (ys : List B) → AllZip R xs ys → AllPairs P xs → AllPairs Q ys
zip_pairs R P Q turn [] [] both pairs = pairs_nil Q
zip_pairs R P Q turn [] (y ∷ ys) both pairs = absurd both
zip_pairs R P Q turn (x ∷ xs) [] both pairs = absurd both
zip_pairs R P Q turn (x ∷ xs) (y ∷ ys) both pairs =
    AllPairs-cons Q y ys
    (All-from_recursion (Q y) ys (zip_each R (P x) (Q y) (λ u v is p. turn x u y v both.0 is p) xs ys both.1 (recursion_from_All (P x) xs (pairs_head P x xs pairs))))
    (zip_pairs R P Q turn xs ys both.1 (pairs_tail P x xs pairs))

-- ---- records and what they are read as

-- what a version has of the record that it is read off
pub record IsVersionOf (units : Units) (s : Stored) (v : Version) : Type 0 where
  pub oid : v.oid ≡ oid_of s
  pub bytes : v.bytes ≡ content_in units s.body.content

module _ (units : Units) where
  -- the versions of a file in order of place
  abbrev pub versions_read : FileContent → List Version
  versions_read file = map (version_of units file.stored) file.stored

  read_off : (all stored : List Stored) → AllZip (IsVersionOf units) stored (map (version_of units all) stored)
  read_off all [] = tt
  read_off all (s ∷ stored) = (record { oid = refl; bytes = refl }, read_off all stored)

  pub all_read : (files : List FileContent) → AllZip (IsVersionOf units) (flat_map (λ (file : FileContent). file.stored) files) (flat_map versions_read files)
  all_read [] = tt
  all_read (file ∷ files) = zip_joined (IsVersionOf units) file.stored (flat_map (λ (f : FileContent). f.stored) files) (versions_read file) (flat_map versions_read files) (read_off file.stored file.stored) (all_read files)

  -- ---- linked versions

  abbrev pub FileLinked : FileContent → Type 0
  FileLinked file = VersionsAreLinked (versions_stored units file.stored)

  pub files_linked : (files : List FileContent) → AllByRecursion (λ (file : FileContent). AllByRecursion (StoredAt units) file.stored) files → AllByRecursion (λ (file : FileContent). Sep unique_of file.stored) files → AllByRecursion HasBodies files
      → AllByRecursion FileLinked files
  files_linked [] at differ bodies = tt
  files_linked (file ∷ files) at differ bodies = (
    versions_linked units file.stored (numbers_apart units file.stored at.0 differ.0) differ.0 (linked_olders file.stored bodies.0.linked) bodies.0.linked,
    files_linked files at.1 differ.1 bodies.1,
  )

  -- ---- the table's files

  abbrev pub table_files : List FileEntry → List FileContent → List TableFile
  table_files entries files = map (file_of units) (zip entries files)

  objects_rise : (entries : List FileEntry) (files : List FileContent) → AllByRecursion FileLinked files → AllByRecursion (λ (f : TableFile). Rise (map least_of f.objects)) (table_files entries files)
  objects_rise [] files linked = tt
  objects_rise (entry ∷ entries) [] linked = tt
  objects_rise (entry ∷ entries) (file ∷ files) linked = let vs = versions_stored units file.stored in (formed_rise vs (linked_all vs linked.0), objects_rise entries files linked.1)

  are_trees : (entries : List FileEntry) (files : List FileContent) → AllByRecursion FileLinked files → AllByRecursion (λ (f : TableFile). All (λ (o : Object). IsTree o.versions) f.objects) (table_files entries files)
  are_trees [] files linked = tt
  are_trees (entry ∷ entries) [] linked = tt
  are_trees (entry ∷ entries) (file ∷ files) linked = let vs = versions_stored units file.stored in (formed_trees vs (linked_all vs linked.0), are_trees entries files linked.1)

  file_permuted : (entry : FileEntry) (file : FileContent) → FileLinked file → IsPermutation (versions_read file) (versions_in (file_of units (entry, file)))
  file_permuted entry file linked =
      let vs = versions_stored units file.stored in
      IsPermutation-trans (versions_read file) vs (flat_map (λ (o : Object). o.versions) (objects_formed vs)) (order_permutation number_of (versions_read file)) (formed_permutation vs (linked_all vs linked))

  files_permuted : (P : FileEntry → FileContent → Type 0) (entries : List FileEntry) (files : List FileContent) → AllZip P entries files → AllByRecursion FileLinked files
      → IsPermutation (flat_map versions_read files) (flat_map versions_in (table_files entries files))
  files_permuted P [] [] h linked = IsPermutation-refl []
  files_permuted P [] (file ∷ files) h linked = absurd h
  files_permuted P (entry ∷ entries) [] h linked = absurd h
  files_permuted P (entry ∷ entries) (file ∷ files) h linked =
      IsPermutation-append (versions_read file) (versions_in (file_of units (entry, file))) (flat_map versions_read files) (flat_map versions_in (table_files entries files))
      (file_permuted entry file linked.0) (files_permuted P entries files h.1 linked.1)

-- ---- a volume

module _ (units : Units) (v : Volume) (linked : AllByRecursion (FileLinked units) v.files) where
  pub objects_ordered : All (λ (f : TableFile). Rise (map least_of f.objects)) (table_of units v).files
  objects_ordered = All-from_recursion (λ (f : TableFile). Rise (map least_of f.objects)) (table_files units v.catalog.entries v.files) (objects_rise units v.catalog.entries v.files linked)

  pub objects_are_trees : All (λ (o : Object). IsTree o.versions) (objects_of (table_of units v))
  objects_are_trees =
      all_joined (λ (o : Object). IsTree o.versions) (λ (f : TableFile). f.objects) (table_files units v.catalog.entries v.files)
      (All-from_recursion (λ (f : TableFile). All (λ (o : Object). IsTree o.versions) f.objects) (table_files units v.catalog.entries v.files) (are_trees units v.catalog.entries v.files linked))

  pub versions_permuted : (P : FileEntry → FileContent → Type 0) → AllZip P v.catalog.entries v.files → IsPermutation (flat_map (versions_read units) v.files) (versions_of (table_of units v))
  versions_permuted P h = files_permuted units P v.catalog.entries v.files h linked

-- what holds of the records of a volume holds of the versions of its table
module _ (units : Units) (v : Volume) (linked : AllByRecursion (FileLinked units) v.files) (P : FileEntry → FileContent → Type 0) (h : AllZip P v.catalog.entries v.files) where
  pub each_version : (Q : Stored → Type 0) (R : Version → Type 0) → ((s : Stored) (w : Version) → IsVersionOf units s w → Q s → R w) → AllByRecursion Q (stored_in v) → All R (versions_of (table_of units v))
  each_version Q R turn each =
      All-permutation R (flat_map (versions_read units) v.files) (versions_of (table_of units v)) (versions_permuted units v linked P h)
      (All-from_recursion R (flat_map (versions_read units) v.files) (zip_each (IsVersionOf units) Q R turn (stored_in v) (flat_map (versions_read units) v.files) (all_read units v.files) each))

  pub version_pairs : (Q : Stored → Stored → Type 0) (R : Version → Version → Type 0) → ((x y : Version) → R x y → R y x) → ((s t : Stored) (x y : Version) → IsVersionOf units s x → IsVersionOf units t y → Q s t → R x y)
      → AllPairs Q (stored_in v) → AllPairs R (versions_of (table_of units v))
  version_pairs Q R both turn pairs =
      pairs_permutation R both (flat_map (versions_read units) v.files) (versions_of (table_of units v)) (versions_permuted units v linked P h)
      (zip_pairs (IsVersionOf units) Q R turn (stored_in v) (flat_map (versions_read units) v.files) (all_read units v.files) pairs)
