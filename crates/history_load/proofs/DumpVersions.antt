-- What a dump says of records that were written: each is a version of the history, and of the table.
use Rattle.std.proofs.Common.{◌≡◌, ℕ, List, [], ◌∷◌, map, AllPairs, refl, sym, ap, ◌∙◌, arith}
use Rattle.std.specs.List.{AllZip, flat_map, zip}
use Rattle.std.proofs.lemmas.List.{map-append}
use Rattle.ex_base.specs.declared.geometry.Geometry.{Geometry}
use Rattle.ex_base.specs.Order.{AllDiffer}
use Rattle.ex_base.specs.Ports.{times}
use Rattle.ex_base.proofs.Counts.{differ_once, once_differ, times-append, times_permuted}
use Rattle.object_files.specs.Catalog.{FileEntry}
use Rattle.table_model.specs.declared.table.Table.{Table}
use Rattle.table_model.specs.declared.table.TableFile.{TableFile}
use Rattle.table_model.specs.Tables.{all_in, objects_of, versions_in, versions_of}
use Rattle.trees.specs.Trees.{Units}
use Rattle.version_lists.specs.declared.version.Object.{Object}
use Rattle.version_lists.specs.declared.version.Version.{Version}
use Rattle.version_lists.specs.Objects.{IsTree}
use Rattle.version_lists.specs.Sorted.{in_order}
use Rattle.version_lists.specs.Versions.{Differ, unique_of as number_of}
use Rattle.version_lists.proofs.Lists.{Has, all_has, has_flat, has_flat_from, pairs_head, pairs_tail}
use Rattle.version_lists.proofs.Sorted.{order_has, order_has_from, order_map, order_permutation}
use Rattle.volume_model.specs.Parts.{HasPages}
use Rattle.volume_model.specs.Volume.{FileContent, Stored, unique_of}
use Rattle.volume_model.proofs.Places.{Sep, sep_to}
use Rattle.history_model.specs.Dumps.{IsFileOf, IsHistoryOf, IsVersionOf}
use Rattle.history_model.specs.History.{History, HistoryFile, HistoryVersion}
use Rattle.history_volumes.specs.Histories.{IsFileOn, IsVersionOn}
use Rattle.history_volumes.proofs.Numbers.{found_zip, has_second, zip_found}

-- ---- numbers of lists

-- they stand as often where the items are put in their order
ordered_times : {A : Type 0} (key : A → ℕ) (xs : List A) (n : ℕ) → times n (map key (in_order key xs)) ≡ times n (map key xs)
ordered_times key xs n =
    ap (times n) (sym (order_map key (λ (m : ℕ). m) key xs (λ x. refl))) ∙ times_permuted n (map key xs) (in_order (λ (m : ℕ). m) (map key xs)) (order_permutation (λ (m : ℕ). m) (map key xs))

-- and are the same where they are side by side
zip_same : {A B : Type 0} (R : A → B → Type 0) (f : A → ℕ) (k : B → ℕ) (xs : List A) (ys : List B) → ((x : A) (y : B) → R x y → f x ≡ k y) → AllZip R xs ys → map f xs ≡ map k ys
zip_same R f k [] [] same both = refl
zip_same R f k [] (y ∷ ys) same both = absurd both
zip_same R f k (x ∷ xs) [] same both = absurd both
zip_same R f k (x ∷ xs) (y ∷ ys) same both = let here = same x y both.0 in let rest = zip_same R f k xs ys same both.1 in cc (here, rest)

sep_pairs : (vs : List Version) → AllPairs Differ vs → Sep number_of vs
sep_pairs [] all = tt
sep_pairs (v ∷ vs) all = (all_has (Differ v) vs (pairs_head Differ v vs all), sep_pairs vs (pairs_tail Differ v vs all))

module _ (g : Geometry) (h : History) (t : Table) (leaf node : ℕ → ℕ) (of : IsHistoryOf g h t) where
  -- ---- versions of the table

  pub differ : Sep number_of (versions_of t)
  differ = sep_pairs (versions_of t) of.rules.distinct

  pub in_table : (object : Object) (w : Version) → Has (objects_of t) object → Has object.versions w → Has (versions_of t) w
  in_table object w among there =
      let file = has_flat_from (λ (f : TableFile). f.objects) t.files object among in
      has_flat versions_in t.files file.0 w file.1 (has_flat (λ (o : Object). o.versions) file.0.objects object w file.2 there)

  -- A version of a file is one of an object.
  pub record InObject (file : TableFile) (w : Version) : Type 0 where
    pub object : Object
    pub own : Has file.objects object
    pub among : Has (objects_of t) object
    pub there : Has object.versions w
    pub tree : IsTree object.versions

  pub in_object : (file : TableFile) (w : Version) → Has t.files file → Has (all_in file) w → InObject file w
  in_object file w of_table listed =
      let from = has_flat_from (λ (o : Object). o.versions) file.objects w (order_has_from number_of (flat_map (λ (o : Object). o.versions) file.objects) w listed) in
      let among = has_flat (λ (f : TableFile). f.objects) t.files file from.0 of_table from.1 in
      record { object = from.0; own = from.1; among = among; there = from.2; tree = all_has (λ (o : Object). IsTree o.versions) (objects_of t) of.rules.trees from.0 among }

  pub of_object : (file : TableFile) (object : Object) (w : Version) → Has file.objects object → Has object.versions w → Has (all_in file) w
  of_object file object w own there =
      order_has number_of (flat_map (λ (o : Object). o.versions) file.objects) w (has_flat (λ (o : Object). o.versions) file.objects object w own there)

  -- ---- one file

  -- A file that was written is one of the history, and of the table.
  pub record OfFile (x : FileContent) : Type 0 where
    pub file : HistoryFile
    pub among : Has h.files file
    pub versions : AllZip (IsVersionOn leaf node x.stored) file.versions (in_order unique_of x.stored)
    pub table_file : TableFile
    pub of_table : Has t.files table_file
    pub is : IsFileOf g h file table_file

  module _ (x : FileContent) (f : OfFile x) where
    -- A record is a version of the history, and of the table.
    pub record OfRecord (s : Stored) : Type 0 where
      pub own : HistoryVersion
      pub there : Has f.file.versions own
      pub on : IsVersionOn leaf node x.stored own s
      pub version : Version
      pub listed : Has (all_in f.table_file) version
      pub is : IsVersionOf g h own version

    pub of_record : (s : Stored) → Has x.stored s → OfRecord s
    of_record s there =
        let own = zip_found (IsVersionOn leaf node x.stored) f.file.versions (in_order unique_of x.stored) f.versions s (order_has unique_of x.stored s there) in
        let version = found_zip (IsVersionOf g h) f.file.versions (all_in f.table_file) f.is.versions own.0 own.1 in
        record { own = own.0; there = own.1; on = own.2; version = version.0; listed = version.1; is = version.2 }

    pub number_is : (s : Stored) (r : OfRecord s) → unique_of s ≡ number_of r.version
    number_is s r = sym r.on.unique ∙ r.is.unique

    -- A version of the table's file is that of a record.
    pub record OfVersion (w : Version) : Type 0 where
      pub stored : Stored
      pub there : Has x.stored stored
      pub record_is : OfRecord stored
      pub same : record_is.version ≡ w

    pub of_version : (w : Version) → Has (all_in f.table_file) w → OfVersion w
    of_version w listed =
        let own = zip_found (IsVersionOf g h) f.file.versions (all_in f.table_file) f.is.versions w listed in
        let stored = found_zip (IsVersionOn leaf node x.stored) f.file.versions (in_order unique_of x.stored) f.versions own.0 own.1 in
        record {
          stored = stored.0;
          there = order_has_from unique_of x.stored stored.0 stored.1;
          record_is = record { own = own.0; there = own.1; on = stored.2; version = w; listed = listed; is = own.2 };
          same = refl;
        }

  -- ---- all files

  module _ (units : Units) (entries : List FileEntry) (contents : List FileContent) (pages : AllZip (HasPages units) entries contents) (on : AllZip (IsFileOn leaf node) h.files (zip entries contents)) where
    pub of_file : (x : FileContent) → Has contents x → OfFile x
    of_file x there =
        let row = has_second (HasPages units) entries contents pages x there in
        let own = zip_found (IsFileOn leaf node) h.files (zip entries contents) on (row.0, x) row.1 in
        let found = found_zip (IsFileOf g h) h.files t.files of.files own.0 own.1 in
        record { file = own.0; among = own.1; versions = own.2.versions; table_file = found.0; of_table = found.1; is = found.2 }

    abbrev stored_of : List FileContent → List Stored
    stored_of files = flat_map (λ (x : FileContent). x.stored) files

    abbrev numbers_of : List FileContent → List ℕ
    numbers_of files = map unique_of (stored_of files)

    abbrev numbers_in : List TableFile → List ℕ
    numbers_in files = map number_of (flat_map versions_in files)

    one_times : (file : HistoryFile) (row : FileEntry × FileContent) (k : TableFile) → IsFileOn leaf node file row → IsFileOf g h file k → (n : ℕ) → times n (map unique_of row.1.stored) ≡ times n (map number_of (versions_in k))
    one_times file row k is also n =
        sym (ordered_times unique_of row.1.stored n)
        ∙ ap (times n) (sym (zip_same (IsVersionOn leaf node row.1.stored) (λ (v : HistoryVersion). v.unique) unique_of file.versions (in_order unique_of row.1.stored) (λ v s both. both.unique) is.versions))
        ∙ ap (times n) (zip_same (IsVersionOf g h) (λ (v : HistoryVersion). v.unique) number_of file.versions (all_in k) (λ v w both. both.unique) also.versions)
        ∙ ordered_times number_of (versions_in k) n

    all_times : (files : List HistoryFile) (es : List FileEntry) (cs : List FileContent) (ks : List TableFile) → AllZip (HasPages units) es cs → AllZip (IsFileOn leaf node) files (zip es cs) → AllZip (IsFileOf g h) files ks
        → (n : ℕ) → times n (numbers_of cs) ≡ times n (numbers_in ks)
    all_times [] [] [] [] p q r n = refl
    all_times [] [] [] (k ∷ ks) p q r n = absurd r
    all_times [] [] (c ∷ cs) ks p q r n = absurd p
    all_times [] (e ∷ es) [] ks p q r n = absurd p
    all_times [] (e ∷ es) (c ∷ cs) ks p q r n = absurd q
    all_times (f ∷ fs) [] [] ks p q r n = absurd q
    all_times (f ∷ fs) [] (c ∷ cs) ks p q r n = absurd p
    all_times (f ∷ fs) (e ∷ es) [] ks p q r n = absurd p
    all_times (f ∷ fs) (e ∷ es) (c ∷ cs) [] p q r n = absurd r
    all_times (f ∷ fs) (e ∷ es) (c ∷ cs) (k ∷ ks) p q r n =
        let here = one_times f (e, c) k q.0 r.0 n in
        let rest = all_times fs es cs ks p.1 q.1 r.1 n in
        let left = ap (times n) (map-append unique_of c.stored (stored_of cs)) ∙ times-append n (map unique_of c.stored) (numbers_of cs) in
        let right = ap (times n) (map-append number_of (versions_in k) (flat_map versions_in ks)) ∙ times-append n (map number_of (versions_in k)) (numbers_in ks) in
        omega (arith, left, right, here, rest)

    -- no two records have one number
    pub numbers_differ : AllDiffer (map unique_of (stored_of contents))
    numbers_differ =
        let once = differ_once (numbers_in t.files) (sep_to number_of (versions_of t) differ) in
        once_differ (numbers_of contents) (λ n. let same = all_times h.files entries contents t.files pages on of.files n in omega (arith, same, once n))
