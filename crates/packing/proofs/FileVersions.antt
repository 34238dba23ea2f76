-- The large versions that are listed of a file of a volume stand object by object.
use Rattle.std.proofs.Common.{◌≡◌, ◌≤◌, inl, inr, ℕ, Bool, true, List, [], ◌∷◌, ◌++◌, length, map, filter, AllPairs, refl, sym, ap, subst, ◌∙◌, arith, eqb-true, eq-eqb}
use Rattle.std.specs.Prelude.{Contains, ◌==◌}
use Rattle.std.specs.List.{AllByRecursion, AllZip, flat_map, zip}
use Rattle.std.proofs.lemmas.List.Sorted.{IsPermutation-map}
use Rattle.ex_base.specs.declared.geometry.Geometry.{Geometry}
use Rattle.ex_base.specs.declared.names.Oid.{Oid}
use Rattle.ex_base.specs.declared.names.Place.{Place}
use Rattle.ex_base.specs.declared.names.Root.{Root}
use Rattle.ex_base.specs.Order.{AllDiffer}
use Rattle.ex_base.proofs.Counts.{differ_permuted}
use Rattle.ex_base.proofs.Members.{In, in_contains, of_each}
use Rattle.file_bodies.specs.Bodies.{Row}
use Rattle.file_walk.proofs.SameLinks.{objects_kept}
use Rattle.object_files.specs.Catalog.{FileEntry}
use Rattle.object_records.specs.Record.{Large, Record}
use Rattle.object_records.specs.declared.Head.{Head}
use Rattle.object_records.proofs.RecordLaws.{record_read}
use Rattle.op_log.specs.declared.record.LogRecord.{LogRecord}
use Rattle.record_links.specs.Labels.{LabelsObjects}
use Rattle.record_links.specs.declared.Linked.{Linked}
use Rattle.record_lists.specs.Listed.{listed_of}
use Rattle.record_lists.specs.declared.Listed.{Listed}
use Rattle.table_model.specs.Tables.{IsTable, objects_of}
use Rattle.table_model.specs.declared.table.TableFile.{TableFile}
use Rattle.trees.specs.Trees.{Units}
use Rattle.version_lists.specs.declared.version.Object.{Object}
use Rattle.version_lists.specs.declared.version.Version.{Version}
use Rattle.version_lists.specs.Objects.{IsTree, least_in, least_of, object_from}
use Rattle.version_lists.specs.Sorted.{Rise}
use Rattle.version_lists.specs.Versions.{Differ, first_number, is_first, unique_of as number}
use Rattle.version_lists.proofs.Forming.{is_first_from}
use Rattle.version_lists.proofs.Lists.{Has, Rises, all_has, contains_has, has_contains, has_filter, has_filter_from, has_flat, has_map, has_map_from, rises_from}
use Rattle.version_lists.proofs.Sorted.{order_has, order_has_from}
use Rattle.versions.specs.Versions.{root_of}
use Rattle.versions.proofs.Standing.{large_content}
use Rattle.volume_model.specs.Parts.{HasBodies, HoldsOf, IsStored, bodies_in, content_parts}
use Rattle.volume_model.specs.Volume.{FileContent, Stored, Volume, file_of, number_at, oid_of, stored_in, table_of, unique_of, version_of, versions_stored}
use Rattle.volume_model.proofs.Places.{Sep, each_has, sep_filter, sep_from, sep_map, sep_one, sep_parted, sep_to}
use Rattle.volume_model.proofs.Versions.{has_stored, stored_has}
use Rattle.history_volumes.proofs.Numbers.{second_has}
use Rattle.history_volumes.proofs.OneObject.{first_record, in_object, label, of_one_object}
use Rattle.packing.specs.Dense.{is_of}
use Rattle.packing.specs.Loop.{HasFileAs, IsStoredAs, number_of}
use Rattle.packing.specs.Objects.{AreLargeVersions, IsLargeOf, is_large, is_of_object, linked_listed, number_listed, oid_listed}
use Rattle.packing.specs.declared.objects.LargeVersion.{LargeVersion}
use Rattle.packing.proofs.ByLeast.{HasObject, ascends, grouped}
use Rattle.packing.proofs.Grouped.{AreGrouped}
use Rattle.packing.proofs.Listing.{rows_linked}
use Rattle.packing.proofs.OfObjects.{number_of_record, of_number, same_label, same_object, versions_by_object}

-- ---- lists

parted : {A : Type 0} (xs : List A) (x : A) → Has xs x → (before : List A) × (later : List A) × (xs ≡ before ++ x ∷ later)
parted [] x h = absurd h
parted {A} (y ∷ xs) x (inl e) = ([], xs, ap (λ (z : A). z ∷ xs) e)
parted {A} (y ∷ xs) x (inr h) = let rest = parted xs x h in (y ∷ rest.0, rest.1, ap (λ (zs : List A). y ∷ zs) rest.2)

sep_back : {A B C : Type 0} (f : A → B) (h : B → C) (xs : List A) → Sep h (map f xs) → Sep (λ x. h (f x)) xs
sep_back f h [] s = tt
sep_back f h (x ∷ xs) s = (λ y m e. s.0 (f y) (has_map f xs y m) e, sep_back f h xs s.1)

-- the least of numbers that rise stands first
least_there : (ws : List Version) (w : Version) → Has ws w → (m : Version) × Has ws m × (least_in ws ≡ number m)
least_there [] w h = absurd h
least_there (v ∷ ws) w h = (v, inl refl, refl)

least_low : (ws : List Version) (w : Version) → Rises number ws → Has ws w → least_in ws ≤ number w
least_low [] w up h = absurd h
least_low (v ∷ ws) w up (inl e) = omega (arith, ap number e)
least_low (v ∷ ws) w up (inr later) = (let less = up.0 w later in omega (arith, less))

-- ---- records as they are listed

-- what is listed of a record of a volume
abbrev IsListedAs : Stored → Listed → Type 0
IsListedAs s r = (r.place ≡ s.place) × (r.head ≡ s.body.head) × (r.root ≡ root_of s.body.content)

as_listed : (row : Row) (s : Stored) → IsStored row s → IsListedAs s (listed_of row)
as_listed row s both =
    let reads = record_read row.1 s.body both.1 in
    (both.0, ap (λ (r : Record). r.head) reads, ap (λ (r : Record). root_of r.content) reads)

stored_listed : (rows : List Row) (stored : List Stored) → AllZip IsStored rows stored → (r : Listed) → Has (map listed_of rows) r → (s : Stored) × Has stored s × IsListedAs s r
stored_listed [] stored both r h = absurd h
stored_listed (row ∷ rows) [] both r h = absurd both
stored_listed (row ∷ rows) (s ∷ stored) both r (inl e) = (s, inl refl, subst (IsListedAs s) e (as_listed row s both.0))
stored_listed (row ∷ rows) (s ∷ stored) both r (inr h) = let rest = stored_listed rows stored both.1 r h in (rest.0, inr rest.1, rest.2)

listed_stored : (rows : List Row) (stored : List Stored) → AllZip IsStored rows stored → (s : Stored) → Has stored s → (r : Listed) × Has (map listed_of rows) r × IsListedAs s r
listed_stored [] [] both s h = absurd h
listed_stored [] (t ∷ stored) both s h = absurd both
listed_stored (row ∷ rows) [] both s h = absurd both
listed_stored (row ∷ rows) (t ∷ stored) both s (inl e) = (listed_of row, inl refl, subst (λ (x : Stored). IsListedAs x (listed_of row)) e (as_listed row t both.0))
listed_stored (row ∷ rows) (t ∷ stored) both s (inr h) = let rest = listed_stored rows stored both.1 s h in (rest.0, inr rest.1, rest.2)

numbers_same : (rows : List Row) (stored : List Stored) → AllZip IsStored rows stored → map number_listed (map listed_of rows) ≡ map unique_of stored
numbers_same [] [] both = refl
numbers_same [] (t ∷ stored) both = absurd both
numbers_same (row ∷ rows) [] both = absurd both
numbers_same (row ∷ rows) (s ∷ stored) both =
    let here = as_listed row s both.0 in
    ap (λ (h : Head). h.unique ∷ map number_listed (map listed_of rows)) here.1 ∙ ap (λ (ns : List ℕ). unique_of s ∷ ns) (numbers_same rows stored both.1)

oid_as : (s : Stored) (r : Listed) → IsListedAs s r → oid_listed r ≡ oid_of s
oid_as s r is =
    ap (λ (p : Place). record { page = p.page; slot = p.slot; unique = r.head.unique }) is.0
    ∙ ap (λ (h : Head). record { page = s.place.page; slot = s.place.slot; unique = h.unique }) is.1

-- ---- the objects of a file

module _ (g : Geometry) (records : List LogRecord) (units : Units) (v : Volume) (parts : AllByRecursion (HoldsOf g records units v) content_parts) (rules : IsTable g (table_of units v)) (e : FileEntry) (f : FileContent) (has : HasFileAs v e f) where
  abbrev vs : List Version
  vs = versions_stored units f.stored

  abbrev objects : List Object
  objects = (file_of units (e, f)).objects

  abbrev place_label : Place → ℕ
  place_label = label g records units v parts

  row_there : Has (zip v.catalog.entries v.files) (e, f)
  row_there = contains_has (zip v.catalog.entries v.files) (e, f) has

  there : Has v.files f
  there = second_has v.catalog.entries v.files (e, f) row_there

  table_file : Has (table_of units v).files (file_of units (e, f))
  table_file = has_map (file_of units) (zip v.catalog.entries v.files) (e, f) row_there

  in_volume : (s : Stored) → Has f.stored s → Has (stored_in v) s
  in_volume s h = has_flat (λ (x : FileContent). x.stored) v.files f s there h

  in_table : (o : Object) → Has objects o → Has (objects_of (table_of units v)) o
  in_table o h = has_flat (λ (x : TableFile). x.objects) (table_of units v).files (file_of units (e, f)) o table_file h

  differ : Sep unique_of (stored_in v)
  differ = sep_from unique_of (stored_in v) parts.1.1.1.1.1.1.0.differ

  rise : Rises least_of objects
  rise = rises_from least_of objects (all_has (λ (t : TableFile). Rise (map least_of t.objects)) (table_of units v).files rules.ordered (file_of units (e, f)) table_file)

  one_object : (a b : Object) → Has (objects_of (table_of units v)) a → Has (objects_of (table_of units v)) b → (s : Stored) → is_of a s ≡ true → is_of b s ≡ true → a ≡ b
  one_object a b h k s is also =
      let at = parted (objects_of (table_of units v)) a h in
      same_object at.0 at.1 a b s (subst (λ (os : List Object). AllPairs Differ (flat_map (λ (o : Object). o.versions) os)) at.2 (versions_by_object (table_of units v) rules.distinct)) (subst (λ (os : List Object). Has os b) at.2 k) is also

  -- each record is of an object of the file
  object_of : (s : Stored) → Has f.stored s → (o : Object) × Has objects o × (is_of o s ≡ true)
  object_of s h =
      let first = first_record g records units v parts f there s h in
      let version = version_of units f.stored first.first in
      let o = object_from vs version in (
        o,
        order_has least_of (map (object_from vs) (filter is_first vs)) o
            (has_map (object_from vs) (filter is_first vs) version (has_filter is_first vs version (stored_has units f.stored first.first first.here) (is_first_from version (ap (number_at f.stored) first.none)))),
        of_number o s (in_object g records units v parts f there s h first.first refl),
      )

  -- and each version of such an object is of a record of the file
  record_of : (o : Object) → Has objects o → (w : Version) → Has o.versions w → (t : Stored) × Has f.stored t × (version_of units f.stored t ≡ w)
  record_of o h w inside =
      let made = has_map_from (object_from vs) (filter is_first vs) o (order_has_from least_of (map (object_from vs) (filter is_first vs)) o h) in
      let both = has_filter_from (λ (x : Version). first_number (length vs) vs x == number made.0) vs w (subst (λ (x : Object). Has x.versions w) (sym made.2) inside) in
      has_stored units f.stored w both.0

  in_file : (o : Object) → Has objects o → (s : Stored) → Has (stored_in v) s → is_of o s ≡ true → Has f.stored s
  in_file o h s here is =
      let w = number_of_record o s is in
      let t = record_of o h w.0 w.1 in
      let same : t.0 ≡ s = sep_one unique_of (stored_in v) t.0 s differ (in_volume t.0 t.1) here (ap number t.2 ∙ w.2) in
      subst (Has f.stored) same t.1

  -- records of one label are of one object
  also_of : (o : Object) → Has objects o → (s t : Stored) → Has f.stored s → Has f.stored t → is_of o s ≡ true → place_label s.place ≡ place_label t.place → is_of o t ≡ true
  also_of o h s t here other is same =
      let one = of_one_object g records units v parts f f s t there there here other same in
      let that : o ≡ one.0 = one_object o one.0 (in_table o h) (contains_has (objects_of (table_of units v)) one.0 one.1) s is (of_number one.0 s (contains_has (map number one.0.versions) (unique_of s) one.2)) in
      subst (λ (x : Object). is_of x t ≡ true) (sym that) (of_number one.0 t (contains_has (map number one.0.versions) (unique_of t) one.3))

  rising : (o : Object) → Has objects o → Rises number o.versions
  rising o h = let tree = all_has (λ (x : Object). IsTree x.versions) (objects_of (table_of units v)) rules.trees o (in_table o h) in rises_from number o.versions tree.rise

  -- ---- as they are listed

  abbrev rows : List Row
  rows = bodies_in f

  abbrev listed : List Listed
  listed = map listed_of (bodies_in f)

  read : AllZip IsStored rows f.stored
  read = let bodies = each_has HasBodies v.files parts.1.1.1.0 f there in bodies.records

  labels : LabelsObjects (map linked_listed listed) place_label
  labels =
      let told = parts.1.1.1.1.0.objects in
      subst (λ (ls : List Linked). LabelsObjects ls place_label) (sym (rows_linked rows f.stored read)) (objects_kept f.stored place_label (record {
        joined = λ s older h k is.
            told.joined s older (has_contains (stored_in v) s (in_volume s (contains_has f.stored s h))) (has_contains (stored_in v) older (in_volume older (contains_has f.stored older k))) is;
        one_first = λ s t h k none also same.
            told.one_first s t (has_contains (stored_in v) s (in_volume s (contains_has f.stored s h))) (has_contains (stored_in v) t (in_volume t (contains_has f.stored t k))) none also same;
      }))

  sep_listed : Sep number_listed listed
  sep_listed =
      let own = each_has (λ (x : FileContent). Sep unique_of x.stored) v.files (sep_parted unique_of (λ (x : FileContent). x.stored) v.files differ) f there in
      sep_from number_listed listed (subst AllDiffer (sym (numbers_same rows f.stored read)) (sep_to unique_of f.stored own))

  -- the least number of the records of one label is that of their object
  module _ (o : Object) (h : Has objects o) (s : Stored) (here : Has f.stored s) (is : is_of o s ≡ true) (r : Listed) (shows : IsListedAs s r) where
    abbrev of_label : Listed → Bool
    of_label = is_of_object place_label (place_label r.place)

    abbrev numbers : List ℕ
    numbers = map number_listed (filter of_label listed)

    -- the number of each record of the object is one of these
    number_in : (t : Stored) → Has f.stored t → is_of o t ≡ true → Has numbers (unique_of t)
    number_in t other also =
        let q = listed_stored rows f.stored read t other in
        let same : place_label q.0.place ≡ place_label r.place =
        ap place_label q.2.0 ∙ same_label g records units v parts o (in_table o h) t s (in_volume t other) (in_volume s here) also is ∙ ap place_label (sym shows.0) in
        let inside = has_filter of_label listed q.0 q.1 (eq-eqb (place_label q.0.place) (place_label r.place) same) in
        subst (Has numbers) (ap (λ (x : Head). x.unique) q.2.1) (has_map number_listed (filter of_label listed) q.0 inside)

    -- and each of these is that of a record of the object
    number_from : (n : ℕ) → Has numbers n → (t : Stored) × Has f.stored t × (is_of o t ≡ true) × (unique_of t ≡ n)
    number_from n there_is =
        let q = has_map_from number_listed (filter of_label listed) n there_is in
        let both = has_filter_from of_label listed q.0 q.1 in
        let t = stored_listed rows f.stored read q.0 both.0 in
        let same : place_label s.place ≡ place_label t.0.place =
        ap place_label (sym shows.0) ∙ sym (eqb-true (place_label q.0.place) (place_label r.place) both.1) ∙ ap place_label t.2.0 in
        (t.0, t.1, also_of o h s t.0 here t.1 is same, sym (ap (λ (x : Head). x.unique) t.2.1) ∙ q.2)

    least_is : (least : ℕ) → Contains numbers least → AllByRecursion (λ (n : ℕ). least ≤ n) numbers → least ≡ least_of o
    least_is least one none_less =
        let w = number_of_record o s is in
        let first = least_there o.versions w.0 w.1 in
        let t = record_of o h first.0 first.1 in
        let number_is : unique_of t.0 ≡ number first.0 = ap number t.2 in
        let of_t : is_of o t.0 ≡ true = of_number o t.0 (subst (Has (map number o.versions)) (sym number_is) (has_map number o.versions first.0 first.1)) in
        let below = each_has (λ (n : ℕ). least ≤ n) numbers none_less (unique_of t.0) (number_in t.0 t.1 of_t) in
        let q = number_from least (contains_has numbers least one) in
        let u = number_of_record o q.0 q.2 in
        let above = least_low o.versions u.0 (rising o h) u.1 in
        omega (arith, below, number_is, first.2, above, u.2, q.3)

  -- ---- the versions

  module _ (versions : List LargeVersion) (are : AreLargeVersions listed versions) where
    of_version : (x : LargeVersion) → IsLargeOf listed place_label x → HasObject v objects x
    of_version x is =
        let s = stored_listed rows f.stored read is.listed (contains_has listed is.listed is.there) in
        let o = object_of s.0 s.1 in
        let stored : IsStoredAs v s.0 x = record {
          there = has_contains (stored_in v) s.0 (in_volume s.0 s.1);
          oid = sym (oid_as s.0 is.listed s.2) ∙ sym is.oid;
          large = large_content s.0.body.content x.root (sym s.2.2 ∙ is.root);
        } in
        (o.0, o.1, (s.0, stored, o.2), least_is o.0 o.1 s.0 s.1 o.2 is.listed s.2 x.least is.least.one is.least.none_less)

    each_version : (x : LargeVersion) → In x versions → HasObject v objects x
    each_version x h = of_version x (of_each (IsLargeOf listed place_label) x versions (are.each place_label labels) h)

    each_record : (o : Object) → Has objects o → (s : Stored) (root : Root) → Contains (stored_in v) s → is_of o s ≡ true → s.body.content ≡ Large root → (x : LargeVersion) × In x versions × IsStoredAs v s x
    each_record o h s root here is large =
        let mine = in_file o h s (contains_has (stored_in v) s here) is in
        let r = listed_stored rows f.stored read s mine in
        let one = are.all r.0 root (has_contains listed r.0 r.1) (r.2.2 ∙ ap root_of large) in
        (one.version, in_contains one.version versions one.there, record { there = here; oid = sym (oid_as s r.0 r.2) ∙ sym one.oid; large = large ∙ ap Large (sym one.root_is) })

    once : AllDiffer (map number_of versions)
    once =
        let larges = filter is_large listed in
        let of_oid = λ (i : Oid). i.unique in
        let before = sep_to of_oid (map oid_listed larges) (sep_map oid_listed of_oid larges (sep_filter number_listed is_large listed sep_listed)) in
        let moved = IsPermutation-map of_oid (map oid_listed larges) (map (λ (x : LargeVersion). x.oid) versions) are.same in
        let after = differ_permuted (map of_oid (map oid_listed larges)) (map of_oid (map (λ (x : LargeVersion). x.oid) versions)) moved before in
        sep_to number_of versions (sep_back (λ (x : LargeVersion). x.oid) of_oid versions (sep_from of_oid (map (λ (x : LargeVersion). x.oid) versions) after))

    pub file_grouped : AreGrouped v objects versions
    file_grouped = grouped v objects versions (record {
      rise = rise;
      apart = λ a b h k s is also. one_object a b (in_table a h) (in_table b k) s is also;
      each = each_version;
      all = each_record;
      once = once;
      ascend = ascends versions are.ordered;
    })
