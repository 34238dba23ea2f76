-- Records of one label are versions of one object of the table.
use Rattle.std.proofs.Common.{◌≡◌, ℕ, suc, List, [], ◌∷◌, ◌++◌, length, map, Option, Some, None, refl, sym, subst, ap, ◌∙◌, arith, inl, inr}
use Rattle.std.specs.Prelude.{filter, ◌==◌}
use Rattle.std.specs.List.{flat_map, AllByRecursion, zip}
use Rattle.std.proofs.lemmas.Bool.{eq-eqb}
use Rattle.std.proofs.lemmas.Option.{none-some, same_Some}
use Rattle.ex_base.specs.declared.geometry.Geometry.{Geometry}
use Rattle.ex_base.specs.declared.names.Place.{Place}
use Rattle.ex_base.proofs.Each.{each_parted}
use Rattle.op_log.specs.declared.record.LogRecord.{LogRecord}
use Rattle.table_model.specs.declared.table.TableFile.{TableFile}
use Rattle.table_model.specs.Tables.{objects_of}
use Rattle.trees.specs.Trees.{Units}
use Rattle.version_lists.specs.declared.version.Version.{Version}
use Rattle.version_lists.specs.Objects.{least_of, object_from}
use Rattle.version_lists.specs.Versions.{first_number, is_first, unique_of as number_of}
use Rattle.version_lists.proofs.Climbing.{Parent, all_climb, first_here, first_up}
use Rattle.version_lists.proofs.Forming.{is_first_from}
use Rattle.version_lists.proofs.Links.{linked_all}
use Rattle.version_lists.proofs.Lists.{Has, contains_has, has_contains, has_filter, has_back, has_flat, has_map}
use Rattle.version_lists.proofs.Sorted.{order_has}
use Rattle.volume_model.specs.Links.{HasObjects, place_in}
use Rattle.volume_model.specs.Parts.{HasBodies, HasPages, HoldsOf, content_parts}
use Rattle.volume_model.specs.Volume.{FileContent, Stored, Volume, file_of, number_at, stored_in, table_of, unique_of, version_of, versions_stored}
use Rattle.volume_model.proofs.Links.{linked_olders, older_at}
use Rattle.volume_model.proofs.Numbers.{number_there}
use Rattle.volume_model.proofs.Places.{Sep, each_has, sep_from, sep_one, sep_parted, sep_split}
use Rattle.volume_model.proofs.Standing.{StoredAt, files_at, numbers_apart, one_at}
use Rattle.volume_model.proofs.TableVersions.{FileLinked, files_linked}
use Rattle.volume_model.proofs.Versions.{has_stored, stored_has}
use Rattle.history_model.specs.Dumps.{AreOfOne}
use Rattle.history_volumes.proofs.Numbers.{has_second}

module _ (g : Geometry) (records : List LogRecord) (units : Units) (v : Volume) (parts : AllByRecursion (HoldsOf g records units v) content_parts) where
  abbrev pub objects : HasObjects units (stored_in v)
  objects = parts.1.1.1.1.0.objects

  abbrev pub label : Place → ℕ
  label = objects.object

  stored_at : AllByRecursion (StoredAt units) (stored_in v)
  stored_at = files_at units v.catalog.entries v.files parts.1.1.0 parts.1.1.1.0

  numbers_differ : Sep unique_of (stored_in v)
  numbers_differ = sep_from unique_of (stored_in v) parts.1.1.1.1.1.1.0.differ

  -- ---- one file

  module _ (f : FileContent) (there : Has v.files f) where
    abbrev vs : List Version
    vs = versions_stored units f.stored

    in_volume : (s : Stored) → Has f.stored s → Has (stored_in v) s
    in_volume s h = has_flat (λ (x : FileContent). x.stored) v.files f s there h

    differ : Sep unique_of f.stored
    differ = each_has (λ (x : FileContent). Sep unique_of x.stored) v.files (sep_parted unique_of (λ (x : FileContent). x.stored) v.files numbers_differ) f there

    apart : Sep place_in f.stored
    apart = numbers_apart units f.stored (each_has (λ (x : FileContent). AllByRecursion (StoredAt units) x.stored) v.files (each_parted (StoredAt units) (λ (x : FileContent). x.stored) v.files stored_at) f there) differ

    bodies : HasBodies f
    bodies = each_has HasBodies v.files parts.1.1.1.0 f there

    linked : FileLinked units f
    linked =
        each_has (FileLinked units) v.files
        (files_linked units v.files (each_parted (StoredAt units) (λ (x : FileContent). x.stored) v.files stored_at) (sep_parted unique_of (λ (x : FileContent). x.stored) v.files numbers_differ) parts.1.1.1.0) f there

    -- the record that a climb from another one ends at
    pub record FirstRecord (n : ℕ) (s : Stored) : Type 0 where
      pub first : Stored
      pub here : Has f.stored first
      pub none : first.body.head.older ≡ None
      pub same : label first.place ≡ label s.place
      pub number : first_number n vs (version_of units f.stored s) ≡ unique_of first

    -- a record whose version has no older one has none
    no_older : (s : Stored) → Has f.stored s → (version_of units f.stored s).older ≡ None → s.body.head.older ≡ None
    no_older s h none = by s.body.head.older refl
      where
        by : (o : Option Place) → s.body.head.older ≡ o → o ≡ None
        by None is = refl
        by (Some place) is =
            let older = older_at f.stored (linked_olders f.stored bodies.linked) s h place is in
            let found = number_there units f.stored apart differ (linked_olders f.stored bodies.linked) older.older place (contains_has f.stored older.older older.there) older.place_is in
            absurd (none-some (unique_of older.older) (sym none ∙ ap (number_at f.stored) is ∙ found))

    abbrev Climbs : ℕ → Version → Type 0
    Climbs n w = (s : Stored) → Has f.stored s → version_of units f.stored s ≡ w → FirstRecord n s

    at_first : (n : ℕ) (w : Version) → Has vs w → w.older ≡ None → Climbs n w
    at_first n w m none s h is =
        let of_version = ap (λ (x : Version). x.older) is ∙ none in
        record {
          first = s;
          here = h;
          none = sym (by_older s h of_version);
          same = refl;
          number = first_here n vs (version_of units f.stored s) of_version;
        }
      where
        by_older : (s : Stored) → Has f.stored s → (version_of units f.stored s).older ≡ None → None ≡ s.body.head.older
        by_older s h e = sym (no_older s h e)

    -- the record that a version's one is derived from
    older_record : (s : Stored) → Has f.stored s → (w : Version) → version_of units f.stored s ≡ w → (p : Parent vs w) → (o : Stored) × Has f.stored o × (version_of units f.stored o ≡ p.parent) × (label o.place ≡ label s.place)
    older_record s h w is p = by s.body.head.older refl
      where
        by : (link : Option Place) → s.body.head.older ≡ link → (o : Stored) × Has f.stored o × (version_of units f.stored o ≡ p.parent) × (label o.place ≡ label s.place)
        by None none = absurd (none-some (number_of p.parent) (sym (ap (number_at f.stored) none) ∙ ap (λ (x : Version). x.older) is ∙ p.is))
        by (Some place) some =
            let older = older_at f.stored (linked_olders f.stored bodies.linked) s h place some in
            let there_older = contains_has f.stored older.older older.there in
            let found = number_there units f.stored apart differ (linked_olders f.stored bodies.linked) older.older place there_older older.place_is in
            let number : unique_of older.older ≡ number_of p.parent = same_Some (unique_of older.older) (number_of p.parent) (sym found ∙ sym (ap (number_at f.stored) some) ∙ ap (λ (x : Version). x.older) is ∙ p.is) in
            let stored = has_stored units f.stored p.parent p.there in
            let same : stored.0 ≡ older.older = sep_one unique_of f.stored stored.0 older.older differ stored.1 there_older (ap number_of stored.2 ∙ sym number) in (
              older.older,
              there_older,
              sym (ap (version_of units f.stored) same) ∙ stored.2,
              sym (objects.joined s older.older (has_contains (stored_in v) s (in_volume s h)) (has_contains (stored_in v) older.older (in_volume older.older there_older)) (some ∙ ap Some (sym older.place_is))),
            )

    one_up : (n : ℕ) (w : Version) → Has vs w → (p : Parent vs w) → Climbs n p.parent → Climbs (suc n) w
    one_up n w m p rest s h is =
        let o = older_record s h w is p in
        let up = rest o.0 o.1 o.2 in
        record {
          first = up.first;
          here = up.here;
          none = up.none;
          same = up.same ∙ o.3;
          number = ap (first_number (suc n) vs) is ∙ first_up n vs w p.parent p.found ∙ sym (ap (first_number n vs) o.2) ∙ up.number;
        }

    pub first_record : (s : Stored) → Has f.stored s → FirstRecord (length vs) s
    first_record s h = all_climb vs (linked_all vs linked) Climbs at_first one_up (version_of units f.stored s) (stored_has units f.stored s h) (length vs) (omega arith) s h refl

    -- the object that is reached from its first record has a version's number
    pub in_object : (s : Stored) (h : Has f.stored s) (first : Stored) → (first_record s h).first ≡ first → Has (map number_of (object_from vs (version_of units f.stored first)).versions) (unique_of s)
    in_object s h first is =
        has_map number_of (filter (λ (w : Version). first_number (length vs) vs w == unique_of first) vs) (version_of units f.stored s)
        (has_filter (λ (w : Version). first_number (length vs) vs w == unique_of first) vs (version_of units f.stored s) (stored_has units f.stored s h)
        (eq-eqb (first_number (length vs) vs (version_of units f.stored s)) (unique_of first) ((first_record s h).number ∙ ap unique_of is)))

    -- and is one of the table
    pub object_there : (first : Stored) → Has f.stored first → first.body.head.older ≡ None → Has (objects_of (table_of units v)) (object_from vs (version_of units f.stored first))
    object_there first h none =
        let row = has_second (HasPages units) v.catalog.entries v.files parts.1.1.0 f there in
        let version = version_of units f.stored first in
        has_flat (λ (x : TableFile). x.objects) (table_of units v).files (file_of units (row.0, f)) (object_from vs version)
        (has_map (file_of units) (zip v.catalog.entries v.files) (row.0, f) row.1)
        (order_has least_of (map (object_from vs) (filter is_first vs)) (object_from vs version)
        (has_map (object_from vs) (filter is_first vs) version (has_filter is_first vs version (stored_has units f.stored first h) (is_first_from version (ap (number_at f.stored) none)))))

  -- ---- two files with one record are one

  of_both : (xs ys : List Stored) (s : Stored) → Sep unique_of (xs ++ ys) → Has xs s → Has ys s → ⊥
  of_both [] ys s differs one other = one
  of_both (x ∷ xs) ys s differs (inl e) other = differs.0 s (has_back xs ys s other) (ap unique_of e)
  of_both (x ∷ xs) ys s differs (inr m) other = of_both xs ys s differs.1 m other

  one_file : (files : List FileContent) (a b : FileContent) (s : Stored) → Sep unique_of (flat_map (λ (x : FileContent). x.stored) files) → Has files a → Has files b → Has a.stored s → Has b.stored s → a ≡ b
  one_file [] a b s differs one other h k = absurd one
  one_file (x ∷ files) a b s differs (inl e) (inl d) h k = sym e ∙ d
  one_file (x ∷ files) a b s differs (inl e) (inr m) h k =
      absurd (of_both x.stored (flat_map (λ (y : FileContent). y.stored) files) s differs (subst (λ (y : FileContent). Has y.stored s) (sym e) h) (has_flat (λ (y : FileContent). y.stored) files b s m k))
  one_file (x ∷ files) a b s differs (inr m) (inl e) h k =
      absurd (of_both x.stored (flat_map (λ (y : FileContent). y.stored) files) s differs (subst (λ (y : FileContent). Has y.stored s) (sym e) k) (has_flat (λ (y : FileContent). y.stored) files a s m h))
  one_file (x ∷ files) a b s differs (inr m) (inr n) h k = one_file files a b s (sep_split unique_of x.stored (flat_map (λ (y : FileContent). y.stored) files) differs).1 m n h k

  one_first_record : (a b : FileContent) (one : Has v.files a) (other : Has v.files b) (r q : Stored) → Has a.stored r → Has b.stored q → r.body.head.older ≡ None → q.body.head.older ≡ None → label r.place ≡ label q.place → r ≡ q
  one_first_record a b one other r q h k none also same =
      let first = in_volume a one r h in
      let second = in_volume b other q k in
      one_at units r q (each_has (StoredAt units) (stored_in v) stored_at r first) (each_has (StoredAt units) (stored_in v) stored_at q second)
      (objects.one_first r q (has_contains (stored_in v) r first) (has_contains (stored_in v) q second) none also same)

  in_one_file : (a : FileContent) (s t : Stored) (one : Has v.files a) → Has a.stored s → Has a.stored t → label s.place ≡ label t.place → AreOfOne (table_of units v) (unique_of s) (unique_of t)
  in_one_file a s t one h k same =
      let r = first_record a one s h in
      let q = first_record a one t k in
      let first = one_first_record a a one one r.first q.first r.here q.here r.none q.none (r.same ∙ same ∙ sym q.same) in
      let o = object_from (vs a one) (version_of units a.stored r.first) in (
        o,
        has_contains (objects_of (table_of units v)) o (object_there a one r.first r.here r.none),
        has_contains (map number_of o.versions) (unique_of s) (in_object a one s h r.first refl),
        has_contains (map number_of o.versions) (unique_of t) (in_object a one t k r.first (sym first)),
      )

  -- records of one label are versions of one object
  pub of_one_object : (a b : FileContent) (s t : Stored) → Has v.files a → Has v.files b → Has a.stored s → Has b.stored t → label s.place ≡ label t.place → AreOfOne (table_of units v) (unique_of s) (unique_of t)
  of_one_object a b s t one other h k same =
      let r = first_record a one s h in
      let q = first_record b other t k in
      let first = one_first_record a b one other r.first q.first r.here q.here r.none q.none (r.same ∙ same ∙ sym q.same) in
      let file = one_file v.files a b r.first numbers_differ one other r.here (subst (λ (x : Stored). Has b.stored x) (sym first) q.here) in
      in_one_file a s t one h (subst (λ (x : FileContent). Has x.stored t) (sym file) k) same
