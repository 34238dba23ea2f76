-- A version of a volume's table stands in its tree as the port's records say.
use Rattle.std.proofs.Common.{◌≡◌, true, List, Option, Some, None, refl, sym, ap, subst, ◌∙◌}
use Rattle.std.specs.Prelude.{map, ◌↔◌, IsSome, option_map}
use Rattle.std.specs.List.{AllByRecursion, AllZip, list_any}
use Rattle.std.proofs.lemmas.Bool.{false≢true}
use Rattle.std.specs.List.Sorted.{IsPermutation}
use Rattle.std.proofs.lemmas.Option.{same_Some}
use Rattle.ex_base.specs.declared.ground.Ground as ground
use Rattle.ex_base.specs.declared.names.Oid.{Oid}
use Rattle.ex_base.specs.declared.names.Place.{Place}
use Rattle.ex_base.proofs.Members.{contains_in, each_in, of_each}
use Rattle.op_log.specs.declared.record.LogRecord.{LogRecord}
use Rattle.ex_base.specs.declared.names.Index.{Index}
use Rattle.file_bodies.specs.Bodies.{Row, InPlaceOrder, bodies_of}
use Rattle.file_bodies.proofs.Ordered.{ordered}
use Rattle.object_files.specs.Catalog.{FileEntry}
use Rattle.object_records.specs.Record.{Content, Small, Large, Record}
use Rattle.trees.specs.Trees.{Units}
use Rattle.version_lists.specs.declared.version.Version.{Version}
use Rattle.version_lists.specs.Versions.{unique_of as number_of, derived_from, has_oid, listed, numbered_in}
use Rattle.version_lists.specs.declared.version.Object.{Object}
use Rattle.version_lists.specs.Objects.{objects_formed}
use Rattle.version_lists.proofs.Lists.{Has, contains_has, find_has, find_none, rises_one}
use Rattle.table_model.specs.Refusals.{branches_if, is_only_one}
use Rattle.table_model.specs.Steps.{oids, versions_if}
use Rattle.table_model.specs.Tables.{object_at, objects_of, version_at, versions_of}
use Rattle.versions.specs.Versions.{HasRecord, Spells, place_of}
use Rattle.versions.specs.Found.{HasLimits, IsRecordBody}
use Rattle.versions.proofs.Roots.{root_is_for}
use Rattle.version_tree.specs.Linked.{AreLinked, IsLinked as IsLinkedRow, OidAt, oids_from}
use Rattle.version_tree.specs.Lineage.{IsListing, member_at}
use Rattle.version_tree.specs.declared.lineage.Member.{Member}
use Rattle.version_tree.specs.Removals.{IsBranch}
use Rattle.volume_model.specs.Links.{AreLinked as AreLinkedRecords}
use Rattle.volume_model.specs.Parts.{IsStored}
use Rattle.volume_model.specs.Volume.{Stored, FileContent, Volume, content_in, oid_of, table_of, unique_of, version_of, versions_stored}
use Rattle.volume_model.proofs.Places.{each_has}
use Rattle.volume_model.proofs.Versions.{has_stored, stored_has, stored_rises}
use Rattle.volume_edits.specs.Ported.{ShowsVolume, units_in, index_named}
use Rattle.volume_edits.proofs.Branches.{derived_oids, first_told, newer_told, oids_are, older_told, only_told}
use Rattle.volume_edits.proofs.Contents.{Beside, content_of, found_at, pairs}
use Rattle.volume_edits.proofs.FileVersions.{IsFile, any_has, from_objects, has_any, into_formed, into_objects, one_record, out_of_formed}
use Rattle.volume_edits.proofs.Finding.{file_in, into_volume, oid_same, same_as_oid, stored_row}
use Rattle.volume_edits.proofs.Lineages.{listed_in_file}
use Rattle.volume_edits.proofs.RowLinks.{rows_linked}
use Rattle.volume_edits.proofs.Rows.{all_read}
use Rattle.volume_edits.proofs.Showing.{apart_numbers, content_spells, met, roots_here, version_is, whole}

abbrev made_member : Oid → Record → Member
made_member oid r = record { oid = oid; older = r.head.older }

module _ {S : Type 0} (g : ground.Ghosts S) (s : S) (records : List LogRecord) (v : Volume) (vol : ShowsVolume g s records v) where
  abbrev U : Units
  U = units_in g s

  -- ---- links

  limits : (content : Content) → Spells (g.geometry s) (g.unit s) content (content_in U content) → HasLimits (g.geometry s) content
  limits (Small bytes) spells = tt
  limits (Large root) spells = root_is_for (g.geometry s) (g.unit s) root (content_in U (Large root)) spells.0 spells.1

  readable : (e : FileEntry) (f : FileContent) → Beside v.catalog.entries v.files e f → AllByRecursion (λ (row : Row). IsRecordBody (g.geometry s) row.1) (bodies_of (g.image s) (index_named e))
  readable e f b = each_in (λ (row : Row). IsRecordBody (g.geometry s) row.1) (bodies_of (g.image s) (index_named e)) (λ row inside.
      let content = content_of g s records v vol e f b in
      let x = stored_row row (bodies_of (g.image s) (index_named e)) f.stored content.records inside in
      record { is = x.0.body; spelled = x.2.1; limits = limits x.0.body.content (content_spells g s records v vol x.0.body.content (roots_here g s records v vol x.0 (into_volume v e f x.0 b x.1))) })

  pub linked_there : AreLinked g s
  linked_there index file =
      let at = found_at g s records v vol index.file_no index file.entry in
      let content = content_of g s records v vol at.e at.f at.beside in
      let own = of_each IsFile at.f v.files (whole g s records v vol) (file_in v at.e at.f at.beside) in
      subst (λ (i : Index). AllByRecursion (IsLinkedRow (g.geometry s) (bodies_of (g.image s) i)) (bodies_of (g.image s) i)) at.named
      (rows_linked (g.geometry s) (bodies_of (g.image s) (index_named at.e)) (ordered g s (index_named at.e) content.file) (readable at.e at.f at.beside)
      (subst AreLinkedRecords (all_read (bodies_of (g.image s) (index_named at.e)) at.f.stored content.records) own.links))

  -- ---- the tree of a version

  module _ (oid : Oid) (version : Version) (index : Index) (is : Record) (named : version_at (table_of U v) oid ≡ Some version) (has : HasRecord g s index oid is) where
    abbrev vs : List Version
    vs = versions_of (table_of U v)

    abbrev rows : List Row
    rows = bodies_of (g.image s) index

    -- the record of the version, in its file
    pub record Own : Type 0 where
      pub f : FileContent
      pub there : Has v.files f
      pub x : Stored
      pub inside : Has f.stored x
      pub is_version : version_of U f.stored x ≡ version
      pub is_record : x.body ≡ is
      pub place : x.place ≡ place_of oid
      pub order : InPlaceOrder rows
      pub read : AllZip IsStored rows f.stored

    pub own : Own
    own =
        let m = met g s records v vol index oid is has in
        let content = content_of g s records v vol m.e m.f m.beside in
        record {
          f = m.f;
          there = contains_has v.files m.f (contains_in m.f v.files (file_in v m.e m.f m.beside));
          x = m.x;
          inside = contains_has m.f.stored m.x (contains_in m.x m.f.stored m.stored);
          is_version = same_Some (version_of U m.f.stored m.x) version (sym (version_is g s records v vol m.e m.f m.x oid m.beside m.stored m.named) ∙ named);
          is_record = m.body;
          place = ap place_of m.named;
          order = subst (λ (i : Index). InPlaceOrder (bodies_of (g.image s) i)) m.index_is (ordered g s (index_named m.e) content.file);
          read = subst (λ (i : Index). AllZip IsStored (bodies_of (g.image s) i) m.f.stored) m.index_is content.records;
        }

    pub only_in_table : (is_only_one vs (Some version) ≡ true) ↔ (IsBranch rows is.head.older → ⊥)
    only_in_table =
        subst (λ (r : Record). (is_only_one vs (Some version) ≡ true) ↔ (IsBranch rows r.head.older → ⊥)) own.is_record
        (subst (λ (w : Version). (is_only_one vs (Some w) ≡ true) ↔ (IsBranch rows own.x.body.head.older → ⊥)) own.is_version
        (only_told U v.catalog.entries v.files (pairs g s records v vol) (whole g s records v vol) (apart_numbers g s records v vol) own.f own.there rows own.order own.read own.x own.inside))

    pub derived_in_table : IsPermutation (map (λ (w : Version). w.oid) (derived_from (number_of version) vs)) (oids_from (place_of oid) rows)
    derived_in_table =
        subst (λ (p : Place). IsPermutation (map (λ (w : Version). w.oid) (derived_from (number_of version) vs)) (oids_from p rows)) own.place
        (subst (λ (w : Version). IsPermutation (map (λ (u : Version). u.oid) (derived_from (number_of w) vs)) (oids_from own.x.place rows)) own.is_version
        (subst (IsPermutation (map (λ (w : Version). w.oid) (derived_from (number_of (version_of U own.f.stored own.x)) vs))) (oids_are U v.catalog.entries v.files (pairs g s records v vol) (whole g s records v vol) (apart_numbers g s records v vol) own.f own.there rows own.order own.read own.x.place)
        (derived_oids U v.catalog.entries v.files (pairs g s records v vol) (whole g s records v vol) (apart_numbers g s records v vol) own.f own.there own.x own.inside)))

    pub older_in_table : (found : Option Oid) → OidAt rows is.head.older found → found ≡ option_map (λ (w : Version). w.oid) (numbered_in vs version.older)
    older_in_table found at =
        subst (λ (w : Version). found ≡ option_map (λ (u : Version). u.oid) (numbered_in vs w.older)) own.is_version
        (older_told U v.catalog.entries v.files (pairs g s records v vol) (whole g s records v vol) (apart_numbers g s records v vol) own.f own.there rows own.order own.read own.x own.inside found (subst (λ (r : Record). OidAt rows r.head.older found) (sym own.is_record) at))

    pub first_in_table : (is.head.older ≡ None) ↔ (version.older ≡ None)
    first_in_table =
        subst (λ (r : Record). (r.head.older ≡ None) ↔ (version.older ≡ None)) own.is_record
        (subst (λ (w : Version). (own.x.body.head.older ≡ None) ↔ (w.older ≡ None)) own.is_version
        (first_told U v.catalog.entries v.files (pairs g s records v vol) (whole g s records v vol) (apart_numbers g s records v vol) own.f own.there own.x own.inside))

    pub newer_in_table : version.frozen ≡ true → (branches_if vs (Some version) ≡ 1) ↔ IsSome is.head.newer
    newer_in_table frozen =
        subst (λ (r : Record). (branches_if vs (Some version) ≡ 1) ↔ IsSome r.head.newer) own.is_record
        (subst (λ (w : Version). (branches_if vs (Some w) ≡ 1) ↔ IsSome own.x.body.head.newer) own.is_version
        (newer_told U v.catalog.entries v.files (pairs g s records v vol) (whole g s records v vol) (apart_numbers g s records v vol) own.f own.there own.x own.inside (ap (λ (w : Version). w.frozen) own.is_version ∙ frozen)))

    -- ---- the listing

    in_object : (o : Object) (w : Version) → Has o.versions w → w.oid ≡ oid → list_any (has_oid oid) o.versions ≡ true
    in_object o w h same = any_has (has_oid oid) w o.versions h (same_as_oid w.oid oid same)

    -- the object that has the version is one of its file
    record Formed (o : Object) : Type 0 where
      formed : Has (objects_formed (versions_stored U own.f.stored)) o
      has_it : Has o.versions (version_of U own.f.stored own.x)

    its_oid : (version_of U own.f.stored own.x).oid ≡ oid
    its_oid = ap (λ (w : Version). w.oid) own.is_version ∙ oid_same version.oid oid (find_has (has_oid oid) vs version named).1

    object_formed : (o : Object) → object_at (table_of U v) oid ≡ Some o → Formed o
    object_formed o at =
        let found = find_has (λ (x : Object). list_any (has_oid oid) x.versions) (objects_of (table_of U v)) o at in
        let r = from_objects U v.catalog.entries v.files o found.0 in
        let w = has_any (has_oid oid) o.versions found.1 in
        let file = each_has IsFile v.files (whole g s records v vol) r.0 r.1 in
        let inside = into_formed U r.0 file o w.0 r.2 w.1 in
        let y = has_stored U r.0.stored w.0 inside in
        let oid_is : w.0.oid ≡ oid = oid_same w.0.oid oid w.2 in
        let number : unique_of y.0 ≡ unique_of own.x = ap number_of y.2 ∙ ap (λ (i : Oid). i.unique) (oid_is ∙ sym its_oid) in
        let same : r.0 ≡ own.f = one_record v.files (apart_numbers g s records v vol) r.0 own.f y.0 own.x r.1 own.there y.1 own.inside number in
        let formed : Has (objects_formed (versions_stored U own.f.stored)) o = subst (λ (c : FileContent). Has (objects_formed (versions_stored U c.stored)) o) same r.2 in
        let at_home : Has (versions_stored U own.f.stored) w.0 = subst (λ (c : FileContent). Has (versions_stored U c.stored) w.0) same inside in
        let one : w.0 ≡ version_of U own.f.stored own.x = rises_one number_of (versions_stored U own.f.stored) w.0 (version_of U own.f.stored own.x) (stored_rises U own.f.stored (each_has IsFile v.files (whole g s records v vol) own.f own.there).numbers) at_home (stored_has U own.f.stored own.x own.inside) (ap (λ (i : Oid). i.unique) (oid_is ∙ sym its_oid)) in
        record { formed = formed; has_it = subst (Has o.versions) one w.1 }

    object_found : (o : Object) × (object_at (table_of U v) oid ≡ Some o)
    object_found =
        let file = each_has IsFile v.files (whole g s records v vol) own.f own.there in
        let o = out_of_formed U own.f file (version_of U own.f.stored own.x) (stored_has U own.f.stored own.x own.inside) in
        by o.0 (into_objects U v.catalog.entries v.files (pairs g s records v vol) own.f o.0 own.there o.1) o.2 (object_at (table_of U v) oid) refl
      where
        by : (o : Object) → Has (objects_of (table_of U v)) o → Has o.versions (version_of U own.f.stored own.x) → (found : Option Object) → object_at (table_of U v) oid ≡ found → (x : Object) × (object_at (table_of U v) oid ≡ Some x)
        by o h m None none = absurd (false≢true (sym (find_none (λ (x : Object). list_any (has_oid oid) x.versions) (objects_of (table_of U v)) none o h) ∙ in_object o (version_of U own.f.stored own.x) m its_oid))
        by o h m (Some x) some = (x, some)

    pub listed_in_table : (listing : List Oid) → IsListing rows (record { oid = oid; older = is.head.older }) listing → listing ≡ oids (listed (versions_if (object_at (table_of U v) oid)))
    listed_in_table listing lists =
        let file = each_has IsFile v.files (whole g s records v vol) own.f own.there in
        let here = object_formed object_found.0 object_found.1 in
        let member : record { oid = oid; older = is.head.older } ≡ member_at own.x.place own.x.body.head = ap (λ (o : Oid). made_member o is) (sym its_oid) ∙ ap (made_member (oid_of own.x)) (sym own.is_record) in
        listed_in_file U own.f file object_found.0 own.x own.inside here.formed here.has_it rows (all_read rows own.f.stored own.read) listing (subst (λ (m : Member). IsListing rows m listing) member lists)
        ∙ sym (ap (λ (o : Option Object). oids (listed (versions_if o))) object_found.1)
