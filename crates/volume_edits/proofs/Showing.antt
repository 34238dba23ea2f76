-- The versions of a volume's table are those that the port has.
use Rattle.std.proofs.Common.{◌≡◌, ℕ, false, List, Some, None, refl, sym, ap, subst, ◌∙◌, inl, inr}
use Rattle.std.specs.Prelude.{◌↔◌}
use Rattle.std.specs.List.{AllByRecursion}
use Rattle.ex_base.specs.declared.ground.Ground as ground
use Rattle.ex_base.specs.declared.names.Oid.{Oid}
use Rattle.ex_base.specs.declared.names.Place.{Place}
use Rattle.ex_base.specs.declared.names.Root.{Root}
use Rattle.op_log.specs.declared.record.LogRecord.{LogRecord}
use Rattle.ex_base.specs.declared.names.Index.{Index}
use Rattle.file_bodies.specs.Bodies.{bodies_of, pages_in}
use Rattle.object_records.specs.declared.Head.{Head}
use Rattle.object_records.specs.Record.{Content, Small, Large, Record}
use Rattle.trees.specs.Trees.{Units, root_units, RootNamed}
use Rattle.object_files.specs.Catalog.{FileEntry}
use Rattle.ex_base.specs.declared.names.PageNo.{PageNo}
use Rattle.ex_base.proofs.Members.{In, contains_in, in_contains, of_each}
use Rattle.ex_base.proofs.Each.{each_as, each_parted, each_with}
use Rattle.version_lists.specs.declared.version.Version.{Version}
use Rattle.version_lists.specs.Versions.{unique_of as number_of, has_oid}
use Rattle.version_lists.proofs.Lists.{contains_has, find_has, has_contains}
use Rattle.table_model.specs.Tables.{version_at, versions_of}
use Rattle.versions.specs.Versions.{HasRecord, Spells, IsTreeUnit, place_of, content_units, Stands}
use Rattle.volume_model.specs.Parts.{HasBalance}
use Rattle.volume_model.specs.Volume.{Stored, FileContent, Volume, stored_in, unique_of, oid_of, version_of, content_in, table_of, root_in, roots_in}
use Rattle.volume_model.proofs.Places.{Sep}
use Rattle.versions.proofs.Records.{one_record}
use Rattle.volume_edits.specs.Ported.{ShowsVolume, IsVolume, units_in, index_named}
use Rattle.volume_edits.specs.Shown.{HasShown, ReadsVersion, SameShape}
use Rattle.volume_model.proofs.Kept.{RootKept, units_of_root, spelled_root, shape_of_root}
use Rattle.volume_edits.proofs.Frames.{IsPlacedUnit, IsTreeOf, placed_units, tree_units, own_bytes}
use Rattle.volume_edits.proofs.Contents.{Beside, found_at, content_of, pairs}
use Rattle.volume_edits.proofs.FileVersions.{IsFile, found_by_oid, from_table, into_table, numbers_differ, table_apart, whole_files}
use Rattle.volume_edits.proofs.VolumeTrees.{IsTree}
use Rattle.volume_edits.proofs.Finding.{found_or_not, oid_same, beside_file, file_in, into_volume, row_stored, stored_row, row_stands, stands_row, StandsAt}

abbrev made_record : Head → Content → Record
made_record head content = record { head = head; content = content }

abbrev made_oid : PageNo → ℕ → ℕ → Oid
made_oid page slot unique = record { page = page; slot = slot; unique = unique }

module _ {S : Type 0} (g : ground.Ghosts S) (s : S) (records : List LogRecord) (v : Volume) (vol : ShowsVolume g s records v) where
  abbrev U : Units
  U = units_in g s

  pub apart_numbers : Sep unique_of (stored_in v)
  apart_numbers = numbers_differ (g.geometry s) records U v vol.parts

  pub whole : AllByRecursion IsFile v.files
  whole = whole_files (g.geometry s) records U v vol.parts

  pub apart_versions : Sep number_of (versions_of (table_of U v))
  apart_versions = table_apart U v.catalog.entries v.files whole apart_numbers

  -- what holds of a root of the volume
  pub record IsRoot (root : Root) : Type 0 where
    pub tree : AllByRecursion (IsPlacedUnit g s) (root_units U root)
    pub named : RootNamed (g.geometry s) U root.height root.page
    pub balance : HasBalance (g.geometry s) U root

  roots : AllByRecursion IsRoot (roots_in (stored_in v))
  roots =
      each_with (λ (root : Root). AllByRecursion (IsPlacedUnit g s) (root_units U root)) (λ (root : Root). IsTree (g.geometry s) U root) IsRoot (roots_in (stored_in v)) (λ root t k. record { tree = t; named = k.0; balance = k.1 }) (placed_units g s records v vol)
      (each_with (λ (root : Root). RootNamed (g.geometry s) U root.height root.page) (HasBalance (g.geometry s) U) (λ (root : Root). IsTree (g.geometry s) U root) (roots_in (stored_in v)) (λ root n b. (n, b)) vol.parts.1.1.1.1.0.named vol.parts.1.1.1.1.1.0)

  root_kept : (root : Root) → IsRoot root → RootKept U (g.unit s) root
  root_kept root r = each_as (IsPlacedUnit g s) (λ u. g.unit s u ≡ U u) (root_units U root) (λ u t. sym (own_bytes g s u vol.apart t.0 t.1)) r.tree

  -- the port's units spell what the volume's do
  pub content_spells : (content : Content) → AllByRecursion IsRoot (root_in content) → Spells (g.geometry s) (g.unit s) content (content_in U content)
  content_spells (Small bytes) r = refl
  content_spells (Large root) r = (
    spelled_root (g.geometry s) U (g.unit s) root (content_in U (Large root)) (root_kept root r.0) (record { named = r.0.named; sized = r.0.balance.sized; balanced = r.0.balance.balanced; spelled = refl }),
    r.0.balance.limit,
  )

  content_shape : (content : Content) → AllByRecursion IsRoot (root_in content) → SameShape U (g.unit s) content
  content_shape (Small bytes) r = tt
  content_shape (Large root) r = sym (shape_of_root U (g.unit s) root.height root.size root.page (root_kept root r.0))

  -- no unit of a tree of the volume is a logged page
  content_apart : (content : Content) → AllByRecursion IsRoot (root_in content) → AllByRecursion (λ (unit : ℕ). g.held s unit ≡ false) (content_units (g.unit s) content)
  content_apart (Small bytes) r = tt
  content_apart (Large root) r =
      subst (AllByRecursion (λ (unit : ℕ). g.held s unit ≡ false)) (sym (units_of_root U (g.unit s) root.height root.page (root_kept root r.0)))
      (each_as (IsPlacedUnit g s) (λ (unit : ℕ). g.held s unit ≡ false) (root_units U root) (λ u k. k.1) r.0.tree)

  -- the volume's records of large contents have its roots
  pub roots_here : (x : Stored) → In x (stored_in v) → AllByRecursion IsRoot (root_in x.body.content)
  roots_here x inside = of_each (λ (y : Stored). AllByRecursion IsRoot (root_in y.body.content)) x (stored_in v) (each_parted IsRoot (λ (y : Stored). root_in y.body.content) (stored_in v) roots) inside

  -- the file that has a record of the volume
  pub stands_in : (x : Stored) (e : FileEntry) (f : FileContent) (oid : Oid) → Beside v.catalog.entries v.files e f → In x f.stored → oid_of x ≡ oid → HasRecord g s (index_named e) oid x.body
  stands_in x e f oid beside inside same =
      let content = content_of g s records v vol e f beside in
      let row = row_stored x (bodies_of (g.image s) (index_named e)) f.stored content.records inside in
      let place : row.0.0 ≡ place_of oid = row.2.0 ∙ (let t : x.place ≡ place_of (oid_of x) = refl in t) ∙ ap place_of same in
      let stands = subst (λ (p : Place). StandsAt (g.image s) (pages_in (g.image s) (index_named e)) p row.0.1) place (row_stands (g.image s) (pages_in (g.image s) (index_named e)) row.0 row.1) in
      record {
        body = row.0.1;
        stands = record { file = content.file; named = stands.0; stands = stands.1 };
        spelled = row.2.1;
        number = ap (λ (o : Oid). o.unique) same;
      }

  -- the record of a version of the table
  pub record Told (oid : Oid) (version : Version) : Type 0 where
    pub e : FileEntry
    pub f : FileContent
    pub beside : Beside v.catalog.entries v.files e f
    pub x : Stored
    pub stored : In x f.stored
    pub named : oid_of x ≡ oid
    pub is : version_of U f.stored x ≡ version

  pub told : (oid : Oid) (version : Version) → version_at (table_of U v) oid ≡ Some version → Told oid version
  told oid version is =
      let there = find_has (has_oid oid) (versions_of (table_of U v)) version is in
      let own = from_table U v.catalog.entries v.files whole version there.0 in
      let at = beside_file v.catalog.entries v.files own.f (pairs g s records v vol) (in_contains own.f v.files (has_contains v.files own.f own.file)) in
      record {
        e = at.0;
        f = own.f;
        beside = at.1;
        x = own.x;
        stored = in_contains own.x own.f.stored (has_contains own.f.stored own.x own.stored);
        named = ap (λ (w : Version). w.oid) own.is ∙ oid_same version.oid oid there.1;
        is = own.is;
      }

  pub version_read : (oid : Oid) (version : Version) → version_at (table_of U v) oid ≡ Some version → ReadsVersion g s oid version
  version_read oid version is =
      let t = told oid version is in
      let roots_of = roots_here t.x (into_volume v t.e t.f t.x t.beside t.stored) in
      subst (ReadsVersion g s oid) t.is (record {
        index = index_named t.e;
        head = t.x.body.head;
        content = t.x.body.content;
        stored = stands_in t.x t.e t.f oid t.beside t.stored t.named;
        frozen = refl;
        spells = content_spells t.x.body.content roots_of;
        apart = content_apart t.x.body.content roots_of;
        shape = content_shape t.x.body.content roots_of;
        named = t.named;
      })

  -- the record of the volume that an OID leads to
  pub record Met (index : Index) (oid : Oid) (r : Record) : Type 0 where
    pub e : FileEntry
    pub f : FileContent
    pub beside : Beside v.catalog.entries v.files e f
    pub index_is : index_named e ≡ index
    pub x : Stored
    pub stored : In x f.stored
    pub named : oid_of x ≡ oid
    pub body : x.body ≡ r

  pub met : (index : Index) (oid : Oid) (r : Record) → HasRecord g s index oid r → Met index oid r
  met index oid r has =
      let at = found_at g s records v vol index.file_no index has.stands.file.entry in
      let content = content_of g s records v vol at.e at.f at.beside in
      let inside : In (place_of oid, has.body) (bodies_of (g.image s) (index_named at.e)) = subst (λ (i : Index). In (place_of oid, has.body) (bodies_of (g.image s) i)) (sym at.named) (stands_row (g.image s) (pages_in (g.image s) index) (place_of oid) has.body (has.stands.named, has.stands.stands)) in
      let own = stored_row (place_of oid, has.body) (bodies_of (g.image s) (index_named at.e)) at.f.stored content.records inside in
      let body : own.0.body ≡ r = one_record has.body own.0.body r own.2.1 has.spelled in
      let place : own.0.place ≡ place_of oid = sym own.2.0 in
      let number : unique_of own.0 ≡ oid.unique = ap (λ (q : Record). q.head.unique) body ∙ has.number in
      let page : own.0.place.page ≡ oid.page = ap (λ (p : Place). p.page) place in
      let slot : own.0.place.slot ≡ oid.slot = ap (λ (p : Place). p.slot) place in
      let named : made_oid own.0.place.page own.0.place.slot (unique_of own.0) ≡ made_oid oid.page oid.slot oid.unique = cc (page, slot, number) in
      record { e = at.e; f = at.f; beside = at.beside; index_is = at.named; x = own.0; stored = own.1; named = named; body = body }

  -- a record of the volume is a version of its table
  pub version_is : (e : FileEntry) (f : FileContent) (x : Stored) (oid : Oid) → Beside v.catalog.entries v.files e f → In x f.stored → oid_of x ≡ oid → version_at (table_of U v) oid ≡ Some (version_of U f.stored x)
  version_is e f x oid beside stored named =
      found_by_oid oid (versions_of (table_of U v)) (version_of U f.stored x) apart_versions
      (into_table U v.catalog.entries v.files (pairs g s records v vol) whole f x (contains_has v.files f (contains_in f v.files (file_in v e f beside))) (contains_has f.stored x (contains_in x f.stored stored))) named

  pub none_there : (oid : Oid) → (version_at (table_of U v) oid ≡ None) ↔ (Stands g s oid → ⊥)
  none_there oid = (
    (λ nothing st. absurd (let m = met st.index oid st.is st.has in let some = version_is m.e m.f m.x oid m.beside m.stored m.named in cc)),
    (λ never. elim (found_or_not (version_at (table_of U v) oid)) [
      | inl nothing ↦ nothing
      | inr some ↦ absurd (let shown = version_read oid some.0 some.1 in never (record { index = shown.index; is = made_record shown.head shown.content; has = shown.stored }))
    ]),
  )

  -- over units in use
  module _ (in_use : IsVolume g s records v) where
    content_trees : (content : Content) → AllByRecursion IsRoot (root_in content) → AllByRecursion (λ (root : Root). AllByRecursion (IsTreeOf g s) (root_units U root)) (root_in content) → AllByRecursion (IsTreeUnit g s) (content_units (g.unit s) content)
    content_trees (Small bytes) r t = tt
    content_trees (Large root) r t =
        subst (AllByRecursion (IsTreeUnit g s)) (sym (units_of_root U (g.unit s) root.height root.page (root_kept root r.0)))
        (each_as (IsTreeOf g s) (IsTreeUnit g s) (root_units U root) (λ u k. (k.1, k.2)) t.0)

    trees_here : (x : Stored) → In x (stored_in v) → AllByRecursion (λ (root : Root). AllByRecursion (IsTreeOf g s) (root_units U root)) (root_in x.body.content)
    trees_here x inside = of_each (λ (y : Stored). AllByRecursion (λ (root : Root). AllByRecursion (IsTreeOf g s) (root_units U root)) (root_in y.body.content)) x (stored_in v)
        (each_parted (λ (root : Root). AllByRecursion (IsTreeOf g s) (root_units U root)) (λ (y : Stored). root_in y.body.content) (stored_in v) (tree_units g s records v in_use)) inside

    pub version_found : (oid : Oid) (version : Version) → version_at (table_of U v) oid ≡ Some version → HasShown g s oid version
    version_found oid version is =
        let t = told oid version is in
        let here = into_volume v t.e t.f t.x t.beside t.stored in
        let roots_of = roots_here t.x here in
        subst (HasShown g s oid) t.is (record {
          index = index_named t.e;
          head = t.x.body.head;
          content = t.x.body.content;
          stands = record {
            stored = stands_in t.x t.e t.f oid t.beside t.stored t.named;
            spells = content_spells t.x.body.content roots_of;
            units = content_trees t.x.body.content roots_of (trees_here t.x here);
          };
          frozen = refl;
          named = t.named;
        })
