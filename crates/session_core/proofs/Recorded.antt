-- Where the record of a version of a shown table stands, and what its tree is at home.
use Rattle.std.proofs.Common.{◌≡◌, ◌∙◌, ◌≤◌, ◌<◌, ℕ, List, [], ◌∷◌, length, Option, Some, None, refl, sym, ap, subst, arith, inl, inr, nat_lt, nat_eq}
use Rattle.std.specs.Prelude.{slice_index_or, unwrap_or}
use Rattle.std.specs.List.{zip}
use Rattle.std.specs.Map.{lookup}
use Rattle.std.proofs.lemmas.Bool.{cond-true, lt-ltb}
use Rattle.ex_base.specs.declared.geometry.Geometry.{Geometry}
use Rattle.ex_base.specs.declared.names.Oid.{Oid}
use Rattle.ex_base.specs.declared.names.Place.{Place}
use Rattle.ex_base.specs.declared.names.Root.{Root}
use Rattle.ex_base.specs.Area.{InPageArea, area_end, leaf_at, page_at}
use Rattle.ex_base.specs.Ports.{times}
use Rattle.ex_base.specs.Sizes.{object_most}
use Rattle.ex_base.proofs.Members.{In, from_flat, into_flat, of_each}
use Rattle.meta_pages.specs.Overlays.{AreRows, over}
use Rattle.object_records.specs.Record.{BodyOf, Content, Large, Record, Small}
use Rattle.object_records.specs.Reads.{record_on}
use Rattle.object_records.proofs.RecordLaws.{record_read}
use Rattle.op_log.specs.AfterLog.{logged}
use Rattle.op_log.specs.declared.record.LogRecord.{LogRecord}
use Rattle.slotted_pages.specs.Edits.{slots_of}
use Rattle.slotted_pages.specs.FilePage.{FilePage, Slot, SlotsOf, body_of}
use Rattle.file_bodies.proofs.Pages.{slots_are}
use Rattle.session_views.specs.View.{View}
use Rattle.version_lists.specs.declared.version.Version.{Version}
use Rattle.table_model.specs.Machines.{shown}
use Rattle.table_model.specs.Tables.{version_at}
use Rattle.table_model.specs.declared.table.Table.{Table}
use Rattle.tree_store.specs.Stored.{unit_bytes}
use Rattle.trees.specs.Owners.{root_pages}
use Rattle.trees.specs.Shown.{BytesShown}
use Rattle.trees.specs.Trees.{RootNamed, RootSpells, Units, root_bytes}
use Rattle.trees.proofs.KeptRoots.{RootKept, spelled_root}
use Rattle.versions.specs.Found.{root_of}
use Rattle.versions.proofs.Puts.{body_long}
use Rattle.versions.proofs.Standing.{large_content}
use Rattle.volume_edits.proofs.Contents.{at_beside}
use Rattle.volume_edits.proofs.Finding.{row_stored}
use Rattle.volume_model.specs.Held.{root_here}
use Rattle.volume_model.specs.Homes.{home}
use Rattle.volume_model.specs.Parts.{HasBalance, HasBodies, HasPage, HasPages, bodies_from, bodies_in}
use Rattle.volume_model.specs.Shown.{Held, Shows, laid_over_page, working_units}
use Rattle.volume_model.specs.TreesShown.{TreesShown}
use Rattle.volume_model.specs.Volume.{Decoded, Stored, Volume, content_in, root_in, roots_in, stored_in, table_of}
use Rattle.volume_model.proofs.ExactView.{working_at_home}
use Rattle.volume_model.proofs.OwnersAlike.{first_pages}
use Rattle.session_core.specs.Finding.{content_named, held_image}
use Rattle.session_core.specs.Meant.{held_view}
use Rattle.session_core.specs.Sessions.{SessionState}
use Rattle.volume_model.proofs.Showing.{session_geometry}
use Rattle.volume_model.proofs.SlotBodies.{body_inside, slot_in, zip_at}
use Rattle.volume_port.proofs.HeldCatalog.{laid_over_log}
use Rattle.volume_port.proofs.WorkingUnits.{image_is, page_bytes}
use Rattle.volume_edits.proofs.Records.{record_of}
use Rattle.session_core.proofs.Ruling.{image_most}
use Rattle.volume_model.proofs.Volumes.{Parts, shown_parts, shown_table}

-- ---- the record of a version

-- The version has the bytes of this record of the volume, whose body stands in its slot on a page of a file.
pub record IsRecorded (units : Units) (v : Volume) (oid : Oid) (version : Version) : Type 0 where
  pub stored : Stored
  pub inside : In stored (stored_in v)
  pub bytes_are : version.bytes ≡ content_in units stored.body.content
  pub page : FilePage
  pub spelled : SlotsOf (units oid.page.0) page
  pub body : List ℕ
  pub stands : slice_index_or page.slots oid.slot None ≡ Some body
  pub body_is : BodyOf body stored.body

module _ (g : Geometry) (records : List LogRecord) (units : Units) (v : Volume) (parts : Parts g records units v) where
  pub recorded : (oid : Oid) (version : Version) → version_at (table_of units v) oid ≡ Some version → IsRecorded units v oid version
  recorded oid version is =
      let own = record_of g records units v parts oid version is in
      let pages : HasPages units own.e own.f = at_beside (HasPages units) v.catalog.entries v.files own.e own.f own.beside parts.1.1.0 in
      let whole : HasBodies own.f = of_each HasBodies own.f v.files parts.1.1.1.0 own.file in
      let row = row_stored own.x (bodies_in own.f) own.f.stored whole.records own.stored in
      let pair = from_flat (λ (r : ℕ × FilePage). bodies_from r.0 0 r.1.slots) row.0 (zip own.f.numbers own.f.pages) row.1 in
      let slot = slot_in pair.0.0 0 pair.0.1.slots row.0 pair.2 in
      let page : HasPage units own.e pair.0.0 pair.0.1 = zip_at (HasPage units own.e) own.f.numbers own.f.pages pair.0 pages pair.1 in
      let number : oid.page.0 ≡ pair.0.0 = ap (λ (o : Oid). o.page.0) (sym own.named) ∙ ap (λ (p : Place). p.page.0) (sym row.2.0) ∙ slot.0 in
      let own_slot : row.0.0.slot ≡ slot.1.0 = (let e = slot.1.1 in omega arith) in
      let slot_is : oid.slot ≡ slot.1.0 = ap (λ (o : Oid). o.slot) (sym own.named) ∙ ap (λ (p : Place). p.slot) (sym row.2.0) ∙ own_slot in
      record {
        stored = own.x;
        inside = own.inside;
        bytes_are = ap (λ (w : Version). w.bytes) (sym own.is);
        page = pair.0.1;
        spelled = subst (λ (n : ℕ). SlotsOf (units n) pair.0.1) (sym number) page.0;
        body = row.0.1;
        stands = subst (λ (k : ℕ). slice_index_or pair.0.1.slots k None ≡ Some row.0.1) (sym slot_is) slot.1.2;
        body_is = row.2.1;
      }

  -- the tree of a root of the volume spells its bytes
  spelled_here : (root : Root) → In root (roots_in (stored_in v)) → RootSpells g units root (root_bytes units root) × (root.size ≤ object_most)
  spelled_here root has =
      let named = of_each (λ (r : Root). RootNamed g units r.height r.page) root (roots_in (stored_in v)) parts.1.1.1.1.0.named has in
      let balance = of_each (HasBalance g units) root (roots_in (stored_in v)) parts.1.1.1.1.1.0 has in
      (record { named = named; sized = balance.sized; balanced = balance.balanced; spelled = refl }, balance.limit)

-- ---- as a view shows it

-- the page of a root in a list
page_of : (u : ℕ) (root : Root) (roots : List Root) → In root roots → 1 ≤ times u (root_pages (root_here (Some root))) → 1 ≤ times u (root_pages roots)
page_of u root [] inside has = absurd inside
page_of u root (first ∷ roots) (inl same) has =
    omega (arith, first_pages u first roots, ap (λ (r : Root). times u (root_pages (root_here (Some r)))) same, has)
page_of u root (first ∷ roots) (inr inside) has = omega (arith, first_pages u first roots, page_of u root roots inside has)

module _ {may_leave : List ℕ → Type 0} (before : View SessionState) (shows : Shows may_leave (held_view before)) where
  abbrev d : Decoded
  d = shows.decoded

  abbrev v : View Held
  v = held_view before

  -- the units of the working state
  abbrev U : Units
  U = working_units d v.disk v.session.working_pages

  abbrev H : Units
  H = home d.geometry v.disk

  same_geometry : before.session.geometry ≡ d.geometry
  same_geometry = session_geometry shows

  unit_is : (page : ℕ) → InPageArea d.geometry page → U page ≡ held_image v.session v.disk page
  unit_is page lies =
      let base = page_at d.geometry v.disk page in
      let row = lookup (nat_eq page) v.session.working_pages in
      cond-true (nat_lt page (area_end d.geometry)) (laid_over_page (unwrap_or (logged d.records page) base) base row) (leaf_at d.geometry v.disk page) (lt-ltb page (area_end d.geometry) lies.1)
      ∙ laid_over_log row (logged d.records page) base
      ∙ ap (λ (o : Option (List ℕ)). unwrap_or (over row o) base) (sym (shows.overlay.just page))
      ∙ ap (λ (g : Geometry). unwrap_or (over row (lookup (nat_eq page) v.session.overlay)) (page_at g v.disk page)) (sym same_geometry)

  trees : TreesShown d v shows.working
  trees = record { parts = shows.parts; working_shown = shows.working_shown; scans = shows.scans; overlay = shows.overlay; images = shows.apart.images }

  module _ (oid : Oid) (version : Version) (is : version_at (shown before.machine) oid ≡ Some version) (lies : InPageArea before.session.geometry oid.page.0) where
    stands : IsRecorded U shows.working oid version
    stands = recorded d.geometry d.records U shows.working (shown_parts shows) oid version (ap (λ (t : Table). version_at t oid) (sym (shown_table shows)) ∙ is)

    inside_area : InPageArea d.geometry oid.page.0
    inside_area = subst (λ (g : Geometry). InPageArea g oid.page.0) same_geometry lies

    content_is : content_named v oid ≡ stands.stored.body.content
    content_is =
        ap (λ (bytes : List ℕ). (record_on (body_of (slice_index_or (slots_of bytes) oid.slot None))).content) (sym (unit_is oid.page.0 inside_area))
        ∙ ap (λ (slots : List Slot). (record_on (body_of (slice_index_or slots oid.slot None))).content) (slots_are (U oid.page.0) stands.page stands.spelled)
        ∙ ap (λ (s : Slot). (record_on (body_of s)).content) stands.stands
        ∙ ap (λ (r : Record). r.content) (record_read stands.body stands.stored.body stands.body_is)

    -- The root of a large version is one of the working volume's,
    root_inside : (root : Root) → root_of (content_named v oid) ≡ Some root → In root (roots_in (stored_in shows.working))
    root_inside root rooted =
        let large : stands.stored.body.content ≡ Large root = sym content_is ∙ large_content (content_named v oid) root rooted in
        into_flat (λ (s : Stored). root_in s.body.content) root stands.stored (stored_in shows.working) stands.inside (subst (λ (c : Content). In root (root_in c)) (sym large) (inl refl))

    pub root_there : (root : Option Root) → root_of (content_named v oid) ≡ root → (u : ℕ) → 1 ≤ times u (root_pages (root_here root)) → 1 ≤ times u (root_pages (roots_in (stored_in shows.working)))
    root_there None rooted u has = absurd (omega (arith, has))
    root_there (Some root) rooted u has = page_of u root (roots_in (stored_in shows.working)) (root_inside root rooted) has

    -- and it spells the version's bytes at home, as over the working pages.
    pub spelled_home : (root : Root) → root_of (content_named v oid) ≡ Some root → RootSpells d.geometry H root version.bytes × (root.size ≤ object_most)
    spelled_home root rooted =
        let large : stands.stored.body.content ≡ Large root = sym content_is ∙ large_content (content_named v oid) root rooted in
        let inside = root_inside root rooted in
        let spells = spelled_here d.geometry d.records U shows.working (shown_parts shows) root inside in
        let kept : RootKept U H root = of_each (RootKept U H) root (roots_in (stored_in shows.working)) (working_at_home d v shows.working shows.owners trees) inside in
        let bytes : version.bytes ≡ root_bytes U root = stands.bytes_are ∙ ap (content_in U) large in
        (subst (RootSpells d.geometry H root) (sym bytes) (spelled_root d.geometry U H root (root_bytes U root) kept spells.0), spells.1)

    -- A small one has fewer bytes than a page.
    module _ (rows : AreRows before.session.meta) (same_meta : before.session.meta.geometry ≡ before.session.geometry) where
      image_fits : length (held_image v.session v.disk oid.page.0) ≤ before.session.geometry.page_size
      image_fits =
          let g = before.session.geometry in
          let units = unit_bytes g (Some v.disk) in
          subst (λ (bytes : List ℕ). length bytes ≤ g.page_size)
          (image_is g before.session.meta units oid.page.0 lies ∙ ap (λ (bytes : List ℕ). unwrap_or (over (lookup (nat_eq oid.page.0) v.session.working_pages) (lookup (nat_eq oid.page.0) v.session.overlay)) bytes) (page_bytes g v.disk oid.page.0 (lt-ltb oid.page.0 (area_end g) lies.1)))
          (image_most g before.session.meta rows same_meta oid.page.0 (Some v.disk) lies)

      pub small_short : root_of (content_named v oid) ≡ None → length version.bytes < d.geometry.page_size
      small_short rootless = by stands.stored.body.content refl (sym (ap root_of content_is) ∙ rootless)
        where
          by : (content : Content) → stands.stored.body.content ≡ content → root_of content ≡ None → length version.bytes < d.geometry.page_size
          by (Large root) large none = absurd (cc)
          by (Small bytes) small none =
              let own : BodyOf stands.body (record { head = stands.stored.body.head; content = Small bytes }) =
              subst (λ (c : Content). BodyOf stands.body (record { head = stands.stored.body.head; content = c })) small stands.body_is in
              let is_bytes : version.bytes ≡ bytes = stands.bytes_are ∙ ap (content_in U) small in
              omega (
                arith,
                ap length is_bytes,
                body_long stands.body stands.stored.body.head bytes own,
                body_inside stands.page.slots oid.slot stands.body stands.stands,
                stands.spelled.fits.room,
                ap length (unit_is oid.page.0 inside_area),
                image_fits,
                ap (λ (g : Geometry). g.page_size) same_geometry,
              )

      -- So the version's bytes are shown at home by its root, or by themselves where it is small.
      pub shown_home : (root : Option Root) (small : List ℕ) → root_of (content_named v oid) ≡ root → (root ≡ None → small ≡ version.bytes) → BytesShown d.geometry H version.bytes small root
      shown_home None small rooted given = (sym (given refl), small_short rooted)
      shown_home (Some root) small rooted given = spelled_home root rooted
