-- What a port leaves holds the volume that its working state became.
use Rattle.std.proofs.Common.{◌≡◌, ◌∙◌, ℕ, Bool, true, false, List, ◌∷◌, ◌++◌, Option, Some, None, nat_eq, sym, ap, subst, length, map, ◌≤◌, arith}
use Rattle.std.specs.Prelude.{Contains, unwrap_or}
use Rattle.std.specs.Map.{lookup}
use Rattle.std.proofs.lemmas.Bool.{both_ways}
use Rattle.ex_base.specs.declared.geometry.Geometry.{Geometry}
use Rattle.ex_base.specs.declared.ground.Ground as ground
use Rattle.ex_base.specs.declared.names.Root.{Root}
use Rattle.ex_base.specs.Area.{InPageArea, catalog_no}
use Rattle.disk_model.specs.Outside.{Outside}
use Rattle.disk_model.specs.Runs.{honest_on}
use Rattle.meta_pages.specs.Overlays.{AreRows, Overlays, image_at}
use Rattle.open_scans.specs.OpenScans.{OpenRow, scan_of}
use Rattle.page_alloc.specs.UnitSet.{refs_at, used_at}
use Rattle.trees.specs.Counted.{NamesPairs}
use Rattle.trees.specs.Trees.{Units}
use Rattle.tree_store.specs.Stored.{NoUnit, Tells, unit_bytes}
use Rattle.table_model.specs.declared.table.Table.{Table}
use Rattle.table_model.specs.Machines.{shown}
use Rattle.table_model.specs.Tables.{IsTable}
use Rattle.ex_base.specs.declared.names.Area.{Area}
use Rattle.volume_edits.specs.TableUpdates.{BecomesVolume}
use Rattle.op_log.specs.declared.record.LogRecord.{LogRecord}
use Rattle.session_views.specs.View.{View, ShowsNow}
use Rattle.versions.specs.Versions.{AreInUse}
use Rattle.volume_edits.specs.Edits.{trees_of}
use Rattle.volume_edits.specs.Ported.{IsApart, IsVolume, units_in}
use Rattle.volume_model.specs.Committed.{Committed}
use Rattle.volume_model.specs.OwnersShown.{OwnersShown}
use Rattle.volume_model.specs.Shown.{PageRow, roots_here, working_units}
use Rattle.volume_model.specs.Volume.{Decoded, Volume, file_pages, reach_of, roots_in, stored_in, table_of, units_of}
use Rattle.volume_port.specs.Logged.{LoggedSet, is_held}
use Rattle.volume_port.specs.Ported.{image_over}
use Rattle.volume_port.specs.Stays.{StaysUsed, StillCommitted}
use Rattle.session_core.specs.Commits.{scans_reach}
use Rattle.session_core.specs.Finding.{IsPortOf, PortShows}
use Rattle.session_core.specs.Meant.{meant}
use Rattle.session_core.specs.Sessions.{SessionState, IsSession, volume_held}
use Rattle.session_core.specs.Counts.{free_in}
use Rattle.session_core.specs.Updates.{HasVolume, HoldsTurned, KeepsTurned, OwnsGone}
use Rattle.volume_port.specs.State.{Moved}
use Rattle.volume_port.specs.declared.state.VolumeState.{VolumeState}
use Rattle.session_core.proofs.Bridge.{image_shown, kept_page, shows_volume, table_is, volume_kept}
use Rattle.volume_port.proofs.WorkingUnits.{image_is, no_image}
use Rattle.volume_model.proofs.AtRest.{in_second}
use Rattle.session_core.proofs.Finding.{shown_tells}
use Rattle.session_core.proofs.Homes.{home_kept}
use Rattle.volume_model.proofs.KeptOff.{trees_kept}
use Rattle.session_core.proofs.Ruling.{image_most, volume_rules}
use Rattle.volume_model.proofs.Showing.{trees_in}
use Rattle.session_core.proofs.PortParts.{IsPortWith, port_of}
use Rattle.session_core.proofs.Turning.{owners_turned, owns_gone}
use Rattle.session_core.proofs.Updating.{LeavesVolume, IsSettled, update_stays, updates_show}

-- ---- before the update

module _ {S : Type 0} (g : ground.Ghosts S) (s : S) {a : Outside} {before : View SessionState} (now : ShowsNow meant a before) (session : IsSession before.session)
    (over : IsPortWith g s before.session.geometry a.disk (volume_held before.session)) where
  abbrev d : Decoded
  d = now.shows.decoded

  abbrev working : Volume
  working = now.shows.working

  abbrev O : Units
  O = working_units d before.disk before.session.meta.working

  port : IsPortOf g s before.session a.disk
  port = port_of g s before.session a.disk over

  pub trees_before : trees_of (units_in g s) working ≡ trees_in O working
  trees_before = trees_kept O (units_in g s) (roots_in (stored_in working)) (volume_kept g s now port).roots

  used_before : (u : ℕ) → Contains (reach_of O working) u → used_at before.session.units u ≡ true
  used_before u has = (now.shows.used.reached u).1 (in_second (reach_of (units_of d before.disk) d.volume) (reach_of O working) (scans_reach d before) u has)

  pub is_volume : IsVolume g s d.records working
  is_volume = record {
    shows = shows_volume g s now port session.pages;
    used = λ u has. ap (λ (f : ℕ → Bool). f u) over.used ∙ used_before u (subst (λ (us : List ℕ). Contains ((catalog_no ∷ file_pages working) ++ us) u) trees_before has);
  }

  -- ---- after it

  module _ (t : S) {b : Outside} (p : VolumeState) (moved : Moved NoUnit a b (volume_held before.session) p) (later_over : IsPortWith g t before.session.geometry b.disk p) where
    pub in_use_after : AreInUse g t
    in_use_after page held =
        ap (λ (f : ℕ → Bool). f page) later_over.used ∙ moved.ready.in_use page (sym (ap (λ (f : ℕ → Bool). f page) later_over.held) ∙ held)

    nothing_over : (page : ℕ) → is_held p.pages page ≡ false → image_at p.meta page ≡ None
    nothing_over page off = no_image (lookup (nat_eq page) p.meta.working) (lookup (nat_eq page) p.meta.committed)
        (λ image row. both_ways _ off (moved.ready.images page image row))
        (λ image row. moved.given_back page (session.pages.known page (kept_page g s now port session.pages page image (sym (ap (λ (rows : List (ℕ × List ℕ)). lookup (nat_eq page) rows) moved.committed) ∙ row))) off)

    pub apart_after : IsApart g t
    apart_after page area off =
        let home = unit_bytes before.session.geometry b.disk in
        let lies : InPageArea before.session.geometry page = subst (λ (h : Geometry). InPageArea h page) later_over.geometry_is area in
        ap (λ (f : ℕ → List ℕ). f page) later_over.image
        ∙ image_is before.session.geometry p.meta home page lies
        ∙ ap (λ (o : Option (List ℕ)). unwrap_or o (home page)) (nothing_over page (sym (ap (λ (f : ℕ → Bool). f page) later_over.held) ∙ off))
        ∙ sym (ap (λ (f : ℕ → List ℕ). f page) later_over.unit)

    module _ (names : NamesPairs g) (table : Table) (gone come : Option Root) (becomes : BecomesVolume g s t d.records working table gone come) where
      tells : Tells a before.session.groups
      tells = let bytes = shown_tells now session.sizes in (now.honest, bytes.0, bytes.1)

      -- a session with the volume
      abbrev first : SessionState
      first = record before.session { units = p.units; groups = p.groups; meta = p.meta; pages = p.pages }

      abbrev Still : List ℕ → VolumeState → Type 0
      Still later q = StillCommitted (IsSettled before.session) (StaysUsed NoUnit (used_at q.units)) d before.disk b.images later before.session.log q.meta.committed

      stays : (later : List ℕ) × ((b.disk ≡ Some later) × Still later p)
      stays = update_stays now session first moved.changes (λ unit (is, apart). (moved.used unit is apart, apart)) moved.committed

      abbrev later : List ℕ
      later = stays.0

      port_after : (new : SessionState) → new.meta ≡ p.meta → new.pages ≡ p.pages → new.geometry ≡ before.session.geometry → IsPortOf g t new b.disk
      port_after new meta pages geometry = record {
        geometry = later_over.geometry_is ∙ sym geometry;
        unit = later_over.unit ∙ ap (λ (h : Geometry). unit_bytes h b.disk) (sym geometry);
        image =
            later_over.image ∙ ap (λ (h : Geometry). image_over h p.meta (unit_bytes h b.disk)) (sym geometry)
            ∙ ap (λ (m : Overlays). image_over new.geometry m (unit_bytes new.geometry b.disk)) (sym meta);
        held = later_over.held ∙ ap (λ (k : LoggedSet). is_held k) (sym pages);
      }

      leaves : (new : SessionState) → KeepsTurned before.session new b p gone come → LeavesVolume g t b d before new becomes.now later
      leaves new rest =
          let same : volume_held new ≡ record (volume_held before.session) { units = new.units; groups = new.groups; meta = p.meta; pages = p.pages } =
          rest.volume ∙ ap (λ (v : VolumeState). record v { units = new.units; groups = new.groups }) moved.rest in
          let meta : new.meta ≡ p.meta = ap (λ (v : VolumeState). v.meta) same in
          let geometry : new.geometry ≡ before.session.geometry = ap (λ (v : VolumeState). v.geometry) same in
          let committed : new.meta.committed ≡ p.meta.committed = ap (λ (m : Overlays). m.committed) meta in
          record {
            port = port_after new meta (ap (λ (v : VolumeState). v.pages) same) geometry;
            volume = becomes.volume;
            holds = stays.1.0;
            lends = rest.lends (moved.told tells);
            still = subst (λ (overlay : List PageRow). Committed b.images d later before.session.log overlay) (sym committed) stays.1.1.committed;
            table = stays.1.1.table;
            owners = subst (λ (roots : List Root). OwnersShown d (used_at new.units) (refs_at new.units) new.gained new.lost roots later becomes.now) (ap (λ (rows : List OpenRow). roots_here (map scan_of rows)) (sym rest.scans))
                (owners_turned g s t names now session over p moved later_over in_use_after table gone come becomes later stays.1.0 (moved.told tells) rest.left new.units rest.swept new.gained new.lost rest.turned);
            homes = home_kept now session moved.changes later stays.1.0;
            scans = rest.scans;
            committed = committed ∙ moved.committed;
            kept = ap (λ (v : VolumeState). v.kept) same;
            log = ap (λ (v : VolumeState). v.log) same;
            geometry = geometry;
          }

      pub owns_went : OwnsGone before b p gone come
      owns_went = owns_gone g s t names now session over p moved later_over in_use_after table gone come becomes later stays.1.0 (moved.told tells)

      module _ (ready : g.ready t) (told_later : g.tells t) (rows : AreRows p.meta) where
        catalog_lies : (h : Geometry) → InPageArea h catalog_no
        catalog_lies h = let some = h.some_pages in (omega arith, omega (arith, some))

        catalog_fits : length (g.image t catalog_no) ≤ (g.geometry t).page_size
        catalog_fits =
            subst (λ (image : ℕ → List ℕ). length (image catalog_no) ≤ (g.geometry t).page_size) (sym later_over.image)
            (subst (λ (h : Geometry). length (image_over before.session.geometry p.meta (unit_bytes before.session.geometry b.disk) catalog_no) ≤ h.page_size) (sym later_over.geometry_is)
            (image_most before.session.geometry p.meta rows (moved.ready.overlay ∙ ap (λ (v : VolumeState). v.geometry) moved.rest) catalog_no b.disk (catalog_lies before.session.geometry)))

        rules_kept : IsTable before.session.geometry table
        rules_kept =
            subst (λ (h : Geometry). IsTable h table) later_over.geometry_is
            (subst (λ (kept : Table). IsTable (g.geometry t) kept) becomes.shows
            (volume_rules g t ready told_later d.records becomes.now (catalog_lies (g.geometry t)) catalog_fits becomes.volume.shows))

        pub holds_turned : HoldsTurned before b p gone come table
        holds_turned = record {
          later = later;
          holds = stays.1.0;
          rules = rules_kept;
          honest = honest_on moved.changes.only.goes now.honest;
          shows = λ m new rest with shared. updates_show g t now new becomes.now later (leaves new rest) rest.is m table with (sym becomes.shows) shared;
        }

-- ---- over the session that an update begins with

module _ {S : Type 0} (g : ground.Ghosts S) (s : S) {a : Outside} (old : VolumeState) (over : IsPortWith g s old.geometry a.disk old) (told : Tells a old.groups → g.tells s) where
  module _ {before : View SessionState} (has : HasVolume before.session old) (now : ShowsNow meant a before) where
    own_over : IsPortWith g s before.session.geometry a.disk (volume_held before.session)
    own_over = subst (λ (v : VolumeState). IsPortWith g s v.geometry a.disk v) (sym has.volume) over

    own_tells : g.tells s
    own_tells = (let bytes = shown_tells now has.is.sizes in told (subst (λ (v : VolumeState). Tells a v.groups) has.volume (now.honest, bytes.0, bytes.1)))

    own_port : IsPortOf g s before.session a.disk
    own_port = port_of g s before.session a.disk own_over

    pub same_table : shown before.machine ≡ table_of (units_in g s) now.shows.working
    same_table = table_is g s now own_port

    -- the port has what the view shows, and as many free units as the session
    pub own_shows : PortShows g s before
    own_shows = record {
      geometry = own_port.geometry;
      records = now.shows.decoded.records;
      working = now.shows.working;
      volume = shows_volume g s now own_port has.is.pages;
      table = same_table;
      image = image_shown g s now own_port;
      tells = own_tells;
    }

    pub own_free : (area : Area) → g.free s area ≡ free_in before.session area
    own_free area = ap (λ (free : Area → ℕ). free area) own_over.free

    -- what the view shows, over units in use
    pub own_volume : IsVolume g s now.shows.decoded.records now.shows.working
    own_volume = is_volume g s now has.is own_over

  module _ (asks : Volume → Table → Type 0) where
    -- where a volume with such a table excludes a fault, so does a session that shows both
    pub never_shown : ((records : List LogRecord) (v : Volume) → g.tells s → IsVolume g s records v → asks v (table_of (units_in g s) v) → ⊥)
        → (before : View SessionState) → HasVolume before.session old → (now : ShowsNow meant a before) → asks now.shows.working (shown before.machine) → ⊥
    never_shown never before has now asked =
        never now.shows.decoded.records now.shows.working (own_tells has now) (is_volume g s now has.is (own_over has now)) (subst (asks now.shows.working) (same_table has now) asked)

    module _ (names : NamesPairs g) (t : S) (ready : g.ready s) (leads : g.leads s t) {b : Outside} (new : VolumeState) (moved : Moved NoUnit a b old new) (later_over : IsPortWith g t old.geometry b.disk new) (after : Table → Table) (gone come : Option Root)
        (becomes : (records : List LogRecord) (v : Volume) → g.tells s → IsVolume g s records v → asks v (table_of (units_in g s) v) → IsApart g t → AreInUse g t → BecomesVolume g s t records v (after (table_of (units_in g s) v)) gone come)
        (before : View SessionState) (has : HasVolume before.session old) (now : ShowsNow meant a before) (asked : asks now.shows.working (shown before.machine)) where
      own : IsPortWith g s before.session.geometry a.disk (volume_held before.session)
      own = own_over has now

      moves : Moved NoUnit a b (volume_held before.session) new
      moves = subst (λ (v : VolumeState). Moved NoUnit a b v new) (sym has.volume) moved

      over_later : IsPortWith g t before.session.geometry b.disk new
      over_later = subst (λ (v : VolumeState). IsPortWith g t v.geometry b.disk new) (sym has.volume) later_over

      -- what it becomes, from what the session shows
      becomes_now : BecomesVolume g s t now.shows.decoded.records now.shows.working (after (shown before.machine)) gone come
      becomes_now =
          let same = same_table has now in
          subst (λ (table : Table). BecomesVolume g s t now.shows.decoded.records now.shows.working (after table) gone come) (sym same)
          (becomes now.shows.decoded.records now.shows.working (own_tells has now) (is_volume g s now has.is own) (subst (asks now.shows.working) same asked)
          (apart_after g s now has.is own t new moves over_later) (in_use_after g s now has.is own t new moves over_later))

      -- where it becomes a volume with another table, the parts hold that table,
      pub update_holds : AreRows new.meta → HoldsTurned before b new gone come (after (shown before.machine))
      update_holds rows =
          holds_turned g s now has.is own t new moves over_later names (after (shown before.machine)) gone come becomes_now (g.leads_ready s t leads ready) (g.leads_told s t leads (own_tells has now)) rows

      -- and the root that went owns its tree
      pub update_owns : OwnsGone before b new gone come
      update_owns = owns_went g s now has.is own t new moves over_later names (after (shown before.machine)) gone come becomes_now
