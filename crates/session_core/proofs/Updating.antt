-- A view after an update: where the port's working state is a volume again, and what is committed stayed, the session shows it.
use Rattle.std.proofs.Common.{◌≡◌, ◌≢◌, ◌∙◌, ◌⊎◌, ⊎_elim, ◌↔◌, ◌<◌, ℕ, Bool, true, false, cond, List, [], ◌∷◌, map, All, Option, Some, None, nat_eq, sym, ap, subst, inl, inr, arith, eqb-true, refl}
use Rattle.std.specs.Prelude.{Contains, IsSome}
use Rattle.std.specs.List.{AllByRecursion, AllZip}
use Rattle.std.specs.Map.{lookup}
use Rattle.std.proofs.lemmas.List.Elements.{Contains-append_right}
use Rattle.lru.proofs.Splits.{Contains-cons}
use Rattle.ex_base.specs.declared.geometry.Geometry.{Geometry}
use Rattle.ex_base.specs.declared.ground.Ground as ground
use Rattle.ex_base.specs.declared.names.Area.TheVariants.{Page, Segment}
use Rattle.ex_base.specs.Area.{InPageArea, catalog_no}
use Rattle.ex_base.specs.Order.{Rising}
use Rattle.ex_base.proofs.Each.{each_from, each_of}
use Rattle.disk_model.specs.Outside.{Outside, IsWorld, Leaves}
use Rattle.disk_model.specs.Changes.{ChangesWithin}
use Rattle.disk_model.specs.Runs.{leaves_wider}
use Rattle.op_log.specs.declared.record.LogRecord.{LogRecord}
use Rattle.buffer_groups.specs.Frames.{Frames, Lends}
use Rattle.meta_pages.specs.Rows.{IsAbove, IsRising}
use Rattle.open_scans.specs.OpenScans.{OpenRow, scan_of}
use Rattle.page_alloc.specs.UnitSet.{refs_at, used_at}
use Rattle.trees.specs.Trees.{Units}
use Rattle.tree_store.specs.Stored.{InRest, IsCounted, NoUnit, unit_bytes}
use Rattle.table_model.specs.declared.machine.Machine.{Machine}
use Rattle.table_model.specs.declared.machine.ScanRow.{ScanRow}
use Rattle.table_model.specs.declared.table.Table.{Table}
use Rattle.table_model.specs.Requests.{Request}
use Rattle.session_views.specs.View.{View, ShowsNow, StandsDuring}
use Rattle.commits.proofs.Reached.{reach_behind, without_last}
use Rattle.volume_model.specs.Committed.{Committed, StandsForVolume}
use Rattle.volume_model.specs.Homes.{home}
use Rattle.volume_model.specs.OwnersShown.{OwnersShown}
use Rattle.volume_model.specs.Parts.{StandsFor}
use Rattle.volume_model.specs.SameVolume.{kept_from_reach, parts_kept, table_kept, IsKept}
use Rattle.volume_model.specs.Shown.{OverlayShown, Shows, Shared, PageRow, WorkingRow, WorkingShown, IsWorkingPage, ScanShown, working_units, used_in}
use Rattle.volume_model.specs.TreesShown.{TreesShown}
use Rattle.volume_model.specs.Volume.{Decoded, Volume, file_pages, reach_of, table_of, units_of}
use Rattle.volume_model.proofs.ExactView.{exact_shown, no_page_shown}
use Rattle.volume_model.proofs.FilePages.{file_pages_are}
use Rattle.volume_model.proofs.ScansKept.{scans_used}
use Rattle.volume_edits.specs.Ported.{IsVolume, units_in}
use Rattle.volume_port.specs.Logged.{is_held}
use Rattle.volume_port.specs.Ported.{image_over}
use Rattle.volume_port.specs.Stays.{ReachIsOf, StaysUsed, StillCommitted}
use Rattle.volume_port.proofs.Staying.{stays_on, stands_meanwhile}
use Rattle.session_core.specs.Sessions.{SessionState, IsSession, held, is_kept}
use Rattle.session_core.specs.Commits.{scans_reach}
use Rattle.session_core.specs.Finding.{IsPortOf}
use Rattle.session_core.specs.Updates.{MachineWith, WritesUnused}
use Rattle.session_core.specs.Meant.{meant}
use Rattle.volume_port.proofs.WorkingUnits.{same_unit, units_over}
use Rattle.session_core.proofs.Ending.{scan_roots}
use Rattle.volume_model.proofs.AtRest.{in_first}
use Rattle.volume_port.proofs.Frames.{frames_shown}
use Rattle.session_core.proofs.Sessions.{firsts_rise}
use Rattle.volume_port.proofs.FirstRows.{here_is, here_or}
use Rattle.volume_model.proofs.Showing.{session_geometry, view_of}
use Rattle.volume_model.proofs.Volumes.{Parts}

-- ---- rows

no_value : IsSome {T = List ℕ} None → ⊥
no_value some = cc

above_found : (low : ℕ) (rows : List WorkingRow) (p : ℕ) (v : Option (List ℕ)) → IsAbove low rows → lookup (nat_eq p) rows ≡ Some v → low < p
above_found low [] p v above is = absurd (cc)
above_found low (row ∷ rows) p v above is = (elim (nat_eq p row.0) as (λ b. nat_eq p row.0 ≡ b → cond b (Some row.1) (lookup (nat_eq p) rows) ≡ Some v → low < p) [
  | true ↦ λ t _. subst (λ (q : ℕ). low < q) (sym (eqb-true p row.0 t)) above.0
  | false ↦ λ t later. above_found low rows p v above.1 later
]) refl is

-- what holds of each row that is found under its number holds of all
each_found : (P : WorkingRow → Type 0) (rows : List WorkingRow) → IsRising rows → ((row : WorkingRow) → lookup (nat_eq row.0) rows ≡ Some row.1 → P row) → AllByRecursion P rows
each_found P [] rising f = tt
each_found P (row ∷ rows) rising f = (
  f row (here_is row.0 row.1 (lookup (nat_eq row.0) rows)),
  each_found P rows rising.1 (λ next is.
      let above = above_found row.0 rows next.0 next.1 rising.0 is in
      f next (here_or next.0 row.0 row.1 (lookup (nat_eq next.0) rows) (λ same. absurd (omega (arith, above, same))) ∙ is)),
)

-- no page of a volume's files is the catalog
no_catalog : (g : Geometry) (records : List LogRecord) (units : Units) (v : Volume) → Parts g records units v → (page : ℕ) → Contains (file_pages v) page → page ≢ catalog_no
no_catalog g records units v parts page has = (each_of (λ (p : ℕ). InPageArea g p × (p ≢ catalog_no)) (file_pages v) page (file_pages_are g units v parts.1.0.0) has).1

-- ---- what an update leaves

-- the units that are used
abbrev pub IsSettled : SessionState → ℕ → Type 0
IsSettled s unit = StaysUsed NoUnit (used_at s.units) unit

-- After an update the port's working state is a volume, and each unit of a tree has as many references as owners. What is committed stayed so, on what the
-- disk holds later.
pub record LeavesVolume {S : Type 0} (g : ground.Ghosts S) (t : S) (b : Outside) (d : Decoded) (before : View SessionState) (new : SessionState) (now : Volume) (later : List ℕ) : Type 0 where
  pub port : IsPortOf g t new b.disk
  pub volume : IsVolume g t d.records now
  pub holds : b.disk ≡ Some later
  pub lends : All (Lends b.disk) new.groups
  pub still : Committed b.images d later before.session.log new.meta.committed
  pub table : table_of (units_of d later) d.volume ≡ table_of (units_of d before.disk) d.volume
  pub owners : OwnersShown d (used_at new.units) (refs_at new.units) new.gained new.lost (scan_roots new) later now
  pub homes : (unit : ℕ) → used_at before.session.units unit ≡ true → home d.geometry later unit ≡ home d.geometry before.disk unit
  pub scans : new.scans ≡ before.session.scans
  pub committed : new.meta.committed ≡ before.session.meta.committed
  pub kept : new.kept ≡ before.session.kept
  pub log : new.log ≡ before.session.log
  pub geometry : new.geometry ≡ before.session.geometry

module _ {S : Type 0} (g : ground.Ghosts S) (t : S) {a b : Outside} {before : View SessionState} (now : ShowsNow meant a before) (new : SessionState) (working : Volume) (later : List ℕ)
    (left : LeavesVolume g t b now.shows.decoded before new working later) (session : IsSession new) where
  abbrev d : Decoded
  d = now.shows.decoded

  -- the units of what is committed, later
  abbrev L : Units
  L = units_of d later

  -- those of the working volume
  abbrev W : Units
  W = working_units d later new.meta.working

  new_geometry : new.geometry ≡ d.geometry
  new_geometry = left.geometry ∙ session_geometry now.shows

  port_geometry : g.geometry t ≡ d.geometry
  port_geometry = left.port.geometry ∙ new_geometry

  abbrev over_disk : Geometry → Units
  over_disk geometry = unit_bytes geometry (Some later)

  unit_is : g.unit t ≡ over_disk d.geometry
  unit_is = left.port.unit ∙ ap (λ (o : Option (List ℕ)). unit_bytes new.geometry o) left.holds ∙ ap over_disk new_geometry

  image_is : g.image t ≡ image_over d.geometry new.meta (over_disk d.geometry)
  image_is =
      left.port.image ∙ ap (λ (o : Option (List ℕ)). image_over new.geometry new.meta (unit_bytes new.geometry o)) left.holds
      ∙ ap (λ (geometry : Geometry). image_over geometry new.meta (over_disk geometry)) new_geometry

  units_are : (u : ℕ) → units_in g t u ≡ units_over d.geometry (image_over d.geometry new.meta (over_disk d.geometry)) (over_disk d.geometry) u
  units_are u =
      ap (λ (geometry : Geometry). units_over geometry (g.image t) (g.unit t) u) port_geometry
      ∙ ap (λ (image : ℕ → List ℕ). units_over d.geometry image (g.unit t) u) image_is
      ∙ ap (λ (unit : ℕ → List ℕ). units_over d.geometry (image_over d.geometry new.meta (over_disk d.geometry)) unit u) unit_is

  -- ---- the working volume

  whole_in : Parts d.geometry d.records (units_in g t) working
  whole_in = subst (λ (geometry : Geometry). Parts geometry d.records (units_in g t) working) port_geometry left.volume.shows.parts

  working_kept : IsKept (units_in g t) W working
  working_kept =
      kept_from_reach (units_in g t) W working
      (each_from (λ u. W u ≡ units_in g t u) (reach_of (units_in g t) working)
      (λ u reached. sym (units_are u ∙ same_unit d later new.meta left.still.shown.just u
      (reach_behind d.geometry (units_in g t) working u (without_last d.geometry d.records (units_in g t) working whole_in) reached))))

  pub whole : Parts d.geometry d.records W working
  whole = parts_kept d.geometry d.records (units_in g t) W working working_kept whole_in

  pub table_shown : table_of W working ≡ table_of (units_in g t) working
  table_shown = table_kept (units_in g t) W working working_kept

  -- ---- the committed volume

  whole_committed : Parts d.geometry d.records L d.volume
  whole_committed = left.still.parts.1.1

  -- ---- the parts of the view

  held_shown : (page : ℕ) → (is_held new.pages page ≡ true) ↔ Contains (catalog_no ∷ file_pages working) page
  held_shown page = subst (λ (f : ℕ → Bool). (f page ≡ true) ↔ Contains (catalog_no ∷ file_pages working) page) left.port.held (left.volume.shows.held page)

  kept_shown : (page : ℕ) → (is_kept new.kept page ≡ true) ↔ Contains (catalog_no ∷ file_pages d.volume) page
  kept_shown page = subst (λ (k : List Bool). (is_kept k page ≡ true) ↔ Contains (catalog_no ∷ file_pages d.volume) page) (sym left.kept) (now.shows.logged.kept page)

  row_shown : (row : WorkingRow) → lookup (nat_eq row.0) new.meta.working ≡ Some row.1 → IsWorkingPage working row
  row_shown (page, None) is some = absurd (no_value some)
  row_shown (page, Some image) is some = ⊎_elim (λ (same : catalog_no ≡ page). inl (sym same)) (λ there. inr there) (Contains-cons catalog_no (file_pages working) page ((held_shown page).0 (session.pages.images page image is)))

  left_shown : (page : ℕ) → Contains (file_pages d.volume) page → (¬ Contains (file_pages working) page) → lookup (nat_eq page) new.meta.working ≡ Some None
  left_shown page has none = ⊎_elim
      (λ there. absurd (⊎_elim
      (λ (same : catalog_no ≡ page). no_catalog d.geometry d.records L d.volume whole_committed page has (sym same))
      (λ here. none here)
      (Contains-cons catalog_no (file_pages working) page ((held_shown page).0 there))))
      (λ gone. gone)
      (session.pages.known page ((kept_shown page).1 (Contains-append_right (catalog_no ∷ []) (file_pages d.volume) page has)))

  -- The open scans show what they did, since used units keep their bytes.
  still_scanned : AllZip (ScanShown d.geometry (home d.geometry later)) before.machine.scans (map scan_of new.scans)
  still_scanned =
      let old = before.session in
      subst (λ (rows : List OpenRow). AllZip (ScanShown d.geometry (home d.geometry later)) before.machine.scans (map scan_of rows)) (sym left.scans)
      (scans_used d (used_at old.units) (refs_at old.units) old.gained old.lost (map scan_of old.scans) before.disk now.shows.working now.shows.owners later left.homes before.machine.scans now.shows.scans)

  -- The session shows the volume that the port has.
  pub updates_show : (m : Machine) (table : Table) → MachineWith before.machine m new table → table ≡ table_of (units_in g t) working → Shared (view_of m (held new) later)
      → Shows b.images (view_of m (held new) later)
  updates_show m table with same shared =
      let v = view_of m (held new) later in
      let worked : WorkingShown d v working m.working = subst (λ (o : Option Table). WorkingShown d v working o) (sym with.working) (record { parts = whole; same = same ∙ sym table_shown }) in
      let scanned : AllZip (ScanShown d.geometry (home d.geometry later)) m.scans (map scan_of new.scans) =
      subst (λ (rows : List ScanRow). AllZip (ScanShown d.geometry (home d.geometry later)) rows (map scan_of new.scans)) (sym with.scans) still_scanned in
      let overlaid : OverlayShown d v = record {
        just = left.still.shown.just;
        in_order = subst (λ (rows : List PageRow). Rising (map (λ (row : PageRow). row.0) rows)) (sym left.committed) now.shows.overlay.in_order;
        pages = subst (λ (rows : List PageRow). AllByRecursion (λ (row : PageRow). (row.0 ≡ catalog_no) ⊎ Contains (file_pages d.volume) row.0) rows) (sym left.committed) now.shows.overlay.pages;
        log = left.log ∙ now.shows.overlay.log;
      } in
      let images = each_found (IsWorkingPage working) new.meta.working session.in_order row_shown in
      let trees : TreesShown d v working = record { parts = left.still.parts; working_shown = worked; scans = scanned; overlay = overlaid; images = images } in
      record {
        decoded = d;
        working = working;
        rules = with.rules;
        shared = shared;
        parts = left.still.parts;
        geometry = with.geometry ∙ now.shows.geometry;
        committed = with.committed ∙ now.shows.committed ∙ sym left.table;
        working_shown = worked;
        scans = scanned;
        owners = left.owners;
        used = record {
          reached = exact_shown d v working left.owners trees;
          pages = with.pages ∙ ap (λ (h : Geometry). used_in h (used_at new.units) Page) new_geometry;
          segs = with.segs ∙ ap (λ (h : Geometry). used_in h (used_at new.units) Segment) new_geometry;
          touched = with.touched;
        };
        logged = record { held = held_shown; kept = kept_shown };
        frames = frames_shown d.geometry b.disk later new.groups left.holds (subst (λ (h : Geometry). All (λ (f : Frames). f.page_size ≡ h.page_size) new.groups) new_geometry session.sizes) left.lends;
        durable = left.still.durable;
        apart = record {
          no_tree = no_page_shown d v working left.owners trees;
          in_order = firsts_rise new.meta.working session.in_order;
          images = images;
          left = λ some page has none. left_shown page has none;
        };
        overlay = overlaid;
      }

-- ---- what is committed stays

module _ {a : Outside} {before : View SessionState} (now : ShowsNow meant a before) (session : IsSession before.session) where
  -- each unit that the committed volume reaches is used
  pub reach_settled : ReachIsOf (IsSettled before.session) now.shows.decoded before.disk
  reach_settled unit reached =
      ((now.shows.used.reached unit).1 (in_first (reach_of (units_of now.shows.decoded before.disk) now.shows.decoded.volume) (reach_of (working_units now.shows.decoded before.disk before.session.meta.working) now.shows.working) (scans_reach now.shows.decoded before) unit reached), λ none. none)

  pub committed_now : Committed a.images now.shows.decoded before.disk before.session.log before.session.meta.committed
  committed_now = record { parts = now.shows.parts; durable = now.shows.durable; shown = record { just = now.shows.overlay.just; log_is = now.shows.overlay.log } }

  pub counted_now : IsCounted now.shows.decoded.geometry before.session.units
  counted_now = subst (λ (h : Geometry). IsCounted h before.session.units) (session_geometry now.shows) session.units

  pub changes_now : {b : Outside} → WritesUnused a b before.session → ChangesWithin (InRest now.shows.decoded.geometry (used_at before.session.units) NoUnit) a b
  changes_now {b} changes = subst (λ (h : Geometry). ChangesWithin (InRest h (used_at before.session.units) NoUnit) a b) (session_geometry now.shows) changes

  pub update_stays : {b : Outside} (new : SessionState) → WritesUnused a b before.session → ((unit : ℕ) → IsSettled before.session unit → IsSettled new unit) → new.meta.committed ≡ before.session.meta.committed
      → (later : List ℕ) × ((b.disk ≡ Some later) × StillCommitted (IsSettled before.session) (IsSettled new) now.shows.decoded before.disk b.images later before.session.log new.meta.committed)
  update_stays {b} new changes goes_on same =
      subst (λ (overlay : List PageRow). (later : List ℕ) × ((b.disk ≡ Some later) × StillCommitted (IsSettled before.session) (IsSettled new) now.shows.decoded before.disk b.images later before.session.log overlay)) (sym same)
      (stays_on now.shows.decoded before.disk NoUnit before.session.units new.units counted_now reach_settled a b (changes_now changes) now.honest before.session.log before.session.meta.committed committed_now now.holds goes_on)

  -- A crash at any moment of the update leaves what stands for the committed table.
  pub update_moments : {b : Outside} (r : Request) (new : SessionState) → IsWorld a → WritesUnused a b before.session → Leaves a b (StandsDuring meant before.machine r)
  update_moments {b} r new world changes =
      leaves_wider (StandsForVolume now.shows.decoded before.disk) (StandsDuring meant before.machine r)
      (stands_meanwhile now.shows.decoded before.disk NoUnit before.session.units new.units counted_now reach_settled a b (changes_now changes) now.honest before.session.log before.session.meta.committed committed_now world)
      (λ image stands. inl (subst (StandsFor image) (sym now.shows.committed) stands))
