-- A view goes on showing where open scans move, and where a group is made.
use Rattle.std.proofs.Common.{◌≡◌, ◌∙◌, ◌↔◌, ℕ, ◌≤◌, true, List, [], ◌∷◌, ◌++◌, length, map, Option, Some, None, refl, sym, ap, subst, arith}
use Rattle.std.specs.Prelude.{Contains, filter, slice_set}
use Rattle.std.specs.List.{AllByRecursion, AllZip, flat_map}
use Rattle.std.proofs.lemmas.List.Elements.{All-nil, All-push}
use Rattle.ex_base.specs.declared.names.Root.{Root}
use Rattle.buffer_groups.specs.Frames.{Frames}
use Rattle.buffer_groups.specs.Frames as lent
use Rattle.disk_model.specs.Outside.{Outside}
use Rattle.open_scans.specs.GroupRows.{empty_group}
use Rattle.open_scans.specs.OpenScans.{AtRow, OpenRow, row_after, scan_index, scan_of}
use Rattle.open_scans.proofs.Beside.{HasScan, Paired, both_moved, is_scan_named, one_moved, paired, roots_set, zip_set}
use Rattle.session_views.specs.View.{View, ShowsNow}
use Rattle.table_model.specs.declared.machine.GroupRow.{GroupRow}
use Rattle.table_model.specs.declared.machine.Machine.{Machine}
use Rattle.table_model.specs.declared.machine.ScanRow.{ScanRow}
use Rattle.table_model.specs.declared.table.Table.{Table}
use Rattle.table_model.specs.Machines.{IsMachine}
use Rattle.table_model.specs.Steps.{moved}
use Rattle.trees.specs.Trees.{root_units}
use Rattle.volume_model.specs.Homes.{home}
use Rattle.volume_model.specs.OwnersShown.{OwnersShown}
use Rattle.volume_model.specs.Shown.{Held, HeldScan, Lends, PageRow, ScanShown, Shows, WorkingShown, roots_here, working_units}
use Rattle.volume_model.specs.Volume.{Decoded, Volume, file_pages, reach_of, roots_in, stored_in, units_of}
use Rattle.session_core.specs.Finding.{IfShown}
use Rattle.session_core.specs.Meant.{held_view, meant}
use Rattle.session_core.specs.ScanRows.{AtScan, bytes_next, grouped, with_scans}
use Rattle.session_core.specs.Sessions.{IsSession, SessionState, held}
use Rattle.session_core.specs.Steps.{OnlyFrames}
use Rattle.session_core.proofs.Quiet.{later_frames, left_before}
use Rattle.session_core.proofs.ScanBytes.{home_whole, same_len}
use Rattle.volume_model.proofs.Showing.{view_of}
use Rattle.session_core.proofs.Taken.{scan_as}

-- ---- a view with other scans, groups and frames

module _ (v : View Held) (scans : List ScanRow) (groups rows : List GroupRow) (held_scans : List HeldScan) (frames : List (List PageRow)) where
  abbrev pub machine_with : Machine
  machine_with = record v.machine { scans = scans; groups = groups }

  abbrev pub held_with : Held
  held_with = record v.session { scans = held_scans; group_rows = rows; frames = frames }

  abbrev pub view_with : View Held
  view_with = view_of machine_with held_with v.disk

  working_with : (d : Decoded) (working : Volume) (o : Option Table) → WorkingShown d v working o → WorkingShown d view_with working o
  working_with d working None shown = shown
  working_with d working (Some table) shown = record { parts = shown.parts; same = shown.same }

  -- The scans are over the same trees as before, and show the bytes of the machine's rows.
  pub shows_with : {may_leave fewer : List ℕ → Type 0} (shows : Shows may_leave v) → ((d : List ℕ) → fewer d → may_leave d) → IsMachine machine_with → groups ≡ rows → roots_here held_scans ≡ roots_here v.session.scans
      → AllZip (ScanShown shows.decoded.geometry (home shows.decoded.geometry v.disk)) scans held_scans → AllByRecursion (Lends shows.decoded.geometry v.disk) frames → Shows fewer view_with
  shows_with {may_leave} {fewer} shows inside rules rows_are same zipped lends =
      let d = shows.decoded in
      let working = shows.working in
      record {
        decoded = d;
        working = working;
        rules = rules;
        shared = (let h = shows.shared in record { geometry = h.geometry; notes = h.notes; names = h.names; group_rows = rows_are; open_txn = h.open_txn; up = h.up });
        parts = shows.parts;
        geometry = shows.geometry;
        committed = shows.committed;
        working_shown = working_with d working v.machine.working shows.working_shown;
        scans = zipped;
        owners = subst (λ (roots : List Root). OwnersShown d v.session.used v.session.refs v.session.gained v.session.lost roots v.disk working) (sym same) shows.owners;
        used = (let h = shows.used in record {
          reached = λ unit.
              subst (λ (roots : List Root). (v.session.used unit ≡ true) ↔ Contains (reach_of (units_of d v.disk) d.volume ++ reach_of (working_units d v.disk v.session.working_pages) working ++ flat_map (root_units (home d.geometry v.disk)) roots) unit)
              (sym same) (h.reached unit);
          pages = h.pages;
          segs = h.segs;
          touched = h.touched;
        });
        logged = (let h = shows.logged in record { held = h.held; kept = h.kept });
        frames = lends;
        durable = λ image left. shows.durable image (inside image left);
        apart = (let h = shows.apart in record {
          no_tree =
              subst (λ (roots : List Root). (page : ℕ) → Contains (file_pages d.volume ++ file_pages working) page
              → ¬ Contains (flat_map (root_units (units_of d v.disk)) (roots_in (stored_in d.volume)) ++ flat_map (root_units (working_units d v.disk v.session.working_pages)) (roots_in (stored_in working)) ++ flat_map (root_units (home d.geometry v.disk)) roots) page)
              (sym same) h.no_tree;
          in_order = h.in_order;
          images = h.images;
          left = h.left;
        });
        overlay = (let h = shows.overlay in record { just = h.just; in_order = h.in_order; pages = h.pages; log = h.log });
      }

-- ---- a session whose scan moved on

-- what the next bytes of a scan leave
pub record GivesNext (a b : Outside) (old new : SessionState) (index len : ℕ) (given : List ℕ) : Type 0 where
  pub only : OnlyFrames a b (with_scans old new.scans) new
  pub moved : AtRow old.scans index (λ row. new.scans ≡ slice_set old.scans index (row_after len row))
  pub bytes : IfShown a old (λ before. AtScan before.machine index (λ row. given ≡ bytes_next len row))

module _ {a b : Outside} {new : SessionState} (before : View SessionState) (now : ShowsNow meant a before) (is : IsSession before.session) (name given : List ℕ) (index len : ℕ) (at : scan_index before.session.scans name ≡ Some index)
    (gives : GivesNext a b before.session new index len given) where
  abbrev d : Decoded
  d = now.shows.decoded

  abbrev pub machine_next : Machine
  machine_next = record before.machine { scans = map (moved name len) before.machine.scans }

  pub found_next : HasScan before.machine.scans name index
  found_next = scan_as before now.shows name index at

  pair_next : Paired d.geometry (home d.geometry before.disk) before.session.scans found_next.row index
  pair_next = paired d.geometry (home d.geometry before.disk) before.machine.scans before.session.scans found_next.row index now.shows.scans found_next.at

  -- one scan alone has the name
  one_named : length (filter (is_scan_named name) before.machine.scans) ≤ 1
  one_named = omega (arith, now.shows.rules.once name)

  zipped_next : AllZip (ScanShown d.geometry (home d.geometry before.disk)) (map (moved name len) before.machine.scans) (map scan_of new.scans)
  zipped_next =
      let g = d.geometry in
      let units = home g before.disk in
      let row = pair_next.row in
      let same = same_len g units (home_whole d before.disk now.shows.parts) found_next.row row len pair_next.shown in
      subst (λ (l : List OpenRow). AllZip (ScanShown g units) (map (moved name len) before.machine.scans) (map scan_of l)) (sym (gives.moved row pair_next.at))
      (subst (λ (l : List ScanRow). AllZip (ScanShown g units) l (map scan_of (slice_set before.session.scans index (row_after len row)))) (sym (one_moved name len before.machine.scans found_next.row index found_next.at found_next.named one_named))
      (zip_set (ScanShown g units) scan_of before.machine.scans before.session.scans index (moved name len found_next.row) (row_after len row) now.shows.scans
      (both_moved name len g units found_next.row row found_next.named same pair_next.shown)))

  roots_next : roots_here (map scan_of new.scans) ≡ roots_here (map scan_of before.session.scans)
  roots_next =
      ap (λ (l : List OpenRow). roots_here (map scan_of l)) (gives.moved pair_next.row pair_next.at)
      ∙ roots_set before.session.scans index pair_next.row (row_after len pair_next.row) pair_next.at refl

  pub shows_next : IsMachine machine_next → Shows b.images (view_of machine_next (held new) before.disk)
  shows_next rules =
      subst (λ (s : Held). Shows b.images (view_of machine_next s before.disk)) (sym (ap held gives.only.same))
      (shows_with (held_view before) (map (moved name len) before.machine.scans) before.machine.groups before.session.group_rows (map scan_of new.scans) (map (λ (f : Frames). f.entries) new.groups) now.shows
      (left_before gives.only.reads now) rules now.shows.shared.group_rows roots_next zipped_next
      (later_frames now new.groups is.sizes (gives.only.sizes before.session.geometry.page_size is.sizes) gives.only.lends))

-- ---- a session with a group more

module _ {a : Outside} (before : View SessionState) (now : ShowsNow meant a before) (is : IsSession before.session) (row : GroupRow) where
  abbrev pub machine_grouped : Machine
  machine_grouped = record before.machine { groups = before.machine.groups ++ row ∷ [] }

  pub shows_grouped : IsMachine machine_grouped → Shows a.images (view_of machine_grouped (held (grouped before.session row)) before.disk)
  shows_grouped rules =
      let s = before.session in
      let group = empty_group row s.geometry.page_size in
      shows_with (held_view before) before.machine.scans (before.machine.groups ++ row ∷ []) (s.group_rows ++ row ∷ []) (map scan_of s.scans) (map (λ (f : Frames). f.entries) (s.groups ++ group ∷ [])) now.shows
      (λ image left. left) rules (ap (λ (rows : List GroupRow). rows ++ row ∷ []) now.shows.shared.group_rows) refl now.shows.scans
      (later_frames now (s.groups ++ group ∷ []) is.sizes (All-push (λ (f : Frames). f.page_size ≡ s.geometry.page_size) s.groups group is.sizes refl)
      (λ lends. All-push (lent.Lends a.disk) s.groups group lends (λ held holds. All-nil (λ (e : ℕ × List ℕ). e.1 ≡ lent.page_of held group.page_size e.0))))
