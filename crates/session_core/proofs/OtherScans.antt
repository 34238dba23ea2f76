-- A view that shows, with other open scans, other owners of units and other units in use.
use Rattle.std.proofs.Common.{◌≡◌, ℕ, List, map, Option, Some, None}
use Rattle.std.specs.List.{AllZip}
use Rattle.disk_model.specs.Outside.{Outside}
use Rattle.ex_base.specs.declared.names.Area.TheVariants.{Page, Segment}
use Rattle.open_scans.specs.OpenScans.{OpenRow, scan_of}
use Rattle.page_alloc.specs.UnitSet.{UnitSet, refs_at, used_at}
use Rattle.session_views.specs.View.{View, ShowsNow}
use Rattle.table_model.specs.declared.machine.Machine.{Machine}
use Rattle.table_model.specs.declared.machine.ScanRow.{ScanRow}
use Rattle.table_model.specs.declared.table.Table.{Table}
use Rattle.table_model.specs.Machines.{IsMachine}
use Rattle.volume_model.specs.Homes.{home}
use Rattle.volume_model.specs.OwnersShown.{OwnersShown}
use Rattle.volume_model.specs.Shown.{OverlayShown, ScanShown, WorkingShown, roots_here, used_in}
use Rattle.volume_model.specs.TreesShown.{TreesShown}
use Rattle.volume_model.specs.Volume.{Decoded, Volume}
use Rattle.volume_model.proofs.ExactView.{exact_shown, no_page_shown}
use Rattle.session_core.specs.Meant.{held_view, meant}
use Rattle.session_core.specs.Sessions.{SessionState}

-- the machine with these scans and these counts of units in use
abbrev pub counting : Machine → List ScanRow → ℕ → ℕ → Machine
counting m rows pages segs = record m { scans = rows; pages_used = pages; segs_used = segs }

-- the session with these scans and these units
abbrev pub scanning : SessionState → List OpenRow → UnitSet → SessionState
scanning s scans units = record s { units = units; scans = scans }

module _ {w : Outside} {before : View SessionState} (now : ShowsNow meant w before) (rows : List ScanRow) (scans : List OpenRow) (units : UnitSet) (pages segs : ℕ) where
  abbrev d : Decoded
  d = now.shows.decoded

  abbrev volume : Volume
  volume = now.shows.working

  abbrev after : View SessionState
  after = record { machine = counting before.machine rows pages segs; session = scanning before.session scans units; disk = before.disk }

  working_there : (o : Option Table) → WorkingShown d (held_view before) volume o → WorkingShown d (held_view after) volume o
  working_there None shown = shown
  working_there (Some table) shown = record { parts = shown.parts; same = shown.same }

  -- It shows where the scans show their bytes, each unit has as many references as owners, and the units in use are counted.
  pub rescanned : IsMachine (counting before.machine rows pages segs) → AllZip (ScanShown d.geometry (home d.geometry before.disk)) rows (map scan_of scans)
      → OwnersShown d (used_at units) (refs_at units) before.session.gained before.session.lost (roots_here (map scan_of scans)) before.disk volume
      → pages ≡ used_in d.geometry (used_at units) Page → segs ≡ used_in d.geometry (used_at units) Segment → ShowsNow meant w after
  rescanned rules shown owners pages_are segs_are =
      let is = now.shows in
      let over : OverlayShown d (held_view after) = (let o = is.overlay in record { just = o.just; in_order = o.in_order; pages = o.pages; log = o.log }) in
      let working = working_there before.machine.working is.working_shown in
      let trees : TreesShown d (held_view after) volume = record { parts = is.parts; working_shown = working; scans = shown; overlay = over; images = is.apart.images } in
      record {
        honest = now.honest;
        holds = now.holds;
        shows = record {
          decoded = d;
          working = volume;
          rules = rules;
          shared = (let h = is.shared in record { geometry = h.geometry; notes = h.notes; names = h.names; group_rows = h.group_rows; open_txn = h.open_txn; up = h.up });
          parts = is.parts;
          geometry = is.geometry;
          committed = is.committed;
          working_shown = working;
          scans = shown;
          owners = owners;
          used = record { reached = exact_shown d (held_view after) volume owners trees; pages = pages_are; segs = segs_are; touched = is.used.touched };
          logged = (let h = is.logged in record { held = h.held; kept = h.kept });
          frames = is.frames;
          durable = is.durable;
          apart = (let h = is.apart in record { no_tree = no_page_shown d (held_view after) volume owners trees; in_order = h.in_order; images = h.images; left = h.left });
          overlay = over;
        };
      }
