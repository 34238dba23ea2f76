-- A commit, from a view that shows to one that shows: the trees whose roots the transaction lost are given up before it.
use Rattle.std.proofs.Common.{◌≡◌, ◌∙◌, ◌↔◌, ℕ, ◌+◌, Bool, true, List, [], ◌∷◌, ◌++◌, All, Option, Some, None, refl, sym, ap, subst}
use Rattle.std.specs.Prelude.{IsSome, Contains}
use Rattle.std.specs.List.{flat_map}
use Rattle.ex_base.specs.declared.geometry.Geometry.{Geometry}
use Rattle.ex_base.specs.declared.names.Area.TheVariants.{Page, Segment}
use Rattle.disk_model.specs.Outside.{Outside, ReadsOnly, DiskOnly}
use Rattle.disk_model.specs.Runs.{honest_on, reads_trans}
use Rattle.op_log.specs.State.{LogState}
use Rattle.op_log.specs.declared.record.LogRecord.{LogRecord}
use Rattle.object_files.specs.Catalog.{CatalogOf}
use Rattle.table_model.specs.declared.machine.Machine.{Machine}
use Rattle.table_model.specs.declared.table.Table.{Table}
use Rattle.table_model.specs.Machines.{shown, unmarked}
use Rattle.table_model.specs.Steps.{table_committed, Step}
use Rattle.session_views.specs.View.{View, ShowsNow, Stepped}
use Rattle.table_model.specs.Requests as request
use Rattle.volume_model.specs.Committed.{MayCommit, CommittedAs, with_records}
use Rattle.volume_model.specs.Shown.{working_units, used_in}
use Rattle.volume_model.specs.Volume.{Decoded, reach_of, roots_in, stored_in}
use Rattle.buffer_groups.specs.Frames.{Frames}
use Rattle.buffer_groups.specs.Frames as lent
use Rattle.meta_pages.specs.Overlays.{Overlays}
use Rattle.table_model.specs.declared.reply.Reply.TheVariants as reply
use Rattle.table_model.proofs.StepsKeep.{steps_keep}
use Rattle.session_core.specs.Commits.{working_reach}
use Rattle.session_core.specs.Sessions.{SessionState, IsSession, Settled, held}
use Rattle.session_core.specs.Meant.{meant, pick_of, held_view}
use Rattle.session_core.proofs.Accepted.{took_place}
use Rattle.volume_port.proofs.Frames.{frames_shown}
use Rattle.session_core.proofs.Quiet.{left_before, shown_lends}
use Rattle.session_core.proofs.Refusing.{commit_accepted}
use Rattle.trees.specs.Owners.{IsOwned, root_pages}
use Rattle.trees.specs.Trees.{root_units}
use Rattle.volume_model.specs.Homes.{home}
use Rattle.volume_model.specs.OwnersShown.{OwnedStay, logged_pages}
use Rattle.volume_model.proofs.OwnersSwept.{lost_first}
use Rattle.volume_model.proofs.ScansKept.{owned_stay, scans_shown}
use Rattle.volume_port.specs.GivingUp.{OwnRoots}
use Rattle.session_core.specs.Catalogs.{FramesLend}
use Rattle.session_core.proofs.Releasing.{GaveUp, StandFirst, TellsDisk, given_free, left_owned, own_roots}
use Rattle.session_core.proofs.Committing.{Commits, FramesAfter, committed_as, committed_session, commits_table, kept_left, may_commit, new_reach, numbered, numbered_pages, numbered_rows, owners_left}
use Rattle.session_core.proofs.Ending.{fewer_used, scan_roots}
use Rattle.volume_model.proofs.AtRest.{AtRest, committed_side, exact_at_rest, rests_shown}
use Rattle.page_alloc.specs.UnitSet.{UnitSet, refs_at, used_at}
use Rattle.volume_model.proofs.ScansReach.{scans_reach_same}
use Rattle.volume_model.proofs.Showing.{view_of, shows_catalog, session_geometry}

-- From the catalog that was read on: the trees whose roots the transaction lost are given up, and then the commit is made.
pub record GaveLost (a i m : Outside) (s : SessionState) (was : List Frames) (given : UnitSet) (groups : List Frames) : Type 0 where
  pub reads : ReadsOnly a i
  pub lends : FramesLend a s → All (lent.Lends a.disk) was
  pub gave : GaveUp i m s was s.lost given groups

module _ {a : Outside} {before : View SessionState} (now : ShowsNow meant a before) (session : IsSession before.session) where
  -- the frames that the catalog was read through tell of the disk
  pub tells_read : {i : Outside} (was : List Frames) → ReadsOnly a i → (FramesLend a before.session → All (lent.Lends a.disk) was) → TellsDisk i before.disk was
  tells_read {i} was reads lends =
      let holds = reads.nothing.disk ∙ now.holds in
      record {
        told = (
          honest_on reads.nothing.only.goes now.honest,
          subst (λ (o : Option (List ℕ)). IsSome o) (sym holds) refl,
          subst (λ (o : Option (List ℕ)). All (lent.Lends o) was) (sym reads.nothing.disk) (lends (shown_lends now session.sizes)),
        );
        holds = holds;
      }

  lost_stand : StandFirst now before.session.lost (root_pages (roots_in (stored_in now.shows.working) ++ scan_roots before.session))
  lost_stand = record {
    whole = now.shows.owners.lost_whole;
    owned = lost_first now.shows.decoded (scan_roots before.session) now.shows.working (used_at before.session.units) (refs_at before.session.units) before.session.gained before.session.lost before.disk now.shows.owners;
  }

  pub own_lost : {i : Outside} (was : List Frames) → TellsDisk i before.disk was → OwnRoots before.session.pages before.session.kept before.session.geometry i was before.session.units before.session.lost
  own_lost was tells = own_roots now was before.session.lost (root_pages (roots_in (stored_in now.shows.working) ++ scan_roots before.session)) tells lost_stand

  pub lost_left : {i m : Outside} (was : List Frames) (given : UnitSet) (groups : List Frames) → GaveLost a i m before.session was given groups
      → IsOwned now.shows.decoded.geometry (home now.shows.decoded.geometry before.disk) (used_at given) (refs_at given) (logged_pages now.shows.decoded now.shows.working) (root_pages (roots_in (stored_in now.shows.working) ++ scan_roots before.session))
  lost_left was given groups lost =
      left_owned now was before.session.lost (root_pages (roots_in (stored_in now.shows.working) ++ scan_roots before.session)) given groups (tells_read was lost.reads lost.lends) lost_stand lost.gave

  -- as the disk was read, to the call of the commit
  pub reads_on : {i m : Outside} (was : List Frames) (given : UnitSet) (groups : List Frames) → GaveLost a i m before.session was given groups → ReadsOnly a m
  reads_on was given groups lost = reads_trans lost.reads lost.gave.gives.only

module _ {a i m b : Outside} {before : View SessionState} (now : ShowsNow meant a before) (page : List ℕ) (session : IsSession before.session) (only : DiskOnly m b) (opened : before.session.opened ≡ true)
    (catalog : CatalogOf page (numbered now.shows.working.catalog)) (was : List Frames) (given : UnitSet) (groups : List Frames) (lost : GaveLost a i m before.session was given groups) (log : LogState) (meta : Overlays)
    (commits : Commits m b before.session.log (numbered_pages before.session.meta page) (now.shows.working.catalog.last + 1) before.session.notes log meta) (none : meta.working ≡ []) (later : List Frames) (frames : FramesAfter b before.session.geometry later)
    (kept : List Bool) (units : UnitSet) (settled : Settled (numbered_rows page before.session.meta.working) before.session.kept kept given units) where
  abbrev o : Machine
  o = before.machine

  abbrev decoded : Decoded
  decoded = now.shows.decoded

  abbrev txn : ℕ
  txn = now.shows.working.catalog.last + 1

  abbrev left : SessionState
  left = committed_session before.session log meta later kept units

  reads : ReadsOnly a m
  reads = reads_on now session was given groups lost

  may : MayCommit decoded before.disk (numbered_rows page before.session.meta.working) txn (committed_as now.shows.working)
  may = may_commit now.shows page session opened catalog

  done : (disk : List ℕ) × (b.disk ≡ Some disk) × CommittedAs decoded before.disk (numbered_rows page before.session.meta.working) txn before.session.notes (committed_as now.shows.working) b.images disk log meta.committed
  done = commits decoded before.disk (committed_as now.shows.working) (honest_on reads.nothing.only.goes now.honest) (reads.nothing.disk ∙ now.holds) (committed_side now.shows (left_before reads now)) now.shows.overlay.pages may

  abbrev records : List LogRecord
  records = done.2.earlier ++ done.2.made ∷ []

  abbrev e : Decoded
  e = with_records decoded records (committed_as now.shows.working)

  abbrev after : Machine
  after = record o { committed = table_committed o; names = unmarked o.names; working = None; notes = []; touched = 0; pages_used = used_in decoded.geometry (used_at units) Page; segs_used = used_in decoded.geometry (used_at units) Segment }

  step : Step o request.Commit (pick_of (held_view before) request.Commit (view_of after (held left) done.0)) (reply.Commit txn) after
  step =
      let told : reply.Commit txn ≡ reply.Commit ((shown o).last + 1) = ap (λ (t : Table). reply.Commit (t.last + 1)) (sym (shows_catalog now.shows).table) in
      let fewer = fewer_used now.shows session units (given_free units lost.gave (record { geometry = settled.units.geometry; free = settled.units.free })) in
      took_place o after request.Commit (pick_of (held_view before) request.Commit (view_of after (held left) done.0)) (reply.Commit txn)
      (commit_accepted before (pick_of (held_view before) request.Commit (view_of after (held left) done.0)) now.shows.shared.open_txn opened) told refl (record { pages = fewer.pages; segs = fewer.segs }, λ none. absurd (cc))

  owned_then : IsOwned decoded.geometry (home decoded.geometry before.disk) (used_at given) (refs_at given) (logged_pages decoded now.shows.working) (root_pages (roots_in (stored_in now.shows.working) ++ scan_roots before.session))
  owned_then = lost_left now session was given groups lost

  owners_stay : OwnedStay decoded (refs_at before.session.units) before.disk done.0
  owners_stay = owned_stay decoded (held_view before) now.shows.working now.shows.owners now.shows.overlay done.0 done.2.homes

  rests : AtRest b.images e after (held left) done.0
  rests = record {
    committed = done.2.committed;
    in_order = done.2.in_order;
    of_files = done.2.of_files;
    table = commits_table now.shows page ∙ sym done.2.table;
    geometry = now.shows.geometry;
    rules = steps_keep o request.Commit (pick_of (held_view before) request.Commit (view_of after (held left) done.0)) (reply.Commit txn) after now.shows.rules refl step;
    shared = record { geometry = now.shows.shared.geometry; notes = refl; names = ap unmarked now.shows.shared.names; group_rows = now.shows.shared.group_rows; open_txn = refl; up = refl };
    closed = refl;
    untouched = refl;
    no_pages = none;
    pages = refl;
    segs = refl;
    scans = scans_shown decoded (held_view before) now.shows.working now.shows.owners done.0 owners_stay now.shows.scans;
    owners = owners_left now.shows page session opened catalog txn before.session.notes b.images done.0 log meta.committed done.2 given owned_then kept units settled;
    held = now.shows.logged.held;
    kept = kept_left now.shows page session opened catalog txn before.session.notes b.images done.0 log meta.committed done.2 given owned_then kept units settled;
    frames = frames_shown decoded.geometry b.disk done.0 later done.1 (subst (λ (g : Geometry). All (λ (f : Frames). f.page_size ≡ g.page_size) later) (session_geometry now.shows) frames.sizes) frames.lends;
  }

  pub commit_steps : (new : SessionState) → left ≡ new → Stepped meant before request.Commit (reply.Commit txn) new b
  commit_steps new same = record {
    after = record { machine = after; session = left; disk = done.0 };
    is = same;
    shows = record {
      honest = honest_on only.goes (honest_on reads.nothing.only.goes now.honest);
      holds = done.1;
      shows = rests_shown e after (held left) done.0 rests;
    };
    step = step;
  }

  -- In use are exactly the units that the working volume and the open scans reach.
  pub commit_exact : (unit : ℕ) → (used_at units unit ≡ true) ↔ Contains (working_reach decoded before now.shows.working) unit
  commit_exact unit =
      let volume = new_reach now.shows page session opened catalog txn before.session.notes b.images done.0 log meta.committed done.2 in
      let scanned = scans_reach_same decoded (held_view before) now.shows.working now.shows.owners done.0 owners_stay now.shows.scans in
      subst (λ (us : List ℕ). (used_at units unit ≡ true) ↔ Contains us unit)
      (ap (λ (us : List ℕ). us ++ flat_map (root_units (home decoded.geometry done.0)) (scan_roots before.session)) volume
      ∙ ap (λ (us : List ℕ). reach_of (working_units decoded before.disk before.session.meta.working) now.shows.working ++ us) scanned)
      (exact_at_rest e after (held left) done.0 rests unit)
