-- An abort, from a view that shows to one that shows.
use Rattle.std.proofs.Common.{◌≡◌, ◌∙◌, ◌↔◌, ◌≤◌, ℕ, Bool, true, false, List, [], ◌∷◌, ◌++◌, All, None, Ok, Err, refl, sym, ap, subst, arith}
use Rattle.std.specs.Prelude.{Contains}
use Rattle.std.specs.List.{AllByRecursion}
use Rattle.std.proofs.lemmas.Bool.{both_ways, false_from_ne_true}
use Rattle.ex_base.specs.declared.faults.PortFault.{PortFault}
use Rattle.ex_base.specs.declared.geometry.Geometry.{Geometry}
use Rattle.ex_base.specs.declared.names.Area.TheVariants.{Page, Segment}
use Rattle.ex_base.specs.Area.{catalog_no}
use Rattle.ex_base.specs.Ports.{Cause, IsDamage}
use Rattle.ex_base.specs.Sizes.{volume_bytes}
use Rattle.ex_base.proofs.Counts.{contains_times, times-append}
use Rattle.ex_base.proofs.Members.{contains_later}
use Rattle.disk_model.specs.Outside.{IsWorld, Outside, ReadsOnly}
use Rattle.buffer_groups.specs.Frames.{Frames}
use Rattle.ex_base.specs.declared.names.OpNote.{OpNote}
use Rattle.ex_base.specs.declared.names.Root.{Root}
use Rattle.meta_pages.specs.Overlays.{Overlays}
use Rattle.table_model.specs.declared.machine.BoundName.{BoundName}
use Rattle.page_alloc.specs.UnitSet.{UnitSet, free_count, refs_at, used_at}
use Rattle.trees.specs.Owners.{IsOwned, root_pages}
use Rattle.table_model.specs.declared.machine.Machine.{Machine}
use Rattle.table_model.specs.declared.reply.Reply.TheVariants as reply
use Rattle.table_model.specs.Machines.{IsMachine, kept}
use Rattle.table_model.specs.Requests as request
use Rattle.table_model.specs.Steps.{Step}
use Rattle.table_model.proofs.StepsKeep.{steps_keep}
use Rattle.session_views.specs.declared.stop.Stop.{Stop}
use Rattle.session_views.specs.View.{ShowsNow, Stepped, View}
use Rattle.volume_model.specs.Homes.{home}
use Rattle.volume_model.specs.OwnersMoved.{PagesGo}
use Rattle.volume_model.specs.OwnersShown.{OwnersShown, committed_roots, logged_pages}
use Rattle.volume_model.specs.Shown.{Lends, used_in}
use Rattle.volume_model.specs.Volume.{Decoded, file_pages}
use Rattle.volume_model.proofs.OwnersSwept.{aborted as owners_aborted, gained_first}
use Rattle.volume_port.proofs.GivingUp.{gives_tells}
use Rattle.volume_port.specs.GivingUp.{OwnRoots}
use Rattle.volume_port.specs.Logged.{LoggedSet}
use Rattle.session_core.specs.Commits.{committed_reach}
use Rattle.session_core.specs.Finding.{stop_at}
use Rattle.session_core.specs.Meant.{held_view, meant, pick_of}
use Rattle.session_core.specs.Sessions.{IsSession, OnlyGives, SessionState, TakenBack, aborted, held, is_kept}
use Rattle.session_core.specs.Steps.{Steps}
use Rattle.session_core.proofs.Accepted.{took_place}
use Rattle.session_core.proofs.Ending.{fewer_used, pages_go, same_refs, scan_roots}
use Rattle.volume_model.proofs.AtRest.{AtRest, committed_side, exact_at_rest, rests_shown}
use Rattle.session_core.proofs.Finding.{stopped_outside, stopped_so}
use Rattle.volume_port.proofs.Frames.{frames_shown}
use Rattle.session_core.proofs.Quiet.{left_before, now_after, quiet_moments}
use Rattle.session_core.proofs.Refusing.{abort_accepted}
use Rattle.session_core.proofs.Releasing.{GaveUp, StandFirst, fits_session, given_free, left_owned, own_roots, tells_now}
use Rattle.volume_model.proofs.Showing.{session_geometry, view_of}
use Rattle.session_core.proofs.Tracking.{freed_back, held_back}

module _ {a : Outside} {before : View SessionState} (now : ShowsNow meant a before) (session : IsSession before.session) where
  abbrev d : Decoded
  d = now.shows.decoded

  abbrev s : SessionState
  s = before.session

  -- what owns units beside the roots that the transaction gained
  abbrev others : List ℕ
  others = root_pages (committed_roots d ++ scan_roots s)

  gained_stand : StandFirst now s.gained others
  gained_stand = record { whole = now.shows.owners.gained_whole; owned = gained_first d (scan_roots s) now.shows.working (used_at s.units) (refs_at s.units) s.gained s.lost before.disk now.shows.owners }

  pub own_gained : OwnRoots s.pages s.kept s.geometry a s.groups s.units s.gained
  own_gained = own_roots now s.groups s.gained others (tells_now now session) gained_stand

  module _ {b : Outside} (given : UnitSet) (groups : List Frames) (gave : GaveUp a b s s.groups s.gained given groups) (pages : LoggedSet) (units : UnitSet) (back : TakenBack s.meta.working s.kept s.pages pages given units) where
    owned : IsOwned d.geometry (home d.geometry before.disk) (used_at given) (refs_at given) (logged_pages d now.shows.working) others
    owned = left_owned now s.groups s.gained others given groups (tells_now now session) gained_stand gave

    -- the pages of the working files that the committed ones lack are freed
    go : PagesGo (used_at given) (used_at units) (refs_at given) (file_pages now.shows.working) (catalog_no ∷ file_pages d.volume)
    go =
        pages_go _ given units (file_pages now.shows.working) (catalog_no ∷ file_pages d.volume) back.units
        (λ page here (there, off). both_ways _ off ((now.shows.logged.kept page).1 here))
        (λ page here none.
        let unnamed = owned.apart page (omega (arith, contains_times page (file_pages now.shows.working) here, times-append page (catalog_no ∷ file_pages d.volume) (file_pages now.shows.working))) in
        freed_back s.geometry s.meta.working s.pages s.kept session.pages pages given units back page
        ((now.shows.logged.held page).1 (contains_later catalog_no page (file_pages now.shows.working) here))
        (false_from_ne_true (is_kept s.kept page) (λ flag. none ((now.shows.logged.kept page).0 flag))) unnamed)

    owners : OwnersShown d (used_at units) (refs_at units) [] [] (scan_roots s) before.disk d.volume
    owners =
        subst (λ (refs : ℕ → ℕ). OwnersShown d (used_at units) refs [] [] (scan_roots s) before.disk d.volume) (same_refs given units back.units)
        (owners_aborted d (scan_roots s) now.shows.working (used_at given) (used_at units) (refs_at given) before.disk owned go)

    -- ---- the view after it

    abbrev after : Machine
    after = record before.machine {
      names = kept before.machine.names;
      working = None;
      notes = [];
      touched = 0;
      pages_used = used_in d.geometry (used_at units) Page;
      segs_used = used_in d.geometry (used_at units) Segment;
    }

    abbrev left : SessionState
    left = aborted s pages units groups

    rests : IsMachine after → AllByRecursion (Lends d.geometry before.disk) (held left).frames → AtRest b.images d after (held left) before.disk
    rests rules frames = record {
      committed = committed_side now.shows (left_before gave.gives.only now);
      in_order = now.shows.overlay.in_order;
      of_files = now.shows.overlay.pages;
      table = now.shows.committed;
      geometry = now.shows.geometry;
      rules = rules;
      shared = record { geometry = now.shows.shared.geometry; notes = refl; names = ap kept now.shows.shared.names; group_rows = now.shows.shared.group_rows; open_txn = refl; up = refl };
      closed = refl;
      untouched = refl;
      no_pages = refl;
      pages = refl;
      segs = refl;
      scans = now.shows.scans;
      owners = owners;
      held = λ page. subst (λ (flag : Bool). (flag ≡ true) ↔ Contains (catalog_no ∷ file_pages d.volume) page) (sym (held_back s.geometry s.meta.working s.pages s.kept session.pages pages given units back page)) (now.shows.logged.kept page);
      kept = now.shows.logged.kept;
      frames = frames;
    }

    module _ (room : volume_bytes s.geometry ≤ a.size) (opened : s.opened ≡ true) where
      step : Step before.machine request.Abort (pick_of (held_view before) request.Abort (view_of after (held left) before.disk)) reply.Abort after
      step =
          let fewer = fewer_used now.shows session units (given_free units gave (record { geometry = back.units.geometry; free = back.units.free })) in
          took_place before.machine after request.Abort (pick_of (held_view before) request.Abort (view_of after (held left) before.disk)) reply.Abort
          (abort_accepted before (pick_of (held_view before) request.Abort (view_of after (held left) before.disk)) now.shows.shared.open_txn opened) refl refl (record { pages = fewer.pages; segs = fewer.segs }, λ none. absurd (cc))

      frames_left : AllByRecursion (Lends d.geometry before.disk) (held left).frames
      frames_left =
          let fits = gave.gives.fits (fits_session s a.size session room) in
          let told = gives_tells gave.gives (tells_now now session).told in
          frames_shown d.geometry b.disk before.disk groups (gave.gives.only.nothing.disk ∙ now.holds) (subst (λ (g : Geometry). All (λ (f : Frames). f.page_size ≡ g.page_size) groups) (session_geometry now.shows) fits.frames) told.2

      rests_left : AtRest b.images d after (held left) before.disk
      rests_left = rests (steps_keep before.machine request.Abort (pick_of (held_view before) request.Abort (view_of after (held left) before.disk)) reply.Abort after now.shows.rules refl step) frames_left

      pub abort_steps : (new : SessionState) → left ≡ new → Stepped meant before request.Abort reply.Abort new b
      abort_steps new same = record {
        after = record { machine = after; session = left; disk = before.disk };
        is = same;
        shows = now_after gave.gives.only now refl (rests_shown d after (held left) before.disk rests_left);
        step = step;
      }

      -- In use are exactly the units that the committed volume and the open scans reach.
      pub abort_exact : (unit : ℕ) → (used_at units unit ≡ true) ↔ Contains (committed_reach d before) unit
      abort_exact = exact_at_rest d after (held left) before.disk rests_left

-- ---- as a step

module _ {a b : Outside} (s : SessionState) (world : IsWorld a) (is : IsSession s) (room : volume_bytes s.geometry ≤ a.size) where
  pub abort_done : (new : SessionState) (given : UnitSet) (groups : List Frames) (pages : LoggedSet) (units : UnitSet) → s.opened ≡ true → GaveUp a b s s.groups s.gained given groups
      → TakenBack s.meta.working s.kept s.pages pages given units → aborted s pages units groups ≡ new → Steps a b s new request.Abort (Ok reply.Abort)
  abort_done new given groups pages units opened gave back same = record {
    only = gave.gives.only.nothing.only;
    geometry = ap (λ (t : SessionState). t.geometry) (sym same);
    down = ap (λ (t : SessionState). t.down) (sym same) ∙ sym (is.up opened);
    stops = tt;
    sound = tt;
    refused = λ (why, told). absurd (cc);
    quiet = λ _. (gave.gives.only, ap (λ (t : SessionState). t.log) (sym same));
    stepped = λ before from now.
        abort_steps now (subst IsSession (sym from) is) given groups (subst (λ (t : SessionState). GaveUp a b t t.groups t.gained given groups) (sym from) gave) pages units
        (subst (λ (t : SessionState). TakenBack t.meta.working t.kept t.pages pages given units) (sym from) back) (subst (λ (t : SessionState). volume_bytes t.geometry ≤ a.size) (sym from) room)
        (ap (λ (t : SessionState). t.opened) from ∙ opened) new (ap (λ (t : SessionState). aborted t pages units groups) from ∙ same);
    any_moment = λ before from now. quiet_moments request.Abort world gave.gives.only before now;
    scans = ap (λ (t : SessionState). t.scans) (sym same);
  }

  pub abort_left : (given : UnitSet) (groups : List Frames) (pages : LoggedSet) (units : UnitSet) → s.opened ≡ true → GaveUp a b s s.groups s.gained given groups
      → TakenBack s.meta.working s.kept s.pages pages given units → (before : View SessionState) → before.session ≡ s → (now : ShowsNow meant a before)
      → (unit : ℕ) → (used_at units unit ≡ true) ↔ Contains (committed_reach now.shows.decoded before) unit
  abort_left given groups pages units opened gave back before from now =
      abort_exact now (subst IsSession (sym from) is) given groups (subst (λ (t : SessionState). GaveUp a b t t.groups t.gained given groups) (sym from) gave) pages units
      (subst (λ (t : SessionState). TakenBack t.meta.working t.kept t.pages pages given units) (sym from) back) (subst (λ (t : SessionState). volume_bytes t.geometry ≤ a.size) (sym from) room)
      (ap (λ (t : SessionState). t.opened) from ∙ opened)

  pub abort_stopped : (new : SessionState) (fault : PortFault) (why : Stop) → why ≡ stop_at fault → ReadsOnly a b → Cause a.disk_faults b.disk_faults fault → (IsDamage fault → OwnRoots s.pages s.kept s.geometry a s.groups s.units s.gained → ⊥)
      → new ≡ record s { units = new.units; groups = new.groups } → Steps a b s new request.Abort (Err why)
  abort_stopped new fault why told reads cause never same = record {
    only = reads.nothing.only;
    geometry = ap (λ (t : SessionState). t.geometry) same;
    down = ap (λ (t : SessionState). t.down) same;
    stops = stopped_so a b fault why told cause;
    sound = stopped_outside fault why told (λ before from now damage.
        never damage (subst (λ (t : SessionState). OwnRoots t.pages t.kept t.geometry a t.groups t.units t.gained) from (own_gained now (subst IsSession (sym from) is))));
    refused = tt;
    quiet = λ _. (reads, ap (λ (t : SessionState). t.log) same);
    stepped = λ before from now. tt;
    any_moment = λ before from now. quiet_moments request.Abort world reads before now;
    scans = ap (λ (t : SessionState). t.scans) same;
  }

-- ---- as the code comes to it

pub aborted_as : (s : SessionState) (meta : Overlays) (pages : LoggedSet) (units : UnitSet) (groups : List Frames) (notes : List OpNote) (gained lost : List Root) (names : List BoundName)
    → meta ≡ record s.meta { working = [] } → notes ≡ [] → gained ≡ [] → lost ≡ [] → names ≡ kept s.names
    → aborted s pages units groups ≡ record s { meta = meta; pages = pages; units = units; groups = groups; notes = notes; gained = gained; lost = lost; names = names; opened = false; down = false }
aborted_as s meta pages units groups notes gained lost names is none no_gained no_lost unbound = cc (is, none, no_gained, no_lost, unbound)

-- Where no page became free, none did in the release.
pub none_freed : {a b : Outside} {s : SessionState} {was : List Frames} {roots : List Root} {given : UnitSet} {groups : List Frames} {safe : ℕ → Type 0} (units : UnitSet) → GaveUp a b s was roots given groups → OnlyGives safe given units
    → free_count units.geometry (used_at units) Page ≡ free_count s.units.geometry (used_at s.units) Page → free_count given.geometry (used_at given) Page ≡ free_count s.units.geometry (used_at s.units) Page
none_freed units gave gives same = (let one = gave.gives.free Page in let two = gives.free Page in omega (arith, one, two, same))
