-- A checkpoint, from a view that shows to one that shows.
use Rattle.std.proofs.Common.{◌≡◌, ◌∙◌, ◌↔◌, ℕ, true, false, List, [], ◌∷◌, ◌++◌, length, map, All, Option, Some, None, is_some, nat_eq, refl, sym, ap, subst, inl, eq-eqb}
use Rattle.std.specs.Prelude.{IsTrue, Contains}
use Rattle.std.specs.Map.{lookup}
use Rattle.ex_base.specs.declared.geometry.Geometry.{Geometry}
use Rattle.ex_base.specs.declared.names.Root.{Root}
use Rattle.ex_base.specs.Area.{catalog_no}
use Rattle.ex_base.specs.Order.{Rising}
use Rattle.ex_base.proofs.Options.{some_apart}
use Rattle.disk_model.specs.Outside.{Outside, DiskOnly, Leaves}
use Rattle.disk_model.specs.Runs.{leaves_wider, honest_on}
use Rattle.op_log.specs.State.{LogState}
use Rattle.table_model.specs.declared.machine.Machine.{Machine}
use Rattle.table_model.specs.declared.table.Table.{Table}
use Rattle.table_model.specs.Steps.{Step}
use Rattle.session_views.specs.View.{View, ShowsNow, StandsDuring, Stepped}
use Rattle.table_model.specs.Requests as request
use Rattle.volume_model.specs.Committed.{Committed, IsOverlayOf, Checkpointed, StandsForVolume, with_records}
use Rattle.volume_model.specs.Parts.{StandsFor}
use Rattle.volume_model.specs.Shown.{WorkingRow, PageRow}
use Rattle.volume_model.specs.Volume.{Volume, Decoded, file_pages, roots_in, stored_in}
use Rattle.buffer_groups.specs.Frames.{Frames}
use Rattle.meta_pages.specs.Overlays.{Overlays}
use Rattle.table_model.specs.declared.reply.Reply.TheVariants as reply
use Rattle.session_core.specs.Sessions.{SessionState, IsSession, held}
use Rattle.session_core.specs.Meant.{meant, pick_of, held_view}
use Rattle.session_core.proofs.Accepted.{took_place}
use Rattle.volume_port.proofs.Frames.{frames_shown}
use Rattle.session_core.proofs.Refusing.{checkpoint_accepted}
use Rattle.volume_model.proofs.Volumes.{idle_of}
use Rattle.trees.specs.Owners.{IsOwned, root_pages}
use Rattle.ex_base.proofs.Members.{contains_later}
use Rattle.volume_model.specs.Homes.{home}
use Rattle.volume_model.specs.OwnersMoved.{PagesGo}
use Rattle.volume_model.specs.OwnersShown.{OwnersShown, logged_pages}
use Rattle.volume_model.proofs.OwnersSwept.{committed as owners_committed, homes_owned, lost_first}
use Rattle.volume_model.proofs.ScansKept.{owned_stay, scans_shown}
use Rattle.session_core.proofs.Committing.{FramesAfter}
use Rattle.session_core.proofs.Ending.{scan_roots}
use Rattle.volume_model.proofs.AtRest.{AtRest, committed_side, rests_shown}
use Rattle.std.proofs.lemmas.Bool.{both_ways}
use Rattle.volume_port.specs.Logged.{is_held}
use Rattle.page_alloc.specs.UnitSet.{refs_at, used_at}
use Rattle.volume_model.proofs.Showing.{view_of, session_geometry}

no_overlay : (rows : List PageRow) → ((page : ℕ) → lookup (nat_eq page) rows ≡ None) → rows ≡ []
no_overlay [] none = refl
no_overlay (row ∷ rows) none = let here : lookup (nat_eq row.0) (row ∷ rows) ≡ Some row.1 = rw (eq-eqb row.0 row.0 refl) refl in let no_row = none row.0 in absurd (some_apart row.1 (sym here ∙ no_row))

none_open : (o : Option Table) → is_some o ≡ false → o ≡ None
none_open None closed = refl
none_open (Some t) closed = absurd (cc)

abbrev pub HomeMoments : Outside → Outside → LogState → Overlays → Type 0
HomeMoments a b log meta = (d : Decoded) (held : List ℕ) → IsTrue a.honest → a.disk ≡ Some held → Committed a.images d held log meta.committed → Leaves a b (StandsForVolume d held)

abbrev pub GoesHome : Outside → Outside → LogState → Overlays → LogState → Overlays → Type 0
GoesHome a b log meta log_now meta_now = (d : Decoded) (held : List ℕ) → IsTrue a.honest → a.disk ≡ Some held → Committed a.images d held log meta.committed
    → (later : List ℕ) × (b.disk ≡ Some later) × Checkpointed d held b.images later log_now meta_now.committed

pub checkpoint_moments : {a b : Outside} {before : View SessionState} (now : ShowsNow meant a before) → HomeMoments a b before.session.log before.session.meta → Leaves a b (StandsDuring meant before.machine request.Checkpoint)
checkpoint_moments {a} {b} {before} now moments =
    leaves_wider (StandsForVolume now.shows.decoded before.disk) (StandsDuring meant before.machine request.Checkpoint) (moments now.shows.decoded before.disk now.honest now.holds (committed_side now.shows (λ d here. here)))
    (λ image old. inl (subst (StandsFor image) (sym now.shows.committed) old))

abbrev pub home_session : SessionState → LogState → Overlays → List Frames → SessionState
home_session s log meta groups = record s { log = log; meta = meta; groups = groups }

module _ {a b : Outside} {before : View SessionState} (now : ShowsNow meant a before) (session : IsSession before.session) (only : DiskOnly a b) (closed : before.session.opened ≡ false) (log : LogState) (meta : Overlays)
    (home_now : GoesHome a b before.session.log before.session.meta log meta) (stays : meta.working ≡ before.session.meta.working) (groups : List Frames) (frames : FramesAfter b before.session.geometry groups) where
  abbrev o : Machine
  o = before.machine

  abbrev d : Decoded
  d = now.shows.decoded

  abbrev s : SessionState
  s = before.session

  abbrev left : SessionState
  left = home_session s log meta groups

  shut : is_some o.working ≡ false
  shut = now.shows.shared.open_txn ∙ closed

  done : (disk : List ℕ) × (b.disk ≡ Some disk) × Checkpointed d before.disk b.images disk log meta.committed
  done = home_now d before.disk now.honest now.holds (committed_side now.shows (λ d here. here))

  abbrev e : Decoded
  e = with_records d [] d.volume

  idle : (s.meta.working ≡ []) × (now.shows.working ≡ d.volume)
  idle = idle_of d (held_view before) now.shows.working o.working shut now.shows.working_shown

  empty : meta.committed ≡ []
  empty = no_overlay meta.committed (λ page. done.2.committed.shown.just page)

  -- the committed volume owns what the working one did
  owned : IsOwned d.geometry (home d.geometry before.disk) (used_at s.units) (refs_at s.units) (logged_pages d d.volume) (root_pages (roots_in (stored_in d.volume) ++ scan_roots s))
  owned =
      subst (λ (w : Volume). IsOwned d.geometry (home d.geometry before.disk) (used_at s.units) (refs_at s.units) (logged_pages d w) (root_pages (roots_in (stored_in w) ++ scan_roots s))) idle.1
      (subst (λ (roots : List Root). IsOwned d.geometry (home d.geometry before.disk) (used_at s.units) (refs_at s.units) (logged_pages d now.shows.working) (root_pages roots ++ root_pages (roots_in (stored_in now.shows.working) ++ scan_roots s))) (session.idle closed now.shows.shared.up).2
      (lost_first d (scan_roots s) now.shows.working (used_at s.units) (refs_at s.units) s.gained s.lost before.disk now.shows.owners))

  none_go : PagesGo (used_at s.units) (used_at s.units) (refs_at s.units) (file_pages d.volume) (catalog_no ∷ file_pages d.volume)
  none_go = record {
    still = λ u used. used;
    freed = λ u used free. absurd (both_ways _ free used);
    all = λ u has none. absurd (none (contains_later catalog_no u (file_pages d.volume) has));
  }

  owners_home : OwnersShown e (used_at s.units) (refs_at s.units) s.gained s.lost (scan_roots s) done.0 d.volume
  owners_home =
      subst (λ (roots : List Root). OwnersShown e (used_at s.units) (refs_at s.units) roots s.lost (scan_roots s) done.0 d.volume) (sym (session.idle closed now.shows.shared.up).1)
      (subst (λ (roots : List Root). OwnersShown e (used_at s.units) (refs_at s.units) [] roots (scan_roots s) done.0 d.volume) (sym (session.idle closed now.shows.shared.up).2)
      (owners_committed d (scan_roots s) d.volume [] (used_at s.units) (used_at s.units) (refs_at s.units) before.disk done.0 owned
      (λ u area some. homes_owned d (scan_roots s) d.volume (held_view before) now.shows.overlay (used_at s.units) (refs_at s.units) (root_pages (roots_in (stored_in d.volume) ++ scan_roots s)) before.disk done.0 owned done.2.homes u area some) none_go))

  held_of : (p : ℕ) → (is_held s.pages p ≡ true) ↔ Contains (catalog_no ∷ file_pages d.volume) p
  held_of p = subst (λ (x : Volume). (is_held s.pages p ≡ true) ↔ Contains (catalog_no ∷ file_pages x) p) idle.1 (now.shows.logged.held p)

  step : Step o request.Checkpoint (pick_of (held_view before) request.Checkpoint (view_of o (held left) done.0)) reply.Checkpoint o
  step =
      took_place o o request.Checkpoint (pick_of (held_view before) request.Checkpoint (view_of o (held left) done.0)) reply.Checkpoint
      (checkpoint_accepted before (pick_of (held_view before) request.Checkpoint (view_of o (held left) done.0)) now.shows.shared.open_txn closed) refl refl (tt, λ none. absurd (cc))

  rests : AtRest b.images e o (held left) done.0
  rests = record {
    committed = done.2.committed;
    in_order = subst (λ (rows : List PageRow). Rising (map (λ (row : PageRow). row.0) rows)) (sym empty) tt;
    of_files = subst (λ (rows : List PageRow). IsOverlayOf d.volume rows) (sym empty) tt;
    table = now.shows.committed ∙ sym done.2.same.table;
    geometry = now.shows.geometry;
    rules = now.shows.rules;
    shared = record { geometry = now.shows.shared.geometry; notes = now.shows.shared.notes; names = now.shows.shared.names; group_rows = now.shows.shared.group_rows; open_txn = now.shows.shared.open_txn; up = now.shows.shared.up };
    closed = none_open o.working shut;
    untouched = now.shows.used.touched ∙ ap (λ (rows : List WorkingRow). length rows) idle.0;
    no_pages = stays ∙ idle.0;
    pages = now.shows.used.pages;
    segs = now.shows.used.segs;
    scans = scans_shown d (held_view before) now.shows.working now.shows.owners done.0 (owned_stay d (held_view before) now.shows.working now.shows.owners now.shows.overlay done.0 done.2.homes) now.shows.scans;
    owners = owners_home;
    held = held_of;
    kept = now.shows.logged.kept;
    frames = frames_shown d.geometry b.disk done.0 groups done.1 (subst (λ (g : Geometry). All (λ (f : Frames). f.page_size ≡ g.page_size) groups) (session_geometry now.shows) frames.sizes) frames.lends;
  }

  pub checkpoint_steps : (new : SessionState) → left ≡ new → Stepped meant before request.Checkpoint reply.Checkpoint new b
  checkpoint_steps new same = record {
    after = record { machine = o; session = left; disk = done.0 };
    is = same;
    shows = record { honest = honest_on only.goes now.honest; holds = done.1; shows = rests_shown e o (held left) done.0 rests };
    step = step;
  }
