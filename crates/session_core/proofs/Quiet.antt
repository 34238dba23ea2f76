-- Steps that write nothing, and what a session shows over them.
use Rattle.std.proofs.Common.{◌≡◌, ◌∙◌, ℕ, List, map, All, Option, Some, None, Ok, Err, refl, sym, ap, subst, inl}
use Rattle.std.specs.List.{AllByRecursion}
use Rattle.ex_base.specs.declared.geometry.Geometry.{Geometry}
use Rattle.disk_model.specs.Outside.{Outside, IsWorld, ReadsOnly, Leaves}
use Rattle.disk_model.specs.Runs.{leaves_start, leaves_quiet, honest_on, reads_refl}
use Rattle.buffer_groups.specs.Frames.{Frames}
use Rattle.buffer_groups.specs.Frames as lent
use Rattle.table_model.specs.declared.machine.Pick.{Pick}
use Rattle.table_model.specs.declared.reply.Refusal.{Refusal}
use Rattle.table_model.specs.declared.reply.Reply.TheVariants as reply
use Rattle.table_model.specs.Requests.{Request}
use Rattle.table_model.specs.Refusals.{refusal_of}
use Rattle.table_model.specs.Steps.{IsAllowed, IfAccepted}
use Rattle.table_model.proofs.Stepping.{refused}
use Rattle.session_views.specs.declared.stop.Stop.{Stop}
use Rattle.session_views.specs.View.{View, ShowsNow, StandsDuring}
use Rattle.volume_model.specs.Shown.{Held, Shows, Lends, PageRow, WorkingShown}
use Rattle.volume_model.specs.Volume.{Decoded, Volume}
use Rattle.table_model.specs.declared.table.Table.{Table}
use Rattle.session_core.specs.Sessions.{SessionState, held, IsSession}
use Rattle.session_core.specs.Catalogs.{FramesLend}
use Rattle.session_core.specs.Meant.{meant, pick_of, held_view}
use Rattle.session_core.specs.Steps.{OnlyFrames, Stops, StepsQuietly}
use Rattle.volume_port.proofs.Frames.{frames_shown, frames_lent}
use Rattle.volume_model.proofs.Showing.{view_of, session_geometry}

-- ---- other frames

working_moved : (d : Decoded) (v : View Held) (frames : List (List PageRow)) (working : Volume) (o : Option Table) → WorkingShown d v working o
    → WorkingShown d (view_of v.machine (record v.session { frames = frames }) v.disk) working o
working_moved d v frames working None shown = shown
working_moved d v frames working (Some table) shown = record { parts = shown.parts; same = shown.same }

pub shows_frames : {may_leave fewer : List ℕ → Type 0} {v : View Held} (s : Held) (shows : Shows may_leave v) → ((d : List ℕ) → fewer d → may_leave d)
    → s ≡ record v.session { frames = s.frames } → AllByRecursion (Lends shows.decoded.geometry v.disk) s.frames → Shows fewer (view_of v.machine s v.disk)
shows_frames {may_leave} {fewer} {v} s shows inside same frames = subst (λ (t : Held). Shows fewer (view_of v.machine t v.disk)) (sym same) (record {
  decoded = shows.decoded;
  working = shows.working;
  rules = shows.rules;
  shared = (let h = shows.shared in record { geometry = h.geometry; notes = h.notes; names = h.names; group_rows = h.group_rows; open_txn = h.open_txn; up = h.up });
  parts = shows.parts;
  geometry = shows.geometry;
  committed = shows.committed;
  working_shown = working_moved shows.decoded v s.frames shows.working v.machine.working shows.working_shown;
  scans = shows.scans;
  owners = shows.owners;
  used = (let h = shows.used in record { reached = h.reached; pages = h.pages; segs = h.segs; touched = h.touched });
  logged = (let h = shows.logged in record { held = h.held; kept = h.kept });
  frames = frames;
  durable = λ image left. shows.durable image (inside image left);
  apart = (let h = shows.apart in record { no_tree = h.no_tree; in_order = h.in_order; images = h.images; left = h.left });
  overlay = (let h = shows.overlay in record { just = h.just; in_order = h.in_order; pages = h.pages; log = h.log });
})

-- what a session's frames hold, where its view shows
abbrev pub AreSizes : SessionState → Type 0
AreSizes s = All (λ (f : Frames). f.page_size ≡ s.geometry.page_size) s.groups

decoded_sizes : {w : Outside} {v : View SessionState} (now : ShowsNow meant w v) → AreSizes v.session → All (λ (f : Frames). f.page_size ≡ now.shows.decoded.geometry.page_size) v.session.groups
decoded_sizes {w} {v} now sizes = subst (λ (g : Geometry). All (λ (f : Frames). f.page_size ≡ g.page_size) v.session.groups) (session_geometry now.shows) sizes

pub shown_lends : {w : Outside} {v : View SessionState} (now : ShowsNow meant w v) → AreSizes v.session → FramesLend w v.session
shown_lends {w} {v} now sizes = frames_lent now.shows.decoded.geometry w.disk v.disk v.session.groups now.holds (decoded_sizes now sizes) now.shows.frames

-- The frames after a step lend, and so they are shown.
pub later_frames : {a : Outside} {v : View SessionState} (now : ShowsNow meant a v) (groups : List Frames) → AreSizes v.session
    → All (λ (f : Frames). f.page_size ≡ v.session.geometry.page_size) groups → (FramesLend a v.session → All (lent.Lends a.disk) groups)
    → AllByRecursion (Lends now.shows.decoded.geometry v.disk) (map (λ (f : Frames). f.entries) groups)
later_frames {a} {v} now groups sizes later lends =
    frames_shown now.shows.decoded.geometry a.disk v.disk groups now.holds
    (subst (λ (g : Geometry). All (λ (f : Frames). f.page_size ≡ g.page_size) groups) (session_geometry now.shows) later)
    (lends (shown_lends now sizes))

-- ---- what stands outside after it

pub now_after : {a b : Outside} {v w : View SessionState} → ReadsOnly a b → ShowsNow meant a v → w.disk ≡ v.disk → Shows b.images (held_view w) → ShowsNow meant b w
now_after reads now same shows = record {
  honest = honest_on reads.nothing.only.goes now.honest;
  holds = reads.nothing.disk ∙ now.holds ∙ ap (λ (d : List ℕ). Some d) (sym same);
  shows = shows;
}

pub left_before : {a b : Outside} {v : View SessionState} → ReadsOnly a b → ShowsNow meant a v → (d : List ℕ) → b.images d → a.images d
left_before reads now d here = reads.nothing.back now.honest d here

pub quiet_moments : {a b : Outside} (r : Request) → IsWorld a → ReadsOnly a b → (before : View SessionState) → ShowsNow meant a before → Leaves a b (StandsDuring meant before.machine r)
quiet_moments {a} {b} r world reads before now =
    leaves_quiet (StandsDuring meant before.machine r)
    (leaves_start a (StandsDuring meant before.machine r) world (λ d here. inl (meant.stands a.images before d now.shows here)))
    now.honest reads.nothing

-- ---- a refusal, and a stop

-- the view after a step that changed frames alone
abbrev pub with_groups : View SessionState → SessionState → View SessionState
with_groups v new = record { machine = v.machine; session = new; disk = v.disk }

pub same_view : {a b : Outside} {old new : SessionState} (before : View SessionState) → before.session ≡ old → ShowsNow meant a before → OnlyFrames a b old new → AreSizes old
    → ShowsNow meant b (with_groups before new)
same_view {a} {b} {old} {new} before is now only sizes =
    let later = only.sizes old.geometry.page_size sizes in
    let same : new ≡ record before.session { groups = new.groups } = only.same ∙ ap (λ (s : SessionState). record s { groups = new.groups }) (sym is) in
    let frames = later_frames now new.groups (subst AreSizes (sym is) sizes)
    (subst (λ (s : SessionState). All (λ (f : Frames). f.page_size ≡ s.geometry.page_size) new.groups) (sym is) later)
    (subst (λ (s : SessionState). FramesLend a s → FramesLend a new) (sym is) only.lends) in
    now_after only.reads now refl (shows_frames (held new) now.shows (left_before only.reads now) (ap held same) frames)

pub quiet_refusal : {a b : Outside} {old new : SessionState} (r : Request) (why : Refusal) → OnlyFrames a b old new → AreSizes old
    → ((before : View SessionState) → before.session ≡ old → ShowsNow meant a before → (q : Pick) → refusal_of before.machine r q ≡ Some why) → StepsQuietly a b old new r (Ok (reply.No why))
quiet_refusal {a} {b} {old} {new} r why only sizes refuses = record {
  reads = only.reads;
  geometry = ap (λ (s : SessionState). s.geometry) only.same;
  log = ap (λ (s : SessionState). s.log) only.same;
  down = ap (λ (s : SessionState). s.down) only.same;
  stops = tt;
  refused = λ _. only;
  stepped = λ before is now.
      let q = pick_of (held_view before) r (held_view (with_groups before new)) in
      let refuse = refuses before is now q in
      record {
        after = with_groups before new;
        is = refl;
        shows = same_view before is now only sizes;
        step = refused before.machine r q why (reply.No why) before.machine (sym refuse) refl refl (subst (λ (o : Option Refusal). IfAccepted o (IsAllowed before.machine r q)) (sym refuse) tt);
      };
  scans = ap (λ (s : SessionState). s.scans) only.same;
}

pub quiet_stop : {a b : Outside} {old new : SessionState} (r : Request) (why : Stop) → ReadsOnly a b → new.geometry ≡ old.geometry → new.log ≡ old.log → new.down ≡ old.down → Stops a b old why
    → new.scans ≡ old.scans → StepsQuietly a b old new r (Err why)
quiet_stop r why reads geometry log down stops scans = record { reads = reads; geometry = geometry; log = log; down = down; stops = stops; refused = tt; stepped = λ before is now. tt; scans = scans }

pub nothing_changed : (a : Outside) (s : SessionState) → OnlyFrames a a s s
nothing_changed a s = record { reads = reads_refl a; same = refl; lends = λ lends. lends; sizes = λ n sizes. sizes; kinds = refl }

pub refused_at_once : {a : Outside} (s : SessionState) (r : Request) (why : Refusal) → IsSession s → ((before : View SessionState) → before.session ≡ s → ShowsNow meant a before → (q : Pick) → refusal_of before.machine r q ≡ Some why)
    → StepsQuietly a a s s r (Ok (reply.No why))
refused_at_once {a} s r why is refuses = quiet_refusal r why (nothing_changed a s) is.sizes refuses
