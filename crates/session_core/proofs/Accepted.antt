-- Accepted commands that write nothing, and among them the one that opens a transaction.
use Rattle.std.proofs.Common.{◌≡◌, ◌≢◌, ◌∙◌, ℕ, ◌+◌, ◌-◌, ◌^◌, true, false, List, [], ◌∷◌, All, Option, Some, None, is_some, Ok, Err, refl, sym, ap, subst, inl, arith}
use Rattle.std.specs.Prelude.{IsTrue, IfSome, unwrap_or, Contains, ◌<◌}
use Rattle.ex_base.specs.declared.geometry.Geometry.{Geometry}
use Rattle.ex_base.specs.declared.names.Area.{Area}
use Rattle.ex_base.specs.declared.names.PageNo.{PageNo}
use Rattle.ex_base.specs.declared.faults.Seen.{Seen}
use Rattle.session_views.specs.declared.stop.Stop.TheVariants as stop
use Rattle.ex_base.specs.Area.{catalog_no}
use Rattle.disk_model.specs.Outside.{Outside, IsWorld, ReadsOnly}
use Rattle.buffer_groups.specs.Frames.{Frames}
use Rattle.page_alloc.specs.UnitSet.{free_count, used_at}
use Rattle.object_files.specs.Catalog.{Catalog, CatalogOf}
use Rattle.object_files.specs.Reads.{catalog_on}
use Rattle.table_model.specs.declared.machine.Machine.{Machine}
use Rattle.table_model.specs.declared.machine.Pick.{Pick}
use Rattle.table_model.specs.declared.table.Table.{Table}
use Rattle.table_model.specs.declared.reply.Reply.{Reply}
use Rattle.table_model.specs.declared.reply.Reply.TheVariants as reply
use Rattle.table_model.specs.declared.reply.Refusal.{Refusal}
use Rattle.table_model.specs.declared.reply.Refusal.TheVariants as refusal
use Rattle.table_model.specs.Requests.{Request, is_request}
use Rattle.table_model.specs.Requests as request
use Rattle.table_model.specs.Machines.{IsMachine, IsWorking, shown}
use Rattle.table_model.specs.Refusals.{refusal_of}
use Rattle.table_model.specs.Steps.{Step, IsAllowed, IfAccepted, machine_after, reply_to}
use Rattle.table_model.proofs.StepsKeep.{steps_keep}
use Rattle.table_model.proofs.Stepping.{accepted}
use Rattle.session_views.specs.View.{View, ShowsNow, Stepped}
use Rattle.volume_model.proofs.OneReading.{one_catalog}
use Rattle.volume_model.specs.Shown.{Shared, WorkingRow, used_in, working_units}
use Rattle.volume_model.specs.Volume.{Volume, file_pages, roots_in, stored_in, table_of, units_of}
use Rattle.session_core.specs.Sessions.{SessionState, held, IsSession, begun}
use Rattle.session_core.specs.Catalogs.{FramesLend, catalog_bytes}
use Rattle.session_core.specs.Meant.{meant, pick_of, held_view}
use Rattle.session_core.specs.Counts.{used_of}
use Rattle.session_core.specs.Steps.{OnlyFrames, Steps, StepsQuietly}
use Rattle.volume_model.proofs.Volumes.{parts_same, table_same, idle_of}
use Rattle.volume_model.proofs.Showing.{view_of, KeepsVolume, WorksAs, shows_after, shows_catalog, session_geometry}
use Rattle.volume_port.proofs.HeldCatalog.{reads_catalog, working_catalog}
use Rattle.session_core.proofs.Quiet.{AreSizes, refused_at_once, quiet_moments, quiet_refusal, shown_lends, later_frames, left_before, now_after}
use Rattle.session_core.proofs.Refusing.{begin_accepted, spent_refused, free_left}
use Rattle.volume_port.proofs.Working.{begun_units}

-- ---- any accepted command that takes no unit

-- the step of the machine, where nothing refuses the command
pub took_place : (m after : Machine) (r : Request) (q : Pick) (told : Reply) → refusal_of m r q ≡ None → told ≡ reply_to m r q → after ≡ machine_after m r q → IsAllowed m r q → Step m r q told after
took_place m after r q told none same is allowed =
    accepted m r q told after (sym none) same is (subst (λ (o : Option Refusal). IfAccepted o (IsAllowed m r q)) (sym none) allowed)

-- the session after it, with its groups
pub record LaterFrames (a b : Outside) (old : SessionState) (groups : List Frames) : Type 0 where
  pub reads : ReadsOnly a b
  pub sizes : AreSizes old
  pub later : All (λ (f : Frames). f.page_size ≡ old.geometry.page_size) groups
  pub lends : FramesLend a old → FramesLend a (record old { groups = groups })

pub stepped_by : {a b : Outside} {before : View SessionState} (now : ShowsNow meant a before) (r : Request) (told : Reply) (m : Machine) (s new : SessionState) (w : Volume) → s ≡ new
    → LaterFrames a b before.session s.groups → IsTrue (is_request r)
    → Step before.machine r (pick_of (held_view before) r (view_of m (held s) before.disk)) told m
    → KeepsVolume (held_view before) m (held s) → Shared (view_of m (held s) before.disk) → WorksAs now.shows.decoded (view_of m (held s) before.disk) now.shows.working w → Stepped meant before r told new b
stepped_by {a} {b} {before} now r told m s new w same frames form step keeps shared works =
    let q = pick_of (held_view before) r (view_of m (held s) before.disk) in
    let rules = steps_keep before.machine r q told m now.shows.rules form step in
    let shown_frames = later_frames now s.groups frames.sizes frames.later frames.lends in
    record {
      after = record { machine = m; session = s; disk = before.disk };
      is = same;
      shows = now_after frames.reads now refl (shows_after m (held s) w now.shows (left_before frames.reads now) keeps shared rules shown_frames works);
      step = step;
    }

-- ---- the catalog that a step read

-- A page is the catalog as the session reads it.
pub record ReadsCatalog (a : Outside) (s : SessionState) (page : List ℕ) : Type 0 where
  pub catalog : CatalogOf page (catalog_on page)
  pub read : (d : List ℕ) → a.disk ≡ Some d → FramesLend a s → page ≡ catalog_bytes s d

pub shown_on : {a : Outside} {before : View SessionState} (now : ShowsNow meant a before) (page : List ℕ) → ReadsCatalog a before.session page → FramesLend a before.session → catalog_on page ≡ now.shows.working.catalog
shown_on {a} {before} now page reads lends =
    one_catalog page (catalog_on page) now.shows.working.catalog reads.catalog
    (subst (λ (bytes : List ℕ). CatalogOf bytes now.shows.working.catalog) (sym (reads.read before.disk now.holds lends)) (reads_catalog now.shows))

-- ---- begin

closed_shown : (m : Machine) → is_some m.working ≡ false → shown m ≡ m.committed
closed_shown m closed = none m.working closed
  where
    none : (o : Option Table) → is_some o ≡ false → unwrap_or o m.committed ≡ m.committed
    none None is = refl
    none (Some t) is = absurd (cc)

pub begin_steps : {a b : Outside} {before : View SessionState} (now : ShowsNow meant a before) (new : SessionState) (groups : List Frames) (page : List ℕ) → begun (record before.session { groups = groups }) page ≡ new
    → LaterFrames a b before.session groups → before.session.opened ≡ false → ReadsCatalog a before.session page → FramesLend a before.session → ((catalog_on page).last ≢ 2 ^ 64 - 1)
    → Stepped meant before request.Begin (reply.Begin ((catalog_on page).last + 1)) new b
begin_steps {a} {b} {before} now new groups page same frames closed reads lends room =
    let m = before.machine in
    let d = now.shows.decoded in
    let old = before.session.meta.working in
    let rows = (catalog_no, Some page) ∷ [] in
    let shown = shows_catalog now.shows in
    let on = shown_on now page reads lends in
    let idle = idle_of d (held_view before) now.shows.working m.working (now.shows.shared.open_txn ∙ closed) now.shows.working_shown in
    let image : page ≡ units_of d before.disk catalog_no =
    reads.read before.disk now.holds lends ∙ sym (working_catalog d (held_view before) now.shows.overlay (session_geometry now.shows)) ∙ ap (λ (rs : List WorkingRow). working_units d before.disk rs catalog_no) idle.0 in
    let units = begun_units d before.disk page image in
    let table : m.committed ≡ table_of (working_units d before.disk old) now.shows.working = sym (closed_shown m (now.shows.shared.open_txn ∙ closed)) ∙ shown.table in
    let number : m.committed.last ≡ (catalog_on page).last = ap (λ (t : Table). t.last) table ∙ ap (λ (c : Catalog). c.last) (sym on) in
    let s = begun (record before.session { groups = groups }) page in
    let after : Machine = record m { working = Some m.committed; notes = []; touched = 1 } in
    let q = pick_of (held_view before) request.Begin (view_of after (held s) before.disk) in
    let step : Step m request.Begin q (reply.Begin ((catalog_on page).last + 1)) after =
    took_place m after request.Begin q (reply.Begin ((catalog_on page).last + 1)) (begin_accepted before q now.shows.shared.open_txn closed (λ is. room (sym number ∙ is)))
    (ap (λ (n : ℕ). reply.Begin (n + 1)) (sym number)) refl (tt, λ none. absurd (cc)) in
    stepped_by now request.Begin (reply.Begin ((catalog_on page).last + 1)) after s new d.volume same frames refl step
    (record { geometry = refl; committed = refl; machine_scans = refl; pages = refl; segs = refl; scans = refl; used = refl; refs = refl; gained = refl; lost = refl; held = refl; kept = refl; overlay = refl; log = refl })
    (record { geometry = now.shows.shared.geometry; notes = refl; names = now.shows.shared.names; group_rows = now.shows.shared.group_rows; open_txn = refl; up = refl })
    (record {
      working = record {
        parts = parts_same d.geometry d.records (units_of d before.disk) (working_units d before.disk rows) d.volume units now.shows.parts.1.1;
        same = now.shows.committed ∙ sym (table_same (units_of d before.disk) (working_units d before.disk rows) d.volume units);
      };
      touched = refl;
      in_order = tt;
      images = (λ some. inl refl, tt);
      pages = ap file_pages (sym idle.1);
      roots = ap (λ (w : Volume). roots_in (stored_in w)) (sym idle.1);
      left = λ some number has none. absurd (none (subst (λ (w : Volume). Contains (file_pages w) number) (sym idle.1) has));
    })

-- ---- each accepted command as a quiet step

pub later_of : {a b : Outside} (old mid : SessionState) → IsSession old → OnlyFrames a b old mid → LaterFrames a b old mid.groups
later_of {a} {b} old mid is only = record { reads = only.reads; sizes = is.sizes; later = only.sizes old.geometry.page_size is.sizes; lends = only.lends }

pub accepted_quietly : {a b : Outside} (old mid new : SessionState) (r : Request) (told : Reply) → OnlyFrames a b old mid → new.geometry ≡ mid.geometry → new.log ≡ mid.log → new.down ≡ mid.down → new.scans ≡ mid.scans
    → ((why : Refusal) → told ≡ reply.No why → ⊥) → ((before : View SessionState) → before.session ≡ old → ShowsNow meant a before → Stepped meant before r told new b) → StepsQuietly a b old new r (Ok told)
accepted_quietly old mid new r told only geometry log down scans accepts steps = record {
  reads = only.reads;
  geometry = geometry ∙ ap (λ (s : SessionState). s.geometry) only.same;
  log = log ∙ ap (λ (s : SessionState). s.log) only.same;
  down = down ∙ ap (λ (s : SessionState). s.down) only.same;
  stops = tt;
  refused = λ (why, is). absurd (accepts why is);
  stepped = steps;
  scans = scans ∙ ap (λ (s : SessionState). s.scans) only.same;
}

pub begin_quietly : {a b : Outside} (old mid new : SessionState) (page : List ℕ) (last : ℕ) → IsSession old → OnlyFrames a b old mid → old.opened ≡ false → old.down ≡ false → ReadsCatalog a old page → last ≡ (catalog_on page).last → (last ≢ 2 ^ 64 - 1)
    → begun mid page ≡ new → StepsQuietly a b old new request.Begin (Ok (reply.Begin (last + 1)))
begin_quietly {a} {b} old mid new page last is only closed up reads number room same =
    accepted_quietly old mid new request.Begin (reply.Begin (last + 1)) only (ap (λ (s : SessionState). s.geometry) (sym same)) (ap (λ (s : SessionState). s.log) (sym same)) (ap (λ (s : SessionState). s.down) (sym same) ∙ sym (ap (λ (s : SessionState). s.down) only.same ∙ up)) (ap (λ (s : SessionState). s.scans) (sym same)) (λ why told. absurd (cc))
    (λ before from now.
    let session = subst IsSession (sym from) is in
    let at = ap (λ (s : SessionState). begun s page) (ap (λ (s : SessionState). record s { groups = mid.groups }) from ∙ sym only.same) ∙ same in
    subst (λ (n : ℕ). Stepped meant before request.Begin (reply.Begin (n + 1)) new b) (sym number)
    (begin_steps now new mid.groups page at (subst (λ (s : SessionState). LaterFrames a b s mid.groups) (sym from) (later_of old mid is only))
    (ap (λ (s : SessionState). s.opened) from ∙ closed) (subst (λ (s : SessionState). ReadsCatalog a s page) (sym from) reads) (shown_lends now session.sizes) (λ is. room (number ∙ is))))

pub begin_spent : {a b : Outside} (old mid : SessionState) (page : List ℕ) (last : ℕ) → IsSession old → OnlyFrames a b old mid → old.opened ≡ false → ReadsCatalog a old page → last ≡ (catalog_on page).last → last ≡ 2 ^ 64 - 1
    → StepsQuietly a b old mid request.Begin (Ok (reply.No refusal.IdsSpent))
begin_spent {a} {b} old mid page last is only closed reads number spent =
    quiet_refusal request.Begin refusal.IdsSpent only is.sizes
    (λ before from now q.
    let session = subst IsSession (sym from) is in
    let open_txn = now.shows.shared.open_txn in
    let shut = ap (λ (s : SessionState). s.opened) from ∙ closed in
    let on = shown_on now page (subst (λ (s : SessionState). ReadsCatalog a s page) (sym from) reads) (shown_lends now session.sizes) in
    let table : before.machine.committed ≡ table_of (working_units now.shows.decoded before.disk before.session.meta.working) now.shows.working = sym (closed_shown before.machine (open_txn ∙ shut)) ∙ (shows_catalog now.shows).table in
    spent_refused before q open_txn shut (ap (λ (t : Table). t.last) table ∙ ap (λ (c : Catalog). c.last) (sym on) ∙ sym number ∙ spent))

-- ---- a commit without a number

last_left : (m : Machine) → IsMachine m → is_some m.working ≡ true → (shown m).last < 2 ^ 64 - 1
last_left m rules opened = here m.working rules.working opened
  where
    here : (o : Option Table) → IfSome o (IsWorking m.geometry m.committed) → is_some o ≡ true → (unwrap_or o m.committed).last < 2 ^ 64 - 1
    here None rules opened = absurd (cc)
    here (Some t) rules opened = rules.room

-- where no number is left no view shows, so that any stop will do
pub commit_spent : {a b : Outside} (old mid : SessionState) (page : List ℕ) (at : PageNo) (want got : Seen) → IsWorld a → IsSession old → OnlyFrames a b old mid → old.opened ≡ true → ReadsCatalog a old page → (catalog_on page).last ≡ 2 ^ 64 - 1 → want ≢ got
    → Steps a b old mid request.Commit (Err (stop.Damaged at want got))
commit_spent {a} {b} old mid page at want got world is only opened reads spent differ = record {
  only = only.reads.nothing.only;
  geometry = ap (λ (s : SessionState). s.geometry) only.same;
  down = ap (λ (s : SessionState). s.down) only.same;
  stops = differ;
  sound = λ before from now.
      let session = subst IsSession (sym from) is in
      let on = shown_on now page (subst (λ (s : SessionState). ReadsCatalog a s page) (sym from) reads) (shown_lends now session.sizes) in
      let left = last_left before.machine now.shows.rules (now.shows.shared.open_txn ∙ ap (λ (s : SessionState). s.opened) from ∙ opened) in
      absurd (omega (arith, left, ap (λ (t : Table). t.last) (shows_catalog now.shows).table, ap (λ (c : Catalog). c.last) on, spent));
  refused = tt;
  quiet = λ _. (only.reads, ap (λ (s : SessionState). s.log) only.same);
  stepped = λ before from now. tt;
  any_moment = λ before from now. quiet_moments request.Commit world only.reads before now;
  scans = ap (λ (s : SessionState). s.scans) only.same;
}

pub no_open_txn : {a : Outside} (s : SessionState) (r : Request) → IsSession s → s.opened ≡ false → ((m : Machine) (q : Pick) → is_some m.working ≡ false → refusal_of m r q ≡ Some refusal.NoTxn)
    → StepsQuietly a a s s r (Ok (reply.No refusal.NoTxn))
no_open_txn {a} s r is closed refuses =
    refused_at_once s r refusal.NoTxn is (λ before from now q. refuses before.machine q (now.shows.shared.open_txn ∙ ap (λ (s : SessionState). s.opened) from ∙ closed))

pub used_is : (s : SessionState) (g : Geometry) (area : Area) (n : ℕ) → s.units.geometry ≡ s.geometry → s.geometry ≡ g → n ≡ used_in g (used_at s.units) area → used_of s area ≡ n
used_is s g area n own same is =
    let left = free_left s.geometry (used_at s.units) area in
    let free = ap (λ (h : Geometry). free_count h (used_at s.units) area) own in
    let used = ap (λ (h : Geometry). used_in h (used_at s.units) area) same in
    omega (arith, left, free, used, is)
