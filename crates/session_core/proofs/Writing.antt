-- Commits and checkpoints as steps.
use Rattle.std.proofs.Common.{◌≡◌, ◌∙◌, ℕ, ◌+◌, Bool, true, false, List, [], All, Ok, Err, refl, sym, ap, subst, arith}
use Rattle.std.specs.Prelude.{◌↔◌, Contains, IsTrue}
use Rattle.ex_base.specs.declared.faults.PortFault.{PortFault}
use Rattle.ex_base.specs.declared.faults.PortFault.TheVariants as port
use Rattle.ex_base.specs.declared.names.Root.{Root}
use Rattle.ex_base.specs.Ports.{Cause, IsDamage}
use Rattle.ex_base.specs.declared.geometry.Geometry.{Geometry}
use Rattle.disk_model.specs.Outside.{Outside, IsWorld, ReadsOnly, DiskOnly, Leaves, Rose}
use Rattle.disk_model.specs.Runs.{disk_trans, reads_trans}
use Rattle.buffer_groups.specs.Frames.{Frames, Lends}
use Rattle.ex_base.specs.declared.names.OpNote.{OpNote}
use Rattle.table_model.specs.declared.machine.BoundName.{BoundName}
use Rattle.table_model.specs.Machines.{unmarked}
use Rattle.op_log.specs.State.{LogState}
use Rattle.meta_pages.specs.Overlays.{Overlays}
use Rattle.object_files.specs.Catalog.{Catalog, CatalogOf}
use Rattle.object_files.specs.Reads.{catalog_on}
use Rattle.commits.specs.Room.{AreBehindLog}
use Rattle.commits.specs.declared.keep.CommitFault.{CommitFault}
use Rattle.commits.specs.declared.keep.CommitFault.TheVariants as fault
use Rattle.session_views.specs.declared.stop.Stop.{Stop}
use Rattle.session_views.specs.declared.stop.Stop.TheVariants as stop
use Rattle.session_views.specs.View.{View, ShowsNow, Stepped, StandsDuring}
use Rattle.table_model.specs.Requests as request
use Rattle.table_model.specs.declared.reply.Reply.TheVariants as reply
use Rattle.session_core.specs.Sessions.{SessionState, IsSession, Settled}
use Rattle.page_alloc.specs.UnitSet.{UnitSet, used_at}
use Rattle.session_core.specs.Catalogs.{FramesLend}
use Rattle.session_core.specs.Commits.{LogsCommit, stop_of, working_reach}
use Rattle.session_core.specs.Meant.{meant}
use Rattle.session_core.specs.Finding.{IsOutside, LineStops, stop_at}
use Rattle.session_core.specs.Steps.{Steps}
use Rattle.session_core.proofs.Accepted.{ReadsCatalog, shown_on}
use Rattle.session_core.proofs.Quiet.{quiet_moments, shown_lends}
use Rattle.session_core.proofs.Finding.{stopped_outside, stopped_so}
use Rattle.session_core.proofs.Checkpointing.{GoesHome, HomeMoments, checkpoint_moments, checkpoint_steps, home_session}
use Rattle.session_core.proofs.Committing.{Moments, Commits, FramesAfter, numbered, numbered_pages, numbered_rows, committed_session, commit_moments, commit_logs}
use Rattle.session_core.proofs.CommitSteps.{GaveLost, commit_exact, commit_steps, own_lost, tells_read}
use Rattle.session_core.proofs.Releasing.{GaveUp}
use Rattle.volume_port.proofs.GivingUp.{gives_tells}
use Rattle.volume_port.specs.GivingUp.{OwnRoots}

-- ---- checkpoints

-- what a checkpoint did to a session
pub record WentHome (a b : Outside) (s : SessionState) (log : LogState) (meta : Overlays) (groups : List Frames) : Type 0 where
  pub only : DiskOnly a b
  pub session : IsSession s
  pub closed : s.opened ≡ false
  pub moments : HomeMoments a b s.log s.meta
  pub working : meta.working ≡ s.meta.working
  pub lends : IsTrue a.honest → AreBehindLog s.groups → All (Lends a.disk) s.groups → All (Lends b.disk) groups
  pub sizes : All (λ (f : Frames). f.page_size ≡ s.meta.geometry.page_size) groups

pub checkpoint_failed : {a b : Outside} (s old new : SessionState) (log : LogState) (meta : Overlays) (groups : List Frames) → s ≡ old → WentHome a b s log meta groups → Rose a.disk_faults b.disk_faults → home_session s log meta groups ≡ new
    → Steps a b old new request.Checkpoint (Err stop.Disk)
checkpoint_failed {a} {b} s old new log meta groups is went rose same = record {
  only = went.only;
  geometry = ap (λ (t : SessionState). t.geometry) (sym same) ∙ ap (λ (t : SessionState). t.geometry) is;
  down = ap (λ (t : SessionState). t.down) (sym same) ∙ ap (λ (t : SessionState). t.down) is;
  stops = rose;
  sound = λ before from now. tt;
  refused = tt;
  quiet = λ none. absurd (cc);
  stepped = λ before from now. tt;
  any_moment = λ before from now. checkpoint_moments now (subst (λ (t : SessionState). HomeMoments a b t.log t.meta) (is ∙ sym from) went.moments);
  scans = ap (λ (t : SessionState). t.scans) (sym same) ∙ ap (λ (t : SessionState). t.scans) is;
}

pub checkpoint_done : {a b : Outside} (s old new : SessionState) (log : LogState) (meta : Overlays) (groups : List Frames) → s ≡ old → WentHome a b s log meta groups → GoesHome a b s.log s.meta log meta → home_session s log meta groups ≡ new
    → Steps a b old new request.Checkpoint (Ok reply.Checkpoint)
checkpoint_done {a} {b} s old new log meta groups is went home same = record {
  only = went.only;
  geometry = ap (λ (t : SessionState). t.geometry) (sym same) ∙ ap (λ (t : SessionState). t.geometry) is;
  down = ap (λ (t : SessionState). t.down) (sym same) ∙ ap (λ (t : SessionState). t.down) is;
  stops = tt;
  sound = tt;
  refused = λ (why, told). absurd (cc);
  quiet = λ none. absurd (cc);
  stepped = λ before from now.
      let e = is ∙ sym from in
      let here = subst (λ (t : SessionState). WentHome a b t log meta groups) e went in
      let sizes = subst (λ (g : Geometry). All (λ (f : Frames). f.page_size ≡ g.page_size) groups) here.session.meta here.sizes in
      checkpoint_steps now here.session here.only here.closed log meta (subst (λ (t : SessionState). GoesHome a b t.log t.meta log meta) e home) here.working groups
      (record { sizes = sizes; lends = here.lends now.honest here.session.behind (shown_lends now here.session.sizes) }) new
      (ap (λ (t : SessionState). home_session t log meta groups) (sym e) ∙ same);
  any_moment = λ before from now. checkpoint_moments now (subst (λ (t : SessionState). HomeMoments a b t.log t.meta) (is ∙ sym from) went.moments);
  scans = ap (λ (t : SessionState). t.scans) (sym same) ∙ ap (λ (t : SessionState). t.scans) is;
}

-- ---- commits

-- what a commit did, from the catalog that was read to the page with its new number
pub record WasKept (a m b : Outside) (s : SessionState) (page image : List ℕ) (number : ℕ) : Type 0 where
  pub reads : ReadsOnly a m
  pub only : DiskOnly m b
  pub session : IsSession s
  pub opened : s.opened ≡ true
  pub read : ReadsCatalog a s page
  pub image_is : CatalogOf image (numbered (catalog_on page))
  pub number_is : number ≡ (catalog_on page).last + 1
  pub moments : Moments m b s.log (numbered_pages s.meta image) number

kept_moments : {a m b : Outside} {before : View SessionState} (page image : List ℕ) (number : ℕ) (now : ShowsNow meant a before) → IsWorld a → WasKept a m b before.session page image number → Leaves a b (StandsDuring meant before.machine request.Commit)
kept_moments {a} {m} {b} {before} page image number now world kept =
    let on = shown_on now page kept.read (shown_lends now kept.session.sizes) in
    let number_is = kept.number_is ∙ ap (λ (c : Catalog). c.last + 1) on in
    commit_moments now image kept.session world kept.reads kept.opened (subst (λ (c : Catalog). CatalogOf image (numbered c)) on kept.image_is)
    (subst (λ (n : ℕ). Moments m b before.session.log (numbered_pages before.session.meta image) n) number_is kept.moments)

later_rise : (a m b : Outside) → ReadsOnly a m → Rose m.disk_faults b.disk_faults → Rose a.disk_faults b.disk_faults
later_rise a m b reads rose = let before = reads.nothing.only.goes.disk_faults in omega (arith, before, rose)

outside_of : (why : CommitFault) → IsOutside (stop_of why)
outside_of fault.Memory = tt
outside_of fault.Disk = tt

pub commit_stopped : {a m b : Outside} (s new : SessionState) (page image : List ℕ) (number : ℕ) (why : CommitFault) (stopped : Stop) → stopped ≡ stop_of why → IsWorld a → WasKept a m b s page image number
    → (why ≡ fault.Disk → Rose m.disk_faults b.disk_faults) → new.geometry ≡ s.geometry → new.down ≡ s.down → new.scans ≡ s.scans → Steps a b s new request.Commit (Err stopped)
commit_stopped {a} {m} {b} s new page image number why stopped told world kept cause geometry down scans = record {
  only = disk_trans kept.reads.nothing.only kept.only;
  geometry = geometry;
  down = down;
  stops = subst (LineStops a b) (sym told) (caused why cause);
  sound = λ before from now. subst IsOutside (sym told) (outside_of why);
  refused = tt;
  quiet = λ none. absurd (cc);
  stepped = λ before from now. tt;
  any_moment = λ before from now. kept_moments page image number now world (subst (λ (t : SessionState). WasKept a m b t page image number) (sym from) kept);
  scans = scans;
}
  where
    caused : (why : CommitFault) → (why ≡ fault.Disk → Rose m.disk_faults b.disk_faults) → LineStops a b (stop_of why)
    caused fault.Memory cause = tt
    caused fault.Disk cause = later_rise a m b kept.reads (cause refl)

-- a fault after a reading is one of the whole
later_cause : (a i m : Outside) (fault : PortFault) → ReadsOnly a i → Cause i.disk_faults m.disk_faults fault → Cause a.disk_faults m.disk_faults fault
later_cause a i m port.Disk reads cause = later_rise a i m reads cause
later_cause a i m port.Memory reads cause = cause
later_cause a i m (port.Damaged page want got) reads cause = cause

-- the roots that the transaction lost could not be given up
pub lost_stopped : {a i m : Outside} (s new : SessionState) (was : List Frames) (why : PortFault) (stopped : Stop) → stopped ≡ stop_at why → IsWorld a → IsSession s → ReadsOnly a i → (FramesLend a s → All (Lends a.disk) was) → ReadsOnly i m
    → Cause i.disk_faults m.disk_faults why → (IsDamage why → OwnRoots s.pages s.kept s.geometry i was s.units s.lost → ⊥) → new.geometry ≡ s.geometry → new.down ≡ s.down → new.scans ≡ s.scans → Steps a m s new request.Commit (Err stopped)
lost_stopped {a} {i} {m} s new was why stopped told world is reads lends more cause never geometry down scans = record {
  only = (reads_trans reads more).nothing.only;
  geometry = geometry;
  down = down;
  stops = stopped_so a m why stopped told (later_cause a i m why reads cause);
  sound = stopped_outside why stopped told (λ before from now damage.
      let here = subst IsSession (sym from) is in
      let owned = own_lost now here was (tells_read now here was reads (subst (λ (t : SessionState). FramesLend a t → All (Lends a.disk) was) (sym from) lends)) in
      never damage (subst (λ (t : SessionState). OwnRoots t.pages t.kept t.geometry i was t.units t.lost) from owned));
  refused = tt;
  quiet = λ none. absurd (cc);
  stepped = λ before from now. tt;
  any_moment = λ before from now. quiet_moments request.Commit world (reads_trans reads more) before now;
  scans = scans;
}

pub memory_fault : (why : CommitFault) → stop_of why ≡ stop.Memory → why ≡ fault.Memory
memory_fault fault.Memory is = refl
memory_fault fault.Disk is = absurd (cc)

-- the frames of the session after it
pub record FramesKept (m b : Outside) (s : SessionState) (groups later : List Frames) : Type 0 where
  pub lends : IsTrue m.honest → AreBehindLog groups → All (Lends m.disk) groups → All (Lends b.disk) later
  pub sizes : All (λ (f : Frames). f.page_size ≡ s.geometry.page_size) later

-- what a commit did, from the catalog that was read on: trees were given up, and the record was written
pub record WasMade (a i m b : Outside) (s : SessionState) (image : List ℕ) (number : ℕ) (was groups later : List Frames) (given units : UnitSet) (log : LogState) (meta : Overlays) (flags : List Bool) : Type 0 where
  pub lost : GaveLost a i m s was given groups
  pub behind : AreBehindLog groups
  pub commits : Commits m b s.log (numbered_pages s.meta image) number s.notes log meta
  pub none : meta.working ≡ []
  pub frames : FramesKept m b s groups later
  pub settled : Settled (numbered_rows image s.meta.working) s.kept flags given units

module _ {a i m b : Outside} {before : View SessionState} (page image : List ℕ) (number : ℕ) (was groups later : List Frames) (given units : UnitSet) (log : LogState) (meta : Overlays) (flags : List Bool) (now : ShowsNow meant a before)
    (kept : WasKept a m b before.session page image number) (made : WasMade a i m b before.session image number was groups later given units log meta flags) where
  abbrev s : SessionState
  s = before.session

  on : catalog_on page ≡ now.shows.working.catalog
  on = shown_on now page kept.read (shown_lends now kept.session.sizes)

  number_is : number ≡ now.shows.working.catalog.last + 1
  number_is = kept.number_is ∙ ap (λ (c : Catalog). c.last + 1) on

  catalog : CatalogOf image (numbered now.shows.working.catalog)
  catalog = subst (λ (c : Catalog). CatalogOf image (numbered c)) on kept.image_is

  commits_now : Commits m b s.log (numbered_pages s.meta image) (now.shows.working.catalog.last + 1) s.notes log meta
  commits_now = subst (λ (n : ℕ). Commits m b s.log (numbered_pages s.meta image) n s.notes log meta) number_is made.commits

  frames_now : FramesAfter b s.geometry later
  frames_now =
      let told = gives_tells made.lost.gave.gives (tells_read now kept.session was made.lost.reads made.lost.lends).told in
      record { sizes = made.frames.sizes; lends = made.frames.lends told.0 made.behind told.2 }

  pub made_steps : (new : SessionState) → committed_session s log meta later flags units ≡ new → Stepped meant before request.Commit (reply.Commit number) new b
  made_steps new same =
      subst (λ (n : ℕ). Stepped meant before request.Commit (reply.Commit n) new b) (sym number_is)
      (commit_steps now image kept.session kept.only kept.opened catalog was given groups made.lost log meta commits_now made.none later frames_now flags units made.settled new same)

  pub made_exact : (unit : ℕ) → (used_at units unit ≡ true) ↔ Contains (working_reach now.shows.decoded before now.shows.working) unit
  made_exact = commit_exact now image kept.session kept.only kept.opened catalog was given groups made.lost log meta commits_now made.none later frames_now flags units made.settled

  pub made_logs : LogsCommit now.shows.decoded now.shows.working s b
  made_logs = commit_logs now image log meta kept.session kept.reads kept.opened catalog commits_now

module _ {a i m b : Outside} (old : SessionState) (page image : List ℕ) (number : ℕ) (was groups later : List Frames) (given units : UnitSet) (log : LogState) (meta : Overlays) (flags : List Bool) (world : IsWorld a)
    (kept : WasKept a m b old page image number) (made : WasMade a i m b old image number was groups later given units log meta flags) where
  pub commit_done : (new : SessionState) → committed_session old log meta later flags units ≡ new → Steps a b old new request.Commit (Ok (reply.Commit number))
  commit_done new same = record {
    only = disk_trans kept.reads.nothing.only kept.only;
    geometry = ap (λ (t : SessionState). t.geometry) (sym same);
    down = ap (λ (t : SessionState). t.down) (sym same) ∙ sym (kept.session.up kept.opened);
    stops = tt;
    sound = tt;
    refused = λ (why, told). absurd (cc);
    quiet = λ none. absurd (cc);
    stepped = λ before from now.
        made_steps page image number was groups later given units log meta flags now (subst (λ (t : SessionState). WasKept a m b t page image number) (sym from) kept)
        (subst (λ (t : SessionState). WasMade a i m b t image number was groups later given units log meta flags) (sym from) made) new (ap (λ (t : SessionState). committed_session t log meta later flags units) from ∙ same);
    any_moment = λ before from now. kept_moments page image number now world (subst (λ (t : SessionState). WasKept a m b t page image number) (sym from) kept);
    scans = ap (λ (t : SessionState). t.scans) (sym same);
  }

  pub commit_logged : (before : View SessionState) → before.session ≡ old → (now : ShowsNow meant a before) → LogsCommit now.shows.decoded now.shows.working old b
  commit_logged before from now =
      subst (λ (t : SessionState). LogsCommit now.shows.decoded now.shows.working t b) from
      (made_logs page image number was groups later given units log meta flags now (subst (λ (t : SessionState). WasKept a m b t page image number) (sym from) kept)
      (subst (λ (t : SessionState). WasMade a i m b t image number was groups later given units log meta flags) (sym from) made))

  pub commit_left : (before : View SessionState) → before.session ≡ old → (now : ShowsNow meant a before)
      → (unit : ℕ) → (used_at units unit ≡ true) ↔ Contains (working_reach now.shows.decoded before now.shows.working) unit
  commit_left before from now =
      made_exact page image number was groups later given units log meta flags now (subst (λ (t : SessionState). WasKept a m b t page image number) (sym from) kept)
      (subst (λ (t : SessionState). WasMade a i m b t image number was groups later given units log meta flags) (sym from) made)

-- ---- from what the code comes to

pub moments_at : (m b : Outside) (s mid two : SessionState) (edited : Overlays) (image : List ℕ) (number : ℕ) → mid ≡ record s { groups = mid.groups } → two ≡ mid → edited ≡ numbered_pages two.meta image → Moments m b two.log edited number
    → Moments m b s.log (numbered_pages s.meta image) number
moments_at m b s mid two edited image number only is same moments =
    subst (λ (t : SessionState). Moments m b t.log (numbered_pages t.meta image) number) (is ∙ only) (subst (λ (o : Overlays). Moments m b two.log o number) same moments)

pub commits_at : (m b : Outside) (s mid two : SessionState) (edited : Overlays) (image : List ℕ) (number : ℕ) (log : LogState) (meta : Overlays) → mid ≡ record s { groups = mid.groups } → two ≡ mid → edited ≡ numbered_pages two.meta image
    → Commits m b two.log edited number two.notes log meta → Commits m b s.log (numbered_pages s.meta image) number s.notes log meta
commits_at m b s mid two edited image number log meta only is same commits =
    subst (λ (t : SessionState). Commits m b t.log (numbered_pages t.meta image) number t.notes log meta) (is ∙ only) (subst (λ (o : Overlays). Commits m b two.log o number two.notes log meta) same commits)

pub frames_at : (m b : Outside) (s mid two : SessionState) (edited : Overlays) (groups later : List Frames) → mid ≡ record s { groups = mid.groups } → two ≡ mid → edited.geometry ≡ two.meta.geometry → two.meta.geometry ≡ two.geometry
    → (IsTrue m.honest → AreBehindLog groups → All (Lends m.disk) groups → All (Lends b.disk) later) → All (λ (f : Frames). f.page_size ≡ edited.geometry.page_size) later → FramesKept m b s groups later
frames_at m b s mid two edited groups later only is edit own lends sizes = record {
  lends = lends;
  sizes = subst (λ (g : Geometry). All (λ (f : Frames). f.page_size ≡ g.page_size) later) (edit ∙ own ∙ ap (λ (t : SessionState). t.geometry) (is ∙ only)) sizes;
}

closes : (two : SessionState) (log : LogState) (meta : Overlays) (later : List Frames) (flags : List Bool) (units : UnitSet) (notes : List OpNote) (gained lost : List Root) (names : List BoundName) → notes ≡ [] → gained ≡ [] → lost ≡ [] → names ≡ unmarked two.names
    → committed_session two log meta later flags units ≡ record two { log = log; meta = meta; kept = flags; units = units; groups = later; notes = notes; gained = gained; lost = lost; names = names; opened = false; down = false }
closes two log meta later flags units notes gained lost names none no_gained no_lost unmark = cc (none, no_gained, no_lost, unmark)

pub closed_as : (s mid two : SessionState) (log : LogState) (meta : Overlays) (later : List Frames) (flags : List Bool) (units : UnitSet) (notes : List OpNote) (gained lost : List Root) (names : List BoundName)
    → mid ≡ record s { groups = mid.groups } → two ≡ mid → notes ≡ [] → gained ≡ [] → lost ≡ [] → names ≡ unmarked two.names
    → committed_session s log meta later flags units ≡ record two { log = log; meta = meta; kept = flags; units = units; groups = later; notes = notes; gained = gained; lost = lost; names = names; opened = false; down = false }
closed_as s mid two log meta later flags units notes gained lost names only is none no_gained no_lost unmark =
    ap (λ (t : SessionState). committed_session t log meta later flags units) (sym (is ∙ only)) ∙ closes two log meta later flags units notes gained lost names none no_gained no_lost unmark

-- what was settled of the session before it
pub settled_at : (s mid two : SessionState) (edited : Overlays) (image : List ℕ) (flags : List Bool) (given units : UnitSet) → mid ≡ record s { groups = mid.groups } → two ≡ mid → edited ≡ numbered_pages two.meta image
    → Settled edited.working two.kept flags given units → Settled (numbered_rows image s.meta.working) s.kept flags given units
settled_at s mid two edited image flags given units only is same done =
    subst (λ (t : SessionState). Settled (numbered_rows image t.meta.working) t.kept flags given units) (is ∙ only)
    (subst (λ (o : Overlays). Settled o.working two.kept flags given units) same done)

-- what was given up of it
pub gave_at : {i m : Outside} (s mid two : SessionState) (given : UnitSet) (groups : List Frames) → mid ≡ record s { groups = mid.groups } → two ≡ mid → GaveUp i m two two.groups two.lost given groups → GaveUp i m s mid.groups s.lost given groups
gave_at {i} {m} s mid two given groups only is gave =
    let here = subst (λ (t : SessionState). GaveUp i m t t.groups t.lost given groups) (is ∙ only) gave in
    record { gives = here.gives; refs = here.refs; released = here.released }

pub own_at : {i : Outside} (s mid two : SessionState) → mid ≡ record s { groups = mid.groups } → two ≡ mid → OwnRoots s.pages s.kept s.geometry i mid.groups s.units s.lost → OwnRoots two.pages two.kept two.geometry i two.groups two.units two.lost
own_at {i} s mid two only is own = subst (λ (t : SessionState). OwnRoots t.pages t.kept t.geometry i t.groups t.units t.lost) (sym (is ∙ only)) own
