use Rattle.std.proofs.Common.{◌≡◌, ◌∙◌, All, ap, refl, sym, subst, ℕ, List, ◌≤◌, length, Err, arith}
use Rattle.std.specs.List.{AllByRecursion}
use Rattle.std.proofs.lemmas.Bool.{both_ways}
use Rattle.ex_base.specs.declared.geometry.Geometry.{Geometry}
use Rattle.ex_base.specs.declared.faults.Seen.{Seen}
use Rattle.ex_base.specs.declared.names.OpNote.{OpNote}
use Rattle.ex_base.specs.declared.names.Root.{Root}
use Rattle.ex_base.specs.Sizes.{volume_bytes}
use Rattle.ex_base.proofs.Results.{if_no_error}
use Rattle.disk_model.specs.Outside.{Outside, ReadsOnly}
use Rattle.disk_model.specs.Runs.{reads_refl, reads_trans}
use Rattle.buffer_groups.specs.Frames.{Frames}
use Rattle.op_log.specs.Records.{IsNote}
use Rattle.meta_pages.specs.Overlays.{Overlays}
use Rattle.page_alloc.specs.UnitSet.{refs_at}
use Rattle.commits.specs.Room.{IsLogged}
use Rattle.commits.specs.declared.keep.CommitFault.{CommitFault}
use Rattle.table_model.specs.Machines.{updates_most}
use Rattle.table_model.specs.Requests as request
use Rattle.volume_port.specs.GivingUp.{OwnRoots, IsGivingFault}
use Rattle.session_views.specs.declared.stop.Stop.TheVariants as stop
use Rattle.session_core.specs.contracts.session.Session as session
use Rattle.session_core.specs.Sessions.{IsSession, SessionState}
use Rattle.session_core.proofs.Accepted.{commit_spent, no_open_txn}
use Rattle.session_core.proofs.Committing.{Commits, numbered_pages}
use Rattle.session_core.proofs.CommitSteps.{GaveLost}
use Rattle.session_core.proofs.Quiet.{quiet_stop}
use Rattle.session_core.proofs.Refusing.{closed_refused}
use Rattle.session_core.proofs.Releasing.{gave_up, given_session, room_read, fits_session}
use Rattle.session_core.proofs.Sessions.{after_commit, if_error, ready, seen}
use Rattle.session_core.proofs.Stopping.{kinds_differ, quietly, no_error}
use Rattle.session_core.proofs.Tracking.{gone_put}
use Rattle.session_core.proofs.Writing.{WasKept, WasMade, closed_as, commit_done, commit_left, commit_logged, commit_stopped, commits_at, frames_at, gave_at, lost_stopped, memory_fault, moments_at, own_at, settled_at}
use Rattle.session_core.specs.Damage.{TellsDamage, no_version, of_lost}
use Rattle.session_core.proofs.Damage.{catalog_told, giving_told, later_damage, spent_told, uncommitted_told}
use Rattle.session_core.proofs.WritingHome.{home_unwritten, home_written}
use Rattle.ex_base.specs.Area.{area_end}
use Rattle.table_model.specs.declared.reply.Reply.TheVariants as reply
use Rattle.table_model.specs.declared.reply.Refusal.TheVariants as refusal
use Rattle.session_core.proofs.session.Session.commit.Goals as goal

pub returns-then-not-is_open-clause-steps : goal.returns-then-not-is_open-clause-steps
returns-then-not-is_open-clause-steps g c =
    quietly request.Commit _ (g.H.World.is_world c.args.host.now) (seen c.self.view_is c.self.invariant)
    (no_open_txn c.args.self.now request.Commit (seen c.self.view_is c.self.invariant) (ap (λ (s : SessionState). s.opened) (sym c.self.view_is) ∙ sym c.is_open.ensures ∙ c.if-not-is_open.true) (λ m q closed. closed_refused m _ closed))

pub returns-in-Err-clause-steps : goal.returns-in-Err-clause-steps
returns-in-Err-clause-steps g c =
    let only = c.catalog.ensures.frames in
    quietly request.Commit _ (g.H.World.is_world c.args.host.now) (seen c.self.view_is c.self.invariant)
    (quiet_stop request.Commit c.in-Err.stop only.reads (ap (λ (s : SessionState). s.geometry) only.same) (ap (λ (s : SessionState). s.log) only.same) (ap (λ (s : SessionState). s.down) only.same) c.in-Err.ensures.stops (ap (λ (s : SessionState). s.scans) only.same))

pub returns-in_default-clause-steps : goal.returns-in_default-clause-steps
returns-in_default-clause-steps g c =
    commit_spent c.args.self.now c.catalog.new.self c.in-Ok.page.items _ _ _ (g.H.World.is_world c.args.host.now) (seen c.self.view_is c.self.invariant) c.catalog.ensures.frames
    (ap (λ (t : SessionState). t.opened) (sym c.self.view_is) ∙ (sym c.is_open.ensures ∙ c.if-not-is_open.false)) (record { catalog = c.in-Ok.ensures.catalog; read = c.in-Ok.ensures.read })
    (c.number_next.ensures.none c.in_default.is) (λ same. absurd (kinds_differ _ _ refl refl (ap (λ (s : Seen). s.kind) same)))

pub invariant_of-self : goal.invariant_of-self
invariant_of-self g c =
    let s = c.args.self.now in
    let mid = c.catalog.new.self in
    let two = session.the_view c.self-2.inside in
    let only = c.catalog.ensures.frames in
    let given = c.release_roots.new.units in
    let groups = c.release_roots.new.groups in
    let is_given = given_session two given groups c.self-2.invariant (room_read s mid two only.same c.self-2.view_is only.reads c.requires.room) c.release_roots.ensures.gives in
    is_given

pub returns-in-Err-release_roots-clause-steps : goal.returns-in-Err-release_roots-clause-steps
returns-in-Err-release_roots-clause-steps g c =
    let s = c.args.self.now in
    let i = g.H.World.outside c.catalog.new.disk in
    let mid = c.catalog.new.self in
    let two = session.the_view c.self-2.inside in
    let only = c.catalog.ensures.frames in
    lost_stopped s _ mid.groups c.in-Err-release_roots.fault c.stopped.result c.stopped.ensures (g.H.World.is_world c.args.host.now) (seen c.self.view_is c.self.invariant) only.reads only.lends c.release_roots.ensures.gives.only
    c.in-Err-release_roots.ensures.cause
    (λ damage own. c.in-Err-release_roots.ensures.sound damage
    (subst (λ (roots : List Root). OwnRoots two.pages two.kept two.geometry i two.groups two.units roots) (sym c.deref.ensures.value) (own_at s mid two only.same c.self-2.view_is own)))
    (ap (λ (t : SessionState). t.geometry) (c.self-2.view_is ∙ only.same)) (ap (λ (t : SessionState). t.down) (c.self-2.view_is ∙ only.same)) (ap (λ (t : SessionState). t.scans) (c.self-2.view_is ∙ only.same))

pub returns-in-Err-release_roots-clause-unwritten : goal.returns-in-Err-release_roots-clause-unwritten
returns-in-Err-release_roots-clause-unwritten g c _ =
    let only = c.catalog.ensures.frames in
    (reads_trans only.reads c.release_roots.ensures.gives.only, ap (λ (t : SessionState). t.log) (c.self-2.view_is ∙ only.same))

pub invariant_of-self-then-is_err : goal.invariant_of-self-then-is_err
invariant_of-self-then-is_err g c =
    let s = c.args.self.now in
    let mid = c.catalog.new.self in
    let two = session.the_view c.self-2.inside in
    let only = c.catalog.ensures.frames in
    let given = c.release_roots.new.units in
    let groups = c.release_roots.new.groups in
    let is_given = given_session two given groups c.self-2.invariant (room_read s mid two only.same c.self-2.view_is only.reads c.requires.room) c.release_roots.ensures.gives in
    subst (λ (o : Overlays). IsSession (record two { units = given; groups = groups; meta = o })) (sym (if_error c.edit.result (sym c.if-is_err.ensures.value) c.edit.ensures.err)) is_given

pub returns-then-is_err-clause-steps : goal.returns-then-is_err-clause-steps
returns-then-is_err-clause-steps g c =
    let only = c.catalog.ensures.frames in
    quietly request.Commit _ (g.H.World.is_world c.args.host.now) (seen c.self.view_is c.self.invariant)
    (quiet_stop request.Commit stop.Memory (reads_trans only.reads c.release_roots.ensures.gives.only) (ap (λ (t : SessionState). t.geometry) (c.self-2.view_is ∙ only.same)) (ap (λ (t : SessionState). t.log) (c.self-2.view_is ∙ only.same)) (ap (λ (t : SessionState). t.down) (c.self-2.view_is ∙ only.same)) tt (ap (λ (t : SessionState). t.scans) (c.self-2.view_is ∙ only.same)))

pub returns-then-is_err-clause-unwritten : goal.returns-then-is_err-clause-unwritten
returns-then-is_err-clause-unwritten g c _ =
    let only = c.catalog.ensures.frames in
    (reads_trans only.reads c.release_roots.ensures.gives.only, ap (λ (t : SessionState). t.log) (c.self-2.view_is ∙ only.same))

pub commit-requires-clause-room : goal.commit-requires-clause-room
commit-requires-clause-room g c =
    let s = c.args.self.now in
    let i = g.H.World.outside c.catalog.new.disk in
    let mid = c.catalog.new.self in
    let two = session.the_view c.self-2.inside in
    let only = c.catalog.ensures.frames in
    let edited = (if_no_error c.edit.result (sym c.if-is_err.ensures.value) c.edit.ensures.ok ∙ ap (λ (l : List ℕ). numbered_pages two.meta l) c.deref-2.ensures.value) in
    let room = room_read s mid two only.same c.self-2.view_is only.reads c.requires.room in
    subst (λ (n : ℕ). volume_bytes c.edit.new.self.geometry ≤ n) (sym c.release_roots.ensures.gives.only.nothing.only.goes.size)
    (subst (λ (h : Geometry). volume_bytes h ≤ i.size) (sym (ap (λ (o : Overlays). o.geometry) edited ∙ c.self-2.invariant.meta)) room)

pub commit-requires-clause-sizes : goal.commit-requires-clause-sizes
commit-requires-clause-sizes g c =
    let s = c.args.self.now in
    let mid = c.catalog.new.self in
    let two = session.the_view c.self-2.inside in
    let only = c.catalog.ensures.frames in
    let given = c.release_roots.new.units in
    let groups = c.release_roots.new.groups in
    let is_given = given_session two given groups c.self-2.invariant (room_read s mid two only.same c.self-2.view_is only.reads c.requires.room) c.release_roots.ensures.gives in
    let edited = (if_no_error c.edit.result (sym c.if-is_err.ensures.value) c.edit.ensures.ok ∙ ap (λ (l : List ℕ). numbered_pages two.meta l) c.deref-2.ensures.value) in
    subst (λ (h : Geometry). All (λ (f : Frames). f.page_size ≡ h.page_size) groups) (sym (ap (λ (o : Overlays). o.geometry) edited ∙ c.self-2.invariant.meta)) is_given.sizes

pub commit-requires-clause-logged : goal.commit-requires-clause-logged
commit-requires-clause-logged g c =
    let s = c.args.self.now in
    let mid = c.catalog.new.self in
    let two = session.the_view c.self-2.inside in
    let only = c.catalog.ensures.frames in
    let given = c.release_roots.new.units in
    let groups = c.release_roots.new.groups in
    let is_given = given_session two given groups c.self-2.invariant (room_read s mid two only.same c.self-2.view_is only.reads c.requires.room) c.release_roots.ensures.gives in
    let image = c.number_next.new.page.items in
    let edited = (if_no_error c.edit.result (sym c.if-is_err.ensures.value) c.edit.ensures.ok ∙ ap (λ (l : List ℕ). numbered_pages two.meta l) c.deref-2.ensures.value) in
    let opened = ap (λ (t : SessionState). t.opened) (sym c.self.view_is) ∙ (sym c.is_open.ensures ∙ c.if-not-is_open.false) in
    let is_ready = ready (record two { units = given; groups = groups }) c.edit.new.self image is_given (ap (λ (t : SessionState). t.opened) (c.self-2.view_is ∙ only.same) ∙ opened) edited in
    is_ready.logged

pub commit-requires-clause-few_pages : goal.commit-requires-clause-few_pages
commit-requires-clause-few_pages g c =
    let s = c.args.self.now in
    let mid = c.catalog.new.self in
    let two = session.the_view c.self-2.inside in
    let only = c.catalog.ensures.frames in
    let given = c.release_roots.new.units in
    let groups = c.release_roots.new.groups in
    let is_given = given_session two given groups c.self-2.invariant (room_read s mid two only.same c.self-2.view_is only.reads c.requires.room) c.release_roots.ensures.gives in
    let image = c.number_next.new.page.items in
    let edited = (if_no_error c.edit.result (sym c.if-is_err.ensures.value) c.edit.ensures.ok ∙ ap (λ (l : List ℕ). numbered_pages two.meta l) c.deref-2.ensures.value) in
    let opened = ap (λ (t : SessionState). t.opened) (sym c.self.view_is) ∙ (sym c.is_open.ensures ∙ c.if-not-is_open.false) in
    let is_ready = ready (record two { units = given; groups = groups }) c.edit.new.self image is_given (ap (λ (t : SessionState). t.opened) (c.self-2.view_is ∙ only.same) ∙ opened) edited in
    is_ready.few_pages

pub commit-requires-clause-catalog : goal.commit-requires-clause-catalog
commit-requires-clause-catalog g c =
    let s = c.args.self.now in
    let mid = c.catalog.new.self in
    let two = session.the_view c.self-2.inside in
    let only = c.catalog.ensures.frames in
    let given = c.release_roots.new.units in
    let groups = c.release_roots.new.groups in
    let is_given = given_session two given groups c.self-2.invariant (room_read s mid two only.same c.self-2.view_is only.reads c.requires.room) c.release_roots.ensures.gives in
    let image = c.number_next.new.page.items in
    let edited = (if_no_error c.edit.result (sym c.if-is_err.ensures.value) c.edit.ensures.ok ∙ ap (λ (l : List ℕ). numbered_pages two.meta l) c.deref-2.ensures.value) in
    let opened = ap (λ (t : SessionState). t.opened) (sym c.self.view_is) ∙ (sym c.is_open.ensures ∙ c.if-not-is_open.false) in
    let is_ready = ready (record two { units = given; groups = groups }) c.edit.new.self image is_given (ap (λ (t : SessionState). t.opened) (c.self-2.view_is ∙ only.same) ∙ opened) edited in
    is_ready.catalog

pub invariant_of-self-in-Err-commit : goal.invariant_of-self-in-Err-commit
invariant_of-self-in-Err-commit g c =
    let s = c.args.self.now in
    let mid = c.catalog.new.self in
    let two = session.the_view c.self-2.inside in
    let only = c.catalog.ensures.frames in
    let given = c.release_roots.new.units in
    let groups = c.release_roots.new.groups in
    let is_given = given_session two given groups c.self-2.invariant (room_read s mid two only.same c.self-2.view_is only.reads c.requires.room) c.release_roots.ensures.gives in
    let image = c.number_next.new.page.items in
    let edited = (if_no_error c.edit.result (sym c.if-is_err.ensures.value) c.edit.ensures.ok ∙ ap (λ (l : List ℕ). numbered_pages two.meta l) c.deref-2.ensures.value) in
    after_commit (record two { units = given; groups = groups }) c.edit.new.self image c.commit.new.log c.undo.new.self c.commit.new.groups c.settle.new.kept c.settle.new.units c.self-2.inside.notes.items c.clear.new.self.items c.clear-2.new.self.items _ is_given edited
    (record {
      edit = ap (λ (o : Overlays). o.geometry) edited;
      log_is = c.commit.ensures.log_geometry;
      meta_is = ap (λ (o : Overlays). o.geometry) c.undo.ensures ∙ c.commit.ensures.same_geometry;
      sizes = c.commit.ensures.sizes;
      kinds = c.commit.ensures.kinds;
      logged = subst (λ (o : Overlays). IsLogged c.commit.new.log o) (sym c.undo.ensures) (record { images = c.commit.ensures.logged.images; none = c.commit.ensures.logged.none });
      behind = c.commit.ensures.behind;
      none = ap (λ (o : Overlays). o.working) c.undo.ensures;
      settled = c.settle.ensures;
    })
    (record { few = c.self-2.invariant.few_notes; each = c.self-2.invariant.notes; gained = c.clear.ensures.items; lost = c.clear-2.ensures.items })

pub returns-in-Err-commit-clause-steps : goal.returns-in-Err-commit-clause-steps
returns-in-Err-commit-clause-steps g c =
    let s = c.args.self.now in
    let a = g.H.World.outside c.args.host.now in
    let m = g.H.World.outside c.release_roots.new.disk in
    let mid = c.catalog.new.self in
    let two = session.the_view c.self-2.inside in
    let only = c.catalog.ensures.frames in
    let image = c.number_next.new.page.items in
    let edited = (if_no_error c.edit.result (sym c.if-is_err.ensures.value) c.edit.ensures.ok ∙ ap (λ (l : List ℕ). numbered_pages two.meta l) c.deref-2.ensures.value) in
    let opened = ap (λ (t : SessionState). t.opened) (sym c.self.view_is) ∙ (sym c.is_open.ensures ∙ c.if-not-is_open.false) in
    let b = g.H.World.outside c.commit.new.disk in
    let kept : WasKept a m b s c.in-Ok.page.items image c.in-Some.number = record {
      reads = reads_trans only.reads c.release_roots.ensures.gives.only;
      only = c.commit.ensures.only;
      session = seen c.self.view_is c.self.invariant;
      opened = opened;
      read = record { catalog = c.in-Ok.ensures.catalog; read = c.in-Ok.ensures.read };
      image_is = c.in-Some.ensures.numbered;
      number_is = c.in-Some.ensures.number;
      moments = moments_at m b s mid two c.edit.new.self image c.in-Some.number only.same c.self-2.view_is edited c.commit.ensures.any_moment;
    } in
    commit_stopped s _ c.in-Ok.page.items image c.in-Some.number c.in-Err-commit.fault c.uncommitted.result c.uncommitted.ensures (g.H.World.is_world c.args.host.now) kept
    (λ is. c.commit.ensures.disk (c.in-Err-commit.is ∙ ap (λ (f : CommitFault). Err f) is)) (ap (λ (t : SessionState). t.geometry) (c.self-2.view_is ∙ only.same)) (sym ((seen c.self.view_is c.self.invariant).up opened)) (ap (λ (t : SessionState). t.scans) (c.self-2.view_is ∙ only.same))

pub returns-in-Err-commit-clause-unwritten : goal.returns-in-Err-commit-clause-unwritten
returns-in-Err-commit-clause-unwritten g c is =
    let a = g.H.World.outside c.args.host.now in
    let only = c.catalog.ensures.frames in
    let told : c.uncommitted.result ≡ stop.Memory = cc (is) in
    let none = c.in-Err-commit.is ∙ ap (λ (f : CommitFault). Err f) (memory_fault c.in-Err-commit.fault (sym c.uncommitted.ensures ∙ told)) in (
      subst (λ (w : Outside). ReadsOnly a w) (sym (ap (λ h. g.H.World.outside h) (c.commit.ensures.memory none))) (reads_trans only.reads c.release_roots.ensures.gives.only),
      c.commit.ensures.memory_log none ∙ ap (λ (t : SessionState). t.log) (c.self-2.view_is ∙ only.same),
    )

pub invariant_of-self-2 : goal.invariant_of-self-2
invariant_of-self-2 g c =
    let s = c.args.self.now in
    let mid = c.catalog.new.self in
    let two = session.the_view c.self-2.inside in
    let only = c.catalog.ensures.frames in
    let given = c.release_roots.new.units in
    let groups = c.release_roots.new.groups in
    let is_given = given_session two given groups c.self-2.invariant (room_read s mid two only.same c.self-2.view_is only.reads c.requires.room) c.release_roots.ensures.gives in
    let image = c.number_next.new.page.items in
    let edited = (if_no_error c.edit.result (sym c.if-is_err.ensures.value) c.edit.ensures.ok ∙ ap (λ (l : List ℕ). numbered_pages two.meta l) c.deref-2.ensures.value) in
    after_commit (record two { units = given; groups = groups }) c.edit.new.self image c.commit.new.log c.commit.new.meta c.commit.new.groups c.settle.new.kept c.settle.new.units c.clear-3.new.self.items c.clear.new.self.items c.clear-2.new.self.items _ is_given edited
    (record {
      edit = ap (λ (o : Overlays). o.geometry) edited;
      log_is = c.commit.ensures.log_geometry;
      meta_is = c.commit.ensures.same_geometry;
      sizes = c.commit.ensures.sizes;
      kinds = c.commit.ensures.kinds;
      logged = c.commit.ensures.logged;
      behind = c.commit.ensures.behind;
      none = c.in_default-commit.ensures.working;
      settled = c.settle.ensures;
    })
    (record {
      few = subst (λ (l : List OpNote). length l ≤ updates_most) (sym c.clear-3.ensures.items) (omega arith);
      each = subst (λ (l : List OpNote). AllByRecursion IsNote l) (sym c.clear-3.ensures.items) tt;
      gained = c.clear.ensures.items;
      lost = c.clear-2.ensures.items;
    })

pub returns-clause-steps : goal.returns-clause-steps
returns-clause-steps g c =
    let s = c.args.self.now in
    let a = g.H.World.outside c.args.host.now in
    let i = g.H.World.outside c.catalog.new.disk in
    let m = g.H.World.outside c.release_roots.new.disk in
    let mid = c.catalog.new.self in
    let two = session.the_view c.self-2.inside in
    let only = c.catalog.ensures.frames in
    let given = c.release_roots.new.units in
    let groups = c.release_roots.new.groups in
    let is_given = given_session two given groups c.self-2.invariant (room_read s mid two only.same c.self-2.view_is only.reads c.requires.room) c.release_roots.ensures.gives in
    let image = c.number_next.new.page.items in
    let edited = (if_no_error c.edit.result (sym c.if-is_err.ensures.value) c.edit.ensures.ok ∙ ap (λ (l : List ℕ). numbered_pages two.meta l) c.deref-2.ensures.value) in
    let opened = ap (λ (t : SessionState). t.opened) (sym c.self.view_is) ∙ (sym c.is_open.ensures ∙ c.if-not-is_open.false) in
    let b = g.H.World.outside c.commit.new.disk in
    let kept : WasKept a m b s c.in-Ok.page.items image c.in-Some.number = record {
      reads = reads_trans only.reads c.release_roots.ensures.gives.only;
      only = c.commit.ensures.only;
      session = seen c.self.view_is c.self.invariant;
      opened = opened;
      read = record { catalog = c.in-Ok.ensures.catalog; read = c.in-Ok.ensures.read };
      image_is = c.in-Some.ensures.numbered;
      number_is = c.in-Some.ensures.number;
      moments = moments_at m b s mid two c.edit.new.self image c.in-Some.number only.same c.self-2.view_is edited c.commit.ensures.any_moment;
    } in
    let lost : GaveLost a i m s mid.groups given groups = record {
      reads = only.reads;
      lends = only.lends;
      gave = gave_at s mid two given groups only.same c.self-2.view_is (gave_up two c.deref.result.now two.lost given groups c.deref.ensures.value c.release_roots.ensures.gives c.release_roots.ensures.refs c.in_default-release_roots.ensures.released);
    } in
    let made : WasMade a i m b s image c.in-Some.number mid.groups groups c.commit.new.groups given c.settle.new.units c.commit.new.log c.commit.new.meta c.settle.new.kept = record {
      lost = lost;
      behind = is_given.behind;
      commits = commits_at m b s mid two c.edit.new.self image c.in-Some.number c.commit.new.log c.commit.new.meta only.same c.self-2.view_is edited
          (subst (λ (l : List OpNote). Commits m b two.log c.edit.new.self c.in-Some.number l c.commit.new.log c.commit.new.meta) c.deref-3.ensures.value c.in_default-commit.ensures.done);
      none = c.in_default-commit.ensures.working;
      frames = frames_at m b s mid two c.edit.new.self groups c.commit.new.groups only.same c.self-2.view_is (ap (λ (o : Overlays). o.geometry) edited) c.self-2.invariant.meta c.commit.ensures.lends c.commit.ensures.sizes;
      settled = settled_at s mid two c.edit.new.self image c.settle.new.kept given c.settle.new.units only.same c.self-2.view_is edited c.settle.ensures;
    } in
    commit_done s c.in-Ok.page.items image c.in-Some.number mid.groups groups c.commit.new.groups given c.settle.new.units c.commit.new.log c.commit.new.meta c.settle.new.kept (g.H.World.is_world c.args.host.now) kept made _
    (closed_as s mid two c.commit.new.log c.commit.new.meta c.commit.new.groups c.settle.new.kept c.settle.new.units c.clear-3.new.self.items c.clear.new.self.items c.clear-2.new.self.items c.unmark.new.self only.same c.self-2.view_is c.clear-3.ensures.items c.clear.ensures.items c.clear-2.ensures.items c.unmark.ensures)

pub returns-clause-freed : goal.returns-clause-freed
returns-clause-freed g c _ page gone left unnamed =
    let s = c.args.self.now in
    let mid = c.catalog.new.self in
    let two = session.the_view c.self-2.inside in
    let only = c.catalog.ensures.frames in
    let given = c.release_roots.new.units in
    let image = c.number_next.new.page.items in
    let edited = (if_no_error c.edit.result (sym c.if-is_err.ensures.value) c.edit.ensures.ok ∙ ap (λ (l : List ℕ). numbered_pages two.meta l) c.deref-2.ensures.value) in
    let is = seen c.self.view_is c.self.invariant in
    let settled = settled_at s mid two c.edit.new.self image c.settle.new.kept given c.settle.new.units only.same c.self-2.view_is edited c.settle.ensures in
    let fewer : refs_at given page ≤ refs_at s.units page = subst (λ (t : SessionState). refs_at given page ≤ refs_at t.units page) (c.self-2.view_is ∙ only.same) (c.release_roots.ensures.refs page) in
    settled.freed page (gone_put _ _ _ _ is.pages image page gone) left (omega (arith, fewer, unnamed))

pub returns-then-not-is_open-clause-logs : goal.returns-then-not-is_open-clause-logs
returns-then-not-is_open-clause-logs g c before from now opened = (let closed = ap (λ (t : SessionState). t.opened) (sym c.self.view_is) ∙ sym c.is_open.ensures ∙ c.if-not-is_open.true in absurd (both_ways _ closed opened))

pub returns-clause-logs : goal.returns-clause-logs
returns-clause-logs g c before from now opened_there =
    let s = c.args.self.now in
    let a = g.H.World.outside c.args.host.now in
    let i = g.H.World.outside c.catalog.new.disk in
    let m = g.H.World.outside c.release_roots.new.disk in
    let mid = c.catalog.new.self in
    let two = session.the_view c.self-2.inside in
    let only = c.catalog.ensures.frames in
    let given = c.release_roots.new.units in
    let groups = c.release_roots.new.groups in
    let is_given = given_session two given groups c.self-2.invariant (room_read s mid two only.same c.self-2.view_is only.reads c.requires.room) c.release_roots.ensures.gives in
    let image = c.number_next.new.page.items in
    let edited = (if_no_error c.edit.result (sym c.if-is_err.ensures.value) c.edit.ensures.ok ∙ ap (λ (l : List ℕ). numbered_pages two.meta l) c.deref-2.ensures.value) in
    let opened = ap (λ (t : SessionState). t.opened) (sym c.self.view_is) ∙ (sym c.is_open.ensures ∙ c.if-not-is_open.false) in
    let b = g.H.World.outside c.commit.new.disk in
    let kept : WasKept a m b s c.in-Ok.page.items image c.in-Some.number = record {
      reads = reads_trans only.reads c.release_roots.ensures.gives.only;
      only = c.commit.ensures.only;
      session = seen c.self.view_is c.self.invariant;
      opened = opened;
      read = record { catalog = c.in-Ok.ensures.catalog; read = c.in-Ok.ensures.read };
      image_is = c.in-Some.ensures.numbered;
      number_is = c.in-Some.ensures.number;
      moments = moments_at m b s mid two c.edit.new.self image c.in-Some.number only.same c.self-2.view_is edited c.commit.ensures.any_moment;
    } in
    let lost : GaveLost a i m s mid.groups given groups = record {
      reads = only.reads;
      lends = only.lends;
      gave = gave_at s mid two given groups only.same c.self-2.view_is (gave_up two c.deref.result.now two.lost given groups c.deref.ensures.value c.release_roots.ensures.gives c.release_roots.ensures.refs c.in_default-release_roots.ensures.released);
    } in
    let made : WasMade a i m b s image c.in-Some.number mid.groups groups c.commit.new.groups given c.settle.new.units c.commit.new.log c.commit.new.meta c.settle.new.kept = record {
      lost = lost;
      behind = is_given.behind;
      commits = commits_at m b s mid two c.edit.new.self image c.in-Some.number c.commit.new.log c.commit.new.meta only.same c.self-2.view_is edited
          (subst (λ (l : List OpNote). Commits m b two.log c.edit.new.self c.in-Some.number l c.commit.new.log c.commit.new.meta) c.deref-3.ensures.value c.in_default-commit.ensures.done);
      none = c.in_default-commit.ensures.working;
      frames = frames_at m b s mid two c.edit.new.self groups c.commit.new.groups only.same c.self-2.view_is (ap (λ (o : Overlays). o.geometry) edited) c.self-2.invariant.meta c.commit.ensures.lends c.commit.ensures.sizes;
      settled = settled_at s mid two c.edit.new.self image c.settle.new.kept given c.settle.new.units only.same c.self-2.view_is edited c.settle.ensures;
    } in
    commit_logged s c.in-Ok.page.items image c.in-Some.number mid.groups groups c.commit.new.groups given c.settle.new.units c.commit.new.log c.commit.new.meta c.settle.new.kept (g.H.World.is_world c.args.host.now) kept made before from now

pub returns-clause-exact : goal.returns-clause-exact
returns-clause-exact g c before from now opened_there =
    let s = c.args.self.now in
    let a = g.H.World.outside c.args.host.now in
    let i = g.H.World.outside c.catalog.new.disk in
    let m = g.H.World.outside c.release_roots.new.disk in
    let mid = c.catalog.new.self in
    let two = session.the_view c.self-2.inside in
    let only = c.catalog.ensures.frames in
    let given = c.release_roots.new.units in
    let groups = c.release_roots.new.groups in
    let is_given = given_session two given groups c.self-2.invariant (room_read s mid two only.same c.self-2.view_is only.reads c.requires.room) c.release_roots.ensures.gives in
    let image = c.number_next.new.page.items in
    let edited = (if_no_error c.edit.result (sym c.if-is_err.ensures.value) c.edit.ensures.ok ∙ ap (λ (l : List ℕ). numbered_pages two.meta l) c.deref-2.ensures.value) in
    let opened = ap (λ (t : SessionState). t.opened) (sym c.self.view_is) ∙ (sym c.is_open.ensures ∙ c.if-not-is_open.false) in
    let b = g.H.World.outside c.commit.new.disk in
    let kept : WasKept a m b s c.in-Ok.page.items image c.in-Some.number = record {
      reads = reads_trans only.reads c.release_roots.ensures.gives.only;
      only = c.commit.ensures.only;
      session = seen c.self.view_is c.self.invariant;
      opened = opened;
      read = record { catalog = c.in-Ok.ensures.catalog; read = c.in-Ok.ensures.read };
      image_is = c.in-Some.ensures.numbered;
      number_is = c.in-Some.ensures.number;
      moments = moments_at m b s mid two c.edit.new.self image c.in-Some.number only.same c.self-2.view_is edited c.commit.ensures.any_moment;
    } in
    let lost : GaveLost a i m s mid.groups given groups = record {
      reads = only.reads;
      lends = only.lends;
      gave = gave_at s mid two given groups only.same c.self-2.view_is (gave_up two c.deref.result.now two.lost given groups c.deref.ensures.value c.release_roots.ensures.gives c.release_roots.ensures.refs c.in_default-release_roots.ensures.released);
    } in
    let made : WasMade a i m b s image c.in-Some.number mid.groups groups c.commit.new.groups given c.settle.new.units c.commit.new.log c.commit.new.meta c.settle.new.kept = record {
      lost = lost;
      behind = is_given.behind;
      commits = commits_at m b s mid two c.edit.new.self image c.in-Some.number c.commit.new.log c.commit.new.meta only.same c.self-2.view_is edited
          (subst (λ (l : List OpNote). Commits m b two.log c.edit.new.self c.in-Some.number l c.commit.new.log c.commit.new.meta) c.deref-3.ensures.value c.in_default-commit.ensures.done);
      none = c.in_default-commit.ensures.working;
      frames = frames_at m b s mid two c.edit.new.self groups c.commit.new.groups only.same c.self-2.view_is (ap (λ (o : Overlays). o.geometry) edited) c.self-2.invariant.meta c.commit.ensures.lends c.commit.ensures.sizes;
      settled = settled_at s mid two c.edit.new.self image c.settle.new.kept given c.settle.new.units only.same c.self-2.view_is edited c.settle.ensures;
    } in
    commit_left s c.in-Ok.page.items image c.in-Some.number mid.groups groups c.commit.new.groups given c.settle.new.units c.commit.new.log c.commit.new.meta c.settle.new.kept (g.H.World.is_world c.args.host.now) kept made before from now

-- ---- what it tells of a damaged page

pub returns-in-Err-clause-damage : goal.returns-in-Err-clause-damage
returns-in-Err-clause-damage g c = catalog_told (g.H.World.outside c.args.host.now) (g.H.World.outside c.catalog.new.disk) c.args.self.now no_version c.in-Err.stop c.in-Err.ensures.stops

pub returns-in_default-clause-damage : goal.returns-in_default-clause-damage
returns-in_default-clause-damage g c =
    spent_told (g.H.World.outside c.args.host.now) (g.H.World.outside c.catalog.new.disk) c.args.self.now c.in-Ok.page.items c.in-Ok.ensures.read (c.number_next.ensures.none c.in_default.is)

pub returns-in-Err-release_roots-clause-damage : goal.returns-in-Err-release_roots-clause-damage
returns-in-Err-release_roots-clause-damage g c =
    let i = g.H.World.outside c.catalog.new.disk in
    let m = g.H.World.outside c.release_roots.new.disk in
    let two = session.the_view c.self-2.inside in
    later_damage c.args.self.now c.catalog.new.self c.catalog.ensures.frames m no_version c.stopped.result
    (subst (λ (t : SessionState). TellsDamage i m t no_version c.stopped.result) c.self-2.view_is
    (giving_told i m two two.lost c.in-Err-release_roots.fault c.stopped.result c.stopped.ensures c.release_roots.ensures.gives.only.nothing.disk (λ root has. of_lost has)
    (subst (λ (roots : List Root). IsGivingFault two.geometry i two.groups roots c.in-Err-release_roots.fault) c.deref.ensures.value c.in-Err-release_roots.ensures.fault)))

pub returns-in-Err-commit-clause-damage : goal.returns-in-Err-commit-clause-damage
returns-in-Err-commit-clause-damage g c = uncommitted_told (g.H.World.outside c.args.host.now) _ c.args.self.now no_version c.in-Err-commit.fault c.uncommitted.result c.uncommitted.ensures

-- ---- where it writes

pub returns-then-not-is_open-clause-writes : goal.returns-then-not-is_open-clause-writes
returns-then-not-is_open-clause-writes g c = home_unwritten c.args.self.now (reads_refl (g.H.World.outside c.args.host.now))

pub returns-in-Err-clause-writes : goal.returns-in-Err-clause-writes
returns-in-Err-clause-writes g c = home_unwritten c.args.self.now c.catalog.ensures.frames.reads

pub returns-in_default-clause-writes : goal.returns-in_default-clause-writes
returns-in_default-clause-writes g c = home_unwritten c.args.self.now c.catalog.ensures.frames.reads

pub returns-in-Err-release_roots-clause-writes : goal.returns-in-Err-release_roots-clause-writes
returns-in-Err-release_roots-clause-writes g c = home_unwritten c.args.self.now (reads_trans c.catalog.ensures.frames.reads c.release_roots.ensures.gives.only)

pub returns-then-is_err-clause-writes : goal.returns-then-is_err-clause-writes
returns-then-is_err-clause-writes g c = home_unwritten c.args.self.now (reads_trans c.catalog.ensures.frames.reads c.release_roots.ensures.gives.only)

pub returns-in-Err-commit-clause-writes : goal.returns-in-Err-commit-clause-writes
returns-in-Err-commit-clause-writes g c =
    let s = c.args.self.now in
    let two = session.the_view c.self-2.inside in
    let only = c.catalog.ensures.frames in
    let same = c.self-2.view_is ∙ only.same in
    let written = if_no_error c.edit.result (sym c.if-is_err.ensures.value) c.edit.ensures.ok in
    let edited = written ∙ ap (λ (l : List ℕ). numbered_pages two.meta l) c.deref-2.ensures.value in
    home_written s c.edit.new.self (reads_trans only.reads c.release_roots.ensures.gives.only)
    (ap (λ (o : Overlays). o.geometry) edited ∙ c.self-2.invariant.meta ∙ ap (λ (t : SessionState). t.geometry) same)
    (ap (λ (o : Overlays). o.committed) edited ∙ ap (λ (t : SessionState). t.meta.committed) same) c.commit.ensures.writes

pub returns-clause-writes : goal.returns-clause-writes
returns-clause-writes g c =
    let s = c.args.self.now in
    let two = session.the_view c.self-2.inside in
    let only = c.catalog.ensures.frames in
    let same = c.self-2.view_is ∙ only.same in
    let written = if_no_error c.edit.result (sym c.if-is_err.ensures.value) c.edit.ensures.ok in
    let edited = written ∙ ap (λ (l : List ℕ). numbered_pages two.meta l) c.deref-2.ensures.value in
    home_written s c.edit.new.self (reads_trans only.reads c.release_roots.ensures.gives.only)
    (ap (λ (o : Overlays). o.geometry) edited ∙ c.self-2.invariant.meta ∙ ap (λ (t : SessionState). t.geometry) same)
    (ap (λ (o : Overlays). o.committed) edited ∙ ap (λ (t : SessionState). t.meta.committed) same) c.commit.ensures.writes

-- ---- what else is asked and promised

pub release_roots-requires-clause-ready : goal.release_roots-requires-clause-ready
release_roots-requires-clause-ready g c =
    let s = c.args.self.now in
    let i = g.H.World.outside c.catalog.new.disk in
    let mid = c.catalog.new.self in
    let two = session.the_view c.self-2.inside in
    let only = c.catalog.ensures.frames in
    fits_session two i.size c.self-2.invariant (room_read s mid two only.same c.self-2.view_is only.reads c.requires.room)

pub release_roots-requires-clause-held : goal.release_roots-requires-clause-held
release_roots-requires-clause-held g c = c.self-2.invariant.pages.held_len

pub release_roots-requires-clause-flags : goal.release_roots-requires-clause-flags
release_roots-requires-clause-flags g c = c.self-2.invariant.pages.kept_len

pub edit-requires-clause-whole : goal.edit-requires-clause-whole
edit-requires-clause-whole g c =
    let only = c.catalog.ensures.frames in
    let sizes = ap (λ (h : Geometry). h.page_size) (c.self-2.invariant.meta ∙ ap (λ (t : SessionState). t.geometry) (c.self-2.view_is ∙ only.same)) in
    ap (λ (l : List ℕ). length l) c.deref-2.ensures.value ∙ c.number_next.ensures.len ∙ c.in-Ok.ensures.len ∙ sym sizes

pub settle-requires-clause-geometry : goal.settle-requires-clause-geometry
settle-requires-clause-geometry g c =
    let s = c.args.self.now in
    let mid = c.catalog.new.self in
    let only = c.catalog.ensures.frames in
    let two = session.the_view c.self-2.inside in
    let edited = (if_no_error c.edit.result (sym c.if-is_err.ensures.value) c.edit.ensures.ok ∙ ap (λ (l : List ℕ). numbered_pages two.meta l) c.deref-2.ensures.value) in
    let same = ap (λ (o : Overlays). o.geometry) edited ∙ c.self-2.invariant.meta in
    let is_given = given_session two c.release_roots.new.units c.release_roots.new.groups c.self-2.invariant (room_read s mid two only.same c.self-2.view_is only.reads c.requires.room) c.release_roots.ensures.gives in
    is_given.units.geometry ∙ sym same

pub settle-requires-clause-flags : goal.settle-requires-clause-flags
settle-requires-clause-flags g c =
    let two = session.the_view c.self-2.inside in
    let edited = (if_no_error c.edit.result (sym c.if-is_err.ensures.value) c.edit.ensures.ok ∙ ap (λ (l : List ℕ). numbered_pages two.meta l) c.deref-2.ensures.value) in
    let same = ap (λ (o : Overlays). o.geometry) edited ∙ c.self-2.invariant.meta in
    c.self-2.invariant.pages.kept_len ∙ ap area_end (sym same)

pub commit-requires-clause-geometry : goal.commit-requires-clause-geometry
commit-requires-clause-geometry g c =
    let two = session.the_view c.self-2.inside in
    let edited = (if_no_error c.edit.result (sym c.if-is_err.ensures.value) c.edit.ensures.ok ∙ ap (λ (l : List ℕ). numbered_pages two.meta l) c.deref-2.ensures.value) in
    let same = ap (λ (o : Overlays). o.geometry) edited ∙ c.self-2.invariant.meta in
    c.self-2.invariant.log ∙ sym same

pub commit-requires-clause-few_notes : goal.commit-requires-clause-few_notes
commit-requires-clause-few_notes g c = subst (λ (l : List OpNote). length l ≤ updates_most) (sym c.deref-3.ensures.value) c.self-2.invariant.few_notes

pub commit-requires-clause-notes : goal.commit-requires-clause-notes
commit-requires-clause-notes g c = subst (λ (l : List OpNote). AllByRecursion IsNote l) (sym c.deref-3.ensures.value) c.self-2.invariant.notes

pub returns-then-not-is_open-clause-unwritten : goal.returns-then-not-is_open-clause-unwritten
returns-then-not-is_open-clause-unwritten g c = λ told. no_error _ (reply.No refusal.NoTxn) stop.Memory refl told

pub returns-then-not-is_open-clause-exact : goal.returns-then-not-is_open-clause-exact
returns-then-not-is_open-clause-exact g c before from now opened =
    (let closed = ap (λ (t : SessionState). t.opened) (sym c.self.view_is) ∙ sym c.is_open.ensures ∙ c.if-not-is_open.true in absurd (both_ways _ closed opened))

pub returns-in-Err-clause-unwritten : goal.returns-in-Err-clause-unwritten
returns-in-Err-clause-unwritten g c _ = (let only = c.catalog.ensures.frames in (only.reads, ap (λ (t : SessionState). t.log) only.same))

pub returns-in_default-clause-unwritten : goal.returns-in_default-clause-unwritten
returns-in_default-clause-unwritten g c _ = (let only = c.catalog.ensures.frames in (only.reads, ap (λ (t : SessionState). t.log) only.same))

pub returns-clause-unwritten : goal.returns-clause-unwritten
returns-clause-unwritten g c = λ told. no_error _ (reply.Commit c.in-Some.number) stop.Memory refl told
