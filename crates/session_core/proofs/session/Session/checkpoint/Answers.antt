use Rattle.disk_model.specs.Runs.{reads_refl}
use Rattle.std.proofs.Common.{◌∙◌, ap, sym, refl, ◌≡◌, ◌≤◌, All, subst}
use Rattle.table_model.specs.Requests as request
use Rattle.table_model.specs.declared.reply.Refusal.TheVariants as refusal
use Rattle.table_model.specs.declared.reply.Reply.TheVariants as reply
use Rattle.session_views.specs.declared.stop.Stop.TheVariants as stop
use Rattle.session_core.specs.contracts.session.Session as session
use Rattle.session_core.specs.Sessions.{SessionState}
use Rattle.session_core.proofs.Quiet.{refused_at_once}
use Rattle.session_core.proofs.Stopping.{quietly, disk_alone, no_error, refused_apart}
use Rattle.session_core.proofs.Refusing.{checkpoint_refused}
use Rattle.session_core.proofs.Sessions.{seen, if_error, after_checkpoint}
use Rattle.session_core.proofs.Writing.{checkpoint_failed, checkpoint_done}
use Rattle.session_core.proofs.WritingHome.{home_unwritten, home_written}
use Rattle.session_core.proofs.session.Session.checkpoint.Goals as goal
use Rattle.ex_base.specs.declared.geometry.Geometry.{Geometry}
use Rattle.ex_base.specs.Sizes.{volume_bytes}
use Rattle.buffer_groups.specs.Frames.{Frames}
use Rattle.ex_base.proofs.Results.{if_no_error}

pub returns-then-is_open-clause-steps : goal.returns-then-is_open-clause-steps
returns-then-is_open-clause-steps g c =
    quietly request.Checkpoint _ (g.H.World.is_world c.args.host.now) (seen c.self.view_is c.self.invariant)
    (refused_at_once c.args.self.now request.Checkpoint refusal.TxnOpen (seen c.self.view_is c.self.invariant)
    (λ before from now q. checkpoint_refused before q now.shows.shared.open_txn (ap (λ (s : SessionState). s.opened) (from ∙ sym c.self.view_is) ∙ sym c.is_open.ensures ∙ c.if-is_open.true)))

pub returns-then-is_err-clause-steps : goal.returns-then-is_err-clause-steps
returns-then-is_err-clause-steps g c =
    let done = c.checkpoint.ensures in
    checkpoint_failed (session.the_view c.self.inside) c.args.self.now _ c.checkpoint.new.log c.checkpoint.new.meta c.checkpoint.new.groups c.self.view_is
    (record { only = done.only; session = c.self.invariant; closed = (sym c.is_open.ensures ∙ c.if-is_open.false); moments = done.any_moment; working = done.working; lends = done.lends; sizes = done.sizes })
    (if_error c.checkpoint.result (sym c.if-is_err.ensures.value) done.cause) refl

pub returns-clause-steps : goal.returns-clause-steps
returns-clause-steps g c =
    let done = c.checkpoint.ensures in
    checkpoint_done (session.the_view c.self.inside) c.args.self.now _ c.checkpoint.new.log c.checkpoint.new.meta c.checkpoint.new.groups c.self.view_is
    (record { only = done.only; session = c.self.invariant; closed = (sym c.is_open.ensures ∙ c.if-is_open.false); moments = done.any_moment; working = done.working; lends = done.lends; sizes = done.sizes })
    (if_no_error c.checkpoint.result (sym c.if-is_err.ensures.value) done.done) refl

-- ---- where it writes

pub returns-then-is_open-clause-writes : goal.returns-then-is_open-clause-writes
returns-then-is_open-clause-writes g c = home_unwritten c.args.self.now (reads_refl (g.H.World.outside c.args.host.now))

pub returns-then-is_err-clause-writes : goal.returns-then-is_err-clause-writes
returns-then-is_err-clause-writes g c =
    home_written c.args.self.now (session.the_view c.self.inside).meta (reads_refl (g.H.World.outside c.args.host.now))
    (c.self.invariant.meta ∙ ap (λ (t : SessionState). t.geometry) c.self.view_is)
    (ap (λ (t : SessionState). t.meta.committed) c.self.view_is) c.checkpoint.ensures.writes

pub returns-clause-writes : goal.returns-clause-writes
returns-clause-writes g c =
    home_written c.args.self.now (session.the_view c.self.inside).meta (reads_refl (g.H.World.outside c.args.host.now))
    (c.self.invariant.meta ∙ ap (λ (t : SessionState). t.geometry) c.self.view_is)
    (ap (λ (t : SessionState). t.meta.committed) c.self.view_is) c.checkpoint.ensures.writes

-- ---- what else is asked and promised

pub checkpoint-requires-clause-room : goal.checkpoint-requires-clause-room
checkpoint-requires-clause-room g c =
    let size = (g.H.World.outside c.args.host.now).size in
    subst (λ (h : Geometry). volume_bytes h ≤ size) (sym c.self.invariant.meta) (subst (λ (t : SessionState). volume_bytes t.geometry ≤ size) (sym c.self.view_is) c.requires.room)

pub checkpoint-requires-clause-sizes : goal.checkpoint-requires-clause-sizes
checkpoint-requires-clause-sizes g c = subst (λ (h : Geometry). All (λ (f : Frames). f.page_size ≡ h.page_size) c.self.inside.volume.groups) (sym c.self.invariant.meta) c.self.invariant.sizes

pub invariant_of-self : goal.invariant_of-self
invariant_of-self g c =
    let done = c.checkpoint.ensures in
    after_checkpoint (session.the_view c.self.inside) c.checkpoint.new.log c.checkpoint.new.meta c.checkpoint.new.groups c.self.invariant
    (record { log_is = done.log_geometry; meta_is = done.same_geometry; working = done.working; sizes = done.sizes; kinds = done.kinds; logged = done.logged; behind = done.behind })

pub invariant_of-self-2 : goal.invariant_of-self-2
invariant_of-self-2 g c =
    let done = c.checkpoint.ensures in
    after_checkpoint (session.the_view c.self.inside) c.checkpoint.new.log c.checkpoint.new.meta c.checkpoint.new.groups c.self.invariant
    (record { log_is = done.log_geometry; meta_is = done.same_geometry; working = done.working; sizes = done.sizes; kinds = done.kinds; logged = done.logged; behind = done.behind })

pub returns-then-is_open-clause-none_counts : goal.returns-then-is_open-clause-none_counts
returns-then-is_open-clause-none_counts g c = λ told. absurd (refused_apart _ refusal.TxnOpen refl told)

pub returns-then-is_open-clause-takes_none : goal.returns-then-is_open-clause-takes_none
returns-then-is_open-clause-takes_none g c = λ told. no_error _ (reply.No refusal.TxnOpen) stop.Memory refl told

pub returns-then-is_err-clause-none_counts : goal.returns-then-is_err-clause-none_counts
returns-then-is_err-clause-none_counts g c = λ told. no_error _ reply.Checkpoint stop.Disk told refl

pub returns-then-is_err-clause-takes_none : goal.returns-then-is_err-clause-takes_none
returns-then-is_err-clause-takes_none g c = λ told. disk_alone _ refl told

pub returns-clause-none_counts : goal.returns-clause-none_counts
returns-clause-none_counts g c = λ told. if_no_error c.checkpoint.result (sym c.if-is_err.ensures.value) c.checkpoint.ensures.none_counts

pub returns-clause-takes_none : goal.returns-clause-takes_none
returns-clause-takes_none g c = λ told. no_error _ reply.Checkpoint stop.Memory refl told
