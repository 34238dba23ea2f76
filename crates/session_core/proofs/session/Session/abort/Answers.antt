use Rattle.std.proofs.Common.{◌∙◌, ◌≤◌, false, List, Ok, Err, refl, sym, ap, subst}
use Rattle.ex_base.specs.declared.names.Area.TheVariants.{Page}
use Rattle.ex_base.specs.declared.names.Root.{Root}
use Rattle.table_model.specs.declared.reply.Reply.TheVariants as reply
use Rattle.volume_port.specs.GivingUp.{OwnRoots, IsGivingFault}
use Rattle.session_core.specs.Counts.{free_in}
use Rattle.ex_base.specs.Sizes.{volume_bytes}
use Rattle.table_model.specs.Requests as request
use Rattle.session_core.specs.Sessions.{SessionState}
use Rattle.session_core.specs.Steps.{Steps}
use Rattle.session_core.specs.contracts.session.Session as session
use Rattle.session_core.proofs.Aborting.{abort_done, abort_left, abort_stopped, aborted_as, none_freed}
use Rattle.session_core.proofs.Accepted.{no_open_txn}
use Rattle.session_core.proofs.Refusing.{closed_refused}
use Rattle.session_core.proofs.Releasing.{GaveUp, gave_up, given_session, fits_session}
use Rattle.session_core.proofs.Sessions.{after_abort, seen}
use Rattle.session_core.proofs.Stopping.{quietly}
use Rattle.session_core.specs.Damage.{TellsDamage, no_version, of_gained}
use Rattle.session_core.proofs.Damage.{giving_told}
use Rattle.ex_base.specs.Area.{area_end}
use Rattle.std.proofs.lemmas.Bool.{both_ways}
use Rattle.session_core.proofs.session.Session.abort.Goals as goal

pub returns-then-not-is_open-clause-steps : goal.returns-then-not-is_open-clause-steps
returns-then-not-is_open-clause-steps g c =
    let is = seen c.self.view_is c.self.invariant in
    quietly request.Abort _ (g.H.World.is_world c.args.host.now) is
    (no_open_txn c.args.self.now request.Abort is (ap (λ (s : SessionState). s.opened) (sym c.self.view_is) ∙ sym c.is_open.ensures ∙ c.if-not-is_open.true) (λ m q closed. closed_refused m _ closed))

pub returns-in-Err-clause-steps : goal.returns-in-Err-clause-steps
returns-in-Err-clause-steps g c =
    let s = session.the_view c.self.inside in
    let a = g.H.World.outside c.args.host.now in
    let b = g.H.World.outside c.release_roots.new.disk in
    subst (λ (t : SessionState). Steps a b t (record s { units = c.release_roots.new.units; groups = c.release_roots.new.groups }) request.Abort (Err c.stopped.result)) c.self.view_is
    (abort_stopped s (g.H.World.is_world c.args.host.now) c.self.invariant (subst (λ (t : SessionState). volume_bytes t.geometry ≤ a.size) (sym c.self.view_is) c.requires.room)
    (record s { units = c.release_roots.new.units; groups = c.release_roots.new.groups }) c.in-Err.fault c.stopped.result c.stopped.ensures c.release_roots.ensures.gives.only c.in-Err.ensures.cause
    (λ damage owns. c.in-Err.ensures.sound damage (subst (λ (roots : List Root). OwnRoots s.pages s.kept s.geometry a s.groups s.units roots) (sym c.deref.ensures.value) owns)) refl)

pub invariant_of-self : goal.invariant_of-self
invariant_of-self g c =
    let s = session.the_view c.self.inside in
    let a = g.H.World.outside c.args.host.now in
    let room = subst (λ (t : SessionState). volume_bytes t.geometry ≤ a.size) (sym c.self.view_is) c.requires.room in
    given_session s c.release_roots.new.units c.release_roots.new.groups c.self.invariant room c.release_roots.ensures.gives

pub invariant_of-self-2 : goal.invariant_of-self-2
invariant_of-self-2 g c =
    let s = session.the_view c.self.inside in
    let a = g.H.World.outside c.args.host.now in
    let room = subst (λ (t : SessionState). volume_bytes t.geometry ≤ a.size) (sym c.self.view_is) c.requires.room in
    after_abort (record s { units = c.release_roots.new.units; groups = c.release_roots.new.groups }) c.undo.new.self c.take_back.new.pages c.take_back.new.units c.clear.new.self.items c.clear-2.new.self.items c.clear-3.new.self.items c.unbind_marked.new.self
    (given_session s c.release_roots.new.units c.release_roots.new.groups c.self.invariant room c.release_roots.ensures.gives) c.undo.ensures c.take_back.ensures c.clear.ensures.items c.clear-2.ensures.items c.clear-3.ensures.items

pub returns-clause-steps : goal.returns-clause-steps
returns-clause-steps g c =
    let s = session.the_view c.self.inside in
    let a = g.H.World.outside c.args.host.now in
    let b = g.H.World.outside c.release_roots.new.disk in
    let given = c.release_roots.new.units in
    let groups = c.release_roots.new.groups in
    let gave : GaveUp a b s s.groups s.gained given groups = gave_up s c.deref.result.now s.gained given groups c.deref.ensures.value c.release_roots.ensures.gives c.release_roots.ensures.refs c.in_default.ensures.released in
    let room = subst (λ (t : SessionState). volume_bytes t.geometry ≤ a.size) (sym c.self.view_is) c.requires.room in
    let new : SessionState = record s { meta = c.undo.new.self; pages = c.take_back.new.pages; units = c.take_back.new.units; groups = groups; notes = c.clear.new.self.items; gained = c.clear-2.new.self.items; lost = c.clear-3.new.self.items; names = c.unbind_marked.new.self; opened = false; down = false } in
    subst (λ (t : SessionState). Steps a b t new request.Abort (Ok reply.Abort)) c.self.view_is
    (abort_done s (g.H.World.is_world c.args.host.now) c.self.invariant room new given groups c.take_back.new.pages c.take_back.new.units (sym c.is_open.ensures ∙ c.if-not-is_open.false) gave c.take_back.ensures
    (aborted_as s c.undo.new.self c.take_back.new.pages c.take_back.new.units groups c.clear.new.self.items c.clear-2.new.self.items c.clear-3.new.self.items c.unbind_marked.new.self c.undo.ensures c.clear.ensures.items c.clear-2.ensures.items c.clear-3.ensures.items c.unbind_marked.ensures))

pub returns-clause-exact : goal.returns-clause-exact
returns-clause-exact g c before from now opened =
    let s = session.the_view c.self.inside in
    let a = g.H.World.outside c.args.host.now in
    let b = g.H.World.outside c.release_roots.new.disk in
    let given = c.release_roots.new.units in
    let groups = c.release_roots.new.groups in
    let gave : GaveUp a b s s.groups s.gained given groups = gave_up s c.deref.result.now s.gained given groups c.deref.ensures.value c.release_roots.ensures.gives c.release_roots.ensures.refs c.in_default.ensures.released in
    let room = subst (λ (t : SessionState). volume_bytes t.geometry ≤ a.size) (sym c.self.view_is) c.requires.room in
    abort_left s (g.H.World.is_world c.args.host.now) c.self.invariant room given groups c.take_back.new.pages c.take_back.new.units (sym c.is_open.ensures ∙ c.if-not-is_open.false) gave c.take_back.ensures before (from ∙ sym c.self.view_is) now

pub returns-clause-idle : goal.returns-clause-idle
returns-clause-idle g c same =
    let s = session.the_view c.self.inside in
    let a = g.H.World.outside c.args.host.now in
    let b = g.H.World.outside c.release_roots.new.disk in
    let given = c.release_roots.new.units in
    let groups = c.release_roots.new.groups in
    let gave : GaveUp a b s s.groups s.gained given groups = gave_up s c.deref.result.now s.gained given groups c.deref.ensures.value c.release_roots.ensures.gives c.release_roots.ensures.refs c.in_default.ensures.released in
    c.in_default.ensures.quiet (none_freed c.take_back.new.units gave c.take_back.ensures.units (same ∙ ap (λ (t : SessionState). free_in t Page) (sym c.self.view_is)))

pub returns-in-Err-clause-damage : goal.returns-in-Err-clause-damage
returns-in-Err-clause-damage g c =
    let s = session.the_view c.self.inside in
    let a = g.H.World.outside c.args.host.now in
    let b = g.H.World.outside c.release_roots.new.disk in
    subst (λ (t : SessionState). TellsDamage a b t no_version c.stopped.result) c.self.view_is
    (giving_told a b s s.gained c.in-Err.fault c.stopped.result c.stopped.ensures c.release_roots.ensures.gives.only.nothing.disk (λ root has. of_gained has)
    (subst (λ (roots : List Root). IsGivingFault s.geometry a s.groups roots c.in-Err.fault) c.deref.ensures.value c.in-Err.ensures.fault))

pub release_roots-requires-clause-ready : goal.release_roots-requires-clause-ready
release_roots-requires-clause-ready g c =
    let s = session.the_view c.self.inside in
    let size = (g.H.World.outside c.args.host.now).size in
    fits_session s size c.self.invariant (subst (λ (t : SessionState). volume_bytes t.geometry ≤ size) (sym c.self.view_is) c.requires.room)

pub release_roots-requires-clause-held : goal.release_roots-requires-clause-held
release_roots-requires-clause-held g c = c.self.invariant.pages.held_len

pub release_roots-requires-clause-flags : goal.release_roots-requires-clause-flags
release_roots-requires-clause-flags g c = c.self.invariant.pages.kept_len

pub take_back-requires-clause-geometry : goal.take_back-requires-clause-geometry
take_back-requires-clause-geometry g c =
    let s = session.the_view c.self.inside in
    let a = g.H.World.outside c.args.host.now in
    let room = subst (λ (t : SessionState). volume_bytes t.geometry ≤ a.size) (sym c.self.view_is) c.requires.room in
    let is_given = given_session s c.release_roots.new.units c.release_roots.new.groups c.self.invariant room c.release_roots.ensures.gives in
    is_given.units.geometry ∙ sym c.self.invariant.meta

pub take_back-requires-clause-held : goal.take_back-requires-clause-held
take_back-requires-clause-held g c = c.self.invariant.pages.held_len ∙ ap area_end (sym c.self.invariant.meta)

pub take_back-requires-clause-flags : goal.take_back-requires-clause-flags
take_back-requires-clause-flags g c = c.self.invariant.pages.kept_len ∙ ap area_end (sym c.self.invariant.meta)

pub returns-then-not-is_open-clause-exact : goal.returns-then-not-is_open-clause-exact
returns-then-not-is_open-clause-exact g c before from now opened =
    (let closed = ap (λ (t : SessionState). t.opened) (sym c.self.view_is) ∙ sym c.is_open.ensures ∙ c.if-not-is_open.true in absurd (both_ways _ closed opened))
