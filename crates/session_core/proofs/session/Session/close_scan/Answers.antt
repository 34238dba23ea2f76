use Rattle.std.proofs.Common.{◌≤◌, ◌<◌, List, length, subst, sym, ◌∙◌, ap}
use Rattle.ex_base.specs.Sizes.{volume_bytes}
use Rattle.open_scans.specs.OpenScans.{OpenRow}
use Rattle.session_core.specs.Finding.{IfShown, IsOutside}
use Rattle.session_core.specs.Opening.{ShowsThen, without_scan}
use Rattle.session_core.specs.Sessions.{IsSession, SessionState}
use Rattle.session_core.specs.contracts.session.Session as session
use Rattle.session_core.proofs.Closing.{close_session, close_shown, close_sound}
use Rattle.session_core.proofs.Releasing.{given_session, fits_session}
use Rattle.session_core.specs.Damage.{TellsDamage, no_version}
use Rattle.session_core.proofs.Damage.{giving_told, scan_held}
use Rattle.std.specs.List.{remove}
use Rattle.ex_base.specs.declared.names.Area.TheVariants.{Page}
use Rattle.volume_port.specs.GivingUp.{GivesTrees, is_logged}
use Rattle.session_core.specs.Counts.{free_in}
use Rattle.session_core.proofs.Finding.{stopped_so}
use Rattle.session_core.proofs.Sessions.{seen}
use Rattle.session_core.proofs.session.Session.close_scan.Goals as goal

pub invariant_of-self : goal.invariant_of-self
invariant_of-self g c =
    let s = session.the_view c.self.inside in
    let a = g.H.World.outside c.args.host.now in
    given_session s c.release_here.new.units c.release_here.new.groups c.self.invariant (subst (λ (t : SessionState). volume_bytes t.geometry ≤ a.size) (sym c.self.view_is) c.requires.room) c.release_here.ensures.gives

pub returns-in-Err-clause-sound : goal.returns-in-Err-clause-sound
returns-in-Err-clause-sound g c =
    let s = session.the_view c.self.inside in
    let a = g.H.World.outside c.args.host.now in
    subst (λ (t : SessionState). IfShown a t (λ before. IsOutside c.stopped.result)) c.self.view_is
    (close_sound s c.self.invariant c.args.index (subst (λ (t : SessionState). c.args.index < length t.scans) (sym c.self.view_is) c.requires.there) c.root_at-root.result c.root_at-root.ensures c.in-Err.fault c.stopped.result c.stopped.ensures c.in-Err.ensures.sound)

pub invariant_of-self-2 : goal.invariant_of-self-2
invariant_of-self-2 g c =
    let s = session.the_view c.self.inside in
    let a = g.H.World.outside c.args.host.now in
    let units = c.release_here.new.units in
    let groups = c.release_here.new.groups in
    subst (λ (rows : List OpenRow). IsSession (record s { units = units; groups = groups; scans = rows })) (sym c.remove.ensures)
    (close_session (record s { units = units; groups = groups }) c.args.index (given_session s units groups c.self.invariant (subst (λ (t : SessionState). volume_bytes t.geometry ≤ a.size) (sym c.self.view_is) c.requires.room) c.release_here.ensures.gives))

pub returns-clause-shown : goal.returns-clause-shown
returns-clause-shown g c =
    let s = session.the_view c.self.inside in
    let a = g.H.World.outside c.args.host.now in
    let b = g.H.World.outside c.release_here.new.disk in
    let units = c.release_here.new.units in
    let groups = c.release_here.new.groups in
    let new : SessionState = record s { groups = groups; units = units; scans = c.remove.new.self } in
    subst (λ (t : SessionState). IfShown a t (λ before. ShowsThen before b new (without_scan c.args.index new before.machine))) c.self.view_is
    (close_shown s c.self.invariant c.args.index (subst (λ (t : SessionState). c.args.index < length t.scans) (sym c.self.view_is) c.requires.there) c.root_at-root.result c.root_at-root.ensures units groups c.remove.new.self
    c.release_here.ensures.gives c.release_here.ensures.refs c.in_default.ensures.released c.remove.ensures (subst (λ (t : SessionState). volume_bytes t.geometry ≤ a.size) (sym c.self.view_is) c.requires.room))

pub returns-in-Err-clause-damage : goal.returns-in-Err-clause-damage
returns-in-Err-clause-damage g c =
    let s = session.the_view c.self.inside in
    let a = g.H.World.outside c.args.host.now in
    let b = g.H.World.outside c.release_here.new.disk in
    let there = subst (λ (t : SessionState). c.args.index < length t.scans) (sym c.self.view_is) c.requires.there in
    subst (λ (t : SessionState). TellsDamage a b t no_version c.stopped.result) c.self.view_is
    (giving_told a b s _ c.in-Err.fault c.stopped.result c.stopped.ensures c.release_here.ensures.gives.only.nothing.disk (scan_held s c.args.index there c.root_at-root.result c.root_at-root.ensures) c.in-Err.ensures.fault)

pub release_here-requires-clause-ready : goal.release_here-requires-clause-ready
release_here-requires-clause-ready g c =
    let s = session.the_view c.self.inside in
    let size = (g.H.World.outside c.args.host.now).size in
    fits_session s size c.self.invariant (subst (λ (t : SessionState). volume_bytes t.geometry ≤ size) (sym c.self.view_is) c.requires.room)

pub release_here-requires-clause-held : goal.release_here-requires-clause-held
release_here-requires-clause-held g c = c.self.invariant.pages.held_len

pub release_here-requires-clause-flags : goal.release_here-requires-clause-flags
release_here-requires-clause-flags g c = c.self.invariant.pages.kept_len

pub root_at-root-requires : goal.root_at-root-requires
root_at-root-requires g c = subst (λ (t : SessionState). c.args.index < length t.scans) (sym c.self.view_is) c.requires.there

pub remove-requires : goal.remove-requires
remove-requires g c = subst (λ (t : SessionState). c.args.index < length t.scans) (sym c.self.view_is) c.requires.there

pub returns-in-Err-clause-session : goal.returns-in-Err-clause-session
returns-in-Err-clause-session g c = seen c.self.view_is c.self.invariant

pub returns-clause-session : goal.returns-clause-session
returns-clause-session g c = seen c.self.view_is c.self.invariant

pub returns-in-Err-clause-gives : goal.returns-in-Err-clause-gives
returns-in-Err-clause-gives g c =
    let a = g.H.World.outside c.args.host.now in
    let b = g.H.World.outside c.release_here.new.disk in
    subst (λ (t : SessionState). GivesTrees (is_logged t.pages t.kept) t.geometry a b t.units c.release_here.new.units t.groups c.release_here.new.groups) c.self.view_is c.release_here.ensures.gives

pub returns-clause-gives : goal.returns-clause-gives
returns-clause-gives g c =
    let a = g.H.World.outside c.args.host.now in
    let b = g.H.World.outside c.release_here.new.disk in
    subst (λ (t : SessionState). GivesTrees (is_logged t.pages t.kept) t.geometry a b t.units c.release_here.new.units t.groups c.release_here.new.groups) c.self.view_is c.release_here.ensures.gives

pub returns-in-Err-clause-stays : goal.returns-in-Err-clause-stays
returns-in-Err-clause-stays g c = ap (λ (t : SessionState). record t { groups = c.release_here.new.groups; units = c.release_here.new.units }) c.self.view_is

pub returns-in-Err-clause-stops : goal.returns-in-Err-clause-stops
returns-in-Err-clause-stops g c = stopped_so (g.H.World.outside c.args.host.now) (g.H.World.outside c.release_here.new.disk) c.in-Err.fault c.stopped.result c.stopped.ensures c.in-Err.ensures.cause

pub returns-clause-closed : goal.returns-clause-closed
returns-clause-closed g c =
    let s = session.the_view c.self.inside in
    let units = c.release_here.new.units in
    let groups = c.release_here.new.groups in
    ap (λ (rows : List OpenRow). record s { groups = groups; units = units; scans = rows }) c.remove.ensures
    ∙ ap (λ (t : SessionState). record t { groups = groups; units = units; scans = remove t.scans c.args.index }) c.self.view_is

pub returns-clause-idle : goal.returns-clause-idle
returns-clause-idle g c same = c.in_default.ensures.quiet (same ∙ ap (λ (t : SessionState). free_in t Page) (sym c.self.view_is))
