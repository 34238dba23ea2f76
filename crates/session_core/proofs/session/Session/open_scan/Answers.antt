use Rattle.std.proofs.Common.{subst, sym, ◌<◌, ◌∙◌, List, length}
use Rattle.session_core.specs.Sessions.{IsSession, SessionState}
use Rattle.session_core.specs.Steps.{OnlyFrames}
use Rattle.session_core.specs.contracts.session.Session as session
use Rattle.session_core.proofs.Opening.{scan_session, scan_shown, scan_opened}
use Rattle.open_scans.specs.OpenScans.{OpenRow}
use Rattle.table_model.specs.Machines.{scans_most}
use Rattle.session_core.proofs.session.Session.open_scan.Goals as goal

pub invariant_of-self-2 : goal.invariant_of-self-2
invariant_of-self-2 g c =
    let s = session.the_view c.self-2.inside in
    let only : OnlyFrames (g.H.World.outside c.args.host.now) (g.H.World.outside c.scan_of.new.disk) c.args.self.now s =
    subst (OnlyFrames (g.H.World.outside c.args.host.now) (g.H.World.outside c.scan_of.new.disk) c.args.self.now) (sym c.self-2.view_is) c.scan_of.ensures.only in
    scan_session c.args.self.now s c.args.name.now c.args.version.now.found.root c.args.group c.in-Ok.scan c.push.new.self c.own_here.new.units only (record { is = c.in-Ok.ensures.scan }) c.own_here.ensures.counts c.own_here.ensures.counted
    c.in-Ok-push.ensures.ok c.self-2.invariant c.requires.root c.requires.group c.requires.few

pub returns-clause-shown : goal.returns-clause-shown
returns-clause-shown g c =
    let s = session.the_view c.self-2.inside in
    let only : OnlyFrames (g.H.World.outside c.args.host.now) (g.H.World.outside c.scan_of.new.disk) c.args.self.now s =
    subst (OnlyFrames (g.H.World.outside c.args.host.now) (g.H.World.outside c.scan_of.new.disk) c.args.self.now) (sym c.self-2.view_is) c.scan_of.ensures.only in
    scan_shown c.args.self.now s c.args.version.now c.args.name.now c.args.group c.in-Ok.scan c.push.new.self c.own_here.new.units (subst IsSession c.self.view_is c.self.invariant) only (record { is = c.in-Ok.ensures.scan })
    c.own_here.ensures.counts c.in-Ok-push.ensures.ok c.in-Ok.ensures.rows c.in-Ok.ensures.bytes

pub push-requires : goal.push-requires
push-requires g c = subst (λ (t : SessionState). length t.scans < scans_most) (sym (c.self-2.view_is ∙ c.scan_of.ensures.only.same)) c.requires.few

pub invariant_of-self : goal.invariant_of-self
invariant_of-self g c =
    let s = session.the_view c.self-2.inside in
    subst (λ (rows : List OpenRow). IsSession (record s { scans = rows })) (sym c.in-Err-push.ensures.err) c.self-2.invariant

pub returns-in-Err-push-clause-stays : goal.returns-in-Err-push-clause-stays
returns-in-Err-push-clause-stays g c =
    let s = session.the_view c.self-2.inside in
    let a = g.H.World.outside c.args.host.now in
    let b = g.H.World.outside c.scan_of.new.disk in
    subst (λ (rows : List OpenRow). OnlyFrames a b c.args.self.now (record s { scans = rows })) (sym c.in-Err-push.ensures.err)
    (subst (OnlyFrames a b c.args.self.now) (sym c.self-2.view_is) c.scan_of.ensures.only)

pub returns-clause-opened : goal.returns-clause-opened
returns-clause-opened g c =
    let s = session.the_view c.self-2.inside in
    let only : OnlyFrames (g.H.World.outside c.args.host.now) (g.H.World.outside c.scan_of.new.disk) c.args.self.now s =
    subst (OnlyFrames (g.H.World.outside c.args.host.now) (g.H.World.outside c.scan_of.new.disk) c.args.self.now) (sym c.self-2.view_is) c.scan_of.ensures.only in
    (c.in-Ok.scan.scan.small, scan_opened c.args.self.now s c.args.name.now c.args.version.now.found.root c.args.group c.in-Ok.scan c.push.new.self c.own_here.new.units only (record { is = c.in-Ok.ensures.scan }) c.own_here.ensures.counts c.in-Ok-push.ensures.ok)
