use Rattle.std.proofs.Common.{refl, rules}
use Rattle.std.proofs.lemmas.Result.{IfErr-weaker}
use Rattle.ex_base.specs.Ports.{IsDamage}
use Rattle.session_core.specs.Finding.{AreRelatives}
use Rattle.session_core.proofs.Relatives.{error_version, ok_version}
use Rattle.session_core.specs.contracts.session.Session as session
use Rattle.session_core.proofs.Finding.{frames_left, frames_to, no_damage, only_reads, over_session, port_shows, read_session, told_err, told_ok}
use Rattle.session_core.proofs.Damage.{damage_told}
use Rattle.session_core.specs.Damage.{version_for}
use Rattle.volume_edits.specs.Purposes.{ToRelate}
use Rattle.session_core.proofs.Sessions.{main_read, seen}
use Rattle.session_core.specs.Ways.{HasReadRelatives}
use Rattle.session_core.proofs.Ways.{way_passed}
use Rattle.session_core.proofs.session.Session.relatives.Goals as goal

pub invariant_of-self : goal.invariant_of-self
invariant_of-self g c = read_session (session.the_view c.self.inside) _ (frames_left c.relatives_in.ensures.kept.leads) c.self.invariant

pub returns-clause-only : goal.returns-clause-only
returns-clause-only g c =
    only_reads (session.the_view c.self.inside) c.args.self.now _ c.self.view_is (frames_to g.D.World.outside c.relatives_in.new.volume.disk.now _ (search rules fits 200) (frames_left c.relatives_in.ensures.kept.leads))

pub returns-clause-oids : goal.returns-clause-oids
returns-clause-oids g c =
    let w = g.D.World.outside c.args.disk.now in
    let over = over_session c.relatives_in.ensures.kept w c.self.view_is c.self.invariant refl refl refl refl (λ h. h) in
    told_ok c.relatives_in.result c.or_stop.result c.or_stop.ensures _ (ok_version w c.args.self.now c.args.oid.now c.relatives_in.result (λ before version oids. AreRelatives before.machine version c.args.relation oids.items)
    (λ before same now. c.relatives_in.ensures.oids before (port_shows _ _ over before same now)))

pub returns-clause-sound : goal.returns-clause-sound
returns-clause-sound g c =
    let w = g.D.World.outside c.args.disk.now in
    let over = over_session c.relatives_in.ensures.kept w c.self.view_is c.self.invariant refl refl refl refl (λ h. h) in
    told_err c.relatives_in.result c.or_stop.result c.or_stop.ensures _ (IfErr-weaker c.relatives_in.result _ _ (λ fault each before same now version live. no_damage fault (each before same now version live))
    (error_version w c.args.self.now c.args.oid.now c.relatives_in.result (λ before version fault. IsDamage fault → ⊥) (λ before same now. c.relatives_in.ensures.sound before (port_shows _ _ over before same now))))

pub returns-clause-damage : goal.returns-clause-damage
returns-clause-damage g c =
    let w = g.D.World.outside c.args.disk.now in
    let over = over_session c.relatives_in.ensures.kept w c.self.view_is c.self.invariant refl refl refl refl (λ h. h) in
    damage_told _ _ _ (version_for c.args.oid.now ToRelate) c.relatives_in.result c.or_stop.result c.or_stop.ensures over
    c.relatives_in.ensures.fault

pub relatives_in-requires : goal.relatives_in-requires
relatives_in-requires g c = main_read (session.the_view c.self.inside) c.args.self.now (g.D.World.outside c.args.disk.now).size c.self.view_is c.self.invariant c.requires.room

pub returns-clause-session : goal.returns-clause-session
returns-clause-session g c = seen c.self.view_is c.self.invariant

pub returns-clause-way : goal.returns-clause-way
returns-clause-way g c =
    let over = over_session c.relatives_in.ensures.kept (g.D.World.outside c.args.disk.now) c.self.view_is c.self.invariant refl refl refl refl (λ h. h) in
    way_passed _ _ c.relatives_in.result c.or_stop.result c.or_stop.ensures over (λ geometry image units. HasReadRelatives c.args.relation geometry image c.args.oid.now) c.relatives_in.ensures.way
