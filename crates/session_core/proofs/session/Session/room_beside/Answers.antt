use Rattle.std.proofs.Common.{◌≡◌, refl, rules}
use Rattle.std.proofs.lemmas.Result.{IfErr-weaker}
use Rattle.session_core.specs.Needs.{room_beside}
use Rattle.session_core.proofs.Beside.{error_live, room_is, room_sound}
use Rattle.session_core.specs.contracts.session.Session as session
use Rattle.session_core.proofs.Finding.{frames_left, frames_to, no_damage, ok_shown, only_reads, over_session, port_shows, read_session, told_err, told_ok}
use Rattle.session_core.proofs.Damage.{both_errors, damage_told, room_over}
use Rattle.session_core.specs.Damage.{version_for}
use Rattle.volume_edits.specs.Purposes.{ToMeasure}
use Rattle.volume_edits.specs.Damage.{as_it_is}
use Rattle.session_core.proofs.Sessions.{main_read, seen}
use Rattle.session_core.proofs.session.Session.room_beside.Goals as goal

pub invariant_of-self : goal.invariant_of-self
invariant_of-self g c = read_session (session.the_view c.self.inside) _ (frames_left c.room_at.ensures.kept.leads) c.self.invariant

pub returns-clause-only : goal.returns-clause-only
returns-clause-only g c =
    only_reads (session.the_view c.self.inside) c.args.self.now _ c.self.view_is (frames_to g.D.World.outside c.room_at.new.pages.disk.now _ (search rules fits 200) (frames_left c.room_at.ensures.kept.leads))

pub returns-clause-room : goal.returns-clause-room
returns-clause-room g c =
    let w = g.D.World.outside c.args.disk.now in
    let over = over_session c.room_at.ensures.kept w c.self.view_is c.self.invariant refl refl refl refl (λ h. h) in
    told_ok c.room_at.result c.or_stop.result c.or_stop.ensures _ (ok_shown w c.args.self.now c.room_at.result (λ before room. room ≡ room_beside before c.args.oid.now)
    (λ before same now. room_is _ _ (port_shows _ _ over before same now) c.args.oid.now c.room_at.result c.room_at.ensures.room c.room_at.ensures.area))

pub returns-clause-sound : goal.returns-clause-sound
returns-clause-sound g c =
    let w = g.D.World.outside c.args.disk.now in
    let over = over_session c.room_at.ensures.kept w c.self.view_is c.self.invariant refl refl refl refl (λ h. h) in
    told_err c.room_at.result c.or_stop.result c.or_stop.ensures _ (IfErr-weaker c.room_at.result _ _ (λ fault each before same now version live. no_damage fault (each before same now version live))
    (error_live w c.args.self.now c.args.oid.now c.room_at.result (λ before same now. room_sound _ _ (port_shows _ _ over before same now) c.args.oid.now c.room_at.result c.room_at.ensures.sound)))

pub returns-clause-damage : goal.returns-clause-damage
returns-clause-damage g c =
    let w = g.D.World.outside c.args.disk.now in
    let over = over_session c.room_at.ensures.kept w c.self.view_is c.self.invariant refl refl refl refl (λ h. h) in
    damage_told _ _ _ (version_for c.args.oid.now ToMeasure) c.room_at.result c.or_stop.result c.or_stop.ensures over
    (both_errors c.room_at.result _ _ _ c.room_at.ensures.fault c.room_at.ensures.sound (λ fault is isnt told. as_it_is (room_over _ _ _ _ c.args.oid.now fault is (λ some. isnt some told))))

pub room_at-requires : goal.room_at-requires
room_at-requires g c = main_read (session.the_view c.self.inside) c.args.self.now (g.D.World.outside c.args.disk.now).size c.self.view_is c.self.invariant c.requires.room

pub returns-clause-session : goal.returns-clause-session
returns-clause-session g c = seen c.self.view_is c.self.invariant
