use Rattle.std.proofs.Common.{refl, rules}
use Rattle.std.proofs.lemmas.Result.{IfErr-weaker, IfOk-weaker}
use Rattle.session_core.proofs.Listing.{file_on}
use Rattle.session_core.specs.contracts.session.Session as session
use Rattle.session_core.proofs.Finding.{frames_left, frames_to, no_damage, only_reads, over_session, read_session, told_err, told_ok}
use Rattle.session_core.proofs.Damage.{damage_told}
use Rattle.session_core.specs.Damage.{no_version}
use Rattle.volume_edits.specs.Purposes.{anyhow}
use Rattle.session_core.proofs.Sessions.{main_read, seen}
use Rattle.session_core.proofs.session.Session.tally_of.Goals as goal

pub invariant_of-self : goal.invariant_of-self
invariant_of-self g c = read_session (session.the_view c.self.inside) _ (frames_left c.tally_in.ensures.kept.leads) c.self.invariant

pub returns-clause-only : goal.returns-clause-only
returns-clause-only g c =
    only_reads (session.the_view c.self.inside) c.args.self.now _ c.self.view_is (frames_to g.D.World.outside c.tally_in.new.volume.disk.now _ (search rules fits 200) (frames_left c.tally_in.ensures.kept.leads))

pub returns-clause-tally : goal.returns-clause-tally
returns-clause-tally g c =
    let w = g.D.World.outside c.args.disk.now in
    let over = over_session c.tally_in.ensures.kept w c.self.view_is c.self.invariant refl refl refl refl (λ h. h) in
    told_ok c.tally_in.result c.or_stop.result c.or_stop.ensures _ (IfOk-weaker c.tally_in.result _ _ (λ tally each. file_on _ _ over c.args.file_no _ each) c.tally_in.ensures.tally)

pub returns-clause-sound : goal.returns-clause-sound
returns-clause-sound g c =
    let w = g.D.World.outside c.args.disk.now in
    let over = over_session c.tally_in.ensures.kept w c.self.view_is c.self.invariant refl refl refl refl (λ h. h) in
    told_err c.tally_in.result c.or_stop.result c.or_stop.ensures _ (IfErr-weaker c.tally_in.result _ _ (λ fault each before same now e there number. no_damage fault (file_on _ _ over c.args.file_no _ each before same now e there number)) c.tally_in.ensures.sound)

pub returns-clause-damage : goal.returns-clause-damage
returns-clause-damage g c =
    let w = g.D.World.outside c.args.disk.now in
    let over = over_session c.tally_in.ensures.kept w c.self.view_is c.self.invariant refl refl refl refl (λ h. h) in
    damage_told _ _ _ (anyhow no_version) c.tally_in.result c.or_stop.result c.or_stop.ensures over
    c.tally_in.ensures.fault

pub tally_in-requires : goal.tally_in-requires
tally_in-requires g c = main_read (session.the_view c.self.inside) c.args.self.now (g.D.World.outside c.args.disk.now).size c.self.view_is c.self.invariant c.requires.room

pub returns-clause-session : goal.returns-clause-session
returns-clause-session g c = seen c.self.view_is c.self.invariant
