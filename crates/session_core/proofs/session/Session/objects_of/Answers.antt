use Rattle.std.proofs.Common.{refl, rules}
use Rattle.std.proofs.lemmas.Result.{IfErr-weaker, IfOk-weaker}
use Rattle.session_core.proofs.Listing.{file_on, lists_here, lists_sound}
use Rattle.session_core.specs.contracts.session.Session as session
use Rattle.session_core.proofs.Finding.{frames_left, frames_to, no_damage, only_reads, over_session, read_session, told_err, told_ok}
use Rattle.session_core.proofs.Damage.{damage_told}
use Rattle.session_core.specs.Damage.{no_version}
use Rattle.volume_edits.specs.Purposes.{anyhow}
use Rattle.volume_edits.specs.Damage.{as_it_is, of_walk}
use Rattle.session_core.proofs.Sessions.{main_read, seen}
use Rattle.versions.specs.Damage.{IsWalkedOut}
use Rattle.session_core.proofs.Ways.{way_passed}
use Rattle.session_core.proofs.session.Session.objects_of.Goals as goal

pub invariant_of-self : goal.invariant_of-self
invariant_of-self g c = read_session (session.the_view c.self.inside) _ (frames_left c.objects.ensures.kept.leads) c.self.invariant

pub returns-clause-only : goal.returns-clause-only
returns-clause-only g c =
    only_reads (session.the_view c.self.inside) c.args.self.now _ c.self.view_is (frames_to g.D.World.outside c.objects.new.volume.disk.now _ (search rules fits 200) (frames_left c.objects.ensures.kept.leads))

pub returns-clause-oids : goal.returns-clause-oids
returns-clause-oids g c =
    let w = g.D.World.outside c.args.disk.now in
    let over = over_session c.objects.ensures.kept w c.self.view_is c.self.invariant refl refl refl refl (λ h. h) in
    told_ok c.objects.result c.or_stop.result c.or_stop.ensures _ (IfOk-weaker c.objects.result _ _ (λ oids each. file_on _ _ over c.args.file_no _ each) (lists_here _ _ (λ oids. oids.items) c.args.file_no c.objects.result c.objects.ensures.oids c.objects.ensures.ordered))

pub returns-clause-sound : goal.returns-clause-sound
returns-clause-sound g c =
    let w = g.D.World.outside c.args.disk.now in
    let over = over_session c.objects.ensures.kept w c.self.view_is c.self.invariant refl refl refl refl (λ h. h) in
    told_err c.objects.result c.or_stop.result c.or_stop.ensures _ (IfErr-weaker c.objects.result _ _ (λ fault each before same now e there number. no_damage fault (file_on _ _ over c.args.file_no _ each before same now e there number))
    (lists_sound _ _ c.args.file_no c.objects.result c.objects.ensures.sound))

pub returns-clause-damage : goal.returns-clause-damage
returns-clause-damage g c =
    let w = g.D.World.outside c.args.disk.now in
    let over = over_session c.objects.ensures.kept w c.self.view_is c.self.invariant refl refl refl refl (λ h. h) in
    damage_told _ _ _ (anyhow no_version) c.objects.result c.or_stop.result c.or_stop.ensures over
    (IfErr-weaker c.objects.result _ _ (λ fault is told. as_it_is (of_walk c.args.file_no (is told))) c.objects.ensures.fault)

pub objects-requires : goal.objects-requires
objects-requires g c = main_read (session.the_view c.self.inside) c.args.self.now (g.D.World.outside c.args.disk.now).size c.self.view_is c.self.invariant c.requires.room

pub returns-clause-session : goal.returns-clause-session
returns-clause-session g c = seen c.self.view_is c.self.invariant

pub returns-clause-way : goal.returns-clause-way
returns-clause-way g c =
    let over = over_session c.objects.ensures.kept (g.D.World.outside c.args.disk.now) c.self.view_is c.self.invariant refl refl refl refl (λ h. h) in
    way_passed _ _ c.objects.result c.or_stop.result c.or_stop.ensures over (λ geometry image units. IsWalkedOut geometry image c.args.file_no) c.objects.ensures.walk
