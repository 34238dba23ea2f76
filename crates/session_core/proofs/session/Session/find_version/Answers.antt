use Rattle.std.proofs.Common.{refl, rules, subst}
use Rattle.std.proofs.lemmas.Result.{IfErr-weaker}
use Rattle.versions.specs.Versions.{place_of}
use Rattle.volume_edits.proofs.Damage.{told_finding}
use Rattle.session_core.specs.Damage.{no_version}
use Rattle.volume_edits.specs.Purposes.{anyhow}
use Rattle.session_core.proofs.Damage.{damage_told, roots_found}
use Rattle.session_core.specs.Finding.{IsFound, IsOutside, stop_at}
use Rattle.session_core.specs.contracts.session.Session as session
use Rattle.session_core.proofs.Finding.{error_shown, frames_left, frames_to, looked, looks_sound, no_damage, ok_shown, only_reads, over_session, port_shows, read_session, told_err, told_ok, few_bytes}
use Rattle.volume_edits.specs.Damage.{as_it_is}
use Rattle.session_core.proofs.Sessions.{main_read, seen}
use Rattle.std.specs.Prelude.{IfOk, IfSome}
use Rattle.trees.specs.Roots.{IsRootFor}
use Rattle.session_core.specs.Sessions.{SessionState}
use Rattle.session_core.specs.Ways.{IsLookFor}
use Rattle.session_core.proofs.Ways.{looked_for, way_told}
use Rattle.session_core.proofs.session.Session.find_version.Goals as goal

pub invariant_of-self : goal.invariant_of-self
invariant_of-self g c = read_session (session.the_view c.self.inside) _ (frames_left c.find.ensures.kept.leads) c.self.invariant

pub returns-clause-only : goal.returns-clause-only
returns-clause-only g c =
    only_reads (session.the_view c.self.inside) c.args.self.now _ c.self.view_is (frames_to g.D.World.outside c.find.new.volume.disk.now _ (search rules fits 200) (frames_left c.find.ensures.kept.leads))

pub returns-clause-found : goal.returns-clause-found
returns-clause-found g c =
    let w = g.D.World.outside c.args.disk.now in
    let over = over_session c.find.ensures.kept w c.self.view_is c.self.invariant refl refl refl refl (λ h. h) in
    let find = c.find.ensures in
    told_ok c.find.result c.or_stop.result c.or_stop.ensures _ (ok_shown w c.args.self.now c.find.result (λ before. IsFound before c.args.oid.now)
    (λ before same now. looked _ _ (port_shows _ _ over before same now) c.args.oid.now c.find.result find.stands find.told find.size))

pub returns-clause-sound : goal.returns-clause-sound
returns-clause-sound g c =
    let w = g.D.World.outside c.args.disk.now in
    let over = over_session c.find.ensures.kept w c.self.view_is c.self.invariant refl refl refl refl (λ h. h) in
    told_err c.find.result c.or_stop.result c.or_stop.ensures _ (error_shown w c.args.self.now c.find.result (λ before fault. IsOutside (stop_at fault))
    (λ before same now. IfErr-weaker c.find.result _ _ no_damage (looks_sound _ _ (port_shows _ _ over before same now) (place_of c.args.oid.now) c.find.result c.find.ensures.sound)))

pub returns-clause-damage : goal.returns-clause-damage
returns-clause-damage g c =
    let w = g.D.World.outside c.args.disk.now in
    let over = over_session c.find.ensures.kept w c.self.view_is c.self.invariant refl refl refl refl (λ h. h) in
    damage_told _ _ _ (anyhow no_version) c.find.result c.or_stop.result c.or_stop.ensures over
    (IfErr-weaker c.find.result _ _ (λ fault is told. as_it_is (told_finding _ _ _ _ (anyhow no_version) c.args.oid.now fault (is told))) c.find.ensures.fault)

pub returns-clause-rooted : goal.returns-clause-rooted
returns-clause-rooted g c =
    let w = g.D.World.outside c.args.disk.now in
    let over = over_session c.find.ensures.kept w c.self.view_is c.self.invariant refl refl refl refl (λ h. h) in
    told_ok c.find.result c.or_stop.result c.or_stop.ensures _ (roots_found _ _ c.args.oid.now c.find.result over c.find.ensures.reads)

pub find-requires : goal.find-requires
find-requires g c = main_read (session.the_view c.self.inside) c.args.self.now (g.D.World.outside c.args.disk.now).size c.self.view_is c.self.invariant c.requires.room

pub returns-clause-session : goal.returns-clause-session
returns-clause-session g c = seen c.self.view_is c.self.invariant

pub returns-clause-limit : goal.returns-clause-limit
returns-clause-limit g c = told_ok c.find.result c.or_stop.result c.or_stop.ensures _ (few_bytes c.self.inside.volume.geometry c.find.result c.find.ensures.small c.find.ensures.root c.find.ensures.large)

pub returns-clause-root : goal.returns-clause-root
returns-clause-root g c =
    told_ok c.find.result c.or_stop.result c.or_stop.ensures _
    (subst (λ (t : SessionState). IfOk c.find.result (λ found. IfSome found (λ f. IfSome f.root (IsRootFor t.geometry)))) c.self.view_is c.find.ensures.root)

pub returns-clause-large : goal.returns-clause-large
returns-clause-large g c = told_ok c.find.result c.or_stop.result c.or_stop.ensures _ c.find.ensures.large

pub returns-clause-way : goal.returns-clause-way
returns-clause-way g c =
    let w = g.D.World.outside c.args.disk.now in
    let over = over_session c.find.ensures.kept w c.self.view_is c.self.invariant refl refl refl refl (λ h. h) in
    way_told _ _ c.find.result c.or_stop.result c.or_stop.ensures over (λ geometry image units found. IsLookFor geometry image c.args.oid.now found)
    (looked_for _ _ c.args.oid.now c.find.result over c.find.ensures.way c.find.ensures.reads)
