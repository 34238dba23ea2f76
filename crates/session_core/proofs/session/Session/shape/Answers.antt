use Rattle.std.proofs.Common.{refl, rules, subst, sym}
use Rattle.std.proofs.lemmas.Result.{IfErr-weaker}
use Rattle.session_core.specs.Finding.{TellsShape}
use Rattle.session_core.proofs.Shaping.{ok_root, shape_told, whole_read}
use Rattle.session_core.specs.contracts.session.Session as session
use Rattle.session_core.proofs.Finding.{frames_left, frames_to, no_damage, only_reads, over_session, port_shows, read_session, told_err, told_ok}
use Rattle.session_core.proofs.Damage.{tree_told}
use Rattle.session_core.proofs.Sessions.{main_read, seen}
use Rattle.trees.specs.Roots.{IsRootFor}
use Rattle.session_core.specs.Sessions.{SessionState}
use Rattle.session_core.specs.Ways.{IsSoundTree}
use Rattle.session_core.proofs.Ways.{way_passed}
use Rattle.session_core.proofs.session.Session.shape.Goals as goal

pub invariant_of-self : goal.invariant_of-self
invariant_of-self g c = read_session (session.the_view c.self.inside) _ (frames_left c.leaf_lengths.ensures.kept.leads) c.self.invariant

pub returns-clause-only : goal.returns-clause-only
returns-clause-only g c =
    only_reads (session.the_view c.self.inside) c.args.self.now _ c.self.view_is (frames_to g.D.World.outside c.leaf_lengths.new.blocks.disk.now _ (search rules fits 200) (frames_left c.leaf_lengths.ensures.kept.leads))

pub returns-clause-shape : goal.returns-clause-shape
returns-clause-shape g c =
    let w = g.D.World.outside c.args.disk.now in
    let over = over_session c.leaf_lengths.ensures.kept w c.self.view_is c.self.invariant refl refl refl refl (λ h. h) in
    told_ok c.leaf_lengths.result c.or_stop.result c.or_stop.ensures _ (ok_root w c.args.self.now c.args.root.now c.leaf_lengths.result (λ before oid leaves. TellsShape before oid leaves c.args.first.now c.leaf_lengths.new.first)
    (λ before same now oid version live rooted.
    shape_told _ _ (port_shows _ _ over before same now) oid c.args.root.now version live rooted c.leaf_lengths.result c.args.first.now c.leaf_lengths.new.first c.leaf_lengths.ensures.count c.leaf_lengths.ensures.lengths))

pub returns-clause-sound : goal.returns-clause-sound
returns-clause-sound g c =
    let w = g.D.World.outside c.args.disk.now in
    let over = over_session c.leaf_lengths.ensures.kept w c.self.view_is c.self.invariant refl refl refl refl (λ h. h) in
    told_err c.leaf_lengths.result c.or_stop.result c.or_stop.ensures _ (IfErr-weaker c.leaf_lengths.result _ _ (λ fault sound before same now oid version live rooted. no_damage fault (
    let shows = port_shows _ _ over before same now in
    sound shows.tells (whole_read _ _ shows oid c.args.root.now version live rooted))) c.leaf_lengths.ensures.sound)

pub returns-clause-damage : goal.returns-clause-damage
returns-clause-damage g c =
    let w = g.D.World.outside c.args.disk.now in
    let over = over_session c.leaf_lengths.ensures.kept w c.self.view_is c.self.invariant refl refl refl refl (λ h. h) in
    tree_told _ _ c.args.root.now c.leaf_lengths.result c.or_stop.result c.or_stop.ensures over c.leaf_lengths.ensures.fault

pub leaf_lengths-requires-clause-ready : goal.leaf_lengths-requires-clause-ready
leaf_lengths-requires-clause-ready g c = main_read (session.the_view c.self.inside) c.args.self.now (g.D.World.outside c.args.disk.now).size c.self.view_is c.self.invariant c.requires.room

pub leaf_lengths-requires-clause-root : goal.leaf_lengths-requires-clause-root
leaf_lengths-requires-clause-root g c = subst (λ (t : SessionState). IsRootFor t.geometry c.args.root.now) (sym c.self.view_is) c.requires.root

pub returns-clause-session : goal.returns-clause-session
returns-clause-session g c = seen c.self.view_is c.self.invariant

pub returns-clause-way : goal.returns-clause-way
returns-clause-way g c =
    let over = over_session c.leaf_lengths.ensures.kept (g.D.World.outside c.args.disk.now) c.self.view_is c.self.invariant refl refl refl refl (λ h. h) in
    way_passed _ _ c.leaf_lengths.result c.or_stop.result c.or_stop.ensures over (λ geometry image units. IsSoundTree geometry units c.args.root.now) c.leaf_lengths.ensures.way
