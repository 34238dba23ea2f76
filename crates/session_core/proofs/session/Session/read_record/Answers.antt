use Rattle.std.proofs.Common.{ap, refl, rules, subst, sym, ◌∙◌, ◌≡◌, ◌+◌, ℕ, Bool, List, None, length}
use Rattle.std.proofs.lemmas.Result.{IfErr-weaker, on_ok_weaker}
use Rattle.ex_base.specs.declared.faults.PortFault.{PortFault}
use Rattle.ex_base.specs.declared.geometry.Geometry.{Geometry}
use Rattle.ex_base.specs.declared.names.Oid.{Oid}
use Rattle.object_records.specs.Record.{BodyOf, Content, Small}
use Rattle.object_records.specs.declared.Head.{Head}
use Rattle.trees.specs.Trees.{Units}
use Rattle.ex_base.specs.Ports.{IsDamage}
use Rattle.versions.specs.Damage.{IsStepFault, of_page, own, record_fault, unread}
use Rattle.file_bodies.specs.Files.{HasBody}
use Rattle.ex_base.specs.declared.names.Place.{Place}
use Rattle.ex_base.specs.declared.names.Index.{Index}
use Rattle.ex_base.specs.declared.ground.Ground as ground
use Rattle.versions.specs.Found.{root_of}
use Rattle.versions.specs.Versions.{place_of}
use Rattle.versions.proofs.Standing.{small_content}
use Rattle.session_core.specs.contracts.session.Session as session
use Rattle.session_core.proofs.Finding.{frames_left, frames_to, named_content, no_damage, only_reads, over_session, port_shows, read_session, reads_live, told_err, told_on_ok}
use Rattle.session_core.proofs.Damage.{both_errors, damage_told}
use Rattle.session_core.specs.Damage.{version_for}
use Rattle.volume_edits.specs.Purposes.{IsUnfit, ToReadSmall}
use Rattle.volume_edits.proofs.Damage.{body_has, told_unfit}
use Rattle.volume_edits.specs.Damage as damage
use Rattle.volume_edits.specs.Damage.{IsFaultOver, as_it_is}
use Rattle.session_core.proofs.Sessions.{main_read, seen}
use Rattle.session_core.proofs.session.Session.read_record.Goals as goal

-- what is told of the place of a version is told of the version
of_step : (g : Geometry) (held : ℕ → Bool) (image : ℕ → List ℕ) (units : Units) (oid : Oid) (end : ℕ) (place : Place) {Unlike : Type 0} (fault : PortFault) → place ≡ place_of oid → IsStepFault g image Unlike place fault
    → (IsDamage fault → IsUnfit g held image oid (ToReadSmall end)) → IsFaultOver g held image units (version_for oid (ToReadSmall end)) fault
of_step g held image units oid end place fault at (own never) unfit = damage.ports_own never
of_step g held image units oid end place fault at (of_page belongs) unfit = damage.of_page place.page.0 belongs
of_step g held image units oid end place fault at (unread p is) unfit =
    told_unfit g held image units (version_for oid (ToReadSmall end)) oid (ToReadSmall end) fault (refl, refl) (unfit (subst IsDamage (sym is) tt)) (is ∙ ap record_fault at)

-- the body of a version's place stands at the place that is called so
stands_at : {S : Type 0} (g : ground.Ghosts S) (s : S) (index : Index) (place : Place) (oid : Oid) (body : List ℕ) → place ≡ place_of oid → HasBody g s index (place_of oid) body → HasBody g s index place body
stands_at g s index place oid body at stands = subst (λ (p : Place). HasBody g s index p body) (sym at) stands

pub invariant_of-self : goal.invariant_of-self
invariant_of-self g c = read_session (session.the_view c.self.inside) _ (frames_left c.read_small.ensures.kept.leads) c.self.invariant

pub returns-clause-only : goal.returns-clause-only
returns-clause-only g c =
    only_reads (session.the_view c.self.inside) c.args.self.now _ c.self.view_is (frames_to g.D.World.outside c.read_small.new.volume.disk.now _ (search rules fits 200) (frames_left c.read_small.ensures.kept.leads))

pub returns-clause-bytes : goal.returns-clause-bytes
returns-clause-bytes g c =
    let over = over_session c.read_small.ensures.kept (g.D.World.outside c.args.disk.now) c.self.view_is c.self.invariant refl refl refl refl (λ h. h) in
    told_on_ok c.read_small.result c.or_stop.result c.or_stop.ensures _ (on_ok_weaker c.read_small.result (λ told before same now version live rooted.
    let shows = port_shows _ _ over before same now in
    let reads = reads_live _ _ shows c.args.version.now.oid version live in
    let is = small_content _ _ reads.content version.bytes (ap root_of (sym (named_content _ _ shows reads.index c.args.version.now.oid _ reads.stored)) ∙ sym rooted ∙ c.requires.small) reads.spells in
    (told shows.tells reads.index reads.stored.body reads.head version.bytes (stands_at _ _ reads.index _ c.args.version.now.oid reads.stored.body c.place_of-place.ensures reads.stored.stands)
    (subst (λ (content : Content). BodyOf reads.stored.body (record { head = reads.head; content = content })) is reads.stored.spelled)).1) c.read_small.ensures.bytes)

pub returns-clause-sound : goal.returns-clause-sound
returns-clause-sound g c =
    let over = over_session c.read_small.ensures.kept (g.D.World.outside c.args.disk.now) c.self.view_is c.self.invariant refl refl refl refl (λ h. h) in
    told_err c.read_small.result c.or_stop.result c.or_stop.ensures _ (IfErr-weaker c.read_small.result _ _ (λ fault sound before same now version live rooted inside. no_damage fault (λ damage.
    let shows = port_shows _ _ over before same now in
    let reads = reads_live _ _ shows c.args.version.now.oid version live in
    let is = small_content _ _ reads.content version.bytes (ap root_of (sym (named_content _ _ shows reads.index c.args.version.now.oid _ reads.stored)) ∙ sym rooted ∙ c.requires.small) reads.spells in
    sound damage shows.tells reads.index reads.stored.body reads.head version.bytes (stands_at _ _ reads.index _ c.args.version.now.oid reads.stored.body c.place_of-place.ensures reads.stored.stands)
    (subst (λ (content : Content). BodyOf reads.stored.body (record { head = reads.head; content = content })) is reads.stored.spelled) inside)) c.read_small.ensures.sound)

pub returns-clause-damage : goal.returns-clause-damage
returns-clause-damage g c =
    let over = over_session c.read_small.ensures.kept (g.D.World.outside c.args.disk.now) c.self.view_is c.self.invariant refl refl refl refl (λ h. h) in
    let oid = c.args.version.now.oid in
    let end = c.args.pos + length c.args.out.now in
    damage_told _ _ _ (version_for oid (ToReadSmall end)) c.read_small.result c.or_stop.result c.or_stop.ensures over
    (both_errors c.read_small.result _ _ _ c.read_small.ensures.fault c.read_small.ensures.sound (λ fault is sound told.
    as_it_is (of_step _ _ _ _ oid end _ fault c.place_of-place.ensures (is told) (λ some index body head bytes has inside.
    sound some told index body head bytes (stands_at _ _ index _ oid body c.place_of-place.ensures (body_has _ _ index (place_of oid) body _ has)) has.spelled inside))))

pub read_small-requires : goal.read_small-requires
read_small-requires g c = main_read (session.the_view c.self.inside) c.args.self.now (g.D.World.outside c.args.disk.now).size c.self.view_is c.self.invariant c.requires.room

pub returns-clause-session : goal.returns-clause-session
returns-clause-session g c = seen c.self.view_is c.self.invariant
