use Rattle.std.proofs.Common.{◌≡◌, ◌∙◌, ◌+◌, ◌++◌, ◌∷◌, ◌<◌, ◌≤◌, ◌^◌, [], refl, sym, ap, subst, arith, rules, length}
use Rattle.std.specs.Prelude.{Result, IfErr}
use Rattle.ex_base.specs.declared.faults.PortFault.{PortFault}
use Rattle.ex_base.specs.declared.names.Oid.{Oid}
use Rattle.ex_base.specs.declared.names.Area.TheVariants.{Page}
use Rattle.ex_base.specs.declared.names.OpNote.{OpNote}
use Rattle.ex_base.specs.Ports.{IsDamage}
use Rattle.ex_base.specs.Sizes.{volume_bytes}
use Rattle.meta_pages.specs.Overlays.{Overlays}
use Rattle.session_views.specs.declared.stop.Stop.{Stop}
use Rattle.table_model.specs.Machines.{shown, touched_most, updates_most}
use Rattle.volume_port.specs.declared.state.VolumeState.{VolumeState}
use Rattle.session_core.specs.Counts.{free_in}
use Rattle.session_core.specs.Finding.{IsOutside}
use Rattle.session_core.specs.Performed.{CanPerform, NamesOid, charge_of, asked_of}
use Rattle.session_core.specs.Sessions.{SessionState, IsSession, TakesLogged}
use Rattle.volume_edits.specs.TableUpdates.{updated}
use Rattle.session_core.specs.Updates.{HasRoomFor, HasRoots, HoldsTable, IfAsked, IfUpdated, WritesUnused, note_with}
use Rattle.session_core.specs.contracts.session.Session as session
use Rattle.session_core.specs.declared.updates.Done.{Done}
use Rattle.session_core.proofs.Finding.{no_damage}
use Rattle.session_core.proofs.Moved.{at_oid, given_up_at, has_roots, has_seen, moments_of, moved_session, moved_to, note_with_oid, noted_so, on_err, session_ready, when_done, none_answered}
use Rattle.session_core.proofs.session.Session.update_objects.Goals.{else-is_ok-via-then-is_ok+else-is_ok-2, else-is_ok-via-else-is_ok, in-Err, in-Ok}
use Rattle.session_core.specs.Damage.{IsUpdateFault, TellsFor}
use Rattle.page_alloc.specs.UnitSet.{used_at}
use Rattle.session_core.proofs.UpdateDamage.{update_told}
use Rattle.ex_base.specs.declared.geometry.Geometry.{Geometry}
use Rattle.session_core.specs.Contents.{Shaped, pages_on, pages_over}
use Rattle.session_core.proofs.session.Session.update_objects.Goals as goal

pub update_volume-done-requires-clause-ready : goal.update_volume-done-requires-clause-ready
update_volume-done-requires-clause-ready g c =
    let size = (g.H.World.outside c.args.host.now).size in
    session_ready (session.the_view c.self.inside) size c.self.invariant (subst (λ (t : SessionState). volume_bytes t.geometry ≤ size) (sym c.self.view_is) c.requires.room)

pub update_volume-done-requires-clause-can : goal.update_volume-done-requires-clause-can
update_volume-done-requires-clause-can g c = subst (λ (t : SessionState). CanPerform c.args.update.now (free_in t Page)) (sym c.self.view_is) c.requires.can

pub invariant_of-self : goal.invariant_of-self
invariant_of-self g c =
    let s = session.the_view c.self.inside in
    let done = c.update_volume-done.new in
    let p = done.volume in
    let moved = c.update_volume-done.ensures.moved in
    let ok = sym c.is_ok.ensures.value ∙ c.if-is_ok.true in
    let touched : length p.meta.working ≤ length s.meta.working + charge_of c.args.update.now = when_done c.update_volume-done.result ok c.update_volume-done.ensures.touched in
    let charged = subst (λ (t : SessionState). length t.meta.working + charge_of c.args.update.now ≤ touched_most) (sym c.self.view_is) c.requires.touched in
    let rows = when_done c.update_volume-done.result ok c.update_volume-done.ensures.rows in
    let pushed : c.push.new.self.items ≡ s.notes ++ c.noted-noted.result ∷ [] = search rules in
    let same = noted_so c.args.note.now c.noted-noted.result c.update_volume-done.result (sym c.is_ok.ensures.value ∙ c.if-is_ok.true) c.noted-noted.ensures in
    let page : c.noted-noted.result.oid.page.0 < 2 ^ 32 = search rules in
    let slot : c.noted-noted.result.oid.slot < 2 ^ 16 = search rules in
    let unique : c.noted-noted.result.oid.unique < 2 ^ 64 = search rules in
    let whole = note_with_oid c.args.note.now c.noted-noted.result same c.requires.note page slot unique in
    let few : length s.notes < updates_most = subst (λ (t : SessionState). length t.notes < updates_most) (sym c.self.view_is) c.requires.updates in
    subst (λ ns. IsSession (record (moved_to s p) { notes = ns; gained = done.gained.items; lost = done.lost.items })) (sym pushed)
    (moved_session s p c.self.invariant moved done.gained.items done.lost.items c.update_volume-done.ensures.few_gained c.update_volume-done.ensures.few_lost c.noted-noted.result whole few (omega (arith, touched, charged)) rows.working_rising
    (ap (λ (t : SessionState). t.opened) c.self.view_is ∙ c.requires.opened))

pub returns-then-is_ok-2-clause-named : goal.returns-then-is_ok-2-clause-named
returns-then-is_ok-2-clause-named g c = at_oid (NamesOid c.args.update.now) c.args.note.now c.noted-noted.result c.update_volume-done.result (sym c.is_ok.ensures.value ∙ c.if-is_ok.true) c.noted-noted.ensures c.update_volume-done.ensures.named

pub returns-then-is_ok-2-clause-holds : goal.returns-then-is_ok-2-clause-holds
returns-then-is_ok-2-clause-holds g c = λ before same now u is asked.
    let s = session.the_view c.self.inside in
    let done = c.update_volume-done.new in
    let p = done.volume in
    let outside = g.H.World.outside in
    at_oid (λ (oid : Oid). IfAsked (outside c.args.host.now) c.self.inside.volume c.args.update.now (λ before u. HasRoots before.session s.gained s.lost → HoldsTable before (outside done.disk) p done.gained.items done.lost.items (updated u oid (shown before.machine))))
    c.args.note.now c.noted-noted.result c.update_volume-done.result (sym c.is_ok.ensures.value ∙ c.if-is_ok.true) c.noted-noted.ensures c.update_volume-done.ensures.updated
    before (has_seen s c.args.self.now before c.self.view_is same c.self.invariant) now u is asked (has_roots s before (same ∙ sym c.self.view_is))

pub returns-then-is_ok-2-clause-touched : goal.returns-then-is_ok-2-clause-touched
returns-then-is_ok-2-clause-touched g c =
    subst (λ (t : SessionState). length c.update_volume-done.new.volume.meta.working ≤ length t.meta.working + charge_of c.args.update.now) c.self.view_is
    (when_done c.update_volume-done.result (sym c.is_ok.ensures.value ∙ c.if-is_ok.true) c.update_volume-done.ensures.touched)

pub returns-then-is_ok-2-clause-kept : goal.returns-then-is_ok-2-clause-kept
returns-then-is_ok-2-clause-kept g c = λ before same now u is asked.
    when_done c.update_volume-done.result (sym c.is_ok.ensures.value ∙ c.if-is_ok.true) c.update_volume-done.ensures.kept before (has_seen (session.the_view c.self.inside) c.args.self.now before c.self.view_is same c.self.invariant) now u is asked

pub returns-then-is_ok-2-clause-noted : goal.returns-then-is_ok-2-clause-noted
returns-then-is_ok-2-clause-noted g c =
    let s = session.the_view c.self.inside in
    let done = c.update_volume-done.new in
    let p = done.volume in
    let moved = c.update_volume-done.ensures.moved in
    let pushed : c.push.new.self.items ≡ s.notes ++ c.noted-noted.result ∷ [] = search rules in
    let same = noted_so c.args.note.now c.noted-noted.result c.update_volume-done.result (sym c.is_ok.ensures.value ∙ c.if-is_ok.true) c.noted-noted.ensures in
    record {
      is = invariant_of-self g c;
      same =
          ap (λ ns. record (moved_to s p) { notes = ns; gained = done.gained.items; lost = done.lost.items }) pushed
          ∙ ap (λ (n : OpNote). record (moved_to s p) { notes = s.notes ++ n ∷ []; gained = done.gained.items; lost = done.lost.items }) same
          ∙ ap (λ (v : VolumeState). record (moved_to s v) { notes = s.notes ++ note_with c.args.note.now c.noted-noted.result.oid ∷ []; gained = done.gained.items; lost = done.lost.items }) moved.rest
          ∙ ap (λ (t : SessionState). record t { units = p.units; groups = p.groups; meta = p.meta; pages = p.pages; notes = t.notes ++ note_with c.args.note.now c.noted-noted.result.oid ∷ []; gained = done.gained.items; lost = done.lost.items }) c.self.view_is;
    }

pub invariant_of-self-2 : goal.invariant_of-self-2
invariant_of-self-2 g c =
    let s = session.the_view c.self.inside in
    let done = c.update_volume-done.new in
    let p = done.volume in
    let moved = c.update_volume-done.ensures.moved in
    let same : session.the_view c.else-is_ok.self-inside ≡ record (moved_to s p) { gained = done.gained.items; lost = done.lost.items } = elim c.else-is_ok.branch [
      | else-is_ok-via-then-is_ok+else-is_ok-2 w ↦
          let failed : w.push.new.self.items ≡ s.notes = search rules in
          ap session.the_view w.self-inside-is ∙ ap (λ ns. record (moved_to s p) { notes = ns; gained = done.gained.items; lost = done.lost.items }) failed
      | else-is_ok-via-else-is_ok w ↦ ap session.the_view w.self-inside-is
    ] in
    let none : c.clear.new.self.items ≡ [] = search rules in
    let none_lost : c.clear-2.new.self.items ≡ [] = search rules in
    given_up_at s p c.self.invariant moved (session.the_view c.else-is_ok.self-inside) done.gained.items done.lost.items same c.clear.new.self.items c.clear-2.new.self.items c.undo.new.self c.take_back.new.pages c.take_back.new.units
    none none_lost c.undo.ensures c.take_back.ensures

pub returns-then-is_ok-2-clause-writes : goal.returns-then-is_ok-2-clause-writes
returns-then-is_ok-2-clause-writes g c = subst (λ (t : SessionState). WritesUnused (g.H.World.outside c.args.host.now) (g.H.World.outside c.update_volume-done.new.disk) t) c.self.view_is c.update_volume-done.ensures.moved.changes

pub returns-clause-writes : goal.returns-clause-writes
returns-clause-writes g c = subst (λ (t : SessionState). WritesUnused (g.H.World.outside c.args.host.now) (g.H.World.outside c.update_volume-done.new.disk) t) c.self.view_is c.update_volume-done.ensures.moved.changes

pub returns-then-is_ok-2-clause-any_moment : goal.returns-then-is_ok-2-clause-any_moment
returns-then-is_ok-2-clause-any_moment g c = moments_of (session.the_view c.self.inside) c.args.self.now c.self.view_is c.self.invariant (g.H.World.is_world c.args.host.now) c.update_volume-done.ensures.moved.changes

pub returns-clause-any_moment : goal.returns-clause-any_moment
returns-clause-any_moment g c = moments_of (session.the_view c.self.inside) c.args.self.now c.self.view_is c.self.invariant (g.H.World.is_world c.args.host.now) c.update_volume-done.ensures.moved.changes

pub returns-clause-down : goal.returns-clause-down
returns-clause-down g c = sym ((subst IsSession c.self.view_is c.self.invariant).up c.requires.opened)

pub returns-clause-given_up : goal.returns-clause-given_up
returns-clause-given_up g c = on_err c.match-done.result (record { closed = refl; untouched = ap (λ (o : Overlays). o.working) c.undo.ensures })

pub returns-clause-sound : goal.returns-clause-sound
returns-clause-sound g c =
    let outside = g.H.World.outside in
    let s = session.the_view c.self.inside in
    let stops = λ (r : Result Oid Stop). IfErr r (λ why. IfUpdated (outside c.args.host.now) c.args.self.now c.args.update.now (λ before u. HasRoomFor before u → IsOutside why)) in
    elim c.match-done.branch [
      | in-Ok w ↦ subst stops (sym w.result-is) (λ before same now u is asked room. tt)
      | in-Err w ↦ subst stops (sym w.result-is) (λ before same now u is asked room.
          let has = has_seen s c.args.self.now before c.self.view_is same c.self.invariant in
          let sound = subst (λ (r : Result Done PortFault). IfErr r (λ fault. IfAsked (outside c.args.host.now) c.self.inside.volume c.args.update.now (λ before u. HasRoots before.session s.gained s.lost → HasRoomFor before u → IsDamage fault → ⊥)))
          w.in-Err.is c.update_volume-done.ensures.sound in
          subst IsOutside (sym w.stopped.ensures) (no_damage w.in-Err.fault (λ damage. sound before has now u is asked (has_roots s before (same ∙ sym c.self.view_is)) room damage)))
    ]

pub returns-clause-damage : goal.returns-clause-damage
returns-clause-damage g c =
    let outside = g.H.World.outside in
    let s = session.the_view c.self.inside in
    let b = outside c.update_volume-done.new.disk in
    let asked = λ (t : SessionState). asked_of (used_at t.units) (free_in t) c.args.update.now in
    let stops = λ (r : Result Oid Stop). IfErr r (TellsFor (outside c.args.host.now) b c.args.self.now (asked c.args.self.now)) in
    λ honest. elim c.match-done.branch [
      | in-Ok w ↦ subst stops (sym w.result-is) tt
      | in-Err w ↦ subst stops (sym w.result-is)
          (let told = subst (λ (r : Result Done PortFault). IfErr r (IsUpdateFault (outside c.args.host.now) b c.self.inside.volume s.gained (asked s))) w.in-Err.is c.update_volume-done.ensures.fault in
          subst (λ (t : SessionState). TellsFor (outside c.args.host.now) b t (asked t) w.stopped.result) c.self.view_is (update_told (outside c.args.host.now) b s (asked s) w.in-Err.fault w.stopped.result w.stopped.ensures told honest))
    ]

pub returns-clause-named : goal.returns-clause-named
returns-clause-named g c = elim c.match-done.branch [
  | in-Ok w ↦ none_answered _ _ _ w.result-is
  | in-Err w ↦ none_answered _ _ _ w.result-is
]

pub returns-clause-noted : goal.returns-clause-noted
returns-clause-noted g c = elim c.match-done.branch [
  | in-Ok w ↦ none_answered _ _ _ w.result-is
  | in-Err w ↦ none_answered _ _ _ w.result-is
]

pub returns-clause-holds : goal.returns-clause-holds
returns-clause-holds g c = elim c.match-done.branch [
  | in-Ok w ↦ none_answered _ _ _ w.result-is
  | in-Err w ↦ none_answered _ _ _ w.result-is
]

pub returns-clause-touched : goal.returns-clause-touched
returns-clause-touched g c = elim c.match-done.branch [
  | in-Ok w ↦ none_answered _ _ _ w.result-is
  | in-Err w ↦ none_answered _ _ _ w.result-is
]

pub returns-clause-kept : goal.returns-clause-kept
returns-clause-kept g c = elim c.match-done.branch [
  | in-Ok w ↦ none_answered _ _ _ w.result-is
  | in-Err w ↦ none_answered _ _ _ w.result-is
]

pub returns-clause-shares : goal.returns-clause-shares
returns-clause-shares g c copies = elim c.match-done.branch [
  | in-Ok w ↦ none_answered _ _ _ w.result-is
  | in-Err w ↦ none_answered _ _ _ w.result-is
]

pub returns-then-is_ok-2-clause-shares : goal.returns-then-is_ok-2-clause-shares
returns-then-is_ok-2-clause-shares g c copies =
    let p = c.update_volume-done.new.volume in
    subst (λ (t : SessionState). TakesLogged t.units p.units p.pages) c.self.view_is
    (when_done c.update_volume-done.result (sym c.is_ok.ensures.value ∙ c.if-is_ok.true) (c.update_volume-done.ensures.shares copies))

pub returns-then-is_ok-2-clause-shaped : goal.returns-then-is_ok-2-clause-shaped
returns-then-is_ok-2-clause-shaped g c = λ before same now u is asked.
    let s = session.the_view c.self.inside in
    let p = c.update_volume-done.new.volume in
    let a = g.H.World.outside c.args.host.now in
    let b = g.H.World.outside c.update_volume-done.new.disk in
    let oid = c.noted-noted.result.oid in
    subst (λ (t : SessionState). Shaped (pages_on a t) (pages_over p.geometry p.meta b) u oid) c.self.view_is
    (subst (λ (h : Geometry). Shaped (pages_on a s) (pages_over h p.meta b) u oid) (sym (ap (λ (v : VolumeState). v.geometry) c.update_volume-done.ensures.moved.rest))
    (at_oid (λ (oid : Oid). IfAsked a c.self.inside.volume c.args.update.now (λ before u. Shaped (pages_over s.geometry s.meta a) (pages_over s.geometry p.meta b) u oid))
    c.args.note.now c.noted-noted.result c.update_volume-done.result (sym c.is_ok.ensures.value ∙ c.if-is_ok.true) c.noted-noted.ensures c.update_volume-done.ensures.shaped
    before (has_seen s c.args.self.now before c.self.view_is same c.self.invariant) now u is asked))

pub returns-clause-shaped : goal.returns-clause-shaped
returns-clause-shaped g c = elim c.match-done.branch [
  | in-Ok w ↦ none_answered _ _ _ w.result-is
  | in-Err w ↦ none_answered _ _ _ w.result-is
]
