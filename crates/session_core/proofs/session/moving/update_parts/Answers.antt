use Rattle.std.proofs.Common.{◌≡◌, ◌∙◌, refl, rules, subst, ap, sym}
use Rattle.std.proofs.lemmas.Result.{on_ok_weaker}
use Rattle.ex_base.specs.declared.names.Area.TheVariants.{Page}
use Rattle.session_core.specs.Performed.{CanPerform}
use Rattle.page_alloc.specs.UnitSet.{UnitSet, free_count, used_at}
use Rattle.session_core.proofs.Moving.{IsMade, begins_over, fits_there, later_at, made_of, moved_at, parts_same, ready_of, ready_there, volume_moved}
use Rattle.session_core.proofs.Performing.{performed_kept, performed_owns, performed_shaped, performed_shown, performed_sound}
use Rattle.session_core.proofs.PortParts.{pairs_named}
use Rattle.session_core.proofs.TakingPages.{logged_at}
use Rattle.session_core.proofs.UpdateDamage.{performed_fault}
use Rattle.tree_store.specs.declared.store.Store.{Store}
use Rattle.volume_port.specs.declared.state.VolumeState.{VolumeState}
use Rattle.session_core.specs.Updates.{HasParts}
use Rattle.session_core.proofs.session.moving.update_parts.Given as given
use Rattle.session_core.proofs.session.moving.update_parts.Goals as goal

pub perform-requires-clause-ready : goal.perform-requires-clause-ready
perform-requires-clause-ready g c =
    let v = c.requires.ready.0 in
    let has = c.requires.ready.1.0 in
    let outside = g.D.World.outside in
    let a = c.make-port.result in
    let made : IsMade v c.args.disk.now a.store.disk.now a.store.geometry a.store.index a.store.units.now a.store.groups.now a.meta.now a.pages.now =
    made_of v has (sym (ap (λ (s : Store g.row.D.Denot). s.disk.now) c.make-port.ensures.store ∙ c.make.ensures.disk_is)) (sym (ap (λ (s : Store g.row.D.Denot). s.geometry) c.make-port.ensures.store ∙ c.make.ensures.geometry)) (ap (λ (s : Store g.row.D.Denot). s.index) c.make-port.ensures.store ∙ c.make.ensures.index) (sym (ap (λ (s : Store g.row.D.Denot). s.units.now) c.make-port.ensures.store ∙ c.make.ensures.units_is)) (sym (ap (λ (s : Store g.row.D.Denot). s.groups.now) c.make-port.ensures.store ∙ c.make.ensures.groups_is)) (sym c.make-port.ensures.meta_is) (sym c.make-port.ensures.pages_is) in
    let ready = ready_there outside v c.args.disk.now a.store.disk.now _ _ _ _ _ _ made c.requires.ready.1.1 in
    ready_of _ a.store (outside a.store.disk.now).size _ made.geometry refl (fits_there outside v c.args.disk.now a.store.disk.now _ _ _ _ _ _ made c.requires.ready.1.1) ready

pub perform-requires-clause-can : goal.perform-requires-clause-can
perform-requires-clause-can g c =
    let units : c.args.units.now ≡ c.make-port.result.store.units.now = sym (ap (λ (s : Store g.row.D.Denot). s.units.now) c.make-port.ensures.store ∙ c.make.ensures.units_is) in
    subst (λ (u : UnitSet). CanPerform c.args.update.now (free_count u.geometry (used_at u) Page)) units c.requires.can

-- the port is made over the volume
made_at : (g : given.Over) (c : goal.After-room-1 g) (v : VolumeState) → HasParts v c.args.geometry.now c.args.units.now c.args.groups.now c.args.meta.now c.args.pages.now
    → IsMade v c.args.disk.now c.make-port.result.store.disk.now c.make-port.result.store.geometry c.make-port.result.store.index c.make-port.result.store.units.now c.make-port.result.store.groups.now c.make-port.result.meta.now c.make-port.result.pages.now
made_at g c v has = made_of v has (sym (ap (λ (s : Store g.row.D.Denot). s.disk.now) c.make-port.ensures.store ∙ c.make.ensures.disk_is)) (sym (ap (λ (s : Store g.row.D.Denot). s.geometry) c.make-port.ensures.store ∙ c.make.ensures.geometry)) (ap (λ (s : Store g.row.D.Denot). s.index) c.make-port.ensures.store ∙ c.make.ensures.index) (sym (ap (λ (s : Store g.row.D.Denot). s.units.now) c.make-port.ensures.store ∙ c.make.ensures.units_is)) (sym (ap (λ (s : Store g.row.D.Denot). s.groups.now) c.make-port.ensures.store ∙ c.make.ensures.groups_is)) (sym c.make-port.ensures.meta_is) (sym c.make-port.ensures.pages_is)

pub returns-clause-moved : goal.returns-clause-moved
returns-clause-moved g c = λ v has ready.
    let outside = g.D.World.outside in
    let a = c.make-port.result in
    let made = made_at g c v has in
    let b = c.perform.new.volume in
    let leads = c.perform.ensures.leads in
    moved_at outside _ _ b.store.disk.now _ _ _ _ _ made.disk (search rules fits 500) made.parts (parts_same v b.store.units.now _ b.store.groups.now _ b.meta.now _ b.pages.now _ (search rules fits 500) (search rules fits 500) (search rules fits 500) (search rules fits 500))
    (volume_moved _ outside v a.store b.store a.store.disk b.store.disk a.store.units b.store.units a.store.groups b.store.groups a.store.index b.store.index a.store.geometry b.store.geometry a.meta b.meta a.pages b.pages a.room b.room
    made.main refl refl refl refl made.geometry (fits_there outside v c.args.disk.now a.store.disk.now _ _ _ _ _ _ made ready) (ready_there outside v c.args.disk.now a.store.disk.now _ _ _ _ _ _ made ready) leads leads.store)

pub returns-clause-updated : goal.returns-clause-updated
returns-clause-updated g c = λ v has ready.
    let outside = g.D.World.outside in
    let a = c.make-port.result in
    let made = made_at g c v has in
    let begins = begins_over outside v c.args.disk.now a.store.disk.now _ _ _ _ _ _ made ready _ a (λ fits are. ready_of _ a.store _ _ made.geometry refl fits are) (record { geometry_is = refl; unit = refl; image = refl; held = refl; used = refl; refs = refl; free = refl }) (λ told. told) in
    let b = c.perform.new.volume in
    performed_shown _ a c.perform.new.volume c.args.update.now c.perform.result c.perform.ensures.updates (outside c.args.disk.now) v begins pairs_named c.perform.ensures.leads _ (returns-clause-moved g c v has ready)
    (later_at _ b outside b.store.disk.now _ _ v.geometry _ _ (search rules fits 500) (c.perform.ensures.leads.store.geometry ∙ made.geometry) (parts_same v b.store.units.now _ b.store.groups.now _ b.meta.now _ b.pages.now _ (search rules fits 500) (search rules fits 500) (search rules fits 500) (search rules fits 500)) (record { geometry_is = refl; unit = refl; image = refl; held = refl; used = refl; refs = refl; free = refl }))

pub returns-clause-owns : goal.returns-clause-owns
returns-clause-owns g c = λ v has ready.
    let outside = g.D.World.outside in
    let a = c.make-port.result in
    let made = made_at g c v has in
    let begins = begins_over outside v c.args.disk.now a.store.disk.now _ _ _ _ _ _ made ready _ a (λ fits are. ready_of _ a.store _ _ made.geometry refl fits are) (record { geometry_is = refl; unit = refl; image = refl; held = refl; used = refl; refs = refl; free = refl }) (λ told. told) in
    let b = c.perform.new.volume in
    performed_owns _ a c.perform.new.volume c.args.update.now c.perform.result c.perform.ensures.updates (outside c.args.disk.now) v begins pairs_named c.perform.ensures.leads _ (returns-clause-moved g c v has ready)
    (later_at _ b outside b.store.disk.now _ _ v.geometry _ _ (search rules fits 500) (c.perform.ensures.leads.store.geometry ∙ made.geometry) (parts_same v b.store.units.now _ b.store.groups.now _ b.meta.now _ b.pages.now _ (search rules fits 500) (search rules fits 500) (search rules fits 500) (search rules fits 500)) (record { geometry_is = refl; unit = refl; image = refl; held = refl; used = refl; refs = refl; free = refl }))

pub returns-clause-shaped : goal.returns-clause-shaped
returns-clause-shaped g c = λ v has ready.
    let outside = g.D.World.outside in
    let a = c.make-port.result in
    let made = made_at g c v has in
    let begins = begins_over outside v c.args.disk.now a.store.disk.now _ _ _ _ _ _ made ready _ a (λ fits are. ready_of _ a.store _ _ made.geometry refl fits are) (record { geometry_is = refl; unit = refl; image = refl; held = refl; used = refl; refs = refl; free = refl }) (λ told. told) in
    let b = c.perform.new.volume in
    performed_shaped _ a c.perform.new.volume c.args.update.now c.perform.result c.perform.ensures.updates (outside c.args.disk.now) v begins pairs_named c.perform.ensures.leads _ (returns-clause-moved g c v has ready)
    (later_at _ b outside b.store.disk.now _ _ v.geometry _ _ (search rules fits 500) (c.perform.ensures.leads.store.geometry ∙ made.geometry) (parts_same v b.store.units.now _ b.store.groups.now _ b.meta.now _ b.pages.now _ (search rules fits 500) (search rules fits 500) (search rules fits 500) (search rules fits 500)) (record { geometry_is = refl; unit = refl; image = refl; held = refl; used = refl; refs = refl; free = refl })) c.perform.ensures.shaped

pub returns-clause-sound : goal.returns-clause-sound
returns-clause-sound g c = λ v has ready.
    let outside = g.D.World.outside in
    let a = c.make-port.result in
    let made = made_at g c v has in
    let begins = begins_over outside v c.args.disk.now a.store.disk.now _ _ _ _ _ _ made ready _ a (λ fits are. ready_of _ a.store _ _ made.geometry refl fits are) (record { geometry_is = refl; unit = refl; image = refl; held = refl; used = refl; refs = refl; free = refl }) (λ told. told) in
    performed_sound _ a c.perform.new.volume c.args.update.now c.perform.result c.perform.ensures.updates (outside c.args.disk.now) v begins

pub returns-clause-shares : goal.returns-clause-shares
returns-clause-shares g c = λ copies.
    let a = c.make-port.result in
    let b = c.perform.new.volume in
    on_ok_weaker c.perform.result
    (λ takes. logged_at {a = a.store.units.now} {c = b.store.units.now} {p = b.pages.now} (ap (λ (s : Store g.row.D.Denot). s.units.now) c.make-port.ensures.store ∙ c.make.ensures.units_is) (search rules fits 500) (search rules fits 500) (record { taken = takes.taken })) (c.perform.ensures.shares copies)

pub returns-clause-kept : goal.returns-clause-kept
returns-clause-kept g c = λ v has ready.
    let outside = g.D.World.outside in
    let a = c.make-port.result in
    let made = made_at g c v has in
    let begins = begins_over outside v c.args.disk.now a.store.disk.now _ _ _ _ _ _ made ready _ a (λ fits are. ready_of _ a.store _ _ made.geometry refl fits are) (record { geometry_is = refl; unit = refl; image = refl; held = refl; used = refl; refs = refl; free = refl }) (λ told. told) in
    let b = c.perform.new.volume in
    performed_kept _ a c.perform.new.volume c.args.update.now c.perform.result c.perform.ensures.updates (outside c.args.disk.now) v begins pairs_named c.perform.ensures.leads _ (returns-clause-moved g c v has ready)
    (later_at _ b outside b.store.disk.now _ _ v.geometry _ _ (search rules fits 500) (c.perform.ensures.leads.store.geometry ∙ made.geometry) (parts_same v b.store.units.now _ b.store.groups.now _ b.meta.now _ b.pages.now _ (search rules fits 500) (search rules fits 500) (search rules fits 500) (search rules fits 500)) (record { geometry_is = refl; unit = refl; image = refl; held = refl; used = refl; refs = refl; free = refl })) c.perform.ensures.takes

pub returns-clause-fault : goal.returns-clause-fault
returns-clause-fault g c = λ v has ready.
    let outside = g.D.World.outside in
    let a = c.make-port.result in
    let made = made_at g c v has in
    let begins = begins_over outside v c.args.disk.now a.store.disk.now _ _ _ _ _ _ made ready _ a (λ fits are. ready_of _ a.store _ _ made.geometry refl fits are) (record { geometry_is = refl; unit = refl; image = refl; held = refl; used = refl; refs = refl; free = refl }) (λ told. told) in
    performed_fault _ a c.perform.new.volume c.args.update.now c.perform.result c.perform.ensures.updates (outside c.args.disk.now) v begins c.perform.ensures.fault
