use Rattle.std.proofs.Common.{◌+◌, ◌≤◌, ap, length, refl, subst, sym, arith, inl, Bool, List, ◌≡◌, ◌∙◌}
use Rattle.meta_pages.specs.Overlays.{AreRows}
use Rattle.page_alloc.specs.UnitSet.{free_count, used_at}
use Rattle.table_model.specs.Machines.{shown}
use Rattle.volume_port.specs.declared.state.VolumeState.{VolumeState}
use Rattle.session_core.specs.Sessions.{Swept, TakesLogged}
use Rattle.volume_edits.specs.TableUpdates.{updated}
use Rattle.session_core.specs.Updates.{HasParts, HoldsTable, with_parts}
use Rattle.session_core.specs.Performed.{charge_of, asked_of}
use Rattle.session_core.proofs.Roomed.{takes_still}
use Rattle.session_core.proofs.TakingPages.{still_logged}
use Rattle.session_core.proofs.TurnedParts.{gives_moved, moved_as, swept_moved, turned_holds, with_units}
use Rattle.ex_base.proofs.Results.{if_err_handed}
use Rattle.session_core.proofs.UpdateDamage.{turned_fault}
use Rattle.ex_base.specs.declared.geometry.Geometry.{Geometry}
use Rattle.ex_base.specs.declared.names.Root.{Root}
use Rattle.volume_model.specs.Held.{root_here}
use Rattle.volume_port.specs.GivingUp.{OwnRoots}
use Rattle.session_core.specs.Turning.{TakenOut}
use Rattle.ex_base.specs.Area.{area_end}
use Rattle.session_core.specs.Contents.{Shaped, VolumePages, pages_over}
use Rattle.session_core.proofs.PortParts.{same_disk}
use Rattle.meta_pages.specs.Overlays.{Overlays}
use Rattle.session_core.proofs.session.moving.update_volume.Goals as goal

pub update_parts-requires-clause-ready : goal.update_parts-requires-clause-ready
update_parts-requires-clause-ready g c = (c.args.volume.now, (record { geometry = refl; parts = refl }, c.requires.ready))

pub returns-in_err-turn_roots-clause-moved : goal.returns-in_err-turn_roots-clause-moved
returns-in_err-turn_roots-clause-moved g c =
    let v = c.args.volume.now in
    let u = c.update_parts.new in
    let mid = with_parts v u.units u.groups u.meta u.pages in
    let t = c.turn_roots.new.volume in
    let has : HasParts v v.geometry v.units v.groups v.meta v.pages = record { geometry = refl; parts = refl } in
    moved_as (sym c.turn_roots.ensures.rest) (gives_moved v mid t.units t.groups c.turn_roots.ensures.gives (c.update_parts.ensures.moved v has c.requires.ready))

pub returns-clause-moved : goal.returns-clause-moved
returns-clause-moved g c =
    let v = c.args.volume.now in
    let u = c.update_parts.new in
    let mid = with_parts v u.units u.groups u.meta u.pages in
    let t = c.turn_roots.new.volume in
    let has : HasParts v v.geometry v.units v.groups v.meta v.pages = record { geometry = refl; parts = refl } in
    swept_moved v t c.sweep.new.units c.sweep.ensures.swept (moved_as (sym c.turn_roots.ensures.rest) (gives_moved v mid t.units t.groups c.turn_roots.ensures.gives (c.update_parts.ensures.moved v has c.requires.ready)))

pub returns-clause-updated : goal.returns-clause-updated
returns-clause-updated g c = λ before seen now w is asked roots.
    let b = g.D.World.outside c.turn_roots.new.disk in
    let v = c.args.volume.now in
    let u = c.update_parts.new in
    let mid = with_parts v u.units u.groups u.meta u.pages in
    let t = c.turn_roots.new.volume in
    let has : HasParts v v.geometry v.units v.groups v.meta v.pages = record { geometry = refl; parts = refl } in
    let rest = c.turn_roots.ensures.rest in
    let table = updated w c.in_ok-done.done.oid (shown before.machine) in
    subst (λ (q : VolumeState). HoldsTable before b (with_units q c.sweep.new.units t.groups) c.turn_roots.new.gained.items c.turn_roots.new.lost.items table) (sym rest)
    (turned_holds mid t.units c.sweep.new.units t.groups c.turn_roots.ensures.gives (subst (λ (q : VolumeState). Swept q.meta.working q.kept t.units c.sweep.new.units) rest c.sweep.ensures.swept) before c.args.gained.now.items c.args.lost.now.items c.turn_roots.new.gained.items c.turn_roots.new.lost.items
    c.in_ok-done.done.gone c.in_ok-done.done.come table (ap (λ (q : VolumeState). q.geometry) seen.volume) (ap (λ (q : VolumeState). q.kept) seen.volume) roots c.in_ok-turn_roots.ensures.turned
    (c.in_ok-done.ensures.updated v has c.requires.ready before seen now w is asked (subst (λ (q : VolumeState). AreRows q.meta) rest c.sweep.ensures.rows)))

pub returns-clause-shares : goal.returns-clause-shares
returns-clause-shares g c = λ copies.
    let v = c.args.volume.now in
    let u = c.update_parts.new in
    let mid = with_parts v u.units u.groups u.meta u.pages in
    let t = c.turn_roots.new.volume in
    subst (λ (q : VolumeState). TakesLogged v.units c.sweep.new.units q.pages) (sym c.turn_roots.ensures.rest)
    (still_logged v.units t.units c.sweep.new.units mid.pages (λ unit now. c.sweep.ensures.swept.units.used unit now)
    (still_logged v.units mid.units t.units mid.pages c.turn_roots.ensures.gives.fewer (c.in_ok-done.ensures.shares copies)))

pub returns-clause-touched : goal.returns-clause-touched
returns-clause-touched g c =
    subst (λ (q : VolumeState). length q.meta.working ≤ length c.args.volume.now.meta.working + charge_of c.args.update.now) (sym c.turn_roots.ensures.rest) c.in_ok-done.ensures.touched

pub returns-clause-kept : goal.returns-clause-kept
returns-clause-kept g c = λ before seen now u is asked.
    let v = c.args.volume.now in
    let mid = c.update_parts.new.units in
    let swept = c.sweep.new.units in
    let has : HasParts v v.geometry v.units v.groups v.meta v.pages = record { geometry = refl; parts = refl } in
    takes_still before (free_count mid.geometry (used_at mid)) (free_count swept.geometry (used_at swept))
    (λ area. let turned = c.turn_roots.ensures.gives.free area in let given = c.sweep.ensures.swept.units.free area in omega (arith, turned, given))
    u (c.in_ok-done.ensures.kept v has c.requires.ready before seen now u is asked)

pub returns-in_err-done-clause-fault : goal.returns-in_err-done-clause-fault
returns-in_err-done-clause-fault g c = if_err_handed c.from_residual.result _ _ c.from_residual.ensures.1
    (inl (c.in_err-done.ensures.fault c.args.volume.now (record { geometry = refl; parts = refl }) c.requires.ready))

pub returns-in_err-turn_roots-clause-fault : goal.returns-in_err-turn_roots-clause-fault
returns-in_err-turn_roots-clause-fault g c =
    let v = c.args.volume.now in
    let u = c.update_parts.new in
    let outside = g.D.World.outside in
    let has : HasParts v v.geometry v.units v.groups v.meta v.pages = record { geometry = refl; parts = refl } in
    if_err_handed c.from_residual-in_err-turn_roots.result _ _ c.from_residual-in_err-turn_roots.ensures.1
    (turned_fault (outside c.args.disk.now) (outside u.disk) (outside c.turn_roots.new.disk) v u.groups c.args.gained.now.items (asked_of (used_at v.units) (free_count v.units.geometry (used_at v.units)) c.args.update.now) _ c.turn_roots.ensures.gives.only.nothing.disk (c.update_parts.ensures.moved v has c.requires.ready).told c.in_err-turn_roots.ensures.fault)

pub returns-in_err-turn_roots-clause-sound : goal.returns-in_err-turn_roots-clause-sound
returns-in_err-turn_roots-clause-sound g c =
    let v = c.args.volume.now in
    let u = c.update_parts.new in
    let b = g.D.World.outside u.disk in
    let gone = c.in_ok-done.done.gone in
    let has : HasParts v v.geometry v.units v.groups v.meta v.pages = record { geometry = refl; parts = refl } in
    if_err_handed c.from_residual-in_err-turn_roots.result _ _ c.from_residual-in_err-turn_roots.ensures.1 (λ before seen now w is asked roots room damage.
    c.in_err-turn_roots.ensures.sound damage (λ counted rest counts out.
    subst (λ (kept : List Bool). OwnRoots u.pages kept v.geometry b u.groups counted (root_here gone)) (ap (λ (q : VolumeState). q.kept) seen.volume)
    (subst (λ (h : Geometry). OwnRoots u.pages before.session.kept h b u.groups counted (root_here gone)) (ap (λ (q : VolumeState). q.geometry) seen.volume)
    (c.in_ok-done.ensures.owns v has c.requires.ready before seen now w is asked counted rest counts (subst (λ (gains : List Root). TakenOut gains rest gone) (sym roots.gained) out)))))

pub turn_roots-requires-clause-ready : goal.turn_roots-requires-clause-ready
turn_roots-requires-clause-ready g c =
    let v = c.args.volume.now in
    let has : HasParts v v.geometry v.units v.groups v.meta v.pages = record { geometry = refl; parts = refl } in
    let moved = c.update_parts.ensures.moved v has c.requires.ready in
    moved.ready.fits

pub turn_roots-requires-clause-held : goal.turn_roots-requires-clause-held
turn_roots-requires-clause-held g c =
    let v = c.args.volume.now in
    let has : HasParts v v.geometry v.units v.groups v.meta v.pages = record { geometry = refl; parts = refl } in
    let moved = c.update_parts.ensures.moved v has c.requires.ready in
    moved.ready.held_len

pub turn_roots-requires-clause-flags : goal.turn_roots-requires-clause-flags
turn_roots-requires-clause-flags g c = c.requires.ready.kept_len

pub sweep-requires-clause-flags : goal.sweep-requires-clause-flags
sweep-requires-clause-flags g c =
    let v = c.args.volume.now in
    let has : HasParts v v.geometry v.units v.groups v.meta v.pages = record { geometry = refl; parts = refl } in
    let moved = c.update_parts.ensures.moved v has c.requires.ready in
    subst (λ (q : VolumeState). length q.kept ≡ area_end q.meta.geometry) (sym c.turn_roots.ensures.rest) (c.requires.ready.kept_len ∙ ap area_end (sym moved.ready.overlay))

pub returns-clause-shaped : goal.returns-clause-shaped
returns-clause-shaped g c = λ before seen now w is asked.
    let v = c.args.volume.now in
    let u = c.update_parts.new in
    let a = g.D.World.outside c.args.disk.now in
    let b = g.D.World.outside u.disk in
    let later = g.D.World.outside c.turn_roots.new.disk in
    let oid = c.in_ok-done.done.oid in
    let has : HasParts v v.geometry v.units v.groups v.meta v.pages = record { geometry = refl; parts = refl } in
    subst (λ (meta : Overlays). Shaped (pages_over v.geometry v.meta a) (pages_over v.geometry meta later) w oid) (sym (ap (λ (q : VolumeState). q.meta) c.turn_roots.ensures.rest))
    (subst (λ (p : VolumePages). Shaped (pages_over v.geometry v.meta a) p w oid) (same_disk v.geometry u.meta b later (sym c.turn_roots.ensures.gives.only.nothing.disk))
    (c.in_ok-done.ensures.shaped v has c.requires.ready before seen now w is asked))
