use Rattle.std.proofs.Common.{◌≡◌, ◌<◌, ℕ, ap, length, refl, rules, subst, sym, Some, ◌∙◌}
use Rattle.std.proofs.lemmas.Result.{IfErr-weaker, on_ok_weaker}
use Rattle.session_core.specs.Finding.{IsOutside, stop_at}
use Rattle.session_core.specs.ScanRows.{AtScan, bytes_next, with_scans}
use Rattle.session_core.specs.Sessions.{SessionState}
use Rattle.session_core.proofs.HeldRows.{can_read_on, read_on_session, read_open, root_read}
use Rattle.session_core.proofs.ScanBytes.{given_shown, port_scans, sound_shown}
use Rattle.session_core.specs.contracts.session.Session as session
use Rattle.session_core.proofs.Finding.{error_shown, frames_left, frames_to, no_damage, ok_shown, only_reads, over_session, told_err, told_ok, told_on_ok}
use Rattle.std.specs.Prelude.{slice_get, OnOk, OnErr, slice_set}
use Rattle.open_scans.proofs.Rows.{row_there}
use Rattle.volume_port.specs.Reading.{OthersStay}
use Rattle.session_core.proofs.Damage.{scan_told}
use Rattle.session_core.proofs.Sessions.{seen}
use Rattle.open_scans.specs.OpenScans.{AtRow, HasSoundRest, position_of, row_after}
use Rattle.session_core.proofs.Ways.{way_passed}
use Rattle.session_core.proofs.session.Session.next_piece.Goals as goal

pub next-requires-clause-ready : goal.next-requires-clause-ready
next-requires-clause-ready g c =
    can_read_on (session.the_view c.self.inside) c.args.self.now (g.D.World.outside c.args.disk.now).size c.args.index c.group_at-group.result c.self.view_is c.self.invariant c.requires.there c.requires.room c.group_at-group.ensures

pub next-requires-clause-root : goal.next-requires-clause-root
next-requires-clause-root g c = root_read (session.the_view c.self.inside) c.args.index c.self.invariant

pub invariant_of-self : goal.invariant_of-self
invariant_of-self g c =
    let s = session.the_view c.self.inside in
    let there = subst (λ (t : SessionState). c.args.index < length t.scans) (sym c.self.view_is) c.requires.there in
    read_on_session s c.next.new.self _ (read_open s c.args.index c.args.len c.next.new.self c.next.result c.self.invariant there c.next.ensures.moved c.next.ensures.stays) (frames_left c.next.ensures.kept.leads) c.self.invariant

pub returns-clause-only : goal.returns-clause-only
returns-clause-only g c =
    only_reads (with_scans (session.the_view c.self.inside) c.next.new.self) (with_scans c.args.self.now c.next.new.self) _ (ap (λ (t : SessionState). with_scans t c.next.new.self) c.self.view_is)
    (frames_to g.D.World.outside c.next.new.blocks.disk.now _ (search rules fits 200) (frames_left c.next.ensures.kept.leads))

pub returns-clause-bytes : goal.returns-clause-bytes
returns-clause-bytes g c =
    let w = g.D.World.outside c.args.disk.now in
    let over = over_session c.next.ensures.kept w c.self.view_is c.self.invariant refl refl refl refl (λ h. h) in
    told_ok c.next.result c.or_stop.result c.or_stop.ensures _ (ok_shown w c.args.self.now c.next.result (λ before given. AtScan before.machine c.args.index (λ row. given.items ≡ bytes_next c.args.len row))
    (λ before same now. given_shown _ _ c.self.inside.scans (port_scans _ _ over c.self.inside.scans (ap (λ (t : SessionState). t.scans) (sym c.self.view_is)) before same now) (λ given. given.items) (can_read_on (session.the_view c.self.inside) c.args.self.now w.size c.args.index c.group_at-group.result c.self.view_is c.self.invariant c.requires.there c.requires.room c.group_at-group.ensures) c.next.result c.args.index c.args.len c.next.ensures.bytes))

pub returns-clause-sound : goal.returns-clause-sound
returns-clause-sound g c =
    let w = g.D.World.outside c.args.disk.now in
    let over = over_session c.next.ensures.kept w c.self.view_is c.self.invariant refl refl refl refl (λ h. h) in
    told_err c.next.result c.or_stop.result c.or_stop.ensures _ (error_shown w c.args.self.now c.next.result (λ before fault. AtScan before.machine c.args.index (λ row. IsOutside (stop_at fault)))
    (λ before same now. IfErr-weaker c.next.result _ _ (λ fault each row at. no_damage fault (each row at))
    (sound_shown _ _ c.self.inside.scans (port_scans _ _ over c.self.inside.scans (ap (λ (t : SessionState). t.scans) (sym c.self.view_is)) before same now) c.next.result c.args.index c.next.ensures.sound (λ row at none. (c.next.ensures.held row at none).1))))

pub returns-clause-damage : goal.returns-clause-damage
returns-clause-damage g c =
    let w = g.D.World.outside c.args.disk.now in
    let over = over_session c.next.ensures.kept w c.self.view_is c.self.invariant refl refl refl refl (λ h. h) in
    let row = row_there c.args.self.now.scans c.args.index c.requires.there in
    let here : slice_get c.self.inside.scans c.args.index ≡ Some row.row = ap (λ (t : SessionState). slice_get t.scans c.args.index) c.self.view_is ∙ row.at in
    let left = frames_to g.D.World.outside c.next.new.blocks.disk.now _ (search rules fits 200) (frames_left c.next.ensures.kept.leads) in
    scan_told _ _ _ c.args.index c.args.len c.next.result c.or_stop.result c.or_stop.ensures over left.only.nothing.disk row.row row.at
    (IfErr-weaker c.next.result _ _ (λ fault is told. is told row.row here) c.next.ensures.fault) (λ none. (c.next.ensures.held row.row here none).1)

pub group_at-group-requires : goal.group_at-group-requires
group_at-group-requires g c = subst (λ (t : SessionState). c.args.index < length t.scans) (sym c.self.view_is) c.requires.there

pub next-requires-clause-there : goal.next-requires-clause-there
next-requires-clause-there g c = subst (λ (t : SessionState). c.args.index < length t.scans) (sym c.self.view_is) c.requires.there

pub returns-clause-session : goal.returns-clause-session
returns-clause-session g c = seen c.self.view_is c.self.invariant

pub returns-clause-moved : goal.returns-clause-moved
returns-clause-moved g c =
    told_on_ok c.next.result c.or_stop.result c.or_stop.ensures _
    (subst (λ (t : SessionState). OnOk c.next.result (AtRow t.scans c.args.index (λ row. c.next.new.self ≡ slice_set t.scans c.args.index (row_after c.args.len row)))) c.self.view_is c.next.ensures.moved)

pub returns-clause-stays : goal.returns-clause-stays
returns-clause-stays g c =
    told_err c.next.result c.or_stop.result c.or_stop.ensures (λ _. c.next.new.self ≡ c.args.self.now.scans)
    (subst (λ (t : SessionState). OnErr c.next.result (c.next.new.self ≡ t.scans)) c.self.view_is c.next.ensures.stays)

pub returns-clause-others : goal.returns-clause-others
returns-clause-others g c row at =
    let here : slice_get c.self.inside.scans c.args.index ≡ Some row = ap (λ (t : SessionState). slice_get t.scans c.args.index) c.self.view_is ∙ at in
    subst (λ (t : SessionState). OthersStay row.group t.groups c.next.new.blocks.groups.now) c.self.view_is
    (subst (λ (i : ℕ). OthersStay i (session.the_view c.self.inside).groups c.next.new.blocks.groups.now)
    (c.group_at-group.ensures row here) c.next.ensures.kept.leads.others)

pub returns-clause-way : goal.returns-clause-way
returns-clause-way g c =
    let over = over_session c.next.ensures.kept (g.D.World.outside c.args.disk.now) c.self.view_is c.self.invariant refl refl refl refl (λ h. h) in
    way_passed _ _ c.next.result c.or_stop.result c.or_stop.ensures over (λ geometry image units. AtRow c.args.self.now.scans c.args.index (λ row. HasSoundRest geometry units c.args.len (position_of row.scan)))
    (on_ok_weaker c.next.result (λ way tells row at. way tells row (ap (λ (t : SessionState). slice_get t.scans c.args.index) c.self.view_is ∙ at)) c.next.ensures.way)
