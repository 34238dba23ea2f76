use Rattle.transactions.proofs.LaterSessions.{has_room, is_open_still}
use Rattle.object_files.specs.Reads.{catalog_on}
use Rattle.object_files.specs.Catalog.{CatalogOf}
use Rattle.std.proofs.Common.{◌≡◌, ◌∙◌, None, sym, ap, subst, ℕ, List}
use Rattle.std.specs.Prelude.{option_map}
use Rattle.object_files.specs.Catalog.{Catalog}
use Rattle.table_model.specs.Requests as request
use Rattle.transactions.specs.Editing.{new_object_in, room_refusal}
use Rattle.transactions.specs.Making.{making_need}
use Rattle.transactions.proofs.Creating.{create_done, create_roomless, create_stopped, create_taken, create_unplaced}
use Rattle.transactions.proofs.Made.{unbound_then}
use Rattle.session_core.proofs.Stopping.{unread_outside, unread_stops}
use Rattle.session_core.proofs.Quiet.{nothing_changed}
use Rattle.session_core.proofs.Refusing.{closed_refused}
use Rattle.session_core.proofs.Sessions.{viewed}
use Rattle.transactions.proofs.UpdateLines.{line_closed, line_stopped}
use Rattle.session_core.proofs.Damage.{catalog_told, later_damage}
use Rattle.session_core.specs.Damage.{no_version}
use Rattle.disk_model.specs.Runs.{honest_on}
use Rattle.transactions.proofs.creation.create.Goals as goal

pub returns-then-not-is_open-clause-line : goal.returns-then-not-is_open-clause-line
returns-then-not-is_open-clause-line g c =
    line_closed c.args.session.now (request.Create c.args.file.now (option_map (λ name. name.now) c.args.bind)) (g.H.World.is_world c.args.host.now) c.is_open.ensures.session (sym c.is_open.ensures.value ∙ c.if-not-is_open.true)
    (λ m q closed. closed_refused m _ closed)

pub returns-then-is_taken-clause-line : goal.returns-then-is_taken-clause-line
returns-then-is_taken-clause-line g c =
    create_taken c.args.file.now (option_map (λ name. name.now) c.args.bind) (g.H.World.is_world c.args.host.now) (nothing_changed (g.H.World.outside c.args.host.now) c.args.session.now) c.is_open.ensures.session
    (sym c.is_open.ensures.value ∙ c.if-not-is_open.false) (sym c.is_taken.ensures ∙ c.if-is_taken.true)

pub returns-in-Err-clause-line : goal.returns-in-Err-clause-line
returns-in-Err-clause-line g c =
    line_stopped (request.Create c.args.file.now (option_map (λ name. name.now) c.args.bind)) (g.H.World.is_world c.args.host.now) c.catalog.ensures.frames c.in-Err.stop
    (unread_stops (g.H.World.outside c.args.host.now) (g.H.World.outside c.catalog.new.disk) c.args.session.now c.in-Err.stop c.in-Err.ensures.stops)
    (unread_outside (g.H.World.outside c.catalog.new.disk) c.in-Err.stop c.catalog.ensures.session c.in-Err.ensures.stops)

pub returns-in-Err-new_object-clause-line : goal.returns-in-Err-new_object-clause-line
returns-in-Err-new_object-clause-line g c =
    create_unplaced c.args.file.now (option_map (λ name. name.now) c.args.bind) (g.H.World.is_world c.args.host.now) c.catalog.ensures.frames c.catalog.ensures.session (sym c.is_open.ensures.value ∙ c.if-not-is_open.false)
    c.in-Ok.page.items (record { catalog = c.in-Ok.ensures.catalog; read = c.in-Ok.ensures.read }) (sym c.is_taken.ensures ∙ c.if-is_taken.false) c.in-Err-new_object.why
    (c.in-Err-new_object.ensures ∙ ap (λ (k : Catalog). new_object_in k c.args.file.now) (viewed c.view_of.result c.deref.result.now c.in-Ok.page.items c.view_of.ensures c.deref.ensures.value))

pub returns-in-Some-clause-line : goal.returns-in-Some-clause-line
returns-in-Some-clause-line g c =
    create_roomless c.args.file.now (option_map (λ name. name.now) c.args.bind) (g.H.World.is_world c.args.host.now) c.catalog.ensures.frames c.catalog.ensures.session (sym c.is_open.ensures.value ∙ c.if-not-is_open.false)
    c.in-Ok.page.items (record { catalog = c.in-Ok.ensures.catalog; read = c.in-Ok.ensures.read }) (sym c.is_taken.ensures ∙ c.if-is_taken.false) c.in-Ok-new_object.made
    c.in-Some.why (c.in-Ok-new_object.ensures ∙ ap (λ (k : Catalog). new_object_in k c.args.file.now) (viewed c.view_of.result c.deref.result.now c.in-Ok.page.items c.view_of.ensures c.deref.ensures.value)) c.in-Some.ensures

pub returns-in-Ok-make-clause-line : goal.returns-in-Ok-make-clause-line
returns-in-Ok-make-clause-line g c =
    let room : None ≡ room_refusal c.catalog.new.self making_need = sym c.in_default.is ∙ c.refuses_room.ensures in
    create_done c.args.file.now (option_map (λ name. name.now) c.args.bind) c.in-Ok.page.items c.in-Ok-new_object.made (g.H.World.is_world c.args.host.now) c.catalog.ensures.session c.catalog.ensures.frames
    (sym c.is_open.ensures.value ∙ c.if-not-is_open.false) (record { catalog = c.in-Ok.ensures.catalog; read = c.in-Ok.ensures.read }) c.requires.name
    (sym c.is_taken.ensures ∙ c.if-is_taken.false)
    (c.in-Ok-new_object.ensures ∙ ap (λ (k : Catalog). new_object_in k c.args.file.now) (viewed c.view_of.result c.deref.result.now c.in-Ok.page.items c.view_of.ensures c.deref.ensures.value)) room
    c.make.ensures.went
    c.in-Ok-make.oid c.in-Ok-make.ensures.made

pub returns-clause-line : goal.returns-clause-line
returns-clause-line g c =
    let room : None ≡ room_refusal c.catalog.new.self making_need = sym c.in_default.is ∙ c.refuses_room.ensures in
    create_stopped c.args.file.now (option_map (λ name. name.now) c.args.bind) c.in-Ok.page.items c.in-Ok-new_object.made (g.H.World.is_world c.args.host.now) c.catalog.ensures.session c.catalog.ensures.frames
    (sym c.is_open.ensures.value ∙ c.if-not-is_open.false) (record { catalog = c.in-Ok.ensures.catalog; read = c.in-Ok.ensures.read }) c.requires.name
    (sym c.is_taken.ensures ∙ c.if-is_taken.false)
    (c.in-Ok-new_object.ensures ∙ ap (λ (k : Catalog). new_object_in k c.args.file.now) (viewed c.view_of.result c.deref.result.now c.in-Ok.page.items c.view_of.ensures c.deref.ensures.value)) room
    c.make.ensures.went
    c.in-Err-make.stop c.in-Err-make.ensures.stops c.in-Err-make.ensures.sound

pub returns-in-Err-clause-damage : goal.returns-in-Err-clause-damage
returns-in-Err-clause-damage g c = λ honest. catalog_told (g.H.World.outside c.args.host.now) (g.H.World.outside c.catalog.new.disk) c.args.session.now no_version c.in-Err.stop c.in-Err.ensures.stops

pub returns-clause-damage : goal.returns-clause-damage
returns-clause-damage g c = λ honest. later_damage c.args.session.now c.catalog.new.self c.catalog.ensures.frames (g.H.World.outside c.make.new.host) no_version c.in-Err-make.stop
    (c.in-Err-make.ensures.damage (honest_on c.catalog.ensures.frames.reads.nothing.only.goes honest))

pub make-requires-clause-unbound : goal.make-requires-clause-unbound
make-requires-clause-unbound g c = unbound_then (option_map (λ name. name.now) c.args.bind) c.catalog.ensures.frames (sym c.is_taken.ensures ∙ c.if-is_taken.false)

pub view_of-requires : goal.view_of-requires
view_of-requires g c = subst (λ (b : List ℕ). CatalogOf b (catalog_on b)) (sym c.deref.ensures.value) c.in-Ok.ensures.catalog

pub make-requires-clause-room : goal.make-requires-clause-room
make-requires-clause-room g c = has_room c.catalog.ensures.frames c.requires.room

pub make-requires-clause-is_open : goal.make-requires-clause-is_open
make-requires-clause-is_open g c = is_open_still c.catalog.ensures.frames (sym c.is_open.ensures.value ∙ c.if-not-is_open.false)
