use Rattle.transactions.proofs.LaterSessions.{has_room}
use Rattle.std.proofs.Common.{◌∙◌, ℕ, List, None, Some, ap}
use Rattle.std.specs.Prelude.{option_map}
use Rattle.object_files.specs.Catalog.{FileEntry}
use Rattle.object_files.specs.Reads.{catalog_on}
use Rattle.transactions.specs.Refused.{entry_named}
use Rattle.transactions.proofs.Listing.{list_line, list_refused, list_stopped, list_unread}
use Rattle.session_core.proofs.Damage.{catalog_told, later_damage}
use Rattle.session_core.specs.Damage.{no_version}
use Rattle.versions.specs.Damage.{IsWalkedOut}
use Rattle.session_core.proofs.Ways.{later_way}
use Rattle.transactions.proofs.Ways.{list_way}
use Rattle.transactions.proofs.reads.list.Goals as goal

pub returns-in-Err-clause-line : goal.returns-in-Err-clause-line
returns-in-Err-clause-line g c = list_unread c.args.name.now c.in-Err.stop c.catalog.ensures.frames c.catalog.ensures.session c.in-Err.ensures.stops

pub returns-in-None-clause-line : goal.returns-in-None-clause-line
returns-in-None-clause-line g c =
    list_refused c.args.name.now c.in-Ok.page.items c.catalog.ensures.frames c.catalog.ensures.session (record { catalog = c.in-Ok.ensures.catalog; read = c.in-Ok.ensures.read })
    (c.in-None.ensures ∙ ap (λ (page : List ℕ). option_map (λ (e : FileEntry). e.file_no) (entry_named (catalog_on page) c.args.name.now)) c.deref.ensures.value)

pub returns-in-Ok-objects_of-clause-line : goal.returns-in-Ok-objects_of-clause-line
returns-in-Ok-objects_of-clause-line g c =
    list_line c.args.name.now c.in-Ok.page.items c.in-Some.file_no c.catalog.ensures.frames c.objects_of.ensures.only c.catalog.ensures.session (record { catalog = c.in-Ok.ensures.catalog; read = c.in-Ok.ensures.read })
    (c.in-Some.ensures ∙ ap (λ (page : List ℕ). option_map (λ (e : FileEntry). e.file_no) (entry_named (catalog_on page) c.args.name.now)) c.deref.ensures.value)
    c.of.result (λ before same now e there number. c.of.ensures ∙ c.in-Ok-objects_of.ensures.oids before same now e there number)

pub returns-clause-line : goal.returns-clause-line
returns-clause-line g c =
    list_stopped c.args.name.now c.in-Ok.page.items c.in-Some.file_no c.catalog.ensures.frames c.objects_of.ensures.only c.catalog.ensures.session (record { catalog = c.in-Ok.ensures.catalog; read = c.in-Ok.ensures.read })
    (c.in-Some.ensures ∙ ap (λ (page : List ℕ). option_map (λ (e : FileEntry). e.file_no) (entry_named (catalog_on page) c.args.name.now)) c.deref.ensures.value)
    c.in-Err-objects_of.stop c.in-Err-objects_of.ensures.stops c.in-Err-objects_of.ensures.sound

pub returns-in-Err-clause-damage : goal.returns-in-Err-clause-damage
returns-in-Err-clause-damage g c = catalog_told (g.H.World.outside c.args.host.now) (g.H.World.outside c.catalog.new.disk) c.args.session.now no_version c.in-Err.stop c.in-Err.ensures.stops

pub returns-clause-damage : goal.returns-clause-damage
returns-clause-damage g c = later_damage c.args.session.now c.catalog.new.self c.catalog.ensures.frames (g.H.World.outside c.objects_of.new.disk) no_version c.in-Err-objects_of.stop c.in-Err-objects_of.ensures.damage

pub objects_of-requires : goal.objects_of-requires
objects_of-requires g c = record { room = has_room c.catalog.ensures.frames c.requires.room }

pub returns-in-None-clause-way : goal.returns-in-None-clause-way
returns-in-None-clause-way g c = list_way (g.H.World.outside c.args.host.now) c.args.session.now c.args.name.now c.in-Ok.page.items c.in-Ok.ensures.catalog c.in-Ok.ensures.read None
    (c.in-None.ensures ∙ ap (λ (page : List ℕ). option_map (λ (e : FileEntry). e.file_no) (entry_named (catalog_on page) c.args.name.now)) c.deref.ensures.value) (λ tells. tt) _

pub returns-in-Ok-objects_of-clause-way : goal.returns-in-Ok-objects_of-clause-way
returns-in-Ok-objects_of-clause-way g c = list_way (g.H.World.outside c.args.host.now) c.args.session.now c.args.name.now c.in-Ok.page.items c.in-Ok.ensures.catalog c.in-Ok.ensures.read (Some c.in-Some.file_no)
    (c.in-Some.ensures ∙ ap (λ (page : List ℕ). option_map (λ (e : FileEntry). e.file_no) (entry_named (catalog_on page) c.args.name.now)) c.deref.ensures.value)
    (later_way c.catalog.ensures.frames (λ geometry image units. IsWalkedOut geometry image c.in-Some.file_no) c.in-Ok-objects_of.ensures.way) _
