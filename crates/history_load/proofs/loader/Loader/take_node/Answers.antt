use Rattle.std.proofs.Common.{◌≡◌, ◌+◌, ◌*◌, ◌-◌, ℕ, List, [], length, refl, sym, ap, subst, ◌∙◌, arith, ◌≤◌, Err}
use Rattle.std.proofs.lemmas.List.{with_items_is}
use Rattle.ex_base.specs.declared.geometry.Geometry.{Geometry}
use Rattle.trees.specs.Node.{Node}
use Rattle.history_fronts.specs.Fronts.{ANode}
use Rattle.history_items.specs.Heads.{stream_head}
use Rattle.history_items.specs.Reads.{node_read}
use Rattle.history_model.specs.Items.{IsNodeItem}
use Rattle.history_model.specs.Stream.{StreamHead}
use Rattle.history_reads.specs.Reads.{HasItem}
use Rattle.history_writes.specs.Pieces.{NodeWritten}
use Rattle.history_load.specs.AtHand.{IsReady}
use Rattle.history_load.specs.Loading.{HasFileIf, RefusesItem}
use Rattle.history_load.proofs.Pieces.{node_is, node_long, node_wider, piece_takes, read_as, room_for}
use Rattle.ex_base.specs.Fields.{number_at}
use Rattle.ex_base.proofs.Results.{if_err_handed}
use Rattle.ex_base.specs.Sizes.{volume_bytes}
use Rattle.disk_model.specs.Changes.{ChangesWithin, changes_refl}
use Rattle.history_writes.specs.Places.{IsBehindCatalog}
use Rattle.history_load.specs.Faults.{LoadCause, WhereBad, fault_of_read, fault_of_port}
use Rattle.ex_base.proofs.Handed.{not_given}
use Rattle.history_load.proofs.Causes.{where_none, read_bad, read_cause, port_cause, port_no_stream}
use Rattle.history_load.proofs.loader.Loader.take_node.Goals as goal

pub write_node-requires-clause-some : goal.write_node-requires-clause-some
write_node-requires-clause-some g c =
    let was = c.requires.is in
    let has = subst (λ (held : List ℕ). HasItem c.args.self.now.progress.geometry was.joined c.args.self.now.progress held) (sym c.as_slice.ensures) was.item in
    let is = node_is c.args.self.now.progress.geometry was.joined c.args.self.now.progress c.accept.new.self c.args.self.now.gathered.held was.item (c.in_ok-accept.ensures.read c.args.self.now.progress.geometry was.joined has) c.requires.turn in
    omega (arith, is.number)

pub write_node-requires-clause-there : goal.write_node-requires-clause-there
write_node-requires-clause-there g c =
    let was = c.requires.is in
    let has = subst (λ (held : List ℕ). HasItem c.args.self.now.progress.geometry was.joined c.args.self.now.progress held) (sym c.as_slice.ensures) was.item in
    let is = node_is c.args.self.now.progress.geometry was.joined c.args.self.now.progress c.accept.new.self c.args.self.now.gathered.held was.item (c.in_ok-accept.ensures.read c.args.self.now.progress.geometry was.joined has) c.requires.turn in
    let room = room_for (c.args.self.now.progress.geometry.pages - 1) c.args.self.now.progress.geometry.segs (stream_head c.args.self.now.progress.head) was.of.room in
    let head = ap (λ (h : StreamHead). h.nodes) was.item.keeps.head in
    let pages = ap (λ (k : Geometry). k.pages) c.accept.ensures.stream.0 in
    omega (arith, is.number, is.more, room.0, head, pages)

pub write_node-requires-clause-node : goal.write_node-requires-clause-node
write_node-requires-clause-node g c =
    let was = c.requires.is in
    let has = subst (λ (held : List ℕ). HasItem c.args.self.now.progress.geometry was.joined c.args.self.now.progress held) (sym c.as_slice.ensures) was.item in
    let is = node_is c.args.self.now.progress.geometry was.joined c.args.self.now.progress c.accept.new.self c.args.self.now.gathered.held was.item (c.in_ok-accept.ensures.read c.args.self.now.progress.geometry was.joined has) c.requires.turn in
    let room = room_for (c.args.self.now.progress.geometry.pages - 1) c.args.self.now.progress.geometry.segs (stream_head c.args.self.now.progress.head) was.of.room in
    let nodes = ap (λ (h : StreamHead). h.nodes) was.item.keeps.head in
    let leaves = ap (λ (h : StreamHead). h.leaves) was.item.keeps.head in
    let wide = node_wider c.args.self.now.progress.geometry was.item.front.head.leaves (length was.item.front.nodes) c.args.self.now.progress.geometry.segs c.args.self.now.progress.geometry.pages (node_read c.args.self.now.gathered.held)
    (omega (arith, room.1, leaves)) (omega (arith, is.more, room.0, nodes)) is.is in
    let node : node_read c.args.self.now.gathered.held ≡ c.over-node.result = sym (c.over-node.ensures ∙ ap (λ (b : List ℕ). node_read b) c.as_slice-2.ensures) in
    subst (λ (k : Geometry). IsNodeItem k k.segs k.pages c.over-node.result) (sym c.accept.ensures.stream.0)
    (subst (λ (n : Node). IsNodeItem c.args.self.now.progress.geometry c.args.self.now.progress.geometry.segs c.args.self.now.progress.geometry.pages n) node wide)

pub returns-clause-took : goal.returns-clause-took
returns-clause-took g c =
    let was = c.requires.is in
    let reads = λ (h : Geometry) (joined : List ℕ) (has : HasItem h joined c.args.self.now.progress c.args.self.now.gathered.held).
    c.in_ok-accept.ensures.read h joined (subst (λ (bytes : List ℕ). HasItem h joined c.args.self.now.progress bytes) (sym c.as_slice.ensures) has) in
    let is = node_is c.args.self.now.progress.geometry was.joined c.args.self.now.progress c.accept.new.self c.args.self.now.gathered.held was.item (reads c.args.self.now.progress.geometry was.joined was.item) c.requires.turn in
    let node : c.over-node.result ≡ node_read c.args.self.now.gathered.held = c.over-node.ensures ∙ ap (λ (b : List ℕ). node_read b) c.as_slice-2.ensures in
    let written = subst (λ (k : Geometry). NodeWritten k (g.D.World.outside c.args.disk.now) (g.D.World.outside c.write_node.new.disk) c.accept.new.self.nodes (node_read c.args.self.now.gathered.held)) c.accept.ensures.stream.0
    (subst (λ (n : Node). NodeWritten c.accept.new.self.geometry (g.D.World.outside c.args.disk.now) (g.D.World.outside c.write_node.new.disk) c.accept.new.self.nodes n) node c.in_ok-write_node.ensures.written) in
    let ready : IsReady c.args.self.now.progress.geometry c.args.self.now.files = subst (λ (n : ℕ). HasFileIf c.args.self.now.progress.geometry c.args.self.now n) is.piece.missing_was was.of.file in
    let long : length c.write_node.new.page ≡ c.args.self.now.files.desk.page.len = omega (arith, c.write_node.auto.page, c.deref_mut.ensures.len) in
    let page = with_items_is c.args.self.now.files.desk.page c.write_node.new.page long in
    let size : length c.write_node.new.page ≡ c.args.self.now.progress.geometry.page_size = omega (arith, c.write_node.auto.page, ap (λ (b : List ℕ). length b) c.deref_mut.ensures.value, ready.desk.page) in
    piece_takes c.args.self.now.progress.geometry (g.D.World.outside c.args.disk.now) (g.D.World.outside c.write_node.new.disk) c.args.self.now _ (ANode (node_read c.args.self.now.gathered.held)) c.requires.is (record {
      reads = λ h joined has. read_as h joined [] c.accept.new.self _ (record { geometry = refl; head = refl; leaves = refl; nodes = refl; files = refl; missing = refl; lengths = refl; name = refl; needs = refl; numbers = refl }) (reads h joined has);
      is = λ joined has read. (node_is c.args.self.now.progress.geometry joined c.args.self.now.progress _ c.args.self.now.gathered.held has read c.requires.turn).piece;
      written = λ joined image has holds pieces. written has.front (node_is c.args.self.now.progress.geometry joined c.args.self.now.progress c.accept.new.self c.args.self.now.gathered.held has (reads c.args.self.now.progress.geometry joined has) c.requires.turn).number image holds pieces;
      held = c.clear.ensures.held;
      room = c.clear.ensures.room;
      catalog = refl;
      next = refl;
      count = refl;
      ready = record {
        catalog = ready.catalog;
        catalog_size = ready.catalog_size;
        page_size = ready.page_size;
        behind = ready.behind;
        desk = record { read = ready.desk.read; page = ap (λ (b : List ℕ). length b) page ∙ size; body = ready.desk.body };
      };
      stream = c.accept.ensures.stream;
    })

-- ---- what else is promised

pub returns-in_err-accept-clause-took : goal.returns-in_err-accept-clause-took
returns-in_err-accept-clause-took g c = not_given c.from_residual.result _ (fault_of_read c.in_err-accept.field-0.0) c.from_residual.ensures.1

pub returns-in_err-accept-clause-refused : goal.returns-in_err-accept-clause-refused
returns-in_err-accept-clause-refused g c = read_bad c.from_residual.result c.in_err-accept.field-0.0 (RefusesItem c.args.self.now.progress.geometry (g.D.World.outside c.args.disk.now) c.args.self.now) c.from_residual.ensures.1
    (λ refused image joined honest holds before.
    c.accept.ensures.refused (c.in_err-accept.was ∙ ap Err refused) c.args.self.now.progress.geometry joined (subst (λ (held : List ℕ). HasItem c.args.self.now.progress.geometry joined c.args.self.now.progress held) (sym c.as_slice.ensures) before.item))

pub returns-in_err-accept-clause-stream : goal.returns-in_err-accept-clause-stream
returns-in_err-accept-clause-stream g c = c.accept.ensures.stream

pub returns-in_err-accept-clause-changes : goal.returns-in_err-accept-clause-changes
returns-in_err-accept-clause-changes g c = changes_refl (IsBehindCatalog c.args.self.now.progress.geometry) (g.D.World.outside c.args.disk.now)

pub returns-in_err-accept-clause-cause : goal.returns-in_err-accept-clause-cause
returns-in_err-accept-clause-cause g c = if_err_handed c.from_residual.result (LoadCause (g.D.World.outside c.args.disk.now) (g.D.World.outside c.args.disk.now)) (fault_of_read c.in_err-accept.field-0.0) c.from_residual.ensures.1 (read_cause (g.D.World.outside c.args.disk.now) (g.D.World.outside c.args.disk.now) c.in_err-accept.field-0.0)

pub write_node-requires-clause-room : goal.write_node-requires-clause-room
write_node-requires-clause-room g c = subst (λ (k : Geometry). volume_bytes k ≤ (g.D.World.outside c.args.disk.now).size) (sym c.accept.ensures.stream.0) c.requires.room

pub returns-in_err-write_node-clause-took : goal.returns-in_err-write_node-clause-took
returns-in_err-write_node-clause-took g c = not_given c.from_residual-in_err-write_node.result _ (fault_of_port c.in_err-write_node.field-0.0) c.from_residual-in_err-write_node.ensures.1

pub returns-in_err-write_node-clause-refused : goal.returns-in_err-write_node-clause-refused
returns-in_err-write_node-clause-refused g c = if_err_handed c.from_residual-in_err-write_node.result (WhereBad (RefusesItem c.args.self.now.progress.geometry (g.D.World.outside c.args.disk.now) c.args.self.now)) (fault_of_port c.in_err-write_node.field-0.0) c.from_residual-in_err-write_node.ensures.1 (where_none (RefusesItem c.args.self.now.progress.geometry (g.D.World.outside c.args.disk.now) c.args.self.now) (fault_of_port c.in_err-write_node.field-0.0) (port_no_stream c.in_err-write_node.field-0.0 c.in_err-write_node.ensures.no_damage))

pub returns-in_err-write_node-clause-stream : goal.returns-in_err-write_node-clause-stream
returns-in_err-write_node-clause-stream g c = c.accept.ensures.stream

pub returns-in_err-write_node-clause-changes : goal.returns-in_err-write_node-clause-changes
returns-in_err-write_node-clause-changes g c = subst (λ (k : Geometry). ChangesWithin (IsBehindCatalog k) (g.D.World.outside c.args.disk.now) (g.D.World.outside c.write_node.new.disk)) c.accept.ensures.stream.0 c.write_node.ensures.changes

pub returns-in_err-write_node-clause-cause : goal.returns-in_err-write_node-clause-cause
returns-in_err-write_node-clause-cause g c = if_err_handed c.from_residual-in_err-write_node.result (LoadCause (g.D.World.outside c.args.disk.now) (g.D.World.outside c.write_node.new.disk)) (fault_of_port c.in_err-write_node.field-0.0) c.from_residual-in_err-write_node.ensures.1 (port_cause (g.D.World.outside c.args.disk.now) (g.D.World.outside c.write_node.new.disk) c.in_err-write_node.field-0.0 c.in_err-write_node.ensures.cause)

pub returns-clause-refused : goal.returns-clause-refused
returns-clause-refused g c = tt

pub returns-clause-stream : goal.returns-clause-stream
returns-clause-stream g c = c.accept.ensures.stream

pub returns-clause-changes : goal.returns-clause-changes
returns-clause-changes g c = subst (λ (k : Geometry). ChangesWithin (IsBehindCatalog k) (g.D.World.outside c.args.disk.now) (g.D.World.outside c.write_node.new.disk)) c.accept.ensures.stream.0 c.write_node.ensures.changes

pub returns-clause-cause : goal.returns-clause-cause
returns-clause-cause g c = tt

pub write_node-requires-clause-page : goal.write_node-requires-clause-page
write_node-requires-clause-page g c =
    let was = c.requires.is in
    let has = subst (λ (held : List ℕ). HasItem c.args.self.now.progress.geometry was.joined c.args.self.now.progress held) (sym c.as_slice.ensures) was.item in
    let is = node_is c.args.self.now.progress.geometry was.joined c.args.self.now.progress c.accept.new.self c.args.self.now.gathered.held was.item (c.in_ok-accept.ensures.read c.args.self.now.progress.geometry was.joined has) c.requires.turn in
    let ready : IsReady c.args.self.now.progress.geometry c.args.self.now.files = subst (λ (n : ℕ). HasFileIf c.args.self.now.progress.geometry c.args.self.now n) is.piece.missing_was was.of.file in
    omega (arith, ap length c.deref_mut.ensures.value, ready.desk.page, ap (λ (k : Geometry). k.page_size) c.accept.ensures.stream.0)

pub over-node-requires-clause-head : goal.over-node-requires-clause-head
over-node-requires-clause-head g c =
    let was = c.requires.is in
    let long = node_long c.args.self.now.progress.geometry was.joined c.args.self.now.progress c.args.self.now.gathered.held was.item c.requires.turn in
    subst (λ (bytes : List ℕ). 3 ≤ length bytes) (sym c.as_slice-2.ensures) long.0

pub over-node-requires-clause-pairs : goal.over-node-requires-clause-pairs
over-node-requires-clause-pairs g c =
    let was = c.requires.is in
    let long = node_long c.args.self.now.progress.geometry was.joined c.args.self.now.progress c.args.self.now.gathered.held was.item c.requires.turn in
    subst (λ (bytes : List ℕ). 3 + 12 * number_at 2 bytes 1 ≤ length bytes) (sym c.as_slice-2.ensures) (omega (arith, long.1))
