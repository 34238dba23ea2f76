use Rattle.std.proofs.Common.{◌≡◌, ◌-◌, ℕ, List, [], length, drop, take, refl, sym, ap, subst, ◌∙◌, arith, ◌≤◌, Err}
use Rattle.std.proofs.lemmas.List.{length-drop, take_all}
use Rattle.ex_base.specs.declared.geometry.Geometry.{Geometry}
use Rattle.history_fronts.specs.Fronts.{ALeaf}
use Rattle.history_items.specs.Heads.{stream_head}
use Rattle.history_model.specs.Items.{IsLeafItem}
use Rattle.history_model.specs.Stream.{StreamHead}
use Rattle.history_reads.specs.Reads.{HasItem}
use Rattle.history_writes.specs.Pieces.{LeafWritten}
use Rattle.history_load.specs.Loading.{HasFileIf, RefusesItem}
use Rattle.history_load.proofs.Pieces.{leaf_is, piece_takes, read_as, room_for}
use Rattle.ex_base.proofs.Results.{if_err_handed}
use Rattle.ex_base.specs.Sizes.{volume_bytes}
use Rattle.disk_model.specs.Changes.{ChangesWithin, changes_refl}
use Rattle.history_writes.specs.Places.{IsBehindCatalog}
use Rattle.history_load.specs.Faults.{LoadCause, WhereBad, fault_of_read}
use Rattle.history_load.specs.declared.faults.LoadFault.TheVariants.{Disk}
use Rattle.ex_base.proofs.Handed.{not_given}
use Rattle.history_load.proofs.Causes.{read_bad, read_cause}
use Rattle.history_load.proofs.loader.Loader.take_leaf.Goals as goal

slice_behind : (s held : List ℕ) → s ≡ held → take (length s - 4) (drop 4 s) ≡ drop 4 held
slice_behind s held e = take_all (length s - 4) (drop 4 s) (omega (arith, length-drop 4 s)) ∙ ap (λ (b : List ℕ). drop 4 b) e

pub write_leaf-requires-clause-some : goal.write_leaf-requires-clause-some
write_leaf-requires-clause-some g c =
    let was = c.requires.is in
    let has = subst (λ (held : List ℕ). HasItem c.args.self.now.progress.geometry was.joined c.args.self.now.progress held) (sym c.as_slice.ensures) was.item in
    let is = leaf_is c.args.self.now.progress.geometry was.joined c.args.self.now.progress c.accept.new.self c.args.self.now.gathered.held was.item (c.in_ok-accept.ensures.read c.args.self.now.progress.geometry was.joined has) c.requires.turn in
    omega (arith, is.number)

pub write_leaf-requires-clause-there : goal.write_leaf-requires-clause-there
write_leaf-requires-clause-there g c =
    let was = c.requires.is in
    let has = subst (λ (held : List ℕ). HasItem c.args.self.now.progress.geometry was.joined c.args.self.now.progress held) (sym c.as_slice.ensures) was.item in
    let is = leaf_is c.args.self.now.progress.geometry was.joined c.args.self.now.progress c.accept.new.self c.args.self.now.gathered.held was.item (c.in_ok-accept.ensures.read c.args.self.now.progress.geometry was.joined has) c.requires.turn in
    let room = room_for (c.args.self.now.progress.geometry.pages - 1) c.args.self.now.progress.geometry.segs (stream_head c.args.self.now.progress.head) was.of.room in
    let head = ap (λ (h : StreamHead). h.leaves) was.item.keeps.head in
    let segs = ap (λ (k : Geometry). k.segs) c.accept.ensures.stream.0 in
    omega (arith, is.number, is.more, room.1, head, segs)

pub write_leaf-requires-clause-leaf : goal.write_leaf-requires-clause-leaf
write_leaf-requires-clause-leaf g c =
    let was = c.requires.is in
    let has = subst (λ (held : List ℕ). HasItem c.args.self.now.progress.geometry was.joined c.args.self.now.progress held) (sym c.as_slice.ensures) was.item in
    let is = leaf_is c.args.self.now.progress.geometry was.joined c.args.self.now.progress c.accept.new.self c.args.self.now.gathered.held was.item (c.in_ok-accept.ensures.read c.args.self.now.progress.geometry was.joined has) c.requires.turn in
    let bytes = slice_behind c.as_slice-2.result.now c.args.self.now.gathered.held c.as_slice-2.ensures in
    subst (λ (k : Geometry). IsLeafItem k (take (length c.as_slice-2.result.now - 4) (drop 4 c.as_slice-2.result.now))) (sym c.accept.ensures.stream.0)
    (subst (λ (b : List ℕ). IsLeafItem c.args.self.now.progress.geometry b) (sym bytes) is.is)

pub returns-clause-took : goal.returns-clause-took
returns-clause-took g c =
    let was = c.requires.is in
    let reads = λ (h : Geometry) (joined : List ℕ) (has : HasItem h joined c.args.self.now.progress c.args.self.now.gathered.held).
    c.in_ok-accept.ensures.read h joined (subst (λ (bytes : List ℕ). HasItem h joined c.args.self.now.progress bytes) (sym c.as_slice.ensures) has) in
    let is = leaf_is c.args.self.now.progress.geometry was.joined c.args.self.now.progress c.accept.new.self c.args.self.now.gathered.held was.item (reads c.args.self.now.progress.geometry was.joined was.item) c.requires.turn in
    let bytes = slice_behind c.as_slice-2.result.now c.args.self.now.gathered.held c.as_slice-2.ensures in
    let written = subst (λ (k : Geometry). LeafWritten k (g.D.World.outside c.args.disk.now) (g.D.World.outside c.write_leaf.new.disk) c.accept.new.self.leaves (drop 4 c.args.self.now.gathered.held)) c.accept.ensures.stream.0
    (subst (λ (leaf : List ℕ). LeafWritten c.accept.new.self.geometry (g.D.World.outside c.args.disk.now) (g.D.World.outside c.write_leaf.new.disk) c.accept.new.self.leaves leaf) bytes c.in_ok-write_leaf.ensures.written) in
    piece_takes c.args.self.now.progress.geometry (g.D.World.outside c.args.disk.now) (g.D.World.outside c.write_leaf.new.disk) c.args.self.now _ (ALeaf (drop 4 c.args.self.now.gathered.held)) c.requires.is (record {
      reads = λ h joined has. read_as h joined [] c.accept.new.self _ (record { geometry = refl; head = refl; leaves = refl; nodes = refl; files = refl; missing = refl; lengths = refl; name = refl; needs = refl; numbers = refl }) (reads h joined has);
      is = λ joined has read. (leaf_is c.args.self.now.progress.geometry joined c.args.self.now.progress _ c.args.self.now.gathered.held has read c.requires.turn).piece;
      written = λ joined image has holds pieces. written has.front (leaf_is c.args.self.now.progress.geometry joined c.args.self.now.progress c.accept.new.self c.args.self.now.gathered.held has (reads c.args.self.now.progress.geometry joined has) c.requires.turn).number image holds pieces;
      held = c.clear.ensures.held;
      room = c.clear.ensures.room;
      catalog = refl;
      next = refl;
      count = refl;
      ready = subst (λ (n : ℕ). HasFileIf c.args.self.now.progress.geometry c.args.self.now n) is.piece.missing_was was.of.file;
      stream = c.accept.ensures.stream;
    })

-- ---- what else is promised

pub returns-in_err-accept-clause-took : goal.returns-in_err-accept-clause-took
returns-in_err-accept-clause-took g c = not_given c.from_residual.result _ (fault_of_read c.in_err-accept.field-0.0) c.from_residual.ensures.1

pub returns-in_err-accept-clause-refused : goal.returns-in_err-accept-clause-refused
returns-in_err-accept-clause-refused g c = read_bad c.from_residual.result c.in_err-accept.field-0.0 (RefusesItem c.args.self.now.progress.geometry (g.D.World.outside c.args.disk.now) c.args.self.now) c.from_residual.ensures.1
    (λ refused image joined honest holds before.
    c.accept.ensures.refused (c.in_err-accept.was ∙ ap Err refused) c.args.self.now.progress.geometry joined (subst (λ (held : List ℕ). HasItem c.args.self.now.progress.geometry joined c.args.self.now.progress held) (sym c.as_slice.ensures) before.item))

pub returns-in_err-accept-clause-stream : goal.returns-in_err-accept-clause-stream
returns-in_err-accept-clause-stream g c = c.accept.ensures.stream

pub returns-in_err-accept-clause-changes : goal.returns-in_err-accept-clause-changes
returns-in_err-accept-clause-changes g c = changes_refl (IsBehindCatalog c.args.self.now.progress.geometry) (g.D.World.outside c.args.disk.now)

pub returns-in_err-accept-clause-cause : goal.returns-in_err-accept-clause-cause
returns-in_err-accept-clause-cause g c = if_err_handed c.from_residual.result (LoadCause (g.D.World.outside c.args.disk.now) (g.D.World.outside c.args.disk.now)) (fault_of_read c.in_err-accept.field-0.0) c.from_residual.ensures.1 (read_cause (g.D.World.outside c.args.disk.now) (g.D.World.outside c.args.disk.now) c.in_err-accept.field-0.0)

pub write_leaf-requires-clause-room : goal.write_leaf-requires-clause-room
write_leaf-requires-clause-room g c = subst (λ (k : Geometry). volume_bytes k ≤ (g.D.World.outside c.args.disk.now).size) (sym c.accept.ensures.stream.0) c.requires.room

pub returns-in_err-write_leaf-clause-took : goal.returns-in_err-write_leaf-clause-took
returns-in_err-write_leaf-clause-took g c = not_given c.from_residual-in_err-write_leaf.result _ Disk c.from_residual-in_err-write_leaf.ensures.1

pub returns-in_err-write_leaf-clause-refused : goal.returns-in_err-write_leaf-clause-refused
returns-in_err-write_leaf-clause-refused g c = if_err_handed c.from_residual-in_err-write_leaf.result (WhereBad (RefusesItem c.args.self.now.progress.geometry (g.D.World.outside c.args.disk.now) c.args.self.now)) Disk c.from_residual-in_err-write_leaf.ensures.1 tt

pub returns-in_err-write_leaf-clause-stream : goal.returns-in_err-write_leaf-clause-stream
returns-in_err-write_leaf-clause-stream g c = c.accept.ensures.stream

pub returns-in_err-write_leaf-clause-changes : goal.returns-in_err-write_leaf-clause-changes
returns-in_err-write_leaf-clause-changes g c = subst (λ (k : Geometry). ChangesWithin (IsBehindCatalog k) (g.D.World.outside c.args.disk.now) (g.D.World.outside c.write_leaf.new.disk)) c.accept.ensures.stream.0 c.write_leaf.ensures.changes

pub returns-in_err-write_leaf-clause-cause : goal.returns-in_err-write_leaf-clause-cause
returns-in_err-write_leaf-clause-cause g c = if_err_handed c.from_residual-in_err-write_leaf.result (LoadCause (g.D.World.outside c.args.disk.now) (g.D.World.outside c.write_leaf.new.disk)) Disk c.from_residual-in_err-write_leaf.ensures.1 c.in_err-write_leaf.ensures.cause

pub returns-clause-refused : goal.returns-clause-refused
returns-clause-refused g c = tt

pub returns-clause-stream : goal.returns-clause-stream
returns-clause-stream g c = c.accept.ensures.stream

pub returns-clause-changes : goal.returns-clause-changes
returns-clause-changes g c = subst (λ (k : Geometry). ChangesWithin (IsBehindCatalog k) (g.D.World.outside c.args.disk.now) (g.D.World.outside c.write_leaf.new.disk)) c.accept.ensures.stream.0 c.write_leaf.ensures.changes

pub returns-clause-cause : goal.returns-clause-cause
returns-clause-cause g c = tt
