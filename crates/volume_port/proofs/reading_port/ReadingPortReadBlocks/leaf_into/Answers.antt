use Rattle.std.proofs.Common.{length, ◌∙◌}
use Rattle.std.proofs.lemmas.Result.{on_ok_weaker}
use Rattle.tree_store.specs.Whole.{leaf_range}
use Rattle.tree_store.proofs.Places.{leaf_part}
use Rattle.volume_port.proofs.LeafPieces.{piece_may, piece_bytes}
use Rattle.volume_port.proofs.reading_port.ReadingPortReadBlocks.leaf_into.Goals as goal

pub piece_into-requires-clause-page : goal.piece_into-requires-clause-page
piece_into-requires-clause-page g c =
    let s = c.args.self.now in
    let n = length c.args.out.now in
    let kept = c.is_kept.ensures.0 c.if-is_kept.true in
    piece_may s.geometry c.args.page.0 c.args.from n c.requires.page c.requires.range kept.1

pub returns-then-is_kept-clause-bytes : goal.returns-then-is_kept-clause-bytes
returns-then-is_kept-clause-bytes g c =
    let s = c.args.self.now in
    let n = length c.args.out.now in
    let kept = c.is_kept.ensures.0 c.if-is_kept.true in
    let same = piece_bytes s.geometry (g.D.World.outside s.disk.now).disk c.args.page.0 c.args.from n c.requires.page c.requires.range kept.1 in
    on_ok_weaker c.piece_into.result (λ read told. read told ∙ same) c.piece_into.ensures.bytes

pub read-requires : goal.read-requires
read-requires g c =
    let s = c.args.self.now in
    leaf_range s.geometry c.args.page.0 c.args.from (length c.args.out.now) (g.D.World.outside s.disk.now).size c.requires.page c.requires.range c.requires.ready.disk

pub returns-clause-bytes : goal.returns-clause-bytes
returns-clause-bytes g c = λ told.
    let s = c.args.self.now in
    leaf_part s.geometry (g.D.World.outside s.disk.now).disk c.args.page.0 c.args.from (length c.args.out.now) c.read.new.out c.requires.page c.requires.range told.0 c.in_ok-read.ensures.bytes
