use Rattle.std.proofs.Common.{refl, ◌≡◌, ◌∙◌}
use Rattle.buffer_groups.specs.Frames.{Frames}
use Rattle.buffer_groups.proofs.GroupLists.{at_index}
use Rattle.volume_port.proofs.LeafPieces.{frame_home}
use Rattle.volume_port.proofs.reading_port.ReadingPort.frame.Goals as goal

pub returns-clause-bytes : goal.returns-clause-bytes
returns-clause-bytes g c =
    let s = c.args.self.now in
    let o = g.D.World.outside s.disk.now in
    frame_home s.geometry o o.disk s.groups.now s.index c.args.page.0 c.get.result.now c.frame.result.now refl c.requires.ready.group c.requires.ready.frames c.get.ensures c.frame.ensures.found

pub returns-clause-len : goal.returns-clause-len
returns-clause-len g c =
    let s = c.args.self.now in
    c.frame.ensures.len ∙ at_index (λ (f : Frames). f.page_size ≡ s.geometry.page_size) s.groups.now s.index c.get.result.now c.get.ensures c.requires.ready.group c.requires.ready.frames
