use Rattle.volume_port.specs.Reading.{reads_ready}
use Rattle.volume_port.proofs.reading_port.ReadingPort.piece_into.Goals as goal

pub frame-requires-clause-ready : goal.frame-requires-clause-ready
frame-requires-clause-ready g c =
    let s = c.args.self.now in
    let t = c.bring.new.self in
    reads_ready g.D.World.outside s.disk t.disk s.groups t.groups s.room t.room s.index t.index s.geometry t.geometry s.meta.now t.meta.now s.pages.now t.pages.now c.bring.ensures.kept.leads c.requires.ready
