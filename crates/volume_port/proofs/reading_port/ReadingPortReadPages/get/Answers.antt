use Rattle.volume_port.specs.Reading.{reads_ready}
use Rattle.volume_port.proofs.reading_port.ReadingPortReadPages.get.Goals as goal

pub shown-requires-clause-ready : goal.shown-requires-clause-ready
shown-requires-clause-ready g c =
    let s = c.args.self.now in
    let t = c.reach.new.self in
    reads_ready g.D.World.outside s.disk t.disk s.groups t.groups s.room t.room s.index t.index s.geometry t.geometry s.meta.now t.meta.now s.pages.now t.pages.now c.reach.ensures.kept.leads c.requires.ready
