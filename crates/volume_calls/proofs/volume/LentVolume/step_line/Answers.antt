use Rattle.std.proofs.Common.{refl}
use Rattle.volume_calls.specs.Lines.{line_of}
use Rattle.volume_calls.proofs.Calling.{TurnsLine, line_called}
use Rattle.volume_calls.proofs.volume.LentVolume.step_line.Goals as goal

pub returns : goal.returns
returns g c =
    let turned = c.turned_line.ensures in
    let turns : TurnsLine c.line_lent.result c.turned_line.result = record { done = turned.done; refused = turned.refused; stopped = turned.stopped; untold = turned.untold; used = turned.used } in
    record {
      called = line_called g.E.Engine.meaning g.E.Engine.fits c.args.self.now
          (record { session = c.line_lent.new.session; file = c.args.self.now.file; asked = c.line_lent.new.asked; text = c.line_lent.new.text; size = c.args.self.now.size })
          c.args.image.now c.line_lent.new.image c.requires refl refl c.line_lent.ensures.lent c.line_lent.ensures.room (line_of c.args.line.now) c.line_lent.result c.turned_line.result
          turns c.line_lent.ensures.steps;
    }
