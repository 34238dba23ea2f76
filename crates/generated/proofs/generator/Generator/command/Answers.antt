use Rattle.generated.specs.Commands.{Basis}
use Rattle.generated.specs.Lines.{basis_of}
use Rattle.generated.proofs.Turns.{line_made, basis_made, turned}
use Rattle.generated.proofs.generator.Generator.command.Goals as goal

pub returns-clause-taken : goal.returns-clause-taken
returns-clause-taken c =
    let basis : Basis = basis_of c.args.self.now in
    let turn = c.of-turn.result in
    let drawn = c.of-turn.ensures in
    turned c.args.self.now.stage c.before-self.result c.args.self.now.index c.args.self.now.count basis _ c.put_command.new.line.items c.requires
    (line_made c.args.self.now.index turn.object turn.byte turn.edit basis c.put_command.new.line.items c.in_ok-put_command.ensures drawn.object drawn.byte drawn.edit)
    (basis_made turn.draws.state turn.object turn.size turn.edit basis drawn.draws drawn.object drawn.edit drawn.size)
    c.before-self.ensures.lines
