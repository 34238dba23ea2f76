use Rattle.script_lines.proofs.Skipping.{passed}
use Rattle.script_lines.proofs.window.Window.pass.Goals as goal

pub returns-clause-bytes : goal.returns-clause-bytes
returns-clause-bytes c = passed c.args.self.now.buffer.items c.args.self.now.start c.args.self.now.end c.args.n c.requires.inside
