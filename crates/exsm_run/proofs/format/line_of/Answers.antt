use Rattle.std.proofs.Common.{rules}
use Rattle.exsm_run.specs.Format.{format_line}
use Rattle.exsm_run.proofs.format.line_of.Goals as goal

pub returns : goal.returns
unfolding format_line
returns c = search rules
