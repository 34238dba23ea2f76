use Rattle.ex_base.specs.Bytes.{range_is_part}
use Rattle.memory_ports.proofs.bytes.part_of.Goals as goal

pub returns-clause-value : goal.returns-clause-value
returns-clause-value c = range_is_part c.args.bytes.now c.args.at c.args.len
