use Rattle.std.proofs.Common.{◌+◌, length, refl}
use Rattle.op_log.proofs.Writing.{puts_written, puts_as}
use Rattle.op_log.proofs.encode.put_run.Goals as goal

pub returns-clause-puts : goal.returns-clause-puts
returns-clause-puts c = puts_as c.put_bytes.new.bytes (c.args.at + length c.args.bytes.now) (puts_written c.args.bytes.now c.args.out.now c.args.at c.requires) c.put_bytes.ensures refl
