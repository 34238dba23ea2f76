use Rattle.std.proofs.Common.{rules}
use Rattle.exsm_c.proofs.Fronts.{begins_with}
use Rattle.exsm_c.proofs.told.put_front.Goals as goal

pub returns-clause-front : goal.returns-clause-front
returns-clause-front c = begins_with c.args.out.now c.put_bytes.new.bytes c.args.bytes.now c.min-count.result (search rules) c.put_bytes.ensures
