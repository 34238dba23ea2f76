use Rattle.std.proofs.Common.{◌∙◌, length}
use Rattle.ex_base.specs.Bytes.{range_is_part}
use Rattle.lent_host.proofs.host.read_from.Goals as goal

pub returns-clause-bytes : goal.returns-clause-bytes
returns-clause-bytes c = c.copy_from_slice.ensures.after ∙ range_is_part c.args.image.now c.args.at (length c.args.out.now)
