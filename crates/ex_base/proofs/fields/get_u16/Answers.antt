use Rattle.std.proofs.Common.{◌∙◌, ap}
use Rattle.byteorder.specs.Endian.{big_number}
use Rattle.ex_base.specs.Bytes.{part, range_is_part}
use Rattle.ex_base.specs.Fields.{number_at}
use Rattle.ex_base.proofs.fields.get_u16.Goals as goal

pub returns : goal.returns
unfolding number_at part
returns c = c.read_u16.ensures ∙ ap (big_number 2) (range_is_part c.args.bytes.now c.args.at 2)
