use Rattle.std.proofs.Common.{arith}
use Rattle.ex_base.proofs.Places.{no_page_in, some_page_in}
use Rattle.ex_base.proofs.named_fields.get_page.Goals as goal

pub returns-then-number-eq0 : goal.returns-then-number-eq0
returns-then-number-eq0 c = no_page_in c.args.bytes.now c.args.at c.get_u32-number.result c.get_u32-number.ensures (omega arith)

pub returns-else-number-eq0 : goal.returns-else-number-eq0
returns-else-number-eq0 c = some_page_in c.args.bytes.now c.args.at c.get_u32-number.result c.get_u32-number.ensures c.if-number-eq0.false
