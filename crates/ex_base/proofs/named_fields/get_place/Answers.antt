use Rattle.std.proofs.Common.{◌+◌, ◌<◌, arith}
use Rattle.ex_base.proofs.Places.{no_place_in, some_place_in}
use Rattle.ex_base.proofs.named_fields.get_place.Goals as goal
use Rattle.ex_base.proofs.named_fields.get_place.Goals.{else-page-eq0-via-then-page-eq0+else-slot-eq0, else-page-eq0-via-else-page-eq0}

pub returns-then-slot-eq0 : goal.returns-then-slot-eq0
returns-then-slot-eq0 c = no_place_in c.args.bytes.now c.args.at c.get_u32-page.result c.get_u16-slot.result c.get_u32-page.ensures c.get_u16-slot.ensures (omega arith) (omega arith)

pub returns-else-page-eq0 : goal.returns-else-page-eq0
returns-else-page-eq0 c =
    let some : 0 < c.get_u32-page.result + c.get_u16-slot.result = elim c.else-page-eq0.branch [ else-page-eq0-via-then-page-eq0+else-slot-eq0 w ↦ omega arith | else-page-eq0-via-else-page-eq0 w ↦ omega arith ] in
    some_place_in c.args.bytes.now c.args.at c.get_u32-page.result c.get_u16-slot.result c.get_u32-page.ensures c.get_u16-slot.ensures some
