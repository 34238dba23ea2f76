use Rattle.exsm_c.proofs.Opening.{lent_first}
use Rattle.exsm_c.proofs.exports.life.exsm_core_open.Goals as goal

pub open_behind-requires-clause-lent : goal.open_behind-requires-clause-lent
open_behind-requires-clause-lent c = lent_first c.of-file.result.bytes _ c.args.image.now c.of-file.ensures c.new.ensures.items
