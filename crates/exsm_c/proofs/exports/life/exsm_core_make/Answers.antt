use Rattle.exsm_c.proofs.Opening.{lent_first}
use Rattle.exsm_c.proofs.exports.life.exsm_core_make.Goals as goal

pub make-requires-2 : goal.make-requires-2
make-requires-2 c = lent_first c.of-file.result.bytes _ c.args.image.now c.of-file.ensures c.new-asked.ensures.items

pub returns-clause-opened : goal.returns-clause-opened
returns-clause-opened c done = let opened = c.open_behind.ensures.opened done in (opened.0, opened.2)
