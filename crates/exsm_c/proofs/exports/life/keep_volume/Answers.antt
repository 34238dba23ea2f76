use Rattle.std.proofs.Common.{ap}
use Rattle.exsm_c.specs.declared.open.Open.{Open}
use Rattle.exsm_c.proofs.exports.life.keep_volume.Goals as goal

pub returns-in-Ok-clause-kept : goal.returns-in-Ok-clause-kept
returns-in-Ok-clause-kept c done = (_, c.give.ensures, ap (λ (x : Open). x.volume) c.in-Ok.ensures.ok)
