use Rattle.std.proofs.Common.{◌≡◌, subst}
use Rattle.exsm_c.specs.Whys.{why_told}
use Rattle.exsm_c.specs.declared.open.Open.{Open}
use Rattle.exsm_c.proofs.Answering.{each_open}
use Rattle.exsm_c.proofs.exports.life.exsm_core_why.Goals as goal

pub returns-clause-told : goal.returns-clause-told
returns-clause-told c =
    each_open (λ (x : Open). c.of.result ≡ why_told x.why) c.args.handle.now.value c.take-open.result.value c.take-open.ensures.was
    (subst (λ (x : Open). c.of.result ≡ why_told x.why) c.deref.ensures c.of.ensures)
