use Rattle.std.proofs.Common.{◌≡◌, ◌∙◌, length, subst}
use Rattle.exsm_c.specs.declared.open.Open.{Open}
use Rattle.exsm_c.proofs.Answering.{each_open}
use Rattle.exsm_c.proofs.exports.asked.exsm_core_asked.Goals as goal

pub returns-clause-count : goal.returns-clause-count
returns-clause-count c =
    each_open (λ (x : Open). c.len-count.result ≡ length x.volume.asked.items) c.args.handle.now.value c.take-open.result.value c.take-open.ensures.was
    (subst (λ (x : Open). c.len-count.result ≡ length x.volume.asked.items) c.deref.ensures (c.len-count.ensures ∙ c.deref.result.now.volume.asked.ok.0))
