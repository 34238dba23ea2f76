use Rattle.std.proofs.Common.{◌≡◌, ◌∙◌, length, subst}
use Rattle.exsm_c.specs.declared.open.Open.{Open}
use Rattle.exsm_c.proofs.Answering.{each_open}
use Rattle.exsm_c.proofs.exports.life.exsm_core_text_len.Goals as goal

pub returns-clause-len : goal.returns-clause-len
returns-clause-len c =
    each_open (λ (x : Open). c.len-len.result ≡ length x.volume.text.items) c.args.handle.now.value c.take-open.result.value c.take-open.ensures.was
    (subst (λ (x : Open). c.len-len.result ≡ length x.volume.text.items) c.deref.ensures (c.len-len.ensures ∙ c.deref.result.now.volume.text.ok.0))
