use Rattle.std.proofs.Common.{◌≡◌, ◌∙◌, List, ap, subst}
use Rattle.lent_host.specs.declared.host.Asked.{Asked}
use Rattle.exsm_c.specs.Codes.{code_at}
use Rattle.exsm_c.specs.Told.{TellsAt}
use Rattle.exsm_c.specs.declared.open.Open.{Open}
use Rattle.exsm_c.proofs.Answering.{each_open}
use Rattle.exsm_c.proofs.exports.asked.exsm_core_call.Goals as goal

pub returns-clause-code : goal.returns-clause-code
returns-clause-code c =
    each_open (λ (x : Open). c.tell_call-code.result ≡ code_at x.volume.asked.items c.args.i) c.args.handle.now.value c.take-open.result.value c.take-open.ensures.was
    (subst (λ (l : List Asked). c.tell_call-code.result ≡ code_at l c.args.i) (c.deref-2.ensures.value ∙ ap (λ (x : Open). x.volume.asked.items) c.deref.ensures) c.tell_call-code.ensures.code)

pub returns-clause-told : goal.returns-clause-told
returns-clause-told c done =
    each_open (λ (x : Open). TellsAt x.volume.asked.items c.args.i c.tell_call-code.new.call c.tell_call-code.new.out) c.args.handle.now.value c.take-open.result.value c.take-open.ensures.was
    (subst (λ (l : List Asked). TellsAt l c.args.i c.tell_call-code.new.call c.tell_call-code.new.out) (c.deref-2.ensures.value ∙ ap (λ (x : Open). x.volume.asked.items) c.deref.ensures)
    (c.tell_call-code.ensures.told done))
