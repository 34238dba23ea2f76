use Rattle.std.proofs.Common.{◌≡◌, ◌∙◌, List, ap, length, subst, ℕ}
use Rattle.exsm_c.specs.Codes.{code_of_room}
use Rattle.exsm_c.specs.Told.{BeginsWith}
use Rattle.exsm_c.specs.declared.open.Open.{Open}
use Rattle.exsm_c.proofs.Answering.{each_open}
use Rattle.exsm_c.proofs.exports.life.exsm_core_text.Goals as goal

pub returns-clause-code : goal.returns-clause-code
returns-clause-code c =
    each_open (λ (x : Open). c.tell_text-code.result ≡ code_of_room (length x.volume.text.items) (length c.args.out.now)) c.args.handle.now.value c.take-open.result.value c.take-open.ensures.was
    (subst (λ (l : List ℕ). c.tell_text-code.result ≡ code_of_room (length l) (length c.args.out.now)) (c.deref-2.ensures.value ∙ ap (λ (x : Open). x.volume.text.items) c.deref.ensures)
    c.tell_text-code.ensures.code)

pub returns-clause-told : goal.returns-clause-told
returns-clause-told c done =
    each_open (λ (x : Open). BeginsWith c.tell_text-code.new.out x.volume.text.items) c.args.handle.now.value c.take-open.result.value c.take-open.ensures.was
    (subst (λ (l : List ℕ). BeginsWith c.tell_text-code.new.out l) (c.deref-2.ensures.value ∙ ap (λ (x : Open). x.volume.text.items) c.deref.ensures) (c.tell_text-code.ensures.told done))
