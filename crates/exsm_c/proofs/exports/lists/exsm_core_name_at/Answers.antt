use Rattle.std.proofs.Common.{◌≡◌, length, subst}
use Rattle.std.specs.Prelude.{slice_get}
use Rattle.exsm_c.specs.Codes.{code_of_name}
use Rattle.exsm_c.specs.Told.{NameAt}
use Rattle.exsm_c.specs.declared.open.Open.{Open}
use Rattle.exsm_c.proofs.Answering.{each_open}
use Rattle.exsm_c.proofs.exports.lists.exsm_core_name_at.Goals as goal

pub returns-clause-code : goal.returns-clause-code
returns-clause-code c =
    each_open (λ (x : Open). c.tell_name_at-code.result ≡ code_of_name (slice_get x.names c.args.i) (length c.args.out.now)) c.args.handle.now.value c.take-open.result.value c.take-open.ensures.was
    (subst (λ (x : Open). c.tell_name_at-code.result ≡ code_of_name (slice_get x.names c.args.i) (length c.args.out.now)) c.deref.ensures c.tell_name_at-code.ensures.code)

pub returns-clause-told : goal.returns-clause-told
returns-clause-told c done =
    each_open (λ (x : Open). NameAt x.names c.args.i c.tell_name_at-code.new.out c.tell_name_at-code.new.len) c.args.handle.now.value c.take-open.result.value c.take-open.ensures.was
    (subst (λ (x : Open). NameAt x.names c.args.i c.tell_name_at-code.new.out c.tell_name_at-code.new.len) c.deref.ensures (c.tell_name_at-code.ensures.told done))
