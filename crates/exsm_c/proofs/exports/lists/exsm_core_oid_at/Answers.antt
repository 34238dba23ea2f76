use Rattle.std.proofs.Common.{◌≡◌, subst}
use Rattle.exsm_c.specs.Codes.{code_at}
use Rattle.exsm_c.specs.Told.{OidAt}
use Rattle.exsm_c.specs.declared.open.Open.{Open}
use Rattle.exsm_c.proofs.Answering.{each_open}
use Rattle.exsm_c.proofs.exports.lists.exsm_core_oid_at.Goals as goal

pub returns-clause-code : goal.returns-clause-code
returns-clause-code c =
    each_open (λ (x : Open). c.tell_oid-code.result ≡ code_at x.oids c.args.i) c.args.handle.now.value c.take-open.result.value c.take-open.ensures.was
    (subst (λ (x : Open). c.tell_oid-code.result ≡ code_at x.oids c.args.i) c.deref.ensures c.tell_oid-code.ensures.code)

pub returns-clause-told : goal.returns-clause-told
returns-clause-told c done =
    each_open (λ (x : Open). OidAt x.oids c.args.i c.tell_oid-code.new.x) c.args.handle.now.value c.take-open.result.value c.take-open.ensures.was
    (subst (λ (x : Open). OidAt x.oids c.args.i c.tell_oid-code.new.x) c.deref.ensures (c.tell_oid-code.ensures.told done))
