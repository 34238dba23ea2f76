use Rattle.std.proofs.Common.{ap, refl}
use Rattle.exsm_c.specs.declared.open.Open.{Open}
use Rattle.exsm_c.proofs.Answering.{told_oids}
use Rattle.exsm_c.proofs.steps.keep_oids.Goals as goal

pub returns-clause-volume : goal.returns-clause-volume
returns-clause-volume c = record {
  before = c.take-open.result.value;
  after = _;
  had = c.take-open.ensures.was;
  has = c.give.ensures;
  volume = ap (λ (x : Open). x.volume) c.deref_mut.ensures.value;
}

pub returns-clause-told : goal.returns-clause-told
returns-clause-told c = told_oids c.args.told c.turn_oids-code.new.oids c.turn_oids-code.new.count _ _ c.give.ensures refl c.turn_oids-code.ensures.told
