use Rattle.std.proofs.Common.{ap}
use Rattle.exsm_c.specs.declared.open.Open.{Open}
use Rattle.exsm_c.proofs.steps.refuse.Goals as goal

pub returns-clause-volume : goal.returns-clause-volume
returns-clause-volume c = record {
  before = c.take-open.result.value;
  after = _;
  had = c.take-open.ensures.was;
  has = c.give.ensures;
  session = ap (λ (x : Open). x.volume.session) c.deref_mut.ensures.value;
  asked = ap (λ (x : Open). x.volume.asked.items) c.deref_mut.ensures.value;
  file = ap (λ (x : Open). x.volume.file.bytes) c.deref_mut.ensures.value;
  size = ap (λ (x : Open). x.volume.size) c.deref_mut.ensures.value;
}
