use Rattle.volume_model.proofs.FewRoots.{few_roots}
use Rattle.volume_model.proofs.a_volume_has_few_roots.Goals as goal

pub returns : goal.returns
returns c = few_roots
