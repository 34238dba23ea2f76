use Rattle.record_links.proofs.Alike.{alike}
use Rattle.record_links.proofs.laws.labels_alike.Goals as goal

pub returns : goal.returns
returns c = alike
