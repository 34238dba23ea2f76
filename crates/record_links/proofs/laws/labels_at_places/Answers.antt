use Rattle.record_links.proofs.Labelling.{label_here}
use Rattle.record_links.proofs.laws.labels_at_places.Goals as goal

pub returns : goal.returns
returns c = label_here
