use Rattle.history_items.proofs.FileFronts.{front_back}
use Rattle.history_items.proofs.NodeItems.{node_back}
use Rattle.history_items.proofs.VersionItems.{version_back}
use Rattle.history_items.proofs.laws.items_are_read_back.Goals as goal

pub returns-clause-nodes : goal.returns-clause-nodes
returns-clause-nodes c = node_back

pub returns-clause-files : goal.returns-clause-files
returns-clause-files c = front_back

pub returns-clause-versions : goal.returns-clause-versions
returns-clause-versions c = version_back
