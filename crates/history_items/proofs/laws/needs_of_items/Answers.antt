use Rattle.history_items.proofs.FileFronts.{file_needs}
use Rattle.history_items.proofs.LeafItems.{leaf_needs}
use Rattle.history_items.proofs.NodeItems.{node_needs}
use Rattle.history_items.proofs.VersionItems.{version_needs}
use Rattle.history_items.proofs.laws.needs_of_items.Goals as goal

pub returns-clause-leaves : goal.returns-clause-leaves
returns-clause-leaves c = leaf_needs

pub returns-clause-nodes : goal.returns-clause-nodes
returns-clause-nodes c = node_needs

pub returns-clause-files : goal.returns-clause-files
returns-clause-files c = file_needs

pub returns-clause-versions : goal.returns-clause-versions
returns-clause-versions c = version_needs
