use Rattle.history_items.proofs.Stays.{file_stays, leaf_stays, node_stays, version_stays}
use Rattle.history_items.proofs.laws.needs_hold_at_each_step.Goals as goal

pub returns-clause-leaves : goal.returns-clause-leaves
returns-clause-leaves c = leaf_stays

pub returns-clause-nodes : goal.returns-clause-nodes
returns-clause-nodes c = node_stays

pub returns-clause-files : goal.returns-clause-files
returns-clause-files c = file_stays

pub returns-clause-versions : goal.returns-clause-versions
returns-clause-versions c = version_stays
