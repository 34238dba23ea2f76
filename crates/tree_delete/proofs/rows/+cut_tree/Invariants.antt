use Rattle.tree_delete.proofs.rows.+cut_tree.Given as goal

abbrev pub decreases-cut_tree : goal.decreases-cut_tree
decreases-cut_tree g l = l.level
