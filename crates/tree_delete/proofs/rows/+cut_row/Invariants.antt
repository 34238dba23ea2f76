use Rattle.tree_delete.proofs.rows.+cut_row.Given as goal

abbrev pub decreases-cut_row : goal.decreases-cut_row
decreases-cut_row g l = l.level
