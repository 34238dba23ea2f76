use Rattle.tree_insert.proofs.grow.+grow_row.Given as goal

abbrev pub decreases-grow_row : goal.decreases-grow_row
decreases-grow_row g l = l.level
