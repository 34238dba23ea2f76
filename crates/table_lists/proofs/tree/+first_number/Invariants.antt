use Rattle.table_lists.proofs.tree.+first_number.Given as goal

abbrev pub decreases-first_number : goal.decreases-first_number
decreases-first_number l = l.steps
