use Rattle.tree_insert.proofs.overwrite.+replace_run.Given as goal

abbrev pub decreases-replace_run : goal.decreases-replace_run
decreases-replace_run g l = l.level
