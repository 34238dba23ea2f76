use Rattle.file_index.proofs.adding.+add_among.Given as goal

abbrev pub decreases-add_among : goal.decreases-add_among
decreases-add_among g l = l.level
