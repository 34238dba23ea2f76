use Rattle.file_index.proofs.removing.+remove_among.Given as goal

abbrev pub decreases-remove_among : goal.decreases-remove_among
decreases-remove_among g l = l.level
