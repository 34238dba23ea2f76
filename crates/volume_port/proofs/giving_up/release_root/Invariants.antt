use Rattle.volume_port.proofs.giving_up.release_root.Given as goal

abbrev pub ghosts-give_up_once : goal.ghosts-give_up_once
ghosts-give_up_once g a = record { name = a.blank.name; parts = a.blank.parts }
