use Rattle.file_rooms.proofs.EditedFiles.{edit_before}
use Rattle.file_rooms.proofs.truth.an_edit_of_a_file_leaves_the_other_pages.Goals as goal

pub returns : goal.returns
returns g c = edit_before g.P.Ground
