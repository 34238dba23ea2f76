use Rattle.file_rooms.proofs.EditedFiles.{edit_whole}
use Rattle.file_rooms.proofs.truth.an_edit_of_a_file_leaves_all_files_whole.Goals as goal

pub returns : goal.returns
returns g c = edit_whole g.P.Ground
