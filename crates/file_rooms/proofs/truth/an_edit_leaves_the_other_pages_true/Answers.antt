use Rattle.file_rooms.specs.Truth.{at_page}
use Rattle.file_rooms.proofs.StaysTrue.{edited_true}
use Rattle.file_rooms.proofs.truth.an_edit_leaves_the_other_pages_true.Goals as goal

pub returns : goal.returns
returns g c = λ old new page. edited_true g.P.Ground old new (at_page page)
