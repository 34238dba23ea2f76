use Rattle.even_indexes.proofs.Whole.{even_is_whole}
use Rattle.even_indexes.proofs.laws.an_even_index_is_whole.Goals as goal

pub returns : goal.returns
returns c = even_is_whole
