use Rattle.history_load.proofs.DumpTrees.{all_whole}
use Rattle.history_load.proofs.laws.the_trees_of_a_dump_are_whole.Goals as goal

pub returns : goal.returns
returns c g h t units catalog leaf node w of = all_whole g h t units leaf node w.transcribed of catalog w.contents w.pages w.on
