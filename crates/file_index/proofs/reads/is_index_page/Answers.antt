use Rattle.std.proofs.Common.{arith}
use Rattle.std.proofs.lemmas.Grind.{common_steps}
use Rattle.file_index.proofs.reads.is_index_page.Goals as goal

pub returns-then-keys_rise : goal.returns-then-keys_rise
returns-then-keys_rise c = grind (arith, common_steps)

pub returns-else-keys_rise : goal.returns-else-keys_rise
returns-else-keys_rise c = grind (arith, common_steps)
