use Rattle.std.proofs.Common.{arith}
use Rattle.ex_base.specs.Even.{least_parts}
use Rattle.file_index.specs.IndexPage.{most_entries}
use Rattle.even_indexes.proofs.Places.{few_parts}
use Rattle.even_indexes.proofs.shares.pages_over.Goals as goal

pub returns-clause-few : goal.returns-clause-few
unfolding least_parts
returns-clause-few c = few_parts (most_entries c.args.size) c.args.entries (omega (arith, c.requires.size))
