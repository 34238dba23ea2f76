use Rattle.object_files.proofs.MarkLaws.{number_used}
use Rattle.object_files.proofs.marks.lowest_unused.Goals as goal

pub returns-clause-lowest : goal.returns-clause-lowest
returns-clause-lowest c = λ k low high. number_used c.args.page.now c.args.n c.first_unmarked.result k c.marks_of.result c.marks_of.ensures c.first_unmarked.ensures.inside c.first_unmarked.ensures.others low high
