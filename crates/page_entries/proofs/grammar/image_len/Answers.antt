use Rattle.std.proofs.Common.{arith}
use Rattle.page_entries.proofs.Changes.{says_image}
use Rattle.page_entries.proofs.grammar.image_len.Goals as goal

pub returns : goal.returns
returns c = says_image c.args.size c.args.bytes.now (omega arith)
