use Rattle.std.proofs.Common.{sym, ◌∙◌}
use Rattle.data_words.proofs.HexParts.{and_left}
use Rattle.transactions.proofs.DataCounts.{hex_counted}
use Rattle.transactions.proofs.asked.data_count.Goals as goal

pub returns-then-is_text : goal.returns-then-is_text
returns-then-is_text c = hex_counted c.args.word.now c.in-Some.key.now c.in-Some.rest.now (c.in-Some.ensures {u = tt}) (and_left _ _ c.requires) (sym c.is_text.ensures ∙ c.if-is_text.true)
