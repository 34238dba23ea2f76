use Rattle.script_lines.proofs.Feeds.{feed_found}
use Rattle.script_lines.proofs.window.feed_in.Goals as goal

pub returns : goal.returns
returns c = feed_found c.args.bytes.now _ c.memchr.ensures
