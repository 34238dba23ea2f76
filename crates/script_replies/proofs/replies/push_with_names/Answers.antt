use Rattle.std.proofs.Common.{length, arith}
use Rattle.std.specs.Prelude.{decimal}
use Rattle.std.proofs.lemmas.Grind.{common_steps}
use Rattle.script_replies.proofs.Spaces.{join_spaced}
use Rattle.script_replies.proofs.replies.push_with_names.Goals as goal

pub returns : goal.returns
returns c = rw (join_spaced (decimal (length c.args.names.now)) c.args.names.now) (grind (arith, common_steps))
