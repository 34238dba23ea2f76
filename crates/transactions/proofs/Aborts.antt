-- The one command that gives a transaction up.
use Rattle.std.proofs.Common.{◌≡◌, refl}
use Rattle.table_model.specs.declared.command.Command.{Command}
use Rattle.table_model.specs.declared.command.Command.TheVariants as command
use Rattle.table_model.specs.Requests.{request_of}
use Rattle.table_model.specs.Requests as request

pub is_abort : (given : Command) → request_of given ≡ request.Abort → given ≡ command.Abort
is_abort command.Begin is = absurd (cc (is))
is_abort command.Commit is = absurd (cc (is))
is_abort command.Abort is = refl
is_abort command.Checkpoint is = absurd (cc (is))
is_abort command.Log is = absurd (cc (is))
is_abort command.Files is = absurd (cc (is))
is_abort command.Space is = absurd (cc (is))
is_abort (command.File x) is = absurd (cc (is))
is_abort (command.Unfile x) is = absurd (cc (is))
is_abort (command.List x) is = absurd (cc (is))
is_abort (command.Create x y) is = absurd (cc (is))
is_abort (command.Destroy x) is = absurd (cc (is))
is_abort (command.Size x) is = absurd (cc (is))
is_abort (command.Stat x) is = absurd (cc (is))
is_abort (command.Digest x) is = absurd (cc (is))
is_abort (command.Versions x) is = absurd (cc (is))
is_abort (command.DropVersion x) is = absurd (cc (is))
is_abort (command.Read x y z) is = absurd (cc (is))
is_abort (command.Insert x y z) is = absurd (cc (is))
is_abort (command.Append x y) is = absurd (cc (is))
is_abort (command.Replace x y z) is = absurd (cc (is))
is_abort (command.Delete x y z) is = absurd (cc (is))
is_abort (command.Freeze x y) is = absurd (cc (is))
is_abort (command.Derive x y) is = absurd (cc (is))
is_abort (command.Group x y z) is = absurd (cc (is))
is_abort (command.Scan x y z) is = absurd (cc (is))
is_abort (command.Next x y) is = absurd (cc (is))
is_abort (command.Close x) is = absurd (cc (is))
