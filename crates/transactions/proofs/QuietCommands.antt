-- The commands that write neither in the log nor home.
use Rattle.std.proofs.Common.{◌≡◌, refl}
use Rattle.table_model.specs.declared.command.Command.{Command}
use Rattle.table_model.specs.declared.command.Command.TheVariants as command
use Rattle.table_model.specs.Requests.{request_of}
use Rattle.session_core.specs.Steps.{IsQuiet}

-- all but two
pub quiet_but : (given : Command) → (given ≡ command.Commit → ⊥) → (given ≡ command.Checkpoint → ⊥) → IsQuiet (request_of given)
quiet_but command.Begin commit checkpoint = refl
quiet_but command.Commit commit checkpoint = absurd (commit refl)
quiet_but command.Abort commit checkpoint = refl
quiet_but command.Checkpoint commit checkpoint = absurd (checkpoint refl)
quiet_but command.Log commit checkpoint = refl
quiet_but command.Files commit checkpoint = refl
quiet_but command.Space commit checkpoint = refl
quiet_but (command.File x) commit checkpoint = refl
quiet_but (command.Unfile x) commit checkpoint = refl
quiet_but (command.List x) commit checkpoint = refl
quiet_but (command.Create x y) commit checkpoint = refl
quiet_but (command.Destroy x) commit checkpoint = refl
quiet_but (command.Size x) commit checkpoint = refl
quiet_but (command.Stat x) commit checkpoint = refl
quiet_but (command.Digest x) commit checkpoint = refl
quiet_but (command.Versions x) commit checkpoint = refl
quiet_but (command.DropVersion x) commit checkpoint = refl
quiet_but (command.Read x y z) commit checkpoint = refl
quiet_but (command.Insert x y z) commit checkpoint = refl
quiet_but (command.Append x y) commit checkpoint = refl
quiet_but (command.Replace x y z) commit checkpoint = refl
quiet_but (command.Delete x y z) commit checkpoint = refl
quiet_but (command.Freeze x y) commit checkpoint = refl
quiet_but (command.Derive x y) commit checkpoint = refl
quiet_but (command.Group x y z) commit checkpoint = refl
quiet_but (command.Scan x y z) commit checkpoint = refl
quiet_but (command.Next x y) commit checkpoint = refl
quiet_but (command.Close x) commit checkpoint = refl
