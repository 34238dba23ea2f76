use Rattle.std.proofs.Common.{None, inl, refl}
use Rattle.command_line.specs.declared.status.Status.TheVariants.{Memory}
use Rattle.exsm_run.proofs.program.obey.Goals as goal

pub returns-in-Err : goal.returns-in-Err
returns-in-Err g c = record { ends = record { ending = record { status = Memory; cause = None }; code_is = c.tell-in-Err.ensures; ran = inl refl } }
