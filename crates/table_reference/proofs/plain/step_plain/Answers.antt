use Rattle.std.specs.Prelude.{Result, Ok, Err, IfOk, IsTrue}
use Rattle.std.specs.declared.alloc.AllocError.{AllocError}
use Rattle.table_model.specs.declared.machine.Machine.{Machine}
use Rattle.table_model.specs.declared.machine.Pick.{Pick}
use Rattle.table_model.specs.declared.reply.Reply.{Reply}
use Rattle.table_model.specs.Requests.{Request, is_request, request_of}
use Rattle.table_model.specs.Machines.{IsMachine}
use Rattle.table_model.specs.Steps.{Step}
use Rattle.table_model.proofs.StepsKeep.{steps_keep}
use Rattle.table_reference.proofs.plain.step_plain.Goals as goal

-- where there is a step, the law of steps gives the rules after it
rules_after : (m : Machine) (r : Request) (q : Pick) (after : Machine) (o : Result Reply AllocError) → IsMachine m → IsTrue (is_request r) → IfOk o (λ told. Step m r q told after) → IfOk o (λ _. IsMachine after)
rules_after m r q after (Ok told) is form step = steps_keep m r q told after is form step
rules_after m r q after (Err e) is form step = tt

pub returns-clause-rules : goal.returns-clause-rules
returns-clause-rules c =
    rules_after c.args.machine.now (request_of c.args.command.now) c.args.pick.now c.step_of.new.machine c.step_of.result c.requires.machine c.requires.form c.step_of.ensures.step
