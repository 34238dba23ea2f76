use Rattle.table_model.specs.Requests.{request_of}
use Rattle.table_picks.proofs.Allowed.{allows_after}
use Rattle.table_picks.proofs.picks.is_allowed.Goals as goal

pub returns-clause-allows : goal.returns-clause-allows
returns-clause-allows c = allows_after c.args.machine.now (request_of c.args.command.now) c.args.pick.now c.test_of.result c.test_of.ensures
