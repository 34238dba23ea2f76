use Rattle.test_table.proofs.Forms.{read_form}
use Rattle.test_table.proofs.form.read.Goals as goal

pub returns-clause-form : goal.returns-clause-form
returns-clause-form c = read_form c.args.line.now c.parse.result c.parse.ensures.says
