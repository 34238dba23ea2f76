use Rattle.ex_base.specs.Fields.{put_same}
use Rattle.ex_base.proofs.fields.put_of_what_get_gave.Goals as goal

pub returns-clause-two : goal.returns-clause-two
returns-clause-two c = put_same 2

pub returns-clause-four : goal.returns-clause-four
returns-clause-four c = put_same 4

pub returns-clause-eight : goal.returns-clause-eight
returns-clause-eight c = put_same 8
