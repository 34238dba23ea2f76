use Rattle.std.proofs.Common.{ap, ◌∙◌}
use Rattle.object_records.specs.Record.{Record}
use Rattle.file_walk.specs.Objects.{root_found}
use Rattle.file_walk.proofs.Rows.{good_row, standing_is}
use Rattle.file_walk.proofs.records.standing_in.Goals as goal

pub returns-clause-good : goal.returns-clause-good
returns-clause-good c = good_row c.args.place c.args.body.now c.in_ok-record.record c.in_ok-record.ensures.found

pub returns-clause-found : goal.returns-clause-found
returns-clause-found c =
    standing_is c.args.place c.args.body.now c.in_ok-record.record c.head.result c.root_in-root.result c.in_ok-record.ensures.found c.head.ensures (c.root_in-root.ensures ∙ ap root_found c.payload.ensures)
