use Rattle.std.proofs.Common.{ap, ◌∙◌}
use Rattle.object_records.specs.Record.{Record}
use Rattle.versions.specs.Versions.{root_of}
use Rattle.versions.proofs.Records.{one_record}
use Rattle.versions.proofs.recorded.root_in.Goals as goal

pub returns-in-Small-clause-root : goal.returns-in-Small-clause-root
returns-in-Small-clause-root c = λ is spelled.
    ap root_of c.in-Small.ensures ∙ ap (λ (r : Record). root_of r.content) (one_record c.args.body.now c.in-Some.view is c.in-Some.ensures.found spelled)

pub returns-in-Large-clause-root : goal.returns-in-Large-clause-root
returns-in-Large-clause-root c = λ is spelled.
    ap root_of c.in-Large.ensures ∙ ap (λ (r : Record). root_of r.content) (one_record c.args.body.now c.in-Some.view is c.in-Some.ensures.found spelled)

pub returns-in-Large-clause-none : goal.returns-in-Large-clause-none
returns-in-Large-clause-none c = λ never. absurd (never c.in-Some.view c.in-Some.ensures.found)
