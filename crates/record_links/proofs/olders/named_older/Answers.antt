use Rattle.std.proofs.lemmas.Bool.{both_ways}
use Rattle.record_links.proofs.Older.{none_there, may_not, from_found}
use Rattle.record_links.proofs.olders.named_older.Goals as goal

pub returns-in-None-clause-none : goal.returns-in-None-clause-none
returns-in-None-clause-none c = none_there c.args.records.now c.args.linked.now c.args.place c.requires.named c.in-None.ensures.none

pub returns-then-may_be_from-clause-found : goal.returns-then-may_be_from-clause-found
returns-then-may_be_from-clause-found c =
    from_found c.args.records.now c.args.linked.now c.args.place c.in-Some.at _ c.requires.named c.in-Some.ensures.within c.in-Some.ensures.found (c.may_be_from.ensures.may.0 c.if-may_be_from.true) c.may_be_from.ensures.small

pub returns-else-may_be_from-clause-none : goal.returns-else-may_be_from-clause-none
returns-else-may_be_from-clause-none c =
    may_not c.args.records.now c.args.linked.now c.args.place c.in-Some.at _ c.requires.ordered c.requires.named c.in-Some.ensures.within c.in-Some.ensures.found (λ may. both_ways _ c.if-may_be_from.false (c.may_be_from.ensures.may.1 may))
