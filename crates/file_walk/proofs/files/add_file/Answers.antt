use Rattle.std.proofs.Common.{List, sym, subst}
use Rattle.ex_base.proofs.Options.{at_none, at_some}
use Rattle.record_links.specs.Links.{InPlaceOrder}
use Rattle.file_walk.specs.declared.records.Standing.{Standing}
use Rattle.file_walk.specs.Objects.{links_of}
use Rattle.file_walk.specs.Records.{AreRooted, rows_of}
use Rattle.file_walk.proofs.Labelled.{file_added, file_bad, numbered_rooted}
use Rattle.file_walk.proofs.files.add_file.Goals as goal

pub add_objects-requires : goal.add_objects-requires
add_objects-requires g c =
    subst (λ (rs : List Standing). InPlaceOrder (links_of rs)) (sym c.deref.ensures.value)
    (at_some c.in-Ok-Some.field-0 c.in-Ok-Some.good _ c.in-Ok-Some.field-0-is c.in-Ok-Some.ensures.order c.if-not-good.false c.requires.rising c.new-records.ensures.items)

pub returns-clause-roots : goal.returns-clause-roots
returns-clause-roots g c = λ is rooted.
    numbered_rooted c.args.found.now.items c.add_objects.new.found.items c.deref.result.now (c.in_ok-linked.ensures.numbered is)
    (subst AreRooted (sym c.deref.ensures.value)
    (at_some c.in-Ok-Some.field-0 c.in-Ok-Some.good _ c.in-Ok-Some.field-0-is c.in-Ok-Some.ensures.roots c.if-not-good.false (subst AreRooted (sym c.new-records.ensures.items) tt)))
    rooted

pub returns-clause-good : goal.returns-clause-good
returns-clause-good g c = λ is images told.
    file_added c.new-records.result.items c.read_file.new.records.items c.deref.result.now (rows_of images c.args.file.now) c.new-records.ensures.items c.deref.ensures.value
    (at_some c.in-Ok-Some.field-0 c.in-Ok-Some.good _ c.in-Ok-Some.field-0-is c.in-Ok-Some.ensures.good c.if-not-good.false images told)
    c.args.found.now.items c.add_objects.new.found.items (c.in_ok-linked.ensures.linked is) (c.in_ok-linked.ensures.numbered is)

pub returns-clause-bad : goal.returns-clause-bad
returns-clause-bad g c = λ isnt images told good.
    file_bad c.new-records.result.items c.read_file.new.records.items c.deref.result.now (rows_of images c.args.file.now) c.new-records.ensures.items c.deref.ensures.value
    (at_some c.in-Ok-Some.field-0 c.in-Ok-Some.good _ c.in-Ok-Some.field-0-is c.in-Ok-Some.ensures.good c.if-not-good.false images told)
    (c.in_ok-linked.ensures.bad isnt) good

pub returns-then-not-good-clause-bad : goal.returns-then-not-good-clause-bad
returns-then-not-good-clause-bad g c = λ isnt images told good.
    at_some c.in-Ok-Some.field-0 c.in-Ok-Some.good _ c.in-Ok-Some.field-0-is c.in-Ok-Some.ensures.bad c.if-not-good.true images told good.good
