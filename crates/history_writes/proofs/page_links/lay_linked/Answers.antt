use Rattle.std.proofs.Common.{◌≤◌, length, take, refl, sym, ap, ◌∙◌, arith}
use Rattle.std.proofs.lemmas.List.{length-take-le}
use Rattle.object_records.specs.Record.{Record, record_bytes}
use Rattle.object_records.specs.Reads.{record_on}
use Rattle.object_records.proofs.RecordLaws.{record_read}
use Rattle.history_writes.proofs.Laying.{body_laid, page_is}
use Rattle.history_writes.specs.Linked.{record_linked}
use Rattle.history_writes.proofs.Linking.{body_long}
use Rattle.history_writes.proofs.page_links.lay_linked.Goals as goal

pub insert_body-requires-clause-some : goal.insert_body-requires-clause-some
insert_body-requires-clause-some c =
    let short : c.in-Some.len ≤ length c.write_linked.new.out = omega (arith, c.in-Some.ensures.len, c.write_linked.auto.out, c.requires.room) in
    omega (arith, c.in-Some.ensures.len, length-take-le c.in-Some.len c.write_linked.new.out short, body_long c.args.body.now (record_on c.args.body.now) _ c.in-Some.ensures.is refl)

pub returns-in-Some-insert_body-clause-laid : goal.returns-in-Some-insert_body-clause-laid
returns-in-Some-insert_body-clause-laid c = λ t file_no records r at is.
    body_laid c.args.into.now c.insert_body.new.image (take c.in-Some.len c.write_linked.new.out) file_no c.in-Some-insert_body.field-0 records (record_linked c.args.links.now r) at
    (c.in-Some.ensures.linked.spelled ∙ ap (λ (x : Record). record_bytes (record_linked c.args.links.now x)) (record_read c.args.body.now r is)) (sym c.in-Some-insert_body.is ∙ c.insert_body.ensures.place) c.in-Some-insert_body.ensures.placed

pub returns-in-Some-insert_body-clause-page : goal.returns-in-Some-insert_body-clause-page
returns-in-Some-insert_body-clause-page c = page_is c.insert_body.new.image _ c.in-Some-insert_body.ensures.placed
